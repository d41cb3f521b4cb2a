-- Document 01, "Lock": the flags and the offset, which the table's rules cite too.
use Rattle.std.specs.Prelude.{Bool, true, false, ◌&&◌, ℕ, ◌+◌, ◌-◌, ◌*◌, ◌%◌, ◌^◌, eqb, leb, ltb, Option, Some, None, ℤ, pos, negsuc, nat_abs, ◌+ℤ◌, if◌then◌else◌}
use Rattle.std.specs.Int.Bits.{bit_and}
use Rattle.std.specs.Int.Signed.{quot_z}
use Rattle.rules.specs.Bytes.{bit, bit_clear, every}
use Rattle.rules.specs.Range.{pages_end}
use Rattle.rules.specs.declared.Range.{Range}

-- ---- flags

-- every flag of `want` is in `have`
abbrev pub contains : ℕ → ℕ → Bool
contains have want = eqb (bit_and have want) want

-- Any of 1, 3, 4 set is 01h.
abbrev pub supported : ℕ → Bool
supported flags = bit_clear 1 flags && bit_clear 3 flags && bit_clear 4 flags

-- flag bits 0 and 2 (all others as zero)
abbrev pub stored : ℕ → ℕ
stored flags = bit 0 flags + bit 2 flags * 4

-- ---- the offset

-- The offset is a signed 64-bit number and may be below zero: two's complement. (`negsuc n` is - (n + 1).)
abbrev pub signed : ℕ → ℤ
signed x = if ltb x (2 ^ 63) then pos x else negsuc (2 ^ 64 - 1 - x)

-- a page's bytes
abbrev pub page_bytes : ℕ
page_bytes = 4096

-- It is a multiple of 4096,
abbrev pub whole_pages : ℤ → Bool
whole_pages offset = eqb (nat_abs offset % page_bytes) 0

-- and for every range first + offset/4096 is at least 0 and, with pages added, at most 2^52
abbrev pub fitted : ℤ → ℕ → Option ℕ
fitted (pos page) pages = if leb (page + pages) pages_end then Some page else None
fitted (negsuc below) pages = None

unfoldable pub shifted : ℤ → Range → Option ℕ
shifted offset range = fitted (pos range.first +ℤ quot_z offset (pos page_bytes)) range.pages

-- else 01h
abbrev pub stays : Option ℕ → Bool
stays (Some first) = true
stays None = false

abbrev pub all_stay : ℤ → ℕ → (ℕ → Range) → Bool
all_stay offset n ranges = every n (λ k. stays (shifted offset (ranges k)))
