-- Document 01, "The table (ours)": a range of pages, in a record or in a report.
use Rattle.std.specs.Prelude.{Bool, not, ◌&&◌, List, [], ◌∷◌, ◌++◌, ℕ, zero, suc, ◌+◌, ◌-◌, ◌*◌, ◌^◌, eqb, leb, ltb, get_or, replicate}
use Rattle.rules.specs.Bytes.{num, bytes_of, bits, every}
use Rattle.rules.specs.declared.Range.{Range}

-- eight ranges of 16 bytes
abbrev pub most_ranges : ℕ
most_ranges = 8

abbrev pub range_bytes : ℕ
range_bytes = 16

-- where the pages end
abbrev pub pages_end : ℕ
pages_end = 2 ^ 52

-- A range is first page (8), pages (4), attributes (2), range ID (2).
abbrev pub range_from : List ℕ → ℕ → Range
range_from s at = record { first = num s at 8; pages = num s (at + 8) 4; attributes = num s (at + 12) 2; id = num s (at + 14) 2 }

-- range k of those that stand from a place on
abbrev pub ranges_from : List ℕ → ℕ → ℕ → Range
ranges_from s base k = range_from s (base + k * range_bytes)

-- its bytes
unfoldable pub bytes_of_range : Range → List ℕ
bytes_of_range range =
    bytes_of 8 range.first ++ bytes_of 4 range.pages ++ bytes_of 2 range.attributes ++ bytes_of 2 range.id

abbrev pub zero_range : Range
zero_range = record { first = 0; pages = 0; attributes = 0; id = 0 }

-- n values, from the first on
unfoldable pub listed : {A : Type 0} → ℕ → (ℕ → A) → List A
listed zero f = []
listed (suc n) f = listed n f ++ (f n ∷ [])

-- eight ranges, of which n count, places past them zero; and one of them
unfoldable pub eight_ranges : ℕ → (ℕ → Range) → List Range
eight_ranges n ranges = listed n ranges ++ replicate (most_ranges - n) zero_range

abbrev pub range_in : List Range → ℕ → Range
range_in ranges k = get_or ranges k zero_range

-- pages is at least 1, first + pages is at most 2^52,
unfoldable pub pages_ok : Range → Bool
pages_ok range = leb 1 range.pages && leb (range.first + range.pages) pages_end

-- attribute bits 15:4 are zero
unfoldable pub attributes_ok : Range → Bool
attributes_ok range = eqb (bits 15 4 range.attributes) 0

-- not an ID of 0 to 7 and then one below it
abbrev pub no_fall : ℕ → ℕ → Bool
no_fall earlier later = not (leb earlier 7 && ltb later earlier)

-- x falls below none of the IDs before the j-th
abbrev pub no_fall_to : (ℕ → ℕ) → ℕ → ℕ → Bool
no_fall_to ids j x = every j (λ k. no_fall (ids k) x)

-- Among ranges with ID 0 to 7 the IDs never fall.
unfoldable pub never_fall : ℕ → (ℕ → ℕ) → Bool
never_fall n ids = every n (λ j. no_fall_to ids j (ids j))

-- ---- the same of n ranges

abbrev pub all_pages : ℕ → (ℕ → Range) → Bool
all_pages n ranges = every n (λ k. pages_ok (ranges k))

abbrev pub all_attributes : ℕ → (ℕ → Range) → Bool
all_attributes n ranges = every n (λ k. attributes_ok (ranges k))

abbrev pub ids_of : (ℕ → Range) → ℕ → ℕ
ids_of ranges k = (ranges k).id
