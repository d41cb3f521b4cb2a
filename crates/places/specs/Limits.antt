-- Limits between which a range lies: so one pass tells whether ranges keep their rules and stay with an offset.
use Rattle.std.specs.Prelude.{Bool, ◌&&◌, ℕ, ◌+◌, ◌*◌, leb}
use Rattle.rules.specs.Bytes.{every, zeros}
use Rattle.rules.specs.Range.{most_ranges, range_bytes, all_attributes, never_fall, ids_of}
use Rattle.rules.specs.Record.{Rec, ranges_place, range_count, range_of}
use Rattle.rules.specs.declared.Range.{Range}

-- pages is at least 1, first + pages is at most top, first is at least low
unfoldable pub inside : ℕ → ℕ → Range → Bool
inside low top range = leb 1 range.pages && leb (range.first + range.pages) top && leb low range.first

unfoldable pub all_inside : ℕ → ℕ → ℕ → (ℕ → Range) → Bool
all_inside low top n ranges = every n (λ k. inside low top (ranges k))

-- the rules of n ranges, with these limits in place of 0 and 2^52
unfoldable pub ranges_keep : ℕ → ℕ → ℕ → (ℕ → Range) → Bool
ranges_keep low top n ranges = all_inside low top n ranges && all_attributes n ranges && never_fall n (ids_of ranges)

-- a record's count, its ranges, and zero in the places past them
unfoldable pub places_keep : ℕ → ℕ → Rec → Bool
places_keep low top r =
    leb (range_count r) most_ranges
    && ranges_keep low top (range_count r) (range_of r)
    && zeros r (ranges_place + range_count r * range_bytes) 199
