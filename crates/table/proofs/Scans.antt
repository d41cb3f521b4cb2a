-- What `all` and `position` answer of records, said as the table's definitions say it. Assumes nothing.
use Rattle.std.proofs.Common.{◌≡◌, refl, sym, ap, ◌∙◌, Bool, true, false, not, ◌&&◌, List, [], ◌∷◌, ℕ, suc, ◌+◌, length, ltb, cond, Option, Some, None, is_some, if◌then◌else◌, arith}
use Rattle.std.specs.List.{list_all, position_or_len, position}
use Rattle.rules.specs.Record.{Rec}
use Rattle.rules.specs.Table.{all, names, names_not, find_from, find, nothing}
use Rattle.rules.specs.declared.Identity.{Identity}
use Rattle.rules.proofs.Lookup.{nothing_all}

pub all_listed : (p : Rec → Bool) (rs : List Rec) → list_all p rs ≡ all p rs
unfolding all
all_listed p [] = refl
all_listed p (r ∷ rs) = ap (λ b. p r && b) (all_listed p rs)

-- the place that `position` tells, counted from k
abbrev counted : ℕ → ℕ → ℕ → Option ℕ
counted k place n = cond (ltb place n) (Some (k + place)) None

counted_next : (k place n : ℕ) → counted (suc k) place n ≡ counted k (1 + place) (suc n)
counted_next k place n = grind arith

counted_from : (k : ℕ) (who : Identity) (rs : List Rec) → find_from k who rs ≡ counted k (position_or_len (names who) rs) (length rs)
unfolding find_from
counted_from k who [] = refl
counted_from k who (r ∷ rs) = by (names who r) (counted_from (suc k) who rs)
  where
    place : ℕ
    place = position_or_len (names who) rs

    by : (b : Bool) → find_from (suc k) who rs ≡ counted (suc k) place (length rs)
        → (if b then Some k else find_from (suc k) who rs) ≡ counted k (cond (not b) (1 + place) 0) (suc (length rs))
    by true rest = grind arith
    by false rest = rest ∙ counted_next k place (length rs)

pub position_found : (who : Identity) (rs : List Rec) → position (names who) rs ≡ find who rs
position_found who rs = sym (counted_from 0 who rs ∙ grind arith)

some_or_nothing : (o : Option ℕ) → nothing o ≡ not (is_some o)
some_or_nothing (Some k) = refl
some_or_nothing None = refl

pub none_all : (who : Identity) (rs : List Rec) → all (names_not who) rs ≡ not (is_some (find who rs))
none_all who rs = sym (nothing_all 0 who rs) ∙ some_or_nothing (find who rs)
