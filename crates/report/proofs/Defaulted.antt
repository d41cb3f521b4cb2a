-- What stands beside a refusal by `unwrap_or_default` is zeros. Assumes nothing.
use Rattle.std.proofs.Common.{◌≡◌, ◌∙◌, sym, List, ℕ, Result, Ok, Err, replicate, slice_index_or}
use Rattle.std.proofs.lemmas.List.{length-replicate, get_or-replicate}
use Rattle.std.proofs.Math.Seq.{ext_get_or}
use Rattle.std.specs.Array.{AllOfLen}
use Rattle.std.specs.Result.{ResultUnwrapsOrElse}
use Rattle.rules.specs.Range.{most_ranges, zero_range}
use Rattle.rules.specs.Record.{most_information}
use Rattle.rules.specs.Report.{zero_fields, fields_or_0}
use Rattle.rules.specs.declared.Range.{Range}
use Rattle.rules.specs.declared.ReportFields.{ReportFields}
use Rattle.rules.specs.declared.ReportRefusal.{ReportRefusal}

all_are : {A : Type 0} (P : A → Type 0) (d : A) (xs : List A) (n : ℕ) → ((x : A) → P x → x ≡ d) → AllOfLen P xs n → xs ≡ replicate n d
all_are P d xs n is all =
    ext_get_or d xs (replicate n d) (all.long ∙ sym (length-replicate n d)) (λ i l.
    is (slice_index_or xs i d) (all.at i d (rw all.long at l)) ∙ sym (get_or-replicate n i d d (rw all.long at l)))

-- as the derived defaults say it, field by field
abbrev ZeroRange : Range → Type 0
ZeroRange x = (x.first ≡ 0) × ((x.pages ≡ 0) × ((x.attributes ≡ 0) × (x.id ≡ 0)))

abbrev Zero : ReportFields → Type 0
Zero f =
    (f.info ≡ 0) × ((f.msix ≡ 0) × ((f.lnr ≡ 0) × ((f.tph ≡ 0) × ((f.n ≡ 0) × (AllOfLen ZeroRange f.ranges most_ranges
    × ((f.l ≡ 0) × AllOfLen (λ (b : ℕ). b ≡ 0) f.information most_information))))))

range_zero : (x : Range) → ZeroRange x → x ≡ zero_range
range_zero x (a, (b, (c, d))) =
    let all : ◌≡◌ {A = Range} (record { first = x.first; pages = x.pages; attributes = x.attributes; id = x.id }) zero_range = rw (a, b, c, d) in
    all

fields_zero : (f : ReportFields) → Zero f → f ≡ zero_fields
fields_zero f (a, (b, (c, (d, (e, (x, (g, y))))))) =
    let ranges : f.ranges ≡ replicate most_ranges zero_range = all_are ZeroRange zero_range f.ranges most_ranges range_zero x in
    let information : f.information ≡ replicate most_information 0 = all_are (λ (z : ℕ). z ≡ 0) 0 f.information most_information (λ z h. h) y in
    let all : ◌≡◌ {A = ReportFields} (record { info = f.info; msix = f.msix; lnr = f.lnr; tph = f.tph; n = f.n; ranges = f.ranges; l = f.l; information = f.information }) zero_fields =
    rw (a, b, c, d, e, ranges, g, information) in
    all

pub unwrapped : (read : Result ReportFields ReportRefusal) (f : ReportFields) → ResultUnwrapsOrElse read Zero f → f ≡ fields_or_0 read
unwrapped (Ok g) f h = h
unwrapped (Err why) f h = fields_zero f h
