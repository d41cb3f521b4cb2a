-- A collector: what a reply that is taken tells, and the collector that took it. Assumes nothing.
use Rattle.std.specs.Prelude.{if◌then◌else◌, Err, Ok}
use mathlib.Core.Path.{◌≡◌, refl, sym}
use mathlib.Core.Bool.{Bool, true, false, not, ◌&&◌}
use mathlib.Core.List.{List}
use Prim.Native.Nat.{ℕ, ◌+◌, ◌-◌, ◌≤◌}
use native.Mathlib.Omega.{arith}
use borrow.Author.Tests.{eqb-true, eq-eqb, le-ltb, leb-true, ltb-false, not-false}
use lib.Dec.{eqb, leb, ltb}
use lib.ListN.{length, take, drop, length-drop}
use lib.Seq.{take_all}
use Rattle.rules.specs.Bytes.{byte, over}
use Rattle.rules.specs.Report.{most_report}
use Rattle.rules.specs.Request.{kind_of}
use Rattle.rules.specs.Collector.{Collection, least_report_reply, portion_said, total_said, portion_in, is_report_reply, is_for_it, is_different, portion_verdict, is_taken, grown, collected}
use Rattle.rules.proofs.Bools.{clash, and_left}
use Rattle.rules.specs.declared.PortionRefusal.{PortionRefusal}
use Rattle.rules.specs.declared.PortionRefusal.TheVariants.{NotReport, OtherInterface, OtherLength, TotalDifferent, TotalOver}

-- ---- a report reply

module _ (p : List ℕ) where
  pub report_long : is_report_reply p ≡ true → least_report_reply ≤ length p
  unfolding is_report_reply
  report_long e = leb-true least_report_reply (length p) (and_left (leb least_report_reply (length p)) (eqb (byte p 0) 0x10 && eqb (kind_of p) 0x04) e)

-- ---- a reply that is taken

-- it has passed the five tests
pub is_taken_lem : (c : Collection) (p : List ℕ) → is_report_reply p ≡ true → is_for_it c p ≡ true → length p ≡ least_report_reply + portion_said p
    → is_different c p ≡ false → total_said c p ≤ most_report → Ok tt ≡ portion_verdict c p
unfolding portion_verdict
is_taken_lem c p report its long same fits =
    rw (report, its, eq-eqb (length p) (least_report_reply + portion_said p) long, same, le-ltb most_report (total_said c p) fits)

pub record Takes (c : Collection) (p : List ℕ) : Type 0 where
  pub long : least_report_reply ≤ length p
  pub length_is : length p ≡ least_report_reply + portion_said p
  pub total_same : c.begun ≡ true → total_said c p ≡ c.total
  pub most : total_said c p ≤ most_report

same_total : (b : Bool) (x y : ℕ) → b && not (eqb x y) ≡ false → b ≡ true → x ≡ y
same_total true x y e t = eqb-true x y (not-false (eqb x y) e)
same_total false x y e t = clash (sym t)

module _ (c : Collection) (p : List ℕ) where
  pub takes : is_taken (portion_verdict c p) ≡ true → Takes c p
  unfolding portion_verdict
  takes =
      by (is_report_reply p) refl (is_for_it c p) (eqb (length p) (least_report_reply + portion_said p)) refl
      (is_different c p) refl (ltb most_report (total_said c p)) refl
    where
      by : (a : Bool) → is_report_reply p ≡ a → (b d : Bool) → eqb (length p) (least_report_reply + portion_said p) ≡ d → (f : Bool) → is_different c p ≡ f
          → (g : Bool) → ltb most_report (total_said c p) ≡ g
          → is_taken (if not a then (Err NotReport) else if not b then (Err OtherInterface) else if not d then (Err OtherLength) else if f then (Err TotalDifferent) else if g then (Err TotalOver) else (Ok tt)) ≡ true → Takes c p
      by false x b d y f w g z e = clash (sym e)
      by true x false d y f w g z e = clash (sym e)
      by true x true false y f w g z e = clash (sym e)
      by true x true true y true w g z e = clash (sym e)
      by true x true true y false w true z e = clash (sym e)
      by true x true true y false w false z e = record {
        long = report_long p x;
        length_is = eqb-true (length p) (least_report_reply + portion_said p) y;
        total_same = same_total c.begun (total_said c p) c.total w;
        most = ltb-false most_report (total_said c p) z;
      }

module _ (c : Collection) (p : List ℕ) (yes : is_taken (portion_verdict c p) ≡ true) where
  abbrev taken : Takes c p
  taken = takes c p yes

  -- what is lent to the copy: it is the portion
  lent_is : take (length p - least_report_reply) (drop least_report_reply p) ≡ portion_in p
  lent_is = take_all (length p - least_report_reply) (drop least_report_reply p) (rw length-drop (omega (arith, taken.length_is)))

  -- which fits behind the bytes held
  pub taken_fits : length c.bytes ≡ 200 → c.held + length (take (length p - least_report_reply) (drop least_report_reply p)) ≤ length c.bytes
  taken_fits e = rw (lent_is, length-drop, e) (omega (arith, taken.length_is, taken.most))

  -- the collector that has it
  pub grows : (s : List ℕ) (n x : ℕ) → s ≡ over c.held (take (length p - least_report_reply) (drop least_report_reply p)) c.bytes
      → n ≡ c.held + portion_said p → x ≡ total_said c p
      → ◌≡◌ {A = Collection} (record { id = c.id; bytes = s; held = n; begun = true; total = x }) (collected c p)
  unfolding collected grown
  grows s n x s-is n-is x-is = rw (yes, s-is, lent_is, n-is, x-is)

-- one that is refused
pub left : (c : Collection) (p : List ℕ) (why : PortionRefusal) → portion_verdict c p ≡ Err why → c ≡ collected c p
unfolding collected
left c p NotReport e = rw e
left c p OtherInterface e = rw e
left c p OtherLength e = rw e
left c p TotalDifferent e = rw e
left c p TotalOver e = rw e
