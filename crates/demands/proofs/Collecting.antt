-- What taking and refusing do, whatever the replies. Assumes nothing.
use Rattle.std.specs.Prelude.{if◌then◌else◌, Err, Ok, Result}
use mathlib.Core.Path.{◌≡◌, refl, sym, ap, ◌∙◌}
use mathlib.Core.Bool.{Bool, true, false, not, ◌&&◌, ◌||◌}
use mathlib.Core.List.{List, [], ◌∷◌, ◌++◌}
use Prim.Native.Nat.{ℕ, ◌+◌, ◌-◌, ◌≤◌}
use native.Mathlib.Nat.{add-zero}
use native.Mathlib.Omega.{arith}
use borrow.Author.Tests.{eqb-true, leb-true, leb-false, le-ltb, lt-ltb}
use lib.Dec.{eqb, leb, ltb}
use lib.ListN.{length, take, drop, length-append, length-drop, length-replicate, drop_of_length-le}
use lib.Seq.{length-take-le, take_at, drop_at, drop-drop}
use Rattle.rules.specs.Bytes.{byte, num, blank, over}
use Rattle.rules.specs.Collector.{Collection, fresh, held_bytes, finished, least_report_reply, total_said, portion_in, is_report_reply, is_for_it, is_different, portion_number, portion_verdict, is_taken, grown, collected}
use Rattle.rules.specs.Report.{most_report}
use Rattle.rules.specs.declared.PortionRefusal.{PortionRefusal}
use Rattle.rules.specs.declared.PortionRefusal.TheVariants.{NotReport, OtherInterface, OtherLength, TotalDifferent, TotalOver}
use Rattle.rules.proofs.Bools.{clash, and_left, and_right}
use Rattle.rules.proofs.Collections.{Takes, takes}
use Rattle.rules.proofs.Listed.{drop_blank}
use Rattle.rules.proofs.Parts.{length_over, over_nothing}
use Rattle.demands.specs.Answers.{line, first_of}
use Rattle.demands.specs.Collecting.{collecting, portion_lines, after_all, Sound, TakesRightly}

-- ---- the names

under : (n m : ℕ) → ltb n m ≡ not (leb m n)
under n m = by (leb m n) refl
  where
    by : (b : Bool) → leb m n ≡ b → ltb n m ≡ not b
    by true e = le-ltb n m (leb-true m n e)
    by false e = lt-ltb n m (leb-false m n e)

first_name : (a x y s d f g : Bool)
    → portion_number (if not (a && (x && y)) then Err NotReport
    else if not s then Err OtherInterface
    else if not d then Err OtherLength
    else if f then Err TotalDifferent
    else if g then Err TotalOver
    else Ok tt)
    ≡ first_of (line 30 (not a || (not x || not y)) ∷ line 31 (not s) ∷ line 32 (not d) ∷ line 33 f ∷ line 34 g ∷ [])
unfolding first_of
first_name false x y s d f g = refl
first_name true false y s d f g = refl
first_name true true false s d f g = refl
first_name true true true false d f g = refl
first_name true true true true false f g = refl
first_name true true true true true true g = refl
first_name true true true true true false true = refl
first_name true true true true true false false = refl

module _ (c : Collection) (p : List ℕ) where
  name_is : portion_number (portion_verdict c p) ≡ first_of (portion_lines c p)
  unfolding portion_verdict is_report_reply
  name_is =
      rw (under (length p) least_report_reply)
      (first_name (leb least_report_reply (length p)) (eqb (byte p 0) 0x10) (eqb (byte p 1) 0x04) (is_for_it c p) (eqb (length p) (least_report_reply + num p 16 2)) (is_different c p)
      (ltb most_report (total_said c p)))

  -- ---- taken or left

  -- the two ways, with what the first tells
  data Ways : Type 0 where
    took : Takes c p → collected c p ≡ grown c p → Ways
    left : collected c p ≡ c → Ways

  ways : Ways
  unfolding collected
  ways = by (is_taken (portion_verdict c p)) refl
    where
      by : (b : Bool) → is_taken (portion_verdict c p) ≡ b → Ways
      by true e = took (takes c p e) (rw e)
      by false e = left (rw e)

  not_taken : (v : Result Unit PortionRefusal) → (v ≡ Ok tt → ⊥) → is_taken v ≡ false
  not_taken (Ok tt) n = absurd (n refl)
  not_taken (Err NotReport) n = refl
  not_taken (Err OtherInterface) n = refl
  not_taken (Err OtherLength) n = refl
  not_taken (Err TotalDifferent) n = refl
  not_taken (Err TotalOver) n = refl

  refused_leaves : (portion_verdict c p ≡ Ok tt → ⊥) → collected c p ≡ c
  unfolding collected
  refused_leaves n = rw (not_taken (portion_verdict c p) n)

  taken_grows : portion_verdict c p ≡ Ok tt → collected c p ≡ grown c p
  unfolding collected
  taken_grows e = rw e

  taken_bytes : length c.bytes ≡ most_report → portion_verdict c p ≡ Ok tt → held_bytes (collected c p) ≡ held_bytes c ++ portion_in p
  unfolding grown over
  taken_bytes room e =
      let t = takes c p (ap is_taken e) in
      let long : length (portion_in p) ≡ num p 16 2 = rw length-drop (omega (arith, t.length_is)) in
      let held : length (held_bytes c) ≡ c.held = length-take-le c.held c.bytes (omega (arith, t.most, room)) in
      rw (taken_grows e) (take_at (held_bytes c ++ portion_in p) (drop (c.held + length (portion_in p)) c.bytes) (c.held + num p 16 2) (rw (length-append, held, long)))

  taken_counts : portion_verdict c p ≡ Ok tt → (collected c p).held ≡ c.held + num p 16 2
  unfolding grown
  taken_counts e = ap (λ (d : Collection). d.held) (taken_grows e)

  taken_fixes : portion_verdict c p ≡ Ok tt → ((collected c p).begun ≡ true) × ((collected c p).total ≡ total_said c p)
  unfolding grown
  taken_fixes e = (ap (λ (d : Collection). d.begun) (taken_grows e), ap (λ (d : Collection). d.total) (taken_grows e))

  total_stays : c.begun ≡ true → (collected c p).total ≡ c.total
  unfolding grown
  total_stays b = by ways
    where
      by : Ways → (collected c p).total ≡ c.total
      by (Ways.took t e) = ap (λ (d : Collection). d.total) e ∙ t.total_same b
      by (Ways.left e) = ap (λ (d : Collection). d.total) e

  -- a portion of 0 is no bytes
  no_bytes : Takes c p → num p 16 2 ≡ 0 → over c.held (portion_in p) c.bytes ≡ c.bytes
  no_bytes t z = rw (drop_of_length-le p {i = 20} (omega (arith, t.length_is))) (over_nothing c.held c.bytes)

  zero_moves_nothing : num p 16 2 ≡ 0 → ((collected c p).held ≡ c.held) × ((collected c p).bytes ≡ c.bytes)
  unfolding grown
  zero_moves_nothing z = by ways
    where
      by : Ways → ((collected c p).held ≡ c.held) × ((collected c p).bytes ≡ c.bytes)
      by (Ways.took t e) = (ap (λ (d : Collection). d.held) e ∙ rw (z, add-zero), ap (λ (d : Collection). d.bytes) e ∙ no_bytes t z)
      by (Ways.left e) = (ap (λ (d : Collection). d.held) e, ap (λ (d : Collection). d.bytes) e)

  finished_stays : finished c ≡ true → collected c p ≡ c
  unfolding grown
  finished_stays f = by ways
    where
      b : c.begun ≡ true
      b = and_left c.begun (eqb c.held c.total) f

      full : c.held ≡ c.total
      full = eqb-true c.held c.total (and_right c.begun (eqb c.held c.total) f)

      by : Ways → collected c p ≡ c
      by (Ways.left e) = e
      by (Ways.took t e) =
          let z : num p 16 2 ≡ 0 = omega (arith, full, t.total_same b) in
          let held : c.held + num p 16 2 ≡ c.held = rw (z, add-zero) in
          e ∙ rw (t.total_same b, no_bytes t z, held, ← b)

-- ---- never too much

record Keeps (c : Collection) : Type 0 where
  room : length c.bytes ≡ most_report
  most : c.held ≤ most_report
  within_total : c.begun ≡ true → c.held ≤ c.total
  rest_zero : drop c.held c.bytes ≡ blank (most_report - c.held)

-- what stands behind the bytes that were written
rest_over : (at n : ℕ) (new s : List ℕ) → length new ≡ n → at ≤ length s → drop (at + n) (over at new s) ≡ drop n (drop at s)
unfolding over
rest_over at n new s e h =
    let front : length (take at s ++ new) ≡ at + n = rw (length-append, length-take-le at s h, e) in
    drop_at (take at s ++ new) (drop (at + length new) s) (at + n) front ∙ rw e (sym (drop-drop n at s))

still_keeps : (c : Collection) (p : List ℕ) → Keeps c → Keeps (collected c p)
unfolding grown
still_keeps c p k = by (ways c p)
  where
    by : Ways c p → Keeps (collected c p)
    by (Ways.left e) = rw e k
    by (Ways.took t e) =
        let n = num p 16 2 in
        let long : length (portion_in p) ≡ n = rw length-drop (omega (arith, t.length_is)) in
        let fits : c.held + n ≤ most_report = omega (arith, t.most) in
        let left : most_report - c.held - n ≡ most_report - (c.held + n) = omega arith in
        rw e
        (record {
          room = length_over c.held (portion_in p) c.bytes (omega (arith, long, fits, k.room)) ∙ k.room;
          most = fits;
          within_total = λ b. omega arith;
          rest_zero =
              rest_over c.held n (portion_in p) c.bytes long (omega (arith, k.room, k.most))
              ∙ ap (drop n) k.rest_zero
              ∙ drop_blank n (most_report - c.held) (omega (arith, fits))
              ∙ ap blank left;
        })

all_keep : (ps : List (List ℕ)) (c : Collection) → Keeps c → Keeps (after_all collecting ps c)
unfolding after_all
all_keep [] c k = k
all_keep (p ∷ ps) c k = all_keep ps (collected c p) (still_keeps c p k)

sound : (c : Collection) → Keeps c → Sound c
sound c k = record {
  as_many = length-take-le c.held c.bytes (omega (arith, k.room, k.most));
  most = k.most;
  within_total = k.within_total;
  rest_zero = k.rest_zero;
}

fresh_keeps : (id : ℕ) → Keeps (fresh id)
fresh_keeps id = record { room = length-replicate {A = ℕ} most_report 0; most = omega arith; within_total = λ e. clash (sym e); rest_zero = refl }

pub takes_rightly : TakesRightly collecting
takes_rightly = record {
  name_is = name_is;
  refused_leaves = refused_leaves;
  taken_bytes = taken_bytes;
  taken_counts = taken_counts;
  taken_fixes = taken_fixes;
  total_stays = total_stays;
  zero_moves_nothing = zero_moves_nothing;
  finished_stays = finished_stays;
  always_sound = λ id ps. sound (after_all collecting ps (fresh id)) (all_keep ps (fresh id) (fresh_keeps id));
}
