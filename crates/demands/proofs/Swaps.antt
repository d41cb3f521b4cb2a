-- Demand 3, the swap: neighbouring calls that name different interfaces change places anywhere in a history. Assumes nothing.
use Rattle.std.specs.Prelude.{None, Option, Some}
use mathlib.Core.Path.{◌≡◌, refl, sym, ap, ◌∙◌}
use mathlib.Core.Bool.{Bool, true, false}
use mathlib.Core.List.{List, [], ◌∷◌}
use Prim.Native.Nat.{ℕ}
use borrow.Author.Tests.{ne_eqb, eqb-true, eqb-false}
use lib.Dec.{eqb}
use lib.ListN.{get_or}
use Rattle.rules.specs.Call.{join, Outcome, answered, register_written, happened, firmware_asked, Call, Request, RegisterWrite, DeviceWide, FirmwareQuestion, step}
use Rattle.rules.specs.Identity.{same}
use Rattle.rules.specs.Record.{Rec}
use Rattle.rules.specs.Table.{records, record_at, table_number}
use Rattle.rules.specs.declared.Identity.{Identity}
use Rattle.rules.proofs.Joined.{join_records}
use Rattle.rules.proofs.Stepped.{stays_accepted}
use Rattle.demands.specs.Machine.{Machine, leaving, Seen, seen, run, trace}
use Rattle.demands.specs.Swaps.{Names, Apart, different, nobody_first, nobody_second, Swap, Swapped, DifferentInterfacesSwap}
use Rattle.demands.proofs.Named.{placed, Local, looks_at, looks_at_nobody, whole_records, becomes, leaves}
use Rattle.demands.proofs.Places.{place_of, finds, Elsewhere, elsewhere_sym, different_elsewhere, put, put_other, put_put}

-- ---- a call after another that finds another place, on an accepted table

abbrev seen_of : Call → Outcome → Seen
seen_of c o = record { call = c; number = o.number; value = o.value; buffer = o.reply }

module _ {x y : Option Identity} {c d : Call} (a : Local x c) (b : Local y d) (apart : Elsewhere x y) (t : List ℕ) (accepted : table_number t ≡ 0) where
  abbrev after : List ℕ
  after = (step d t).table

  -- the other call leaves the record
  untouched : (k : ℕ) → place_of x (records t) ≡ Some k → record_at after k ≡ record_at t k
  untouched k e =
      ap (λ (rs : List Rec). get_or rs k []) (leaves b t accepted) ∙ put_other (becomes b) (place_of y (records t)) (records t) k (apart (records t) k e)

  module _ (still : table_number after ≡ 0) where
    -- so the call is given the same,
    given : seen step c after ≡ seen step c t
    given = ap (seen_of c) (a.only after still) ∙ rw (finds d t x) (by (place_of x (records t)) refl) ∙ sym (ap (seen_of c) (a.only t accepted))
      where
        by : (p : Option ℕ) → place_of x (records t) ≡ p → seen_of c (placed a.unknown a.there p after) ≡ seen_of c (placed a.unknown a.there p t)
        by None e = refl
        by (Some k) e = rw (untouched k e)

    -- and changes the same
    both : records (step c after).table ≡ put (becomes a) (place_of x (records t)) (put (becomes b) (place_of y (records t)) (records t))
    both = leaves a after still ∙ rw (finds d t x, leaves b t accepted)

-- ---- two calls on one table

-- accepted tables with the same records are the same
same_records : (s t : List ℕ) → table_number s ≡ 0 → table_number t ≡ 0 → records s ≡ records t → s ≡ t
same_records s t p q e = sym (join_records s (whole_records s p)) ∙ ap join e ∙ join_records t (whole_records t q)

-- a table that is not accepted stays
stays : (c : Call) (t : List ℕ) → (table_number t ≡ 0 → ⊥) → (step c t).table ≡ t
unfolding answered register_written happened firmware_asked
stays (Request l) t n = rw (ne_eqb (table_number t) 0 n)
stays (RegisterWrite id class) t n = rw (ne_eqb (table_number t) 0 n)
stays (DeviceWide e) t n = rw (ne_eqb (table_number t) 0 n)
stays FirmwareQuestion t n = rw (ne_eqb (table_number t) 0 n)

module _ (c d : Call) (t : List ℕ) where
  on_refused : (table_number t ≡ 0 → ⊥) → Swap step c d t
  on_refused n =
      record {
        first_same = ap (seen step c) (stays d t n);
        second_same = ap (seen step d) (stays c t n);
        table_same = rw (stays c t n, stays d t n, stays c t n);
      }

  -- so it is enough to show it of one that is accepted
  on_any : (table_number t ≡ 0 → Swap step c d t) → Swap step c d t
  on_any accepted = by (eqb (table_number t) 0) refl
    where
      by : (b : Bool) → eqb (table_number t) 0 ≡ b → Swap step c d t
      by true e = accepted (eqb-true (table_number t) 0 e)
      by false e = on_refused (eqb-false (table_number t) 0 e)

  module _ {x y : Option Identity} (a : Local x c) (b : Local y d) (apart : Elsewhere x y) where
    on_accepted_lem : table_number t ≡ 0 → Swap step c d t
    on_accepted_lem z =
        let after-c = stays_accepted c t z in
        let after-d = stays_accepted d t z in
        let other = elsewhere_sym x y apart in
        record {
          first_same = given a b apart t z after-d;
          second_same = given b a other t z after-c;
          table_same =
              same_records _ _ (stays_accepted d _ after-c) (stays_accepted c _ after-d)
              (both b a other t z after-c
              ∙ put_put (becomes a) (becomes b) (place_of x (records t)) (place_of y (records t)) (records t) (apart (records t))
              ∙ sym (both a b apart t z after-d));
        }

  -- different interfaces are at different places,
  different_swap : (i j : Identity) → Names i c → Names j d → same i j ≡ false → Swap step c d t
  different_swap i j m n x =
      let a = looks_at m in
      let b = looks_at n in
      on_any (on_accepted_lem a.local b.local (λ rs k p q. different_elsewhere i j x rs k (a.at_most rs k p) (b.at_most rs k q)))

  -- and a request that names nobody looks at no record and leaves the table, beside any call
  module _ (a : Local None c) where
    nobody_accepted : table_number t ≡ 0 → Swap step c d t
    nobody_accepted z =
        let after = stays_accepted d t z in
        let leaves-it = ap (λ (o : Outcome). o.table) (a.only t z) in
        record {
          first_same = ap (seen_of c) (a.only (step d t).table after ∙ sym (ap (λ (o : Outcome). leaving o (step d t).table) (a.only t z)));
          second_same = ap (seen step d) leaves-it;
          table_same = ap (λ (s : List ℕ). (step d s).table) leaves-it ∙ sym (ap (λ (o : Outcome). o.table) (a.only (step d t).table after));
        }

    nobody_swap : Swap step c d t
    nobody_swap = on_any nobody_accepted

-- a swap the other way round
turned : {c d : Call} {t : List ℕ} → Swap step d c t → Swap step c d t
turned s = record { first_same = s.second_same; second_same = s.first_same; table_same = sym s.table_same }

swap_here : (c d : Call) (t : List ℕ) → Apart c d → Swap step c d t
swap_here c d t (different i j m n x) = different_swap c d t i j m n x
swap_here c d t (nobody_first m) = nobody_swap c d t (looks_at_nobody m)
swap_here c d t (nobody_second n) = turned (nobody_swap d c t (looks_at_nobody n))

-- ---- anywhere in a history

module _ (next : Machine) (c d : Call) (after : List Call) (here : (t : List ℕ) → Swap next c d t) where
  pub anywhere : (before : List Call) (t : List ℕ) → Swapped next before c d after t
  unfolding run trace
  anywhere [] t =
      let rest = trace next after (next d (next c t).table).table in
      record {
        table_same = ap (run next after) (sym (here t).table_same);
        first = seen next c t;
        second = seen next d t;
        rest = rest;
        one_way = ap (λ (e : Seen). seen next c t ∷ (e ∷ rest)) (here t).second_same;
        other_way = rw ((here t).first_same, (here t).table_same);
      }
  anywhere (b ∷ before) t =
      let s = anywhere before (next b t).table in
      record {
        table_same = s.table_same;
        first = s.first;
        second = s.second;
        rest = s.rest;
        one_way = ap (λ (es : List Seen). seen next b t ∷ es) s.one_way;
        other_way = ap (λ (es : List Seen). seen next b t ∷ es) s.other_way;
      }

-- THE SWAP
pub swap : DifferentInterfacesSwap step
swap before c d after t apart = anywhere step c d after (λ u. swap_here c d u apart) before t

-- the firmware question names no interface
pub firmware_names_nobody : (i : Identity) → Names i FirmwareQuestion → ⊥
firmware_names_nobody i = elim [ ]
