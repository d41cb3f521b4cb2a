-- What a change leaves of an accepted table: exactly the records that it is for move, and no other byte changes. Assumes nothing.
use Rattle.std.specs.Prelude.{None, Some}
use mathlib.Core.Path.{◌≡◌, refl, sym, ◌∙◌}
use mathlib.Core.Bool.{Bool, true, false}
use mathlib.Core.List.{List, [], ◌∷◌, map}
use Prim.Native.Nat.{ℕ, ◌/◌, ◌<◌}
use native.Mathlib.Omega.{arith}
use borrow.Author.Tests.{eq-eqb, ltb-true, ltb-false}
use lib.Dec.{ltb}
use lib.ListN.{length, set, get_or-eq_default}
use Rattle.rules.specs.Bytes.{byte}
use Rattle.rules.specs.Call.{join, refused, changed, register_written, happened}
use Rattle.rules.specs.Change.{rule_of, hits, rule_hits, device_wide, write_hits, live, moves, moved, differing}
use Rattle.rules.specs.Identity.{identity_of}
use Rattle.rules.specs.Record.{Rec, ERROR}
use Rattle.rules.specs.Request.{cleared}
use Rattle.rules.specs.Table.{records, record_at, record_bytes, identity, names, find, table_number}
use Rattle.rules.specs.declared.Event.TheVariants.{Multicast}
use Rattle.rules.specs.declared.Identity.{Identity}
use Rattle.rules.specs.declared.Rule.{Rule}
use Rattle.rules.proofs.Accepted.{tests, whole, differ}
use Rattle.rules.proofs.Bools.{and_false}
use Rattle.rules.proofs.Configured.{Configured}
use Rattle.rules.proofs.Identities.{same_like}
use Rattle.rules.proofs.Joined.{sized_records, length_join, records_join}
use Rattle.rules.proofs.Lookup.{find_at}
use Rattle.rules.proofs.Moved.{moved_none, stays_is, kept_moved}
use Rattle.rules.proofs.Records.{length_records, length_record}
use Rattle.rules.proofs.Swept.{tally, sized_map, length_map, map_at, map_one, differing_one, all_keep, same_distinct, differing_all}

-- ---- the records that p tells, moved

module _ (p : Rec → Bool) (t : List ℕ) where
  abbrev after : List ℕ
  after = join (map (moved p) (records t))

  pub records_after : records after ≡ map (moved p) (records t)
  records_after = records_join (map (moved p) (records t)) (sized_map p (records t) (sized_records t))

  -- each record is moved exactly when the change is for it and its state is 1 or 2; every other keeps every byte
  pub record_after : (k : ℕ) → record_at after k ≡ moved p (record_at t k)
  record_after k = rw records_after (map_at p (records t) k)

  -- the count is the number of records that move
  pub count_after : (changed p t).value ≡ tally (moves p) (records t)
  count_after = differing_all p (records t) (sized_records t)

  -- as many records as before
  pub count_stays : length (records after) ≡ length (records t)
  count_stays = rw records_after (length_map p (records t))

  -- no configuration changes, in any record
  pub kept_after : (j k : ℕ) → Configured k → byte (record_at after j) k ≡ byte (record_at t j) k
  kept_after j k c = rw (record_after j) (by (ltb j (length t / record_bytes)) refl)
    where
      by : (b : Bool) → ltb j (length t / record_bytes) ≡ b → byte (moved p (record_at t j)) k ≡ byte (record_at t j) k
      by true e = kept_moved p (record_at t j) (length_record t j (ltb-true j (length t / record_bytes) e)) k c
      by false e =
          let past : record_at t j ≡ [] = get_or-eq_default (records t) [] (omega (arith, length_records t, ltb-false j (length t / record_bytes) e)) in
          rw (past, moved_none p)

  -- an accepted table stays accepted
  module _ (accepted : table_number t ≡ 0) where
    pub length_after : length after ≡ length t
    length_after = rw (length_join (sized_map p (records t) (sized_records t)), length_map p (records t)) (sym (whole t accepted))

    pub accepted_after : table_number after ≡ 0
    unfolding table_number
    accepted_after =
        let (length-ok, rules, distinct-ok) = tests t accepted in
        rw (length_after, records_after, length-ok, all_keep p (records t) (sized_records t) rules, same_distinct p (records t) (sized_records t), distinct-ok)

-- ---- a register write

-- the record that it names is the only one for that interface
pub alone : (who : Identity) (t : List ℕ) (k j : ℕ) → table_number t ≡ 0 → find who (records t) ≡ Some k → j < length (records t) → (j ≡ k → ⊥)
    → names who (record_at t j) ≡ false
alone who t k j accepted found h n =
    let is = find_at who k (records t) found in
    same_like who (identity (record_at t k)) (identity (record_at t j)) is.here ∙ differ t accepted k j is.within h (λ e. n (sym e))

-- so a write that is not device-wide moves that record alone, by its rule, and counts it alone
module _ (rule : Rule) (who : Identity) (t : List ℕ) (k : ℕ) (accepted : table_number t ≡ 0) (found : find who (records t) ≡ Some k) (narrow : device_wide rule ≡ false) where
  in_records : k < length (records t)
  in_records = (find_at who k (records t) found).within

  here : moved (write_hits rule who) (record_at t k) ≡ moved (rule_hits rule) (record_at t k)
  unfolding moved write_hits
  here = rw (narrow, (find_at who k (records t) found).here)

  not_named : (j : ℕ) → names who (record_at t j) ≡ false → moved (write_hits rule who) (record_at t j) ≡ record_at t j
  unfolding write_hits
  not_named j e = stays_is (write_hits rule who) (record_at t j) (rw (narrow, e) (and_false (live (record_at t j))))

  elsewhere : (j : ℕ) → (j ≡ k → ⊥) → moved (write_hits rule who) (record_at t j) ≡ record_at t j
  elsewhere j n = by (ltb j (length (records t))) refl
    where
      by : (b : Bool) → ltb j (length (records t)) ≡ b → moved (write_hits rule who) (record_at t j) ≡ record_at t j
      by true e = not_named j (alone who t k j accepted found (ltb-true j (length (records t)) e) n)
      by false e =
          let past : record_at t j ≡ [] = get_or-eq_default (records t) [] (omega (arith, ltb-false j (length (records t)) e)) in
          rw (past, moved_none (write_hits rule who))

  pub named_alone : (map (moved (write_hits rule who)) (records t) ≡ set (records t) k (moved (rule_hits rule) (record_at t k)))
      × ((changed (write_hits rule who) t).value ≡ differing (record_at t k ∷ []) (moved (rule_hits rule) (record_at t k) ∷ []))
  named_alone =
      let one : map (moved (write_hits rule who)) (records t) ≡ set (records t) k (moved (rule_hits rule) (record_at t k)) =
      map_one (write_hits rule who) (records t) k in_records elsewhere ∙ rw here in
      (one, rw one (differing_one (records t) k (moved (rule_hits rule) (record_at t k)) in_records))

module _ (id class : ℕ) (t : List ℕ) (accepted : table_number t ≡ 0) where
  abbrev who : Identity
  who = identity_of id

  -- that names an interface of no record is number 7 and moves nothing, whatever its class: class 10 among them
  pub unknown_refused : find who (records t) ≡ None → register_written id class t ≡ refused 7 [] t
  unfolding register_written
  unknown_refused e = simp (eq-eqb (table_number t) 0 accepted, e)

  module _ (k : ℕ) (found : find who (records t) ≡ Some k) where
    -- that names a record's interface is served, by its class
    pub known_served : register_written id class t ≡ changed (write_hits (rule_of class) who) t
    unfolding register_written
    known_served = simp (eq-eqb (table_number t) 0 accepted, found)

-- class 10 that names an interface of the table, in any state, is the multicast event: every interface in states 1 and 2 moves
pub ten_is_multicast : (id k : ℕ) (t : List ℕ) → table_number t ≡ 0 → find (identity_of id) (records t) ≡ Some k → register_written id 10 t ≡ happened Multicast t
unfolding register_written happened rule_of hits rule_hits write_hits
ten_is_multicast id k t accepted found = simp (eq-eqb (table_number t) 0 accepted, found)

pub multicast_moves : (t : List ℕ) → table_number t ≡ 0 → (k : ℕ) → live (record_at t k) ≡ true → record_at (happened Multicast t).table k ≡ cleared ERROR (record_at t k)
unfolding happened moved hits
multicast_moves t accepted k e = rw (eq-eqb (table_number t) 0 accepted, record_after (hits Multicast) t k, e)
