-- A call that names an interface looks at that interface's record alone, and changes no other. Assumes nothing.
use Rattle.std.specs.Prelude.{None, Option, Some}
use mathlib.Core.Path.{◌≡◌, refl, ap, ◌∙◌}
use mathlib.Core.Bool.{Bool, true, false, ◌&&◌}
use mathlib.Core.List.{List, [], ◌∷◌}
use Prim.Native.Nat.{ℕ, ◌*◌, ◌/◌, ◌<◌}
use native.Mathlib.Omega.{arith}
use borrow.Author.Tests.{eq-eqb, lt-ltb, eqb-true}
use lib.Dec.{eqb, ltb}
use lib.ListN.{length, set}
use Rattle.rules.specs.Bytes.{byte}
use Rattle.rules.specs.Call.{join, Outcome, refused, served, carried_out, least_reply, least_request, answered, Call, Request, RegisterWrite, step}
use Rattle.rules.specs.Change.{rule_of, rule_hits, device_wide, moved, differing}
use Rattle.rules.specs.Identity.{identity_at, identity_of}
use Rattle.rules.specs.Record.{Rec}
use Rattle.rules.specs.Request.{Lent, kind_of, error_message, exact_length, looked_up, verdict, effect}
use Rattle.rules.specs.Table.{records, record_at, record_bytes, find, table_number}
use Rattle.rules.specs.declared.Identity.{Identity}
use Rattle.rules.proofs.Accepted.{whole}
use Rattle.rules.proofs.Bools.{and_right}
use Rattle.rules.proofs.Changed.{named_alone, unknown_refused, known_served}
use Rattle.rules.proofs.Effects.{length_effect}
use Rattle.rules.proofs.Joined.{records_set}
use Rattle.rules.proofs.Moved.{length_moved}
use Rattle.rules.proofs.Records.{length_records, length_record}
use Rattle.demands.specs.Machine.{leaving}
use Rattle.demands.specs.Swaps.{Names, asks, writes, NamesNobody, short}
use Rattle.demands.proofs.Places.{place_of, place_within, put}

-- ---- local calls

-- `unknown` where there is no record; else what `there` gives of the one record, which stands for the table. The other records stay.
abbrev pub placed : Outcome → (Rec → Outcome) → Option ℕ → List ℕ → Outcome
placed unknown there None t = leaving unknown t
placed unknown there (Some k) t = leaving (there (record_at t k)) (join (set (records t) k (there (record_at t k)).table))

-- a call that looks at no record but this interface's, on any accepted table
pub record Local (who : Option Identity) (c : Call) : Type 0 where
  pub unknown : Outcome
  pub there : Rec → Outcome
  pub long : (r : Rec) → length r ≡ record_bytes → length (there r).table ≡ record_bytes
  pub only : (t : List ℕ) → table_number t ≡ 0 → step c t ≡ placed unknown there (place_of who (records t)) t

-- one outcome, whatever the table, which stays
idle : (c : Call) (o : Outcome) → ((t : List ℕ) → table_number t ≡ 0 → step c t ≡ leaving o t) → Local None c
idle c o only = record { unknown = o; there = λ r. leaving o r; long = λ r p. p; only = only }

-- a call that looks at no record but i's
pub record LooksAt (i : Identity) (c : Call) : Type 0 where
  pub who : Option Identity
  pub local : Local who c
  pub at_most : (rs : List Rec) (k : ℕ) → place_of who rs ≡ Some k → find i rs ≡ Some k

-- it is stopped before it looks for the record, or it looks for that one
nobody : {i : Identity} {c : Call} → Local None c → LooksAt i c
nobody a = record { who = None; local = a; at_most = λ rs k e. cc }

named : {i : Identity} {c : Call} → Local (Some i) c → LooksAt i c
named {i} a = record { who = Some i; local = a; at_most = λ rs k e. e }

-- ---- a request

module _ (l : Lent) where
  abbrev q : List ℕ
  q = l.request

  abbrev errs : ℕ → ℕ → Outcome
  errs code datum = served (error_message code datum q) l []

  abbrev serves : Rec → Outcome
  serves r = served (effect l r).reply l (effect l r).rec

  -- too short to name an interface
  nobody_asked : length q < least_request → Local None (Request l)
  unfolding answered
  nobody_asked h = by (ltb (length l.reply) least_reply) refl
    where
      by : (b : Bool) → ltb (length l.reply) least_reply ≡ b → Local None (Request l)
      by true p = idle _ (refused 4 l.reply []) (λ t z. rw (eq-eqb (table_number t) 0 z, p))
      by false p = idle _ (refused 5 l.reply []) (λ t z. rw (eq-eqb (table_number t) 0 z, p, lt-ltb (length q) least_request h))

  looked_up_lem : (f : Option ℕ) (t : List ℕ) → carried_out (looked_up f) l t ≡ placed (errs 0x101 0) serves f t
  looked_up_lem None t = refl
  looked_up_lem (Some k) t = refl

  -- what is checked before the lookup does not look at the table
  asked : LooksAt (identity_at q 4) (Request l)
  unfolding answered verdict
  asked =
      by (ltb (length l.reply) least_reply) refl (ltb (length q) least_request) refl (eqb (length l.streams) 32 && eqb (length l.nonce) 32) refl
      (eqb (byte q 0) 0x10) refl (eqb (exact_length (kind_of q)) 0) refl (eqb (length q) (exact_length (kind_of q))) refl
    where
      by : (small : Bool) → ltb (length l.reply) least_reply ≡ small → (brief : Bool) → ltb (length q) least_request ≡ brief
          → (lengths : Bool) → eqb (length l.streams) 32 && eqb (length l.nonce) 32 ≡ lengths → (version : Bool) → eqb (byte q 0) 0x10 ≡ version
          → (unlisted : Bool) → eqb (exact_length (kind_of q)) 0 ≡ unlisted → (exact : Bool) → eqb (length q) (exact_length (kind_of q)) ≡ exact
          → LooksAt (identity_at q 4) (Request l)
      by true a y b x c w d v e u f = nobody (idle _ (refused 4 l.reply []) (λ t z. rw (eq-eqb (table_number t) 0 z, a)))
      by false a true b x c w d v e u f = nobody (idle _ (refused 5 l.reply []) (λ t z. rw (eq-eqb (table_number t) 0 z, a, b)))
      by false a false b false c w d v e u f = nobody (idle _ (refused 6 l.reply []) (λ t z. rw (eq-eqb (table_number t) 0 z, a, b, c)))
      by false a false b true c false d v e u f = nobody (idle _ (errs 0x41 0) (λ t z. rw (eq-eqb (table_number t) 0 z, a, b, c, d)))
      by false a false b true c true d true e u f = nobody (idle _ (errs 0x07 (kind_of q)) (λ t z. rw (eq-eqb (table_number t) 0 z, a, b, c, d, e)))
      by false a false b true c true d false e false f = nobody (idle _ (errs 0x01 0) (λ t z. rw (eq-eqb (table_number t) 0 z, a, b, c, d, e, f)))
      by false a false b true c true d false e true f =
          named (record {
            unknown = errs 0x101 0;
            there = serves;
            long = λ r p. length_effect l r p (eqb-true _ _ (and_right (eqb (length l.streams) 32) (eqb (length l.nonce) 32) c));
            only = λ t z. rw (eq-eqb (table_number t) 0 z, a, b, c, d, e, f) (looked_up_lem (find (identity_at q 4) (records t)) t);
          })

-- ---- a register write of a class that is not device-wide

module _ (id class : ℕ) (narrow : device_wide (rule_of class) ≡ false) where
  abbrev after : Rec → Rec
  after r = moved (rule_hits (rule_of class)) r

  abbrev moves : Rec → Outcome
  moves r = record { number = 0; value = differing (r ∷ []) (after r ∷ []); reply = []; table = after r }

  looked : (t : List ℕ) → table_number t ≡ 0 → (f : Option ℕ) → find (identity_of id) (records t) ≡ f
      → step (RegisterWrite id class) t ≡ placed (refused 7 [] []) moves f t
  looked t z None e = unknown_refused id class t z e
  looked t z (Some k) e =
      let alone = named_alone (rule_of class) (identity_of id) t k z e narrow in
      known_served id class t z k e ∙ rw (alone.1, alone.0)

  wrote : Local (Some (identity_of id)) (RegisterWrite id class)
  wrote =
      record {
        unknown = refused 7 [] [];
        there = moves;
        long = length_moved (rule_hits (rule_of class));
        only = λ t z. looked t z (find (identity_of id) (records t)) refl;
      }

-- ---- so of every call that names an interface, and of a request that names nobody

pub looks_at : {i : Identity} {c : Call} → Names i c → LooksAt i c
looks_at (asks {l} h e) = rw e (asked l)
looks_at (writes {id} {class} narrow e) = rw e (named (wrote id class narrow))

pub looks_at_nobody : {c : Call} → NamesNobody c → Local None c
looks_at_nobody (short {l} h) = nobody_asked l h

-- ---- what a local call leaves of an accepted table

pub whole_records : (t : List ℕ) → table_number t ≡ 0 → length t ≡ length t / record_bytes * record_bytes
whole_records t accepted = rw (length_records t) at (whole t accepted)

module _ {who : Option Identity} {c : Call} (a : Local who c) where
  -- what becomes of the record
  abbrev pub becomes : Rec → Rec
  becomes r = (a.there r).table

  module _ (t : List ℕ) (accepted : table_number t ≡ 0) where
    -- the records
    pub leaves : records (step c t).table ≡ put becomes (place_of who (records t)) (records t)
    leaves = ap (λ (o : Outcome). records o.table) (a.only t accepted) ∙ by (place_of who (records t)) refl
      where
        by : (p : Option ℕ) → place_of who (records t) ≡ p → records (placed a.unknown a.there p t).table ≡ put becomes p (records t)
        by None e = refl
        by (Some k) e =
            let h : k < length t / record_bytes = omega (arith, length_records t, place_within who (records t) k e) in
            records_set t k (becomes (record_at t k)) (whole_records t accepted) (a.long (record_at t k) (length_record t k h)) h
