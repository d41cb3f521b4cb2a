-- What a request leaves of an accepted table. Assumes nothing.
use Rattle.std.specs.Prelude.{if◌then◌else◌, Err, Ok, Result, Some}
use mathlib.Core.Path.{◌≡◌, refl, sym, ap, ◌∙◌}
use mathlib.Core.Bool.{Bool, true, false, not, ◌&&◌}
use mathlib.Core.List.{List, []}
use Prim.Native.Nat.{ℕ, ◌*◌, ◌/◌, ◌<◌}
use native.Mathlib.Omega.{arith}
use borrow.Author.Tests.{eqb-true, eqb-false}
use lib.Dec.{eqb, ltb}
use lib.ListN.{length, set, length-set}
use lib.Seq.{set-get_or}
use Rattle.rules.specs.Bytes.{byte, over}
use Rattle.rules.specs.Identity.{identity_at}
use Rattle.rules.specs.Record.{Rec}
use Rattle.rules.specs.Request.{Lent, Effect, kind_of, header, message, error_message, error_code, error_datum, effect, verdict}
use Rattle.rules.specs.Table.{records, record_at, record_bytes, identity, find, table_number}
use Rattle.rules.specs.Call.{join, Outcome, refused, served, carried_out, least_reply, least_request, answered}
use Rattle.rules.proofs.Accepted.{whole, keeps_rules}
use Rattle.rules.proofs.Bools.{and_right}
use Rattle.rules.proofs.Checks.{serves}
use Rattle.rules.proofs.Configured.{Configured, identity_same}
use Rattle.rules.proofs.Effects.{Becomes, effect_becomes, length_effect, kept_bytes, same_identity, report_keeps}
use Rattle.rules.proofs.Joined.{join_records, records_set}
use Rattle.rules.proofs.KeepsRules.{effect_keeps}
use Rattle.rules.proofs.Lookup.{find_at}
use Rattle.rules.proofs.Records.{length_records, length_record}
use Rattle.rules.proofs.StaysAccepted.{set_accepted, other_stays, named_is}
use Rattle.rules.specs.declared.RequestError.{RequestError}

-- ---- what a request gets is one of three

-- a request that is carried out on record k
pub record OnRecord (l : Lent) (t : List ℕ) (k : ℕ) : Type 0 where
  pub accepted : table_number t ≡ 0
  pub found : find (identity_at l.request 4) (records t) ≡ Some k
  pub nonce_long : length l.nonce ≡ 32
  pub told : verdict l.request (records t) ≡ Ok k

-- refused with a number, an error, or carried out
pub data Answers (l : Lent) (t : List ℕ) : Outcome → Type 0 where
  refuses : (n : ℕ) → (n ≡ 0 → ⊥) → Answers l t (refused n l.reply t)
  errs : (code datum : ℕ) → Answers l t (served (error_message code datum l.request) l t)
  carries : (k : ℕ) → OnRecord l t k → Answers l t (carried_out (Ok k) l t)

pub answered_is : (l : Lent) (t : List ℕ) → Answers l t (answered l t)
unfolding answered
answered_is l t =
    go (eqb (table_number t) 0) refl (ltb (length l.reply) least_reply) (ltb (length l.request) least_request) (eqb (length l.streams) 32 && eqb (length l.nonce) 32) refl
    (verdict l.request (records t)) refl
  where
    go : (a : Bool) → eqb (table_number t) 0 ≡ a → (b c d : Bool) → eqb (length l.streams) 32 && eqb (length l.nonce) 32 ≡ d
        → (v : Result ℕ RequestError) → verdict l.request (records t) ≡ v
        → Answers l t (if not a then refused (table_number t) l.reply t else if b then refused 4 l.reply t else if c then refused 5 l.reply t else if not d then refused 6 l.reply t else carried_out v l t)
    go false p b c d q v e = refuses (table_number t) (eqb-false (table_number t) 0 p)
    go true p true c d q v e = refuses 4 (λ z. omega arith)
    go true p false true d q v e = refuses 5 (λ z. omega arith)
    go true p false false false q v e = refuses 6 (λ z. omega arith)
    go true p false false true q (Err why) e = errs (error_code why) (error_datum why)
    go true p false false true q (Ok k) e =
        carries k (record {
          accepted = eqb-true (table_number t) 0 p;
          found = (serves k (verdict l.request (records t)) l.request t refl e).found;
          told = e;
          nonce_long = eqb-true (length l.nonce) 32 (and_right (eqb (length l.streams) 32) (eqb (length l.nonce) 32) q);
        })

-- ---- a request carried out on record k

module _ (l : Lent) (t : List ℕ) (k : ℕ) (on : OnRecord l t k) where
  abbrev r : Rec
  r = record_at t k

  abbrev after : List ℕ
  after = join (set (records t) k (effect l r).rec)

  -- its place, and the lengths
  pub in_records : k < length (records t)
  in_records = (find_at (identity_at l.request 4) k (records t) on.found).within

  in_table : k < length t / record_bytes
  in_table = omega (arith, length_records t, in_records)

  steps : length t ≡ length t / record_bytes * record_bytes
  steps = rw (length_records t) at (whole t on.accepted)

  pub long : length r ≡ record_bytes
  long = length_record t k in_table

  long_after : length (effect l r).rec ≡ record_bytes
  long_after = length_effect l r long on.nonce_long

  -- the table afterwards
  accepted_after : table_number after ≡ 0
  accepted_after =
      let ok = effect_keeps l r long on.nonce_long (keeps_rules t on.accepted k in_records) in
      set_accepted t k (effect l r).rec on.accepted in_records long_after ok (same_identity l r long on.nonce_long)

  pub other_after : (j : ℕ) → (j ≡ k → ⊥) → record_at after j ≡ record_at t j
  other_after j n = other_stays t j k (effect l r).rec steps long_after in_table n

  pub named_after : record_at after k ≡ (effect l r).rec
  named_after = named_is t k (effect l r).rec steps long_after in_table

  kept_after : (j i : ℕ) → Configured i → byte (record_at after j) i ≡ byte (record_at t j) i
  kept_after j i c = go (eqb j k) refl
    where
      go : (b : Bool) → eqb j k ≡ b → byte (record_at after j) i ≡ byte (record_at t j) i
      go true e = rw (eqb-true j k e, named_after) (kept_bytes l r long on.nonce_long i c)
      go false e = ap (λ (x : Rec). byte x i) (other_after j (eqb-false j k e))

  count_after : length (records after) ≡ length (records t)
  count_after = rw (records_set t k (effect l r).rec steps long_after in_table) (length-set (records t) k (effect l r).rec)

  -- a record put where it stands
  same_after : (effect l r).rec ≡ r → after ≡ t
  same_after e = ap (λ (x : Rec). join (set (records t) k x)) e ∙ ap join (set-get_or (records t) k []) ∙ join_records t steps

-- an error at the front of the reply buffer leaves the record
error_replied : (l : Lent) (r : Rec) (s : List ℕ) (e : Effect) → Becomes l r e → byte (over 0 e.reply s) 1 ≡ 0x7f → e.rec ≡ r
unfolding over message header
error_replied l r s e Becomes.same h = refl
error_replied l r s e (Becomes.locks k z f o p q) h = absurd (omega arith)
error_replied l r s e (Becomes.runs k z n) h = absurd (omega arith)
error_replied l r s e (Becomes.clears k) h = absurd (omega arith)

-- ---- so of every request

module _ (l : Lent) (t : List ℕ) where
  -- refused: reply buffer and table unchanged, and length 0
  pub refused_leaves : ((answered l t).number ≡ 0 → ⊥) → ((answered l t).reply ≡ l.reply) × ((answered l t).table ≡ t) × ((answered l t).value ≡ 0)
  refused_leaves = by (answered l t) (answered_is l t)
    where
      by : (o : Outcome) → Answers l t o → (o.number ≡ 0 → ⊥) → (o.reply ≡ l.reply) × (o.table ≡ t) × (o.value ≡ 0)
      by o (refuses x z) n = (refl, refl, refl)
      by o (errs code datum) n = absurd (n refl)
      by o (carries k on) n = absurd (n refl)

  -- an accepted table stays accepted
  pub stays_accepted : table_number t ≡ 0 → table_number (answered l t).table ≡ 0
  stays_accepted accepted = by (answered l t) (answered_is l t)
    where
      by : (o : Outcome) → Answers l t o → table_number o.table ≡ 0
      by o (refuses n z) = accepted
      by o (errs code datum) = accepted
      by o (carries k on) = accepted_after l t k on

  -- only the named record can change
  pub only_named : (j : ℕ) → (find (identity_at l.request 4) (records t) ≡ Some j → ⊥) → record_at (answered l t).table j ≡ record_at t j
  only_named j n = by (answered l t) (answered_is l t)
    where
      by : (o : Outcome) → Answers l t o → record_at o.table j ≡ record_at t j
      by o (refuses n z) = refl
      by o (errs code datum) = refl
      by o (carries k on) = other_after l t k on j (λ e. n (on.found ∙ ap Some (sym e)))

  -- no record comes or goes
  pub length_stays : length (records (answered l t).table) ≡ length (records t)
  length_stays = by (answered l t) (answered_is l t)
    where
      by : (o : Outcome) → Answers l t o → length (records o.table) ≡ length (records t)
      by o (refuses n z) = refl
      by o (errs code datum) = refl
      by o (carries k on) = count_after l t k on

  -- no configuration changes, in any record: identity, ranges, information
  pub configuration_stays : (j k : ℕ) → Configured k → byte (record_at (answered l t).table j) k ≡ byte (record_at t j) k
  configuration_stays j k c = by (answered l t) (answered_is l t)
    where
      by : (o : Outcome) → Answers l t o → byte (record_at o.table j) k ≡ byte (record_at t j) k
      by o (refuses n z) = refl
      by o (errs code datum) = refl
      by o (carries i on) = kept_after l t i on j k c

  pub identity_stays : (j : ℕ) → identity (record_at (answered l t).table j) ≡ identity (record_at t j)
  identity_stays j = identity_same (record_at (answered l t).table j) (record_at t j) (configuration_stays j)

  -- a TDISP_ERROR reply leaves the table
  pub error_leaves : byte (answered l t).reply 1 ≡ 0x7f → (answered l t).table ≡ t
  error_leaves = by (answered l t) (answered_is l t)
    where
      by : (o : Outcome) → Answers l t o → byte o.reply 1 ≡ 0x7f → o.table ≡ t
      by o (refuses n z) h = refl
      by o (errs code datum) h = refl
      by o (carries k on) h =
          let r = record_at t k in
          same_after l t k on (error_replied l r l.reply (effect l r) (effect_becomes l r) h)

  -- a report asked for leaves the table, whatever it gets
  pub report_leaves : kind_of l.request ≡ 0x84 → (answered l t).table ≡ t
  report_leaves kind = by (answered l t) (answered_is l t)
    where
      by : (o : Outcome) → Answers l t o → o.table ≡ t
      by o (refuses n z) = refl
      by o (errs code datum) = refl
      by o (carries k on) = same_after l t k on (report_keeps l (record_at t k) kind)
