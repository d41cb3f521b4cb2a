-- What a request for a report gets: nothing, where the call is refused; an error; or a portion. Assumes nothing.
use Rattle.std.specs.Prelude.{if◌then◌else◌, Some}
use mathlib.Core.Path.{◌≡◌, refl, ap, ◌∙◌}
use mathlib.Core.Bool.{Bool, true, false, not}
use mathlib.Core.List.{List, []}
use Prim.Native.Nat.{ℕ, ◌<◌}
use borrow.Author.Tests.{leb-false}
use lib.Dec.{leb}
use lib.ListN.{take}
use Rattle.rules.specs.Bytes.{num}
use Rattle.rules.specs.Call.{Outcome, answered, step}
use Rattle.rules.specs.Identity.{identity_at}
use Rattle.rules.specs.Record.{Rec, state}
use Rattle.rules.specs.Report.{report_total, portion_bytes}
use Rattle.rules.specs.Request.{Lent, does, fails, message, error_message, kind_of, legal_in, get_report, gets, effect}
use Rattle.rules.specs.Table.{records, record_at, find}
use Rattle.rules.specs.declared.Identity.{Identity}
use Rattle.rules.proofs.ServedCall.{Answers, answered_is}
use Rattle.demands.specs.Collected.{reply_to}
use Rattle.demands.specs.Exactly.{Arrives, Reaches, LockStands}
use Rattle.demands.specs.Histories.{Asks}
use Rattle.demands.proofs.Exactly.{requests}
use Rattle.demands.proofs.Lists.{front_is}
use Rattle.demands.proofs.Lookups.{found_too, one_place}

-- the portion that a request asks for
abbrev pub asked_portion : List ℕ → Rec → List ℕ
asked_portion q r = message 0x04 q (portion_bytes r (num q 16 2) (num q 18 2))

pub data Gets (q : List ℕ) (r : Rec) : List ℕ → Type 0 where
  nothing : Gets q r []
  error : (code datum : ℕ) → Gets q r (error_message code datum q)
  portion : num q 16 2 < report_total r → Gets q r (asked_portion q r)

-- what is done to the record
module _ (l : Lent) (r : Rec) (kind : kind_of l.request ≡ 0x84) where
  abbrev q : List ℕ
  q = l.request

  report_gives : Gets q r (get_report q r).reply
  unfolding get_report
  report_gives = by (leb (report_total r) (num q 16 2)) refl
    where
      by : (b : Bool) → leb (report_total r) (num q 16 2) ≡ b → Gets q r (if b then fails 0x01 q r else does (asked_portion q r) r).reply
      by true e = error 0x01 0
      by false e = portion (leb-false (report_total r) (num q 16 2) e)

  effect_gives : Gets q r (effect l r).reply
  unfolding effect gets
  effect_gives = rw kind (by (legal_in 0x84 (state r)))
    where
      by : (b : Bool) → Gets q r (if not b then fails 0x04 q r else get_report q r).reply
      by true = report_gives
      by false = error 0x04 0

module _ (i : Identity) (l : Lent) (t : List ℕ) (k : ℕ) (asks : Asks i 0x84 20 l) (found : find i (records t) ≡ Some k) where
  abbrev r : Rec
  r = record_at t k

  named : find (identity_at l.request 4) (records t) ≡ Some k
  named = found_too i (identity_at l.request 4) (records t) k found asks.who_is

  -- whatever it gets
  pub reply_gets : Gets l.request r (reply_to step l t)
  reply_gets = by (answered l t) (answered_is l t)
    where
      by : (o : Outcome) → Answers l t o → Gets l.request r (take o.value o.reply)
      by o (Answers.refuses n z) = nothing
      by o (Answers.errs code datum) = rw (front_is (error_message code datum l.request) l.reply) (error code datum)
      by o (Answers.carries j on) =
          rw (front_is (effect l (record_at t j)).reply l.reply, one_place (identity_at l.request 4) (records t) j k on.found named)
          (effect_gives l r asks.kind_is)

  -- and where no refusal stops it, a lock stands and the OFFSET is below the total
  pub reply_portion : Arrives l t → LockStands r → num l.request 16 2 < report_total r → reply_to step l t ≡ asked_portion l.request r
  reply_portion on s inside =
      let reaches : Reaches l t k 0x84 20 = record {
        accepted = on.accepted;
        room = on.room;
        map_length = on.map_length;
        nonce_length = on.nonce_length;
        version_is = asks.version_is;
        kind_is = asks.kind_is;
        length_is = asks.length_is;
        found = named;
      } in
      ap (λ (o : Outcome). take o.value o.reply) (requests.report l t k reaches s inside) ∙ front_is (asked_portion l.request r) l.reply
