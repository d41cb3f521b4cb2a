-- A collector that is handed a portion of a report, asked at its OFFSET, takes it and then holds more of the report. Assumes nothing.
use Rattle.std.specs.Prelude.{if◌then◌else◌, Err, Ok}
use mathlib.Core.Path.{◌≡◌, refl, sym, ap, ◌∙◌}
use mathlib.Core.Bool.{Bool, true, false, not, ◌&&◌}
use mathlib.Core.List.{List, [], ◌++◌}
use Prim.Native.Nat.{ℕ, ◌+◌, ◌-◌, ◌≤◌, ◌<◌, min}
use native.Mathlib.Omega.{arith}
use borrow.Author.Tests.{eq-eqb, ne_eqb, le-ltb, eqb-true, eqb-false}
use lib.Dec.{eqb, ltb}
use lib.ListN.{length, take, drop, length-append, length-replicate}
use lib.Seq.{take_at, take-add, take-length, length-take-le}
use Rattle.rules.specs.Bytes.{bytes_of, part, over}
use Rattle.rules.specs.Collector.{Collection, fresh, held_bytes, finished, portion_said, total_said, portion_in, is_report_reply, is_for_it, portion_verdict, grown, collected}
use Rattle.rules.specs.Identity.{identity_of, identity_at, same}
use Rattle.rules.specs.Report.{most_report, most_portion, portion_length, remainder_length}
use Rattle.rules.specs.Request.{message, error_message}
use Rattle.rules.specs.declared.PortionRefusal.TheVariants.{NotReport, TotalDifferent, TotalOver}
use Rattle.rules.proofs.Bools.{clash, and_left, and_right}
use Rattle.rules.proofs.Parts.{length_part, length_over}
use Rattle.rules.proofs.ReportReply.{error_none, length_reply, portion_said_lem, remainder_said_lem, interface_said, portion_in_lem, is_report}

-- ---- what a collector holds of a report

pub record Holds (id : ℕ) (whole : List ℕ) (c : Collection) : Type 0 where
  pub id_is : c.id ≡ id
  pub room : length c.bytes ≡ most_report
  pub within : c.held ≤ length whole
  pub front : held_bytes c ≡ take c.held whole
  pub begun_with : c.begun ≡ true → c.total ≡ length whole
  pub not_begun : c.begun ≡ false → c.held ≡ 0

pub fresh_holds : (id : ℕ) (whole : List ℕ) → Holds id whole (fresh id)
fresh_holds id whole = record {
  id_is = refl;
  room = length-replicate {A = ℕ} most_report 0;
  within = omega arith;
  front = refl;
  begun_with = λ e. clash (sym e);
  not_begun = λ e. refl;
}

-- ---- a reply that is none

none_told : (c : Collection) (p : List ℕ) → is_report_reply p ≡ false → portion_verdict c p ≡ Err NotReport
unfolding portion_verdict
none_told c p e = rw e

none_left : (c : Collection) (p : List ℕ) → is_report_reply p ≡ false → collected c p ≡ c
unfolding collected
none_left c p e = rw (none_told c p e)

pub nothing_told : (c : Collection) → portion_verdict c [] ≡ Err NotReport
unfolding is_report_reply
nothing_told c = none_told c [] refl

pub error_told : (c : Collection) (code datum : ℕ) (q : List ℕ) → portion_verdict c (error_message code datum q) ≡ Err NotReport
error_told c code datum q = none_told c (error_message code datum q) (error_none code datum q)

pub nothing_left : (c : Collection) → collected c [] ≡ c
unfolding is_report_reply
nothing_left c = none_left c [] refl

pub error_left : (c : Collection) (code datum : ℕ) (q : List ℕ) → collected c (error_message code datum q) ≡ c
error_left c code datum q = none_left c (error_message code datum q) (error_none code datum q)

-- ---- a portion of a report, from a place on

module _ (whole : List ℕ) (small : length whole ≤ most_report) (q : List ℕ) (q_long : 16 ≤ length q) (at asked : ℕ) (inside : at < length whole) where
  abbrev P : ℕ
  P = portion_length (length whole) at asked

  abbrev R : ℕ
  R = remainder_length (length whole) at asked

  abbrev bytes : List ℕ
  bytes = part whole at P

  -- the reply that the responder sends
  abbrev pub portion : List ℕ
  portion = message 0x04 q (bytes_of 2 P ++ bytes_of 2 R ++ bytes)

  P_fits : P < 65536
  P_fits = omega arith

  R_fits : R < 65536
  R_fits = omega arith

  ends : at + P ≤ length whole
  ends = omega arith

  length_bytes_of : length bytes ≡ P
  length_bytes_of = length_part whole at P ends

  said : portion_said portion ≡ P
  said = portion_said_lem q q_long P R bytes P_fits R_fits

  -- what is said of the rest comes to the end of the report
  total_said_lem : (c : Collection) → total_said c portion ≡ c.held + (length whole - at)
  total_said_lem c = rw (said, remainder_said_lem q q_long P R bytes P_fits R_fits) (omega arith)

  length_said : length portion ≡ 20 + P
  length_said = length_reply q q_long P R bytes P_fits R_fits ∙ rw length_bytes_of

  bytes_in : portion_in portion ≡ bytes
  bytes_in = portion_in_lem q q_long P R bytes P_fits R_fits

  -- for its interface, of any total: what is left to ask
  to_ask : (c : Collection) → same (identity_of c.id) (identity_at q 4) ≡ true → (x : ℕ) → total_said c portion ≡ x
      → portion_verdict c portion ≡ (if c.begun && not (eqb x c.total) then Err TotalDifferent else if ltb most_report x then Err TotalOver else Ok tt)
  unfolding portion_verdict
  to_ask c who x e =
      let mine : is_for_it c portion ≡ true = rw (interface_said q q_long P R bytes P_fits R_fits) who in
      rw (is_report q q_long P R bytes P_fits R_fits, mine, e, said, eq-eqb (length portion) (20 + P) length_said)

-- a total that is not different from before
not_different : (b : Bool) (x y : ℕ) → (b ≡ true → y ≡ x) → b && not (eqb x y) ≡ false
not_different true x y f = rw (eq-eqb x y (sym (f refl)))
not_different false x y f = refl

module _ (id : ℕ) (whole : List ℕ) (small : length whole ≤ most_report) (c : Collection) (h : Holds id whole c) where
  module _ (q : List ℕ) (q_long : 16 ≤ length q) (who : same (identity_of id) (identity_at q 4) ≡ true) (asked : ℕ) where
    mine : same (identity_of c.id) (identity_at q 4) ≡ true
    mine = rw h.id_is who

    -- asked elsewhere, once a reply was taken, it is refused: its total is different
    pub elsewhere : (at : ℕ) (inside : at < length whole) → c.begun ≡ true → (at ≡ c.held → ⊥) → portion_verdict c (portion whole small q q_long at asked inside) ≡ Err TotalDifferent
    elsewhere at inside b n =
        let x = c.held + (length whole - at) in
        let other : x ≡ c.total → ⊥ = λ e. n (omega (arith, h.begun_with b, h.within)) in
        to_ask whole small q q_long at asked inside c mine x (total_said_lem whole small q q_long at asked inside c) ∙ rw (b, ne_eqb x c.total other)

  -- asked at its OFFSET
  module _ (q : List ℕ) (q_long : 16 ≤ length q) (who : same (identity_of id) (identity_at q 4) ≡ true) (asked : ℕ) (inside : c.held < length whole) where
    abbrev n : ℕ
    n = portion_length (length whole) c.held asked

    abbrev new : List ℕ
    new = part whole c.held n

    abbrev reply : List ℕ
    reply = portion whole small q q_long c.held asked inside

    n_ends : c.held + n ≤ length whole
    n_ends = omega arith

    long : length new ≡ n
    long = length_part whole c.held n n_ends

    total_is : total_said c reply ≡ length whole
    total_is = total_said_lem whole small q q_long c.held asked inside c ∙ omega arith

    -- it is taken
    pub is_taken_lem : portion_verdict c reply ≡ Ok tt
    is_taken_lem =
        to_ask whole small q q_long c.held asked inside c (mine q q_long who asked) (length whole) total_is
        ∙ rw (not_different c.begun (length whole) c.total h.begun_with, le-ltb most_report (length whole) small)

    -- and this is what it makes of the collector
    grows : collected c reply ≡ record { id = c.id; bytes = over c.held new c.bytes; held = c.held + n; begun = true; total = length whole }
    unfolding collected grown
    grows =
        rw (is_taken_lem, total_is, said whole small q q_long c.held asked inside, bytes_in whole small q q_long c.held asked inside)

    -- the front of the report, longer by the portion
    longer : take (c.held + n) (over c.held new c.bytes) ≡ take (c.held + n) whole
    unfolding over part
    longer =
        let fits : c.held ≤ length c.bytes = omega (arith, h.room, h.within) in
        let front : length (take c.held c.bytes ++ new) ≡ c.held + n = rw (length-append, length-take-le c.held c.bytes fits, long) in
        take_at (take c.held c.bytes ++ new) (drop (c.held + length new) c.bytes) (c.held + n) front
        ∙ ap (λ (x : List ℕ). x ++ new) h.front
        ∙ sym (take-add c.held n whole)

    pub still_holds : Holds id whole (collected c reply)
    still_holds =
        rw grows
        (record {
          id_is = h.id_is;
          room = length_over c.held new c.bytes (omega (arith, long, h.room, n_ends)) ∙ h.room;
          within = n_ends;
          front = longer;
          begun_with = λ e. refl;
          not_begun = λ e. clash e;
        })

    -- it holds more by what was asked for
    pub holds_more : min (c.held + min asked most_portion) (length whole) ≤ (collected c reply).held
    holds_more = rw grows (omega arith)

  -- ---- finished, or not

  pub finished_all : finished c ≡ true → held_bytes c ≡ whole
  finished_all f =
      let b = and_left c.begun (eqb c.held c.total) f in
      let e = eqb-true c.held c.total (and_right c.begun (eqb c.held c.total) f) in
      h.front ∙ ap (λ (n : ℕ). take n whole) (e ∙ h.begun_with b) ∙ take-length whole

  pub not_finished : 0 < length whole → finished c ≡ false → c.held < length whole
  not_finished some f = by c.begun refl
    where
      by : (b : Bool) → c.begun ≡ b → c.held < length whole
      by false e = omega (arith, h.not_begun e)
      by true e = go (eqb c.held c.total) refl
        where
          go : (d : Bool) → eqb c.held c.total ≡ d → c.held < length whole
          go true x = clash (sym (rw (e, x)) ∙ f)
          go false x = omega (arith, h.within, eqb-false c.held c.total x, h.begun_with e)

  -- held to the end it is finished
  pub full_finished : 0 < length whole → length whole ≤ c.held → finished c ≡ true
  full_finished some full = by c.begun refl
    where
      by : (b : Bool) → c.begun ≡ b → finished c ≡ true
      by false e = absurd (omega (arith, h.not_begun e))
      by true e = rw (e, eq-eqb c.held c.total (omega (arith, h.within, h.begun_with e)))
