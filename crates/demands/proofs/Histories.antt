-- Demand 3, RUN, proved of `step`. Assumes nothing.
use Rattle.std.specs.Prelude.{None, Option, Some}
use mathlib.Core.Path.{◌≡◌, refl, sym, ap, ◌∙◌}
use mathlib.Core.Logic.{◌⊎◌, inl, inr, ⊎_elim}
use mathlib.Core.Bool.{true, false}
use mathlib.Core.List.{List, [], ◌∷◌, ◌++◌}
use Prim.Native.Nat.{ℕ}
use native.Mathlib.Omega.{arith}
use borrow.Author.Tests.{eqb-true}
use lib.ListN.{length, drop}
use Rattle.rules.specs.Call.{Call, step}
use Rattle.rules.specs.Change.{live}
use Rattle.rules.specs.Record.{Rec, state}
use Rattle.rules.specs.Table.{records, record_at, all, find}
use Rattle.rules.specs.declared.Identity.{Identity}
use Rattle.rules.proofs.Bools.{clash}
use Rattle.rules.proofs.Lookup.{all_at, find_at}
use Rattle.demands.specs.Machine.{Seen, seen, run, trace, Each, none_left, ◌and◌}
use Rattle.demands.specs.Histories.{Terms, AcceptedLock, ServedStart, Ends, Lasts, RanSince, InRun, unlocked, RunExactlyWhen}
use Rattle.demands.proofs.Lookups.{place_stays}
use Rattle.demands.proofs.Turns.{terms, Locked, Runs, live_in, Turn, turn}
use Rattle.demands.proofs.Tells.{locked_by, started_by, ended_by, no_lock}

module _ (i : Identity) where
  -- ---- from RUN to the history: what the rest of a history tells, by what the record is before it

  -- a start with the nonce comes, and nothing ends it from here on
  record StartsWith (n : List ℕ) (on : Terms) (es : List Seen) : Type 0 where
    middle : List Seen
    start : Seen
    after : List Seen
    whole : es ≡ middle ++ (start ∷ after)
    started : ServedStart i n start
    lasting : Lasts i on (middle ++ (start ∷ after))

  later : (e : Seen) {es : List Seen} → RanSince i es → RanSince i (e ∷ es)
  later e s = record {
    before = e ∷ s.before;
    lock = s.lock;
    middle = s.middle;
    start = s.start;
    after = s.after;
    nonce = s.nonce;
    on = s.on;
    whole = ap (λ (x : List Seen). e ∷ x) s.whole;
    locked = s.locked;
    started = s.started;
    lasting = s.lasting;
  }

  from_lock : (e : Seen) {es : List Seen} (n : List ℕ) (on : Terms) → AcceptedLock i n on e → StartsWith n on es → RanSince i (e ∷ es)
  from_lock e n on a s = record {
    before = [];
    lock = e;
    middle = s.middle;
    start = s.start;
    after = s.after;
    nonce = n;
    on = on;
    whole = ap (λ (x : List Seen). e ∷ x) s.whole;
    locked = a;
    started = s.started;
    lasting = s.lasting;
  }

  one_more : (e : Seen) {es : List Seen} (n : List ℕ) (on : Terms) → (Ends i on e → ⊥) → StartsWith n on es → StartsWith n on (e ∷ es)
  one_more e n on q s = record {
    middle = e ∷ s.middle;
    start = s.start;
    after = s.after;
    whole = ap (λ (x : List Seen). e ∷ x) s.whole;
    started = s.started;
    lasting = q and s.lasting;
  }

  starts_here : (e : Seen) {es : List Seen} (n : List ℕ) (on : Terms) → (Ends i on e → ⊥) → ServedStart i n e → Lasts i on es → StartsWith n on (e ∷ es)
  starts_here e {es} n on q s l = record {
    middle = [];
    start = e;
    after = es;
    whole = refl;
    started = s;
    lasting = q and l;
  }

  record Tells (r : Rec) (es : List Seen) : Type 0 where
    if_dead : live r ≡ false → RanSince i es
    if_locked : (n : List ℕ) (on : Terms) → Locked n on r → StartsWith n on es ⊎ RanSince i es
    if_running : (on : Terms) → Runs on r → Lasts i on es ⊎ RanSince i es

  locked_live : {n : List ℕ} {on : Terms} (r : Rec) → Locked n on r → live r ≡ true
  locked_live r l = live_in r 1 l.state_is

  running_live : {on : Terms} (r : Rec) → Runs on r → live r ≡ true
  running_live r l = live_in r 2 l.state_is

  module _ (t : List ℕ) (k : ℕ) (found : find i (records t) ≡ Some k) (c : Call) where
    abbrev r : Rec
    r = record_at t k

    abbrev r' : Rec
    r' = record_at (step c t).table k

    abbrev e : Seen
    e = seen step c t

    -- what leaves the record live did not end it
    not_ended : (on : Terms) → live r ≡ true → terms r ≡ on → live r' ≡ true → Ends i on e → ⊥
    not_ended on a q b x = clash (sym b ∙ ended_by i t k found c a (rw (← q) at x))

    -- one call more at the front
    tells_more : (es : List Seen) → Turn i e r r' → Tells r' es → Tells r (e ∷ es)
    tells_more es (Turn.stays q) s = record {
      if_dead = λ d. later e (s.if_dead (rw q d));
      if_locked = λ n on l. ⊎_elim (λ x. inl (one_more e n on (not_ended on (locked_live r l) l.terms_are (rw q (locked_live r l))) x)) (λ x. inr (later e x)) (s.if_locked n on (rw q l));
      if_running = λ on l. ⊎_elim (λ x. inl (not_ended on (running_live r l) l.terms_are (rw q (running_live r l)) and x)) (λ x. inr (later e x)) (s.if_running on (rw q l));
    }
    tells_more es (Turn.locks n on z a l) s =
        let ran : RanSince i (e ∷ es) = ⊎_elim (λ x. from_lock e n on a x) (λ x. later e x) (s.if_locked n on l) in
        record { if_dead = λ d. ran; if_locked = λ m o x. inr ran; if_running = λ o x. inr ran }
    tells_more es (Turn.starts z a q l) s = record {
      if_dead = λ d. clash (sym (live_in r 1 z) ∙ d);
      if_locked = λ n on x.
          ⊎_elim
          (λ y. inl (starts_here e n on (not_ended on (locked_live r x) x.terms_are (running_live r' l)) (rw x.nonce_is at a) y))
          (λ y. inr (later e y))
          (s.if_running on (rw x.terms_are at l));
      if_running = λ on x. absurd (omega (arith, z, x.state_is));
    }
    tells_more es (Turn.ends f d) s =
        let ran : RanSince i (e ∷ es) = later e (s.if_dead d) in
        record { if_dead = λ x. ran; if_locked = λ n on x. inr ran; if_running = λ on x. inr ran }

  tells : (h : List Call) (t : List ℕ) (k : ℕ) → find i (records t) ≡ Some k → state (record_at (run step h t) k) ≡ 2 → Tells (record_at t k) (trace step h t)
  unfolding run trace
  tells [] t k found s = record {
    if_dead = λ d. clash (sym (live_in (record_at t k) 2 s) ∙ d);
    if_locked = λ n on l. absurd (omega (arith, s, l.state_is));
    if_running = λ on l. inl none_left;
  }
  tells (c ∷ h) t k found s = tells_more t k found c (trace step h (step c t).table) (turn i t k found c) (tells h (step c t).table k (place_stays c i t ∙ found) s)

  -- ---- from the history to RUN

  -- the place stays
  pub found_after : (h : List Call) (t : List ℕ) → find i (records (run step h t)) ≡ find i (records t)
  unfolding run
  found_after [] t = refl
  found_after (c ∷ h) t = found_after h (step c t).table ∙ place_stays c i t

  -- the first of a trace, and the rest
  abbrev first : Seen → List Seen → Seen
  first e [] = e
  first e (x ∷ xs) = x

  module _ (c : Call) (h : List Call) (t : List ℕ) (x : Seen) (xs : List Seen) (q : trace step (c ∷ h) t ≡ x ∷ xs) where
    first_is : seen step c t ≡ x
    unfolding trace
    first_is = ap (first (seen step c t)) q

    rest_is : trace step h (step c t).table ≡ xs
    unfolding trace
    rest_is = ap (drop 1) q

  no_first : (t : List ℕ) (x : Seen) (xs : List Seen) → trace step [] t ≡ x ∷ xs → ⊥
  unfolding trace
  no_first t x xs q = omega (arith, ap length q)

  all_first : {P : Seen → Type 0} {x : Seen} {xs : List Seen} → Each P (x ∷ xs) → P x
  all_first (p and a) = p

  all_rest : {P : Seen → Type 0} {x : Seen} {xs : List Seen} → Each P (x ∷ xs) → Each P xs
  all_rest (p and a) = a

  module _ (k : ℕ) where
    -- a record that runs goes on running
    still_runs : (on : Terms) (h : List Call) (t : List ℕ) → find i (records t) ≡ Some k → Runs on (record_at t k) → Lasts i on (trace step h t) → Runs on (record_at (run step h t) k)
    unfolding run trace
    still_runs on [] t f r l = r
    still_runs on (c ∷ h) t f r l = still_runs on h (step c t).table (place_stays c i t ∙ f) (go (turn i t k f c)) (all_rest l)
      where
        go : Turn i (seen step c t) (record_at t k) (record_at (step c t).table k) → Runs on (record_at (step c t).table k)
        go (Turn.stays q) = rw q r
        go (Turn.locks n o z a x) = absurd (omega (arith, z, r.state_is))
        go (Turn.starts z a q x) = absurd (omega (arith, z, r.state_is))
        go (Turn.ends g d) = absurd (all_first l (rw r.terms_are at (g (running_live (record_at t k) r))))

    -- a locked record runs once a start with its nonce is served
    middle_runs : (n : List ℕ) (on : Terms) (ms : List Seen) (s : Seen) (xs : List Seen) (h : List Call) (t : List ℕ) → find i (records t) ≡ Some k → Locked n on (record_at t k)
        → trace step h t ≡ ms ++ (s ∷ xs) → ServedStart i n s → Lasts i on (ms ++ (s ∷ xs)) → Runs on (record_at (run step h t) k)
    unfolding run
    middle_runs n on [] s xs [] t f r q a l = absurd (no_first t s xs q)
    middle_runs n on [] s xs (c ∷ h) t f r q a l =
        let e = first_is c h t s xs q in
        still_runs on h (step c t).table (place_stays c i t ∙ f) (started_by i t k f c n on (rw (sym e) at a) r) (rw (sym (rest_is c h t s xs q)) at (all_rest l))
    middle_runs n on (m ∷ ms) s xs [] t f r q a l = absurd (no_first t m (ms ++ (s ∷ xs)) q)
    middle_runs n on (m ∷ ms) s xs (c ∷ h) t f r q a l =
        let rest = rest_is c h t m (ms ++ (s ∷ xs)) q in
        let there = place_stays c i t ∙ f in
        let quiet : Ends i on (seen step c t) → ⊥ = rw (sym (first_is c h t m (ms ++ (s ∷ xs)) q)) at (all_first l) in
        go there (rw (sym rest) at (all_rest l)) quiet (λ x. middle_runs n on ms s xs h (step c t).table there x rest a (all_rest l)) (turn i t k f c)
      where
        go : find i (records (step c t).table) ≡ Some k → Lasts i on (trace step h (step c t).table) → (Ends i on (seen step c t) → ⊥)
            → (Locked n on (record_at (step c t).table k) → Runs on (record_at (run step h (step c t).table) k))
            → Turn i (seen step c t) (record_at t k) (record_at (step c t).table k) → Runs on (record_at (run step h (step c t).table) k)
        go there lasts quiet on-with (Turn.stays p) = on-with (rw p r)
        go there lasts quiet on-with (Turn.locks m o z b x) = absurd (omega (arith, z, r.state_is))
        go there lasts quiet on-with (Turn.starts z b q x) = still_runs on h (step c t).table there (rw r.terms_are at x) lasts
        go there lasts quiet on-with (Turn.ends g d) = absurd (quiet (rw r.terms_are at (g (locked_live (record_at t k) r))))

    -- and so does one that was locked, whatever came before
    lock_runs : (n : List ℕ) (on : Terms) (bs : List Seen) (o : Seen) (ms : List Seen) (s : Seen) (xs : List Seen) (h : List Call) (t : List ℕ) → find i (records t) ≡ Some k
        → trace step h t ≡ bs ++ (o ∷ (ms ++ (s ∷ xs))) → AcceptedLock i n on o → ServedStart i n s → Lasts i on (ms ++ (s ∷ xs)) → Runs on (record_at (run step h t) k)
    unfolding run
    lock_runs n on [] o ms s xs [] t f q b a l = absurd (no_first t o (ms ++ (s ∷ xs)) q)
    lock_runs n on [] o ms s xs (c ∷ h) t f q b a l =
        let e = first_is c h t o (ms ++ (s ∷ xs)) q in
        middle_runs n on ms s xs h (step c t).table (place_stays c i t ∙ f) (locked_by i t k f c n on (rw (sym e) at b)) (rest_is c h t o (ms ++ (s ∷ xs)) q) a l
    lock_runs n on (x ∷ bs) o ms s xs [] t f q b a l = absurd (no_first t x (bs ++ (o ∷ (ms ++ (s ∷ xs)))) q)
    lock_runs n on (x ∷ bs) o ms s xs (c ∷ h) t f q b a l =
        lock_runs n on bs o ms s xs h (step c t).table (place_stays c i t ∙ f) (rest_is c h t x (bs ++ (o ∷ (ms ++ (s ∷ xs)))) q) b a l

  -- an interface that is no record's never was locked
  never_locked : (n : List ℕ) (on : Terms) (bs : List Seen) (o : Seen) (xs : List Seen) (h : List Call) (t : List ℕ) → find i (records t) ≡ None → trace step h t ≡ bs ++ (o ∷ xs)
      → AcceptedLock i n on o → ⊥
  never_locked n on [] o xs [] t f q b = no_first t o xs q
  never_locked n on [] o xs (c ∷ h) t f q b = no_lock i t c n on f (rw (sym (first_is c h t o xs q)) at b)
  never_locked n on (x ∷ bs) o xs [] t f q b = no_first t x (bs ++ (o ∷ xs)) q
  never_locked n on (x ∷ bs) o xs (c ∷ h) t f q b =
      never_locked n on bs o xs h (step c t).table (place_stays c i t ∙ f) (rest_is c h t x (bs ++ (o ∷ xs)) q) b

  -- ---- both

  ran_then_runs : (h : List Call) (t : List ℕ) (f : Option ℕ) → find i (records t) ≡ f → RanSince i (trace step h t) → InRun i (run step h t)
  ran_then_runs h t (Some k) f s =
      record {
        place = k;
        found = found_after h t ∙ f;
        running = (lock_runs k s.nonce s.on s.before s.lock s.middle s.start s.after h t f s.whole s.locked s.started s.lasting).state_is;
      }
  ran_then_runs h t None f s = absurd (never_locked s.nonce s.on s.before s.lock (s.middle ++ (s.start ∷ s.after)) h t f s.whole s.locked)

  runs_then_ran : (h : List Call) (t : List ℕ) → all unlocked (records t) ≡ true → InRun i (run step h t) → RanSince i (trace step h t)
  runs_then_ran h t u x =
      let k = x.place in
      let f : find i (records t) ≡ Some k = sym (found_after h t) ∙ x.found in
      let s : state (record_at t k) ≡ 0 = eqb-true _ _ (all_at unlocked (records t) k u (find_at i k (records t) f).within) in
      (tells h t k f x.running).if_dead (live_in (record_at t k) 0 s)

-- an interface is in RUN exactly when its history says so
pub run_exactly_when : RunExactlyWhen step
run_exactly_when i h t accepted u = (runs_then_ran i h t u, ran_then_runs i h t (find i (records t)) refl)
