-- Document 02, 2/12: what taking and refusing do to a collector, whatever the replies are, honest or not: 02's sentences, one by one, stated of any
-- collector: what it finds of a reply, and what becomes of it.
use Rattle.std.specs.Prelude.{◌≡◌, true, not, ◌&&◌, ◌||◌, List, [], ◌∷◌, ◌++◌, ℕ, ◌+◌, ◌-◌, ◌≤◌, eqb, ltb, length, drop, Ok, Result}
use Rattle.rules.specs.Bytes.{byte, num, blank}
use Rattle.rules.specs.Collector.{Collection, fresh, held_bytes, finished, portion_number, portion_verdict, collected}
use Rattle.rules.specs.Identity.{identity_of, identity_at, same}
use Rattle.rules.specs.Report.{most_report}
use Rattle.rules.specs.declared.PortionRefusal.{PortionRefusal}
use Rattle.demands.specs.Answers.{Line, line, first_of}

-- ---- collectors

pub record Collecting : Type 0 where
  pub finds : Collection → List ℕ → Result Unit PortionRefusal
  pub after : Collection → List ℕ → Collection

-- the right one: what `take` promises to return
abbrev pub collecting : Collecting
collecting = record { finds = portion_verdict; after = collected }

-- ---- the names, in 02's order, by the C interface's numbers

-- the bytes held plus portion plus remainder
abbrev pub said_total : Collection → List ℕ → ℕ
said_total c p = c.held + num p 16 2 + num p 18 2

-- 30 not a report reply (under 20 bytes, other version or type); 31 other interface; 32 length not as the portion says; 33 total different from
-- before, if there is a before; 34 total over 200
abbrev pub portion_lines : Collection → List ℕ → List Line
portion_lines c p =
    line 30 (ltb (length p) 20 || (not (eqb (byte p 0) 0x10) || not (eqb (byte p 1) 0x04)))
    ∷ line 31 (not (same (identity_of c.id) (identity_at p 4)))
    ∷ line 32 (not (eqb (length p) (20 + num p 16 2)))
    ∷ line 33 (c.begun && not (eqb (said_total c p) c.total))
    ∷ line 34 (ltb 200 (said_total c p))
    ∷ []

-- ---- what becomes of it

module _ (x : Collecting) where
  -- a collector after any replies
  unfoldable pub after_all : List (List ℕ) → Collection → Collection
  after_all [] c = c
  after_all (p ∷ ps) c = after_all ps (x.after c p)

-- it has as many bytes as it says, 200 at most and no more than the total; places past them are zero
pub record Sound (c : Collection) : Type 0 where
  pub as_many : length (held_bytes c) ≡ c.held
  pub most : c.held ≤ most_report
  pub within_total : c.begun ≡ true → c.held ≤ c.total
  pub rest_zero : drop c.held c.bytes ≡ blank (most_report - c.held)

-- for every collection, also one that no reply led to, and every reply
pub record TakesRightly (x : Collecting) : Type 0 where
  -- It refuses by the first of these names that applies.
  pub name_is : (c : Collection) (p : List ℕ) → portion_number (x.finds c p) ≡ first_of (portion_lines c p)
  -- A refused reply leaves it as it was.
  pub refused_leaves : (c : Collection) (p : List ℕ) → (x.finds c p ≡ Ok tt → ⊥) → x.after c p ≡ c
  -- One that is taken goes behind the bytes held, of which there are 200 places, and moves the count by its portion;
  pub taken_bytes : (c : Collection) (p : List ℕ) → length c.bytes ≡ most_report → x.finds c p ≡ Ok tt → held_bytes (x.after c p) ≡ held_bytes c ++ drop 20 p
  pub taken_counts : (c : Collection) (p : List ℕ) → x.finds c p ≡ Ok tt → (x.after c p).held ≡ c.held + num p 16 2
  -- its total is the "before" of those that come.
  pub taken_fixes : (c : Collection) (p : List ℕ) → x.finds c p ≡ Ok tt → ((x.after c p).begun ≡ true) × ((x.after c p).total ≡ said_total c p)
  -- "Before" is the total of the first reply taken: it stays.
  pub total_stays : (c : Collection) (p : List ℕ) → c.begun ≡ true → (x.after c p).total ≡ c.total
  -- A portion of 0 moves nothing.
  pub zero_moves_nothing : (c : Collection) (p : List ℕ) → num p 16 2 ≡ 0 → ((x.after c p).held ≡ c.held) × ((x.after c p).bytes ≡ c.bytes)
  -- What is finished stays as it is: a reply that is taken then has portion and remainder 0.
  pub finished_stays : (c : Collection) (p : List ℕ) → finished c ≡ true → x.after c p ≡ c
  -- Nothing that arrives makes a fresh one hold too much.
  pub always_sound : (id : ℕ) (ps : List (List ℕ)) → Sound (after_all x ps (fresh id))
