-- A report, collected: the request, the table after it, and what the collector holds. Assumes nothing.
use Rattle.std.specs.Prelude.{if◌then◌else◌, Result}
use Rattle.std.proofs.Common.{ℕ, ◌≤◌, ◌<◌, Bool, true, false, List, ◌≡◌, refl, sym, ap, ◌∙◌, take, arith}
use Rattle.compare.specs.Requests.{report_request}
use Rattle.rules.specs.Call.{answer_value, step}
use Rattle.rules.specs.Collector.{Collection, fresh, next_offset, finished, portion_verdict, is_taken, grown, collected}
use Rattle.rules.specs.Report.{most_report}
use Rattle.rules.specs.Request.{kind_of}
use Rattle.rules.proofs.Collections.{takes}
use Rattle.rules.proofs.ServedCall.{report_leaves}
use Rattle.script.specs.declared.settings.Settings.{Settings}
use Rattle.calls.specs.Made.{request_by, Gets, reply_of, asked_once, Asks, stops, ends, goes_on}
use Rattle.rules.specs.declared.Refusal.{Refusal}

-- a request for a report leaves the table
pub table_stays : (q buffer t t' : List ℕ) (s : Settings) (r : Result ℕ Refusal) → Gets (step (request_by q s) t) r buffer t'
    → (id offset asked : ℕ) → q ≡ report_request id offset asked → t' ≡ t
table_stays q buffer t t' s r g id offset asked e = g.table_is ∙ report_leaves _ t (ap kind_of e)

-- and gives the collector its reply
pub asked_once_lem : (q buffer t t' : List ℕ) (s : Settings) (r : Result ℕ Refusal) → Gets (step (request_by q s) t) r buffer t'
    → (c d : Collection) (offset asked n : ℕ) → offset ≡ next_offset c → q ≡ report_request c.id offset asked → n ≡ answer_value r
    → d ≡ collected c (take n buffer) → d ≡ asked_once c asked s t
asked_once_lem q buffer t t' s r g c d offset asked n o e f h =
    h ∙ ap (collected c) (rw (f, g.value_is, g.buffer_is))
    ∙ ap (λ (p : List ℕ). collected c (reply_of (step (request_by p s) t))) (e ∙ ap (λ (k : ℕ). report_request c.id k asked) o)

-- 200 bytes at most are held, whatever is replied
most_held : (c : Collection) (p : List ℕ) → c.held ≤ most_report → (collected c p).held ≤ most_report
unfolding collected grown
most_held c p h = by (is_taken (portion_verdict c p)) refl
  where
    by : (b : Bool) → is_taken (portion_verdict c p) ≡ b → (if b then grown c p else c).held ≤ most_report
    by true f = omega (arith, (takes c p f).most)
    by false f = h

pub holds_most : (c : Collection) (p : List ℕ) (id : ℕ) (bytes : List ℕ) (held : ℕ) (begun : Bool) (total : ℕ)
    → ◌≡◌ {A = Collection} (record { id = id; bytes = bytes; held = held; begun = begun; total = total }) (collected c p)
    → c.held ≤ most_report → held ≤ most_report
holds_most c p id bytes held begun total e h = let same : held ≡ (collected c p).held = ap (λ (d : Collection). d.held) e in omega (arith, most_held c p h)

-- a new collector holds nothing
pub starts_empty : (of id : ℕ) (bytes : List ℕ) (held : ℕ) (begun : Bool) (total : ℕ)
    → ◌≡◌ {A = Collection} (record { id = id; bytes = bytes; held = held; begun = begun; total = total }) (fresh of) → held ≤ most_report
starts_empty of id bytes held begun total e = let none : held ≡ 0 = ap (λ (d : Collection). d.held) e in omega arith

-- ---- ask after ask

module _ (asked : ℕ) (s : Settings) (t : List ℕ) where
  -- what is asked from c on answers for all that was asked from a on
  abbrev pub Left : Collection → Collection → Type 0
  Left a c = (d : Collection) → Asks asked s t c d → Asks asked s t a d

  pub at_first : (a c : Collection) → c ≡ a → Left a c
  at_first a c e d f = rw e at f

  module _ (u : List ℕ) (a c d : Collection) (same : u ≡ t) (left : Left a c) (e : d ≡ asked_once c asked s u) where
    once : d ≡ asked_once c asked s t
    once = e ∙ ap (asked_once c asked s) same

    pub stood : d.held ≤ c.held → Asks asked s t a d
    stood h = left d (stops once h)

    pub ended : (b : Bool) → b ≡ finished d → b ≡ true → Asks asked s t a d
    ended b f h = left d (ends once (sym f ∙ h))

    pub went_on : c.held < d.held → (b : Bool) → b ≡ finished d → b ≡ false → Left a d
    went_on g b f h x y = left x (goes_on once g (sym f ∙ h) y)
