-- A record that a change is made to, lent and back. Assumes nothing.
use Rattle.std.proofs.Common.{◌≡◌, Bool, List, [], ◌∷◌, ◌++◌, ℕ, ◌*◌, ◌/◌, ◌<◌, length, take, drop, set}
use Rattle.rules.specs.Call.{join}
use Rattle.rules.specs.Change.{moved, differing}
use Rattle.rules.specs.Record.{Rec}
use Rattle.rules.specs.Table.{records, record_at, record_bytes}
use Rattle.rules.proofs.Lending.{lent_is, back_is}
use Rattle.rules.proofs.Moved.{length_moved}
use Rattle.rules.proofs.Records.{length_record}

module _ (p : Rec → Bool) (t : List ℕ) (k : ℕ) (h : k < length t / record_bytes) (front rest r r' : List ℕ)
    (front-is : front ≡ take (k * record_bytes) t) (rest-is : rest ≡ drop (k * record_bytes) t) (r-is : r ≡ take record_bytes rest)
    (moves : r' ≡ moved p r) where
  lent : r ≡ record_at t k
  lent = lent_is t k h rest rest-is r r-is

  pub record_back : length t ≡ length t / record_bytes * record_bytes
      → front ++ (r' ++ drop record_bytes rest) ≡ join (set (records t) k (moved p (record_at t k)))
  record_back steps =
      let long : length (moved p (record_at t k)) ≡ record_bytes = length_moved p (record_at t k) (length_record t k h) in
      rw (moves, lent) (back_is t k h rest rest-is front (moved p (record_at t k)) front-is steps long)

  pub record_counts : (n : ℕ) → n ≡ differing (r ∷ []) (r' ∷ []) → n ≡ differing (record_at t k ∷ []) (moved p (record_at t k) ∷ [])
  record_counts n c = rw (← lent, ← moves) c
