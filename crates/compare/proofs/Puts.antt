-- One more byte put at its place, or left out. Assumes nothing.
use Rattle.std.proofs.Common.{◌≡◌, ◌+◌, ◌<◌, ◌≤◌, ℕ, List, length, set, take, get_or}
use Rattle.std.proofs.lemmas.List.{take_more, set_past}
use Rattle.std.proofs.lemmas.List.Sums.{fold_push}
use Rattle.compare.specs.Full.{put_each}

module _ (start : List ℕ) (bytes : List (ℕ × ℕ)) (i : ℕ) (s : List ℕ) where
  pub put_more :
      i < length bytes
      → s ≡ put_each start (take i bytes)
      → put_each start (take (i + 1) bytes) ≡ set s (get_or bytes i (0, 0)).0 (get_or bytes i (0, 0)).1
  put_more h e = rw (take_more bytes i (0, 0) h, fold_push, ← e)

  pub put_past :
      i < length bytes
      → s ≡ put_each start (take i bytes)
      → length s ≤ (get_or bytes i (0, 0)).0
      → put_each start (take (i + 1) bytes) ≡ s
  put_past h e past = rw (put_more h e) (set_past s _ _ past)

pub ruleset puts = (put_more, put_past)
