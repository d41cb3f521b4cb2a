-- The end of a buffer, lent and back. Assumes nothing.
use mathlib.Core.Path.{◌≡◌}
use mathlib.Core.List.{List, ◌++◌, append_assoc, append-nil}
use Prim.Native.Nat.{ℕ, ◌+◌, ◌-◌}
use lib.ListN.{length, take, drop, length-drop}
use lib.Seq.{drop-drop, take-length, drop-length}
use borrow.Rule.Slice.PartMut.{put_mid}
use Rattle.rules.specs.Bytes.{over}

pieces : (at : ℕ) (new s : List ℕ) → over at new s ≡ take at s ++ (new ++ drop (length new) (drop at s))
unfolding over
pieces at new s = rw drop-drop (append_assoc (take at s) new (drop (at + length new) s))

front : (new s : List ℕ) → over 0 new s ≡ new ++ drop (length new) s
front = pieces 0

-- `new`, written at the front of `&mut s[at..]`, is written at that place of the whole
pub tail_back : (at : ℕ) (new s x : List ℕ) → x ≡ over 0 new (take (length s - at) (drop at s)) → put_mid at (length s - at) s x ≡ over at new s
tail_back at new s x e = rw (e, front, pieces at new s, ← length-drop at s, take-length, drop-length, append-nil)
