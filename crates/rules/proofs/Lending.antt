-- Parts of bytes lent on, and the whole when they come back. Assumes nothing.
use Rattle.std.proofs.Common.{◌≡◌, sym, List, ◌++◌, append_assoc, ℕ, ◌+◌, ◌*◌, ◌/◌, ◌-◌, ◌<◌, length, take, drop, set, arith}
use Rattle.std.proofs.Math.Seq.{drop-drop}
use borrow.Rule.Slice.PartMut.{put_mid}
use Rattle.rules.specs.Bytes.{part, over}
use Rattle.rules.specs.Call.{join}
use Rattle.rules.specs.Record.{Rec}
use Rattle.rules.specs.Table.{records, record_at, record_bytes}
use Rattle.rules.proofs.Joined.{put_record}
use Rattle.rules.proofs.Records.{record_part}

-- `new`, left in `&mut s[at..at + n]`, is written at that place of the whole
pub part_back : (at n : ℕ) (new s : List ℕ) → length new ≡ n → put_mid at (at + n - at) s new ≡ over at new s
unfolding over
part_back at n new s e =
    let m : at + n - at ≡ length new = omega arith in
    rw (m, drop-drop (length new) at s) (simp append_assoc)

-- so is `new`, left between what stands before the place and what stands behind
pieces : (at n : ℕ) (new s : List ℕ) → length new ≡ n → take at s ++ (new ++ drop n (drop at s)) ≡ over at new s
unfolding over
pieces at n new s e = rw (drop-drop, ← e) (sym (append_assoc (take at s) new _))

-- a record lent as the first chunk of `rest`, which stands behind the records before it, `front`
module _ (t : List ℕ) (k : ℕ) (h : k < length t / record_bytes) (rest : List ℕ) (rest-is : rest ≡ drop (k * record_bytes) t) where
  pub lent_is : (r : Rec) → r ≡ take record_bytes rest → r ≡ record_at t k
  unfolding part
  lent_is r r-is = rw (r-is, rest-is) (record_part t k h)

  pub back_is : (front : List ℕ) (new : Rec) → front ≡ take (k * record_bytes) t → length t ≡ length t / record_bytes * record_bytes → length new ≡ record_bytes
      → front ++ (new ++ drop record_bytes rest) ≡ join (set (records t) k new)
  back_is front new front-is steps long = rw (front-is, rest-is, pieces (k * record_bytes) record_bytes new t long) (sym (put_record t k new steps h long))
