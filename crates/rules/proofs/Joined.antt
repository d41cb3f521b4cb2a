-- A table's records put together again, and one of them put in its place. The laws of `cut` and `join` hold at any width. Assumes nothing.
use mathlib.Core.Path.{◌≡◌, refl, sym, ◌∙◌}
use mathlib.Core.List.{List, [], ◌∷◌, ◌++◌, append_assoc}
use Prim.Native.Nat.{ℕ, zero, suc, ◌+◌, ◌*◌, ◌/◌, ◌≤◌, ◌<◌}
use native.Mathlib.Nat.{le_of_suc-le-suc, not-suc-le-zero, suc-mul, zero-mul, zero-add, add_comm, add_assoc}
use native.Mathlib.Omega.{arith}
use lib.ListN.{length, take, drop, set, length-append, length-drop, take-append-drop}
use lib.Seq.{take_at, drop_at, take-add, drop-drop, length-take-le}
use Rattle.rules.specs.Bytes.{over}
use Rattle.rules.specs.Record.{Rec}
use Rattle.rules.specs.Table.{cut, records, record_bytes}
use Rattle.rules.specs.Call.{join}

-- records of w bytes each
infixr 20 ◌and◌
pub data Sized (w : ℕ) : List Rec → Type 0 where
  none_left : Sized w []
  ◌and◌ : {r : Rec} {rs : List Rec} → length r ≡ w → Sized w rs → Sized w (r ∷ rs)

-- ---- at any width

no_bytes : (t : List ℕ) → length t ≡ 0 → [] ≡ t
no_bytes [] h = refl
no_bytes (x ∷ t) h = absurd (omega arith)

module _ (w : ℕ) where
  sized_set : (rs : List Rec) (k : ℕ) (r : Rec) → Sized w rs → length r ≡ w → Sized w (set rs k r)
  sized_set [] k r s p = none_left
  sized_set (x ∷ rs) zero r (q and s) p = p and s
  sized_set (x ∷ rs) (suc k) r (q and s) p = q and sized_set rs k r s p

  sized_cut : (n : ℕ) (t : List ℕ) → n * w ≤ length t → Sized w (cut w n t)
  unfolding cut
  sized_cut zero t h = none_left
  sized_cut (suc n) t h =
      let l = rw suc-mul at h in
      length-take-le w t (omega arith) and sized_cut n (drop w t) (simp length-drop (omega arith))

  -- less the first piece
  rest_length : (n : ℕ) (t : List ℕ) → length t ≡ suc n * w → length (drop w t) ≡ n * w
  rest_length n t h = let l = rw suc-mul at h in simp length-drop (omega arith)

  join_cut : (n : ℕ) (t : List ℕ) → length t ≡ n * w → join (cut w n t) ≡ t
  unfolding cut join
  join_cut zero t h = no_bytes t (h ∙ zero-mul w)
  join_cut (suc n) t h = rw (join_cut n (drop w t) (rest_length n t h)) (take-append-drop w t)

  cut_join : (rs : List Rec) → Sized w rs → cut w (length rs) (join rs) ≡ rs
  unfolding cut join
  cut_join [] s = refl
  cut_join (r ∷ rs) (p and s) = rw (take_at r (join rs) w p, drop_at r (join rs) w p, cut_join rs s)

  sized_join : {rs : List Rec} → Sized w rs → length (join rs) ≡ length rs * w
  unfolding join
  sized_join none_left = sym (zero-mul w)
  sized_join (p and s) = rw (length-append, p, sized_join s, suc-mul, add_comm w)

  over_zero : (r t : List ℕ) → over (zero * w) r t ≡ r ++ drop (length r) t
  unfolding over
  over_zero r t = rw (zero-mul, zero-add)

  over_suc : (k : ℕ) (r t : List ℕ) → over (suc k * w) r t ≡ take w t ++ over (k * w) r (drop w t)
  unfolding over
  over_suc k r t =
      rw (suc-mul, add_comm (k * w) w, take-add w (k * w) t, drop-drop (k * w + length r) w t, add_assoc) (simp append_assoc)

  put_cut : (n k : ℕ) (r t : List ℕ) → length r ≡ w → k < n → length t ≡ n * w → join (set (cut w n t) k r) ≡ over (k * w) r t
  unfolding cut join
  put_cut zero k r t p h e = absurd (not-suc-le-zero h)
  put_cut (suc n) zero r t p h e = rw (join_cut n (drop w t) (rest_length n t e), over_zero, p)
  put_cut (suc n) (suc k) r t p h e = rw (over_suc, put_cut n k r (drop w t) p (le_of_suc-le-suc h) (rest_length n t e))

-- ---- at a record's

-- a table's records have 256 bytes each,
pub sized_records : (t : List ℕ) → Sized record_bytes (records t)
unfolding records
sized_records t = sized_cut record_bytes (length t / record_bytes) t (omega arith)

-- a table's records, joined, are the table
pub join_records : (t : List ℕ) → length t ≡ length t / record_bytes * record_bytes → join (records t) ≡ t
unfolding records
join_records t w = join_cut record_bytes (length t / record_bytes) t w

-- the length of records, joined
pub length_join : {rs : List Rec} → Sized record_bytes rs → length (join rs) ≡ length rs * record_bytes
length_join s = sized_join record_bytes s

-- records, joined, are the records of a table
pub records_join : (rs : List Rec) → Sized record_bytes rs → records (join rs) ≡ rs
unfolding records
records_join rs s =
    let l = length_join s in
    let n : length (join rs) / record_bytes ≡ length rs = omega arith in
    rw n (cut_join record_bytes rs s)

-- one record put in the list is its bytes written over the table
pub put_record : (t : List ℕ) (k : ℕ) (r : Rec) → length t ≡ length t / record_bytes * record_bytes → k < length t / record_bytes → length r ≡ record_bytes
    → join (set (records t) k r) ≡ over (k * record_bytes) r t
unfolding records
put_record t k r w h p = put_cut record_bytes (length t / record_bytes) k r t p h w

-- and so have they with one of 256 bytes put in
pub sized_records_set : (t : List ℕ) (k : ℕ) (r : Rec) → length r ≡ record_bytes → Sized record_bytes (set (records t) k r)
sized_records_set t k r p = sized_set record_bytes (records t) k r (sized_records t) p

-- the records of a table in which one was put
pub records_set : (t : List ℕ) (k : ℕ) (r : Rec) → length t ≡ length t / record_bytes * record_bytes → length r ≡ record_bytes → k < length t / record_bytes
    → records (join (set (records t) k r)) ≡ set (records t) k r
records_set t k r w p h = records_join (set (records t) k r) (sized_records_set t k r p)
