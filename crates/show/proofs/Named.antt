-- The name of a number that has none of its own. Assumes nothing.
use Rattle.std.proofs.Common.{◌≡◌, ℕ, codes}
use borrow.Author.Tests.{ne_eqb}
use Rattle.show.specs.Names.{state_name, request_name, reply_name, error_name}

pub no_state : (x : ℕ) → (x ≡ 0 → ⊥) → (x ≡ 1 → ⊥) → (x ≡ 2 → ⊥) → (x ≡ 3 → ⊥)
    → codes "no state:" ≡ codes (state_name x)
no_state x n0 n1 n2 n3 = rw (ne_eqb _ 0 n0, ne_eqb _ 1 n1) (rw (ne_eqb _ 2 n2, ne_eqb _ 3 n3))

pub no_request : (x : ℕ) → (x ≡ 129 → ⊥) → (x ≡ 130 → ⊥) → (x ≡ 131 → ⊥) → (x ≡ 132 → ⊥) → (x ≡ 133 → ⊥) → (x ≡ 134 → ⊥) → (x ≡ 135 → ⊥)
    → codes "of an unlisted type" ≡ codes (request_name x)
no_request x n0 n1 n2 n3 n4 n5 n6 = rw (ne_eqb _ 129 n0, ne_eqb _ 130 n1, ne_eqb _ 131 n2, ne_eqb _ 132 n3) (rw (ne_eqb _ 133 n4, ne_eqb _ 134 n5, ne_eqb _ 135 n6))

pub no_reply : (x : ℕ) → (x ≡ 1 → ⊥) → (x ≡ 2 → ⊥) → (x ≡ 3 → ⊥) → (x ≡ 4 → ⊥) → (x ≡ 5 → ⊥) → (x ≡ 6 → ⊥) → (x ≡ 7 → ⊥)
    → codes "TDISP_ERROR" ≡ codes (reply_name x)
no_reply x n0 n1 n2 n3 n4 n5 n6 = rw (ne_eqb _ 1 n0, ne_eqb _ 2 n1, ne_eqb _ 3 n2, ne_eqb _ 4 n3) (rw (ne_eqb _ 5 n4, ne_eqb _ 6 n5, ne_eqb _ 7 n6))

pub no_error : (x : ℕ) → (x ≡ 1 → ⊥) → (x ≡ 4 → ⊥) → (x ≡ 7 → ⊥) → (x ≡ 65 → ⊥) → (x ≡ 257 → ⊥) → (x ≡ 258 → ⊥) → (x ≡ 259 → ⊥)
    → codes "INVALID_DEVICE_CONFIGURATION" ≡ codes (error_name x)
no_error x n0 n1 n2 n3 n4 n5 n6 = rw (ne_eqb _ 1 n0, ne_eqb _ 4 n1, ne_eqb _ 7 n2, ne_eqb _ 65 n3) (rw (ne_eqb _ 257 n4, ne_eqb _ 258 n5, ne_eqb _ 259 n6))
