-- The checks of a request: a law for each way out, and what a request that is to be served tells. Assumes nothing.
use Rattle.std.specs.Prelude.{Err, None, Ok, Option, Result, Some}
use mathlib.Core.Path.{◌≡◌, sym, ◌∙◌}
use mathlib.Core.List.{List}
use Prim.Native.Nat.{ℕ, ◌/◌, ◌<◌}
use native.Mathlib.Omega.{arith}
use Rattle.std.proofs.lemmas.Grind.{common_steps}
use lib.ListN.{length}
use Rattle.rules.specs.Bytes.{byte}
use Rattle.rules.specs.Identity.{identity_at}
use Rattle.rules.specs.Record.{Rec}
use Rattle.rules.specs.Request.{kind_of, exact_length, verdict}
use Rattle.rules.specs.Table.{records, record_bytes, find}
use Rattle.rules.specs.declared.Identity.{Identity}
use Rattle.rules.proofs.Lookup.{find_at}
use Rattle.rules.proofs.Records.{length_records}
use Rattle.rules.specs.declared.RequestError.{RequestError}
use Rattle.rules.specs.declared.RequestError.TheVariants.{InvalidRequest, UnsupportedRequest, VersionMismatch, InvalidInterface}

module _ (q : List ℕ) (rs : List Rec) where
  pub wrong_version : (byte q 0 ≡ 0x10 → ⊥) → Err VersionMismatch ≡ verdict q rs
  unfolding verdict
  wrong_version v = grind (arith, common_steps)

  module _ (exact : ℕ) (v : byte q 0 ≡ 0x10) (told : exact ≡ exact_length (kind_of q)) where
    pub unlisted : (d : ℕ) → exact ≡ 0 → d ≡ kind_of q → Err (UnsupportedRequest d) ≡ verdict q rs
    unfolding verdict
    unlisted d z e = grind (arith, common_steps)

    pub wrong_length : (exact ≡ 0 → ⊥) → (length q ≡ exact → ⊥) → Err InvalidRequest ≡ verdict q rs
    unfolding verdict
    wrong_length z n = grind (arith, common_steps)

    module _ (i : Identity) (f : Option ℕ) (z : exact ≡ 0 → ⊥) (n : length q ≡ exact) (i-is : i ≡ identity_at q 4) (f-is : f ≡ find i rs) where
      pub known : (k : ℕ) → f ≡ Some k → Ok k ≡ verdict q rs
      unfolding verdict
      known k e = grind (arith, common_steps)

      pub unknown : f ≡ None → Err InvalidInterface ≡ verdict q rs
      unfolding verdict
      unknown e = grind (arith, common_steps)

-- ---- a request that is to be served

-- its version is 10h, its length is its type's, which is listed, and its interface is record k's
pub record ToServe (q : List ℕ) (rs : List Rec) (k : ℕ) : Type 0 where
  pub version : byte q 0 ≡ 0x10
  pub listed : exact_length (kind_of q) ≡ 0 → ⊥
  pub exact : length q ≡ exact_length (kind_of q)
  pub found : find (identity_at q 4) rs ≡ Some k

to_serve : (k : ℕ) (q : List ℕ) (rs : List Rec) → verdict q rs ≡ Ok k → ToServe q rs k
unfolding verdict
to_serve k q rs e = record {
  version = grind (arith, common_steps);
  listed = λ z. grind (arith, common_steps);
  exact = grind (arith, common_steps);
  found = grind (arith, common_steps);
}

module _ (k : ℕ) (v : Result ℕ RequestError) (q t : List ℕ) (told : v ≡ verdict q (records t)) (serve : v ≡ Ok k) where
  pub serves : ToServe q (records t) k
  serves = to_serve k q (records t) (sym told ∙ serve)

  pub within : k < length t / record_bytes
  within = let i = find_at (identity_at q 4) k (records t) serves.found in omega (arith, length_records t, i.within)

  pub right_length : length q ≡ exact_length (kind_of q)
  right_length = serves.exact
