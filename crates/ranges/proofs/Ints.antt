-- A number of pages, as the machine holds it. Assumes nothing.
use mathlib.Core.Path.{◌≡◌}
use Prim.Native.Nat.{◌^◌, ◌≤◌}
use native.Mathlib.Nat.{lt_of_le_of_lt}
use mir.Facts.{to_z-of_z}
use mir.Syntax.{w64}
use mir.Val.{to_z, of_z}
use lib.Dec.{lit<}
use lib.IntN.{ℤ}
use lib.Signed.{mag}

pub held : (z : ℤ) → mag z ≤ 2 ^ 51 → to_z w64 (of_z w64 z) ≡ z
held z small = to_z-of_z {w = w64} (record { sfits = lt_of_le_of_lt small (lit< tt) })
