-- A setting, made. Assumes nothing.
use Rattle.std.proofs.Common.{◌≡◌, List, ℕ}
use Rattle.script.specs.Settings.{set_by}
use Rattle.script.specs.declared.settings.Setting.{Setting}
use Rattle.script.specs.declared.settings.Settings.{Settings}

pub set_by_lem : (setting w : Setting) (bytes : List ℕ) (s r : Settings) → setting ≡ w → r ≡ set_by w bytes s → r ≡ set_by setting bytes s
set_by_lem setting w bytes s r e f = rw e f
