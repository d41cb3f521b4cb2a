-- What a reply says of itself, as `rules` reads it. No rule stands here.
use Rattle.std.specs.Prelude.{◌≡◌, true, List, ℕ}
use Rattle.rules.specs.Collector.{portion_said, remainder_said, is_report_reply}
use Rattle.rules.specs.Identity.{identity_at}
use Rattle.collector.specs.declared.reply.Said.{Said}

-- a report reply, and what was read of it
pub record Says (p : List ℕ) (s : Said) : Type 0 where
  pub is_report : is_report_reply p ≡ true
  pub interface_is : s.interface ≡ identity_at p 4
  pub portion_is : s.portion ≡ portion_said p
  pub remainder_is : s.remainder ≡ remainder_said p
