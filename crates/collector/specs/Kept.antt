-- What a collector keeps, as `rules` speaks of it: its fields, one by one. No rule stands here.
use Rattle.std.specs.Prelude.{not, eqb}
use Rattle.rules.specs.Collector.{Collection}
use Rattle.collector.specs.declared.Collector.{Collector}

-- the mark of a reply taken is any number but 0
abbrev pub kept : Collector → Collection
kept c = record { id = c.function_id; bytes = c.bytes; held = c.held; begun = not (eqb c.begun 0); total = c.total }
