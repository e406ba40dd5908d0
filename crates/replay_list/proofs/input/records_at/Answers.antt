use Rattle.std.proofs.Common.{rules}
use Rattle.replay_list.proofs.Laws.{made}
use mathlib.Core.List.{List}
use mathlib.Core.Path.{ap}
use Rattle.copp3_c.specs.declared.ObjectiveRecord.{ObjectiveRecord}
use Rattle.copp3_c.specs.declared.ObjectiveRecords.{ObjectiveRecords}
use Rattle.replay_list.proofs.input.records_at.Goals as goal

-- `replay_list::input::records_at` meets its contract: each call answers its record.
abbrev from : List ObjectiveRecord → ObjectiveRecords
from l = record { items = l }

pub returns : goal.returns
returns c = ap from (made _ _ _ (λ i y t k. search rules) _ _ c.from_fn.ensures.items)
