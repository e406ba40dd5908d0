use Rattle.std.proofs.Common.{rules}
use Rattle.std.proofs.lemmas.List.{length-map}
use Rattle.buffers.proofs.Laws.{row_wrote}
use Rattle.buffers.proofs.row.Goals as goal

pub returns : goal.returns
returns g c = row_wrote c.put_all-u.ensures c.put_right.ensures (search (rules, length-map))
