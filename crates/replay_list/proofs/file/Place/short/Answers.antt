use Rattle.replay_list.proofs.Laws.{short_of}
use Rattle.std.proofs.Common.{rules}
use Rattle.replay_list.proofs.file.Place.short.Goals as goal

-- `replay_list::file::Place::short` meets its contract: the bytes are there where the number is.
pub returns : goal.returns
returns c = short_of c.args.self.list.now c.args.self.at c.bytes.result c.map_or.result _ (λ y p. search rules) c.bytes.ensures c.map_or.ensures
