use Rattle.replay_list.proofs.Laws.{long_of}
use Rattle.std.proofs.Common.{rules}
use Rattle.replay_list.proofs.file.Place.long.Goals as goal

-- `replay_list::file::Place::long` meets its contract: the bytes are there where the number is.
pub returns : goal.returns
returns c = long_of c.args.self.list.now c.args.self.at c.bytes.result c.map_or.result _ (λ y p. search rules) c.bytes.ensures c.map_or.ensures
