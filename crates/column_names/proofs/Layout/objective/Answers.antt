use Rattle.text.proofs.Laws.{written_append}
use Rattle.column_names.proofs.Names.{objective_named}
use Rattle.column_names.proofs.Layout.objective.Goals as goal

pub returns : goal.returns
returns c = simp (objective_named, written_append, c.words-3.ensures, c.kind_name.ensures, c.slot_at.ensures, c.words-2.ensures, c.decimal.ensures, c.words.ensures)
