use Rattle.text.proofs.Laws.{written_append}
use Rattle.listing.specs.Rows.{row}
use Rattle.listing.proofs.Assembled.row.Goals as goal

pub returns : goal.returns
unfolding row
returns c = simp (written_append, c.words.ensures, c.decimal.ensures, c.words-2.ensures, c.terms.ensures, c.words-3.ensures, c.float_at.ensures, c.number.ensures, c.words-4.ensures)
