use Rattle.text.proofs.Laws.{written_append}
use Rattle.listing.specs.Rows.{cone_head}
use Rattle.listing.proofs.Assembled.cone_head.Goals as goal

pub returns : goal.returns
unfolding cone_head
returns c = simp (written_append, c.words.ensures, c.decimal.ensures, c.words-2.ensures, c.kind_word.ensures, c.words-3.ensures, c.words-4.ensures, c.item_or.ensures, c.decimal-2.ensures, c.words-5.ensures, c.row_owner.ensures, c.words-6.ensures)
