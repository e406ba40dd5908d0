use Rattle.text.proofs.Laws.{written_append}
use Rattle.refusal_words.specs.Refusals.{refused}
use Rattle.refusal_words.proofs.refused.Goals as goal

pub returns : goal.returns
unfolding refused
returns c = simp (written_append, c.words.ensures, c.decimal.ensures, c.words-2.ensures, c.decimal-2.ensures, c.words-3.ensures, c.complaint.ensures, c.words-4.ensures, c.words-5.ensures, c.person.ensures, c.words-6.ensures, c.words-7.ensures, c.place.ensures, c.words-8.ensures)
