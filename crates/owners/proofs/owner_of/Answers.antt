use borrow.Author.Rules.{rules}
use mathlib.Core.Path.{sym, ◌∙◌}
use Rattle.model.proofs.OwnersTold.{too_short}
use Rattle.owners.proofs.Search.{owner_found}
use Rattle.owners.proofs.owner_of.Goals as goal

pub returns-then-owners-lt2 : goal.returns-then-owners-lt2
returns-then-owners-lt2 c = sym (too_short _ _ _ _ (search rules))

pub returns-then-owners-objectives : goal.returns-then-owners-objectives
returns-then-owners-objectives c = sym (too_short _ _ _ _ (search rules))

pub returns-in-Some : goal.returns-in-Some
returns-in-Some c = c.owned_by.ensures ∙ owner_found _ _ _ _ (search rules) (sym c.in-Some.is ∙ c.first_within.ensures)

pub returns-in-None : goal.returns-in-None
returns-in-None c = owner_found _ _ _ _ (search rules) (sym c.in-None.is ∙ c.first_within.ensures)
