use Rattle.std.proofs.Common.{rules}
use Rattle.text.proofs.Laws.{lent_back}
use Rattle.show.specs.Shown.{lent_here}
use Rattle.show.proofs.Pages.{shown, in_bounds, prefix_len}
use Rattle.show.proofs.page_at.Goals as goal

pub returns-clause-shown : goal.returns-clause-shown
unfolding lent_here
returns-clause-shown c =
    shown c.args.i c.assemble-answer.result _ c.stations_at-stations.ensures c.objectives_at-objectives.ensures c.objective_count_at-count.ensures
    (rw c.from-contents.ensures c.assemble-answer.ensures.answer)
    (lent_back _ _ c.page.ensures (search rules))

pub returns-clause-in_bounds : goal.returns-clause-in_bounds
returns-clause-in_bounds c = in_bounds (lent_back _ _ c.page.ensures (search rules))

pub returns-clause-prefix_len : goal.returns-clause-prefix_len
returns-clause-prefix_len c = prefix_len (lent_back _ _ c.page.ensures (search rules))
