use Rattle.replay_list.specs.Format.{list_in}
use Rattle.replay_list.proofs.Decoding.{same_problem}
use Rattle.replay_list.specs.Agreement.{sized}
use mathlib.Core.Path.{◌∙◌, ap}
use Rattle.replay_list.proofs.lent.size.Goals as goal

-- `replay_list::lent::size` meets its contract: the lists that are handed over are those of the problem.
pub returns : goal.returns
unfolding sized
returns c =
    let case = c.args.case.now in
    c.copp3_size.ensures ∙ ap (sized case.job case.records)
    (same_problem _ _ (list_in case.floats case.starts) c.list.ensures c.table0.ensures c.table1.ensures c.list-2.ensures c.list-3.ensures c.list-4.ensures
    c.list-5.ensures c.list-6.ensures c.list-7.ensures c.list-8.ensures c.list-9.ensures c.list-10.ensures c.list-11.ensures c.list-12.ensures c.list-13.ensures c.list-14.ensures c.list-15.ensures
    c.list-16.ensures)
