use mathlib.Core.Path.{◌∙◌}
use Rattle.model.specs.Lent.{problem_of}
use Rattle.model.proofs.Usable.{usable, usable_sizes}
use Rattle.linear.proofs.Fitting.{usable_all}
use Rattle.passes.proofs.Accepted.{all_ready}
use Rattle.passes.proofs.Numbers.{every_scanned}
use Rattle.passes.proofs.every_number.Goals as goal

pub linear_in-requires : goal.linear_in-requires
linear_in-requires c = let u = usable _ c.requires in (u.sized, u.count.1, usable_all _ u)

pub standard_in-requires : goal.standard_in-requires
standard_in-requires c = let u = usable _ c.requires in (u.sized, u.amax, u.acc, u.jerk)

pub objectives_in-requires : goal.objectives_in-requires
objectives_in-requires c = let u = usable _ c.requires in (u.sized, u.count.1, all_ready _ u)

pub returns : goal.returns
returns c =
    let p = problem_of c.args.problem.now in
    let l = c.linear_in.ensures in
    let s = c.standard_in.ensures in
    let o = c.objectives_in.ensures in
    let costs = rw (l.grid, l.ends, l.start, l.end, l.pool, l.objectives) at c.ab_costs-costs.ensures in
    let rows = rw (s.grid, s.ends, s.boundary, s.start, s.end, s.amax, s.acceleration, s.jerk) at c.standard_rows-rows.ensures in
    let own = rw (o.lends, o.objectives) at c.objectives-own.ensures in
    rw (← c.both.ensures) c.both-2.ensures ∙ every_scanned p (usable_sizes p (usable p c.requires)) costs rows own
