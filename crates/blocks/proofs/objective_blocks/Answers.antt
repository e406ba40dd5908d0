use Rattle.std.proofs.Common.{arith, take, length, ap}
use Rattle.model.specs.Problem.{Problem}
use Rattle.objectives.proofs.Owned.{built_grows}
use Rattle.blocks.specs.Blocks.{lends_in}
use Rattle.blocks.proofs.Halves.{roots_then}
use Rattle.blocks.proofs.objective_blocks.Goals as goal

pub put_owner-u-requires : goal.put_owner-u-requires
put_owner-u-requires c = let g = built_grows c.root_stage.ensures.built in (g.0, g.1, g.2, g.3, omega (arith, c.requires.1))

pub returns : goal.returns
returns c =
    let p = c.args.problem.now in
    let l = c.objectives_in-list.ensures in
    let roots = rw (ap (λ (x : Problem). x.path) l.lends, l.objectives) at c.root_stage.ensures in
    let own = rw (l.lends, l.objectives) at c.clarabel_objective_copp3.ensures in
    let long = ap (λ (x : Problem). length x.path.grid) l.lends in
    roots_then (lends_in p) (take p.job.count p.objectives) roots c.put_owner-u.ensures own (omega (arith, c.requires.2.0, long))
