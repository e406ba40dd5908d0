use Rattle.std.proofs.Common.{arith}
use mathlib.Core.Path.{ap}
use Rattle.model.specs.Lent.{problem_of}
use Rattle.model.specs.declared.Tally.{Tally}
use Rattle.model.proofs.Usable.{usable, usable_sizes}
use Rattle.model.proofs.Sums.{length_list}
use Rattle.linear.proofs.Cost.{cost_as_columns}
use Rattle.linear.proofs.Fitting.{usable_all}
use Rattle.model.specs.Standard.{standard, root}
use Rattle.passes.proofs.Whole.{whole_builds}
use Rattle.passes.proofs.Landed.{completes_most}
use Rattle.passes.proofs.Accepted.{all_ready}
use Rattle.passes.proofs.write.Goals as goal

pub standard_block-t-requires : goal.standard_block-t-requires
standard_block-t-requires c =
    let u = usable _ c.requires in
    (omega (arith, u.sized, ap (λ (t : Tally). t.entries) c.before_rows-begin.ensures, ap (λ (t : Tally). t.rows.at) c.before_rows-begin.ensures, ap (λ (t : Tally). t.cones) c.before_rows-begin.ensures, ap (λ (t : Tally). t.columns.at) c.before_rows-begin.ensures), ((u.sized, u.count.1, usable_all _ u), (u.sized, u.amax, u.acc, u.jerk), u.few_acc, u.few_jerk))

pub objective_blocks-requires : goal.objective_blocks-requires
objective_blocks-requires c =
    let u = usable _ c.requires in
    let b = c.before_rows-begin.ensures in
    let q = c.put_owner-t.ensures.stored.next in
    let w = c.before_rows.ensures in
    let g = c.standard_block-t.ensures.built in (
      omega (arith, u.sized, g, ap (λ (t : Tally). t.entries) b, ap (λ (t : Tally). t.rows.at) b, ap (λ (t : Tally). t.cones) b, ap (λ (t : Tally). t.columns.at) b, ap (λ (t : Tally). t.entries) q, ap (λ (t : Tally). t.rows.at) q, ap (λ (t : Tally). t.cones) q, ap (λ (t : Tally). t.columns.at) q),
      omega (arith, ap (λ (t : Tally). t.owner) q, ap (λ (t : Tally). t.owner) w),
      (u.sized, u.count.1, all_ready _ u),
    )

pub returns : goal.returns
unfolding standard root
returns c =
    let p = problem_of c.args.problem.now in
    let u = usable _ c.requires in
    rw (← c.before_rows-begin.ensures)
    (completes_most
    (whole_builds p c.before_rows-begin.ensures c.standard_block-t.ensures (length_list _ 0 _) c.before_rows.ensures c.put_owner-t.ensures c.objective_blocks.ensures (cost_as_columns _ (usable_sizes _ u))) (omega (arith, u.sized)))
