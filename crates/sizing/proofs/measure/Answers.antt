use Rattle.std.proofs.Common.{refl}
use Rattle.model.specs.Problem.{ends}
use Rattle.model.specs.Lent.{problem_of}
use Rattle.sizing.proofs.Measured.{acc_is, uppers_is, jerk_is}
use Rattle.sizing.proofs.measure.Goals as goal

pub returns : goal.returns
unfolding ends
returns c =
    let p = problem_of c.args.problem.now in
    let span = c.requires.span in
    let inside = c.sums_inside-inside.ensures in
    let q = c.path_in-path.ensures in
    let stop = rw (q.grid, q.ends) at c.stop-stop.ensures in
    record {
      d = refl;
      n = rw q.grid at c.last.ensures;
      m = rw (q.grid, q.ends) at c.moving.ensures;
      ends = c.positive_ends.ensures;
      l = rw (q.grid, q.ends) at c.length_xi.ensures;
      uppers = uppers_is p.path span p.limits c.end_upper.ensures c.end_upper-2.ensures (rw (← stop) inside.0);
      acc = acc_is p.path span p.acc.counts (rw (← stop) inside.1);
      jerk = jerk_is p.path span p.jerk.counts {x = c.sums_inside-inside.result.jerk} (rw (← stop) inside.2) (rw (← stop) c.jerk_inside-jerk.ensures.0);
    }
