use Rattle.std.proofs.Common.{rules, arith}
use Rattle.buffers.specs.Paths.{path_of}
use Rattle.acc_jerk.specs.Tables.{jerk_of}
use Rattle.finite_standard.specs.Tests.{pair_test}
use Rattle.finite_standard.proofs.AccJerk.{jerk_scanned, moving_stop}
use Rattle.finite_standard.proofs.jerk_at.Goals as goal

pub returns : goal.returns
returns c =
    let s = c.args.station in
    let path = path_of s.rows.path in
    let shared = c.every-shared.ensures (pair_test s.rows.tables.a.now s.rows.tables.max.now) (λ k b lo hi e. search rules) in
    jerk_scanned path (jerk_of s.rows.tables) s.k (moving_stop path (omega (arith, s.rows.path.sized))) s.placed.0 (rw c.count.ensures at shared) c.back_at.ensures c.ahead_at.ensures
    (rw (← c.both.ensures) c.both-2.ensures)
