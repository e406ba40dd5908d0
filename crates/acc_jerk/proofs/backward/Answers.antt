use borrow.Author.Tests.{lt-ltb, le-ltb}
use Rattle.std.proofs.Common.{◌≡◌, refl, ◌+◌, ◌-◌}
use native.Mathlib.Omega.{arith}
use Rattle.model.specs.Standard.{backward_rows}
use Rattle.buffers.proofs.Laws.{wrote_skip, wrote_as}
use Rattle.acc_jerk.proofs.backward.Goals as goal

pub returns-then-station-path : goal.returns-then-station-path
returns-then-station-path c = rw (le-ltb c.args.station.rows.path.ends.n0 c.args.station.k c.if-station-path.true) wrote_skip

pub returns : goal.returns
unfolding backward_rows
returns c =
    let k = c.args.station.k in
    let next : k - 1 + 1 ≡ k = omega (arith, c.if-station-path.false) in
    rw (lt-ltb c.args.station.rows.path.ends.n0 k c.if-station-path.false) (wrote_as c.group.ensures (rw next refl))
