use Rattle.std.proofs.Common.{arith, rules}
use Rattle.std.specs.Float.Ieee.{neg}
use borrow.Author.Tests.{lt-ltb, le-ltb}
use Rattle.model.specs.Numbers.{◌⊕◌}
use Rattle.buffers.proofs.Laws.{closed_skip}
use Rattle.thermal_energy.specs.Cones.{gravity}
use Rattle.thermal_energy.proofs.end_part.Goals as goal

pub returns-then-end-eq0 : goal.returns-then-end-eq0
returns-then-end-eq0 c = rw (le-ltb 0 c.args.end.count (omega (arith, c.if-end-eq0.true))) closed_skip

pub returns : goal.returns
returns c =
    let x = c.args.end.torque in
    let m = c.moving_station-moving.ensures in
    let cone = c.cone.ensures (λ i. neg (gravity x c.args.end.moving i ⊕ gravity x c.args.end.resting i)) (λ i y lt e. search rules) in
    rw (lt-ltb 0 c.args.end.count (omega (arith, c.if-end-eq0.false))) (rw (m.torque, m.station) at cone)

pub cone-requires-clause-told : goal.cone-requires-clause-told
cone-requires-clause-told c = let x = c.args.end.torque in (λ i. neg (gravity x c.args.end.moving i ⊕ gravity x c.args.end.resting i), λ i y lt e. search rules)
