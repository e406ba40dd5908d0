use Rattle.std.proofs.Common.{◌≡◌, ◌≤◌, take}
use Rattle.model.specs.Assembled.{all_finite}
use Rattle.finiteness.proofs.all_finite.Given as goal

abbrev pub invariant-loop-x : goal.invariant-loop-x
invariant-loop-x g l = (l.x-index ≤ l.x-index-end) × (l.ok ≡ all_finite (take l.x-index l.fn.xs))
