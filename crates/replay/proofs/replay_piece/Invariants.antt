use Rattle.std.proofs.Common.{◌-◌, ◌≤◌, length}
use Rattle.replay.proofs.replay_piece.Given as goal

abbrev pub invariant-loop-case : goal.invariant-loop-case
invariant-loop-case g l = l.at ≤ length l.s

abbrev pub decreases-loop-case : goal.decreases-loop-case
decreases-loop-case g l = length l.s - l.at
