use Rattle.buffers.specs.Buffers.{Overs}
use Rattle.tv_torque.specs.Rows.{ends_of}
use Rattle.tv_torque.proofs.end_part.Given as goal

abbrev pub invariant-loop-i : goal.invariant-loop-i
invariant-loop-i l = Overs l.initial.u l.initial.out l.u l.out (ends_of l.end.torque l.col.at l.end.moving l.end.resting) 0 l.i 2
