use Rattle.copp3_c.proofs.KindCheck.{NoneBefore}
use Rattle.copp3_c.proofs.kind_check.Given as goal

abbrev pub invariant-loop-i : goal.invariant-loop-i
invariant-loop-i l = NoneBefore l.count l.items l.i
