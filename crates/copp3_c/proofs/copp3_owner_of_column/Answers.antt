use native.Mathlib.Omega.{arith}
use Rattle.owners.proofs.Known.{objective_known}
use Rattle.copp3_c.proofs.copp3_owner_of_column.Goals as goal

pub owner_record-requires : goal.owner_record-requires
owner_record-requires c = λ i h. omega (arith, objective_known _ _ _ _ c.owner_of_column-a.ensures i h)
