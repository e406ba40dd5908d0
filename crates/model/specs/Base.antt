-- The library's names, but for its operators, and the declared types of src/lib.rt, that the definitions use.
pub use Rattle.std.specs.Prelude.{ℕ, zero, suc, max, min, Bool, true, false, cond, not, List, [], map, length, get_or, take, drop, set, replicate, ltb, leb, eqb, ℤ, pos, neg_ℤ, Float}
pub use Rattle.std.proofs.lemmas.List.Edits.{sets}
pub use Rattle.std.specs.Float.{nan, inf, fin, binary64}
pub use Rattle.std.specs.Float.Ieee.{low, up, down, add, sub, mul, div, neg, lt, eq, of_bits}
pub use Rattle.model.specs.declared.Boundary.{Boundary}
pub use Rattle.model.specs.declared.Bounds.{Bounds}
pub use Rattle.model.specs.declared.Job.{Job}
pub use Rattle.model.specs.declared.Objective.{Objective}
pub use Rattle.model.specs.declared.Objective.TheVariants.{Time, ThermalEnergy, TotalVariationTorque, Linear}
pub use Rattle.model.specs.declared.FourCounts.{FourCounts}
