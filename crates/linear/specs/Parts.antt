-- What the structs of what is lent charge.
use Rattle.std.specs.Prelude.{List, ℕ, Float}
use Rattle.model.specs.Program.{Cell}
use Rattle.model.specs.Objectives.{end_charge}
use Rattle.model.specs.declared.Objective.{Objective}
use Rattle.model.specs.declared.Objective.TheVariants.{Linear}
use Rattle.buffers.specs.Paths.{path_of}
use Rattle.linear.specs.Charges.{Fits, linear_charges, charges_of, ab_cost}
use Rattle.linear.specs.declared.linears.LinearLists.{LinearLists}
use Rattle.linear.specs.declared.parts.LinearInput.{LinearInput}
use Rattle.linear.specs.declared.parts.LinearObjective.{LinearObjective}
use Rattle.linear.specs.declared.parts.LinearEnd.{LinearEnd}

-- an objective fits, what it charges, and the cost of a column with objectives
abbrev pub FitsIn : LinearInput → Objective → Type 0
FitsIn x = Fits x.path.grid.now x.path.ends x.roots.start.now x.roots.end.now x.pool.now

abbrev pub charges_in : LinearInput → Objective → List Cell
charges_in x = charges_of x.path.grid.now x.path.ends x.roots.start.now x.roots.end.now x.pool.now

abbrev pub cost_in : LinearInput → List Objective → ℕ → Float
cost_in x = ab_cost x.path.grid.now x.path.ends x.roots.start.now x.roots.end.now x.pool.now

-- what a Linear charges, and station k of an end
abbrev pub charges_by : LinearObjective → List Cell
charges_by o = linear_charges o.path.grid.now o.path.ends o.roots.start.now o.roots.end.now o.weight o.alpha.now o.beta.now

abbrev pub charge_at : LinearEnd → ℕ → Float
charge_at e = end_charge (path_of e.objective.path) e.objective.weight e.objective.alpha.now e.objective.beta.now e.moving e.last e.roots.now

-- the objective whose lists, of length l, are told by their places
abbrev pub listed_as : ℕ → LinearLists → Objective
listed_as l x = Linear x.weight x.alpha l x.beta l
