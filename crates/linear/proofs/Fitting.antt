-- What ab_costs asks of each objective is what an accepted problem gives.
use Prim.Native.Nat.{ℕ, ◌<◌}
use lib.Ieee.{nan}
use lib.ListN.{get_or}
use Rattle.std.specs.Prelude.{All}
use Rattle.std.proofs.lemmas.List.Elements.{All-from_get_or}
use Rattle.model.specs.Problem.{Problem, objectives}
use Rattle.model.specs.declared.Objective.{Objective}
use Rattle.model.specs.declared.Objective.TheVariants.{Time, ThermalEnergy, TotalVariationTorque, Linear}
use Rattle.model.proofs.Usable.{Usable, Ready}
use Rattle.linear.specs.Charges.{Fits}
use Rattle.linear.proofs.Cost.{ends_of}

module _ (p : Problem) where
  ready_fits : (o : Objective) → Ready p o → Fits p.path.grid (ends_of p) p.roots.start p.roots.end p.pool o
  ready_fits (Time w) h = tt
  ready_fits (ThermalEnergy w start len) h = tt
  ready_fits (TotalVariationTorque w start len) h = tt
  ready_fits (Linear w a al b bl) h = (h.2.start, h.2.end, h.0.long, h.1.long, h.0.within, h.1.within)

  pub usable_fits : Usable p → (i : ℕ) → i < p.count → Fits p.path.grid (ends_of p) p.roots.start p.roots.end p.pool (get_or p.slots i (Time nan))
  usable_fits u i l = ready_fits (get_or p.slots i (Time nan)) (u.slot i l)

  -- the same of the objectives as a list
  pub usable_all : Usable p → All (Fits p.path.grid (ends_of p) p.roots.start p.roots.end p.pool) (objectives p)
  usable_all u =
      All-from_get_or (Fits p.path.grid (ends_of p) p.roots.start p.roots.end p.pool) (objectives p) (Time nan)
      (λ i l. ready_fits (get_or (objectives p) i (Time nan)) (u.objective i))
