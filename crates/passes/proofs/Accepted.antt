-- What an accepted problem gives to the objectives' scans and writers, in the form in which they ask.
use lib.Ieee.{nan}
use lib.ListN.{get_or}
use Rattle.model.specs.Problem.{Problem}
use Rattle.model.specs.declared.Objective.{Objective}
use Rattle.model.specs.declared.Objective.TheVariants.{Time, ThermalEnergy, TotalVariationTorque, Linear}
use Rattle.model.proofs.Usable.{Usable}
use Rattle.model.proofs.Usable as usable
use Rattle.objectives.specs.Input.{lends, Ready, AllReady}

module _ (p : Problem) (u : Usable p) where
  ready : (o : Objective) → usable.Ready p o → Ready (lends p.path p.thermal p.torque p.pool) o
  ready (Time w) h = tt
  ready (ThermalEnergy w start len) h =
      let x = h.1.torque in
      ((u.joints.0, u.joints.1, x.a, x.b, x.g, h.0.long, h.0.within), h.1.weights)
  ready (TotalVariationTorque w start len) h = (u.joints.0, u.joints.1, h.1.a, h.1.b, h.1.g, h.0.long, h.0.within)
  ready (Linear w a al b bl) h = tt

  pub all_ready : AllReady (lends p.path p.thermal p.torque p.pool) p.slots p.count
  all_ready i l = ready (get_or p.slots i (Time nan)) (u.slot i l)
