-- Request 6: "two accepted problems that differ only in the weight of one objective".
use Rattle.model.specs.Base.{ℕ, get_or, set, Float, nan, Objective, Time, ThermalEnergy, TotalVariationTorque, Linear}
use Rattle.model.specs.Problem.{Problem}

-- the objective with weight w
abbrev pub with_weight : Float → Objective → Objective
with_weight w (Time v) = Time w
with_weight w (ThermalEnergy v start len) = ThermalEnergy w start len
with_weight w (TotalVariationTorque v start len) = TotalVariationTorque w start len
with_weight w (Linear v alpha alpha_len beta beta_len) = Linear w alpha alpha_len beta beta_len

-- the problem with weight w for objective i
unfoldable pub reweighed : Problem → ℕ → Float → Problem
reweighed p i w =
    record {
      boundary = p.boundary;
      path = p.path;
      count = p.count;
      slots = set p.slots i (with_weight w (get_or p.slots i (Time nan)));
      pool = p.pool;
      limits = p.limits;
      acc = p.acc;
      jerk = p.jerk;
      thermal = p.thermal;
      torque = p.torque;
      roots = p.roots;
    }
