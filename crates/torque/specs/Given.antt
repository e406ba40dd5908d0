-- What the checks leave for the torque objectives.
use Rattle.std.specs.Prelude.{List, ℕ, Float, length}
use Rattle.model.specs.declared.Ends.{Ends}
use Rattle.buffers.specs.Inputs.{Sized, TorqueSized}

abbrev pub Given : List Float → Ends → List Float → List Float → List Float → List Float → ℕ → Type 0
Given s e a b g scales d = Sized s e × TorqueSized d a b g scales (length s)
