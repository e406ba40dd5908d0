use Rattle.std.proofs.Common.{arith, ◌≡◌, ℕ, ◌<◌, length}
use mathlib.Core.Path.{refl, sym, ◌∙◌}
use lib.Ieee.{Float}
use Rattle.model.specs.Numbers.{at}
use Rattle.model.specs.Objectives.{time_weights}
use Rattle.model.proofs.Sizes.{sizes}
use Rattle.model.proofs.Weights.{time_weight, weight_at}
use Rattle.buffers.specs.Paths.{path_of}
use Rattle.buffers.specs.declared.path.Path.{Path}
use Rattle.time.proofs.get_weight_a_topp3.Goals as goal

-- what is worked out is the list's
listed : (q : Path) (k : ℕ) {x : Float} → k < length q.grid.now → x ≡ time_weight (path_of q) k → x ≡ at (time_weights (path_of q)) k
listed q k h w = let z = q.sized in w ∙ sym (weight_at (path_of q) (sizes (path_of q) (omega arith) (omega arith)) k (omega arith))

pub returns-then-ends-k : goal.returns-then-ends-k
unfolding time_weight
returns-then-ends-k c = listed c.args.path c.args.k c.requires (rw c.if-ends-k.true refl)

pub returns-then-ends-k-2 : goal.returns-then-ends-k-2
unfolding time_weight
returns-then-ends-k-2 c = listed c.args.path c.args.k c.requires (rw (c.last-last.ensures, ← c.stop-stop.ensures, c.if-ends-k.false, c.if-ends-k-2.true) refl)

pub returns-then-ends-k-3 : goal.returns-then-ends-k-3
unfolding time_weight
returns-then-ends-k-3 c = listed c.args.path c.args.k c.requires (rw (← c.stop-stop.ensures, c.if-ends-k.false, c.if-ends-k-2.false, c.if-ends-k-3.true) refl)

pub returns : goal.returns
unfolding time_weight
returns c = listed c.args.path c.args.k c.requires (rw (← c.stop-stop.ensures, c.if-ends-k.false, c.if-ends-k-2.false, c.if-ends-k-3.false) refl)
