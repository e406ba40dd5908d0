use Prim.Native.Nat.{ℕ, ◌-◌, ◌≤◌, ◌<◌}
use mathlib.Core.Path.{◌≡◌}
use mathlib.Core.Bool.{Bool}
use Rattle.model.specs.Verdicts.{lowest}
use Rattle.checks.proofs.Search.{rest}
use Rattle.checks.proofs.check_each.Given as goal

abbrev pub invariant-loop-k : goal.invariant-loop-k
invariant-loop-k g l =
    (at : ℕ → ℕ) (test : ℕ → Bool)
    → ((i y : ℕ) → l.from ≤ i → i < l.to → goal.P-post g l.place i y → y ≡ at i)
    → ((i : ℕ) (b : Bool) → l.from ≤ i → i < l.to → goal.F-post g l.fails i b → b ≡ test i)
    → lowest l.rule at test l.from (l.to - l.from) ≡ rest l.rule at test l.k l.to
