use Rattle.std.proofs.Common.{rules}
use mathlib.Core.Path.{◌∙◌}
use Rattle.model.specs.Problem.{spacing}
use Rattle.buffers.specs.Paths.{path_of}
use Rattle.first_order.specs.Limits.{limits_of}
use Rattle.finite_standard.specs.Tests.{twice_test}
use Rattle.finite_standard.proofs.Rows.{first_scanned}
use Rattle.finite_standard.proofs.first_order.Goals as goal

pub returns : goal.returns
returns c =
    let limits = c.args.limits in
    let path = path_of limits.path in
    let spaced = c.every-three.ensures (λ k. twice_test (spacing path k)) (λ k b lo hi e. search rules) in
    rw (← c.both.ensures) c.both-2.ensures ∙ first_scanned path (limits_of limits) c.at_end-one.ensures c.at_end-two.ensures (rw c.moving.ensures at spaced)
