use Rattle.std.proofs.Common.{rules}
use mathlib.Core.Path.{◌∙◌}
use Rattle.model.specs.Numbers.{finite}
use Rattle.model.specs.Problem.{spacing}
use Rattle.buffers.specs.Paths.{path_of}
use Rattle.finite_standard.proofs.Rows.{equal_scanned}
use Rattle.finite_standard.proofs.equalities.Goals as goal

pub returns : goal.returns
returns c =
    let path = path_of c.args.path in
    let spaced = c.every-four.ensures (λ k. finite (spacing path k)) (λ k b lo hi e. search rules) in
    rw (← c.both.ensures, ← c.both-2.ensures) c.both-3.ensures ∙ equal_scanned path c.args.boundary c.all_finite-one.ensures c.at_end-two.ensures (rw (c.stop-last.ensures, c.last.ensures) at c.at_end-three.ensures) (rw c.moving.ensures at spaced)
