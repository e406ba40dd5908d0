use Rattle.std.proofs.Common.{arith, rules, ap, ℕ, ◌+◌}
use Rattle.model.specs.Numbers.{+0, −1}
use Rattle.model.specs.Problem.{col_b, spacing}
use Rattle.model.specs.Program.{cell}
use Rattle.model.specs.Standard.{moving_rows}
use Rattle.buffers.specs.Paths.{path_of}
use Rattle.buffers.proofs.Laws.{fills_as, columns_none, columns_cons, band_wrote, wrote_most}
use Rattle.dynamic.proofs.Moving.{next, moving_most}
use Rattle.dynamic.proofs.clarabel_dynamic_moving_topp3.Goals as goal

pub returns : goal.returns
unfolding moving_rows
returns c =
    let q = path_of c.args.path in let k = c.args.path.ends.n0 in
    wrote_most (band_wrote (columns_cons c.moving_a-u.ensures
    (columns_cons (fills_as c.moving_a-u-2.ensures (λ i. ap (λ (c : ℕ). cell c −1) (next k i)))
    (columns_cons c.moving_b-u.ensures
    (columns_cons (fills_as c.moving_b-u-2.ensures (λ i. ap (λ (x : ℕ). cell (col_b q x) (spacing q (k + i))) (next k i))) columns_none))))
    (rw (← c.moving.ensures) (c.fill_right.ensures (λ i. +0) (λ i x lt e. search rules))) (omega arith)) (moving_most q)
