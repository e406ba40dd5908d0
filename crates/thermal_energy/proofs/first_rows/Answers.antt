use Rattle.std.proofs.Common.{arith, rules, [], ◌∷◌, get_or}
use Rattle.std.specs.Float.{nan}
use Rattle.model.specs.Numbers.{+0, +1, −1}
use Rattle.model.specs.Program.{cell}
use Rattle.buffers.proofs.Laws.{columns_none, columns_cons, band_wrote}
use Rattle.thermal_energy.proofs.first_rows.Goals as goal

pub fill-v-requires-clause-room : goal.fill-v-requires-clause-room
fill-v-requires-clause-room c =
    let u = c.fill-u.ensures (λ i. cell c.args.own.at −1) (λ i p lt e. search rules) in
    omega (arith, u.entries)

pub fill_right-requires-clause-room : goal.fill_right-requires-clause-room
fill_right-requires-clause-room c =
    let u = c.fill-u.ensures (λ i. cell c.args.own.at −1) (λ i p lt e. search rules) in
    let v = c.fill-v.ensures (λ i. cell c.args.xi.at (get_or (−1 ∷ +1 ∷ []) i nan)) (λ i p lt e. search rules) in
    omega (arith, u.rows, v.rows)

pub returns : goal.returns
returns c =
    let u = c.fill-u.ensures (λ i. cell c.args.own.at −1) (λ i p lt e. search rules) in
    let v = c.fill-v.ensures (λ i. cell c.args.xi.at (get_or (−1 ∷ +1 ∷ []) i nan)) (λ i p lt e. search rules) in
    band_wrote (columns_cons u (columns_cons v columns_none)) (c.fill_right.ensures (λ i. +0) (λ i x lt e. search rules)) (omega arith)
