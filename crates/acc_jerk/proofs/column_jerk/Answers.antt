use Rattle.std.proofs.Common.{rules, ◌+◌}
use Rattle.std.proofs.lemmas.List.{places}
use Rattle.model.specs.Numbers.{at}
use Rattle.model.specs.Program.{cell}
use Rattle.acc_jerk.specs.Tables.{jerk_value}
use Rattle.acc_jerk.proofs.column_jerk.Goals as goal

pub returns : goal.returns
returns c =
    let a = c.args in
    let rows = a.station.rows.tables in
    rw (← c.count.ensures) (c.fill.ensures (λ i. cell a.col.at (jerk_value a.form (at rows.b.now (a.station.from + i)) (at rows.c.now (a.station.from + i)) a.r)) (λ i p lt e. search (rules, places)))
