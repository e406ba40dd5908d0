use Rattle.std.proofs.Common.{rules, tests}
use Rattle.replay_list.specs.Format.{list_in}
use Rattle.replay_list.specs.Agreement.{assembled, LentFit}
use Rattle.replay_list.proofs.Called.{lent, joined, called, result_agrees}
use Rattle.replay_list.proofs.Decoding.{same_problem}
use Rattle.model.specs.Answers.{Buffers, buffers}
use Rattle.model.specs.Problem.{Problem}
use mathlib.Core.Path.{◌∙◌, ap}
use Prim.Native.Nat.{ℕ}
use lib.ListN.{take, drop, replicate}
use lib.Ieee.{binary64, of_bits}
use Rattle.replay_list.proofs.case.assembly_agrees.Goals as goal

-- `replay_list::case::assembly_agrees` meets its contract: the lists that are handed over are those of the problem, the buffers are the fronts of the arrays, and what is compared of the arrays is what the list says.
pub returns-then-eq : goal.returns-then-eq
unfolding assembled
returns-then-eq c =
    λ e.
    let case = c.args.case.now in
    let decoded = c.args.decoded.now in
    let lengths = c.to-lengths.result in
    let call = c.copp3_assemble-answer in
    let number : ℕ = 13876516240719085568 in
    let float = of_bits binary64 13876516240719085568 in
    let entry : Buffers =
    buffers (take c.item.result (replicate 128 number)) (take c.item-2.result (replicate 128 number)) (take c.item-3.result (replicate 128 float)) (take c.item-4.result (replicate 128 float))
    (take c.item-5.result (replicate 128 165)) (take c.item-6.result (replicate 128 number)) (take c.item-7.result (replicate 128 float)) (take c.item-8.result (replicate 160 number)) in
    let rest : Buffers =
    buffers (drop c.item.result (replicate 128 number)) (drop c.item-2.result (replicate 128 number)) (drop c.item-3.result (replicate 128 float)) (drop c.item-4.result (replicate 128 float))
    (drop c.item-5.result (replicate 128 165)) (drop c.item-6.result (replicate 128 number)) (drop c.item-7.result (replicate 128 float)) (drop c.item-8.result (replicate 160 number)) in
    let exit : Buffers = buffers call.new.rows call.new.columns call.new.values call.new.right call.new.kinds call.new.dimensions call.new.cost call.new.index in
    let fit : LentFit lengths.list.now lengths.at = rw (c.to-lengths.ensures.0, c.to-lengths.ensures.1) c.requires in
    let told =
    called lengths.list.now lengths.at entry exit
    (record {
      rows_lent = lent number 128 _ _ _ c.item.ensures fit.rows_fit call.auto.rows;
      columns_lent = lent number 128 _ _ _ c.item-2.ensures fit.columns_fit call.auto.columns;
      values_lent = lent float 128 _ _ _ c.item-3.ensures fit.values_fit call.auto.values;
      right_lent = lent float 128 _ _ _ c.item-4.ensures fit.right_fit call.auto.right;
      kinds_lent = lent 165 128 _ _ _ c.item-5.ensures fit.kinds_fit call.auto.kinds;
      dimensions_lent = lent number 128 _ _ _ c.item-6.ensures fit.dimensions_fit call.auto.dimensions;
      cost_lent = lent float 128 _ _ _ c.item-7.ensures fit.cost_fit call.auto.cost;
      index_lent = lent number 160 _ _ _ c.item-8.ensures fit.index_fit call.auto.index;
    })
    rest call.result decoded.job decoded.records _
    (call.ensures ∙ ap (λ (p : Problem). assembled decoded.job decoded.records p entry)
    (same_problem _ _ (list_in decoded.floats decoded.starts) c.list.ensures c.table0.ensures c.table1.ensures c.list-2.ensures c.list-3.ensures c.list-4.ensures c.list-5.ensures c.list-6.ensures c.list-7.ensures
    c.list-8.ensures c.list-9.ensures c.list-10.ensures c.list-11.ensures c.list-12.ensures c.list-13.ensures c.list-14.ensures c.list-15.ensures c.list-16.ensures)) in
    result_agrees case.start.list.now case.places _ _ _ _ decoded.job decoded.records _ (joined exit rest) c.requires (rw (c.to-lengths.ensures.0, c.to-lengths.ensures.1) at told)
    (rw (c.to.ensures.0, c.to.ensures.1) at c.assembly_at-expected.ensures) c.index_written-written.ensures (search (rules, tests))
    (rw (c.to-held.ensures.0, c.to-held.ensures.1) at (c.agree.ensures e))
