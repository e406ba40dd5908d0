use Rattle.std.proofs.Common.{rules, tests, arith, ◌≤◌, ◌<◌, ℕ, List, refl}
use Rattle.std.specs.List.{AllWithin, range_with_len}
use Rattle.std.proofs.lemmas.Bool.{MatchBool-at_true}
use Rattle.std.proofs.lemmas.Iterator.{cases_from_all, YieldsList-from_range}
use lib.Dec.{lit<}
use Rattle.replay_list.specs.File.{item_at}
use Rattle.replay_list.specs.Agreement.{LentFit}
use Rattle.replay_list.proofs.case.buffers_fit.Goals as goal

-- `replay_list::case::buffers_fit` meets its contract: the lengths that were tested are those of the eight arrays.
lent_fit : (s : List ℕ) (at : ℕ) → AllWithin (λ k. item_at s at k ≤ 128) (range_with_len 0 7) 0 7 → item_at s at 7 ≤ 160 → LentFit s at
lent_fit s at fit last =
    record {
      rows_fit = fit 0 0 (omega arith) (lit< tt);
      columns_fit = fit 1 0 (omega arith) (lit< tt);
      values_fit = fit 2 0 (omega arith) (lit< tt);
      right_fit = fit 3 0 (omega arith) (lit< tt);
      kinds_fit = fit 4 0 (omega arith) (lit< tt);
      dimensions_fit = fit 5 0 (omega arith) (lit< tt);
      cost_fit = fit 6 0 (omega arith) (lit< tt);
      index_fit = last;
    }

pub returns-then-all : goal.returns-then-all
returns-then-all c =
    λ e.
    let lengths = c.args.lengths in
    let length : ℕ → ℕ = item_at lengths.list.now lengths.at in
    lent_fit lengths.list.now lengths.at
    (MatchBool-at_true _ _ c.if-all.true (cases_from_all _ _ _ (λ k. length k ≤ 128) (λ k. 128 < length k) c.all.ensures.ran (YieldsList-from_range 0 7 7 refl refl)
    (λ k q h. search (rules, tests)) (λ k q h. search (rules, tests))))
    (search (rules, tests))
