-- Requests 6 and 10: no number of an accepted problem's index is above the most entries, so 64 bits hold each.
use Prim.Native.Nat.{ℕ, ◌+◌, ◌≤◌}
use native.Mathlib.Omega.{arith}
use mathlib.Core.Path.{◌≡◌}
use mathlib.Core.List.{List, [], ◌∷◌}
use Rattle.model.specs.Verdicts.{accepted}
use Rattle.model.specs.Lists.{joined, sum}
use Rattle.model.specs.Problem.{Problem}
use Rattle.model.specs.Program.{Block}
use Rattle.model.specs.Refusals.{refusal}
use Rattle.model.specs.Assembled.{blocks}
use Rattle.model.specs.Counts.{◌plus◌}
use Rattle.model.specs.Owners.{eight, size_of, owners_from, tally_start, owners, index}
use Rattle.model.specs.declared.FourCounts.{FourCounts}
use Rattle.model.proofs.All.{All}
use Rattle.model.proofs.Fits.{most_counts}
use Rattle.model.proofs.Program.{program}
use Rattle.model.proofs.Owned.{all_entries, all_rows, all_cones, all_columns}

small : (B : ℕ) (t : FourCounts) (bs : List Block) → t.entries + sum (λ b. (size_of b).entries) bs ≤ B → t.rows + sum (λ b. (size_of b).rows) bs ≤ B
    → t.cones + sum (λ b. (size_of b).cones) bs ≤ B → t.columns + sum (λ b. (size_of b).columns) bs ≤ B → All (λ x. x ≤ B) (joined eight (owners_from t bs))
small B t [] e r c k = tt
small B t (b ∷ bs) e r c k =
    let rest = small B (t plus size_of b) bs (omega arith) (omega arith) (omega arith) (omega arith) in
    (omega arith, (omega arith, (omega arith, (omega arith, (omega arith, (omega arith, (omega arith, (omega arith, rest))))))))

pub index_small : (p : Problem) → refusal p ≡ accepted → All (λ x. x ≤ most_counts.entries) (index p)
unfolding index owners
index_small p ok =
    let f = program p ok in
    let s = f.most in
    small most_counts.entries (tally_start p) (blocks p)
    (omega (arith, s.entries, f.entries_counted, all_entries p))
    (omega (arith, s.rows, f.rows_counted, all_rows p))
    (omega (arith, s.cones, f.cones_counted, all_cones p))
    (omega (arith, s.columns, f.columns_counted, all_columns p))
