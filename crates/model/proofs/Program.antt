-- What the program of a problem is like to which no refusal from 1 to 18 applies, in one record.
use Prim.Native.Nat.{ℕ, ◌≤◌, ◌<◌}
use mathlib.Core.Path.{◌≡◌, ap}
use lib.ListN.{length, get_or}
use Rattle.model.specs.Verdicts.{accepted}
use Rattle.model.specs.Lists.{total}
use Rattle.model.specs.Problem.{Problem}
use Rattle.model.specs.Program.{Entry}
use Rattle.model.specs.Refusals.{refusal}
use Rattle.model.specs.Assembled.{entries, cones, right_side, cost, cone_dimensions, list_lengths}
use Rattle.model.specs.Counts.{counts, entry_bound}
use Rattle.model.specs.declared.FourCounts.{FourCounts}
use Rattle.model.proofs.Counted.{counted}
use Rattle.model.proofs.Whole.{entry_inside, entry_once}
use Rattle.model.proofs.InCone.{OneCone, dimensions_rows, row_cone}
use Rattle.model.proofs.Bound.{entries_few}
use Rattle.model.proofs.Fits.{AtMost, most_counts, counts_most}
use Rattle.model.proofs.Usable.{usable, usable_sizes}

-- e is any entry: what `get_or` gives past the end
pub record Program (p : Problem) : Type 0 where
  pub entries_counted : length (entries p) ≡ (counts p).entries
  pub rows_counted : length (right_side p) ≡ (counts p).rows
  pub cones_counted : length (cones p) ≡ (counts p).cones
  pub columns_counted : length (cost p) ≡ (counts p).columns
  pub bounded : length (entries p) ≤ entry_bound p
  pub inside : (i : ℕ) (e : Entry) → i < length (entries p)
      → ((get_or (entries p) i e).row < length (right_side p)) × ((get_or (entries p) i e).column < length (cost p))
  pub once : (i j : ℕ) (e : Entry) → i < length (entries p) → j < length (entries p)
      → (get_or (entries p) i e).row ≡ (get_or (entries p) j e).row → (get_or (entries p) i e).column ≡ (get_or (entries p) j e).column → i ≡ j
  pub dimensions : total (cone_dimensions p) ≡ length (right_side p)
  pub most : AtMost most_counts (counts p)
  pub one_cone : (r : ℕ) → r < length (right_side p) → OneCone (cone_dimensions p) r

pub program : (p : Problem) → refusal p ≡ accepted → Program p
unfolding list_lengths
program p ok =
    let u = usable p ok in
    let l = usable_sizes p u in
    let c = counted p l in
    record {
      most = counts_most p l u;
      entries_counted = ap (λ (t : FourCounts). t.entries) c;
      rows_counted = ap (λ (t : FourCounts). t.rows) c;
      cones_counted = ap (λ (t : FourCounts). t.cones) c;
      columns_counted = ap (λ (t : FourCounts). t.columns) c;
      bounded = entries_few p l;
      inside = entry_inside p l;
      once = entry_once p l;
      dimensions = dimensions_rows p;
      one_cone = row_cone p;
    }
