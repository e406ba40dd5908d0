-- A column filled from the part of a table, as filled from the table.
use mathlib.Core.Path.{◌≡◌, ap, ◌∙◌}
use mathlib.Core.List.{List, []}
use Prim.Native.Nat.{ℕ, ◌+◌, ◌≤◌}
use native.Mathlib.Omega.{arith}
use lib.Ieee.{Float, nan}
use lib.ListN.{length, drop, length-drop}
use lib.Seq.{get_or-take, get_or-drop, length-take-le}
use Rattle.model.specs.Numbers.{at}
use Rattle.model.specs.Lists.{part}
use Rattle.model.specs.Program.{cell, entry}
use Rattle.model.specs.declared.Tally.{Tally}
use Rattle.model.specs.declared.Buffers.{Buffers}
use Rattle.model.proofs.Sums.{list_cong}
use Rattle.buffers.specs.Buffers.{Fills, chunk}
use Rattle.buffers.proofs.Laws.{lays_as}

pub part_filled : {t : Tally} {b : Buffers} {t' : Tally} {b' : Buffers} {n c : ℕ} {xs : List Float} (l : List Float) (o m : ℕ) → o + m ≤ length l → xs ≡ part l o m
    → Fills t b t' b' n (λ i. cell c (at xs i)) (length xs) → Fills t b t' b' n (λ i. cell c (at l (o + i))) m
part_filled {t} {b} {t'} {b'} {n} {c} l o m h e q =
    let cells : (ℕ → Float) → ℕ → _ = λ v i. entry (n + i) (cell c (v i)) in
    let p : Fills t b t' b' n (λ i. cell c (at (part l o m) i)) m = rw (e, length-take-le m (drop o l) (omega (arith, length-drop o l))) at q in
    let same = list_cong (cells (at (part l o m))) (cells (λ i. at l (o + i))) 0 m (λ i lo hi. ap (λ v. entry (n + i) (cell c v)) (get_or-take m (drop o l) i nan (omega arith) ∙ get_or-drop o l i nan)) in
    record { lays = lays_as p.lays (ap (λ es. chunk es [] [] []) same); entries = p.entries; rows = p.rows; cones = p.cones; columns = p.columns }
