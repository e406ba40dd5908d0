use Rattle.replay_list.specs.Format.{start_of}
use native.Mathlib.Numerals.{add-one}
use Rattle.replay_list.proofs.Laws.{filled, stored}
use mathlib.Core.Path.{refl}
use lib.ListN.{length-set}
use borrow.Author.Count.{below_more, below_none}
use native.Mathlib.Omega.{arith}
use mathlib.Core.Path.{◌∙◌}
use Prim.Native.Nat.{◌+◌}
use Rattle.replay_list.proofs.input.starts_at.Goals as goal

pub loop-k-init : goal.loop-k-init
unfolding start_of
loop-k-init c = (refl, below_more _ _ (below_none _) refl)

pub loop-k-preserved : goal.loop-k-preserved
unfolding start_of
loop-k-preserved c =
    let l = c.loop-k in (
      simp length-set l.invariant.0,
      stored 0 _ l.starts (l.k + 1) _ (omega arith)
          (rw (c.floats_of.ensures, l.invariant.1 l.k (omega arith)) at c.past.ensures ∙ rw add-one refl) l.invariant.1,
    )

pub returns : goal.returns
returns c = filled 0 _ _ 19 c.loop-k.invariant.0 (λ j h. c.loop-k.invariant.1 j (omega arith))
