use Rattle.std.proofs.Common.{◌≡◌, ℕ, ◌+◌, ◌-◌, ◌<◌, ◌≤◌, List, length, get_or, take, drop, ap, sym, ◌∙◌, arith, rules, length-drop, length-take, get_or-drop, get_or-take, ext_get_or}
use Rattle.std.specs.List.{CopiedTo}
use Rattle.replay.proofs.Pending.replay_held.Goals as goal

-- `replay::Pending::replay_held` meets its contract: what is copied to the front is what stood before the end.
front : (s s₀ : List ℕ) (rest end : ℕ) → rest ≤ end → end ≤ length s₀ → length s ≡ length s₀ → CopiedTo s₀ s (end - rest) 0 (end - (end - rest)) → take rest s ≡ drop (end - rest) (take end s₀)
front s s₀ rest end h l same copied =
    ext_get_or 0 (take rest s) (drop (end - rest) (take end s₀)) (simp (length-take, length-drop) (omega arith))
    (λ k b.
    let below : k < rest = omega (arith, length-take rest s) in
    get_or-take rest s k 0 below ∙ copied k 0 (omega arith) (omega arith) ∙ ap (λ (i : ℕ). get_or s₀ (end - rest + i) 0) (omega arith) ∙ sym (get_or-drop (end - rest) (take end s₀) k 0 ∙ get_or-take end s₀ (end - rest + k) 0 (omega arith)))

pub returns-clause-list_value : goal.returns-clause-list_value
returns-clause-list_value g c = front _ c.args.self.now.list _ c.args.self.now.held (omega (arith, c.in_ok-piece.ensures, length-take c.args.self.now.held c.args.self.now.list)) (search rules) c.copy_within.ensures.len c.copy_within.ensures.by_index.0
