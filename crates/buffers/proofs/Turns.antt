-- Loops over the stations from j on: the rows of those before station k, and then of station k.
use mathlib.Core.Path.{◌≡◌, ap}
use mathlib.Core.List.{List, [], ◌∷◌}
use Prim.Native.Nat.{ℕ, ◌+◌, ◌-◌, ◌≤◌}
use native.Mathlib.Omega.{arith}
use Rattle.model.specs.Program.{Band}
use Rattle.model.specs.declared.Tally.{Tally}
use Rattle.model.specs.declared.Buffers.{Buffers}
use Rattle.buffers.specs.Buffers.{Wrote, Overs, Lists}
use Rattle.buffers.proofs.Laws.{overs_none, overs_more, lists_none, lists_more, wrote_as}

module _ {t : Tally} {b : Buffers} {f : ℕ → List Band} {j n : ℕ} where
  pub stations_none : Overs t b t b f j (j - j) n
  stations_none = let e : j - j ≡ 0 = omega arith in rw e overs_none

  pub stations_more : {k : ℕ} {t' : Tally} {b' : Buffers} {t'' : Tally} {b'' : Buffers}
      → j ≤ k → Overs t b t' b' f j (k - j) n → Wrote t' b' t'' b'' (f k) n → Overs t b t'' b'' f j (k + 1 - j) n
  stations_more {k} h p g =
      let e : k + 1 - j ≡ k - j + 1 = omega arith in
      let at : k ≡ j + (k - j) = omega arith in
      rw e (overs_more p (wrote_as g (ap f at)))

-- the same of loops whose turns write a band each
module _ {t : Tally} {b : Buffers} {f : ℕ → Band} {j n : ℕ} where
  pub bands_none : Lists t b t b f j (j - j) n
  bands_none = let e : j - j ≡ 0 = omega arith in rw e lists_none

  pub bands_more : {k : ℕ} {t' : Tally} {b' : Buffers} {t'' : Tally} {b'' : Buffers}
      → j ≤ k → Lists t b t' b' f j (k - j) n → Wrote t' b' t'' b'' (f k ∷ []) n → Lists t b t'' b'' f j (k + 1 - j) n
  bands_more {k} h p g =
      let e : k + 1 - j ≡ k - j + 1 = omega arith in
      let at : k ≡ j + (k - j) = omega arith in
      rw e (lists_more p (wrote_as g (ap (λ (i : ℕ). f i ∷ []) at)))
