-- Tables 0, 1 and 3 to 9 as crate model's records, and what the checks leave of their lengths.
use Rattle.std.specs.Prelude.{◌≡◌, List, [], ◌∷◌, ℕ, ◌+◌, ◌≤◌, Float, length, get_or, take}
use Rattle.std.specs.Float.Ieee.{neg}
use Rattle.model.specs.Refusals.{most_rows}
use Rattle.model.specs.Numbers.{at, ◌⊕◌, ◌⊖◌, ◌⊗◌, ◌⊘◌, +1}
use Rattle.model.specs.Lists.{total}
use Rattle.model.specs.Problem.{Path, Acceleration, Jerk, spacing, col_a, col_b}
use Rattle.model.specs.Program.{Band, band, cell}
use Rattle.model.specs.declared.Acceleration.{Acceleration as LentAcceleration}
use Rattle.model.specs.declared.Jerk.{Jerk as LentJerk}
use Rattle.acc_jerk.specs.declared.Form.{Form}
use Rattle.acc_jerk.specs.declared.Form.TheVariants.{Back, Here, Ahead, Next}

abbrev pub acc_of : LentAcceleration → Acceleration
acc_of t = record { counts = t.rows.now; a = t.a.now; b = t.b.now; max = t.max.now }

abbrev pub jerk_of : LentJerk → Jerk
jerk_of t = record { counts = t.rows.now; a = t.a.now; b = t.b.now; c = t.c.now; max = t.max.now }

-- what refusals 15 and 16 leave
abbrev pub Few : List ℕ → Type 0
Few cs = (k : ℕ) → get_or cs k 0 ≤ most_rows

abbrev pub AccSized : List Float → List ℕ → List Float → List Float → List Float → Type 0
AccSized s cs a b h = (length cs ≡ length s) × (total cs ≡ length a) × (length b ≡ length a) × (length h ≡ length a)

abbrev pub JerkSized : List Float → List ℕ → List Float → List Float → List Float → List Float → Type 0
JerkSized s cs a b c h = (length cs ≡ length s) × (total cs ≡ length a) × (length b ≡ length a) × (length c ≡ length a) × (length h ≡ length a)

-- one number of a jerk row
abbrev pub jerk_value : Form → Float → Float → Float → Float
jerk_value Back b c r = neg c ⊗ r
jerk_value Here b c r = b ⊕ c ⊗ r
jerk_value Ahead b c r = b ⊖ c ⊗ r
jerk_value Next b c r = c ⊗ r

-- the jerk rows of station k on the interval from station j on, with these forms at station j and at the next
abbrev pub jerk_band : Path → Jerk → ℕ → ℕ → Form → Form → Band
jerk_band q t k j near far =
    let o = total (take k t.counts) in
    let r = +1 ⊘ spacing q j in
    band (get_or t.counts k 0) (λ i. at t.max (o + i))
    ((λ i. cell (col_a q k) (at t.a (o + i)))
    ∷ (λ i. cell (col_b q j) (jerk_value near (at t.b (o + i)) (at t.c (o + i)) r))
    ∷ (λ i. cell (col_b q (j + 1)) (jerk_value far (at t.b (o + i)) (at t.c (o + i)) r))
    ∷ [])
