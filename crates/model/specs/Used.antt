-- "A number of tables 2 to 15, alpha or beta that no row or cost uses is never read; an end with count 0 has bounds that aren't read." Which numbers are used, and what two problems
-- share that agree on them: sizing and the assembly answer both alike (proofs/Unread.antt, `unread`).
use Rattle.std.specs.Prelude.{◌+◌, ◌*◌, ◌≤◌, ◌<◌, ◌≡◌, ◌⊎◌}
use Rattle.model.specs.Base.{ℕ, max, List, length, get_or, take, Float, nan, Objective, Time, ThermalEnergy, TotalVariationTorque, Linear}
use Rattle.model.specs.Numbers.{at}
use Rattle.model.specs.Lists.{part, total}
use Rattle.model.specs.Problem.{Problem, Path, Limits, Acceleration, Jerk, Torque, objectives, n}

-- two lists of one length (refusals 12 and 15 test it), with equal numbers at the places that are used
pub record Same (used : ℕ → Type 0) (t t' : List Float) : Type 0 where
  pub long : length t ≡ length t'
  pub equal : (i : ℕ) → used i → at t i ≡ at t' i

-- place i of a table that goes station by station belongs to a used station: station k has `many k` places, from `first k` on
pub record Among (used : ℕ → Type 0) (first many : ℕ → ℕ) (i : ℕ) : Type 0 where
  pub station : ℕ
  pub uses : used station
  pub from : first station ≤ i
  pub below : i < first station + many station

-- "3 to 5 the sum of table 0; 6 to 9 the sum of table 1": as many rows for each station as its table says
abbrev pub RowsOf : (ℕ → Type 0) → List ℕ → ℕ → Type 0
RowsOf used counts = Among used (λ k. total (take k counts)) (λ k. get_or counts k 0)

-- "11 to 13, d×(n+1), station by station"
abbrev pub JointsOf : (ℕ → Type 0) → ℕ → ℕ → Type 0
JointsOf used d = Among used (λ k. k * d) (λ k. d)

module _ (q : Path) where
  -- "k from N0+1 to n−N1−1": amax and acceleration
  abbrev pub Inner : ℕ → Type 0
  Inner k = (q.N0 < k) × (k + q.N1 < n q)

  -- "k from N0 to n−N1": jerk, TotalVariationTorque, Linear
  abbrev pub Moving : ℕ → Type 0
  Moving k = (q.N0 ≤ k) × (k + q.N1 ≤ n q)

  -- the L stations from max(N0,1) on, each of which has its xi: ThermalEnergy
  abbrev pub WithXi : ℕ → Type 0
  WithXi k = (max q.N0 1 ≤ k) × (k + max q.N1 1 ≤ n q)

  -- "station 0 or n", where the end is positive: thermal weights, and gravity
  abbrev pub Resting : ℕ → Type 0
  Resting k = ((0 < q.N0) × (k ≡ 0)) ⊎ ((0 < q.N1) × (k ≡ n q))

  -- Linear besides: "Its start part uses stations 1 to N0−1, its end part stations 1 to N1−1"
  abbrev pub Parts : ℕ → Type 0
  Parts k = ((1 ≤ k) × (k < q.N0)) ⊎ ((1 ≤ k) × (k < q.N1))

  -- "an end with count 0 has bounds that aren't read"
  pub record SameLimits (l l' : Limits) : Type 0 where
    pub start : 0 < q.N0 → l.start ≡ l'.start
    pub end : 0 < q.N1 → l.end ≡ l'.end
    pub amax : Same Inner l.amax l'.amax

  pub record SameAcceleration (t t' : Acceleration) : Type 0 where
    pub counts : t.counts ≡ t'.counts
    pub a : Same (RowsOf Inner t.counts) t.a t'.a
    pub b : Same (RowsOf Inner t.counts) t.b t'.b
    pub max : Same (RowsOf Inner t.counts) t.max t'.max

  pub record SameJerk (t t' : Jerk) : Type 0 where
    pub counts : t.counts ≡ t'.counts
    pub a : Same (RowsOf Moving t.counts) t.a t'.a
    pub b : Same (RowsOf Moving t.counts) t.b t'.b
    pub c : Same (RowsOf Moving t.counts) t.c t'.c
    pub max : Same (RowsOf Moving t.counts) t.max t'.max

  -- for an objective with rows at the used stations
  pub record SameTorque (used : ℕ → Type 0) (x x' : Torque) : Type 0 where
    pub a : Same (JointsOf used x.d) x.a x'.a
    pub b : Same (JointsOf used x.d) x.b x'.b
    pub g : Same (JointsOf (λ k. used k ⊎ Resting k) x.d) x.g x'.g

module _ (p p' : Problem) where
  -- refusal 13 reads every scale
  abbrev pub SameScales : ℕ → ℕ → Type 0
  SameScales start len = part p.pool start len ≡ part p'.pool start len

  -- alpha or beta
  abbrev pub SameCoefficients : ℕ → ℕ → Type 0
  SameCoefficients start len = Same (λ k. Moving p.path k ⊎ Parts p.path k) (part p.pool start len) (part p'.pool start len)

  -- "Table 10 counts only with a ThermalEnergy objective, 11 to 13 only with that or TotalVariationTorque, 14 and 15 only with Linear." The root of station k is number k − 1
  abbrev pub SameFor : Objective → Type 0
  SameFor (Time w) = Unit {0}
  SameFor (ThermalEnergy w start len) =
      SameScales start len
      × SameTorque p.path (WithXi p.path) p.torque p'.torque
      × Same (λ k. WithXi p.path k ⊎ Resting p.path k) p.thermal p'.thermal
  SameFor (TotalVariationTorque w start len) = SameScales start len × SameTorque p.path (Moving p.path) p.torque p'.torque
  SameFor (Linear w alpha alpha_len beta beta_len) =
      SameCoefficients alpha alpha_len
      × SameCoefficients beta beta_len
      × Same (λ i. i + 1 < p.path.N0) p.roots.start p'.roots.start
      × Same (λ i. i + 1 < p.path.N1) p.roots.end p'.roots.end

  -- whole: boundary, grid, N0, N1, the first `count` objectives, d, tables 0 and 1; of all else what is used
  pub record Agree : Type 0 where
    pub boundary : p.boundary ≡ p'.boundary
    pub path : p.path ≡ p'.path
    pub count : p.count ≡ p'.count
    pub chosen : objectives p ≡ objectives p'
    pub d : p.torque.d ≡ p'.torque.d
    pub limits : SameLimits p.path p.limits p'.limits
    pub acc : SameAcceleration p.path p.acc p'.acc
    pub jerk : SameJerk p.path p.jerk p'.jerk
    -- past the last objective `get_or` gives a Time, which uses no list
    pub lists : (i : ℕ) → SameFor (get_or (objectives p) i (Time nan))
