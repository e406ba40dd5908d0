-- Places in the tables of the joints, and bounds of products.
use Prim.Native.Nat.{ℕ, suc, ◌+◌, ◌*◌, ◌≤◌, ◌<◌}
use native.Mathlib.Nat.{suc-mul, mul-le-mul, le_refl}
use native.Mathlib.Omega.{arith}

-- the joints of station k, of n stations
pub within_all : (k n d : ℕ) → k < n → k * d + d ≤ n * d
within_all k n d h =
    let e : suc k * d ≤ n * d = mul-le-mul h (le_refl d) in
    omega (arith, suc-mul k d)

-- joint i of station k
pub within : (k n d i : ℕ) → k < n → i < d → k * d + i < n * d
within k n d i h g = let e = within_all k n d h in omega arith

pub at_most : (d x : ℕ) → d ≤ 32 → d * x ≤ 32 * x
at_most d x h = mul-le-mul h (le_refl x)
