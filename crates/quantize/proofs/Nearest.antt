-- No code is nearer to the rounded product plus the zero point than the one given, in exact arithmetic: `nearest_code`. Assumes nothing.
use mathlib.Core.Path.{◌≡◌, sym, ◌∙◌, ap}
use mathlib.Core.Bool.{true, false, not}
use mathlib.Core.Logic.{inl, inr}
use Prim.Native.Nat.{ℕ, ◌+◌, ◌-◌, ◌*◌, ◌<◌, ◌≤◌, min}
use native.Mathlib.Nat.{add-mul, suc-mul, zero-mul, mul-le-mul_right}
use native.Mathlib.Omega.{arith}
use lib.Dec.{T}
use lib.Ieee.{Float, nan, inf, fin, binary32, up, down, mul, is_nan}
use lib.Ieee.Fits.{down_pos}
use lib.Ieee.Nearest.{closest}
use lib.Ieee.Scale.{finite}
use Rattle.floats.specs.Fraction.{Frac, frac}
use Rattle.floats.specs.Between.{Near}
use Rattle.floats.proofs.Near.{near}
use Rattle.floats.proofs.Numbers.{less_or}
use Rattle.floats.proofs.NoNan.{mul_number}
use Rattle.floats.proofs.Sign.{finite_number}
use Rattle.quantize.specs.Quantize.{clamp_of, code_of}

-- |a - b|
abbrev pub apart : ℕ → ℕ → ℕ
apart a b = (a - b) + (b - a)

-- |q + zp - k|, times q's denominator, which is above 0
abbrev pub distance : Frac → ℕ → ℕ → ℕ
distance q zp k = apart (q.over + zp * q.by) (q.under + k * q.by)

-- the statement: y is the rounded product, finite, and k any code
abbrev pub Nearest : Float → Float → ℕ → ℕ → Type 0
Nearest inv x zp k =
    let y = mul binary32 x inv in
    T (finite y) → k ≤ 255 → distance (frac y) zp (code_of inv zp x) ≤ distance (frac y) zp k

-- ---- on whole numbers
-- the code c is within a half of (x - u) / d, or it is an end of the codes, and (x - u) / d lies there or beyond
data Fitting (x u d : ℕ) : ℕ → Type 0 where
  close : {c : ℕ} → (u + c * d) * 2 ≤ x * 2 + d → x * 2 ≤ (u + c * d) * 2 + d → Fitting x u d c
  most : u + 255 * d ≤ x → Fitting x u d 255
  least : x ≤ u → Fitting x u d 0

far : (k l d : ℕ) → k < l → k * d + d ≤ l * d
far k l d h = omega (arith, mul-le-mul_right d h, suc-mul k d)

-- so no code k is nearer
nearer : (x u d c k : ℕ) → k ≤ 255 → Fitting x u d c → apart x (u + c * d) ≤ apart x (u + k * d)
nearer x u d c k K (close h l) =
    elim (less_or k c) [
      | inl m ↦ (let f = far k c d m in omega arith)
      | inr g ↦ elim (less_or c k) [
        | inl m ↦ (let f = far c k d m in omega arith)
        | inr m ↦ (let e : k ≡ c = omega arith in rw e (omega arith))
      ]
    ]
nearer x u d c k K (most h) = let f = mul-le-mul_right d K in omega arith
nearer x u d c k K (least h) = omega (arith, zero-mul d)

-- q is the whole number nearest to a / d: what it makes of the zero point fits, upward and downward
module _ (a d q zp : ℕ) (n : Near q a d) where
  upward : Fitting (a + zp * d) 0 d (min (zp + q) 255)
  upward = elim (less_or 255 (zp + q)) [ inl h ↦ full h | inr h ↦ here h ]
    where
      full : 255 < zp + q → Fitting (a + zp * d) 0 d (min (zp + q) 255)
      full h =
          let m : min (zp + q) 255 ≡ 255 = omega arith in
          rw m (most (omega (arith, far 255 (zp + q) d h, add-mul zp q d)))

      here : zp + q ≤ 255 → Fitting (a + zp * d) 0 d (min (zp + q) 255)
      here h =
          let m : min (zp + q) 255 ≡ zp + q = omega arith in
          let s = add-mul zp q d in
          rw m (close {c = zp + q} (omega arith) (omega arith))

  downward : Fitting (0 + zp * d) a d (zp - q)
  downward = elim (less_or zp q) [ inl h ↦ full h | inr h ↦ here h ]
    where
      full : zp < q → Fitting (0 + zp * d) a d (zp - q)
      full h = let m : zp - q ≡ 0 = omega arith in rw m (least (omega (arith, far zp q d h)))

      here : q ≤ zp → Fitting (0 + zp * d) a d (zp - q)
      here h =
          let s : (zp - q) * d + q * d ≡ zp * d = sym (add-mul (zp - q) q d) ∙ ap (λ x. x * d) (omega arith) in
          close {c = zp - q} (omega arith) (omega arith)

clamp_nearest : (y : Float) (zp k : ℕ) → T (finite y) → k ≤ 255 → distance (frac y) zp (clamp_of zp y) ≤ distance (frac y) zp k
unfolding clamp_of
clamp_nearest nan zp k t K = absurd t
clamp_nearest (inf s) zp k t K = absurd t
clamp_nearest (fin false m e) zp k t K =
    let n = near (m * up e) (down e) (down_pos e) in
    nearer _ _ (down e) _ k K (upward (m * up e) (down e) (closest (m * up e) (down e)) zp n)
clamp_nearest (fin true m e) zp k t K =
    let n = near (m * up e) (down e) (down_pos e) in
    nearer _ _ (down e) _ k K (downward (m * up e) (down e) (closest (m * up e) (down e)) zp n)

pub nearest_code : (inv x : Float) (zp k : ℕ) → Nearest inv x zp k
nearest_code inv x zp k t K = clamp_nearest (mul binary32 x inv) zp k t K

-- the one given is a code
clamp_code : (y : Float) (zp : ℕ) → zp ≤ 255 → clamp_of zp y ≤ 255
unfolding clamp_of
clamp_code nan zp z = omega arith
clamp_code (inf true) zp z = omega arith
clamp_code (inf false) zp z = omega arith
clamp_code (fin true m e) zp z = omega arith
clamp_code (fin false m e) zp z = omega arith

pub code_clamped : (inv x : Float) (zp : ℕ) → zp ≤ 255 → code_of inv zp x ≤ 255
code_clamped inv x zp z = clamp_code (mul binary32 x inv) zp z

-- the product of finite numbers is no NaN, so `clamp_of`'s case for one never counts
pub product_number : (inv x : Float) → T (finite inv) → T (finite x) → T (not (is_nan (mul binary32 x inv)))
product_number inv x p q = mul_number binary32 x inv (finite_number x q) (finite_number inv p) (inl q) (inl p)
