-- The error of one rounding, in units of the format's smallest value. Assumes nothing.
-- Of a fraction a / c the format f keeps grid f a c units, and the fraction itself is a * 2 ^ low f / c units.
use Rattle.std.proofs.Common.{◌≡◌, ℕ, zero, suc, ◌+◌, ◌-◌, ◌*◌, ◌/◌, ◌%◌, ◌^◌, ◌<◌, ◌≤◌, sym, refl, ap, ◌∙◌, subst, inl, inr, zero-le, le_trans, le_of_eq, mul-le-mul_right, mul_comm, add-mul, mul-pos, le-div_iff_mul-le, zero-mul, mul-one, le_of_mul-le-mul_right, arith, pow_pos, pow-add}
use Prim.Native.Nat.{compare}
use lib.Ieee.{Format, binary32, binary64, prec, low, hid, size}
use lib.Ieee.Digits.{size_reaches}
use lib.Ieee.Fits.{two, two-le_pos}
use lib.Ieee.Nearest.{closest, nearest-ge}
use lib.Ieee.Order.{drop, kept}
use lib.Ieee.Scale.{grid}
use Rattle.lists.specs.Lists.{sum_to}
use Rattle.floats.proofs.Numbers.{spread, less_or}
use Rattle.floats.proofs.Near.{near, closest_exact}

-- x and y differ by at most slack / P
abbrev pub Within : ℕ → ℕ → ℕ → ℕ → Type 0
Within P x y slack = (x * P ≤ y * P + slack) × (y * P ≤ x * P + slack)

-- g differs from n / c by at most slack / c / 2 ^ prec
abbrev pub Err : Format → ℕ → ℕ → ℕ → ℕ → Type 0
Err f g n c slack = Within (2 ^ prec f) (g * c) n slack

-- a * 2 ^ low f / c has all the digits that the format keeps
abbrev pub Normal : Format → ℕ → ℕ → Type 0
Normal f a c = prec f ≤ size (a * 2 ^ low f / c)

-- ---- half of the last digit kept, which weighs 2 ^ drop units
digits : (f : Format) → 2 ^ prec f ≡ hid f * 2
digits binary32 = refl
digits binary64 = refl

half_ulp : (f : Format) (a c slack : ℕ) → 0 < c
    → c * 2 ^ drop (prec f) (a * 2 ^ low f) c * hid f ≤ slack → Err f (grid f a c) (a * 2 ^ low f) c slack
half_ulp f a c slack C l =
    let n = a * 2 ^ low f in
    let d = 2 ^ drop (prec f) n c in
    let u = near n (c * d) (mul-pos C (pow_pos (drop (prec f) n c))) in
    subst (λ (P : ℕ). Within P (grid f a c * c) n slack) (sym (digits f))
    (widen (kept (prec f) n c) d n (hid f) u.0 u.1 l)
  where
    widen : (q d n H : ℕ) → q * (c * d) * 2 ≤ n * 2 + c * d → n * 2 ≤ q * (c * d) * 2 + c * d → c * d * H ≤ slack
        → Within (H * 2) (q * d * c) n slack
    widen q d n H h k l =
        let h1 = simp spread at (mul-le-mul_right H h) in
        let k1 = simp spread at (mul-le-mul_right H k) in
        let l1 = simp spread at l in
        (simp spread (omega arith), simp spread (omega arith))

few : (z p : ℕ) → z < p → z - p ≡ 0
few z p h = omega arith

ulp_le : (f : Format) (a c : ℕ) → 0 < c → Normal f a c → c * 2 ^ drop (prec f) (a * 2 ^ low f) c * hid f ≤ a * 2 ^ low f
ulp_le f a c C N =
    let p = prec f in
    let w = a * 2 ^ low f / c in
    let k = size w - p in
    le_trans (le_of_eq (simp spread))
    ((le-div_iff_mul-le C).0
    (le_trans (le_of_eq (sym (pow-add 2 (p - 1) k))) (size_reaches w (p - 1 + k) (in_use (size w) p (two-le_pos p (two f)) N))))
  where
    in_use : (z p : ℕ) → 0 < p → p ≤ z → p - 1 + (z - p) < z
    in_use z p P h = omega arith

-- ---- always: 2 ^ -prec of the fraction, and half a unit
pub round_err : (f : Format) (a c : ℕ) → 0 < c → Err f (grid f a c) (a * 2 ^ low f) c (a * 2 ^ low f + c * hid f)
round_err f a c C =
    half_ulp f a c (n + c * hid f) C
    (elim (less_or (size (n / c)) (prec f)) [
      | inl l ↦ small (few (size (n / c)) (prec f) l)
      | inr l ↦ (let u = ulp_le f a c C l in omega arith)
    ])
  where
    n : ℕ
    n = a * 2 ^ low f

    small : drop (prec f) n c ≡ 0 → c * 2 ^ drop (prec f) n c * hid f ≤ n + c * hid f
    small e = rw (e, mul-one c) (omega arith)

-- in the normal range: 2 ^ -prec of the fraction
pub normal_err : (f : Format) (a c : ℕ) → 0 < c → Normal f a c → Err f (grid f a c) (a * 2 ^ low f) c (a * 2 ^ low f)
normal_err f a c C N = half_ulp f a c (a * 2 ^ low f) C (ulp_le f a c C N)

-- in the normal range: 2 ^ -prec of the result
pub result_err : (f : Format) (a c : ℕ) → 0 < c → Normal f a c → Err f (grid f a c) (a * 2 ^ low f) c (grid f a c * c)
result_err f a c C N =
    half_ulp f a c (grid f a c * c) C
    (le_trans (le_of_eq (mul_comm u (hid f))) (le_trans (mul-le-mul_right u kept_ge) (le_of_eq (simp spread))))
  where
    n : ℕ
    n = a * 2 ^ low f

    u : ℕ
    u = c * 2 ^ drop (prec f) n c

    kept_ge : hid f ≤ kept (prec f) n c
    kept_ge =
        le_trans
        ((le-div_iff_mul-le (mul-pos C (pow_pos (drop (prec f) n c)))).1 (le_trans (le_of_eq (mul_comm (hid f) u)) (ulp_le f a c C N)))
        (nearest-ge (n / u) (compare (n % u * 2) u))

-- a fraction that is w units, a whole number, is kept as it is below the normal range: so everywhere 2 ^ -prec of the result
pub whole_err : (f : Format) (a c w : ℕ) → 0 < c → a * 2 ^ low f ≡ w * c → Err f (grid f a c) w 1 (grid f a c)
whole_err f a c w C e =
    elim (less_or (size (n / c)) (prec f)) [
      | inl l ↦ subst (λ (g : ℕ). Err f g w 1 g) (sym (small (few (size (n / c)) (prec f) l))) (simp mul-one (omega arith, omega arith))
      | inr l ↦ cut (grid f a c) (2 ^ prec f) (subst (λ (z : ℕ). Err f (grid f a c) z c (grid f a c * c)) e (result_err f a c C l))
    ]
  where
    n : ℕ
    n = a * 2 ^ low f

    small : drop (prec f) n c ≡ 0 → grid f a c ≡ w
    small z = rw z (mul-one (closest n (c * 1)) ∙ ap (closest n) (mul-one c) ∙ closest_exact n c w C e)

    cut : (g P : ℕ) → Within P (g * c) (w * c) (g * c) → Within P (g * 1) w g
    cut g P h =
        let h0 = simp spread at h.0 in
        let h1 = simp spread at h.1 in (
          le_of_mul-le-mul_right {k = c} (simp (mul-one, spread) (omega arith)) C,
          le_of_mul-le-mul_right {k = c} (simp (mul-one, spread) (omega arith)) C,
        )

-- ---- errors add up
pub within_add : (P x y s x' y' s' : ℕ) → Within P x y s → Within P x' y' s' → Within P (x + x') (y + y') (s + s')
within_add P x y s x' y' s' (h0, h1) (k0, k1) = simp add-mul (omega arith, omega arith)

pub err_sum : (f : Format) (c : ℕ) (g n s : ℕ → ℕ) (m : ℕ) → ((i : ℕ) → i < m → Err f (g i) (n i) c (s i))
    → Err f (sum_to g m) (sum_to n m) c (sum_to s m)
unfolding sum_to
err_sum f c g n s zero h = simp zero-mul (zero-le, zero-le)
err_sum f c g n s (suc m) h =
    rw (add-mul (sum_to g m) (g m) c)
    (within_add (2 ^ prec f) (sum_to g m * c) (sum_to n m) (sum_to s m) (g m * c) (n m) (s m)
    (err_sum f c g n s m (λ i l. h i (omega arith))) (h m (omega arith)))
