-- A value at most 1 times a power of two is exact; a value rounded to a whole number; a whole number, cast. Assumes nothing.
use Rattle.std.proofs.Common.{◌≡◌, ℕ, zero, suc, ◌+◌, ◌*◌, ◌^◌, ◌<◌, ◌≤◌, true, false, not, ◌&&◌, T, ℤ, pos, sym, refl, ap, ◌∙◌, subst, true≢false, le_trans, le_of_eq, lt_of_le_of_lt, mul-le-mul_right, mul_assoc, mul_comm, one-mul, zero-mul, mul-one, mul_right_comm, le_of_mul-le-mul_right, arith, pow-add, le-leb}
use lib.Pow.{pow-lt}
use lib.Ieee.{Float, nan, inf, fin, binary32, binary64, low, emax, up, down, round, mul, fits, is_nan, of_int, in_float, in_unsigned, to_unsigned}
use lib.Ieee.Back.{round_whole, whole_unique, unsigned_back}
use lib.Ieee.Exact.{HasValue, round_exact}
use lib.Ieee.Fits.{and_i, down_pos, nan-fits, inf-fits, round-fits, fits_widens}
use lib.Ieee.Nearest.{closest, closest_same}
use Rattle.floats.specs.Floats.{round_even}
use Rattle.floats.proofs.Exact.{down_low, expo, value_number}
use Rattle.floats.proofs.Sign.{round_zero}
use Rattle.floats.proofs.Whole.{round_even_value}

-- ---- m * up e / down e, at most 1, times 2 ^ k, for a k that the format's range has room for
few : (m j k u d : ℕ) → m * u * 2 ^ low binary32 ≡ m * 2 ^ j * d → 0 < d → m * u ≤ d → k < 128
    → m * 2 ^ (j + k) < 2 ^ (low binary32 + suc (emax binary32))
few m j k u d e D h K =
    let l = 2 ^ low binary32 in
    let a : m * 2 ^ j ≤ l = le_of_mul-le-mul_right (le_trans (le_of_eq (sym e)) (le_trans (mul-le-mul_right l h) (le_of_eq (mul_comm d l)))) D in
    let b : m * 2 ^ (j + k) ≡ m * 2 ^ j * 2 ^ k = ap (λ z. m * z) (pow-add 2 j k) ∙ sym (mul_assoc m (2 ^ j) (2 ^ k)) in
    lt_of_le_of_lt (le_trans (le_of_eq b) (le_trans (mul-le-mul_right (2 ^ k) a) (le_of_eq (sym (pow-add 2 (low binary32) k)))))
    (pow-lt {i = low binary32 + k} {j = low binary32 + 128} (omega arith))

moved : (m u l j k d : ℕ) → m * u * l ≡ m * 2 ^ j * d → m * u * (1 * 2 ^ k) * l ≡ m * 2 ^ (j + k) * (d * 1)
moved m u l j k d e =
    ap (λ z. m * u * z * l) (one-mul (2 ^ k))
    ∙ mul_right_comm (m * u) (2 ^ k) l
    ∙ ap (λ z. z * 2 ^ k) e
    ∙ mul_right_comm (m * 2 ^ j) d (2 ^ k)
    ∙ ap (λ z. z * d) (mul_assoc m (2 ^ j) (2 ^ k) ∙ ap (λ z. m * z) (sym (pow-add 2 j k)))
    ∙ ap (λ z. m * 2 ^ (j + k) * z) (sym (mul-one d))

pub product : (m : ℕ) (e : ℤ) (k : ℕ) → k < 128 → T (fits binary32 (fin false m e)) → m * up e ≤ down e
    → HasValue (mul binary32 (fin false m e) (fin false 1 (pos k))) false (m * up e * (1 * 2 ^ k)) (down e * 1)
unfolding mul
product zero e k K F h =
    let z : 0 * up e * (1 * 2 ^ k) ≡ 0 = rw (zero-mul (up e)) (zero-mul (1 * 2 ^ k)) in
    let D : 0 < down e * 1 = rw mul-one (down_pos e) in
    subst (λ n. HasValue (round binary32 false n (down e * 1)) false n (down e * 1)) (sym z)
    (subst (λ x. HasValue x false 0 (down e * 1)) (sym (round_zero binary32 false (down e * 1) D)) (refl, zero-mul (down e * 1)))
product (suc m) e k K F h =
    let b = down_low binary32 false m e F in
    let j = expo binary32 e b.1 in
    let eq : suc m * up e * 2 ^ low binary32 ≡ suc m * 2 ^ j.0 * down e = rw (mul_assoc (suc m) (up e), j.1, mul_assoc (suc m) (2 ^ j.0)) in
    round_exact binary32 false (suc m * up e * (1 * 2 ^ k)) (down e * 1) (suc m) (j.0 + k) (rw mul-one (down_pos e)) b.0
    (few (suc m) j.0 k (up e) (down e) eq (down_pos e) h K)
    (moved (suc m) (up e) (2 ^ low binary32) j.0 k (down e) eq)

-- a value, rounded to the whole number nearest to it
pub rounded : (y : Float) (a c : ℕ) → 0 < c → T (fits binary32 y) → HasValue y false a c → HasValue (round_even binary32 y) false (closest a c) 1
rounded nan a c C F v = absurd v
rounded (inf s) a c C F v = absurd v
rounded (fin true m e) a c C F v = absurd (true≢false v.0)
rounded (fin false m e) a c C F v =
    subst (λ q. HasValue (round_even binary32 (fin false m e)) false q 1) (closest_same (m * up e) (down e) a c (down_pos e) C v.1)
    (round_even_value binary32 false m e F)

pub even_fits : (y : Float) → T (fits binary32 (round_even binary32 y))
unfolding round_even
even_fits nan = nan-fits binary32
even_fits (inf s) = inf-fits binary32 s
even_fits (fin s m e) = round-fits binary32 s (closest (m * up e) (down e)) 1

-- ---- a whole number below 2 ^ 32, cast
pub record Casts (x : Float) (n : ℕ) : Type 0 where
  pub wide : T (fits binary64 x && not (is_nan x))
  pub whole : T (in_unsigned binary64 32 x)
  pub is : to_unsigned 32 x ≡ n

pub casts : (x : Float) (n : ℕ) → n < 2 ^ 32 → T (fits binary32 x) → HasValue x false n 1 → Casts x n
unfolding of_int in_float
casts x n h F v =
    let w : n ≤ 2 ^ 53 = omega arith in
    let W = fits_widens x F in
    let y = round binary64 false n 1 in
    let same : x ≡ y = whole_unique binary64 x y false n W (round-fits binary64 false n 1) v (round_whole binary64 false n w) in
    let b = unsigned_back binary64 32 n (subst T (sym (le-leb n (2 ^ 53) w)) tt) h in
    record {
      wide = and_i (fits binary64 x) (not (is_nan x)) W (value_number x false n 1 v);
      whole = subst (λ y. T (in_unsigned binary64 32 y)) (sym same) b.0;
      is = ap (to_unsigned 32) same ∙ b.1;
    }
