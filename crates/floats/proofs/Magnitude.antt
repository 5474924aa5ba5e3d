-- `Below k x`, a finite x of size at most 2 ^ k, through the operations: sums and products of values so bounded are finite. Assumes nothing.
use Rattle.std.proofs.Common.{ℕ, zero, suc, ◌+◌, ◌*◌, ◌^◌, ◌<◌, ◌≤◌, Bool, true, false, ◌&&◌, T, ltb, leb, ℤ, pos, zero-le, le_trans, le_of_eq, mul-le-mul_right, zero-lt-suc, mul-le-mul, mul-pos, one-mul, pow-suc, zero-mul, mul-one, arith, le→leb, lt→ltb, pow_pos, pow_mono, pow-add}
use lib.Dec.{eqb-suc-zero}
use lib.Pow.{pow-lt}
use lib.Ieee.{Float, nan, inf, fin, Format, prec, emax, low, up, down, unlike, round, neg, add, sub, mul, div, le, fits}
use lib.Ieee.Fits.{up_pos, down_pos, and_i, two, two-le_pos}
use lib.Ieee.Scale.{finite}
use Rattle.floats.specs.Fraction.{Frac, frac, ◌⊑◌, ◌⊕◌, ◌⊗◌}
use Rattle.floats.proofs.Numbers.{spread}
use Rattle.floats.proofs.Signed.{both_pos, le→⊑, ⊑→le, Rounds, rounded, rounds_mono}
use Rattle.floats.proofs.Monotone.{add_rounds, mul_rounds}
use Rattle.floats.proofs.Exact.{rounds_self}
use Rattle.floats.proofs.Order.{finite_between}

-- for `simp`: products by 0 and by 1
ruleset units = (zero-mul, one-mul, mul-one)

-- x is finite, and of size at most 2 ^ k
abbrev pub Below : ℕ → Float → Type 0
Below k nan = ⊥
Below k (inf s) = ⊥
Below k (fin s m e) = m * up e ≤ 2 ^ k * down e

pub below_fin : (k : ℕ) (x : Float) → Below k x → T (finite x)
below_fin k nan h = absurd h
below_fin k (inf s) h = absurd h
below_fin k (fin s m e) h = tt

weaken : (a i k d : ℕ) → i ≤ k → a ≤ 2 ^ i * d → a ≤ 2 ^ k * d
weaken a i k d h l = le_trans l (mul-le-mul_right d (pow_mono {i = i} {j = k} h))

pub below_mono : (i k : ℕ) (x : Float) → i ≤ k → Below i x → Below k x
below_mono i k nan h l = l
below_mono i k (inf s) h l = l
below_mono i k (fin s m e) h l = weaken (m * up e) i k (down e) h l

pub neg_below : (k : ℕ) (x : Float) → Below k x → Below k (neg x)
unfolding neg
neg_below k nan h = h
neg_below k (inf s) h = h
neg_below k (fin s m e) h = h

-- ---- by the tests -2 ^ k <= x and x <= 2 ^ k
pub between_below : (k : ℕ) (x : Float) → T (le (fin true 1 (pos k)) x) → T (le x (fin false 1 (pos k))) → Below k x
between_below k x lo hi = go x (finite_between (fin true 1 (pos k)) x (fin false 1 (pos k)) tt tt lo hi) lo hi
  where
    go : (x : Float) → T (finite x) → T (le (fin true 1 (pos k)) x) → T (le x (fin false 1 (pos k))) → Below k x
    go nan p lo hi = p
    go (inf s) p lo hi = p
    go (fin true m e) p lo hi = omega (arith, simp units at (le→⊑ (fin true 1 (pos k)) (fin true m e) tt tt lo))
    go (fin false m e) p lo hi = omega (arith, simp units at (le→⊑ (fin false m e) (fin false 1 (pos k)) tt tt hi))

pub below_between : (k : ℕ) (x : Float) → Below k x → T (le (fin true 1 (pos k)) x) × T (le x (fin false 1 (pos k)))
below_between k nan h = absurd h
below_between k (inf s) h = absurd h
below_between k (fin true m e) h = (
  ⊑→le (fin true 1 (pos k)) (fin true m e) tt tt (simp units (omega arith)),
  ⊑→le (fin true m e) (fin false 1 (pos k)) tt tt (simp units (omega arith)),
)
below_between k (fin false m e) h = (
  ⊑→le (fin true 1 (pos k)) (fin false m e) tt tt (simp units (omega arith)),
  ⊑→le (fin false m e) (fin false 1 (pos k)) tt tt (simp units (omega arith)),
)

-- ---- rounding keeps the bound
pow_fits : (f : Format) (s : Bool) (k : ℕ) → k ≤ emax f → T (fits f (fin s 1 (pos k)))
unfolding fits
pow_fits f s k h =
    let b : Bool = ltb 1 (2 ^ prec f) in
    let c : Bool = leb 1 (2 ^ low f) in
    let d : Bool = ltb (1 * 2 ^ k) (2 ^ suc (emax f) * 1) in
    and_i (b && c) d
    (and_i b c (lt→ltb 1 (2 ^ prec f) (pow-lt {i = 0} {j = prec f} (two-le_pos (prec f) (two f)))) (le→leb 1 (2 ^ low f) (pow_pos (low f))))
    (lt→ltb (1 * 2 ^ k) (2 ^ suc (emax f) * 1) (simp (one-mul, mul-one) (pow-lt (up_one k (emax f) h))))
  where
    up_one : (k l : ℕ) → k ≤ l → k < suc l
    up_one k l h = omega arith

-- a fraction's size is at most 2 ^ k
abbrev Within : ℕ → Frac → Type 0
Within k q = q.over + q.under ≤ 2 ^ k * q.by

rounds_below : (f : Format) (k : ℕ) {z : Float} {q : Frac} → 0 < q.by → k ≤ emax f → Rounds f z q → Within k q → Below k z
rounds_below f k {z} {q} Q h r w =
    between_below k z
    (rounds_mono f (pow_pos 0) Q (rounds_self f (fin true 1 (pos k)) tt (pow_fits f true k h)) r (simp units (omega arith)))
    (rounds_mono f Q (pow_pos 0) r (rounds_self f (fin false 1 (pos k)) tt (pow_fits f false k h)) (simp units (omega arith)))

pub round_below : (f : Format) (s : Bool) (n d k : ℕ) → 0 < d → k ≤ emax f → n ≤ 2 ^ k * d → Below k (round f s n d)
round_below f true n d k D h l = rounds_below f k {q = record { over = 0; under = n; by = d }} D h (rounded f true n (omega arith)) (omega arith)
round_below f false n d k D h l = rounds_below f k {q = record { over = n; under = 0; by = d }} D h (rounded f false n (omega arith)) (omega arith)

-- ---- the operations
within : (k : ℕ) (x : Float) → Below k x → Within k (frac x)
within k nan h = absurd h
within k (inf s) h = absurd h
within k (fin true m e) h = omega arith
within k (fin false m e) h = omega arith

pub mul_below : (f : Format) (i j k : ℕ) (x y : Float) → i + j ≤ k → k ≤ emax f → Below i x → Below j y → Below k (mul f x y)
mul_below f i j k x y t u h l =
    rounds_below f k (both_pos x y) u (mul_rounds f x y (below_fin i x h) (below_fin j y l))
    (product (frac x) (frac y) (within i x h) (within j y l))
  where
    product : (q r : Frac) → Within i q → Within j r → Within k (q ⊗ r)
    product q r v w =
        weaken ((q ⊗ r).over + (q ⊗ r).under) (i + j) k (q.by * r.by) t
        (le_trans (le_of_eq (simp spread (omega arith)))
        (le_trans (mul-le-mul v w) (le_of_eq (simp (pow-add, spread)))))

pub add_below : (f : Format) (i j k : ℕ) (x y : Float) → i ≤ k → j ≤ k → k < emax f → Below i x → Below j y
    → Below (suc k) (add f x y)
add_below f i j k x y t u v h l =
    rounds_below f (suc k) (both_pos x y) v (add_rounds f x y (below_fin i x h) (below_fin j y l))
    (total (frac x) (frac y) (within k x (below_mono i k x t h)) (within k y (below_mono j k y u l)))
  where
    total : (q r : Frac) → Within k q → Within k r → Within (suc k) (q ⊕ r)
    total q r v w =
        let v1 = simp spread at (mul-le-mul_right r.by v) in
        let w1 = simp spread at (mul-le-mul_right q.by w) in
        rw (pow-suc 2 k) (simp spread (omega arith))

pub sub_below : (f : Format) (i j k : ℕ) (x y : Float) → i ≤ k → j ≤ k → k < emax f → Below i x → Below j y
    → Below (suc k) (sub f x y)
unfolding sub
sub_below f i j k x y t u v h l = add_below f i j k x (neg y) t u v h (neg_below j y l)

quotient : (f : Format) (k : ℕ) (s : Bool) (m : ℕ) (e : ℤ) (t : Bool) (n : ℕ) (d : ℤ) → k ≤ emax f
    → m * up e ≤ 2 ^ k * down e → down d ≤ n * up d → Below k (div f (fin s m e) (fin t n d))
unfolding div
quotient f k s m e t zero d u h l = absurd (none (down d) (up d) (down_pos d) l)
  where
    none : (a b : ℕ) → 0 < a → a ≤ 0 * b → ⊥
    none a b h l = let z = zero-mul b in omega arith
quotient f k s m e t (suc n) d u h l =
    rw (eqb-suc-zero n)
    (round_below f (unlike s t) (m * up e * down d) (suc n * up d * down e) k
    (mul-pos (mul-pos (zero-lt-suc n) (up_pos d)) (down_pos e)) u
    (le_trans (mul-le-mul h l) (le_of_eq (simp spread))))

one_le : (t : Bool) (n : ℕ) (d : ℤ) → frac (fin false 1 (pos 0)) ⊑ frac (fin t n d) → down d ≤ n * up d
one_le true n d h = omega (arith, simp units at h)
one_le false n d h = omega (arith, simp units at h)

-- by a divisor that is 1 at least, an infinity included
pub div_below : (f : Format) (k : ℕ) (x y : Float) → k ≤ emax f → Below k x → T (le (fin false 1 (pos 0)) y) → Below k (div f x y)
unfolding div le
div_below f k nan y u h l = absurd h
div_below f k (inf s) y u h l = absurd h
div_below f k (fin s m e) nan u h l = absurd l
div_below f k (fin s m e) (inf t) u h l = simp zero-mul zero-le
div_below f k (fin s m e) (fin t n d) u h l =
    quotient f k s m e t n d u h (one_le t n d (le→⊑ (fin false 1 (pos 0)) (fin t n d) tt tt l))
