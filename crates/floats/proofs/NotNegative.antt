-- Values that are not below zero, +infinity among them: sums of two, products, squares and sizes. Assumes nothing.
use Rattle.std.proofs.Common.{◌≡◌, true, false, not, T, refl, zero-mul, arith}
use lib.Ieee.{Float, nan, inf, fin, Format, binary32, binary64, round, add, mul, le, is_nan, of_bits}
use lib.Ieee.Scale.{finite}
use Rattle.floats.specs.Floats.{mul_add, abs_of, has_sign}
use Rattle.floats.proofs.Sign.{round_has}
use Rattle.floats.proofs.Signed.{⊑→le}
use Rattle.floats.proofs.Order.{le_trans_f}
use Rattle.floats.proofs.Monotone.{add_mono, mul_mono_r, mul_mono_l}
use Rattle.floats.specs.Values.{zero_f}

-- a value with a plus sign
pub plus_le : (x : Float) → T (has_sign false x) → T (le zero_f x)
unfolding of_bits
plus_le nan h = absurd h
plus_le (inf true) h = absurd h
plus_le (inf false) h = unfold le in tt
plus_le (fin true m e) h = absurd h
plus_le (fin false m e) h = ⊑→le zero_f (fin false m e) tt tt (simp zero-mul (omega arith))

zeros_add : (f : Format) → add f zero_f zero_f ≡ zero_f
unfolding add round of_bits
zeros_add binary32 = refl
zeros_add binary64 = refl

-- a sum of two never meets the difference of two infinities
pub add_le : (f : Format) (x y : Float) → T (le zero_f x) → T (le zero_f y) → T (le zero_f (add f x y))
unfolding of_bits
add_le f nan y h k = absurd (unfold le in h)
add_le f (inf true) y h k = absurd (unfold le in h)
add_le f (inf false) nan h k = absurd (unfold le in k)
add_le f (inf false) (inf true) h k = absurd (unfold le in k)
add_le f (inf false) (inf false) h k = unfold le add in tt
add_le f (inf false) (fin t n d) h k = unfold le add in tt
add_le f (fin s m e) nan h k = absurd (unfold le in k)
add_le f (fin s m e) (inf true) h k = absurd (unfold le in k)
add_le f (fin s m e) (inf false) h k = unfold le add in tt
add_le f (fin s m e) (fin t n d) h k = rw (zeros_add f) at (add_mono f zero_f (fin s m e) zero_f (fin t n d) tt tt tt tt h k)

zeros_mul : (f : Format) → T (le zero_f (mul f zero_f zero_f)) × T (le zero_f zero_f)
unfolding mul round le of_bits
zeros_mul binary32 = (tt, tt)
zeros_mul binary64 = (tt, tt)

-- a product of two that are finite too: zero times an infinity is a NaN
pub mul_le : (f : Format) (x y : Float) → T (finite x) → T (finite y) → T (le zero_f x) → T (le zero_f y) → T (le zero_f (mul f x y))
unfolding of_bits
mul_le f x y F G h k =
    le_trans_f zero_f (mul f zero_f zero_f) (mul f x y) (zeros_mul f).0
    (le_trans_f (mul f zero_f zero_f) (mul f zero_f y) (mul f x y) (mul_mono_l f zero_f zero_f y tt tt G (zeros_mul f).1 k) (mul_mono_r f zero_f x y tt F G k h))

pub square_le : (f : Format) (x : Float) → T (not (is_nan x)) → T (le zero_f (mul f x x))
unfolding is_nan mul
square_le f nan h = absurd h
square_le f (inf true) h = plus_le (inf false) tt
square_le f (inf false) h = plus_le (inf false) tt
square_le f (fin true m e) h = plus_le _ (round_has f false _ _)
square_le f (fin false m e) h = plus_le _ (round_has f false _ _)

-- added to what is not below zero
pub square_add_le : (b x : Float) → T (le zero_f b) → T (not (is_nan x)) → T (le zero_f (mul_add x x b))
square_add_le b x k n = add_le binary32 (mul binary32 x x) b (square_le binary32 x n) k

pub abs_le : (x : Float) → T (not (is_nan x)) → T (le zero_f (abs_of x))
unfolding is_nan
abs_le nan h = absurd h
abs_le (inf s) h = plus_le (inf false) tt
abs_le (fin s m e) h = plus_le (fin false m e) tt
