-- Values that are 1 at least: 1 more than what is not below zero, and 1 over them. Assumes nothing.
use Rattle.std.proofs.Common.{◌≡◌, ℕ, zero, suc, ◌-◌, ◌*◌, ◌<◌, Bool, true, false, T, ℤ, pos, refl, true≢false, zero-lt-suc, mul-pos, one-mul, zero-mul, mul-one, arith, lit≤}
use lib.Dec.{eqb-suc-zero}
use lib.Ieee.{Float, nan, inf, fin, Format, binary32, up, down, add, div, le, of_bits}
use lib.Ieee.Fits.{up_pos, down_pos}
use lib.Ieee.Scale.{finite}
use Rattle.floats.specs.Floats.{has_sign}
use Rattle.floats.specs.Fraction.{frac}
use Rattle.floats.proofs.Sign.{round_has, finite_number}
use Rattle.floats.proofs.Signed.{le→⊑, Rounds, rounded}
use Rattle.floats.proofs.NotNegative.{plus_le}
use Rattle.floats.proofs.Order.{le_trans_f, le_refl_f}
use Rattle.floats.proofs.Monotone.{add_mono}
use Rattle.floats.proofs.Magnitude.{div_below, below_between}
use Rattle.floats.specs.Values.{zero_f, one_f}
use Rattle.floats.specs.Between.{Between}

ones : T (le one_f (add binary32 zero_f one_f)) × T (le one_f (add binary32 one_f zero_f))
unfolding add le of_bits
ones = (tt, tt)

-- plus 1, an infinity included
finite_one : (x : Float) → T (finite x) → T (le zero_f x) → T (le one_f (add binary32 x one_f)) × T (le one_f (add binary32 one_f x))
unfolding of_bits
finite_one x F h =
    let same = le_refl_f one_f (finite_number one_f tt) in (
      le_trans_f one_f (add binary32 zero_f one_f) (add binary32 x one_f) ones.0 (add_mono binary32 zero_f x one_f one_f tt F tt tt h same),
      le_trans_f one_f (add binary32 one_f zero_f) (add binary32 one_f x) ones.1 (add_mono binary32 one_f one_f zero_f x tt tt tt F same h),
    )

pub plus_one : (x : Float) → T (le zero_f x) → T (le one_f (add binary32 x one_f)) × T (le one_f (add binary32 one_f x))
unfolding le add of_bits
plus_one nan h = absurd h
plus_one (inf true) h = absurd h
plus_one (inf false) h = (tt, tt)
plus_one (fin s m e) h = finite_one (fin s m e) tt h

-- ---- 1 over what is 1 at least
pub no_sign : (t : Bool) (n : ℕ) (d : ℤ) → T (le one_f (fin t n d)) → (t ≡ false) × (n ≡ suc (n - 1))
unfolding of_bits
no_sign true n d h = absurd (omega (arith, simp zero-mul at (le→⊑ one_f (fin true n d) tt tt h), down_pos d))
no_sign false zero d h = absurd (omega (arith, simp zero-mul at (le→⊑ one_f (fin false zero d) tt tt h), down_pos d))
no_sign false (suc n) d h = (refl, omega arith)

clear_over : (n : ℕ) (d : ℤ) → T (has_sign false (div binary32 one_f (fin false (suc n) d)))
unfolding div of_bits
clear_over n d = rw (eqb-suc-zero n) (round_has binary32 false (1 * up (pos 0) * down d) (suc n * up d * down (pos 0)))

pub one_over_sign : (y : Float) → T (le one_f y) → T (has_sign false (div binary32 one_f y))
unfolding div le of_bits
one_over_sign nan h = absurd h
one_over_sign (inf true) h = absurd h
one_over_sign (inf false) h = tt
one_over_sign (fin t n d) h =
    let k = no_sign t n d h in
    rw (k.0, k.1) (clear_over (n - 1) d)

pub one_over : (y : Float) → T (le one_f y) → Between zero_f one_f (div binary32 one_f y)
unfolding of_bits
one_over y h = (
  plus_le (div binary32 one_f y) (one_over_sign y h),
  (below_between 0 (div binary32 one_f y) (div_below binary32 0 one_f y (lit≤ tt) (lit≤ tt) h)).1,
)

-- its fraction turned over, rounded
pub one_over_rounds : (f : Format) (y : Float) → T (finite y) → T (le one_f y)
    → (0 < (frac y).over) × Rounds f (div f one_f y) (record { over = (frac y).by; under = 0; by = (frac y).over })
unfolding div of_bits
one_over_rounds f nan p h = absurd p
one_over_rounds f (inf s) p h = absurd p
one_over_rounds f (fin true n d) p h = absurd (true≢false (no_sign true n d h).0)
one_over_rounds f (fin false zero d) p h = absurd (omega (arith, (no_sign false zero d h).1))
one_over_rounds f (fin false (suc n) d) p h = (
  mul-pos (zero-lt-suc n) (up_pos d),
  rw (eqb-suc-zero n) (simp (one-mul, mul-one) (rounded f false (down d) (omega arith))),
)
