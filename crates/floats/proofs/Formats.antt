-- The laws that turn on the format, at f32 and at f64: each is proved once, over the format, and here they are only gathered. Assumes nothing.
-- The other laws of the order turn on no format, and are in Order.antt.
use Rattle.std.proofs.Common.{◌≡◌, ℕ, suc, ◌+◌, ◌-◌, ◌*◌, ◌^◌, ◌<◌, ◌≤◌, Bool, false, not, T, ◌⊎◌, List, length, ℤ, pos}
use mathlib.Core.List.{foldl}
use lib.Ieee.{Float, fin, Format, binary32, binary64, prec, emax, low, up, down, hid, round, add, sub, mul, div, eq, le, fits, is_nan}
use lib.Ieee.Exact.{HasValue}
use lib.Ieee.Nearest.{closest}
use lib.Ieee.Scale.{finite, grid}
use Rattle.floats.specs.Floats.{round_even}
use Rattle.floats.specs.Fraction.{Frac, frac, ◌⊑◌, ◌⊕◌, ◌⊗◌}
use Rattle.floats.specs.Each.{Each}
use Rattle.floats.specs.Units.{InUnits, units_of, units_in}
use Rattle.floats.specs.Values.{zero_f, one_f}
use Rattle.floats.proofs.Signed.{Rounds, rounds_mono}
use Rattle.floats.proofs.Order.{Zeros, le_antisym}
use Rattle.floats.proofs.Monotone.{add_rounds, add_mono, sub_mono, mul_rounds, mul_mono_r, mul_anti_r, mul_comm_f}
use Rattle.floats.proofs.Exact.{value_unique, round_self, sub_self_f, one_mul_f, mul_one_f, add_whole}
use Rattle.floats.proofs.Whole.{whole_value, round_even_value}
use Rattle.floats.proofs.Middle.{middle, middle_rounds, middle_stays}
use Rattle.floats.proofs.Error.{Err, Normal, round_err, normal_err, result_err, whole_err}
use Rattle.floats.proofs.Units.{Off, in_units, add_off, mul_off, one_over_off}
use Rattle.floats.proofs.Summed.{Term, Close, ordered_sum}
use Rattle.floats.proofs.Magnitude.{Below, round_below, mul_below, add_below, sub_below, div_below}
use Rattle.floats.proofs.NoNan.{round_number, add_number, sub_number, mul_number, div_number}

pub record Laws (f : Format) : Type 0 where
  -- rounding keeps the order, and changes nothing that fits
  pub rounds_mono : {z z' : Float} {q r : Frac} → 0 < q.by → 0 < r.by → Rounds f z q → Rounds f z' r → q ⊑ r → T (le z z')
  pub round_self : (s : Bool) (m : ℕ) (e : ℤ) → T (fits f (fin s m e)) → round f s (m * up e) (down e) ≡ fin s m e
  pub value_unique : (x y : Float) (s : Bool) (a c : ℕ) → 0 < c → T (fits f x) → T (fits f y)
      → HasValue x s a c → HasValue y s a c → x ≡ y
  pub le_antisym : (x y : Float) → T (fits f x) → T (fits f y) → T (le x y) → T (le y x) → (x ≡ y) ⊎ Zeros x y
  -- the operations round the exact result, and keep the order
  pub add_rounds : (x y : Float) → T (finite x) → T (finite y) → Rounds f (add f x y) (frac x ⊕ frac y)
  pub mul_rounds : (x y : Float) → T (finite x) → T (finite y) → Rounds f (mul f x y) (frac x ⊗ frac y)
  pub add_mono : (x x' y y' : Float) → T (finite x) → T (finite x') → T (finite y) → T (finite y')
      → T (le x x') → T (le y y') → T (le (add f x y) (add f x' y'))
  pub sub_mono : (x x' y y' : Float) → T (finite x) → T (finite x') → T (finite y) → T (finite y')
      → T (le x x') → T (le y' y) → T (le (sub f x y) (sub f x' y'))
  pub mul_mono_r : (x x' y : Float) → T (finite x) → T (finite x') → T (finite y) → T (le (fin false 0 (pos 0)) y)
      → T (le x x') → T (le (mul f x y) (mul f x' y))
  pub mul_anti_r : (x x' y : Float) → T (finite x) → T (finite x') → T (finite y) → T (le y (fin false 0 (pos 0)))
      → T (le x x') → T (le (mul f x' y) (mul f x y))
  pub mul_comm_f : (x y : Float) → mul f x y ≡ mul f y x
  -- exact results
  pub sub_self_f : (x : Float) → T (finite x) → sub f x x ≡ fin false 0 (pos 0)
  pub one_mul_f : (x : Float) → T (fits f x) → mul f (fin false 1 (pos 0)) x ≡ x
  pub mul_one_f : (x : Float) → T (fits f x) → mul f x (fin false 1 (pos 0)) ≡ x
  pub add_whole : (x y : Float) (s : Bool) (i j : ℕ) → HasValue x s i 1 → HasValue y s j 1 → i + j ≤ 2 ^ prec f
      → HasValue (add f x y) s (i + j) 1
  -- near 2 ^ (prec - 1) there are whole numbers only; and to the closest whole number
  pub whole_value : (n d : ℕ) → 0 < d → 2 ^ (prec f - 1) * d ≤ n → n < 2 ^ prec f * d → (s : Bool) → HasValue (round f s n d) s (closest n d) 1
  pub round_even_value : (s : Bool) (m : ℕ) (e : ℤ) → T (fits f (fin s m e))
      → HasValue (round_even f (fin s m e)) s (closest (m * up e) (down e)) 1
  pub middle_rounds : (m : ℕ) (e : ℤ) → T (fits f (fin false m e)) → m * up e ≤ 2 ^ (prec f - 2) * down e
      → sub f (middle f) (sub f (middle f) (fin false m e)) ≡ round_even f (fin false m e)
  pub middle_stays : (m : ℕ) (e : ℤ) → T (fits f (fin false m e)) → 2 ^ (prec f - 2) * down e < m * up e → m * up e ≤ 2 * 2 ^ (prec f - 2) * down e
      → sub f (middle f) (sub f (middle f) (fin false m e)) ≡ fin false m e
  -- the error of one rounding
  pub round_err : (a c : ℕ) → 0 < c → Err f (grid f a c) (a * 2 ^ low f) c (a * 2 ^ low f + c * hid f)
  pub normal_err : (a c : ℕ) → 0 < c → Normal f a c → Err f (grid f a c) (a * 2 ^ low f) c (a * 2 ^ low f)
  pub result_err : (a c : ℕ) → 0 < c → Normal f a c → Err f (grid f a c) (a * 2 ^ low f) c (grid f a c * c)
  pub whole_err : (a c w : ℕ) → 0 < c → a * 2 ^ low f ≡ w * c → Err f (grid f a c) w 1 (grid f a c)
  -- values in units of the smallest one, and the error of an operation on them
  pub in_units : (x : Float) → T (finite x) → T (fits f x) → T (le zero_f x) → InUnits (low f) x (units_of (low f) x)
  pub add_off : (x y : Float) (a b : ℕ) → InUnits (low f) x a → InUnits (low f) y b → T (finite (add f x y))
      → Off f (add f x y) (a + b) 1 (units_of (low f) (add f x y))
  pub mul_off : (x y : Float) (a b : ℕ) → InUnits (low f) x a → InUnits (low f) y b → T (finite (mul f x y))
      → Off f (mul f x y) (a * b) (2 ^ low f) (a * b + 2 ^ low f * hid f)
  pub one_over_off : (x : Float) (a : ℕ) → InUnits (low f) x a → T (le one_f x) → T (finite (div f one_f x))
      → 2 ^ (prec f - 1) * a ≤ 2 ^ low f * 2 ^ low f → Off f (div f one_f x) (2 ^ low f * 2 ^ low f) a (2 ^ low f * 2 ^ low f)
  pub ordered_sum : (es : List Float) → 0 < length es → Each (Term f) es → T (finite (foldl (add f) zero_f es))
      → Close f (length es - 1) (foldl (add f) zero_f es) (units_in (low f) es)
  -- sizes bounded by powers of two
  pub round_below : (s : Bool) (n d k : ℕ) → 0 < d → k ≤ emax f → n ≤ 2 ^ k * d → Below k (round f s n d)
  pub mul_below : (i j k : ℕ) (x y : Float) → i + j ≤ k → k ≤ emax f → Below i x → Below j y → Below k (mul f x y)
  pub add_below : (i j k : ℕ) (x y : Float) → i ≤ k → j ≤ k → k < emax f → Below i x → Below j y → Below (suc k) (add f x y)
  pub sub_below : (i j k : ℕ) (x y : Float) → i ≤ k → j ≤ k → k < emax f → Below i x → Below j y → Below (suc k) (sub f x y)
  pub div_below : (k : ℕ) (x y : Float) → k ≤ emax f → Below k x → T (le (fin false 1 (pos 0)) y) → Below k (div f x y)
  -- no NaN
  pub round_number : (s : Bool) (a d : ℕ) → T (not (is_nan (round f s a d)))
  pub add_number : (x y : Float) → T (not (is_nan x)) → T (not (is_nan y)) → T (finite x) ⊎ T (finite y) → T (not (is_nan (add f x y)))
  pub sub_number : (x y : Float) → T (not (is_nan x)) → T (not (is_nan y)) → T (finite x) ⊎ T (finite y) → T (not (is_nan (sub f x y)))
  pub mul_number : (x y : Float) → T (not (is_nan x)) → T (not (is_nan y))
      → T (finite x) ⊎ T (not (eq y (fin false 0 (pos 0)))) → T (finite y) ⊎ T (not (eq x (fin false 0 (pos 0))))
      → T (not (is_nan (mul f x y)))
  pub div_number : (x y : Float) → T (not (is_nan x)) → T (not (is_nan y))
      → T (finite x) ⊎ T (finite y) → T (not (eq x (fin false 0 (pos 0)))) ⊎ T (not (eq y (fin false 0 (pos 0))))
      → T (not (is_nan (div f x y)))

pub laws : (f : Format) → Laws f
laws f = record {
  rounds_mono = rounds_mono f;
  round_self = round_self f;
  value_unique = value_unique f;
  le_antisym = le_antisym f;
  add_rounds = add_rounds f;
  mul_rounds = mul_rounds f;
  add_mono = add_mono f;
  sub_mono = sub_mono f;
  mul_mono_r = mul_mono_r f;
  mul_anti_r = mul_anti_r f;
  mul_comm_f = mul_comm_f f;
  sub_self_f = sub_self_f f;
  one_mul_f = one_mul_f f;
  mul_one_f = mul_one_f f;
  add_whole = add_whole f;
  whole_value = whole_value f;
  round_even_value = round_even_value f;
  middle_rounds = middle_rounds f;
  middle_stays = middle_stays f;
  round_err = round_err f;
  normal_err = normal_err f;
  result_err = result_err f;
  whole_err = whole_err f;
  in_units = in_units f;
  add_off = add_off f;
  mul_off = mul_off f;
  one_over_off = one_over_off f;
  ordered_sum = ordered_sum f;
  round_below = round_below f;
  mul_below = mul_below f;
  add_below = add_below f;
  sub_below = sub_below f;
  div_below = div_below f;
  round_number = round_number f;
  add_number = add_number f;
  sub_number = sub_number f;
  mul_number = mul_number f;
  div_number = div_number f;
}

pub at_f32 : Laws binary32
at_f32 = laws binary32

pub at_f64 : Laws binary64
at_f64 = laws binary64
