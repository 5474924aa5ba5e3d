-- Sigmoid lies from 0 to 1; Silu, Swish and Elu of finite f32 values are finite. Assumes nothing.
use mathlib.Core.Path.{◌≡◌, refl}
use mathlib.Core.Logic.{inl}
use mathlib.Core.Bool.{Bool, true, false, cond}
use lib.Dec.{T}
use lib.Ieee.{Float, binary32, add, sub, mul, neg, le, fits, is_nan, of_bits}
use lib.Ieee.Scale.{finite}
use Rattle.floats.specs.Values.{zero_f, one_f, minus_one_f, f32_min, f32_max}
use Rattle.exp.specs.Exp.{exp_of, sigmoid_of, silu_of, swish_of, elu_of}
use Rattle.floats.proofs.NoNan.{mul_number}
use Rattle.floats.proofs.Order.{not_le}
use Rattle.floats.proofs.Sign.{finite_number, neg_number}
use Rattle.floats.proofs.FromOne.{plus_one, one_over}
use Rattle.floats.specs.Between.{Between}
use Rattle.floats.proofs.Between.{between_finite, between_wider, sub_between, box, mul_between}
use Rattle.floats.proofs.Largest.{fits_between, div_finite}
use Rattle.lists.proofs.Tests.{all_of}
use Rattle.exp_facts.proofs.Facts.{exp_above, exp_at_most_0}
use Rattle.no_nan.specs.NoNan.{Number}

-- ---- 1 + e ^ -x is 1 at least
under : (x : Float) → Number x → T (le one_f (add binary32 one_f (exp_of (neg x))))
under x n = (plus_one (exp_of (neg x)) (exp_above (neg x) (neg_number x n))).1

pub sigmoid_between : (x : Float) → Number x → Between zero_f one_f (sigmoid_of x)
unfolding sigmoid_of
sigmoid_between x n = one_over (add binary32 one_f (exp_of (neg x))) (under x n)

pub silu_finite : (x : Float) → T (fits binary32 x) → T (finite x) → T (finite (silu_of x))
unfolding silu_of
silu_finite x f F = div_finite x (add binary32 one_f (exp_of (neg x))) f F (under x (finite_number x F))

-- ---- a finite f32 times a value from -1 to 1
unit_box : T (all_of (box f32_min f32_max minus_one_f one_f f32_min f32_max)) × T (le minus_one_f zero_f)
unfolding mul le of_bits
unit_box = (tt, tt)

one_one : T (le one_f one_f)
unfolding le of_bits
one_one = tt

pub times_unit : (x y : Float) → T (fits binary32 x) → T (finite x) → Between minus_one_f one_f y → T (finite (mul binary32 x y))
unfolding of_bits
times_unit x y f F b =
    between_finite f32_min f32_max (mul binary32 x y) tt tt
    (mul_between f32_min f32_max minus_one_f one_f f32_min f32_max x y unit_box.0 (fits_between x f F) b)

pub swish_finite : (alpha x : Float) → T (finite alpha) → T (fits binary32 x) → T (finite x) → T (finite (swish_of alpha x))
unfolding swish_of
swish_finite alpha x A f F =
    let y = mul binary32 x alpha in
    let n = mul_number binary32 x alpha (finite_number x F) (finite_number alpha A) (inl F) (inl A) in
    times_unit x (sigmoid_of y) f F (between_wider minus_one_f zero_f one_f one_f (sigmoid_of y) unit_box.1 one_one (sigmoid_between y n))

-- ---- Elu
less_ends : T (finite zero_f) × T (finite one_f) × T (le minus_one_f (sub binary32 zero_f one_f)) × T (le (sub binary32 one_f one_f) one_f) × Number zero_f
unfolding sub neg add le is_nan of_bits
less_ends = (tt, tt, tt, tt, tt)

-- e ^ x - 1 for x at most zero
less_one : (x : Float) → T (le x zero_f) → Between minus_one_f one_f (sub binary32 (exp_of x) one_f)
less_one x h =
    let c = less_ends in
    between_wider minus_one_f (sub binary32 zero_f one_f) (sub binary32 one_f one_f) one_f (sub binary32 (exp_of x) one_f) c.2 c.3
    (sub_between zero_f one_f one_f one_f (exp_of x) one_f c.0 c.1 c.1 c.1 (exp_at_most_0 x h) (one_one, one_one))

-- what holds of x and of the other arm holds of Elu
elu_by : (P : Float → Type 0) (alpha x : Float) → T (finite x) → P x
    → (Between minus_one_f one_f (sub binary32 (exp_of x) one_f) → P (mul binary32 alpha (sub binary32 (exp_of x) one_f))) → P (elu_of alpha x)
unfolding elu_of
elu_by P alpha x F p k = go (le zero_f x) refl
  where
    go : (b : Bool) → le zero_f x ≡ b → P (cond b x (mul binary32 alpha (sub binary32 (exp_of x) one_f)))
    go true e = p
    go false e = k (less_one x (not_le zero_f x less_ends.4 (finite_number x F) e))

pub elu_number : (alpha x : Float) → T (finite alpha) → T (finite x) → Number (elu_of alpha x)
unfolding of_bits
elu_number alpha x A F =
    elu_by Number alpha x F (finite_number x F)
    (λ b. let y = sub binary32 (exp_of x) one_f in
    let Y = between_finite minus_one_f one_f y tt less_ends.1 b in
    mul_number binary32 alpha y (finite_number alpha A) (finite_number y Y) (inl A) (inl Y))

pub elu_finite : (alpha x : Float) → T (fits binary32 alpha) → T (finite alpha) → T (finite x) → T (finite (elu_of alpha x))
elu_finite alpha x f A F = elu_by (λ y. T (finite y)) alpha x F F (λ b. times_unit alpha (sub binary32 (exp_of x) one_f) f A b)
