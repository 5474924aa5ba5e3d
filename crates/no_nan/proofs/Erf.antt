-- Erf of a number, an infinity included, lies from -1 to 1; Gelu and ApproxGelu of a finite f32 are finite. Assumes nothing.
use mathlib.Core.Logic.{inl, inr}
use Prim.Native.Nat.{ℕ, zero, suc, zero-le}
use native.Mathlib.Nat.{zero-mul}
use mathlib.Core.Bool.{Bool, true, false, not}
use mathlib.Core.List.{List, [], ◌∷◌}
use lib.IntN.{ℤ, pos, negsuc}
use lib.Dec.{T, eqb-suc-zero, lit≤}
use lib.Ieee.{Float, nan, inf, fin, binary32, add, sub, mul, neg, lt, eq, le, fits, is_nan, of_bits}
use lib.Ieee.Scale.{finite}
use Rattle.floats.specs.Values.{zero_f, one_f, minus_one_f, two_f, half_f, f32_min, f32_max}
use Rattle.consts.specs.Consts.{erf_p, erf_a0, erf_a1, erf_a2, erf_a3, erf_a4, sqrt2_rcp, sqrt2_pi, gelu_cube}
use Rattle.erf.specs.Erf.{ratio_of, poly_of, size_of, erf_of, gelu_of, inner_of, approx_gelu_of}
use Rattle.exp.specs.Exp.{reduced_range_exp_of}
use Rattle.floats.specs.Floats.{mul_add, abs_of}
use Rattle.floats.proofs.Magnitude.{below_fin, mul_below}
use Rattle.floats.proofs.Monotone.{mul_rounds}
use Rattle.floats.proofs.NoNan.{add_number, mul_number, rounds_number}
use Rattle.floats.proofs.NotNegative.{abs_le, square_le, mul_le}
use Rattle.floats.proofs.Order.{le_total, le_numbers, not_lt}
use Rattle.floats.proofs.Sign.{finite_number, neg_number, minus_square}
use Rattle.floats.proofs.FromOne.{plus_one, one_over}
use Rattle.floats.specs.Between.{Between}
use Rattle.floats.proofs.Between.{between_finite, between_wider, between_neg, cond_between, add_between, sub_between, box, mul_between, Row, rows_ok, from_end, to_end, horner, horner_between}
use Rattle.floats.proofs.Largest.{fits_between}
use Rattle.tanh.specs.Tanh.{tanh_of}
use Rattle.lists.proofs.Tests.{all_of}
use Rattle.exp_facts.proofs.Facts.{reduced_between}
use Rattle.no_nan.specs.NoNan.{Number}
use Rattle.no_nan.proofs.Tanh.{tanh_between}

-- ---- t = 1 / (1 + p x), from 0 to 1
erf_p_law : T (finite erf_p) × T (le zero_f erf_p)
unfolding le of_bits
erf_p_law = (tt, tt)

erf_p_above : (x : Float) → T (le zero_f x) → T (le zero_f (mul binary32 x erf_p))
unfolding le mul of_bits
erf_p_above nan h = absurd h
erf_p_above (inf true) h = absurd h
erf_p_above (inf false) h = tt
erf_p_above (fin s m e) h = mul_le binary32 (fin s m e) erf_p tt erf_p_law.0 h erf_p_law.1

ratio_between : (x : Float) → T (le zero_f x) → Between zero_f one_f (ratio_of x)
ratio_between x h = one_over (mul_add x erf_p one_f) (plus_one (mul binary32 x erf_p) (erf_p_above x h)).0

-- ---- the polynomial on the two halves of 0 .. 1
abbrev low_rows : List Row
low_rows =
    (zero_f, fin false 9 (negsuc 3), erf_a3)
    ∷ (fin true 3 (negsuc 1), zero_f, erf_a2)
    ∷ (zero_f, fin false 3 (negsuc 1), erf_a1)
    ∷ (fin true 5 (negsuc 4), fin false 1 (negsuc 1), erf_a0)
    ∷ []

abbrev high_rows : List Row
high_rows =
    (half_f, fin false 17 (negsuc 3), erf_a3)
    ∷ (minus_one_f, fin true 3 (negsuc 3), erf_a2)
    ∷ (fin false 3 (negsuc 3), fin false 5 (negsuc 1), erf_a1)
    ∷ (fin true 1 (negsuc 2), fin false 31 (negsuc 4), erf_a0)
    ∷ []

-- 5/4, above the polynomial
abbrev erf_top : Float
erf_top = fin false 5 (negsuc 1)

rows_ok_law : T (rows_ok erf_a4 erf_a4 zero_f half_f low_rows) × T (rows_ok erf_a4 erf_a4 half_f one_f high_rows) × Between erf_a4 erf_a4 erf_a4
    × T (all_of (box (from_end erf_a4 low_rows) (to_end erf_a4 low_rows) zero_f half_f zero_f erf_top))
    × T (all_of (box (from_end erf_a4 high_rows) (to_end erf_a4 high_rows) half_f one_f zero_f erf_top))
unfolding add mul le of_bits
rows_ok_law = (tt, tt, (tt, tt), tt, tt)

poly_between : (t : Float) → Between zero_f one_f t → Between zero_f erf_top (poly_of t)
unfolding of_bits
poly_between t b = elim (le_total t half_f (le_numbers zero_f t b.0).1 (finite_number half_f tt)) [
  | inl h ↦ mul_between (from_end erf_a4 low_rows) (to_end erf_a4 low_rows) zero_f half_f zero_f erf_top (horner erf_a4 t low_rows) t rows_ok_law.3
      (horner_between low_rows erf_a4 erf_a4 zero_f half_f erf_a4 t rows_ok_law.0 rows_ok_law.2 (b.0, h)) (b.0, h)
  | inr h ↦ mul_between (from_end erf_a4 high_rows) (to_end erf_a4 high_rows) half_f one_f zero_f erf_top (horner erf_a4 t high_rows) t rows_ok_law.4
      (horner_between high_rows erf_a4 erf_a4 half_f one_f erf_a4 t rows_ok_law.1 rows_ok_law.2 (h, b.1)) (h, b.1)
]

-- ---- 1 - poly e ^ -x^2
size_ends : T (all_of (box zero_f erf_top zero_f one_f zero_f two_f))
    × T (le minus_one_f (sub binary32 one_f two_f)) × T (le (sub binary32 one_f zero_f) one_f) × T (le one_f one_f)
unfolding mul sub neg add le of_bits
size_ends = (tt, tt, tt, tt)

minus_below : (x : Float) → Number x → T (le (neg (mul binary32 x x)) zero_f)
unfolding of_bits
minus_below x n =
    not_lt zero_f (neg (mul binary32 x x)) (finite_number zero_f tt)
    (neg_number (mul binary32 x x) (le_numbers zero_f (mul binary32 x x) (square_le binary32 x n)).1) (minus_square binary32 x)

size_between : (x : Float) → T (le zero_f x) → Between minus_one_f one_f (size_of x)
unfolding size_of of_bits
size_between x h =
    let c = size_ends in
    let p = poly_of (ratio_of x) in
    let e = reduced_range_exp_of (neg (mul binary32 x x)) in
    let m = mul_between zero_f erf_top zero_f one_f zero_f two_f p e c.0 (poly_between (ratio_of x) (ratio_between x h))
    (reduced_between (neg (mul binary32 x x)) (minus_below x (le_numbers zero_f x h).1)) in
    between_wider minus_one_f (sub binary32 one_f two_f) (sub binary32 one_f zero_f) one_f (sub binary32 one_f (mul binary32 p e)) c.1 c.2
    (sub_between one_f one_f zero_f two_f one_f (mul binary32 p e) tt tt tt tt (c.3, c.3) m)

pub erf_between : (x : Float) → Number x → Between minus_one_f one_f (erf_of x)
unfolding erf_of neg of_bits
erf_between x n =
    let y = size_of (abs_of x) in
    let b = size_between (abs_of x) (abs_le x n) in
    cond_between minus_one_f one_f (lt x zero_f) (neg y) y (between_neg minus_one_f one_f y b) b

-- ---- (x / 2) (y + 1), for y from -1 to 1
abbrev least_half : Float
least_half = fin true 16777215 (pos 103)

abbrev largest_half : Float
largest_half = fin false 16777215 (pos 103)

half_ends : T (all_of (box f32_min f32_max half_f half_f least_half largest_half)) × Between half_f half_f half_f
    × T (finite one_f) × Between one_f one_f one_f
    × T (all_of (box least_half largest_half (add binary32 minus_one_f one_f) (add binary32 one_f one_f) f32_min f32_max))
unfolding mul add le of_bits
half_ends = (tt, (tt, tt), tt, (tt, tt), tt)

half_finite : (x y : Float) → T (fits binary32 x) → T (finite x) → Between minus_one_f one_f y
    → T (finite (mul binary32 (mul binary32 x half_f) (add binary32 y one_f)))
unfolding of_bits
half_finite x y f F b =
    let c = half_ends in
    between_finite f32_min f32_max (mul binary32 (mul binary32 x half_f) (add binary32 y one_f)) tt tt
    (mul_between least_half largest_half (add binary32 minus_one_f one_f) (add binary32 one_f one_f) f32_min f32_max
    (mul binary32 x half_f) (add binary32 y one_f) c.4
    (mul_between f32_min f32_max half_f half_f least_half largest_half x half_f c.0 (fits_between x f F) c.1)
    (add_between minus_one_f one_f one_f one_f y one_f tt c.2 c.2 c.2 b c.3))

-- constants that are finite, and not zero
factors : T (finite sqrt2_rcp) × Number gelu_cube × T (not (eq gelu_cube zero_f)) × T (finite gelu_cube)
    × Number sqrt2_pi × T (not (eq sqrt2_pi zero_f)) × T (finite sqrt2_pi)
unfolding is_nan eq of_bits
factors = (tt, tt, tt, tt, tt, tt, tt)

pub gelu_finite : (x : Float) → T (fits binary32 x) → T (finite x) → T (finite (gelu_of x))
unfolding gelu_of
gelu_finite x f F =
    let S = factors.0 in
    let n = mul_number binary32 x sqrt2_rcp (finite_number x F) (finite_number sqrt2_rcp S) (inl F) (inl S) in
    half_finite x (erf_of (mul binary32 x sqrt2_rcp)) f F (erf_between (mul binary32 x sqrt2_rcp) n)

-- ---- x^3 may be an infinity
by_nonzero : (y : Float) (s : Bool) (m : ℕ) (e : ℤ) → Number y → Number (mul binary32 y (fin s (suc m) e))
unfolding mul is_nan
by_nonzero nan s m e n = n
by_nonzero (inf t) s m e n = rw (eqb-suc-zero m) tt
by_nonzero (fin t k d) s m e n = rounds_number binary32 (mul_rounds binary32 (fin t k d) (fin s (suc m) e) tt tt)

cube_number : (x : Float) → T (finite x) → Number (mul binary32 (mul binary32 x x) x)
cube_number nan F = absurd F
cube_number (inf s) F = absurd F
cube_number (fin s zero e) F =
    let x = fin s zero e in
    let Q = below_fin 0 (mul binary32 x x) (mul_below binary32 0 0 0 x x (lit≤ tt) (lit≤ tt) (simp zero-mul zero-le) (simp zero-mul zero-le)) in
    mul_number binary32 (mul binary32 x x) x (finite_number (mul binary32 x x) Q) (finite_number x tt) (inl Q) (inl tt)
cube_number (fin s (suc m) e) F =
    let x = fin s (suc m) e in
    by_nonzero (mul binary32 x x) s m e (le_numbers zero_f (mul binary32 x x) (square_le binary32 x (finite_number x tt))).1

inner_number : (x : Float) → T (finite x) → Number (inner_of x)
unfolding of_bits
inner_number x F =
    let c = factors in
    let w = mul binary32 (mul binary32 x x) x in
    let v = mul binary32 w gelu_cube in
    let n = mul_number binary32 w gelu_cube (cube_number x F) c.1 (inr c.2) (inl c.3) in
    let k = add_number binary32 v x n (finite_number x F) (inr F) in
    mul_number binary32 (add binary32 v x) sqrt2_pi k c.4 (inr c.5) (inl c.6)

pub approx_gelu_finite : (x : Float) → T (fits binary32 x) → T (finite x) → T (finite (approx_gelu_of x))
unfolding approx_gelu_of
approx_gelu_finite x f F = half_finite x (tanh_of (inner_of x)) f F (tanh_between (inner_of x) (inner_number x F))
