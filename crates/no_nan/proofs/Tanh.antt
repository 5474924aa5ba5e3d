-- Tanh of a number, an infinity included, lies from -1 to 1. Assumes nothing.
use mathlib.Core.Path.{◌≡◌, refl, sym, subst}
use mathlib.Core.Bool.{Bool, true, false, cond}
use mathlib.Core.List.{List, [], ◌∷◌}
use lib.IntN.{negsuc}
use lib.Dec.{T}
use lib.Ieee.{Float, nan, inf, fin, binary32, add, sub, mul, neg, le, is_nan, of_bits}
use lib.Ieee.Scale.{finite}
use Rattle.floats.specs.Values.{zero_f, one_f, minus_one_f, two_f, thirty_two_f}
use Rattle.consts.specs.Consts.{tanh_cutoff, tanh_tiny, tanh_small, tanh_p1, tanh_p3, tanh_p5, tanh_p7, tanh_p9}
use Rattle.exp.specs.Exp.{exp_of}
use Rattle.floats.specs.Floats.{abs_of, has_sign}
use Rattle.floats.proofs.Monotone.{add_mono}
use Rattle.floats.proofs.NotNegative.{abs_le}
use Rattle.floats.proofs.Order.{le_trans_f, le_refl_f, le_numbers, not_le}
use Rattle.floats.proofs.Sign.{finite_number}
use Rattle.floats.proofs.Signed.{le_neg}
use Rattle.floats.proofs.FromOne.{plus_one}
use Rattle.floats.specs.Between.{Between}
use Rattle.floats.proofs.Between.{between_finite, between_wider, between_neg, cond_between, add_between, sub_between, box, mul_between, Row, rows_ok, from_end, to_end, horner, horner_between}
use Rattle.floats.proofs.Largest.{div_unit}
use Rattle.tanh.specs.Tanh.{small_of, medium_of, size_of, tanh_of}
use Rattle.lists.proofs.Tests.{all_of}
use Rattle.exp_facts.proofs.Facts.{exp_at_most_32}
use Rattle.no_nan.specs.NoNan.{Number}
use Rattle.exp_facts.specs.ExpFacts.{large}

-- ---- up to 0.55: the polynomial of the square, times the size
abbrev rows : List Row
rows =
    (zero_f, fin false 1 (negsuc 6), tanh_p7)
    ∷ (fin true 1 (negsuc 4), zero_f, tanh_p5)
    ∷ (zero_f, fin false 1 (negsuc 3), tanh_p3)
    ∷ (fin true 1 (negsuc 2), zero_f, tanh_p1)
    ∷ []

-- 5/16, above the square
abbrev square_top : Float
square_top = fin false 5 (negsuc 3)

rows_ok_law : T (rows_ok tanh_p9 tanh_p9 zero_f square_top rows) × Between tanh_p9 tanh_p9 tanh_p9 × T (all_of (box zero_f tanh_small zero_f tanh_small zero_f square_top))
    × T (all_of (box (from_end tanh_p9 rows) (to_end tanh_p9 rows) zero_f tanh_small minus_one_f one_f))
unfolding add mul le of_bits
rows_ok_law = (tt, (tt, tt), tt, tt)

square_abs : (x : Float) → mul binary32 x x ≡ mul binary32 (abs_of x) (abs_of x)
unfolding mul
square_abs nan = refl
square_abs (inf true) = refl
square_abs (inf false) = refl
square_abs (fin true m e) = refl
square_abs (fin false m e) = refl

small_between : (x : Float) → Between zero_f tanh_small (abs_of x) → Between minus_one_f one_f (small_of (mul binary32 x x) (abs_of x))
small_between x b =
    let a = abs_of x in
    let q = mul_between zero_f tanh_small zero_f tanh_small zero_f square_top a a rows_ok_law.2 b b in
    let h = horner_between rows tanh_p9 tanh_p9 zero_f square_top tanh_p9 (mul binary32 a a) rows_ok_law.0 rows_ok_law.1 q in
    subst (λ (w : Float). Between minus_one_f one_f (small_of w a)) (sym (square_abs x))
    (mul_between (from_end tanh_p9 rows) (to_end tanh_p9 rows) zero_f tanh_small minus_one_f one_f (horner tanh_p9 (mul binary32 a a) rows) a rows_ok_law.3 h b)

-- ---- up to 9.02: (e - 1) / (e + 1)
medium_ends : T (all_of (box zero_f tanh_cutoff two_f two_f zero_f thirty_two_f)) × Between two_f two_f two_f × T (finite (add binary32 large one_f))
    × T (le minus_one_f (sub binary32 zero_f one_f)) × T (le minus_one_f one_f) × T (le one_f one_f) × T (le (neg one_f) minus_one_f)
    × T (finite (add binary32 zero_f one_f))
unfolding add sub mul neg le of_bits
medium_ends = (tt, (tt, tt), tt, tt, tt, tt, tt, tt)

sum_above : (e : Float) → T (finite e) → T (le (sub binary32 e one_f) (add binary32 e one_f))
unfolding sub neg of_bits
sum_above e F = add_mono binary32 e e minus_one_f one_f F F tt tt (le_refl_f e (finite_number e F)) medium_ends.4

medium_between : (e : Float) → Between zero_f large e → Between minus_one_f one_f (medium_of e)
unfolding of_bits
medium_between e b =
    let c = medium_ends in
    let F = between_finite zero_f large e tt tt b in
    let u = add binary32 e one_f in
    let v = sub binary32 e one_f in
    let U = between_finite (add binary32 zero_f one_f) (add binary32 large one_f) u c.7 c.2
    (add_between zero_f large one_f one_f e one_f tt tt tt tt b (c.5, c.5)) in
    let p = (plus_one e b.0).0 in
    let low = le_trans_f minus_one_f (sub binary32 zero_f one_f) v c.3 (sub_between zero_f large one_f one_f e one_f tt tt tt tt b (c.5, c.5)).0 in
    div_unit v u U p (le_trans_f (neg u) minus_one_f v (le_trans_f (neg u) (neg one_f) minus_one_f (le_neg one_f u p) c.6) low, sum_above e F)

-- ---- the size, by its four cases
case_ends : T (le tanh_tiny one_f) × Between minus_one_f one_f one_f × T (le minus_one_f zero_f) × Number tanh_cutoff
unfolding le is_nan of_bits
case_ends = (tt, (tt, tt), tt, tt)

size_between : (x : Float) → Number x → Between minus_one_f one_f (size_of x (abs_of x))
unfolding size_of
size_between x n = go (le a tanh_tiny) (le a tanh_small) (le tanh_cutoff a) refl refl refl
  where
    a : Float
    a = abs_of x

    A : T (le zero_f a)
    A = abs_le x n

    go : (b c d : Bool) → le a tanh_tiny ≡ b → le a tanh_small ≡ c → le tanh_cutoff a ≡ d
        → Between minus_one_f one_f (cond b a (cond c (small_of (mul binary32 x x) a) (cond d one_f (medium_of (exp_of (mul binary32 a two_f))))))
    go true c d p q r = between_wider minus_one_f zero_f tanh_tiny one_f a case_ends.2 case_ends.0 (A, subst T (sym p) tt)
    go false true d p q r = small_between x (A, subst T (sym q) tt)
    go false false true p q r = case_ends.1
    go false false false p q r =
        let y = mul binary32 a two_f in
        let h = not_le tanh_cutoff a case_ends.3 (le_numbers zero_f a A).1 r in
        let b = mul_between zero_f tanh_cutoff two_f two_f zero_f thirty_two_f a two_f medium_ends.0 (A, h) medium_ends.1 in
        medium_between (exp_of y) (unfold of_bits in exp_at_most_32 y b.1)

pub tanh_between : (x : Float) → Number x → Between minus_one_f one_f (tanh_of x)
unfolding tanh_of neg of_bits
tanh_between x n =
    let y = size_of x (abs_of x) in
    let b = size_between x n in
    cond_between minus_one_f one_f (has_sign true x) (neg y) y (between_neg minus_one_f one_f y b) b
