-- sin_cos.rs below 48,000 in size, in the Rust's order of steps and operands, each step rounded once. Definitions only.
use Rattle.std.specs.Prelude.{cond, Float}
use Rattle.std.specs.Float.{binary32}
use Rattle.std.specs.Float.Ieee.{sub, mul, div, lt}
use Rattle.floats.specs.Floats.{mul_add, mul_sub_from, round_even}
use Rattle.floats.specs.Values.{one_f}
use Rattle.consts.specs.Consts.{pi, minus_pi, inv2_pi, half_pi, two_pi_hi, two_pi_lo, sin_a3, sin_a5, sin_b2, sin_b4}

-- ---- the Rust's min and max; where neither operand is the lesser, the second
unfoldable pub min_of : Float → Float → Float
min_of a b = cond (lt a b) a b

unfoldable pub max_of : Float → Float → Float
max_of a b = cond (lt b a) a b

-- ---- to about [-pi, pi]
-- the whole turns in x
abbrev pub turns_of : Float → Float
turns_of x = round_even binary32 (mul binary32 x inv2_pi)

-- x less k turns, first by the turn's high part, then by its low part
abbrev pub less_turns : Float → Float → Float
less_turns k x = mul_sub_from k two_pi_lo (mul_sub_from k two_pi_hi x)

unfoldable pub reduced_of : Float → Float
reduced_of x = less_turns (turns_of x) x

-- ---- from there to about [-pi / 2, pi / 2]: x, pi - x and -pi - x have the same sine
abbrev pub fold_high : Float → Float
fold_high x = min_of x (sub binary32 pi x)

abbrev pub fold_low : Float → Float
fold_low x = max_of x (sub binary32 minus_pi x)

unfoldable pub fold_of : Float → Float
fold_of x = fold_high (fold_low (fold_high x))

-- ---- the rational approximation of the sine, by x and its square q
abbrev pub numerator : Float → Float → Float
numerator q x = mul binary32 (mul_add q (mul_add q sin_a5 sin_a3) one_f) x

abbrev pub denominator : Float → Float
denominator q = mul_add q (mul_add q sin_b4 sin_b2) one_f

unfoldable pub ratio_of : Float → Float
ratio_of x = div binary32 (numerator (mul binary32 x x) x) (denominator (mul binary32 x x))

-- ---- the two operators
unfoldable pub sin_of : Float → Float
sin_of x = ratio_of (fold_of (reduced_of x))

unfoldable pub cos_of : Float → Float
cos_of x = ratio_of (fold_of (sub binary32 half_pi (reduced_of x)))
