-- exp.rs over one lane, each step rounded once, in the Rust's order. Definitions only.
use Rattle.std.specs.Prelude.{ℕ, false, cond, Float}
use Rattle.std.specs.Float.{inf, binary32}
use Rattle.std.specs.Float.Ieee.{add, sub, mul, div, neg, le, lt}
use Rattle.floats.specs.Values.{f32, zero_f, one_f}
use Rattle.consts.specs.Consts.{inv_log2, rounding_magic, log2_hi, log2_lo, exp_poly0, exp_poly1, exp_poly2, exp_poly3, exp_poly4, exp_poly5, exp_poly6, exp_overflow, exp_underflow, exp_lower_cutoff}
use Rattle.floats.specs.Floats.{mul_add}
use Rattle.floats.specs.Words.{add_word, sub_word, shl23, above0, trunc_word}

-- j, the whole number nearest to x / ln 2
abbrev pub j_of : Float → Float
j_of x = sub binary32 (mul_add x inv_log2 rounding_magic) rounding_magic

-- r = x - j ln 2, in two parts
abbrev pub rest_of : Float → Float → Float
rest_of x j = mul_add j log2_lo (mul_add j log2_hi x)

-- the polynomial, from the highest coefficient down
abbrev pub poly_of : Float → Float
poly_of r = mul_add (mul_add (mul_add (mul_add (mul_add (mul_add exp_poly6 r exp_poly5) r exp_poly4) r exp_poly3) r exp_poly2) r exp_poly1) r exp_poly0

-- `ia`: nothing for a k above zero, else what makes the second scale factor large enough to be a normal number
abbrev pub ia_of : ℕ → ℕ
ia_of k = cond (above0 k) 0 0x8300_0000

-- p times 2 to the k, by two factors from wrapping words
abbrev pub scale_of : Float → ℕ → Float
scale_of p k = mul binary32 (mul binary32 p (f32 (add_word (ia_of k) 0x7f00_0000))) (f32 (sub_word (shl23 k) (ia_of k)))

-- `Exp`
unfoldable pub exp_of : Float → Float
exp_of x =
    cond (le x exp_underflow) zero_f
    (cond (le exp_overflow x) (inf false)
    (scale_of (poly_of (rest_of x (j_of x))) (trunc_word (j_of x))))

-- `ReducedRangeExp`
unfoldable pub reduced_range_exp_of : Float → Float
reduced_range_exp_of x =
    cond (lt x exp_lower_cutoff) zero_f
    (mul binary32 (poly_of (rest_of x (j_of x))) (f32 (shl23 (add_word (trunc_word (j_of x)) 127))))

-- `Sigmoid`, `Silu`, `Swish`, `Elu`
unfoldable pub sigmoid_of : Float → Float
sigmoid_of x = div binary32 one_f (add binary32 one_f (exp_of (neg x)))

unfoldable pub silu_of : Float → Float
silu_of x = div binary32 x (add binary32 one_f (exp_of (neg x)))

unfoldable pub swish_of : Float → Float → Float
swish_of alpha x = mul binary32 x (sigmoid_of (mul binary32 x alpha))

unfoldable pub elu_of : Float → Float → Float
elu_of alpha x = cond (le zero_f x) x (mul binary32 alpha (sub binary32 (exp_of x) one_f))
