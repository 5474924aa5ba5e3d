-- erf.rs over one lane, each step rounded once, in the Rust's order. Definitions only.
use Rattle.std.specs.Prelude.{cond, Float}
use Rattle.std.specs.Float.{binary32}
use Rattle.std.specs.Float.Ieee.{add, sub, mul, div, neg, lt}
use Rattle.floats.specs.Values.{zero_f, one_f, half_f}
use Rattle.consts.specs.Consts.{erf_p, erf_a0, erf_a1, erf_a2, erf_a3, erf_a4, sqrt2_rcp, sqrt2_pi, gelu_cube}
use Rattle.floats.specs.Floats.{mul_add, abs_of}
use Rattle.exp.specs.Exp.{reduced_range_exp_of}
use Rattle.tanh.specs.Tanh.{tanh_of}

-- t = 1 / (1 + p x)
abbrev pub ratio_of : Float → Float
ratio_of size = div binary32 one_f (mul_add size erf_p one_f)

-- `poly_eval`: ((((a4 t + a3) t + a2) t + a1) t + a0) t
abbrev pub poly_of : Float → Float
poly_of t = mul binary32 (mul_add (mul_add (mul_add (mul_add erf_a4 t erf_a3) t erf_a2) t erf_a1) t erf_a0) t

-- 1 - poly e^(-x^2), for x's size
unfoldable pub size_of : Float → Float
size_of size = sub binary32 one_f (mul binary32 (poly_of (ratio_of size)) (reduced_range_exp_of (neg (mul binary32 size size))))

-- `Erf`
unfoldable pub erf_of : Float → Float
erf_of x = cond (lt x zero_f) (neg (size_of (abs_of x))) (size_of (abs_of x))

-- `Gelu`
unfoldable pub gelu_of : Float → Float
gelu_of x = mul binary32 (mul binary32 x half_f) (add binary32 (erf_of (mul binary32 x sqrt2_rcp)) one_f)

-- `ApproxGelu`: what goes to tanh, and the whole
abbrev pub inner_of : Float → Float
inner_of x = mul binary32 (mul_add (mul binary32 (mul binary32 x x) x) gelu_cube x) sqrt2_pi

unfoldable pub approx_gelu_of : Float → Float
approx_gelu_of x = mul binary32 (mul binary32 x half_f) (add binary32 (tanh_of (inner_of x)) one_f)
