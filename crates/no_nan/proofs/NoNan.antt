-- The operators in their domains (RULES, Domains), once over `Op`: none gives a NaN, and none but Exp gives an infinity.
--
--   no_nan : (op : Op) (x : Float) → Given op x → Number (evalOf op x)
--   stays-finite : (op : Op) (x : Float) → Given op x → T (alphaFits op) → T (staysFinite op) → T (finite (evalOf op x))
--
-- `Given` asks that x is an f32 in the domain and that alpha is finite. Sigmoid lies from 0 to 1 (ExpFamily.antt), Tanh and Erf
-- from -1 to 1 (Tanh.antt, Erf.antt). Assumes nothing.
use lib.Dec.{T}
use lib.Ieee.{Float, of_bits}
use lib.Ieee.Fits.{and_l, and_r}
use lib.Ieee.Scale.{finite}
use denote.Floats.{passes}
use Rattle.floats.specs.Values.{zero_f, one_f, minus_one_f}
use Rattle.erf.specs.Erf.{erf_of}
use Rattle.exp.specs.Exp.{reduced_range_exp_of, sigmoid_of}
use Rattle.floats.proofs.Sign.{finite_number}
use Rattle.floats.proofs.Between.{between_finite}
use Rattle.tanh.specs.Tanh.{tanh_of}
use Rattle.unary.specs.Unary.{eval_of, also_in}
use Rattle.unary.specs.declared.Op.{Op}
use Rattle.unary.specs.declared.Op.TheVariants.{Exp, ReducedRangeExp, Sigmoid, Silu, Swish, Elu, Tanh, Erf, Gelu, ApproxGelu, Sin, Cos}
use Rattle.exp_facts.proofs.Facts.{exp_number, reduced_between}
use Rattle.no_nan.specs.NoNan.{Given, Number, alpha_fits, stays_finite}
use Rattle.no_nan.proofs.ExpFamily.{sigmoid_between, silu_finite, swish_finite, elu_number, elu_finite}
use Rattle.no_nan.proofs.Tanh.{tanh_between}
use Rattle.no_nan.proofs.Erf.{erf_between, gelu_finite, approx_gelu_finite}
use Rattle.no_nan.proofs.SinCos.{sin_finite, cos_finite}

-- ---- the domain's parts
module _ (op : Op) (x : Float) (g : Given op x) where
  is_finite : T (finite x)
  is_finite = and_l (finite x) (also_in op x) (passes _ g.inside)

  is_number : Number x
  is_number = finite_number x is_finite

  also : T (also_in op x)
  also = and_r (finite x) (also_in op x) (passes _ g.inside)

-- ---- each operator
ends : T (finite zero_f) × T (finite one_f) × T (finite minus_one_f)
unfolding of_bits
ends = (tt, tt, tt)

pub stays_finite_law : (op : Op) (x : Float) → Given op x → T (alpha_fits op) → T (stays_finite op) → T (finite (eval_of op x))
stays_finite_law Exp x g a s = absurd s
stays_finite_law ReducedRangeExp x g a s =
    between_finite zero_f one_f (reduced_range_exp_of x) ends.0 ends.1 (reduced_between x (also ReducedRangeExp x g))
stays_finite_law Sigmoid x g a s = between_finite zero_f one_f (sigmoid_of x) ends.0 ends.1 (sigmoid_between x (is_number Sigmoid x g))
stays_finite_law Silu x g a s = silu_finite x g.value (is_finite Silu x g)
stays_finite_law (Swish alpha) x g a s = swish_finite alpha x (passes _ g.alpha) g.value (is_finite (Swish alpha) x g)
stays_finite_law (Elu alpha) x g a s = elu_finite alpha x a (passes _ g.alpha) (is_finite (Elu alpha) x g)
stays_finite_law Tanh x g a s = between_finite minus_one_f one_f (tanh_of x) ends.2 ends.1 (tanh_between x (is_number Tanh x g))
stays_finite_law Erf x g a s = between_finite minus_one_f one_f (erf_of x) ends.2 ends.1 (erf_between x (is_number Erf x g))
stays_finite_law Gelu x g a s = gelu_finite x g.value (is_finite Gelu x g)
stays_finite_law ApproxGelu x g a s = approx_gelu_finite x g.value (is_finite ApproxGelu x g)
stays_finite_law Sin x g a s = sin_finite x (is_finite Sin x g) (also Sin x g)
stays_finite_law Cos x g a s = cos_finite x (is_finite Cos x g) (also Cos x g)

-- Elu's alpha need not be an f32 for this
pub no_nan : (op : Op) (x : Float) → Given op x → Number (eval_of op x)
no_nan Exp x g = exp_number x (is_number Exp x g)
no_nan ReducedRangeExp x g = finite_number (eval_of ReducedRangeExp x) (stays_finite_law ReducedRangeExp x g tt tt)
no_nan Sigmoid x g = finite_number (eval_of Sigmoid x) (stays_finite_law Sigmoid x g tt tt)
no_nan Silu x g = finite_number (eval_of Silu x) (stays_finite_law Silu x g tt tt)
no_nan (Swish alpha) x g =
    finite_number (eval_of (Swish alpha) x) (swish_finite alpha x (passes _ g.alpha) g.value (is_finite (Swish alpha) x g))
no_nan (Elu alpha) x g = elu_number alpha x (passes _ g.alpha) (is_finite (Elu alpha) x g)
no_nan Tanh x g = finite_number (eval_of Tanh x) (stays_finite_law Tanh x g tt tt)
no_nan Erf x g = finite_number (eval_of Erf x) (stays_finite_law Erf x g tt tt)
no_nan Gelu x g = finite_number (eval_of Gelu x) (stays_finite_law Gelu x g tt tt)
no_nan ApproxGelu x g = finite_number (eval_of ApproxGelu x) (stays_finite_law ApproxGelu x g tt tt)
no_nan Sin x g = finite_number (eval_of Sin x) (stays_finite_law Sin x g tt tt)
no_nan Cos x g = finite_number (eval_of Cos x) (stays_finite_law Cos x g tt tt)
