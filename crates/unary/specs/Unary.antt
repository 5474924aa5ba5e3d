-- An operator by its case, its domain, and the call over slices: what it answers and what it leaves. Definitions only.
use Rattle.std.specs.Prelude.{ℕ, Bool, true, not, ◌&&◌, List, [], ◌∷◌, map, eqb, ltb, length, get_or, Float}
use Rattle.std.specs.Float.{nan}
use Rattle.std.specs.Float.Ieee.{le, lt}
use Rattle.std.specs.Float.Ieee.Scale.{finite}
use Rattle.answer.specs.Answer.{Test, judged, told_of, when_done}
use Rattle.answer.specs.Limits.{element_limit}
use Rattle.answer.specs.Answer.{Answer}
use Rattle.answer.specs.declared.Refusal.TheVariants.{Length, TooMany, NotFinite, Domain}
use Rattle.floats.specs.Values.{zero_f}
use Rattle.consts.specs.Consts.{large_threshold}
use Rattle.erf.specs.Erf.{erf_of, gelu_of, approx_gelu_of}
use Rattle.exp.specs.Exp.{exp_of, reduced_range_exp_of, sigmoid_of, silu_of, swish_of, elu_of}
use Rattle.floats.specs.Floats.{abs_of}
use Rattle.lists.specs.Lists.{first_not}
use Rattle.sin_cos.specs.SinCos.{sin_of, cos_of}
use Rattle.tanh.specs.Tanh.{tanh_of}
use Rattle.unary.specs.declared.Op.{Op}
use Rattle.unary.specs.declared.Op.TheVariants.{Exp, ReducedRangeExp, Sigmoid, Silu, Swish, Elu, Tanh, Erf, Gelu, ApproxGelu, Sin, Cos}

-- the operator at x
abbrev pub eval_of : Op → Float → Float
eval_of Exp x = exp_of x
eval_of ReducedRangeExp x = reduced_range_exp_of x
eval_of Sigmoid x = sigmoid_of x
eval_of Silu x = silu_of x
eval_of (Swish alpha) x = swish_of alpha x
eval_of (Elu alpha) x = elu_of alpha x
eval_of Tanh x = tanh_of x
eval_of Erf x = erf_of x
eval_of Gelu x = gelu_of x
eval_of ApproxGelu x = approx_gelu_of x
eval_of Sin x = sin_of x
eval_of Cos x = cos_of x

-- RULES, Domains: finite for operators; also at most zero for ReducedRangeExp; also below 48,000 in size for Sin and Cos
abbrev pub also_in : Op → Float → Bool
also_in Exp x = true
also_in ReducedRangeExp x = le x zero_f
also_in Sigmoid x = true
also_in Silu x = true
also_in (Swish alpha) x = true
also_in (Elu alpha) x = true
also_in Tanh x = true
also_in Erf x = true
also_in Gelu x = true
also_in ApproxGelu x = true
also_in Sin x = lt (abs_of x) large_threshold
also_in Cos x = lt (abs_of x) large_threshold

abbrev pub in_domain : Op → Float → Bool
in_domain op x = finite x && also_in op x

-- an alpha is finite; the others have none
abbrev pub alpha_ok : Op → Bool
alpha_ok Exp = true
alpha_ok ReducedRangeExp = true
alpha_ok Sigmoid = true
alpha_ok Silu = true
alpha_ok (Swish alpha) = finite alpha
alpha_ok (Elu alpha) = finite alpha
alpha_ok Tanh = true
alpha_ok Erf = true
alpha_ok Gelu = true
alpha_ok ApproxGelu = true
alpha_ok Sin = true
alpha_ok Cos = true

-- the element at place i of a list is in the domain
abbrev pub inside_at : Op → List Float → ℕ → Bool
inside_at op s i = in_domain op (get_or s i nan)

-- the first place outside the domain, or the length
unfoldable pub first_outside : Op → List Float → ℕ
first_outside op s = first_not (inside_at op s) (length s)

-- the tests of a call, in the order of RULES, Order
abbrev pub tests : Op → List Float → List Float → List Test
tests op s d =
    (not (eqb (length s) (length d)), Length)
    ∷ (ltb element_limit (length s), TooMany)
    ∷ (not (alpha_ok op), NotFinite)
    ∷ (ltb (first_outside op s) (length s), Domain (first_outside op s))
    ∷ []

unfoldable pub apply_answer : Op → List Float → List Float → Answer
apply_answer op s d = judged (tests op s d)

-- what the call tells, and what it leaves in dst
abbrev pub apply_told : Op → List Float → List Float → ℕ × ℕ
apply_told op s d = told_of (apply_answer op s d)

abbrev pub apply_out : Op → List Float → List Float → List Float
apply_out op s d = when_done (apply_answer op s d) (map (eval_of op) s) d
