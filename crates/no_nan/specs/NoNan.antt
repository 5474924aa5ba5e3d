-- What the claims on the operators ask of an operator, its alpha and a value. Definitions only.
use Rattle.std.specs.Prelude.{◌≡◌, Bool, true, false, not, T, Float}
use Rattle.std.specs.Float.{binary32}
use Rattle.std.specs.Float.Ieee.{fits, is_nan}
use Rattle.std.specs.Float.Ieee.Scale.{finite}
use Rattle.unary.specs.Unary.{in_domain, alpha_ok}
use Rattle.unary.specs.declared.Op.{Op}
use Rattle.unary.specs.declared.Op.TheVariants.{Exp, ReducedRangeExp, Sigmoid, Silu, Swish, Elu, Tanh, Erf, Gelu, ApproxGelu, Sin, Cos}

-- an f32 value; no NaN; neither NaN nor infinity
abbrev pub Fits : Float → Type 0
Fits x = T (fits binary32 x)

abbrev pub Number : Float → Type 0
Number x = T (not (is_nan x))

abbrev pub Finite : Float → Type 0
Finite x = T (finite x)

-- an f32 value in the operator's domain, and an alpha that the call does not refuse
pub record Given (op : Op) (x : Float) : Type 0 where
  pub value : Fits x
  pub inside : in_domain op x ≡ true
  pub alpha : alpha_ok op ≡ true

-- alpha is an f32 value; the others have none
abbrev pub alpha_fits : Op → Bool
alpha_fits Exp = true
alpha_fits ReducedRangeExp = true
alpha_fits Sigmoid = true
alpha_fits Silu = true
alpha_fits (Swish alpha) = fits binary32 alpha
alpha_fits (Elu alpha) = fits binary32 alpha
alpha_fits Tanh = true
alpha_fits Erf = true
alpha_fits Gelu = true
alpha_fits ApproxGelu = true
alpha_fits Sin = true
alpha_fits Cos = true

-- every operator but Exp
abbrev pub stays_finite : Op → Bool
stays_finite Exp = false
stays_finite ReducedRangeExp = true
stays_finite Sigmoid = true
stays_finite Silu = true
stays_finite (Swish alpha) = true
stays_finite (Elu alpha) = true
stays_finite Tanh = true
stays_finite Erf = true
stays_finite Gelu = true
stays_finite ApproxGelu = true
stays_finite Sin = true
stays_finite Cos = true
