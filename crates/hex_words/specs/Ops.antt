-- The operator that a stored number names. Definitions only.
use Rattle.std.specs.Prelude.{ℕ, Float, cond, eqb}
use Rattle.unary.specs.declared.Op.{Op}
use Rattle.unary.specs.declared.Op.TheVariants.{Exp, ReducedRangeExp, Sigmoid, Silu, Swish, Elu, Tanh, Erf, Gelu, ApproxGelu, Sin, Cos}

-- its place among the operators; the last for any number beyond
abbrev pub op_at : ℕ → Float → Op
op_at code alpha =
    cond (eqb code 0) Exp (
    cond (eqb code 1) ReducedRangeExp (
    cond (eqb code 2) Sigmoid (
    cond (eqb code 3) Silu (
    cond (eqb code 4) (Swish alpha) (
    cond (eqb code 5) (Elu alpha) (
    cond (eqb code 6) Tanh (
    cond (eqb code 7) Erf (
    cond (eqb code 8) Gelu (
    cond (eqb code 9) ApproxGelu (
    cond (eqb code 10) Sin Cos))))))))))
