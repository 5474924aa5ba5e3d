-- In each arm op is the case matched, so its loop's map is that of `eval_of op`; what `reduced_range_exp` asks besides, its domain gives (`not_above`).
use Rattle.std.proofs.Common.{rules}
use Rattle.unary.proofs.Arms.{mapped, not_above}
use Rattle.unary.proofs.fill.Goals as goal

pub map_into-requires-in-ReducedRangeExp-clause-callable : goal.map_into-requires-in-ReducedRangeExp-clause-callable
map_into-requires-in-ReducedRangeExp-clause-callable c = λ k d h. not_above c.args.op _ c.in-ReducedRangeExp.is (c.requires.inside k d h)

pub returns-in-Exp : goal.returns-in-Exp
returns-in-Exp c = mapped _ _ c.in-Exp.is c.map_into.ensures (λ x y h. h)

pub returns-in-ReducedRangeExp : goal.returns-in-ReducedRangeExp
returns-in-ReducedRangeExp c = mapped _ _ c.in-ReducedRangeExp.is c.map_into-in-ReducedRangeExp.ensures (λ x y h. h)

pub returns-in-Sigmoid : goal.returns-in-Sigmoid
returns-in-Sigmoid c = mapped _ _ c.in-Sigmoid.is c.map_into-in-Sigmoid.ensures (λ x y h. h)

pub returns-in-Silu : goal.returns-in-Silu
returns-in-Silu c = mapped _ _ c.in-Silu.is c.map_into-in-Silu.ensures (λ x y h. h)

pub returns-in-Swish : goal.returns-in-Swish
returns-in-Swish c = mapped _ _ c.in-Swish.is c.map_into-in-Swish.ensures (λ x y h. search rules)

pub returns-in-Elu : goal.returns-in-Elu
returns-in-Elu c = mapped _ _ c.in-Elu.is c.map_into-in-Elu.ensures (λ x y h. search rules)

pub returns-in-Tanh : goal.returns-in-Tanh
returns-in-Tanh c = mapped _ _ c.in-Tanh.is c.map_into-in-Tanh.ensures (λ x y h. search rules)

pub returns-in-Erf : goal.returns-in-Erf
returns-in-Erf c = mapped _ _ c.in-Erf.is c.map_into-in-Erf.ensures (λ x y h. h)

pub returns-in-Gelu : goal.returns-in-Gelu
returns-in-Gelu c = mapped _ _ c.in-Gelu.is c.map_into-in-Gelu.ensures (λ x y h. h)

pub returns-in-ApproxGelu : goal.returns-in-ApproxGelu
returns-in-ApproxGelu c = mapped _ _ c.in-ApproxGelu.is c.map_into-in-ApproxGelu.ensures (λ x y h. h)

pub returns-in-Sin : goal.returns-in-Sin
returns-in-Sin c = mapped _ _ c.in-Sin.is c.map_into-in-Sin.ensures (λ x y h. h)

pub returns-in-Cos : goal.returns-in-Cos
returns-in-Cos c = mapped _ _ c.in-Cos.is c.map_into-in-Cos.ensures (λ x y h. h)
