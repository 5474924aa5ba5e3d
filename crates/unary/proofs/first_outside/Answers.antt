-- Each search is by the domain of the case matched; Sin and Cos have one domain.
use mathlib.Core.Path.{ap}
use mathlib.Core.Logic.{⊎_elim}
use Rattle.unary.specs.Unary.{in_domain}
use Rattle.unary.specs.declared.Op.TheVariants.{ReducedRangeExp, Sin}
use Rattle.unary.proofs.Arms.{looked}
use Rattle.unary.proofs.first_outside.Goals as goal

pub returns-in-ReducedRangeExp : goal.returns-in-ReducedRangeExp
returns-in-ReducedRangeExp c = looked _ ReducedRangeExp _ (ap in_domain c.in-ReducedRangeExp.is) c.first_failing.ensures (λ x b h. h)

pub returns-in-Sin : goal.returns-in-Sin
returns-in-Sin c = looked _ Sin _ (⊎_elim (λ e. ap in_domain e) (λ e. ap in_domain e) c.in-Sin.is) c.first_failing-in-Sin.ensures (λ x b h. h)
