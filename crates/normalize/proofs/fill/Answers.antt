use native.Mathlib.Omega.{arith}
use Rattle.lists.proofs.Placed.{filled_all}
use Rattle.normalize.proofs.fill.Goals as goal

pub returns : goal.returns
returns c = filled_all _ _ _ c.loop-i.i _ c.loop-i.invariant (omega (arith, c.requires.same)) (omega (arith, c.loop-i-test.false))
