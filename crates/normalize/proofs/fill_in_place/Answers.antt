-- The first i places hold the results; those from i on are still the data, which the next result is worked out from.
use mathlib.Core.Path.{refl}
use native.Mathlib.Omega.{arith}
use Rattle.lists.proofs.Placed.{filled_all}
use Rattle.normalize.proofs.fill_in_place.Goals as goal

pub returns : goal.returns
returns c = filled_all _ _ _ c.loop-i.i _ c.loop-i.invariant refl (omega (arith, c.loop-i-test.false))
