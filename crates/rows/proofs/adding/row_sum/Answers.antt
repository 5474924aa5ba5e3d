use mathlib.Core.Path.{refl}
use native.Mathlib.Omega.{arith}
use Rattle.lists.proofs.Sum.{sum_none, sum_more}
use Rattle.rows.proofs.adding.row_sum.Goals as goal

pub loop-gain-init : goal.loop-gain-init
loop-gain-init c = (sum_none _, omega arith)

pub loop-gain-preserved : goal.loop-gain-preserved
loop-gain-preserved c =
    (sum_more _ _ _ _ c.loop-gain.invariant.0 refl, omega (arith, c.loop-gain.invariant.1, c.type_inv.row c.loop-gain.gain-index))
