use Rattle.std.proofs.Common.{ap, ◌∙◌}
use native.Mathlib.Omega.{arith}
use Rattle.lists.specs.Lists.{sum_to}
use Rattle.lists.proofs.Sum.{sum_none, sum_more}
use Rattle.parts.specs.Parts.{lt1, above_in}
use Rattle.parts.proofs.Bits.{as_bit, byte_small}
use Rattle.parts.proofs.rank.Goals as goal

pub loop-key-init : goal.loop-key-init
loop-key-init c = (sum_none _, omega arith)

pub loop-key-preserved : goal.loop-key-preserved
unfolding above_in lt1
loop-key-preserved c = (
  sum_more _ c.loop-key.key-index c.loop-key.above _ c.loop-key.invariant.0 (c.from-above.ensures ∙ as_bit _),
  omega (arith, c.from-above.ensures, byte_small),
)

pub returns : goal.returns
returns c = c.loop-key.invariant.0 ∙ ap (sum_to (above_in c.args.keys.now c.args.i)) (omega arith)
