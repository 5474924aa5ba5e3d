use native.Mathlib.Omega.{arith}
use Rattle.block.specs.Block.{blocks}
use Rattle.block.proofs.counts.blocks_of.Goals as goal

pub returns : goal.returns
unfolding blocks
returns c = omega arith
