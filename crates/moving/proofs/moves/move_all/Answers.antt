-- The bytes of the blocks before block k are the moved table's; block k adds its 512.
use native.Mathlib.Omega.{arith}
use Rattle.lists.proofs.Placed.{filled_all}
use Rattle.block.specs.Block.{table_bytes}
use Rattle.moving.proofs.moves.move_all.Goals as goal

pub returns : goal.returns
unfolding table_bytes
returns c = filled_all _ _ _ _ _ c.loop-k.invariant.1 c.requires.room (omega (arith, c.blocks-k-end.ensures, c.loop-k-test.false))
