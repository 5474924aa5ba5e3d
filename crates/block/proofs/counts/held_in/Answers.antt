use Prim.Native.Nat.{◌*◌, ◌<◌}
use native.Mathlib.Omega.{arith}
use Rattle.block.specs.Block.{per_block, held_rows}
use Rattle.block.proofs.Shape.{per_pos, blocks_lt}
use Rattle.block.proofs.counts.held_in.Goals as goal

pub overflow_mul-left : goal.overflow_mul-left
overflow_mul-left c =
    let below : per_block c.args.width * c.args.k < c.args.rows = blocks_lt _ _ _ (per_pos _ (omega arith) (omega arith)) (omega arith) in
    omega (arith, below)

pub overflow_sub-left : goal.overflow_sub-left
overflow_sub-left c =
    let below : per_block c.args.width * c.args.k < c.args.rows = blocks_lt _ _ _ (per_pos _ (omega arith) (omega arith)) (omega arith) in
    omega (arith, below)

pub returns-then-per-left : goal.returns-then-per-left
unfolding held_rows
returns-then-per-left c = omega arith

pub returns-else-per-left : goal.returns-else-per-left
unfolding held_rows
returns-else-per-left c = omega arith
