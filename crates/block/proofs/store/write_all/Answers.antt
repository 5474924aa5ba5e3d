-- The bytes of the blocks before block k are the table's; block k adds its 512, from its own rows.
use Prim.Native.Nat.{◌+◌, ◌*◌, ◌≤◌, ◌<◌}
use native.Mathlib.Omega.{arith}
use Rattle.lists.proofs.Placed.{filled_all}
use Rattle.block.specs.Block.{per_block, blocks, table_bytes}
use Rattle.block.proofs.Shape.{part_in, part_small}
use Rattle.block.proofs.Storing.{cut_more}
use Rattle.block.proofs.store.write_all.Goals as goal

pub overflow_mul-from-in-loop-k : goal.overflow_mul-from-in-loop-k
overflow_mul-from-in-loop-k c = let inside : c.loop-k.k < blocks c.args.width c.args.rows = omega (arith, c.blocks_of-k-end.ensures, c.loop-k-test.true) in
    omega (arith, part_small _ _ _ _ c.requires.0 inside)

pub overflow_mul-to : goal.overflow_mul-to
overflow_mul-to c =
    let many : c.loop-k.k * per_block c.args.width * c.args.bands + c.held_in.result * c.args.bands ≤ 65535 * 250 = let inside : c.loop-k.k < blocks c.args.width c.args.rows = omega (arith, c.blocks_of-k-end.ensures, c.loop-k-test.true) in
    rw c.held_in.ensures (part_small _ _ _ _ c.requires.0 inside) in
    omega (arith, many)

pub overflow_add-to : goal.overflow_add-to
overflow_add-to c =
    let many : c.loop-k.k * per_block c.args.width * c.args.bands + c.held_in.result * c.args.bands ≤ 65535 * 250 = let inside : c.loop-k.k < blocks c.args.width c.args.rows = omega (arith, c.blocks_of-k-end.ensures, c.loop-k-test.true) in
    rw c.held_in.ensures (part_small _ _ _ _ c.requires.0 inside) in
    omega (arith, many)

pub offset_bounds-gains-from : goal.offset_bounds-gains-from
offset_bounds-gains-from c =
    let many : c.loop-k.k * per_block c.args.width * c.args.bands + c.held_in.result * c.args.bands ≤ 65535 * 250 = let inside : c.loop-k.k < blocks c.args.width c.args.rows = omega (arith, c.blocks_of-k-end.ensures, c.loop-k-test.true) in
    rw c.held_in.ensures (part_small _ _ _ _ c.requires.0 inside) in
    omega (arith, many)

pub slice_bounds-write_block-end : goal.slice_bounds-write_block-end
slice_bounds-write_block-end c =
    let inside : c.loop-k.k < blocks c.args.width c.args.rows = omega (arith, c.blocks_of-k-end.ensures, c.loop-k-test.true) in
    let z : c.loop-k.k * per_block c.args.width * c.args.bands + c.held_in.result * c.args.bands ≤ c.args.rows * c.args.bands =
    rw c.held_in.ensures (part_in _ _ _ _ c.requires.0 inside) in
    omega (arith, z, c.requires.1)

pub loop-k-preserved : goal.loop-k-preserved
loop-k-preserved c = let inside : c.loop-k.k < blocks c.args.width c.args.rows = omega (arith, c.blocks_of-k-end.ensures, c.loop-k-test.true) in
    cut_more _ _ _ _ c.requires.0 inside _ c.requires.1 _ c.held_in.ensures _ _ _ _ c.loop-k.invariant c.write_block.ensures

pub returns : goal.returns
unfolding table_bytes
returns c = filled_all _ _ _ _ _ c.loop-k.invariant c.requires.2 (omega (arith, c.blocks_of-k-end.ensures, c.loop-k-test.false))
