-- The rows that a block holds lie in it, and their lines are the block's.
use Prim.Native.Nat.{ℕ, ◌*◌}
use mathlib.Core.Path.{refl, sym, ap}
use native.Mathlib.Omega.{arith}
use Rattle.digits.proofs.Written.{wrote_length}
use Rattle.block.specs.Read.{bytes_from}
use Rattle.lister_core.proofs.Rows.{rows_none, rows_more, block_rows, block_row, block_put}
use Rattle.lister_core.proofs.put_block.Goals as goal

pub overflow_mul-start : goal.overflow_mul-start
overflow_mul-start c = rw c.per_block.ensures (omega (arith, (block_rows c.args.t c.args.k c.requires.0).last))

pub loop-q-init : goal.loop-q-init
loop-q-init c = rows_none _ _ _ _ _ (omega arith)

pub overflow_add-start : goal.overflow_add-start
overflow_add-start c =
    let r = block_row c.args.t c.args.k c.requires.0 _ _ _ c.loop-q.q c.width-width.ensures c.per_block.ensures c.held-q-end.ensures c.loop-q-test.true in
    omega (arith, r.row)

pub overflow_mul-q : goal.overflow_mul-q
overflow_mul-q c =
    let r = block_row c.args.t c.args.k c.requires.0 _ _ _ c.loop-q.q c.width-width.ensures c.per_block.ensures c.held-q-end.ensures c.loop-q-test.true in
    omega (arith, r.first)

pub overflow_mul-q-in-loop-q : goal.overflow_mul-q-in-loop-q
overflow_mul-q-in-loop-q c =
    let r = block_row c.args.t c.args.k c.requires.0 _ _ _ c.loop-q.q c.width-width.ensures c.per_block.ensures c.held-q-end.ensures c.loop-q-test.true in
    omega (arith, r.first)

pub overflow_add-q : goal.overflow_add-q
overflow_add-q c =
    let r = block_row c.args.t c.args.k c.requires.0 _ _ _ c.loop-q.q c.width-width.ensures c.per_block.ensures c.held-q-end.ensures c.loop-q-test.true in
    omega (arith, r.first)

pub put_row-requires : goal.put_row-requires
put_row-requires c =
    let r = block_row c.args.t c.args.k c.requires.0 _ _ _ c.loop-q.q c.width-width.ensures c.per_block.ensures c.held-q-end.ensures c.loop-q-test.true in
    let p = c.loop-q.invariant in
    (omega (arith, r.row), c.requires.1, omega (arith, r.first, c.width-width.ensures), omega (arith, p.short, wrote_length p.added.wrote, r.room))

pub loop-q-preserved : goal.loop-q-preserved
loop-q-preserved c =
    rows_more c.width-width.result c.args.t.bands _ (bytes_from c.args.block.now 0) c.loop-q.q _ refl c.loop-q.invariant
    (rw (sym c.width-width.ensures) at c.put_row.ensures.text) c.put_row.ensures.short

pub returns : goal.returns
returns c =
    block_put c.args.t c.args.k c.requires.0 _ _ _ (ap (λ (x : ℕ). c.args.k * x) c.per_block.ensures) (omega (arith, c.held-q-end.ensures))
    (rw c.width-width.ensures at c.loop-q.invariant.added)
