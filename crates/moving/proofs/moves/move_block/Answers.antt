-- The rows of block k are read into the lent gains, and stored from there.
use Prim.Native.Nat.{◌-◌, ◌<◌}
use mathlib.Core.Path.{◌≡◌}
use native.Mathlib.Omega.{arith}
use Rattle.block.specs.Block.{per_block, blocks, held_rows}
use Rattle.block.specs.Asked.{Stores}
use Rattle.block.specs.Kind.{left_out}
use Rattle.block.proofs.Tests.{left_out_small}
use Rattle.moving.proofs.Moved.{rows_in_law, rows_there, gains_room, moved_block}
use Rattle.moving.proofs.moves.move_block.Goals as goal

pub copy_rows-requires-clause-room : goal.copy_rows-requires-clause-room
copy_rows-requires-clause-room c =
    let q = c.requires.same in
    let st : Stores (c.args.from.bands - left_out c.args.to.form) c.args.from.bands c.args.from.rows = rw (q.0, q.1) at c.args.to.stores in
    let kb : c.args.k < blocks (c.args.from.bands - left_out c.args.to.form) c.args.from.rows = rw (q.0, q.1) at c.requires.room.0 in
    let held : c.held.result ≡ held_rows (c.args.from.bands - left_out c.args.to.form) c.args.from.rows c.args.k = rw (q.0, q.1) at c.held.ensures in
    let per : c.per_block.result ≡ per_block (c.args.from.bands - left_out c.args.to.form) = rw q.0 at c.per_block.ensures in
    let room = gains_room c.args.bytes.now _ _ _ _ _ _ c.requires.known.0 st kb held (left_out_small c.args.to.form) in
    let inside = rows_in_law c.args.bytes.now _ _ _ _ _ _ c.requires.known.0 st kb held in
    (omega (arith, room, c.requires.room.1), rw per (omega (arith, inside, c.args.from.stores.fits.rows)))

pub copy_rows-requires-clause-there : goal.copy_rows-requires-clause-there
copy_rows-requires-clause-there c =
    let q = c.requires.same in
    let st : Stores (c.args.from.bands - left_out c.args.to.form) c.args.from.bands c.args.from.rows = rw (q.0, q.1) at c.args.to.stores in
    let kb : c.args.k < blocks (c.args.from.bands - left_out c.args.to.form) c.args.from.rows = rw (q.0, q.1) at c.requires.room.0 in
    let held : c.held.result ≡ held_rows (c.args.from.bands - left_out c.args.to.form) c.args.from.rows c.args.k = rw (q.0, q.1) at c.held.ensures in
    let per : c.per_block.result ≡ per_block (c.args.from.bands - left_out c.args.to.form) = rw q.0 at c.per_block.ensures in
    rw per (rows_there _ _ _ _ _ _ _ c.requires.known.0 st kb held)

pub write_block-requires : goal.write_block-requires
write_block-requires c =
    let q = c.requires.same in
    let st : Stores (c.args.from.bands - left_out c.args.to.form) c.args.from.bands c.args.from.rows = rw (q.0, q.1) at c.args.to.stores in
    let kb : c.args.k < blocks (c.args.from.bands - left_out c.args.to.form) c.args.from.rows = rw (q.0, q.1) at c.requires.room.0 in
    let held : c.held.result ≡ held_rows (c.args.from.bands - left_out c.args.to.form) c.args.from.rows c.args.k = rw (q.0, q.1) at c.held.ensures in
    let room = gains_room c.args.bytes.now _ _ _ _ _ _ c.requires.known.0 st kb held (left_out_small c.args.to.form) in (
      record {
        stores = rw c.width.ensures c.args.to.stores;
        inside = rw c.width.ensures c.requires.room.0;
        long = rw (c.width.ensures, ← c.held.ensures, q.0) (omega (arith, room, c.requires.room.1, c.copy_rows.ensures.long));
      },
      c.requires.room.2,
    )

pub returns : goal.returns
returns c =
    let q = c.requires.same in
    let st : Stores (c.args.from.bands - left_out c.args.to.form) c.args.from.bands c.args.from.rows = rw (q.0, q.1) at c.args.to.stores in
    let kb : c.args.k < blocks (c.args.from.bands - left_out c.args.to.form) c.args.from.rows = rw (q.0, q.1) at c.requires.room.0 in
    let held : c.held.result ≡ held_rows (c.args.from.bands - left_out c.args.to.form) c.args.from.rows c.args.k = rw (q.0, q.1) at c.held.ensures in
    let per : c.per_block.result ≡ per_block (c.args.from.bands - left_out c.args.to.form) = rw q.0 at c.per_block.ensures in
    rw (q.0, q.1)
    (moved_block c.args.bytes.now _ _ _ _ _ _ c.requires.known.0 st kb held c.requires.known.1 _ _ (rw per at c.copy_rows.ensures) _ _
    (rw (c.number-form.ensures, c.width.ensures, q.0, q.1) at c.write_block.ensures))
