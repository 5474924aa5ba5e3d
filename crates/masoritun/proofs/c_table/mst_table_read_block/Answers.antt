-- Where the block is told of, its four numbers are left and the word is 0; where it is refused, they stay.
use Rattle.masoritun.proofs.Told.{block_fits}
use Rattle.masoritun.proofs.c_table.mst_table_read_block.Goals as goal

pub pack-requires : goal.pack-requires
pack-requires c = block_fits c.args.number c.ranges.number.fits c.args.bytes.now c.read_block.result c.read_block.ensures.told _ c.in-Err.is
