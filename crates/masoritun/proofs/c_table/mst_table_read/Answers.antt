use Rattle.masoritun.proofs.Told.{table_fits}
use Rattle.masoritun.proofs.c_table.mst_table_read.Goals as goal

pub pack-requires : goal.pack-requires
pack-requires c = table_fits c.args.bytes.now c.args.gains.now c.read.result c.read.ensures.told _ c.in-Err.is
