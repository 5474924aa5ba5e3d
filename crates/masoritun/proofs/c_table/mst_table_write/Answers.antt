use mathlib.Core.Path.{ap}
use native.Mathlib.Omega.{arith}
use lib.ListN.{length}
use Rattle.table.specs.Release.{form1}
use Rattle.table.proofs.Place.{write_place}
use Rattle.masoritun.proofs.c_table.mst_table_write.Goals as goal

pub pack-requires : goal.pack-requires
pack-requires c = omega (arith, write_place form1 c.args.bands c.args.rows c.args.gains.now (length c.args.bytes.now), ap (λ t. t.1) c.write.ensures.told)
