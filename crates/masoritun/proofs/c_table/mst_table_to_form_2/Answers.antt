use mathlib.Core.Path.{ap}
use native.Mathlib.Omega.{arith}
use lib.ListN.{length}
use Rattle.moving.proofs.Place.{move_place}
use Rattle.masoritun.proofs.c_table.mst_table_to_form_2.Goals as goal

pub pack-requires : goal.pack-requires
pack-requires c = omega (arith, move_place 1 c.args.bytes.now (length c.args.res.now), ap (λ t. t.1) c.to_form_2.ensures.told)
