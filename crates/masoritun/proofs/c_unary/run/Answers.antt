use Rattle.unary.proofs.Place.{apply_place}
use Rattle.pack.proofs.Packing.{fits_word}
use Rattle.masoritun.proofs.c_unary.run.Goals as goal

pub pack-requires : goal.pack-requires
pack-requires c = fits_word c.apply.result _ c.apply.ensures.told (apply_place c.args.op c.args.src.now c.args.dst.now)
