use Rattle.softmax.proofs.Place.{softmax_place}
use Rattle.pack.proofs.Packing.{fits_word}
use Rattle.masoritun.proofs.c_softmax.mst_softmax.Goals as goal

pub pack-requires : goal.pack-requires
pack-requires c = fits_word c.softmax.result _ c.softmax.ensures.told (softmax_place c.args.flush c.args.src.now c.args.dst.now)
