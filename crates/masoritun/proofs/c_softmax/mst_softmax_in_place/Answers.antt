use Rattle.softmax.proofs.Place.{in_place_place}
use Rattle.pack.proofs.Packing.{fits_word}
use Rattle.masoritun.proofs.c_softmax.mst_softmax_in_place.Goals as goal

pub pack-requires : goal.pack-requires
pack-requires c = fits_word c.softmax_in_place.result _ c.softmax_in_place.ensures.told (in_place_place c.args.flush c.args.buf.now)
