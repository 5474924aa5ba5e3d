use Rattle.split.proofs.Place.{split_place}
use Rattle.pack.proofs.Packing.{fits_word}
use Rattle.masoritun.proofs.c_split.mst_split.Goals as goal

pub pack-requires : goal.pack-requires
pack-requires c = fits_word c.split.result _ c.split.ensures.told (split_place c.args.levels.now c.args.gains.now)
