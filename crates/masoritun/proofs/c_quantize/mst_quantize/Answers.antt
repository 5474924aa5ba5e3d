use Rattle.quantize.proofs.Place.{quantize_place}
use Rattle.pack.proofs.Packing.{fits_word}
use Rattle.masoritun.proofs.c_quantize.mst_quantize.Goals as goal

pub pack-requires : goal.pack-requires
pack-requires c = fits_word c.quantize.result _ c.quantize.ensures.told (quantize_place c.args.inv_scale c.args.src.now c.args.dst.now)
