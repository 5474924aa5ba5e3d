use mathlib.Core.Path.{ap, ◌∙◌}
use Rattle.std.specs.Prelude.{is_some}
use Rattle.normalize.specs.Normalize.{list_of}
use Rattle.normalize.proofs.Place.{normalize_place}
use Rattle.normalize.proofs.Absent.{normalize_shown}
use Rattle.masoritun.specs.Masoritun.{settings_at}
use Rattle.pack.specs.Pack.{packed}
use Rattle.pack.proofs.Packing.{fits_word}
use Rattle.masoritun.proofs.c_normalize.mst_normalize.Goals as goal

pub pack-requires : goal.pack-requires
pack-requires c =
    let o = c.present-scales.result in
    let p = c.present-biases.result in
    fits_word c.normalize.result _ c.normalize.ensures.told (normalize_place (settings_at c.args.pre_scale_bias c.args.scale c.args.bias) (is_some o) (list_of o) (is_some p) (list_of p) c.args.src.now c.args.dst.now)

pub returns-clause-told : goal.returns-clause-told
returns-clause-told c =
    let same = normalize_shown (settings_at c.args.pre_scale_bias c.args.scale c.args.bias) c.args.src.now _ _ _ _ _ _ c.present-scales.ensures c.present-biases.ensures c.args.dst.now in
    c.pack.ensures ∙ ap packed (c.normalize.ensures.told ∙ same.0)

pub returns-clause-written : goal.returns-clause-written
returns-clause-written c =
    let same = normalize_shown (settings_at c.args.pre_scale_bias c.args.scale c.args.bias) c.args.src.now _ _ _ _ _ _ c.present-scales.ensures c.present-biases.ensures c.args.dst.now in
    c.normalize.ensures.written ∙ same.1
