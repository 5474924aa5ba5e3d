use mathlib.Core.Path.{ap, sym, ◌∙◌}
use native.Mathlib.Omega.{arith}
use Rattle.min_max.specs.MinMax.{extremes_told}
use Rattle.min_max.proofs.Place.{extremes_place}
use Rattle.masoritun.proofs.c_min_max.mst_min_max.Goals as goal

pub pack-requires : goal.pack-requires
pack-requires c = omega (arith, ap (λ t. t.0.1) (ap extremes_told (sym c.in-Err.is) ∙ c.min_max.ensures), extremes_place c.args.src.now)
