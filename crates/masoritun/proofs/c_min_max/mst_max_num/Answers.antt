use mathlib.Core.Path.{ap}
use native.Mathlib.Omega.{arith}
use Rattle.min_max.proofs.Place.{extremes_place}
use Rattle.masoritun.proofs.c_min_max.mst_max_num.Goals as goal

pub give-requires : goal.give-requires
give-requires c = omega (arith, ap (λ t. t.0.1) c.max_num.ensures, extremes_place c.args.src.now)
