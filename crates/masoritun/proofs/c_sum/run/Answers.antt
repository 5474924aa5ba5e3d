use mathlib.Core.Path.{ap}
use native.Mathlib.Omega.{arith}
use Rattle.sum.proofs.Place.{add_up_place}
use Rattle.masoritun.proofs.c_sum.run.Goals as goal

pub give-requires : goal.give-requires
give-requires c = omega (arith, ap (λ t. t.0.1) c.add_up.ensures, add_up_place c.args.op c.args.src.now)
