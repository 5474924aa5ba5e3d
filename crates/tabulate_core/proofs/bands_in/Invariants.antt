use Prim.Native.Nat.{◌≤◌}
use mathlib.Core.Path.{◌≡◌}
use lib.ListN.{drop}
use Rattle.answer.specs.Limits.{band_limit}
use Rattle.tabulate_core.specs.Argument.{bands_from, bands_in}
use Rattle.tabulate_core.proofs.bands_in.Given as goal

abbrev pub invariant-loop-b : goal.invariant-loop-b
invariant-loop-b l = (l.v ≤ band_limit) × (bands_from l.v (drop l.b-index l.word) ≡ bands_in l.word)
