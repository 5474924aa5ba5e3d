use Prim.Native.Nat.{◌≤◌}
use mathlib.Core.Path.{◌≡◌}
use Rattle.lists.specs.Lists.{sum_to}
use Rattle.parts.specs.Parts.{above_in}
use Rattle.parts.proofs.rank.Given as goal

abbrev pub invariant-loop-key : goal.invariant-loop-key
invariant-loop-key l = (l.above ≡ sum_to (above_in l.keys l.i) l.key-index) × (l.above ≤ l.key-index)
