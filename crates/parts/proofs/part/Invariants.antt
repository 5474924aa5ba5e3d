use Rattle.lists.specs.Lists.{Filled}
use Rattle.parts.specs.Parts.{gain}
use Rattle.parts.proofs.part.Given as goal

abbrev pub invariant-loop-i : goal.invariant-loop-i
invariant-loop-i l = Filled 0 l.initial.gains l.gains l.i (gain l.parts l.a)
