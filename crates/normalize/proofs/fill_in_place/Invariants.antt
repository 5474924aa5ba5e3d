use Rattle.std.specs.Float.{nan}
use Rattle.lists.specs.Lists.{Filled}
use Rattle.normalize.specs.Scaling.{result_by}
use Rattle.normalize.proofs.fill_in_place.Given as goal

abbrev pub invariant-loop-i : goal.invariant-loop-i
invariant-loop-i l = Filled nan l.fn.buf l.buf l.i (result_by l.by l.fn.buf)
