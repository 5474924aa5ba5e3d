-- Each turn adds one element and its value.
use Rattle.std.proofs.Common.{rules}
use Rattle.lists.proofs.Turns.{zip_more}
use Rattle.lists.proofs.each.map_into.Goals as goal

pub loop-i-preserved : goal.loop-i-preserved
loop-i-preserved g c = (search rules, zip_more _ _ _ _ _ _ _ c.loop-i-test.true (search rules) c.index-src-i.is c.loop-i.invariant.1 c.f.ensures)
