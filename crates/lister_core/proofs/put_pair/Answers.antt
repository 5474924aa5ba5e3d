use native.Mathlib.Omega.{arith}
use Rattle.lister_core.proofs.Lines.{pair_put}
use Rattle.lister_core.proofs.put_pair.Goals as goal

pub returns : goal.returns
returns c =
    pair_put (omega (arith, c.ranges.n)) (omega (arith, c.ranges.m)) c.requires c.put_text.ensures c.put_number.ensures c.put_text-2.ensures c.put_number-2.ensures
    c.put_text-3.ensures
