use lib.Ieee.{of_bits}
use Rattle.exp.specs.Exp.{exp_of}
use Rattle.exp.proofs.exp.Goals as goal

pub returns-then-x : goal.returns-then-x
unfolding exp_of
returns-then-x c = simp c.if-x.true

pub returns-then-x-2 : goal.returns-then-x-2
unfolding exp_of of_bits
returns-then-x-2 c = simp (c.if-x.false, c.if-x-2.true)
