-- Up to 0.0004 in size x is the result; past it x is no zero, so x at most zero is x with a minus sign.
use mathlib.Core.Path.{◌≡◌, sym, subst}
use mathlib.Core.Bool.{true}
use lib.Ieee.{le}
use Rattle.consts.specs.Consts.{tanh_tiny}
use Rattle.tanh.proofs.Zero.{tiny_itself, past_tiny}
use Rattle.tanh.proofs.tanh.Goals as goal

pub returns-then-size : goal.returns-then-size
returns-then-size c = sym (tiny_itself c.args.x (subst (λ s. le s tanh_tiny ≡ true) c.abs_by_order-size.ensures c.if-size.true))

pub returns-then-x : goal.returns-then-x
returns-then-x c = rw c.if-x.true at (past_tiny c.args.x c.abs_by_order-size.ensures c.if-size.false (c.chosen-y.ensures c.if-size.false))

pub returns-else-x : goal.returns-else-x
returns-else-x c = rw c.if-x.false at (past_tiny c.args.x c.abs_by_order-size.ensures c.if-size.false (c.chosen-y.ensures c.if-size.false))
