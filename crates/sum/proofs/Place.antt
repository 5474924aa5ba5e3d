-- A place that a sum's call tells is at most the limit. Assumes nothing.
use Prim.Native.Nat.{◌≤◌}
use mathlib.Core.List.{List}
use native.Mathlib.Omega.{arith}
use borrow.Author.Tests.{ltb-true, ltb-false}
use lib.Ieee.{Float}
use lib.ListN.{length}
use Rattle.answer.specs.Answer.{place_of}
use Rattle.answer.specs.Limits.{element_limit}
use Rattle.answer.proofs.Bounded.{place_bounded}
use Rattle.floats.specs.Floats.{first_not_finite}
use Rattle.sum.specs.Sum.{tests, add_up_answer}
use Rattle.sum.specs.declared.SumOp.{SumOp}

pub add_up_place : (op : SumOp) (s : List Float) → place_of (add_up_answer op s) ≤ element_limit
unfolding add_up_answer
add_up_place op s =
    place_bounded element_limit (tests op s) (
      λ h. omega arith,
      λ h. (
        λ k. omega arith,
        λ k. (λ l. omega (arith, ltb-false element_limit (length s) h, ltb-true (first_not_finite s) (length s) l), λ l. tt),
      ),
    )
