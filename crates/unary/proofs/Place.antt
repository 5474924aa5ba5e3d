-- A place that `apply` tells is at most the limit. Assumes nothing.
use Prim.Native.Nat.{◌≤◌}
use mathlib.Core.List.{List}
use native.Mathlib.Omega.{arith}
use borrow.Author.Tests.{ltb-true, ltb-false}
use lib.Ieee.{Float}
use lib.ListN.{length}
use Rattle.answer.specs.Answer.{place_of}
use Rattle.answer.specs.Limits.{element_limit}
use Rattle.answer.proofs.Bounded.{place_bounded}
use Rattle.unary.specs.Unary.{tests, first_outside, apply_answer}
use Rattle.unary.specs.declared.Op.{Op}

pub apply_place : (op : Op) (s d : List Float) → place_of (apply_answer op s d) ≤ element_limit
unfolding apply_answer
apply_place op s d =
    place_bounded element_limit (tests op s d) (
      λ h. omega arith,
      λ h. (
        λ k. omega arith,
        λ k. (
          λ l. omega arith,
          λ l. (λ m. omega (arith, ltb-false element_limit (length s) k, ltb-true (first_outside op s) (length s) m), λ m. tt),
        ),
      ),
    )
