-- A place that softmax tells is at most the limit. Assumes nothing.
use Prim.Native.Nat.{◌≤◌}
use mathlib.Core.Bool.{Bool}
use mathlib.Core.List.{List}
use native.Mathlib.Omega.{arith}
use borrow.Author.Tests.{ltb-true, ltb-false}
use lib.Ieee.{Float}
use lib.ListN.{length}
use Rattle.answer.specs.Answer.{place_of}
use Rattle.answer.specs.Limits.{element_limit}
use Rattle.answer.proofs.Bounded.{Bounded, place_bounded}
use Rattle.softmax.specs.Softmax.{tests, first_outside, in_place_answer, softmax_answer}

module _ (flush : Bool) (s : List Float) where
  bounded : Bounded element_limit (tests flush s)
  bounded = (
    λ a. omega arith,
    λ a. (
      λ b. omega (arith, ltb-false element_limit (length s) a, ltb-true (first_outside s) (length s) b),
      λ b. (λ c. omega arith, λ c. tt),
    ),
  )

  pub in_place_place : place_of (in_place_answer flush s) ≤ element_limit
  unfolding in_place_answer
  in_place_place = place_bounded element_limit (tests flush s) bounded

  pub softmax_place : (d : List Float) → place_of (softmax_answer flush s d) ≤ element_limit
  unfolding softmax_answer
  softmax_place d = place_bounded element_limit _ (λ h. omega arith, λ h. bounded)
