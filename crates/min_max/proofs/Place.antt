-- A place that an extreme's call tells is at most the limit. Assumes nothing.
use Prim.Native.Nat.{◌≤◌}
use mathlib.Core.List.{List}
use native.Mathlib.Omega.{arith}
use borrow.Author.Tests.{ltb-true, ltb-false}
use lib.Ieee.{Float}
use lib.ListN.{length}
use Rattle.answer.specs.Answer.{place_of}
use Rattle.answer.specs.Limits.{element_limit}
use Rattle.answer.proofs.Bounded.{place_bounded}
use Rattle.min_max.specs.MinMax.{tests, first_nan, extremes_answer}

pub extremes_place : (s : List Float) → place_of (extremes_answer s) ≤ element_limit
unfolding extremes_answer
extremes_place s =
    place_bounded element_limit (tests s) (
      λ h. omega arith,
      λ h. (λ k. omega (arith, ltb-false element_limit (length s) h, ltb-true (first_nan s) (length s) k), λ k. tt),
    )
