-- A place that `quantize` tells is at most the limit. Assumes nothing.
use Prim.Native.Nat.{ℕ, ◌≤◌}
use mathlib.Core.List.{List}
use native.Mathlib.Omega.{arith}
use borrow.Author.Tests.{ltb-true, ltb-false}
use lib.Ieee.{Float}
use lib.ListN.{length}
use Rattle.answer.specs.Answer.{place_of}
use Rattle.answer.specs.Limits.{element_limit}
use Rattle.answer.proofs.Bounded.{place_bounded}
use Rattle.floats.specs.Floats.{first_not_finite}
use Rattle.quantize.specs.Quantize.{tests, quantize_answer}

pub quantize_place : (inv : Float) (s : List Float) (d : List ℕ) → place_of (quantize_answer inv s d) ≤ element_limit
unfolding quantize_answer
quantize_place inv s d =
    place_bounded element_limit (tests inv s d) (
      λ h. omega arith,
      λ h. (
        λ k. omega arith,
        λ k. (
          λ l. omega arith,
          λ l. (λ m. omega (arith, ltb-false element_limit (length s) k, ltb-true (first_not_finite s) (length s) m), λ m. tt),
        ),
      ),
    )
