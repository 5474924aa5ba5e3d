-- A place that split tells is at most the limit. Assumes nothing.
use Prim.Native.Nat.{ℕ, ◌≤◌}
use mathlib.Core.List.{List}
use native.Mathlib.Omega.{arith}
use borrow.Author.Tests.{ltb-true, ltb-false}
use lib.Ieee.{Float}
use lib.ListN.{length}
use Rattle.answer.specs.Answer.{place_of}
use Rattle.answer.specs.Limits.{element_limit, band_limit}
use Rattle.answer.proofs.Bounded.{place_bounded}
use Rattle.softmax.specs.Softmax.{first_outside}
use Rattle.split.specs.Split.{tests, split_answer}

pub split_place : (s : List Float) (g : List ℕ) → place_of (split_answer s g) ≤ element_limit
unfolding split_answer
split_place s g =
    place_bounded element_limit (tests s g) (
      λ a. omega arith,
      λ a. (
        λ b. omega arith,
        λ b. (
          λ c. omega arith,
          λ c. (
            λ d. omega (arith, ltb-false band_limit (length s) b, ltb-true (first_outside s) (length s) d),
            λ d. (λ e. omega arith, λ e. tt),
          ),
        ),
      ),
    )
