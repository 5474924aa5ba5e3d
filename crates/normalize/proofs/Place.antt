-- A place that normalizing tells is at most the limit. Assumes nothing.
use Prim.Native.Nat.{◌≤◌}
use mathlib.Core.Bool.{Bool}
use mathlib.Core.List.{List}
use native.Mathlib.Omega.{arith}
use borrow.Author.Tests.{ltb-true, ltb-false}
use lib.Ieee.{Float}
use lib.ListN.{length}
use Rattle.answer.specs.Answer.{place_of}
use Rattle.answer.specs.Limits.{element_limit}
use Rattle.answer.proofs.Bounded.{Bounded, place_bounded}
use Rattle.normalize.specs.Normalize.{tests, first_bad, first_nan_result, in_place_answer, normalize_answer}
use Rattle.normalize.specs.declared.Settings.{Settings}

module _ (st : Settings) (hs : Bool) (es : List Float) (hb : Bool) (eb s : List Float) where
  bounded : Bounded element_limit (tests st hs es hb eb s)
  bounded = (
    λ a. omega arith,
    λ a. (
      λ b. omega arith,
      λ b. (
        λ c. omega arith,
        λ c. (
          λ d. omega arith,
          λ d. (
            λ e. omega (arith, ltb-false element_limit (length s) c, ltb-true (first_bad hs es hb eb s) (length s) e),
            λ e. (λ f. omega (arith, ltb-false element_limit (length s) c, ltb-true (first_nan_result st hs es hb eb s) (length s) f), λ f. tt),
          ),
        ),
      ),
    ),
  )

  pub in_place_place : place_of (in_place_answer st hs es hb eb s) ≤ element_limit
  unfolding in_place_answer
  in_place_place = place_bounded element_limit (tests st hs es hb eb s) bounded

  pub normalize_place : (d : List Float) → place_of (normalize_answer st hs es hb eb s d) ≤ element_limit
  unfolding normalize_answer
  normalize_place d = place_bounded element_limit _ (λ h. omega arith, λ h. bounded)
