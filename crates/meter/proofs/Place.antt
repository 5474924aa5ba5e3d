-- A place that a feeding tells is at most the limit. Assumes nothing.
use Prim.Native.Nat.{◌≤◌}
use mathlib.Core.List.{List}
use native.Mathlib.Omega.{arith}
use borrow.Author.Tests.{ltb-true, ltb-false}
use lib.Ieee.{Float}
use lib.ListN.{length}
use Rattle.answer.specs.Answer.{judged, place_of}
use Rattle.answer.specs.Answer.{Answer}
use Rattle.answer.specs.Limits.{element_limit}
use Rattle.answer.proofs.Bounded.{place_bounded}
use Rattle.floats.specs.Floats.{first_not_finite}
use Rattle.meter.specs.Meter.{tests, next_of, fed_by, feed_of, fed_told}
use Rattle.std.specs.Prelude.{Ok, Err}
use Rattle.meter.specs.declared.Meter.{Meter}

pub feed_place : (m : Meter) (s : List Float) → (fed_told (feed_of m s)).0.1 ≤ element_limit
unfolding feed_of
feed_place m s =
    go (judged (tests m s))
    (place_bounded element_limit (tests m s) (
      λ h. omega arith,
      λ h. (
        λ k. omega arith,
        λ k. (
          λ l. omega arith,
          λ l. (λ n. omega (arith, ltb-false element_limit (length s) h, ltb-true (first_not_finite s) (length s) n), λ n. tt),
        ),
      ),
    ))
  where
    go : (a : Answer) → place_of a ≤ element_limit → (fed_told (fed_by a (next_of m s))).0.1 ≤ element_limit
    go (Ok tt) h = h
    go (Err r) h = h
