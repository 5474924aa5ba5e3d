-- A call of the extremes is done exactly where it is given few enough elements and none is a NaN. Assumes nothing.
use Prim.Native.Nat.{◌≤◌}
use mathlib.Core.Path.{◌≡◌}
use mathlib.Core.Bool.{true, not}
use mathlib.Core.List.{List}
use borrow.Author.Tests.{ltb-false, le-ltb}
use lib.Ieee.{Float, is_nan}
use lib.ListN.{length}
use Rattle.lists.proofs.First.{first_clear}
use Rattle.floats.specs.Each.{Each}
use Rattle.answer.specs.Limits.{element_limit}
use Rattle.std.specs.Prelude.{Ok}
use Rattle.answer.proofs.Chain.{gives, clear, skip, opened, none_found}
use Rattle.min_max.specs.MinMax.{extremes_answer}

-- no NaN
abbrev pub InDomain : Float → Type 0
InDomain x = not (is_nan x) ≡ true

pub record Taken (s : List Float) : Type 0 where
  pub few : length s ≤ element_limit
  pub domain : Each InDomain s

pub takes : (s : List Float) → Taken s → (Ok tt) ≡ extremes_answer s
unfolding extremes_answer
takes s t = gives (skip (le-ltb _ _ t.few) (none_found t.domain clear))

pub taken : (s : List Float) → (Ok tt) ≡ extremes_answer s → Taken s
unfolding extremes_answer
taken s d =
    let a = opened _ _ _ d in
    let b = opened _ _ _ a.1 in
    record { few = ltb-false _ _ a.0; domain = first_clear _ _ (ltb-false _ _ b.0) }
