-- A finite sum shows that its elements are finite, for every sum but the one of exponentials. Assumes nothing.
use mathlib.Core.Path.{◌≡◌, refl}
use mathlib.Core.Bool.{true}
use mathlib.Core.List.{List}
use lib.Ieee.{Float, nan, binary32, sub, mul}
use lib.Ieee.Scale.{finite}
use lib.ListN.{length}
use Rattle.lists.proofs.First.{Passed}
use Rattle.lists.proofs.Fold.{fold_shows}
use Rattle.floats.specs.Floats.{abs_of, finite_at}
use Rattle.floats.proofs.Finite.{add_finite, sub_finite, mul_finite, abs_finite}
use Rattle.sum.specs.Sum.{step_of, sum_from}
use Rattle.sum.specs.declared.SumOp.{SumOp}
use Rattle.sum.specs.declared.SumOp.TheVariants.{Sum, SumSquare, SumAbs, SumSquareSub, SumExpSub}

-- a step that ends finite started from a finite sum and a finite element
abbrev pub Shows : SumOp → Type 0
Shows op = (sum x : Float) → finite (step_of op sum x) ≡ true → (finite sum ≡ true) × (finite x ≡ true)

pub shows_sum : Shows Sum
shows_sum sum x h = add_finite binary32 sum x h

pub shows_abs : Shows SumAbs
shows_abs sum x h = let both = add_finite binary32 sum (abs_of x) h in (both.0, abs_finite x both.1)

pub shows_square : Shows SumSquare
shows_square sum x h = let both = add_finite binary32 (mul binary32 x x) sum h in (both.1, (mul_finite binary32 x x both.0).0)

pub shows_square_sub : (offset : Float) → Shows (SumSquareSub offset)
shows_square_sub offset sum x h =
    let d = sub binary32 x offset in
    let both = add_finite binary32 (mul binary32 d d) sum h in
    (both.1, (sub_finite binary32 x offset (mul_finite binary32 d d both.0).0).0)

-- so of every sum but that of exponentials
pub shows_others : (op : SumOp) → ((offset : Float) → op ≡ SumExpSub offset → ⊥) → Shows op
shows_others Sum n = shows_sum
shows_others SumSquare n = shows_square
shows_others SumAbs n = shows_abs
shows_others (SumSquareSub offset) n = shows_square_sub offset
shows_others (SumExpSub offset) n = absurd (n offset refl)

pub all_finite : (op : SumOp) (held : Float) (s : List Float) → Shows op → finite (sum_from op held s) ≡ true → Passed (finite_at s) (length s)
unfolding sum_from
all_finite op held s k h = (fold_shows (step_of op) (λ b. finite b ≡ true) (λ x. finite x ≡ true) k nan s held h).1
