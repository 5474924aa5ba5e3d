-- The promises of `softmax` and `softmax_in_place` determine the answer and what is left: two outcomes that one allows are equal. Assumes nothing.
use mathlib.Core.Bool.{Bool}
use mathlib.Core.List.{List}
use mathlib.Core.Path.{◌≡◌}
use lib.Ieee.{Float}
use Rattle.answer.specs.Answer.{Answer}
use Rattle.answer.specs.Answer.{Outcome}
use Rattle.answer.proofs.Outcome.{one_outcome}
use Rattle.softmax.specs.Softmax.{softmax_told, softmax_out, in_place_told, in_place_out}

-- the answer r and the last list l of dst, as the two clauses have them
abbrev pub Allowed : Bool → List Float → List Float → Answer → List Float → Type 0
Allowed flush s d r l = Outcome (softmax_told flush s d) (softmax_out flush s d) r l

pub softmax_determined : (flush : Bool) (s d : List Float) {r q : Answer} {l k : List Float}
    → Allowed flush s d r l → Allowed flush s d q k → (r ≡ q) × (l ≡ k)
softmax_determined flush s d a b = one_outcome a b

-- and of buf, in place
abbrev pub InPlaceAllowed : Bool → List Float → Answer → List Float → Type 0
InPlaceAllowed flush s r l = Outcome (in_place_told flush s) (in_place_out flush s) r l

pub softmax_in_place_determined : (flush : Bool) (s : List Float) {r q : Answer} {l k : List Float}
    → InPlaceAllowed flush s r l → InPlaceAllowed flush s q k → (r ≡ q) × (l ≡ k)
softmax_in_place_determined flush s a b = one_outcome a b
