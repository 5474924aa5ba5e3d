-- The steps of the softmax weights, and what `split` answers and leaves (RULES, Split). Definitions only.
use Rattle.std.specs.Prelude.{ℕ, ◌*◌, not, List, [], ◌∷◌, map, T, eqb, ltb, length, Float}
use Rattle.std.specs.Float.Ieee.{le}
use Rattle.std.specs.Float.Ieee.Nearest.{closest}
use Rattle.answer.specs.Answer.{Test, judged, when_done, told_of, Answer}
use Rattle.answer.specs.Limits.{parts, step_count, band_limit}
use Rattle.answer.specs.declared.Refusal.TheVariants.{Count, Length, Domain, Masked}
use Rattle.floats.specs.Values.{zero_f, one_f}
use Rattle.floats.specs.Fraction.{frac}
use Rattle.softmax.specs.Softmax.{first_outside, all_masked, weights_of}
use Rattle.parts.specs.Parts.{gains_over, distance_over}

-- The weight times the number of steps, exactly, to the nearest whole number, ties to even. (0 for what is negative or not finite, which no
-- weight is.)
unfoldable pub steps_over : ℕ → Float → ℕ
steps_over count w = closest ((frac w).over * count) (frac w).by

-- in the steps of this release
abbrev pub steps_of : Float → ℕ
steps_of w = steps_over step_count w

-- what every softmax weight is: from 0 to 1
abbrev pub is_weight : Float → Type 0
is_weight w = T (le zero_f w) × T (le w one_f)

-- the numbers a of RULES, Split: the softmax weights in steps
unfoldable pub level_steps_over : ℕ → List Float → List ℕ
level_steps_over count levels = map (steps_over count) (weights_of levels)

abbrev pub level_steps : List Float → List ℕ
level_steps levels = level_steps_over step_count levels

-- the gains of the numbers a, and how far a list of gains lies from their exact shares: the sum of |T g - 32768 a|
abbrev pub gains_of : List ℕ → List ℕ
gains_of a = gains_over parts a

abbrev pub distance : List ℕ → List ℕ → ℕ
distance a gains = distance_over parts a gains

-- refusals 7, 1, 4, 5
abbrev pub tests : List Float → List ℕ → List Test
tests levels gains =
    (ltb (length levels) 1, Count)
    ∷ (ltb band_limit (length levels), Count)
    ∷ (not (eqb (length levels) (length gains)), Length)
    ∷ (ltb (first_outside levels) (length levels), Domain (first_outside levels))
    ∷ (all_masked levels, Masked)
    ∷ []

unfoldable pub split_answer : List Float → List ℕ → Answer
split_answer levels gains = judged (tests levels gains)

-- what the call tells, and what it leaves in the gains
abbrev pub split_told : List Float → List ℕ → ℕ × ℕ
split_told levels gains = told_of (split_answer levels gains)

abbrev pub split_out : List Float → List ℕ → List ℕ
split_out levels gains = when_done (split_answer levels gains) (gains_of (level_steps levels)) gains
