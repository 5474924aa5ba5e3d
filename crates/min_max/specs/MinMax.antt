-- min_max.rs over one lane: the extremes as ordered folds, their domain, and what the three calls tell. Definitions only.
use Rattle.std.specs.Prelude.{ℕ, Bool, true, false, not, cond, ltb, Float, length, get_or, Result, Ok, Err}
use mathlib.Core.List.{List, [], ◌∷◌, foldl}
use Rattle.std.specs.Float.{nan, inf}
use Rattle.std.specs.Float.Ieee.{lt, is_nan}
use Rattle.lists.specs.Lists.{first_not}
use Rattle.answer.specs.Answer.{Test, class_of, where_of, judged, told_with, value_told}
use Rattle.answer.specs.Limits.{element_limit}
use Rattle.answer.specs.Answer.{Answer}
use Rattle.answer.specs.declared.Refusal.{Refusal}
use Rattle.answer.specs.declared.Refusal.TheVariants.{TooMany, Domain}
use Rattle.floats.specs.Values.{zero_f}
use Rattle.min_max.specs.declared.Extremes.{Extremes}

-- the two sides
pub data Side : Type 0 where
  Least Largest : Side

-- x lies strictly beyond y: below it, or above it
abbrev pub beyond : Side → Float → Float → Bool
beyond Least x y = lt x y
beyond Largest x y = lt y x

-- what a fold holds before the first element: every other number lies beyond it
abbrev pub start_of : Side → Float
start_of Least = inf false
start_of Largest = inf true

-- an element, or another answer, replaces the held value only if it lies strictly beyond it
abbrev pub keep : Side → Float → Float → Float
keep side held x = cond (beyond side x held) x held

-- every element in order, from a held value on
unfoldable pub extreme_from : Side → Float → List Float → Float
extreme_from side held s = foldl (keep side) held s

abbrev pub least_from : Float → List Float → Float
least_from held s = extreme_from Least held s

abbrev pub largest_from : Float → List Float → Float
largest_from held s = extreme_from Largest held s

-- the extreme of a list
abbrev pub extreme_of : Side → List Float → Float
extreme_of side s = extreme_from side (start_of side) s

-- the domain: all but NaN
abbrev pub number_at : List Float → ℕ → Bool
number_at s i = not (is_nan (get_or s i nan))

abbrev pub first_nan : List Float → ℕ
first_nan s = first_not (number_at s) (length s)

-- the refusals in order (RULES, Order)
abbrev pub tests : List Float → List Test
tests s = (ltb element_limit (length s), TooMany) ∷ (ltb (first_nan s) (length s), Domain (first_nan s)) ∷ []

unfoldable pub extremes_answer : List Float → Answer
extremes_answer s = judged (tests s)

-- what an answer tells: its number and place, and its values, +0 for each where it is refused
abbrev pub values_of : Extremes → Float × Float
values_of e = (e.least, e.largest)

abbrev pub extremes_told : Result Extremes Refusal → (ℕ × ℕ) × (Float × Float)
extremes_told (Ok e) = ((0, 0), values_of e)
extremes_told (Err r) = ((class_of r, where_of r), (zero_f, zero_f))

abbrev pub extreme_told : Result Float Refusal → (ℕ × ℕ) × Float
extreme_told r = value_told zero_f r

-- what each call tells: the extremes, +0 for each number where it is refused
abbrev pub min_max_told : List Float → (ℕ × ℕ) × (Float × Float)
min_max_told s = told_with (extremes_answer s) (extreme_of Least s, extreme_of Largest s) (zero_f, zero_f)

abbrev pub max_num_told : List Float → (ℕ × ℕ) × Float
max_num_told s = told_with (extremes_answer s) (extreme_of Largest s) zero_f

abbrev pub min_num_told : List Float → (ℕ × ℕ) × Float
min_num_told s = told_with (extremes_answer s) (extreme_of Least s) zero_f
