-- Of nothing the extremes are the values that the folds start from. Assumes nothing.
use mathlib.Core.Path.{◌≡◌, refl}
use mathlib.Core.Bool.{true, false}
use mathlib.Core.List.{[]}
use lib.Ieee.{inf}
use Rattle.lists.specs.Lists.{first_not}
use Rattle.answer.specs.Answer.{judged}
use Rattle.min_max.specs.MinMax.{extreme_from, extremes_answer, min_max_told, max_num_told, min_num_told}

-- number and place 0, +infinity as the least and -infinity as the largest
pub min_max_none : min_max_told [] ≡ ((0, 0), (inf false, inf true))
unfolding extremes_answer judged first_not extreme_from
min_max_none = refl

pub max_num_none : max_num_told [] ≡ ((0, 0), inf true)
unfolding extremes_answer judged first_not extreme_from
max_num_none = refl

pub min_num_none : min_num_told [] ≡ ((0, 0), inf false)
unfolding extremes_answer judged first_not extreme_from
min_num_none = refl
