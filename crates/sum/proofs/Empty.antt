-- Of nothing every sum is +0, where its offset is finite. Assumes nothing.
use mathlib.Core.Path.{◌≡◌}
use mathlib.Core.Bool.{true}
use mathlib.Core.List.{[]}
use Rattle.lists.specs.Lists.{first_not}
use Rattle.answer.specs.Answer.{judged}
use Rattle.floats.specs.Values.{zero_f}
use Rattle.sum.specs.Sum.{offset_ok, sum_from, add_up_answer, add_up_told}
use Rattle.sum.specs.declared.SumOp.{SumOp}

pub add_up_none : (op : SumOp) → offset_ok op ≡ true → add_up_told op [] ≡ ((0, 0), zero_f)
unfolding add_up_answer judged first_not sum_from
add_up_none op o = rw o
