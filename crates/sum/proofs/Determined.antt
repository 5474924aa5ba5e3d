-- What the promise of `add_up` determines: two outcomes that it allows are equal. Assumes nothing.
use mathlib.Core.Path.{◌≡◌, sym, ◌∙◌}
use mathlib.Core.List.{List}
use lib.Ieee.{Float}
use Rattle.std.specs.Prelude.{Result}
use Rattle.answer.specs.declared.Refusal.{Refusal}
use Rattle.answer.proofs.Told.{value_one}
use Rattle.floats.specs.Values.{zero_f}
use Rattle.sum.specs.Sum.{total_told, add_up_told}
use Rattle.sum.specs.declared.SumOp.{SumOp}

-- what is told determines the whole answer
pub total_one : (r q : Result Float Refusal) → total_told r ≡ total_told q → r ≡ q
total_one r q e = value_one zero_f r q e

pub add_up_determined : (op : SumOp) (s : List Float) (r q : Result Float Refusal) → total_told r ≡ add_up_told op s → total_told q ≡ add_up_told op s → r ≡ q
add_up_determined op s r q x y = total_one r q (x ∙ sym y)
