-- sum.rs over one lane: the five sums as ordered folds, each step rounded once in the Rust's order, and what the call tells. Definitions only.
use Rattle.std.specs.Prelude.{ℕ, Bool, true, not, ltb, Float, length, Result}
use mathlib.Core.List.{List, [], ◌∷◌, foldl}
use Rattle.std.specs.Float.{binary32}
use Rattle.std.specs.Float.Ieee.{add, sub}
use Rattle.std.specs.Float.Ieee.Scale.{finite}
use Rattle.floats.specs.Floats.{mul_add, abs_of, first_not_finite}
use Rattle.answer.specs.Answer.{Answer, Test, judged, told_with, value_told}
use Rattle.answer.specs.Limits.{element_limit}
use Rattle.answer.specs.declared.Refusal.{Refusal}
use Rattle.answer.specs.declared.Refusal.TheVariants.{TooMany, NotFinite, Domain}
use Rattle.floats.specs.Values.{zero_f}
use Rattle.exp.specs.Exp.{exp_of}
use Rattle.sum.specs.declared.SumOp.{SumOp}
use Rattle.sum.specs.declared.SumOp.TheVariants.{Sum, SumSquare, SumAbs, SumSquareSub, SumExpSub}

-- one element more
abbrev pub step_of : SumOp → Float → Float → Float
step_of Sum sum x = add binary32 sum x
step_of SumSquare sum x = mul_add x x sum
step_of SumAbs sum x = add binary32 sum (abs_of x)
step_of (SumSquareSub offset) sum x = mul_add (sub binary32 x offset) (sub binary32 x offset) sum
step_of (SumExpSub offset) sum x = add binary32 sum (exp_of (sub binary32 x offset))

-- every element in order, from a held sum on
unfoldable pub sum_from : SumOp → Float → List Float → Float
sum_from op held s = foldl (step_of op) held s

abbrev pub offset_ok : SumOp → Bool
offset_ok Sum = true
offset_ok SumSquare = true
offset_ok SumAbs = true
offset_ok (SumSquareSub offset) = finite offset
offset_ok (SumExpSub offset) = finite offset

-- the refusals in order (RULES, Order); the domain is finite
abbrev pub tests : SumOp → List Float → List Test
tests op s =
    (ltb element_limit (length s), TooMany) ∷ (not (offset_ok op), NotFinite) ∷ (ltb (first_not_finite s) (length s), Domain (first_not_finite s)) ∷ []

unfoldable pub add_up_answer : SumOp → List Float → Answer
add_up_answer op s = judged (tests op s)

-- what an answer tells: its number and place, and the sum, +0 where it is refused
abbrev pub total_told : Result Float Refusal → (ℕ × ℕ) × Float
total_told r = value_told zero_f r

-- what the call tells: the fold from +0, and +0 where it is refused
abbrev pub add_up_told : SumOp → List Float → (ℕ × ℕ) × Float
add_up_told op s = told_with (add_up_answer op s) (sum_from op zero_f s) zero_f
