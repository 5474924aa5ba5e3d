-- No sum on its domain holds a NaN: what each step keeps. Assumes nothing.
--
--   sum-no-nan : (op : SumOp) (s : List Float) → SumNumber op s
use mathlib.Core.Path.{sym, subst}
use mathlib.Core.List.{List}
use mathlib.Core.Logic.{inl, inr}
use lib.Dec.{T}
use lib.Ieee.{Float, binary32, of_bits, sub, le, is_nan}
use lib.Ieee.Scale.{finite}
use borrow.Author.Tests.{ltb-false, not-false}
use Rattle.lists.proofs.First.{first_clear}
use Rattle.floats.specs.Floats.{abs_of}
use Rattle.floats.proofs.Sign.{finite_number}
use Rattle.floats.proofs.Order.{le_numbers}
use Rattle.floats.proofs.NoNan.{add_number, sub_number}
use Rattle.answer.proofs.Chain.{opened}
use Rattle.floats.specs.Values.{zero_f}
use Rattle.exp.specs.Exp.{exp_of}
use Rattle.exp_facts.proofs.Facts.{exp_above}
use Rattle.floats.proofs.NotNegative.{add_le, square_add_le, abs_le}
use Rattle.sum.proofs.Fold.{sum_keeps}
use Rattle.sum.specs.Sum.{step_of, sum_from, offset_ok, add_up_answer}
use Rattle.sum.specs.declared.SumOp.{SumOp}
use Rattle.sum.specs.declared.SumOp.TheVariants.{Sum, SumSquare, SumAbs, SumSquareSub, SumExpSub}
use Rattle.no_nan.specs.NoNan.{Number}
use Rattle.no_nan.specs.Kernels.{SumNumber}

-- what the held sum stays: a number, and but for `Sum` one that is not below zero
abbrev Kept : SumOp → Float → Type 0
Kept Sum b = Number b
Kept SumSquare b = T (le zero_f b)
Kept SumAbs b = T (le zero_f b)
Kept (SumSquareSub offset) b = T (le zero_f b)
Kept (SumExpSub offset) b = T (le zero_f b)

kept_number : (op : SumOp) (b : Float) → Kept op b → Number b
kept_number Sum b k = k
kept_number SumSquare b k = (le_numbers zero_f b k).1
kept_number SumAbs b k = (le_numbers zero_f b k).1
kept_number (SumSquareSub offset) b k = (le_numbers zero_f b k).1
kept_number (SumExpSub offset) b k = (le_numbers zero_f b k).1

-- the difference of two finite values
apart : (x offset : Float) → T (finite x) → T (finite offset) → Number (sub binary32 x offset)
apart x offset f o = sub_number binary32 x offset (finite_number x f) (finite_number offset o) (inl f)

step_keeps : (op : SumOp) → T (offset_ok op) → (b x : Float) → Kept op b → T (finite x) → Kept op (step_of op b x)
step_keeps Sum o b x k f = add_number binary32 b x k (finite_number x f) (inr f)
step_keeps SumSquare o b x k f = square_add_le b x k (finite_number x f)
step_keeps SumAbs o b x k f = add_le binary32 b (abs_of x) k (abs_le x (finite_number x f))
step_keeps (SumSquareSub offset) o b x k f = square_add_le b (sub binary32 x offset) k (apart x offset f o)
step_keeps (SumExpSub offset) o b x k f =
    let d = sub binary32 x offset in
    add_le binary32 b (exp_of d) k (exp_above d (apart x offset f o))

start_kept : (op : SumOp) → Kept op zero_f
unfolding of_bits is_nan le
start_kept Sum = tt
start_kept SumSquare = tt
start_kept SumAbs = tt
start_kept (SumSquareSub offset) = tt
start_kept (SumExpSub offset) = tt

pub sum_no_nan : (op : SumOp) (s : List Float) → SumNumber op s
unfolding add_up_answer
sum_no_nan op s d =
    let a = opened _ _ _ d in
    let b = opened _ _ _ a.1 in
    let c = opened _ _ _ b.1 in
    kept_number op (sum_from op zero_f s)
    (sum_keeps op (Kept op) (step_keeps op (subst T (sym (not-false (offset_ok op) b.0)) tt)) s (first_clear _ _ (ltb-false _ _ c.0))
    zero_f (start_kept op))
