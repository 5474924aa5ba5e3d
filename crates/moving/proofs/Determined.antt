-- Every promise determines its call: two outcomes that it allows are equal, the answer and every lent byte. Assumes nothing.
use Prim.Native.Nat.{ℕ}
use mathlib.Core.Path.{◌≡◌, sym, ◌∙◌}
use mathlib.Core.List.{List}
use Rattle.answer.specs.Answer.{Answer}
use Rattle.answer.specs.Answer.{Outcome}
use Rattle.answer.proofs.Outcome.{one_outcome}
use Rattle.moving.specs.Moving.{move_told, move_out, length_in}

-- `to_form_1` with drop 0, `to_form_2` with drop 1: the answer, and the result
abbrev pub MoveOutcome : ℕ → List ℕ → List ℕ → Answer → List ℕ → Type 0
MoveOutcome drop bytes result = Outcome (move_told drop bytes result) (move_out drop bytes result)

pub one_move : (drop : ℕ) (bytes result : List ℕ) (a b : Answer) (l m : List ℕ)
    → MoveOutcome drop bytes result a l → MoveOutcome drop bytes result b m → (a ≡ b) × (l ≡ m)
one_move drop bytes result a b l m x y = one_outcome x y

-- `length_in`: the number of bytes
pub one_length : (form bands rows n m : ℕ) → n ≡ length_in form bands rows → m ≡ length_in form bands rows → n ≡ m
one_length form bands rows n m x y = x ∙ sym y
