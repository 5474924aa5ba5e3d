-- `quantize`'s promise determines its outcome: two that it allows are equal. Assumes nothing.
use Prim.Native.Nat.{ℕ}
use mathlib.Core.Path.{◌≡◌}
use mathlib.Core.List.{List}
use lib.Ieee.{Float}
use Rattle.answer.specs.Answer.{Answer}
use Rattle.answer.specs.Answer.{Outcome}
use Rattle.answer.proofs.Outcome.{one_outcome}
use Rattle.quantize.specs.Quantize.{quantize_told, quantize_out}

-- a is the answer and l what d holds afterwards; b and m likewise
pub quantize_determined : (inv : Float) (zp : ℕ) (s : List Float) (d : List ℕ) (a b : Answer) (l m : List ℕ)
    → Outcome (quantize_told inv s d) (quantize_out inv zp s d) a l
    → Outcome (quantize_told inv s d) (quantize_out inv zp s d) b m
    → (a ≡ b) × (l ≡ m)
quantize_determined inv zp s d a b l m x y = one_outcome x y
