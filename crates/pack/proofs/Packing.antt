-- The word that a C call returns tells number and place: below 256 the one, above it the other. Assumes nothing.
use Prim.Native.Nat.{ℕ, ◌/◌, ◌%◌, ◌^◌, ◌≤◌, ◌<◌}
use mathlib.Core.Path.{◌≡◌, ap}
use native.Mathlib.Omega.{arith}
use borrow.Author.Tests.{ne_eqb}
use Rattle.answer.specs.Answer.{class_of, place_of, told_of}
use Rattle.answer.specs.Limits.{element_limit}
use Rattle.answer.specs.Answer.{Answer}
use Rattle.answer.specs.declared.Refusal.{Refusal}
use Rattle.answer.proofs.Numbers.{listed}
use Rattle.pack.specs.Pack.{packed, when_zero}

pub number_back : (number place : ℕ) → number < 256 → packed (number, place) % 256 ≡ number
number_back number place h = omega arith

pub place_back : (number place : ℕ) → number < 256 → packed (number, place) / 256 ≡ place
place_back number place h = omega arith

-- an answer that tells a place within the limit fits the word
pub fits_word : (a : Answer) (told : ℕ × ℕ) → told_of a ≡ told → told.1 ≤ element_limit → place_of a < 2 ^ 56
fits_word a told e h = omega (arith, ap (λ t. t.1) e)

-- a number is left as it was where the call is refused
pub old_left : (why : Refusal) (new old : ℕ) → old ≡ when_zero (class_of why) new old
old_left why new old = rw (ne_eqb (class_of why) 0 (λ e. omega (arith, (listed why).0)))
