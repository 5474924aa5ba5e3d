-- A test as a number: `lt1 a b` is 1 where a < b, else 0. Assumes nothing.
use Prim.Native.Nat.{ℕ, ◌+◌, ◌≤◌, ◌<◌}
use mathlib.Core.Path.{◌≡◌, refl, sym, ap, ◌∙◌}
use mathlib.Core.Bool.{Bool, true, false}
use native.Mathlib.Omega.{arith}
use borrow.Author.Tests.{ltb-true, ltb-false}
use lib.Dec.{ltb}
use mir.Val.{bool_byte}
use Rattle.lists.specs.Lists.{bit}
use Rattle.lists.proofs.Sum.{bit_small}
use Rattle.parts.specs.Parts.{lt1}

-- as the code makes the number
pub as_bit : (t : Bool) → bool_byte t ≡ bit t
as_bit true = refl
as_bit false = refl

pub byte_small : (t : Bool) → bool_byte t ≤ 1
byte_small true = omega arith
byte_small false = omega arith

-- by cases on the test
pub by_lt {ℓ} : {P : Type ℓ} (a b : ℕ) → (a < b → lt1 a b ≡ 1 → P) → (b ≤ a → lt1 a b ≡ 0 → P) → P
unfolding lt1
by_lt {P} a b y n = go (ltb a b) refl
  where
    go : (t : Bool) → ltb a b ≡ t → P
    go true e = y (ltb-true a b e) (ap bit e)
    go false e = n (ltb-false a b e) (ap bit e)

pub lt1_yes : {a b : ℕ} → a < b → lt1 a b ≡ 1
lt1_yes {a} {b} h = by_lt a b (λ p e. e) (λ p e. omega arith)

pub lt1_no : {a b : ℕ} → b ≤ a → lt1 a b ≡ 0
lt1_no {a} {b} h = by_lt a b (λ p e. omega arith) (λ p e. e)

pub lt1_small : (a b : ℕ) → lt1 a b ≤ 1
unfolding lt1
lt1_small a b = bit_small (ltb a b)

pub lt1_mono : (a b a' b' : ℕ) → b + a' ≤ b' + a → lt1 a b ≤ lt1 a' b'
lt1_mono a b a' b' h = by_lt a b (λ p e. omega (arith, lt1_yes {a = a'} {b = b'} (omega arith))) (λ p e. omega arith)

pub lt1_same : (a b a' b' : ℕ) → (a < b → a' < b') → (b ≤ a → b' ≤ a') → lt1 a b ≡ lt1 a' b'
lt1_same a b a' b' y n = by_lt a b (λ p e. e ∙ sym (lt1_yes (y p))) (λ p e. e ∙ sym (lt1_no (n p)))
