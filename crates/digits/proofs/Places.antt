-- A number's decimal text has the fewest digits that hold it, and so no more than a bound allows. Assumes nothing.
use Prim.Native.Nat.{ℕ, zero, suc, ◌+◌, ◌/◌, ◌%◌, ◌^◌, ◌≤◌, ◌<◌}
use mathlib.Core.Path.{◌≡◌, refl, ap, ◌∙◌}
use mathlib.Core.List.{List, [], ◌∷◌}
use native.Mathlib.Nat.{le_trans, pow-zero, pow-suc, pow-le-pow_right, zero-lt-suc}
use native.Mathlib.Numerals.{sub-one, add-one}
use native.Mathlib.Decide.{dec_lt}
use native.Mathlib.Omega.{arith}
use lib.ListN.{length, length-append}
use lib.Dec.{leb}
use borrow.Author.Tests.{leb-true, le-leb, lt-leb}
use Rattle.io.specs.Digits.{hex_digit_ascii, last_digits, IsDigitCount}
use Rattle.lists.specs.Lists.{first_not}
use Rattle.lists.proofs.First.{first_at, first_passed}
use Rattle.digits.specs.Digits.{places_of, decimal_of}

below_power : (i : ℕ) → i < 10 ^ i
below_power zero = omega (arith, pow-zero 10)
below_power (suc i) = omega (arith, pow-suc 10 i, below_power i)

-- the fewest digits are as many as `places_of` says
pub fewest_is : (n k : ℕ) → IsDigitCount 10 1 n k → k ≡ places_of n
unfolding places_of
fewest_is n zero f = absurd (omega arith)
fewest_is n (suc zero) f =
    ap suc (first_at (λ k. leb (10 ^ suc k) n) (suc n) 0 (omega arith) (λ k h. absurd (omega arith)) (lt-leb _ _ f.1))
fewest_is n (suc (suc i)) f =
    let low : 10 ^ suc i ≤ n = rw sub-one at (f.2 (omega arith)) in
    ap suc (first_at (λ k. leb (10 ^ suc k) n) (suc n) (suc i) (omega (arith, below_power (suc i)))
    (λ k h. le-leb _ _ (le_trans (pow-le-pow_right (zero-lt-suc 9) h) low)) (lt-leb _ _ f.1))

pub decimal_is : (n k : ℕ) (s : List ℕ) → IsDigitCount 10 1 n k → s ≡ last_digits 10 k n → s ≡ decimal_of n
unfolding decimal_of
decimal_is n k s f e = e ∙ ap (λ (j : ℕ). last_digits 10 j n) (fewest_is n k f)

digits_length : (k n : ℕ) → length (last_digits 10 k n) ≡ k
digits_length zero n = refl
digits_length (suc k) n = length-append (last_digits 10 k (n / 10)) (hex_digit_ascii (n % 10) ∷ []) ∙ ap (λ (j : ℕ). j + 1) (digits_length k (n / 10)) ∙ add-one k

-- a number below 10 ^ k has at most k digits
pub decimal_short : (n k : ℕ) → 1 ≤ k → n < 10 ^ k → length (decimal_of n) ≤ k
unfolding decimal_of places_of
decimal_short n zero h l = absurd (omega arith)
decimal_short n (suc k) h l = elim (dec_lt k (first_not (λ k. leb (10 ^ suc k) n) (suc n))) [
  | yes m ↦ absurd (omega (arith, leb-true (10 ^ suc k) n (first_passed (λ k. leb (10 ^ suc k) n) (suc n) k m)))
  | no m ↦ omega (arith, digits_length (suc (first_not (λ k. leb (10 ^ suc k) n) (suc n))) n)
]
