-- Laws of rows that add up. Assumes nothing.
use Prim.Native.Nat.{ℕ, ◌+◌, ◌*◌, ◌≤◌, ◌<◌}
use mathlib.Core.Path.{◌≡◌, refl, sym, ap, ◌∙◌}
use native.Mathlib.Nat.{mul-le-mul_right, suc-mul}
use native.Mathlib.Numerals.{add-one}
use native.Mathlib.Omega.{arith}
use lib.Dec.{eqb}
use Rattle.lists.specs.Lists.{sum_to}
use Rattle.lists.proofs.Sum.{sum_same}
use Rattle.block.specs.Write.{row_ok}
use Rattle.block.specs.Read.{word_at, gain_in}

-- the sum of a row's gains says whether the row adds up
pub row_sum : (parts : ℕ) (f g : ℕ → ℕ) (B r sum : ℕ) → ((j : ℕ) → j < B → g j ≡ f (r * B + j)) → sum ≡ sum_to g B
    → row_ok parts f B r ≡ eqb sum parts
unfolding row_ok
row_sum parts f g B r sum h e = ap (λ (x : ℕ). eqb x parts) (sym (e ∙ sum_same g (λ j. f (r * B + j)) B h))

-- rows whose gains agree
pub row_same : (parts : ℕ) (f g : ℕ → ℕ) (B r q : ℕ) → ((j : ℕ) → j < B → g (q * B + j) ≡ f (r * B + j)) → row_ok parts f B r ≡ row_ok parts g B q
unfolding row_ok
row_same parts f g B r q h = row_sum parts f (λ j. g (q * B + j)) B r (sum_to (λ j. g (q * B + j)) B) h refl

-- a row of a list of n rows
pub row_in : (r n B L at : ℕ) → r < n → at ≡ r * B → L ≡ n * B → at + B ≤ L
row_in r n B L at h e l = omega (arith, mul-le-mul_right B h, suc-mul r B)

pub row_next : (r B at : ℕ) → at ≡ r * B → at + B ≡ (r + 1) * B
row_next r B at e = rw (add-one r, suc-mul r B, e)

-- a gain of a block's row, which starts at byte p
pub gain_row : (f : ℕ → ℕ) (x p j : ℕ) → p ≡ 8 + 2 * x → word_at f (p + 2 * j) ≡ gain_in f (x + j)
unfolding gain_in
gain_row f x p j e = let z : p + 2 * j ≡ 8 + 2 * (x + j) = omega arith in ap (word_at f) z
