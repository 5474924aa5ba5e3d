-- Two tests and both of them; many closed tests at once: each of a list, read by its place, and each below a number. Assumes nothing.
use Prim.Native.Nat.{ℕ, zero, suc, ◌<◌}
use mathlib.Core.Path.{◌≡◌, refl, sym, ◌∙◌, subst}
use mathlib.Core.Logic.{inl, inr}
use mathlib.Core.Bool.{Bool, true, false, not, ◌&&◌, ◌||◌, false≢true}
use mathlib.Core.List.{List, [], ◌∷◌}
use native.Mathlib.Nat.{not-suc-le-zero, eq-or-lt_of_le, le_of_suc-le-suc}
use lib.Dec.{T}
use borrow.Author.Tests.{not-true, not-false}
use lib.Ieee.Fits.{and_l, and_r}
use lib.ListN.{get_or}

pub both : (a b : Bool) → (a && b) ≡ true → (a ≡ true) × (b ≡ true)
both true b h = (refl, h)
both false b h = absurd (false≢true h)

-- a && (b && c), as three tests in a row find it; r, q and p are what the code has of a, b and c
pub second_no : {r a q b : Bool} (c : Bool) → r ≡ a → not r ≡ false → q ≡ b → not q ≡ true → false ≡ (a && (b && c))
second_no {r} {q} c e h f k = rw (sym e ∙ not-false r h, sym f ∙ not-true q k)

pub third_is : {r a q b p c : Bool} → r ≡ a → not r ≡ false → q ≡ b → not q ≡ false → p ≡ c → p ≡ (a && (b && c))
third_is {r} {q} e h f k g = g ∙ rw (sym e ∙ not-false r h, sym f ∙ not-false q k)

-- every test of a list holds
abbrev pub all_of : List Bool → Bool
all_of [] = true
all_of (c ∷ cs) = c && all_of cs

pub holds : (cs : List Bool) → T (all_of cs) → (k : ℕ) → T (get_or cs k true)
holds [] t k = tt
holds (c ∷ cs) t zero = and_l c (all_of cs) t
holds (c ∷ cs) t (suc k) = holds cs (and_r c (all_of cs) t) k

-- b is tested only where a holds
pub where_holds : (a b : Bool) → T (not a || b) → T a → T b
where_holds true b h t = h
where_holds false b h t = absurd t

-- a test holds at every number below n
abbrev pub all_below : (ℕ → Bool) → ℕ → Bool
all_below t zero = true
all_below t (suc n) = t n && all_below t n

pub below_at : (t : ℕ → Bool) (n i : ℕ) → T (all_below t n) → i < n → T (t i)
below_at t zero i h k = absurd (not-suc-le-zero k)
below_at t (suc n) i h k = elim (eq-or-lt_of_le (le_of_suc-le-suc k)) [
  | inl e ↦ subst (λ (j : ℕ). T (t j)) (sym e) (and_l (t n) (all_below t n) h)
  | inr l ↦ below_at t n i (and_r (t n) (all_below t n) h) l
]
