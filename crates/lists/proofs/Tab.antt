-- Laws of lists from a function of the index, and of equal elements. Assumes nothing.
use Prim.Native.Nat.{ℕ, zero, suc, ◌<◌}
use mathlib.Core.Path.{◌≡◌, refl, sym, ap, ◌∙◌}
use mathlib.Core.List.{List, [], ◌∷◌, map}
use native.Mathlib.Nat.{le_of_suc-le-suc, not-suc-le-zero}
use native.Mathlib.Omega.{arith}
use lib.ListN.{length, get_or, replicate}
use lib.Seq.{ext_get_or}
use Rattle.lists.specs.Lists.{tab}

module _ {A : Type 0} where
  pub tab_length : (f : ℕ → A) (n : ℕ) → length (tab f n) ≡ n
  unfolding tab
  tab_length f zero = refl
  tab_length f (suc n) = ap suc (tab_length (λ i. f (suc i)) n)

  pub tab_at : (f : ℕ → A) (n i : ℕ) (z : A) → i < n → get_or (tab f n) i z ≡ f i
  unfolding tab
  tab_at f zero i z h = absurd (not-suc-le-zero h)
  tab_at f (suc n) zero z h = refl
  tab_at f (suc n) (suc i) z h = tab_at (λ k. f (suc k)) n i z (le_of_suc-le-suc h)

  -- a list by its elements
  pub tab_is : (s : List A) (f : ℕ → A) (n : ℕ) (z : A) → length s ≡ n → ((i : ℕ) → i < n → get_or s i z ≡ f i) → s ≡ tab f n
  tab_is s f n z e h =
      ext_get_or z s (tab f n) (e ∙ sym (tab_length f n))
      (λ i l. let k : i < n = omega arith in h i k ∙ sym (tab_at f n i z k))

  pub tab_same : (f g : ℕ → A) (n : ℕ) → ((i : ℕ) → i < n → f i ≡ g i) → tab f n ≡ tab g n
  unfolding tab
  tab_same f g zero h = refl
  tab_same f g (suc n) h =
      ap (λ x. x ∷ tab (λ i. f (suc i)) n) (h 0 (omega arith))
      ∙ ap (λ l. g 0 ∷ l) (tab_same (λ i. f (suc i)) (λ i. g (suc i)) n (λ i l. h (suc i) (omega arith)))

-- element by element is place by place
pub tab_map : {A B : Type 0} (f : A → B) (z : A) (s : List A) → tab (λ i. f (get_or s i z)) (length s) ≡ map f s
unfolding tab
tab_map f z [] = refl
tab_map f z (x ∷ s) = ap (λ l. f x ∷ l) (tab_map f z s)

pub map_replicate : {A B : Type 0} (f : A → B) (n : ℕ) (x : A) → map f (replicate n x) ≡ replicate n (f x)
map_replicate f zero x = refl
map_replicate f (suc n) x = ap (λ l. f x ∷ l) (map_replicate f n x)
