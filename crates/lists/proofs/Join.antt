-- Laws of lists joined by their index. Assumes nothing.
use Prim.Native.Nat.{ℕ, zero, suc, ◌+◌, ◌<◌}
use mathlib.Core.Path.{◌≡◌, refl, sym}
use mathlib.Core.List.{List, ◌++◌, append_assoc, append-nil}
use native.Mathlib.Nat.{add-zero, add-suc}
use native.Mathlib.Omega.{arith}
use Rattle.lists.specs.Lists.{join_to}

module _ {A : Type 0} where
  pub join_same : (f g : ℕ → List A) (n : ℕ) → ((i : ℕ) → i < n → f i ≡ g i) → join_to f n ≡ join_to g n
  unfolding join_to
  join_same f g zero h = refl
  join_same f g (suc n) h = rw (join_same f g n (λ i l. h i (omega arith)), h n (omega arith)) refl

  -- the first a, and b more
  pub join_add : (f : ℕ → List A) (a b : ℕ) → join_to f (a + b) ≡ join_to f a ++ join_to (λ i. f (a + i)) b
  unfolding join_to
  join_add f a zero = rw (add-zero a) (sym (append-nil (join_to f a)))
  join_add f a (suc b) = rw (add-suc a b, join_add f a b) (append_assoc (join_to f a) (join_to (λ i. f (a + i)) b) (f (a + b)))
