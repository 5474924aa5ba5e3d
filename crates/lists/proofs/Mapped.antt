-- A loop that writes f of each element of one list into another: its turns and its end. Assumes nothing.
use Prim.Native.Nat.{ℕ, ◌+◌, ◌≤◌, ◌<◌}
use mathlib.Core.Path.{◌≡◌, sym, ◌∙◌}
use mathlib.Core.List.{List, map}
use native.Mathlib.Omega.{arith}
use lib.ListN.{length, get_or, set}
use Rattle.lists.specs.Lists.{Filled}
use Rattle.lists.proofs.Placed.{placed_none, placed_more, filled_all}
use Rattle.lists.proofs.Tab.{tab_map}

-- b is a, but for the places below i, which hold f of s
pub record Mapped {A B : Type 0} (z : A) (w : B) (f : A → B) (s : List A) (a b : List B) (i : ℕ) : Type 0 where
  pub within : i ≤ length s
  pub filled : Filled w a b i (λ k. f (get_or s k z))

module _ {A B : Type 0} {z : A} {w : B} {f : A → B} {s : List A} where
  pub mapped_none : {a : List B} → Mapped z w f s a a 0
  mapped_none {a} = record { within = omega arith; filled = placed_none a 0 _ }

  module _ {a b : List B} {i : ℕ} (e : length s ≡ length a) (m : Mapped z w f s a b i) where
    -- there is room for the next place
    pub mapped_room : i < length s → i < length b
    mapped_room h = omega (arith, m.filled.long)

    pub mapped_more : {v : B} → i < length s → v ≡ f (get_or s i z) → Mapped z w f s a (set b i v) (i + 1)
    mapped_more {v} h g = record { within = omega arith; filled = placed_more a b 0 i _ v m.filled (omega arith) (omega arith) g }

    pub mapped_end : length s ≤ i → b ≡ map f s
    mapped_end h = filled_all a b (length s) i _ m.filled (sym e) h ∙ tab_map f z s
