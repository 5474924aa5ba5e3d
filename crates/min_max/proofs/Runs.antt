-- Four runs of equal length beside each other, by one side alone: where each run's fold is at its end, the four joined in order are the fold over
-- all. (The code's pass has the same of every state that it holds: `four_joined` of proofs/HeldLaws.antt.) Assumes nothing.
use Prim.Native.Nat.{ℕ, ◌≤◌}
use mathlib.Core.Path.{◌≡◌, sym, ap, ap₂, ◌∙◌}
use mathlib.Core.List.{List, ◌++◌}
use native.Mathlib.Omega.{arith}
use lib.Ieee.{Float}
use lib.ListN.{length, drop, drop_of_length-le}
use Rattle.min_max.specs.MinMax.{Side, keep, extreme_from, extreme_of}
use Rattle.min_max.proofs.Fold.{extreme_none}
use Rattle.min_max.proofs.Joined.{two_joined}

abbrev pub Alike : List Float → List Float → List Float → List Float → Type 0
Alike a b c d = (length a ≡ length b) × ((length a ≡ length c) × (length a ≡ length d))

-- p to s are held at place i: what is left of each run's fold from there is its whole fold
pub record Chains (side : Side) (held : Float) (a b c d : List Float) (p q r s : Float) (i : ℕ) : Type 0 where
  pub one : extreme_from side p (drop i a) ≡ extreme_from side held a
  pub two : extreme_from side q (drop i b) ≡ extreme_of side b
  pub three : extreme_from side r (drop i c) ≡ extreme_of side c
  pub four : extreme_from side s (drop i d) ≡ extreme_of side d

module _ {side : Side} {held : Float} {a b c d : List Float} {p q r s : Float} {i : ℕ} (alike : Alike a b c d) (m : Chains side held a b c d p q r s i) where
  -- the runs joined in order
  pub chains_end : {x y z : Float} → length a ≤ i → x ≡ keep side p q → y ≡ keep side x r → z ≡ keep side y s
      → z ≡ extreme_from side held (a ++ b ++ c ++ d)
  chains_end h e f g =
      let ab = join a b (end a i p h ∙ m.one) (end b i q (omega arith) ∙ m.two) e in
      let abc = join (a ++ b) c ab (end c i r (omega arith) ∙ m.three) f in
      join (a ++ b ++ c) d abc (end d i s (omega arith) ∙ m.four) g
    where
      end : (u : List Float) (j : ℕ) (x : Float) → length u ≤ j → x ≡ extreme_from side x (drop j u)
      end u j x k = sym (ap (extreme_from side x) (drop_of_length-le u k) ∙ extreme_none side x)

      join : {x y z : Float} (u v : List Float) → x ≡ extreme_from side held u → y ≡ extreme_of side v → z ≡ keep side x y
          → z ≡ extreme_from side held (u ++ v)
      join u v e f g = g ∙ ap₂ (keep side) e f ∙ sym (two_joined side held u v)
