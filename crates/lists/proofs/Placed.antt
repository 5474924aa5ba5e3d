-- A list that is written in part: the turns of a loop that stores, and what is known at its end. Assumes nothing.
use Prim.Native.Nat.{ℕ, ◌+◌, ◌≤◌, ◌<◌}
use mathlib.Core.Path.{◌≡◌, refl, sym, ap, ◌∙◌}
use mathlib.Core.List.{List}
use mathlib.Core.Logic.{⊎_elim}
use native.Mathlib.Decide.{dec_lt}
use native.Mathlib.Nat.{eq-or-lt_of_le}
use native.Mathlib.Omega.{arith}
use lib.ListN.{length, get_or, set, length-set}
use lib.Seq.{get_or-set_same, get_or-set_other, ext_get_or}
use Rattle.lists.specs.Lists.{tab, Placed, Filled}
use Rattle.lists.proofs.Tab.{tab_is}

module _ {A : Type 0} {z : A} where
  pub placed_none : (a : List A) (from : ℕ) (g : ℕ → A) → Placed z a a from from g
  placed_none a from g = record { long = refl; low = λ i h. refl; run = λ i h k. absurd (omega arith); high = λ i h. refl }

  -- a store of the next place
  pub placed_more : (a b : List A) (from to : ℕ) (g : ℕ → A) (v : A) → Placed z a b from to g → from ≤ to → to < length a → v ≡ g to
      → Placed z a (set b to v) from (to + 1) g
  placed_more a b from to g v p h l e =
      record {
        long = length-set b to v ∙ p.long;
        low = λ i k. get_or-set_other b to i v z (λ q. omega arith) ∙ p.low i k;
        run = λ i k m. ⊎_elim
            (λ (q : i ≡ to). ap (λ n. get_or (set b to v) n z) q ∙ get_or-set_same b to v z (omega (arith, p.long)) ∙ e ∙ ap g (sym q))
            (λ (q : i < to). get_or-set_other b to i v z (λ n. omega arith) ∙ p.run i k q)
            (eq-or-lt_of_le (omega arith));
        high = λ i k. get_or-set_other b to i v z (λ q. omega arith) ∙ p.high i (omega arith);
      }

  -- a run, and the run after it
  pub placed_join : (a b d : List A) (from mid to : ℕ) (g : ℕ → A) → from ≤ mid → mid ≤ to → Placed z a b from mid g → Placed z b d mid to g
      → Placed z a d from to g
  placed_join a b d from mid to g h k p q =
      record {
        long = q.long ∙ p.long;
        low = λ i l. q.low i (omega arith) ∙ p.low i l;
        run = λ i l m. elim (dec_lt i mid) [
          | yes n ↦ q.low i n ∙ p.run i l n
          | no n ↦ q.run i (omega arith) m
        ];
        high = λ i l. q.high i l ∙ p.high i (omega arith);
      }

  -- the same run under another function
  pub placed_same : (a b : List A) (from to : ℕ) (g h : ℕ → A) → ((i : ℕ) → from ≤ i → i < to → g i ≡ h i) → Placed z a b from to g
      → Placed z a b from to h
  placed_same a b from to g h e p = record { long = p.long; low = p.low; run = λ i k l. p.run i k l ∙ e i k l; high = p.high }

  -- a list that is filled to its end
  pub filled_all : (a b : List A) (n i : ℕ) (g : ℕ → A) → Filled z a b i g → length a ≡ n → n ≤ i → b ≡ tab g n
  filled_all a b n i g p l h = tab_is b g n z (p.long ∙ l) (λ k m. p.run k (omega arith) (omega arith))

  -- what was written, and what was not, is all there is: two such lists are equal
  pub placed_one : (a b d : List A) (from to : ℕ) (g : ℕ → A) → Placed z a b from to g → Placed z a d from to g → b ≡ d
  placed_one a b d from to g p q =
      ext_get_or z b d (p.long ∙ sym q.long)
      (λ i l. elim (dec_lt i from) [
        | yes n ↦ p.low i n ∙ sym (q.low i n)
        | no n ↦ elim (dec_lt i to) [
          | yes m ↦ p.run i (omega arith) m ∙ sym (q.run i (omega arith) m)
          | no m ↦ p.high i (omega arith) ∙ sym (q.high i (omega arith))
        ]
      ])

-- ---- a list that is filled in place, by the length that the loop asks of it
module _ {A : Type 0} {z : A} (a b : List A) (i : ℕ) {g : ℕ → A} (p : Filled z a b i g) where
  -- a store of the next place
  pub filled_more : (v : A) → i < length b → v ≡ g i → Filled z a (set b i v) (i + 1) g
  filled_more v h e = placed_more a b 0 i g v p (omega arith) (omega (arith, p.long)) e

  -- the loop has come to the end
  pub filled_end : length b ≤ i → b ≡ tab g (length a)
  filled_end h = filled_all a b (length a) i g p refl (omega (arith, p.long))
