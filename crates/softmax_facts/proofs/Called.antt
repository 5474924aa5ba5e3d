-- On the input of Facts.antt both calls are done and leave the weights, with flush or without. And whatever a call that is done leaves,
-- zeros for an all-masked input among it, lies between 0 and 1. Assumes nothing.
use mathlib.Core.Path.{◌≡◌, refl, sym, ap, ◌∙◌, subst}
use mathlib.Core.Logic.{◌⊎◌, inl, inr}
use mathlib.Core.List.{List}
use Prim.Native.Nat.{ℕ, ◌≤◌, ◌<◌}
use native.Mathlib.Omega.{arith}
use mathlib.Core.Bool.{Bool, true, false, not, ◌&&◌, cond, false≢true, true≢false}
use lib.Dec.{T, eqb, ltb}
use lib.ListN.{length, get_or}
use lib.Ieee.{Float, nan, inf, fin, binary32, le, fits, of_bits}
use lib.Ieee.Scale.{finite}
use borrow.Author.Tests.{eq-eqb, le-ltb, eqb-true, ltb-true, ltb-false}
use Rattle.answer.specs.Answer.{when_done, told_of}
use Rattle.answer.specs.Limits.{element_limit}
use Rattle.std.specs.Prelude.{Ok}
use Rattle.answer.proofs.Chain.{Gives, clear, skip, none_found, gives}
use Rattle.floats.specs.Values.{zero_f, one_f}
use Rattle.lists.specs.Lists.{first_not, tab}
use Rattle.lists.proofs.First.{first_clear, first_fails, first_le}
use Rattle.lists.proofs.Tab.{tab_length, tab_at}
use Rattle.softmax.specs.Softmax.{is_masked, first_outside, all_masked, weights_of, result_of, tests, in_place_answer, in_place_told, in_place_out, softmax_answer, softmax_told, softmax_out}
use Rattle.softmax.proofs.Domain.{in_domain_law}
use Rattle.softmax.proofs.Maximum.{InDomain}
use Rattle.floats.specs.Each.{Each, Some}
use Rattle.floats.specs.Between.{Between}
use Rattle.softmax_facts.specs.SoftmaxFacts.{Input}
use Rattle.softmax_facts.proofs.Facts.{weights_length, softmax_facts}

pub record Called (flush : Bool) (s d : List Float) : Type 0 where
  pub told : softmax_told flush s d ≡ (0, 0)
  pub left : softmax_out flush s d ≡ weights_of s
  pub in_place_told_law : in_place_told flush s ≡ (0, 0)
  pub in_place_left : in_place_out flush s ≡ weights_of s

finite_unmasked : (x : Float) → T (finite x) → is_masked x ≡ true → ⊥
finite_unmasked nan f e = f
finite_unmasked (inf s) f e = f
finite_unmasked (fin s m e) f h = false≢true h

and_false : (b : Bool) → (b && false) ≡ false
and_false true = refl
and_false false = refl

-- ---- a finite element
module _ (s : List Float) (I : Input s) where
  abbrev first_unmasked : ℕ
  first_unmasked = first_not (λ i. is_masked (get_or s i nan)) (length s)

  not_all_masked : all_masked s ≡ false
  unfolding all_masked
  not_all_masked = go (eqb first_unmasked (length s)) (eqb-true first_unmasked (length s))
    where
      go : (b : Bool) → (b ≡ true → first_unmasked ≡ length s) → (ltb 0 (length s) && b) ≡ false
      go true h =
          let e = h refl in
          let k = I.unmasked in
          absurd (finite_unmasked (get_or s k.0 nan) k.2 (first_clear (λ i. is_masked (get_or s i nan)) (length s) (omega arith) k.0 k.1))
      go false h = and_false (ltb 0 (length s))

  pub result_weights : result_of s ≡ weights_of s
  unfolding result_of
  result_weights = rw not_all_masked

  passes : (flush : Bool) → Gives (tests flush s) (Ok tt)
  unfolding first_outside
  passes flush =
      let some : (not flush && all_masked s) ≡ false = rw not_all_masked (and_false (not flush)) in
      skip (le-ltb _ _ I.few) (none_found I.domain (skip some clear))

  pub called : (flush : Bool) (d : List Float) → length s ≡ length d → Called flush s d
  unfolding in_place_answer softmax_answer
  called flush d l =
      let a = gives (passes flush) in
      let b = gives (skip (ap not (eq-eqb (length s) (length d) l)) (passes flush)) in
      record {
        told = sym (ap told_of b);
        left = sym (ap (λ a. when_done a (result_of s) d) b) ∙ result_weights;
        in_place_told_law = sym (ap told_of a);
        in_place_left = sym (ap (λ a. when_done a (result_of s) s) a) ∙ result_weights;
      }

-- ---- any input in the domain
zero_between : Between zero_f one_f zero_f
unfolding le of_bits
zero_between = (tt, tt)

module _ (s : List Float) (few : length s ≤ element_limit) (d : Each InDomain s) (f : Each (λ x. T (fits binary32 x)) s) where
  -- not all masked: one element is finite, or there is none
  pub some_or_none : all_masked s ≡ false → Some (λ x. T (finite x)) s ⊎ (length s ≡ 0)
  unfolding all_masked
  some_or_none e = go (ltb k n) refl
    where
      n : ℕ
      n = length s

      k : ℕ
      k = first_not (λ i. is_masked (get_or s i nan)) n

      at : k < n → Some (λ x. T (finite x)) s
      at h = elim (in_domain_law (get_or s k nan) (d k h)) [
        | inl p ↦ (k, h, p)
        | inr p ↦ absurd (true≢false (sym (ap is_masked p) ∙ first_fails (λ i. is_masked (get_or s i nan)) n h))
      ]

      go : (b : Bool) → ltb k n ≡ b → Some (λ x. T (finite x)) s ⊎ (length s ≡ 0)
      go true h = inl (at (ltb-true k n h))
      go false h = inr (none (ltb 0 n) refl)
        where
          same : k ≡ n
          same = omega (arith, ltb-false k n h, first_le (λ i. is_masked (get_or s i nan)) n)

          none : (b : Bool) → ltb 0 n ≡ b → length s ≡ 0
          none true z = absurd (true≢false (rw (z, eq-eqb k n same) at e))
          none false z = omega (arith, ltb-false 0 n z)

  pub result_between : Each (Between zero_f one_f) (result_of s)
  unfolding result_of
  result_between = go (all_masked s) refl
    where
      none : (i : ℕ) {n m : ℕ} → n ≡ m → m ≡ 0 → i < n → ⊥
      none i e z h = omega arith

      go : (b : Bool) → all_masked s ≡ b → Each (Between zero_f one_f) (cond b (tab (λ i. zero_f) (length s)) (weights_of s))
      go true e i h =
          let l = subst (λ n. i < n) (tab_length (λ i. zero_f) (length s)) h in
          subst (Between zero_f one_f) (sym (tab_at (λ i. zero_f) (length s) i nan l)) zero_between
      go false e i h = elim (some_or_none e) [
        | inl k ↦ (softmax_facts s (record { few = few; domain = d; f32s = f; unmasked = k })).outputs_between i h
        | inr z ↦ absurd (none i (weights_length s) z h)
      ]
