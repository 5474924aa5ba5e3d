-- What the two fills write is the definition's result, and an answer that is done says that every element is in the domain. Assumes nothing.
use Prim.Native.Nat.{ℕ}
use mathlib.Core.Path.{◌≡◌, sym, ◌∙◌, ap}
use mathlib.Core.Bool.{Bool, true, false}
use mathlib.Core.List.{List, map}
use lib.Dec.{ltb}
use lib.ListN.{length, replicate, get_or-replicate}
use lib.Ieee.{Float}
use borrow.Author.Tests.{ltb-false}
use Rattle.std.specs.Prelude.{Ok}
use Rattle.std.proofs.lemmas.List.{length-replicate}
use Rattle.answer.specs.declared.Refusal.TheVariants.{TooMany, Domain}
use Rattle.answer.specs.Limits.{element_limit}
use Rattle.answer.proofs.Chain.{opened}
use Rattle.floats.specs.Values.{zero_f}
use Rattle.lists.proofs.First.{first_clear}
use Rattle.lists.proofs.Tab.{tab_is}
use Rattle.softmax.specs.Softmax.{max_of, exp_less, exps_of, sum_of, scaled_by, weights_of, all_masked, first_outside, result_of, in_place_answer}
use Rattle.floats.specs.Each.{Each}
use Rattle.softmax.proofs.Maximum.{InDomain}

module _ (s : List Float) where
  -- all masked: zeros
  pub result_clear : (l : List Float) (n : ℕ) → all_masked s ≡ true → length s ≡ n → l ≡ replicate n zero_f → l ≡ result_of s
  unfolding result_of
  result_clear l n a h e =
      rw (a, h) (e ∙ tab_is (replicate n zero_f) (λ i. zero_f) n zero_f (length-replicate n zero_f) (λ i k. get_or-replicate n i zero_f zero_f k))

  -- the passes
  pub result_passes : (m : Float) (e l : List Float) → all_masked s ≡ false
      → m ≡ max_of s → e ≡ map (exp_less m) s → l ≡ scaled_by (sum_of e) e → l ≡ result_of s
  unfolding result_of weights_of exps_of
  result_passes m e l a M E L =
      let x : e ≡ map (exp_less (max_of s)) s = E ∙ ap (λ m. map (exp_less m) s) M in
      rw (a, sym x) L

  -- past the test of the domain
  pub done_domain : (flush : Bool) → (Ok tt) ≡ in_place_answer flush s → Each InDomain s
  unfolding in_place_answer first_outside
  done_domain flush e =
      let few = opened (ltb element_limit (length s)) TooMany _ e in
      let none = opened (ltb (first_outside s) (length s)) (Domain (first_outside s)) _ few.1 in
      first_clear _ (length s) (ltb-false _ _ none.0)
