-- Laws of a property that every element of a list has. Assumes nothing.
use Rattle.std.proofs.Common.{◌≡◌, zero, suc, ◌+◌, ◌-◌, List, ◌∷◌, ◌++◌, length, get_or, sym, ap, ◌∙◌, subst, inl, inr, suc-le-suc, le_of_suc-le-suc, zero-lt-suc, arith, length-append, get_or-append-add}
use lib.ListN.{get_or-append}
use lib.Ieee.{Float, nan}
use Rattle.floats.specs.Each.{Each}
use Rattle.floats.proofs.Numbers.{less_or}

module _ (P : Float → Type 0) (x : Float) (s : List Float) where
  pub each_first : Each P (x ∷ s) → P x
  each_first e = e 0 (zero-lt-suc (length s))

  pub each_rest : Each P (x ∷ s) → Each P s
  each_rest e i h = e (suc i) (suc-le-suc h)

  pub each_cons : P x → Each P s → Each P (x ∷ s)
  each_cons p e zero h = p
  each_cons p e (suc i) h = e i (le_of_suc-le-suc h)

-- of two lists joined, and of each of them
module _ (P : Float → Type 0) (s t : List Float) where
  pub each_append : Each P s → Each P t → Each P (s ++ t)
  each_append p q i h = elim (less_or i (length s)) [
    | inl l ↦ subst P (sym (get_or-append s t nan i l)) (p i l)
    | inr l ↦
        let j = i - length s in
        let e : length s + j ≡ i = omega arith in
        subst P (sym (get_or-append-add s t j nan) ∙ ap (λ k. get_or (s ++ t) k nan) e) (q j (omega (arith, length-append s t)))
  ]

  pub each_left : Each P (s ++ t) → Each P s
  each_left p i h = subst P (get_or-append s t nan i h) (p i (omega (arith, length-append s t)))

  pub each_right : Each P (s ++ t) → Each P t
  each_right p i h = subst P (get_or-append-add s t i nan) (p (length s + i) (omega (arith, length-append s t)))
