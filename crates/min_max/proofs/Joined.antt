-- Answers of one side joined: grouping doesn't matter, the start changes nothing, and the fold over two lists is that over the first joined with
-- the second's extreme, NaNs or not. Assumes nothing.
use mathlib.Core.Path.{◌≡◌, refl, sym, ap, ◌∙◌}
use mathlib.Core.Bool.{Bool, true, false, not, cond}
use mathlib.Core.List.{List, [], ◌∷◌, ◌++◌}
use lib.Dec.{T}
use lib.Ieee.{Float, is_nan}
use Rattle.min_max.specs.MinMax.{Side, beyond, start_of, keep, extreme_from, extreme_of}
use Rattle.min_max.proofs.Fold.{extreme_append, extreme_keeps}
use Rattle.min_max.proofs.Sides.{beyond_through, beyond_outside, beyond_self, beyond_number, start_number, past_start, start_only}

module _ (side : Side) where
  -- only the one in the middle must be a number
  pub keep_grouped : (x y z : Float) → T (not (is_nan y)) → keep side (keep side x y) z ≡ keep side x (keep side y z)
  keep_grouped x y z n = go (beyond side y x) (beyond side z y) refl refl
    where
      go : (a b : Bool) → beyond side y x ≡ a → beyond side z y ≡ b → keep side (keep side x y) z ≡ keep side x (keep side y z)
      go true true e f = simp (e, f, beyond_through side x y z e f)
      go true false e f = simp (e, f)
      go false true e f = simp (e, f)
      go false false e f = simp (e, f, beyond_outside side x y z n e f)

  pub start_first : (x : Float) → T (not (is_nan x)) → keep side (start_of side) x ≡ x
  start_first x n = go (beyond side x (start_of side)) refl
    where
      go : (b : Bool) → beyond side x (start_of side) ≡ b → cond b x (start_of side) ≡ x
      go true e = refl
      go false e = sym (start_only side x n e)

  pub start_last : (x : Float) → keep side x (start_of side) ≡ x
  start_last x = rw (past_start side (start_of side) x (beyond_self side (start_of side)))

  -- a NaN never replaces the held value
  pub keep_number : (held x : Float) → T (not (is_nan held)) → T (not (is_nan (keep side held x)))
  keep_number held x n = go (beyond side x held) refl
    where
      go : (b : Bool) → beyond side x held ≡ b → T (not (is_nan (cond b x held)))
      go true e = beyond_number side x held e
      go false e = n

  pub extreme_number : (held : Float) (s : List Float) → T (not (is_nan held)) → T (not (is_nan (extreme_from side held s)))
  extreme_number held s n = extreme_keeps side (λ x. T (not (is_nan x))) (λ x. Unit {0}) (λ h x p q. keep_number h x p) held s (λ i h. tt) n

  pub extreme_one : (x : Float) → T (not (is_nan x)) → extreme_of side (x ∷ []) ≡ x
  unfolding extreme_from
  extreme_one x n = start_first x n

  -- an element as the answer of its own list
  by_start : (held x : Float) → keep side held x ≡ keep side held (keep side (start_of side) x)
  by_start held x = go (beyond side x (start_of side)) refl
    where
      go : (b : Bool) → beyond side x (start_of side) ≡ b → keep side held x ≡ keep side held (keep side (start_of side) x)
      go true e = rw e
      go false e = rw (e, past_start side x held e, start_last held)

  from_held : (held : Float) (s : List Float) → extreme_from side held s ≡ keep side held (extreme_of side s)
  unfolding extreme_from
  from_held held [] = sym (start_last held)
  from_held held (x ∷ s) =
      let first = keep side (start_of side) x in
      from_held (keep side held x) s
      ∙ ap (λ h. keep side h (extreme_of side s)) (by_start held x)
      ∙ keep_grouped held first (extreme_of side s) (keep_number (start_of side) x (start_number side))
      ∙ ap (keep side held) (sym (from_held first s))

  pub two_joined : (held : Float) (s t : List Float) → extreme_from side held (s ++ t) ≡ keep side (extreme_from side held s) (extreme_of side t)
  two_joined held s t = extreme_append side held s t ∙ from_held (extreme_from side held s) t
