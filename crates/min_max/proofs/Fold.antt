-- Laws of the extremes' fold, once over the side: over joined lists, and what it keeps. Assumes nothing.
use mathlib.Core.Path.{◌≡◌, refl}
use mathlib.Core.List.{List, [], ◌++◌, foldl-append}
use lib.Ieee.{Float, nan}
use Rattle.lists.proofs.Fold.{fold_keeps}
use Rattle.floats.specs.Each.{Each}
use Rattle.min_max.specs.MinMax.{Side, keep, extreme_from}

module _ (side : Side) where
  pub extreme_append : (held : Float) (s t : List Float) → extreme_from side held (s ++ t) ≡ extreme_from side (extreme_from side held s) t
  unfolding extreme_from
  extreme_append held s t = foldl-append (keep side) held s t

  -- what each step keeps, the fold keeps
  pub extreme_keeps : (P Q : Float → Type 0) → ((held x : Float) → P held → Q x → P (keep side held x)) → (held : Float) (s : List Float)
      → Each Q s → P held → P (extreme_from side held s)
  unfolding extreme_from
  extreme_keeps P Q k held s q p = fold_keeps (keep side) P Q k nan s q held p

  pub extreme_none : (held : Float) → extreme_from side held [] ≡ held
  unfolding extreme_from
  extreme_none held = refl
