-- Nothing lies beyond an extreme, and it is the held value or an element. Assumes nothing.
use Prim.Native.Nat.{suc, suc-le-suc}
use native.Mathlib.Nat.{zero-lt-suc, not-suc-le-zero}
use mathlib.Core.Path.{◌≡◌, refl, sym, ◌∙◌}
use mathlib.Core.Logic.{◌⊎◌, inl, inr}
use mathlib.Core.Bool.{Bool, true, false, not, cond, true≢false}
use mathlib.Core.List.{List, [], ◌∷◌}
use lib.Dec.{T}
use lib.ListN.{length}
use lib.Ieee.{Float, is_nan}
use Rattle.floats.specs.Each.{Each, Some}
use Rattle.floats.proofs.Each.{each_cons}
use Rattle.min_max.specs.MinMax.{Side, beyond, keep, extreme_from}
use Rattle.min_max.proofs.Sides.{beyond_through, beyond_outside, beyond_self}
use Rattle.min_max.proofs.Joined.{keep_number}

-- r is what a fold reaches from the held value over s
pub record Reached (side : Side) (held : Float) (s : List Float) (r : Float) : Type 0 where
  pub old : beyond side held r ≡ false
  pub all : Each (λ x. beyond side x r ≡ false) s
  pub one_of : (r ≡ held) ⊎ Some (λ x. r ≡ x) s

-- one step: where the kept one does not lie beyond r neither of the two does
record Step (side : Side) (held x r : Float) (kept : Float) : Type 0 where
  old : beyond side held r ≡ false
  new : beyond side x r ≡ false
  either : (kept ≡ held) ⊎ (kept ≡ x)

step : (side : Side) (held x r : Float) → T (not (is_nan held)) → beyond side (keep side held x) r ≡ false → Step side held x r (keep side held x)
step side held x r n = go (beyond side x held) refl
  where
    replaced : (b : Bool) → beyond side held r ≡ b → beyond side x held ≡ true → beyond side x r ≡ false → beyond side held r ≡ false
    replaced true k e f = absurd (true≢false (sym (beyond_through side r held x k e) ∙ f))
    replaced false k e f = k

    go : (b : Bool) → beyond side x held ≡ b → beyond side (cond b x held) r ≡ false → Step side held x r (cond b x held)
    go true e f = record { old = replaced (beyond side held r) refl e f; new = f; either = inr refl }
    go false e f = record { old = f; new = beyond_outside side r held x n f e; either = inl refl }

pub reached : (side : Side) (held : Float) (s : List Float) → T (not (is_nan held)) → Reached side held s (extreme_from side held s)
unfolding extreme_from
reached side held [] n = record { old = beyond_self side held; all = λ i h. absurd (not-suc-le-zero h); one_of = inl refl }
reached side held (x ∷ s) n =
    let kept = keep side held x in
    let rest = reached side kept s (keep_number side held x n) in
    let r = extreme_from side kept s in
    let here = step side held x r n rest.old in
    record {
      old = here.old;
      all = each_cons (λ y. beyond side y r ≡ false) x s here.new rest.all;
      one_of = elim rest.one_of [
        | inl e ↦ elim here.either [ inl a ↦ inl (e ∙ a) | inr b ↦ inr (0, zero-lt-suc (length s), e ∙ b) ]
        | inr a ↦ inr (suc a.0, suc-le-suc a.1, a.2)
      ];
    }
