-- The domain's tests as code makes them, and an input that is all masked. Assumes nothing.
use Prim.Native.Nat.{ℕ, suc, ◌<◌}
use mathlib.Core.Path.{◌≡◌, refl, sym, subst, ◌∙◌}
use mathlib.Core.Logic.{◌⊎◌, inl, inr}
use mathlib.Core.Bool.{Bool, true, false, cond, ◌&&◌, false≢true}
use mathlib.Core.List.{List, [], ◌∷◌}
use lib.Dec.{T, eqb, eqb-suc-suc, eqb-zero-suc}
use lib.ListN.{length, get_or}
use lib.Ieee.{Float, nan, inf, fin, neg, lt, eq}
use lib.Ieee.Scale.{finite}
use borrow.Author.Tests.{lt-ltb}
use Rattle.std.specs.List.{list_all}
use Rattle.lists.specs.Lists.{first_not}
use Rattle.softmax.specs.Softmax.{is_masked, in_domain, all_masked}

-- ---- one element
pub below_top : (x top : Float) → top ≡ inf false → lt x top ≡ in_domain x
unfolding lt
below_top x top e = subst (λ u. lt x u ≡ in_domain x) (sym e) (go x)
  where
    go : (x : Float) → lt x (inf false) ≡ in_domain x
    go nan = refl
    go (inf true) = refl
    go (inf false) = refl
    go (fin s m e) = refl

pub is_bottom : (x top : Float) → top ≡ inf false → eq x (neg top) ≡ is_masked x
unfolding eq neg
is_bottom x top e = subst (λ u. eq x (neg u) ≡ is_masked x) (sym e) (go x)
  where
    go : (x : Float) → eq x (neg (inf false)) ≡ is_masked x
    go nan = refl
    go (inf true) = refl
    go (inf false) = refl
    go (fin s m e) = refl

-- what the domain's test says
pub in_domain_law : (x : Float) → in_domain x ≡ true → T (finite x) ⊎ (x ≡ inf true)
in_domain_law nan h = absurd (false≢true h)
in_domain_law (inf true) h = inr refl
in_domain_law (inf false) h = absurd (false≢true h)
in_domain_law (fin s m e) h = inl tt

-- ---- a list that is all masked
all_first : (p : Float → Bool) (s : List Float) → list_all p s ≡ eqb (first_not (λ i. p (get_or s i nan)) (length s)) (length s)
unfolding first_not
all_first p [] = refl
all_first p (x ∷ s) = rw (all_first p s) (step (p x) (first_not (λ i. p (get_or s i nan)) (length s)) (length s))
  where
    step : (b : Bool) (a n : ℕ) → (b && eqb a n) ≡ eqb (cond b (suc a) 0) (suc n)
    step true a n = sym (eqb-suc-suc a n)
    step false a n = sym (eqb-zero-suc n)

-- as `all` finds it, where there is an element; and where there is none
pub masked_all : (s : List Float) (r : Bool) → 0 < length s → r ≡ list_all is_masked s → r ≡ all_masked s
unfolding all_masked
masked_all s r h e = rw (lt-ltb 0 (length s) h) (e ∙ all_first is_masked s)

pub masked_none : (s : List Float) → length s ≡ 0 → false ≡ all_masked s
unfolding all_masked
masked_none s h = rw h refl
