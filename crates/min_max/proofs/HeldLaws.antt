-- The law of a pass, for each state that one holds, and what it gives: four runs joined in order are one pass, and so are a list's quarters and
-- what is left of it. Assumes nothing.
use Rattle.std.proofs.Common.{◌≡◌, ℕ, ◌+◌, ◌<◌, ◌≤◌, Bool, true, false, not, ◌||◌, List, [], ◌∷◌, ◌++◌, length, get_or, take, drop, refl, sym, ap, ap₂, ◌∙◌, take-append-drop, take_all}
use mathlib.Core.List.{foldl-append, append_assoc}
use lib.Ieee.{Float, nan, is_nan}
use native.Mathlib.Nat.{not-suc-le-zero}
use mathlib.Core.Bool.{true≢false}
use Rattle.floats.proofs.Each.{each_cons}
use Rattle.min_max.proofs.Taken.{InDomain}
use Rattle.lists.proofs.First.{Passed}
use Rattle.lists.proofs.Fold.{fold_turn}
use Rattle.min_max.specs.MinMax.{Least, Largest, keep, extreme_from, number_at}
use Rattle.min_max.specs.Pass.{folded, PassLaw, top_start, top_take, top_join, seen_start, seen_take, seen_join}
use Rattle.min_max.specs.declared.Seen.{Seen}
use Rattle.min_max.specs.declared.pass.Top.{Top}
use Rattle.min_max.proofs.Joined.{two_joined}

module _ {S : Type 0} (next_of : S → Float → S) where
  -- a turn of a loop
  pub folded_turn : (s : List Float) (i : ℕ) (from held next : S) → i < length s → held ≡ folded next_of from (take i s) → next ≡ next_of held (get_or s i nan)
      → next ≡ folded next_of from (take (i + 1) s)
  unfolding folded
  folded_turn s i from held next h e g = fold_turn next_of s nan i from held next h e g

  pub folded_none : (held : S) → held ≡ folded next_of held []
  unfolding folded
  folded_none held = refl

  -- and its end
  pub folded_end : (s : List Float) (i : ℕ) (from held : S) → length s ≤ i → held ≡ folded next_of from (take i s) → held ≡ folded next_of from s
  folded_end s i from held h e = e ∙ ap (folded next_of from) (take_all i s h)

  folded_append : (held : S) (s t : List Float) → folded next_of held (s ++ t) ≡ folded next_of (folded next_of held s) t
  unfolding folded
  folded_append held s t = foldl-append next_of held s t

  -- the quarters and what is left of a list
  pub folded_parted : (q : ℕ) (src a after_a b after_b c after_c d rest : List Float) (held four last : S) → a ≡ take q src → after_a ≡ drop q src
      → b ≡ take q after_a → after_b ≡ drop q after_a → c ≡ take q after_b → after_c ≡ drop q after_b → d ≡ take q after_c → rest ≡ drop q after_c
      → four ≡ folded next_of held (a ++ b ++ c ++ d) → last ≡ folded next_of four rest → last ≡ folded next_of held src
  folded_parted q src a after_a b after_b c after_c d rest held four last a1 a2 b1 b2 c1 c2 d1 d2 f l =
      l ∙ ap (λ h. folded next_of h rest) f ∙ sym (folded_append held (a ++ b ++ c ++ d) rest) ∙ ap (folded next_of held) whole
    where
      cut : {x y z : List Float} → x ≡ take q z → y ≡ drop q z → x ++ y ≡ z
      cut {x} {y} {z} e g = ap₂ (λ u v. u ++ v) e g ∙ take-append-drop q z

      whole : a ++ b ++ c ++ d ++ rest ≡ src
      whole =
          append_assoc (a ++ b ++ c) d rest ∙ ap (λ u. a ++ b ++ c ++ u) (cut d1 d2)
          ∙ append_assoc (a ++ b) c after_c ∙ ap (λ u. a ++ b ++ u) (cut c1 c2)
          ∙ append_assoc a b after_b ∙ ap (λ u. a ++ u) (cut b1 b2)
          ∙ cut a1 a2

  module _ (start : S) (join : S → S → S) (law : PassLaw start next_of join) where
    -- four runs joined in order
    pub four_joined : (a b c d : List Float) (held : S) {p q r s x y z : S} → p ≡ folded next_of held a → q ≡ folded next_of start b
        → r ≡ folded next_of start c → s ≡ folded next_of start d → x ≡ join p q → y ≡ join x r → z ≡ join y s
        → z ≡ folded next_of held (a ++ b ++ c ++ d)
    four_joined a b c d held pe qe re se xe ye ze =
        both (a ++ b ++ c) d (both (a ++ b) c (both a b pe qe xe) re ye) se ze
      where
        both : {x y z : S} (u v : List Float) → x ≡ folded next_of held u → y ≡ folded next_of start v → z ≡ join x y
            → z ≡ folded next_of held (u ++ v)
        both u v e f g = g ∙ ap₂ join e f ∙ sym (law held u v)

-- ---- the largest alone
top : Float → Top
top v = record { value = v }

pub top_is : (h : Top) (s : List Float) → folded top_take h s ≡ record { value = extreme_from Largest h.value s }
unfolding folded extreme_from
top_is h [] = refl
top_is h (x ∷ s) = top_is (top_take h x) s

pub top_law : PassLaw top_start top_take top_join
unfolding top
top_law h s t =
    top_is h (s ++ t) ∙ ap top (two_joined Largest h.value s t) ∙ sym (ap₂ top_join (top_is h s) (top_is top_start t))

-- ---- both extremes, and a NaN
met : List Float → Bool
met [] = false
met (x ∷ s) = is_nan x || met s

or_grouped : (a b c : Bool) → (a || b) || c ≡ a || (b || c)
or_grouped true b c = refl
or_grouped false b c = refl

met_append : (s t : List Float) → met (s ++ t) ≡ met s || met t
unfolding met
met_append [] t = refl
met_append (x ∷ s) t = ap (λ b. is_nan x || b) (met_append s t) ∙ sym (or_grouped (is_nan x) (met s) (met t))

made : Float → Float → Bool → Seen
made l h n = record { least = l; largest = h; nan = n }

seen_of : Seen → List Float → Seen
seen_of h s = made (extreme_from Least h.least s) (extreme_from Largest h.largest s) (h.nan || met s)

seen_is : (h : Seen) (s : List Float) → folded seen_take h s ≡ seen_of h s
unfolding folded extreme_from seen_of made met
seen_is h [] = ap (made h.least h.largest) (none h.nan)
  where
    none : (b : Bool) → b ≡ b || false
    none true = refl
    none false = refl
seen_is h (x ∷ s) =
    seen_is (seen_take h x) s
    ∙ ap (made (extreme_from Least (keep Least h.least x) s) (extreme_from Largest (keep Largest h.largest x) s)) (or_grouped h.nan (is_nan x) (met s))

pub seen_law : PassLaw seen_start seen_take seen_join
unfolding seen_of made
seen_law h s t =
    seen_is h (s ++ t)
    ∙ ap₂ (λ l g. made l g (h.nan || met (s ++ t))) (two_joined Least h.least s t) (two_joined Largest h.largest s t)
    ∙ ap (made _ _) (ap (λ b. h.nan || b) (met_append s t) ∙ sym (or_grouped h.nan (met s) (met t)))
    ∙ sym (ap₂ seen_join (seen_is h s) (seen_is seen_start t))

-- a pass that met no NaN
none_met : (s : List Float) → met s ≡ false → Passed (number_at s) (length s)
unfolding met
none_met [] e = λ k h. absurd (not-suc-le-zero h)
none_met (x ∷ s) e =
    let both = neither (is_nan x) (met s) e in
    each_cons InDomain x s (ap not both.0) (none_met s both.1)
  where
    neither : (a b : Bool) → a || b ≡ false → (a ≡ false) × (b ≡ false)
    neither true b e = absurd (true≢false e)
    neither false b e = (refl, e)

pub seen_low : (h r : Seen) (s : List Float) → r ≡ folded seen_take h s → r.least ≡ extreme_from Least h.least s
unfolding seen_of made
seen_low h r s e = ap (λ (w : Seen). w.least) (e ∙ seen_is h s)

pub seen_high : (h r : Seen) (s : List Float) → r ≡ folded seen_take h s → r.largest ≡ extreme_from Largest h.largest s
unfolding seen_of made
seen_high h r s e = ap (λ (w : Seen). w.largest) (e ∙ seen_is h s)

pub seen_numbers : (h r : Seen) (s : List Float) → r ≡ folded seen_take h s → h.nan ≡ false → r.nan ≡ false → Passed (number_at s) (length s)
unfolding seen_of made
seen_numbers h r s e f g =
    let flag : r.nan ≡ h.nan || met s = ap (λ (w : Seen). w.nan) (e ∙ seen_is h s) in
    none_met s (sym (ap (λ b. b || met s) f) ∙ sym flag ∙ g)
