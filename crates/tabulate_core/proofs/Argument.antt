-- A word read byte by byte: the number held so far, and the bytes that are left. Assumes nothing.
use Prim.Native.Nat.{ℕ, ◌+◌, ◌-◌, ◌*◌, ◌≤◌, ◌<◌}
use mathlib.Core.Path.{◌≡◌, refl, sym, ap, ◌∙◌}
use mathlib.Core.Bool.{Bool, true, false, ◌&&◌, cond, and-false}
use mathlib.Core.List.{List, [], ◌∷◌}
use native.Mathlib.Nat.{le_trans}
use native.Mathlib.Numerals.{add-one}
use native.Mathlib.Omega.{arith}
use borrow.Author.Tests.{le-leb, lt-leb, ne_eqb, eqb-true}
use lib.Dec.{leb, eqb}
use lib.ListN.{length, get_or, drop, drop_of_length-le}
use lib.Seq.{drop-cons}
use Rattle.std.specs.Prelude.{Option, Some, None}
use Rattle.answer.specs.Limits.{band_limit}
use Rattle.tabulate_core.specs.Argument.{is_digit, all_digits, value_from, bands_from, bands_in, bands_named}

value_grows : (v : ℕ) (w : List ℕ) → v ≤ value_from v w
unfolding value_from
value_grows v [] = omega arith
value_grows v (b ∷ w) = le_trans (omega arith) (value_grows (10 * v + (b - 48)) w)

-- a digit more
digit_next : (v b : ℕ) (w : List ℕ) → is_digit b ≡ true → bands_from (10 * v + (b - 48)) w ≡ bands_from v (b ∷ w)
unfolding bands_from value_from all_digits
digit_next v b w h =
    ap (λ t. cond ((t && all_digits w) && leb (value_from (10 * v + (b - 48)) w) band_limit) (value_from (10 * v + (b - 48)) w) 0) (sym h)

-- no digit
no_digit : (v b : ℕ) (w : List ℕ) → is_digit b ≡ false → 0 ≡ bands_from v (b ∷ w)
unfolding bands_from value_from all_digits
no_digit v b w h =
    ap (λ t. cond ((t && all_digits w) && leb (value_from (10 * v + (b - 48)) w) band_limit) (value_from (10 * v + (b - 48)) w) 0) (sym h)

-- the number is too large already
too_large : (v : ℕ) (w : List ℕ) → band_limit < v → 0 ≡ bands_from v w
unfolding bands_from
too_large v w h =
    ap (λ t. cond t (value_from v w) 0)
    (sym (ap (λ t. all_digits w && t) (lt-leb (value_from v w) band_limit (le_trans h (value_grows v w))) ∙ and-false (all_digits w)))

-- ---- at byte i of a word
module _ (w : List ℕ) (i v : ℕ) (h : i < length w) where
  here : drop i w ≡ get_or w i 0 ∷ drop (i + 1) w
  here = rw add-one (drop-cons w i 0 h)

  pub word_other : false ≡ is_digit (get_or w i 0) → 0 ≡ bands_from v (drop i w)
  word_other t = no_digit v (get_or w i 0) (drop (i + 1) w) (sym t) ∙ ap (bands_from v) (sym here)

  module _ {d : ℕ} (e : d ≡ get_or w i 0 - 48) (t : true ≡ is_digit (get_or w i 0)) where
    pub word_more : bands_from (10 * v + d) (drop (i + 1) w) ≡ bands_from v (drop i w)
    word_more =
        ap (λ x. bands_from (10 * v + x) (drop (i + 1) w)) e ∙ digit_next v (get_or w i 0) (drop (i + 1) w) (sym t) ∙ ap (bands_from v) (sym here)

    pub word_large : band_limit < 10 * v + d → 0 ≡ bands_from v (drop i w)
    word_large k = too_large (10 * v + d) (drop (i + 1) w) k ∙ word_more

-- the word's end
pub word_end : (w : List ℕ) (i v : ℕ) → length w ≤ i → v ≤ band_limit → v ≡ bands_from v (drop i w)
unfolding bands_from value_from all_digits
word_end w i v h k = rw (drop_of_length-le w h) (ap (λ t. cond t v 0) (sym (le-leb v band_limit k)))

-- ---- as the code answers
pub named_none : (w : List ℕ) {v : ℕ} → v ≡ bands_in w → v ≡ 0 → None ≡ bands_named w
named_none w e z = ap (λ n. cond (eqb n 0) None (Some n)) (sym z ∙ e)

pub named_some : (w : List ℕ) {v : ℕ} → v ≡ bands_in w → (v ≡ 0 → ⊥) → Some v ≡ bands_named w
named_some w {v} e z = ap (λ t. cond t None (Some v)) (sym (ne_eqb v 0 z)) ∙ ap (λ n. cond (eqb n 0) None (Some n)) e

-- ---- and back
pub none_named : (w : List ℕ) → None ≡ bands_named w → bands_in w ≡ 0
none_named w = step (eqb (bands_in w) 0) refl
  where
    step : (t : Bool) → eqb (bands_in w) 0 ≡ t → ◌≡◌ {A = Option ℕ} None (cond t None (Some (bands_in w))) → bands_in w ≡ 0
    step true t e = eqb-true _ _ t
    step false t e = absurd (let z : ◌≡◌ {A = ℕ} 0 1 = cc in omega arith)

pub some_named : (w : List ℕ) {v : ℕ} → Some v ≡ bands_named w → v ≡ bands_in w
some_named w {v} = step (eqb (bands_in w) 0)
  where
    step : (t : Bool) → ◌≡◌ {A = Option ℕ} (Some v) (cond t None (Some (bands_in w))) → v ≡ bands_in w
    step true e = absurd (let z : ◌≡◌ {A = ℕ} 0 1 = cc in omega arith)
    step false e = cc
