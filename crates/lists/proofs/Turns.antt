-- A loop that writes one value for each element: its turns, over the part that is done. And what it leaves is the map. Assumes nothing.
use Prim.Native.Nat.{ℕ, ◌+◌, ◌<◌}
use mathlib.Core.Path.{◌≡◌, refl, sym, ap}
use mathlib.Core.List.{List, [], ◌∷◌, map}
use lib.ListN.{length, get_or, set, take, drop, replicate}
use Rattle.std.specs.List.{All, AllZip}
use native.Mathlib.Omega.{arith}
use Rattle.std.proofs.lemmas.Grind.{common_steps}
use Rattle.std.proofs.lemmas.List.{take_more, take_more_set}
use Rattle.std.proofs.lemmas.Slice.Zip.{all_zipped_more}

-- the next element, where the values stand beside the elements
pub zip_more : {A B : Type 0} (R : A → B → Type 0) (xs : List A) (ys : List B) (i : ℕ) (d x : A) (y : B) → i < length xs → i < length ys → x ≡ get_or xs i d
    → AllZip R (take i xs) (take i ys) → R x y → AllZip R (take (i + 1) xs) (take (i + 1) (set ys i y))
zip_more R xs ys i d x y h k e z r =
    rw (take_more xs i d h, take_more_set ys i y k, sym e) (all_zipped_more R (take i xs) (take i ys) x y z r)

-- in place: what is not reached yet is as it was
pub kept_at : {A : Type 0} (xs ys : List A) (i : ℕ) (d : A) → drop i xs ≡ drop i ys → get_or xs i d ≡ get_or ys i d
kept_at xs ys i d e = grind (arith, common_steps)

pub kept_more : {A : Type 0} (xs ys : List A) (i : ℕ) (y : A) → drop i xs ≡ drop i ys → drop (i + 1) (set xs i y) ≡ drop (i + 1) ys
kept_more xs ys i y e = grind (arith, common_steps)

-- so what every element of the list meets, this one does
pub kept_meets : {A : Type 0} (P : A → Type 0) (xs ys : List A) (i : ℕ) (d : A) → All P ys → i < length ys → drop i xs ≡ drop i ys → P (get_or xs i d)
kept_meets P xs ys i d a h k = rw (kept_at xs ys i d k) (a i d h)

-- each value is a function of its element
pub zip_map : {A B : Type 0} (R : A → B → Type 0) (f : A → B) (xs : List A) (ys : List B) → ((x : A) (y : B) → R x y → y ≡ f x) → AllZip R xs ys → ys ≡ map f xs
zip_map R f [] [] h z = refl
zip_map R f [] (y ∷ ys) h z = absurd z
zip_map R f (x ∷ xs) [] h z = absurd z
zip_map R f (x ∷ xs) (y ∷ ys) h z = rw (h x y z.0) (ap (λ l. f x ∷ l) (zip_map R f xs ys h z.1))

-- each value is the element itself, or one and the same
pub zip_copy : {A : Type 0} (R : A → A → Type 0) (xs ys : List A) → ((x y : A) → R x y → y ≡ x) → AllZip R xs ys → ys ≡ xs
zip_copy R [] [] h z = refl
zip_copy R [] (y ∷ ys) h z = absurd z
zip_copy R (x ∷ xs) [] h z = absurd z
zip_copy R (x ∷ xs) (y ∷ ys) h z = rw (h x y z.0) (ap (λ l. x ∷ l) (zip_copy R xs ys h z.1))

pub zip_same : {A B : Type 0} (R : A → B → Type 0) (v : B) (xs : List A) (ys : List B) → ((x : A) (y : B) → R x y → y ≡ v) → AllZip R xs ys
    → ys ≡ replicate (length xs) v
zip_same R v [] [] h z = refl
zip_same R v [] (y ∷ ys) h z = absurd z
zip_same R v (x ∷ xs) [] h z = absurd z
zip_same R v (x ∷ xs) (y ∷ ys) h z = rw (h x y z.0) (ap (λ l. v ∷ l) (zip_same R v xs ys h z.1))
