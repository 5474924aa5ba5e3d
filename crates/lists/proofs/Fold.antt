-- An ordered fold, `foldl`: in a loop over the elements so far, in two parts, what it keeps and shows, and as an iterator's `fold`. Assumes nothing.
use Prim.Native.Nat.{ℕ, zero, suc, ◌+◌, ◌<◌, suc-le-suc}
use native.Mathlib.Nat.{zero-lt-suc, not-suc-le-zero, le_of_suc-le-suc}
use mathlib.Core.Path.{◌≡◌, refl, sym, ap, ◌∙◌}
use mathlib.Core.List.{List, [], ◌∷◌, ◌++◌, foldl, foldl-append}
use lib.ListN.{length, get_or, take, drop, take-append-drop}
use denote.Param.Members.{Mut}
use denote.Ref.{Bor}
use Rattle.std.specs.Fn.{Called}
use Rattle.std.specs.Iterator.{FoldsItems}
use Rattle.std.specs.declared.slice.Iter.{Iter}
use Rattle.std.proofs.lemmas.List.{take_more}
use Rattle.std.proofs.lemmas.Fn.{fold_over, slice_gives, fronts}

module _ {A B : Type 0} (f : B → A → B) where
  -- a turn of a loop over the elements so far
  pub fold_turn : (s : List A) (z : A) (i : ℕ) (from held next : B) → i < length s → held ≡ foldl f from (take i s) → next ≡ f held (get_or s i z)
      → next ≡ foldl f from (take (i + 1) s)
  fold_turn s z i from held next h e g =
      rw (take_more s i z h, foldl-append f from (take i s) (get_or s i z ∷ []), sym e) g

  -- the first n at once, then the others
  pub fold_parted : (s : List A) (n : ℕ) (held : B) → foldl f (foldl f held (take n s)) (drop n s) ≡ foldl f held s
  fold_parted s n held = sym (foldl-append f held (take n s) (drop n s)) ∙ ap (foldl f held) (take-append-drop n s)

  -- what holds of the start and is kept by every element that has Q holds of the whole fold
  pub fold_keeps : (P : B → Type 0) (Q : A → Type 0) → ((b : B) (x : A) → P b → Q x → P (f b x)) → (z : A) (s : List A)
      → ((i : ℕ) → i < length s → Q (get_or s i z)) → (b : B) → P b → P (foldl f b s)
  fold_keeps P Q k z [] q b p = p
  fold_keeps P Q k z (x ∷ s) q b p =
      fold_keeps P Q k z s (λ i h. q (suc i) (suc-le-suc h)) (f b x) (k b x p (q 0 (zero-lt-suc (length s))))

  -- what the whole fold has, where a step that has it started from what has it and from an element that has Q
  pub fold_shows : (P : B → Type 0) (Q : A → Type 0) → ((b : B) (x : A) → P (f b x) → P b × Q x) → (z : A) (s : List A) (b : B)
      → P (foldl f b s) → P b × ((i : ℕ) → i < length s → Q (get_or s i z))
  fold_shows P Q k z [] b p = (p, λ i h. absurd (not-suc-le-zero h))
  fold_shows P Q k z (x ∷ s) b p =
      let after = fold_shows P Q k z s (f b x) p in
      let here = k b x after.0 in
      (here.0, step Q z x s here.1 after.1)
    where
      step : (Q : A → Type 0) (z x : A) (s : List A) → Q x → ((i : ℕ) → i < length s → Q (get_or s i z))
          → (i : ℕ) → i < length (x ∷ s) → Q (get_or (x ∷ s) i z)
      step Q z x s q r zero h = q
      step Q z x s q r (suc i) h = r i (le_of_suc-le-suc h)

-- what an iterator's `fold` over a slice answers, where its closure computes h
pub slice_fold : {A B F : Type 0} {g : Mut F (B × (Bor A × Unit {0})) B} {f : F} (h : B → A → B) (s : Iter A) (a r : B) (xs : List A) → s.rest.now ≡ xs
    → ((b : B) (x : Bor A) (d : B) (f' : F) → Called g f (b, (x, tt)) d f' → (d ≡ h b x.now) × (f' ≡ f))
    → FoldsItems fronts g s f a r → r ≡ foldl h a xs
slice_fold {A} {B} {F} {g} {f} h s a r xs e k ran =
    rw (sym e) (fold_over fronts (λ y. y.now) g (λ ys b. b ≡ foldl h a ys) f step s s.rest.now a r (slice_gives s) refl ran)
  where
    step : (ys : List A) (b : B) (x : Bor A) (d : B) (f' : F) → b ≡ foldl h a ys → Called g f (b, (x, tt)) d f'
        → (d ≡ foldl h a (ys ++ (x.now ∷ []))) × (f' ≡ f)
    step ys b x d f' e c = let t = k b x d f' c in (t.0 ∙ ap (λ w. h w x.now) e ∙ sym (foldl-append h a ys (x.now ∷ [])), t.1)
