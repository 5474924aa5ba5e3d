-- Laws of the sums' fold, once over the sum: in a loop, over joined lists, from nothing, and what it keeps. Assumes nothing.
use Prim.Native.Nat.{ℕ, ◌+◌, ◌≤◌, ◌<◌}
use mathlib.Core.Path.{◌≡◌, refl, sym, ap, ◌∙◌, subst}
use mathlib.Core.List.{List, [], ◌++◌, map, foldl-append, foldl-map}
use lib.Dec.{T}
use lib.Ieee.{Float, nan, binary32, sub}
use lib.Ieee.Scale.{finite}
use lib.ListN.{length, get_or, take, drop}
use Rattle.std.proofs.lemmas.List.{take_all}
use Rattle.lists.proofs.First.{Passed}
use Rattle.lists.proofs.Fold.{fold_turn, fold_parted, fold_keeps}
use Rattle.floats.specs.Floats.{finite_at}
use Rattle.exp.specs.Exp.{exp_of}
use Rattle.sum.specs.Sum.{step_of, sum_from}
use Rattle.sum.specs.declared.SumOp.{SumOp}
use Rattle.sum.specs.declared.SumOp.TheVariants.{Sum, SumExpSub}

module _ (op : SumOp) where
  -- a turn of a loop over the elements so far
  pub sum_turn : (s : List Float) (i : ℕ) (from held next : Float) → i < length s → held ≡ sum_from op from (take i s)
      → next ≡ step_of op held (get_or s i nan) → next ≡ sum_from op from (take (i + 1) s)
  unfolding sum_from
  sum_turn s i from held next h e g = fold_turn (step_of op) s nan i from held next h e g

  -- the first n at once, then the others
  pub sum_parted : (s run tail : List Float) (n : ℕ) (held next : Float) → run ≡ take n s → tail ≡ drop n s → next ≡ sum_from op held run
      → sum_from op next tail ≡ sum_from op held s
  unfolding sum_from
  sum_parted s run tail n held next p q e = rw (e, p, q) (fold_parted (step_of op) s n held)

  -- and its end
  pub sum_end : (s : List Float) (i : ℕ) (from held : Float) → length s ≤ i → held ≡ sum_from op from (take i s) → held ≡ sum_from op from s
  sum_end s i from held h e = e ∙ ap (sum_from op from) (take_all i s h)

  pub sum_append : (held : Float) (s t : List Float) → sum_from op held (s ++ t) ≡ sum_from op (sum_from op held s) t
  unfolding sum_from
  sum_append held s t = foldl-append (step_of op) held s t

  -- what each step from a finite element keeps, the sum keeps
  pub sum_keeps : (K : Float → Type 0) → ((b x : Float) → K b → T (finite x) → K (step_of op b x)) → (s : List Float)
      → Passed (finite_at s) (length s) → (held : Float) → K held → K (sum_from op held s)
  unfolding sum_from
  sum_keeps K k s p held h = fold_keeps (step_of op) K (λ x. T (finite x)) k nan s (λ i l. subst T (sym (p i l)) tt) held h

  pub sum_none : (held : Float) → sum_from op held [] ≡ held
  unfolding sum_from
  sum_none held = refl

-- the plain sum of the exponentials
pub exps_sum : (offset held : Float) (s : List Float) → sum_from Sum held (map (λ x. exp_of (sub binary32 x offset)) s) ≡ sum_from (SumExpSub offset) held s
unfolding sum_from
exps_sum offset held s = foldl-map (λ x. exp_of (sub binary32 x offset)) (step_of Sum) s held
