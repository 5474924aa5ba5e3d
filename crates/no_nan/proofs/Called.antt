-- A call of `apply` that is done leaves no NaN in dst, and no infinity unless the operator is Exp.
--
--   apply-no-nan : (op : Op) (s d : List Float) → Each Fits s → applyTold op s d ≡ (0, 0) → Each Number (applyOut op s d)
--   apply-finite : (op : Op) (s d : List Float) → Each Fits s → T (alphaFits op) → T (staysFinite op) → applyTold op s d ≡ (0, 0)
--       → Each Finite (applyOut op s d)
--
-- Assumes nothing.
use Prim.Native.Nat.{ℕ, ◌<◌}
use mathlib.Core.Path.{◌≡◌, refl, sym, subst}
use mathlib.Core.Bool.{Bool, true, false, not, false≢true}
use mathlib.Core.List.{List, map}
use borrow.Author.Tests.{ltb-false}
use lib.Dec.{T, eqb, ltb}
use lib.ListN.{length, drop, get_or}
use lib.Ieee.{Float, nan}
use Rattle.answer.specs.Answer.{when_done}
use Rattle.std.specs.Prelude.{Ok}
use Rattle.answer.specs.declared.Refusal.TheVariants.{Length, TooMany, NotFinite, Domain}
use Rattle.answer.proofs.Chain.{opened}
use Rattle.answer.proofs.Numbers.{told_one}
use Rattle.answer.specs.Limits.{element_limit}
use Rattle.floats.specs.Each.{Each}
use Rattle.lists.proofs.First.{first_clear}
use Rattle.lists.proofs.Tab.{tab_at, tab_length, tab_map}
use Rattle.unary.specs.Unary.{eval_of, in_domain, alpha_ok, first_outside, tests, apply_answer, apply_told, apply_out}
use Rattle.unary.specs.declared.Op.{Op}
use Rattle.no_nan.specs.NoNan.{Given, Fits, Number, Finite, alpha_fits, stays_finite}
use Rattle.no_nan.proofs.NoNan.{no_nan, stays_finite_law}

-- what holds of f at each element holds of each element of the mapped list
each_map : (P : Float → Type 0) (f : Float → Float) (s : List Float) → ((i : ℕ) → i < length s → P (f (get_or s i nan)))
    → Each P (map f s)
each_map P f s h = subst (Each P) (tab_map f nan s) (λ i l.
    let m : i < length s = subst (λ n. i < n) (tab_length (λ k. f (get_or s k nan)) (length s)) l in
    subst P (sym (tab_at (λ k. f (get_or s k nan)) (length s) i nan m)) (h i m))

was_true : (b : Bool) → not b ≡ false → b ≡ true
was_true true e = refl
was_true false e = absurd (false≢true (sym e))

module _ (op : Op) (s d : List Float) (F : Each Fits s) (e : apply_answer op s d ≡ (Ok tt)) where
  -- past all four tests every element is given
  each_given : (i : ℕ) → i < length s → Given op (get_or s i nan)
  unfolding apply_answer first_outside
  each_given i l =
      let t = tests op s d in
      let a = opened (not (eqb (length s) (length d))) Length (drop 1 t) (sym e) in
      let b = opened (ltb element_limit (length s)) TooMany (drop 2 t) a.1 in
      let c = opened (not (alpha_ok op)) NotFinite (drop 3 t) b.1 in
      let o = opened (ltb (first_outside op s) (length s)) (Domain (first_outside op s)) (drop 4 t) c.1 in
      record {
        value = F i l;
        inside = first_clear (λ k. in_domain op (get_or s k nan)) (length s) (ltb-false (first_outside op s) (length s) o.0) i l;
        alpha = was_true (alpha_ok op) c.0;
      }

  each_left : (P : Float → Type 0) → ((x : Float) → Given op x → P (eval_of op x)) → Each P (apply_out op s d)
  each_left P h =
      subst (λ a. Each P (when_done a (map (eval_of op) s) d)) (sym e)
      (each_map P (eval_of op) s (λ i l. h (get_or s i nan) (each_given i l)))

pub apply_no_nan : (op : Op) (s d : List Float) → Each Fits s → apply_told op s d ≡ (0, 0) → Each Number (apply_out op s d)
apply_no_nan op s d F e = each_left op s d F (told_one (apply_answer op s d) (Ok tt) e) Number (no_nan op)

pub apply_finite : (op : Op) (s d : List Float) → Each Fits s → T (alpha_fits op) → T (stays_finite op) → apply_told op s d ≡ (0, 0)
    → Each Finite (apply_out op s d)
apply_finite op s d F a t e = each_left op s d F (told_one (apply_answer op s d) (Ok tt) e) Finite (λ x g. stays_finite_law op x g a t)
