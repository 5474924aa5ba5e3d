-- The maximum of finite or masked elements: finite, at least every element, and an element or `f32::MIN`. Assumes nothing.
use Prim.Native.Nat.{ℕ, ◌<◌}
use mathlib.Core.Path.{◌≡◌, refl, sym, subst}
use mathlib.Core.Logic.{◌⊎◌, inl, inr}
use mathlib.Core.Bool.{Bool, true, false, not, cond}
use mathlib.Core.List.{List}
use lib.Dec.{T}
use lib.ListN.{get_or, length}
use Rattle.std.proofs.lemmas.List.{get_or_default}
use lib.Ieee.{Float, nan, inf, fin, binary32, sub, neg, lt, le, of_bits, is_nan}
use lib.Ieee.Scale.{finite}
use lib.Ieee.Bits.{is_true}
use Rattle.floats.specs.Values.{zero_f, f32_min}
use Rattle.floats.proofs.Sign.{finite_number}
use Rattle.floats.proofs.Signed.{minus_inf, at_most→le}
use Rattle.floats.proofs.Order.{le_refl_f, not_lt, le_not_lt}
use Rattle.floats.proofs.Monotone.{sub_mono}
use Rattle.floats.proofs.Exact.{sub_self_f}
use Rattle.floats.proofs.Least.{min_finite}
use Rattle.min_max.specs.MinMax.{Largest, keep, largest_from}
use Rattle.min_max.proofs.Fold.{extreme_keeps}
use Rattle.min_max.proofs.Joined.{start_last, extreme_number}
use Rattle.min_max.proofs.Reached.{reached}
use Rattle.softmax.specs.Softmax.{max_of, in_domain}
use Rattle.floats.specs.Each.{Each, Some}
use Rattle.softmax.proofs.Domain.{in_domain_law}

-- finite or masked
abbrev pub InDomain : Float → Type 0
InDomain x = in_domain x ≡ true

pub masked_le : (h : Float) → T (finite h) → T (le (inf true) h)
masked_le h f = at_most→le (minus_inf (finite_number h f))

-- minus infinity less what is finite
pub masked_minus : (m : Float) → T (finite m) → sub binary32 (inf true) m ≡ inf true
unfolding sub neg
masked_minus nan h = absurd h
masked_minus (inf s) h = absurd h
masked_minus (fin s n e) h = refl

in_domain_number : (x : Float) → InDomain x → T (not (is_nan x))
unfolding is_nan
in_domain_number x d = elim (in_domain_law x d) [ inl q ↦ finite_number x q | inr q ↦ rw q tt ]

-- a step keeps a finite value finite: a masked element is the fold's start, which replaces nothing
keeps_finite : (m x : Float) → T (finite m) → InDomain x → T (finite (keep Largest m x))
keeps_finite m x p d = elim (in_domain_law x d) [
  | inl q ↦ either (lt m x) q
  | inr q ↦ rw (q, start_last Largest m) p
]
  where
    either : (b : Bool) → T (finite x) → T (finite (cond b x m))
    either true q = q
    either false q = p

pub record Max (m : Float) (s : List Float) (h : Float) : Type 0 where
  pub fine : T (finite h)
  pub old : T (le m h)
  pub all : Each (λ x. T (le x h)) s
  pub one_of : (h ≡ m) ⊎ Some (λ x. h ≡ x) s

max_from : (s : List Float) (m : Float) → T (finite m) → Each InDomain s → Max m s (largest_from m s)
max_from s m p d =
    let n = finite_number m p in
    let h = largest_from m s in
    let k = extreme_number Largest m s n in
    let r = reached Largest m s n in
    record {
      fine = extreme_keeps Largest (λ x. T (finite x)) InDomain keeps_finite m s d p;
      old = not_lt h m k n r.old;
      all = λ i l. not_lt h (get_or s i nan) k (in_domain_number _ (d i l)) (r.all i l);
      one_of = r.one_of;
    }

module _ (s : List Float) (d : Each InDomain s) where
  pub max_is : Max f32_min s (max_of s)
  unfolding max_of
  max_is = max_from s f32_min min_finite d

  -- an element less the maximum is not above zero
  pub less_max : Each (λ x. T (le (sub binary32 x (max_of s)) zero_f)) s
  unfolding of_bits
  less_max i h = elim (in_domain_law (get_or s i nan) (d i h)) [
    | inl q ↦ subst (λ w. T (le (sub binary32 (get_or s i nan) (max_of s)) w)) (sub_self_f binary32 (max_of s) f)
        (sub_mono binary32 (get_or s i nan) (max_of s) (max_of s) (max_of s) q f f f (max_is.all i h) (le_refl_f (max_of s) (finite_number (max_of s) f)))
    | inr q ↦ subst (λ w. T (le (sub binary32 w (max_of s)) zero_f)) (sym q)
        (subst (λ w. T (le w zero_f)) (sym (masked_minus (max_of s) f)) (masked_le zero_f tt))
  ]
    where
      f : T (finite (max_of s))
      f = max_is.fine

  -- as `reduced_range_exp` asks it
  pub not_above : Each (λ x. lt zero_f (sub binary32 x (max_of s)) ≡ false) s
  not_above i h = le_not_lt (sub binary32 (get_or s i nan) (max_of s)) zero_f (is_true _ (less_max i h))

  -- and by any other value past the list's end
  pub not_above_at : (i : ℕ) (z : Float) → i < length s → lt zero_f (sub binary32 (get_or s i z) (max_of s)) ≡ false
  not_above_at i z h = rw (get_or_default s i z nan h) (not_above i h)
