-- What the arms of a match on the operator need: of a domain that asks more than finite, and of a loop and a search by one operator. Assumes nothing.
use Prim.Native.Nat.{ℕ}
use mathlib.Core.List.{List, map}
use mathlib.Core.Bool.{Bool, true, false, false≢true}
use mathlib.Core.Path.{◌≡◌, refl, sym, ◌∙◌, subst}
use lib.Dec.{T}
use lib.ListN.{length, get_or}
use lib.Ieee.{Float, nan, inf, fin, binary32, fits, lt, le, of_bits}
use lib.Ieee.Bits.{is_true}
use lib.Ieee.Scale.{finite}
use Rattle.std.specs.Prelude.{Option}
use Rattle.std.specs.List.{AllZip}
use Rattle.lists.specs.Search.{FirstFailing, found_not}
use Rattle.lists.proofs.Found.{found_is}
use Rattle.lists.proofs.Tests.{both}
use Rattle.lists.proofs.Turns.{zip_map}
use Rattle.floats.specs.Values.{zero_f, f32_min}
use Rattle.floats.proofs.Largest.{fits_between}
use Rattle.floats.proofs.Order.{le_not_lt}
use Rattle.unary.specs.Unary.{eval_of, in_domain, inside_at}
use Rattle.unary.specs.declared.Op.{Op}
use Rattle.unary.specs.declared.Op.TheVariants.{ReducedRangeExp}

-- what `reduced_range_exp` asks holds in its domain
pub not_above : (op : Op) (x : Float) → op ≡ ReducedRangeExp → in_domain op x ≡ true → lt zero_f x ≡ false
not_above op x e h = le_not_lt x zero_f (both (finite x) (le x zero_f) (rw e at h)).1

-- what a loop over the operator's own function leaves
pub mapped : {op arm : Op} {post : Float → Float → Type 0} (s d : List Float) → op ≡ arm → AllZip post s d
    → ((x y : Float) → post x y → y ≡ eval_of arm x) → d ≡ map (eval_of op) s
mapped {op} {arm} {post} s d e z h = rw e (zip_map post (eval_of arm) s d h z)

-- at most zero, the least f32 or above it: that is finite
pub from_least : (x : Float) → T (fits binary32 x) → le x zero_f ≡ true → le f32_min x ≡ in_domain ReducedRangeExp x
unfolding le of_bits
from_least nan F h = refl
from_least (inf false) F h = absurd (false≢true h)
from_least (inf true) F h = refl
from_least (fin s m e) F h = is_true _ (fits_between (fin s m e) F tt).0 ∙ sym h

-- a search by an operator's domain that is this one's
pub looked : (op arm : Op) {post : Float → Bool → Type 0} (s : List Float) {found : Option ℕ} → in_domain op ≡ in_domain arm
    → FirstFailing post s found → ((x : Float) (b : Bool) → post x b → b ≡ in_domain arm x) → found ≡ found_not (inside_at op s) (length s)
looked op arm s {found} e f h =
    subst (λ p. found ≡ found_not (λ i. p (get_or s i nan)) (length s)) (sym e) (found_is s found (in_domain arm) nan h f)
