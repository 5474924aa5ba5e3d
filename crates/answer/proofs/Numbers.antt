-- The list of RULES, Numbers, and the answers are one to one: each refusal's number is in the list, each number of the list is some refusal's,
-- and number and place together tell which answer it is. Assumes nothing.
use Prim.Native.Nat.{ℕ, ◌-◌, ◌≤◌}
use mathlib.Core.Path.{◌≡◌, refl, sym, ap, ◌∙◌}
use mathlib.Core.Bool.{cond}
use mathlib.Core.List.{List, [], ◌∷◌, map}
use native.Mathlib.Omega.{arith}
use lib.Dec.{lit≤, ltb}
use lib.ListN.{get_or}
use Rattle.answer.specs.Answer.{class_of, where_of, number_of, told_of}
use Rattle.answer.specs.declared.Refusal.{Refusal}
use Rattle.answer.specs.declared.Refusal.TheVariants.{Length, TooMany, NotFinite, Domain, Masked, Result, Count, RowTotal, StoredLength, Check, Header, Unused, OneBand}
use Rattle.answer.specs.Answer.{Answer}
use Rattle.std.specs.Prelude.{Ok, Err}

-- the list, with p as the place where one is told, and its numbers
abbrev refusals : ℕ → List Refusal
refusals p =
    Length ∷ TooMany ∷ NotFinite ∷ Domain p ∷ Masked ∷ Result p ∷ Count ∷ RowTotal p ∷ StoredLength ∷ Check p ∷ Header p ∷ Unused p ∷ OneBand ∷ []

abbrev pub numbers : List ℕ
numbers = 1 ∷ 2 ∷ 3 ∷ 4 ∷ 5 ∷ 6 ∷ 7 ∷ 8 ∷ 9 ∷ 10 ∷ 11 ∷ 12 ∷ 15 ∷ []

-- where a number stands in it
abbrev pub slot : ℕ → ℕ
slot n = cond (ltb n 13) (n - 1) 12

-- what a number and a place stand for
abbrev refusal_of : ℕ → ℕ → Refusal
refusal_of n p = get_or (refusals p) (slot n) Length

-- `Done` is 0 with place 0
pub done_told : told_of (Ok tt) ≡ (0, 0)
done_told = refl

-- each number of the list is a refusal's
pub each_given : (p : ℕ) → map class_of (refusals p) ≡ numbers
each_given p = refl

-- every refusal's number is in the list
pub listed : (r : Refusal) → (1 ≤ class_of r) × (get_or numbers (slot (class_of r)) 0 ≡ class_of r)
listed Length = (lit≤ tt, refl)
listed TooMany = (lit≤ tt, refl)
listed NotFinite = (lit≤ tt, refl)
listed (Domain i) = (lit≤ tt, refl)
listed Masked = (lit≤ tt, refl)
listed (Result i) = (lit≤ tt, refl)
listed Count = (lit≤ tt, refl)
listed (RowTotal r) = (lit≤ tt, refl)
listed StoredLength = (lit≤ tt, refl)
listed (Check b) = (lit≤ tt, refl)
listed (Header b) = (lit≤ tt, refl)
listed (Unused b) = (lit≤ tt, refl)
listed OneBand = (lit≤ tt, refl)

-- and what it stands for, with its place, is the refusal itself
pub told_back : (r : Refusal) → refusal_of (class_of r) (where_of r) ≡ r
told_back Length = refl
told_back TooMany = refl
told_back NotFinite = refl
told_back (Domain i) = refl
told_back Masked = refl
told_back (Result i) = refl
told_back Count = refl
told_back (RowTotal r) = refl
told_back StoredLength = refl
told_back (Check b) = refl
told_back (Header b) = refl
told_back (Unused b) = refl
told_back OneBand = refl

-- so different variants have different numbers
pub refusal_one : (r q : Refusal) → class_of r ≡ class_of q → where_of r ≡ where_of q → r ≡ q
refusal_one r q n p = sym (told_back r) ∙ ap (λ k. refusal_of k (where_of r)) n ∙ ap (refusal_of (class_of q)) p ∙ told_back q

-- an answer with the number 0 is done
pub zero_done : (a : Answer) → number_of a ≡ 0 → a ≡ (Ok tt)
zero_done (Ok tt) e = refl
zero_done (Err r) e = absurd (omega (arith, (listed r).0))

-- number and place tell which answer it is
pub told_one : (a b : Answer) → told_of a ≡ told_of b → a ≡ b
told_one (Ok tt) b e = sym (zero_done b (ap (λ t. t.0) (sym e)))
told_one (Err r) (Ok tt) e = zero_done (Err r) (ap (λ t. t.0) e)
told_one (Err r) (Err q) e = ap Err (refusal_one r q (ap (λ t. t.0) e) (ap (λ t. t.1) e))
