-- RULES, Numbers: each answer's number and place, the first of a call's tests that holds, and what a refusal leaves. Definitions only.
use Rattle.std.specs.Prelude.{ℕ, ◌≡◌, Bool, cond, List, [], ◌∷◌, ⊤}
use Rattle.answer.specs.declared.Refusal.{Refusal}
use Rattle.answer.specs.declared.Refusal.TheVariants.{Length, TooMany, NotFinite, Domain, Masked, Result, Count, RowTotal, StoredLength, Check, Header, Unused, OneBand}
use Rattle.std.specs.Prelude.{Ok, Err}

-- what a call answers: nothing more, or why it refuses
abbrev pub Answer : Type 0
Answer = Rattle.std.specs.declared.result.Result.Result ⊤ Refusal

-- a refusal's number
abbrev pub class_of : Refusal → ℕ
class_of Length = 1
class_of TooMany = 2
class_of NotFinite = 3
class_of (Domain i) = 4
class_of Masked = 5
class_of (Result i) = 6
class_of Count = 7
class_of (RowTotal r) = 8
class_of StoredLength = 9
class_of (Check b) = 10
class_of (Header b) = 11
class_of (Unused b) = 12
class_of OneBand = 15

-- and its place: an element, a row or a block
abbrev pub where_of : Refusal → ℕ
where_of Length = 0
where_of TooMany = 0
where_of NotFinite = 0
where_of (Domain i) = i
where_of Masked = 0
where_of (Result i) = i
where_of Count = 0
where_of (RowTotal r) = r
where_of StoredLength = 0
where_of (Check b) = b
where_of (Header b) = b
where_of (Unused b) = b
where_of OneBand = 0

-- the answer's number and place
abbrev pub number_of : Answer → ℕ
number_of (Ok tt) = 0
number_of (Err r) = class_of r

abbrev pub place_of : Answer → ℕ
place_of (Ok tt) = 0
place_of (Err r) = where_of r

abbrev pub told_of : Answer → ℕ × ℕ
told_of a = (number_of a, place_of a)

-- what a call leaves: the new value where it is done, the old one where it is refused
abbrev pub when_done : {A : Type 0} → Answer → A → A → A
when_done (Ok tt) new old = new
when_done (Err r) new old = old

-- what a call that answers values tells: number and place, and its values, other ones where it is refused
abbrev pub told_with : {A : Type 0} → Answer → A → A → (ℕ × ℕ) × A
told_with a done refused = (told_of a, when_done a done refused)

-- what a call tells that answers a value or refuses: number and place, and the value, another one where it is refused
abbrev pub value_told : {A : Type 0} → A → Rattle.std.specs.declared.result.Result.Result A Refusal → (ℕ × ℕ) × A
value_told refused (Ok v) = ((0, 0), v)
value_told refused (Err r) = ((class_of r, where_of r), refused)

-- a test, and the refusal that is given where it holds
abbrev pub Test : Type 0
Test = Bool × Refusal

-- the first of the tests that holds; done where none does
unfoldable pub judged : List Test → Answer
judged [] = (Ok tt)
judged (t ∷ ts) = cond t.0 (Err t.1) (judged ts)

-- the first of two answers that is a refusal
abbrev pub or_else : Answer → Answer → Answer
or_else (Ok tt) b = b
or_else (Err r) b = Err r

-- the answer tells t, and l is what is left where v is promised
pub record Outcome {A : Type 0} (t : ℕ × ℕ) (v : A) (answer : Answer) (l : A) : Type 0 where
  pub told : told_of answer ≡ t
  pub left : l ≡ v
