-- The table that a first header says, and its form. Assumes nothing.
use Prim.Native.Nat.{ℕ, ◌-◌}
use mathlib.Core.Path.{◌≡◌, refl, sym, ap, ◌∙◌}
use mathlib.Core.Bool.{Bool, true, false, cond, not}
use native.Mathlib.Omega.{arith}
use lib.Dec.{eqb}
use Rattle.std.specs.Prelude.{Option, Some, None, MatchOption, Ok, Err}
use Rattle.std.specs.Result.{IfOk}
use Rattle.std.specs.Option.{ok_or}
use Rattle.std.specs.declared.result.Result.{Result}
use Rattle.answer.specs.Answer.{judged, when_done}
use Rattle.answer.specs.declared.Refusal.{Refusal}
use Rattle.answer.specs.declared.Refusal.TheVariants.{Header}
use Rattle.answer.proofs.Chain.{gives, stop, skip, clear}
use Rattle.block.specs.declared.form.Form.{Form}
use Rattle.block.specs.declared.form.Form.TheVariants.{One, Two}
use Rattle.block.specs.declared.layout.Layout.{Layout}
use Rattle.block.specs.Block.{blocks}
use Rattle.block.specs.Kind.{left_out}
use Rattle.block.specs.Read.{word_at, bands_of, rows_of, checks_ok, head_ok_by}
use Rattle.table.specs.Table.{answer_of}
use Rattle.table.specs.Release.{rules_of, drop_in, form_in}
use Rattle.table.proofs.Forms.{head_by}
use Rattle.judging.specs.Judging.{said_form, first_tests}

-- the form that is said, by what it leaves out
pub said_is : (g : Form) (f : ℕ → ℕ) → left_out g ≡ drop_in f → g ≡ said_form f
unfolding said_form drop_in
said_is g f = go g (eqb (word_at f 0) 2)
  where
    go : (g : Form) (b : Bool) → left_out g ≡ cond b 1 0 → g ≡ cond b Two One
    go One true e = absurd (omega arith)
    go One false e = refl
    go Two true e = refl
    go Two false e = absurd (omega arith)

pub said_left : (f : ℕ → ℕ) → left_out (said_form f) ≡ drop_in f
unfolding said_form drop_in
said_left f = go (eqb (word_at f 0) 2)
  where
    go : (b : Bool) → left_out (cond b Two One) ≡ cond b 1 0
    go true = refl
    go false = refl

-- block 0's answer, where its checks are right, from what is found of its header
pub first_answer : (f : ℕ → ℕ) (g : Form) (found : Option Layout) {a : Result Layout Refusal} → checks_ok f ≡ true → left_out g ≡ drop_in f
    → MatchOption found (head_ok_by (rules_of g) f 0 ≡ false)
    (λ t. (head_ok_by (rules_of g) f 0 ≡ true) × (t.form ≡ g) × (t.bands ≡ bands_of f) × (t.rows ≡ rows_of f))
    → a ≡ ok_or found (Header 0) → answer_of a ≡ judged (first_tests f)
unfolding first_tests
first_answer f g None c o h e = rw e (gives (skip (ap not c) (stop (ap not (sym (head_by o f 0) ∙ h)))))
first_answer f g (Some t) c o h e = rw e (gives (skip (ap not c) (skip (ap not (sym (head_by o f 0) ∙ h.0)) clear)))

-- the blocks that it calls for
abbrev pub named_in : Result Layout Refusal → ℕ
named_in (Ok t) = blocks (t.bands - left_out t.form) t.rows
named_in (Err r) = 0

pub first_named : (f : ℕ → ℕ) (g : Form) (a : Result Layout Refusal) → left_out g ≡ drop_in f → answer_of a ≡ judged (first_tests f)
    → IfOk a (λ t. (t.form ≡ g) × (t.bands ≡ bands_of f) × (t.rows ≡ rows_of f))
    → named_in a ≡ when_done (judged (first_tests f)) (blocks ((form_in f).width (bands_of f)) (rows_of f)) 0
first_named f g (Ok t) o h k = rw (sym h, k.0, k.1, k.2, o) refl
first_named f g (Err r) o h k = rw (sym h) refl
