-- A table judged block by block, in the form that its first block says: the start, a feeding, and the answer at the end. Definitions only.
use Rattle.std.specs.Prelude.{ℕ, zero, suc, ◌+◌, ◌/◌, Bool, true, false, not, cond, List, [], ◌∷◌, length, eqb}
use Rattle.answer.specs.Answer.{Test, judged, or_else, when_done}
use Rattle.answer.specs.Answer.{Answer}
use Rattle.std.specs.Prelude.{Ok, Err}
use Rattle.answer.specs.declared.Refusal.TheVariants.{StoredLength, Check, Header}
use Rattle.block.specs.Block.{blocks}
use Rattle.block.specs.Read.{bytes_from, word_at, bands_of, rows_of, checks_ok, head_ok_by, block_tests_by, block_of}
use Rattle.block.specs.declared.form.Form.{Form}
use Rattle.block.specs.declared.form.Form.TheVariants.{One, Two}
use Rattle.table.specs.Release.{rules_of, form_in}
use Rattle.judging.specs.declared.Judging.{Judging}

abbrev pub new_judging : Judging
new_judging = record { next = 0; want = 0; form = One; bands = 0; rows = 0; whole = true; head = (Ok tt); body = (Ok tt) }

-- the form that the bytes f of block 0 say: what it leaves out is `drop_in` of them
unfoldable pub said_form : (ℕ → ℕ) → Form
said_form f = cond (eqb (word_at f 0) 2) Two One

-- block 0's 10 and 11
unfoldable pub first_tests : (ℕ → ℕ) → List Test
first_tests f = (not (checks_ok f), Check 0) ∷ (not (head_ok_by (form_in f) f 0), Header 0) ∷ []

-- after block 0: the blocks that its header calls for, its form, bands and rows
unfoldable pub first_of : Bool → (ℕ → ℕ) → Judging
first_of whole f =
    record {
      next = 1;
      want = when_done (judged (first_tests f)) (blocks ((form_in f).width (bands_of f)) (rows_of f)) 0;
      form = said_form f;
      bands = bands_of f;
      rows = rows_of f;
      whole = whole;
      head = judged (first_tests f);
      body = judged (block_tests_by (form_in f) (bands_of f) (rows_of f) f 0);
    }

-- after a later block: it is looked at where no block before it was refused
unfoldable pub more_of : Judging → (ℕ → ℕ) → Judging
more_of j f = record j { next = j.next + 1; body = or_else j.body (judged (block_tests_by (rules_of j.form) j.bands j.rows f j.next)) }

-- after fewer bytes than a block has
abbrev pub ragged_of : Judging → Judging
ragged_of j = record j { whole = false }

-- no bytes change nothing
unfoldable pub fed_of : Judging → List ℕ → Judging
fed_of j s =
    cond (eqb (length s) 0) j
    (cond (eqb (length s) 512)
    (cond (eqb j.next 0) (first_of j.whole (bytes_from s 0)) (more_of j (bytes_from s 0)))
    (ragged_of j))

-- in the order of RULES, Reading: 9 (empty or no multiple of 512), block 0's 10 and 11, 9 (not the blocks called for), then the blocks
unfoldable pub finished : Judging → Answer
finished j =
    cond (not j.whole) (Err StoredLength)
    (cond (eqb j.next 0) (Err StoredLength)
    (or_else j.head (cond (not (eqb j.next j.want)) (Err StoredLength) j.body)))

-- ---- an input piece after piece: blocks, and at the end what is left
abbrev pub pieces_in : List ℕ → ℕ
pieces_in s = (length s + 511) / 512

-- after the first k pieces, and after all
unfoldable pub fed_to : List ℕ → ℕ → Judging
fed_to s zero = new_judging
fed_to s (suc k) = fed_of (fed_to s k) (block_of s k)

abbrev pub fed_all : List ℕ → Judging
fed_all s = fed_to s (pieces_in s)
