-- A table that reads, and a block, taken apart and put together again, for any form. Assumes nothing.
use Prim.Native.Nat.{ℕ, ◌*◌, ◌%◌, ◌<◌}
use mathlib.Core.Path.{◌≡◌, refl, sym, ap, ◌∙◌, subst}
use mathlib.Core.Bool.{false, not, ◌||◌}
use mathlib.Core.List.{List, ◌++◌}
use native.Mathlib.Nat.{mul-mod_right}
use native.Mathlib.Omega.{arith}
use lib.ListN.{length}
use lib.Dec.{eqb}
use borrow.Author.Tests.{eqb-true, eq-eqb, ne_eqb, not-false}
use Rattle.answer.specs.Answer.{class_of, judged, when_done}
use Rattle.answer.specs.Answer.{Answer}
use Rattle.std.specs.Prelude.{Ok, Err}
use Rattle.answer.proofs.Numbers.{listed}
use Rattle.answer.proofs.Chain.{opened, gives, skip, clear}
use Rattle.answer.proofs.Joined.{parted}
use Rattle.block.specs.Form.{Form, Sound}
use Rattle.block.specs.Block.{blocks}
use Rattle.block.specs.Read.{bytes_from, bands_of, rows_of, head_tests_by, lent_tests, body_tests_by, read_answer_by, table_answer_by, table_gains_by, read_out_by}
use Rattle.table.specs.Asked.{Known}
use Rattle.table.specs.Table.{table_told_of, table_with, block_told_of, block_with, shape_of, read_told_by, table_told_by}
use Rattle.table.specs.declared.Shape.{Shape}
use Rattle.table.specs.declared.Header.{Header}
use Rattle.block.proofs.Shape.{per_pos, lt_blocks}
use Rattle.block.proofs.Tests.{Within, shape_fits, shape_stores}
use Rattle.table.proofs.Runs.{runs_each, runs_all}
use Rattle.table.proofs.Reading.{begun, begun_head, body_answers, table_body_answers, Good, good, good_passes, gains_many}

-- what is told with number 0 is done, and the values are those told
pub table_done : (a : Answer) (x : Shape) (B N : ℕ) → table_told_of (table_with a x) ≡ (0, 0, B, N) → ((Ok tt) ≡ a) × (x.bands ≡ B) × (x.rows ≡ N)
table_done (Ok tt) x B N e = (refl, ap (λ t. t.2) e, ap (λ t. t.3) e)
table_done (Err r) x B N e = absurd (let z : class_of r ≡ 0 = ap (λ t. t.0) e in omega (arith, (listed r).0))

pub block_done : (a : Answer) (x : Header) (form k B N n : ℕ) → block_told_of (block_with a x) ≡ (0, 0, form, k, B, N, n)
    → ((Ok tt) ≡ a) × (x.bands ≡ B) × (x.rows ≡ N) × (x.form ≡ form)
block_done (Ok tt) x form k B N n e = (refl, ap (λ t. t.4) e, ap (λ t. t.5) e, ap (λ t. t.2) e)
block_done (Err r) x form k B N n e = absurd (let z : class_of r ≡ 0 = ap (λ t. t.0) e in omega (arith, (listed r).0))

-- a table of B bands and N rows
pub record Reads (F : Form) (s : List ℕ) (B N : ℕ) : Type 0 where
  pub shape : Within F B N
  pub long : length s ≡ 512 * blocks (F.width B) N
  pub bands : bands_of (bytes_from s 0) ≡ B
  pub rows : rows_of (bytes_from s 0) ≡ N
  pub each : (k : ℕ) → k < blocks (F.width B) N → Good F B N (bytes_from s (512 * k)) k

pub reads_known : {F : Form} → Sound F → {s : List ℕ} {B N : ℕ} → Reads F s B N → Known s (F.width B) B N
reads_known S r = record { stores = shape_stores S r.shape; long = r.long; bands = sym r.bands; rows = sym r.rows }

-- it has a block
pub reads_some : {F : Form} → Sound F → {s : List ℕ} {B N : ℕ} → Reads F s B N → 0 < blocks (F.width B) N
reads_some {F} S {s} {B} {N} r =
    let z = shape_fits S r.shape in
    lt_blocks (F.width B) N 0 (per_pos (F.width B) z.some z.most) (omega (arith, r.shape.rows))

-- as many gains as rows times bands
pub reads_many : {F : Form} {s : List ℕ} {B N : ℕ} → Reads F s B N → length (table_gains_by F s) ≡ N * B
reads_many {F} {s} {B} {N} r = gains_many F s B N (sym r.bands) (sym r.rows)

-- from head and body
parts_read : {F : Form} (s : List ℕ) → (Ok tt) ≡ judged (head_tests_by F s) → (Ok tt) ≡ judged (body_tests_by F s)
    → Reads F s (bands_of (bytes_from s 0)) (rows_of (bytes_from s 0))
unfolding body_tests_by
parts_read s d e =
    let b = begun s d in
    record {
      shape = (begun_head b).shape;
      long = b.long;
      bands = refl;
      rows = refl;
      each = λ k l. good _ _ _ k (runs_each _ _ e k l);
    }

at_values : {F : Form} (s : List ℕ) (b n B N : ℕ) → b ≡ B → n ≡ N → Reads F s b n → Reads F s B N
at_values {F} s b n B N p q r = subst (λ (x : ℕ). Reads F s x N) p (subst (λ (x : ℕ). Reads F s b x) q r)

-- `read` says so: the table reads, and as many gains were lent
pub reads : (F : Form) (s lent : List ℕ) (B N : ℕ) → read_told_by F s lent ≡ (0, 0, B, N) → Reads F s B N × (length lent ≡ N * B)
unfolding read_answer_by
reads F s lent B N e =
    let t = table_done (read_answer_by F s (length lent)) (shape_of (bytes_from s 0)) B N e in
    let a = parted (head_tests_by F s) (lent_tests s (length lent) ++ body_tests_by F s) t.0 in
    let b = opened _ _ _ a.1 in
    let l : length lent ≡ rows_of (bytes_from s 0) * bands_of (bytes_from s 0) = eqb-true _ _ (not-false _ b.0) in
    (at_values s _ _ B N t.1 t.2 (parts_read s a.0 b.1), rw (t.1, t.2) at l)

-- and what it leaves are the table's gains
pub read_out_law : (F : Form) (s lent : List ℕ) (B N : ℕ) → read_told_by F s lent ≡ (0, 0, B, N) → read_out_by F s lent ≡ table_gains_by F s
read_out_law F s lent B N e =
    sym (ap (λ a. when_done a (table_gains_by F s) lent) (table_done (read_answer_by F s (length lent)) (shape_of (bytes_from s 0)) B N e).0)

-- with nothing lent
pub judged_reads : (F : Form) (s : List ℕ) (B N : ℕ) → table_told_by F s ≡ (0, 0, B, N) → Reads F s B N
unfolding table_answer_by
judged_reads F s B N e =
    let t = table_done (table_answer_by F s) (shape_of (bytes_from s 0)) B N e in
    let a = parted (head_tests_by F s) (body_tests_by F s) t.0 in
    at_values s _ _ B N t.1 t.2 (parts_read s a.0 a.1)

-- and back
module _ {F : Form} (s : List ℕ) (B N : ℕ) (r : Reads F s B N) (some : 0 < blocks (F.width B) N) where
  pub head_passes : (Ok tt) ≡ judged (head_tests_by F s)
  unfolding head_tests_by
  head_passes =
      let g = r.each 0 some in
      let z : length s % 512 ≡ 0 = rw r.long (mul-mod_right 512 (blocks (F.width B) N)) in
      let o : (length s ≡ 0 → ⊥) = λ e. omega (arith, r.long) in
      let a : (eqb (length s) 0 || not (eqb (length s % 512) 0)) ≡ false = rw (ne_eqb (length s) 0 o, eq-eqb (length s % 512) 0 z) in
      gives (skip a (skip (ap not g.checks) (skip (ap not g.head)
      (skip (rw (r.bands, r.rows, eq-eqb (length s) (512 * blocks (F.width B) N) r.long)) clear))))

  body_passes : (Ok tt) ≡ judged (body_tests_by F s)
  unfolding body_tests_by
  body_passes = rw (r.bands, r.rows) (runs_all _ (blocks (F.width B) N) (λ k l. good_passes B N (bytes_from s (512 * k)) k (r.each k l)))

  pub told_read : (lent : List ℕ) → length lent ≡ N * B → read_told_by F s lent ≡ (0, 0, B, N)
  told_read lent l =
      let e = body_answers F s (length lent) (Ok tt) head_passes (rw (r.bands, r.rows) l) body_passes in
      sym (ap (λ a. table_told_of (table_with a (shape_of (bytes_from s 0)))) e) ∙ rw (r.bands, r.rows) refl

  pub told_judged : table_told_by F s ≡ (0, 0, B, N)
  told_judged =
      let e = table_body_answers F s (Ok tt) head_passes body_passes in
      sym (ap (λ a. table_told_of (table_with a (shape_of (bytes_from s 0)))) e) ∙ rw (r.bands, r.rows) refl
