-- What is held of an input that is read once: `Kept` from block after block, and the text of the held blocks (`HeldShows`). Assumes nothing.
use Prim.Native.Nat.{ℕ, suc, ◌+◌, ◌-◌, ◌*◌, ◌/◌, ◌≤◌, ◌<◌, min}
use mathlib.Core.Path.{◌≡◌, refl, sym, ap, ap₂, ◌∙◌, subst}
use mathlib.Core.List.{List, [], ◌∷◌, ◌++◌}
use native.Mathlib.Decide.{dec_le}
use native.Mathlib.Numerals.{add-one}
use native.Mathlib.Omega.{arith}
use lib.ListN.{length, take, drop, length-append}
use lib.Seq.{take_all, take-append-le}
use Rattle.lists.proofs.Join.{join_same}
use Rattle.answer.specs.Limits.{band_limit, table_limit}
use Rattle.answer.specs.Answer.{Answer}
use Rattle.std.specs.Prelude.{Ok, Err}
use Rattle.digits.specs.Digits.{written, put_out, put_next}
use Rattle.digits.proofs.Written.{put_done, put_not, written_length, written_front}
use Rattle.block.specs.Block.{blocks}
use Rattle.block.specs.Read.{bytes_from, bands_of, rows_of, block_of}
use Rattle.block.specs.Asked.{Stores}
use Rattle.block.specs.Kind.{left_out}
use Rattle.block.proofs.Cut.{block_cut}
use Rattle.block.proofs.Shape.{few_bytes}
use Rattle.block.proofs.Tests.{left_out_small}
use Rattle.table.specs.Table.{table_told_of, table_with, shape_of}
use Rattle.table.specs.Release.{form, rules_of, drop_in, form_of, table_answer}
use Rattle.table.proofs.Forms.{sound}
use Rattle.table.proofs.Readable.{Reads, judged_reads, reads_known}
use Rattle.judging.specs.declared.Judging.{Judging}
use Rattle.judging.specs.Judging.{new_judging, fed_of, finished, fed_to}
use Rattle.judging.proofs.Fed.{fed_start, fed_none, fed_next, fed_more}
use Rattle.lister_core.specs.Lines.{head_line}
use Rattle.lister_core.specs.Lister.{block_lines_by, listed}
use Rattle.lister_facts.specs.ByBlocks.{text_by_blocks, shown}
use Rattle.lister_facts.specs.Held.{Kept, HeldShows}
use Rattle.lister_facts.proofs.Judged.{judged_by_blocks, shape_is}
use Rattle.lister_facts.proofs.Listed.{listed_by_blocks}

-- ---- whole blocks so far: all fed, and held as long as there is room
pub record Holding (j : Judging) (held : List ℕ) (at : ℕ) : Type 0 where
  pub fed : List ℕ
  pub long : length fed ≡ 512 * j.next
  pub state : j ≡ fed_to fed j.next
  pub place : at ≡ min (512 * j.next) (512 * (length held / 512))
  pub same : (n : ℕ) → 512 * n ≤ length fed → 512 * n ≤ length held → take (512 * n) held ≡ take (512 * n) fed

none_same : (held : List ℕ) (n : ℕ) → 512 * n ≤ 0 → take (512 * n) held ≡ take (512 * n) []
none_same held n l = let z : 512 * n ≡ 0 = omega arith in rw z refl

pub holding_none : (held : List ℕ) → Holding new_judging held 0
holding_none held = record { fed = []; long = refl; state = fed_start []; place = omega arith; same = λ n l m. none_same held n l }

-- a block more, which is put where there is room
pub holding_more : (j i : Judging) (held left b : List ℕ) (at next : ℕ) → Holding j held at → length b ≡ 512 → i ≡ fed_of j b
    → next ≡ put_next b at held → left ≡ put_out b at held → Holding i left next
holding_more j i held left b at next h l e p q =
    let k = j.next in
    let f = h.fed in
    let n : i.next ≡ k + 1 = ap (λ (x : Judging). x.next) e ∙ fed_next j b l in
    let m : length (f ++ b) ≡ 512 * i.next = length-append f b ∙ omega (arith, h.long) in
    let s : i ≡ fed_to (f ++ b) i.next =
    e ∙ ap (λ (x : Judging). fed_of x b) h.state ∙ fed_more f b k h.long (omega arith)
    ∙ ap (fed_to (f ++ b)) (sym (n ∙ add-one k)) in
    elim (dec_le (at + 512) (length held)) [
      | yes room ↦
          let d = put_done b at held _ (omega arith) refl in
          let w : left ≡ written b at held = q ∙ sym d.1 in
          let o : length left ≡ length held = ap length w ∙ written_length b at held (omega arith) in
          let z : at ≡ 512 * k = omega (arith, h.place) in
          let all : take at held ≡ f = rw z (h.same k (omega (arith, h.long)) (omega arith) ∙ take_all (512 * k) f (omega (arith, h.long))) in
          record {
            fed = f ++ b;
            long = m;
            state = s;
            place = p ∙ sym d.0 ∙ omega (arith, h.place, o);
            same = λ x y v. ap (take (512 * x)) w ∙ written_front b at held f (512 * x) all y;
          }
      | no full ↦
          let d = put_not b at held (omega arith) in
          let w : left ≡ held = q ∙ sym d.1 in
          record {
            fed = f ++ b;
            long = m;
            state = s;
            place = p ∙ sym d.0 ∙ omega (arith, h.place, ap length w);
            same = λ x y v.
                let u : 512 * x ≤ length f = omega (arith, h.place, h.long, ap length w) in
                ap (take (512 * x)) w ∙ h.same x u (omega (arith, ap length w)) ∙ sym (take-append-le (512 * x) f b u);
          }
    ]

-- ---- at the end: nothing was fed, or what is left is fed
pub kept_none : (j : Judging) (held : List ℕ) → j ≡ new_judging → Kept j held
kept_none j held e = record { input = []; fed = e ∙ fed_start []; same = λ n l m. none_same held n l }

pub kept_all : (j : Judging) (held : List ℕ) (at : ℕ) → Holding j held at → Kept j held
kept_all j held at h =
    let n : (length h.fed + 511) / 512 ≡ j.next = omega (arith, h.long) in
    record { input = h.fed; fed = h.state ∙ ap (fed_to h.fed) (sym n); same = h.same }

pub kept_last : (j i : Judging) (held rest : List ℕ) (at : ℕ) → Holding j held at → length rest < 512 → i ≡ fed_of j rest → Kept i held
kept_last j i held [] at h l e = kept_all i held at (rw (e ∙ fed_none j) h)
kept_last j i held (x ∷ xs) at h l e =
    let f = h.fed in
    let r = x ∷ xs in
    let n : (length (f ++ r) + 511) / 512 ≡ suc j.next = omega (arith, h.long, length-append f r) in
    record {
      input = f ++ r;
      fed = e ∙ ap (λ (y : Judging). fed_of y r) h.state ∙ fed_more f r j.next h.long (omega arith)
          ∙ ap (fed_to (f ++ r)) (sym n);
      same = λ y u v.
          let w : 512 * y ≤ length f = omega (arith, h.long, length-append f r) in
          h.same y w v ∙ sym (take-append-le (512 * y) f r w);
    }

-- ---- a table that was judged whole, and is held whole
pub record Ready (j : Judging) (n : ℕ) : Type 0 where
  pub stores : Stores (j.bands - left_out j.form) j.bands j.rows
  pub want : j.want ≡ blocks (j.bands - left_out j.form) j.rows
  pub room : 512 * j.want ≤ n

module _ (j : Judging) (held : List ℕ) (h : Kept j held) (room : table_limit ≤ length held) (d : (Ok tt) ≡ finished j) where
  abbrev s : List ℕ
  s = h.input

  answer : (Ok tt) ≡ table_answer s
  answer = d ∙ ap finished h.fed ∙ judged_by_blocks s

  shape : (j.bands ≡ bands_of (bytes_from s 0)) × (j.rows ≡ rows_of (bytes_from s 0))
      × (j.want ≡ blocks ((form_of s).width (bands_of (bytes_from s 0))) (rows_of (bytes_from s 0))) × (left_out j.form ≡ drop_in (bytes_from s 0))
  shape =
      let x = shape_is s answer in
      (ap (λ (y : Judging). y.bands) h.fed ∙ x.0, ap (λ (y : Judging). y.rows) h.fed ∙ x.1, ap (λ (y : Judging). y.want) h.fed ∙ x.2, ap (λ (y : Judging). left_out y.form) h.fed ∙ x.3)

  table : Reads (rules_of j.form) s j.bands j.rows
  table =
      subst (λ (x : ℕ). Reads (form x) s j.bands j.rows) (sym shape.3)
      (judged_reads (form_of s) s j.bands j.rows
      (sym (ap (λ a. table_told_of (table_with a (shape_of (bytes_from s 0)))) answer)
      ∙ at_values (sym shape.0) (sym shape.1)))
    where
      at_values : {b c n m : ℕ} → b ≡ c → n ≡ m → ◌≡◌ {A = ℕ × ℕ × ℕ × ℕ} (0, 0, b, n) (0, 0, c, m)
      at_values p q = rw (p, q) refl

  want : j.want ≡ blocks (j.bands - left_out j.form) j.rows
  want = shape.2 ∙ ap₂ blocks (ap₂ ◌-◌ (sym shape.0) (sym shape.3)) (sym shape.1)

  few : 512 * j.want ≤ table_limit
  few = omega (arith, want, few_bytes (j.bands - left_out j.form) band_limit j.rows (omega (arith, table.shape.some)) (omega (arith, table.shape.most)) (omega arith) table.shape.last)

  pub ready : Ready j (length held)
  ready = record { stores = (reads_known (sound (left_out j.form) (left_out_small j.form)) table).stores; want = want; room = omega (arith, few) }

  held_blocks : (k : ℕ) → k < j.want → block_of held k ≡ block_of s k
  held_blocks k l =
      let m : length s ≡ 512 * j.want = table.long ∙ ap (λ (n : ℕ). 512 * n) (sym want) in
      block_cut held k (omega (arith, few)) ∙ ap (drop (512 * k)) (h.same (suc k) (omega arith) (omega (arith, few))) ∙ sym (block_cut s k (omega arith))

  held_text : text_by_blocks j held ≡ text_by_blocks j s
  unfolding text_by_blocks
  held_text =
      ap (λ (t : List ℕ). head_line j.bands j.rows ++ t)
      (join_same _ _ j.want (λ k l. ap (λ (b : List ℕ). block_lines_by (rules_of j.form) j.bands j.rows (bytes_from b 0) k) (held_blocks k l)))

pub held_shows : HeldShows
held_shows j held h room = go (finished j) refl ∙ whole
  where
    whole : shown (finished j) j h.input ≡ listed h.input
    whole = ap (λ (x : Judging). shown (finished x) x h.input) h.fed ∙ listed_by_blocks h.input

    go : (a : Answer) → a ≡ finished j → shown a j held ≡ shown a j h.input
    go (Ok tt) e = held_text j held h room e
    go (Err r) e = refl
