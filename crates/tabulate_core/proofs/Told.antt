-- What `tabulate` tells and leaves at each of its returns. Assumes nothing.
use Prim.Native.Nat.{ℕ, min, ◌+◌, ◌-◌, ◌*◌, ◌/◌, ◌%◌, ◌≤◌, ◌<◌}
use mathlib.Core.Path.{◌≡◌, refl, sym, ap, ap₂, subst, ◌∙◌}
use mathlib.Core.Bool.{Bool, true, false, not, ◌&&◌, cond}
use mathlib.Core.List.{List, ◌++◌}
use native.Mathlib.Omega.{arith}
use native.Mathlib.Nat.{div-eq_of_lt-le, suc-mul}
use native.Mathlib.Numerals.{add-one}
use Rattle.std.proofs.lemmas.Grind.{div_ceil_times}
use borrow.Author.Tests.{lt-leb, lt-ltb, le-ltb, ltb-false}
use lib.Dec.{eqb, leb, ltb}
use lib.ListN.{length, take, drop}
use Rattle.answer.specs.Answer.{judged, class_of, where_of, when_done, Answer}
use Rattle.answer.specs.declared.Refusal.{Refusal}
use Rattle.answer.specs.declared.Refusal.TheVariants.{Count}
use Rattle.std.specs.Prelude.{Ok, Err, None}
use Rattle.answer.proofs.Chain.{Gives, gives, stop, opened}
use Rattle.answer.specs.Limits.{band_limit, row_limit}
use Rattle.table.specs.Release.{form1, shape_ok, table_length}
use Rattle.block.proofs.Tests.{Within}
use Rattle.tabulate_core.specs.Argument.{bands_in, bands_named}
use Rattle.tabulate_core.specs.Rows.{stop_of}
use Rattle.tabulate_core.specs.Tabulate.{rows_in, shape_tests, tabulated_of, or_else, stored_told, stored_out, bands_told, bands_out, tabulate_told, tabulate_out}
use Rattle.tabulate_core.specs.Asked.{Shaped}
use Rattle.tabulate_core.proofs.Argument.{none_named}

-- no bands
pub none_refused : (B N : ℕ) → B < 1 → not (shape_ok B N) ≡ true
none_refused B N h = ap (λ t. not (t && (leb B band_limit && (leb 1 N && leb N row_limit)))) (lt-leb 1 B h)

-- the lent bytes, against those of the table by the code's number of blocks
pub room_short : {n k : ℕ} (room : ℕ) → n ≡ k → room < 512 * n → ltb room (512 * k) ≡ true
room_short {n} room e h = ap (λ (m : ℕ). ltb room (512 * m)) (sym e) ∙ lt-ltb room (512 * n) h

pub room_enough : {n k : ℕ} (room : ℕ) → n ≡ k → 512 * n ≤ room → ltb room (512 * k) ≡ false
room_enough {n} room e h = ap (λ (m : ℕ). ltb room (512 * m)) (sym e) ∙ le-ltb room (512 * n) h

-- within the limits
pub shaped : {B N : ℕ} {s : List ℕ} → Within form1 B N → length s ≡ 4 * (N * B) → Shaped B N s
shaped z l = record { some = z.some; most = z.most; first = z.rows; last = z.last; long = l }

-- the argument w names B bands, and the input has N rows of them, a cut one counted
module _ (w s : List ℕ) {B N : ℕ} (b : B ≡ bands_in w) (n : N ≡ rows_in B (length s)) (bytes : List ℕ) where
  -- from the bands and rows to the argument
  told_by : or_else (judged (shape_tests B N (length s) (length bytes))) (stored_told B N s) ≡ tabulate_told w s (length bytes)
  unfolding tabulate_told
  told_by =
      ap (λ (m : ℕ). or_else (judged (shape_tests B m (length s) (length bytes))) (stored_told B m s)) n
      ∙ ap (λ (c : ℕ). bands_told c s (length bytes)) b

  abbrev written : ℕ → List ℕ
  written m = stored_out B m s (take (table_length B m) bytes) ++ drop (table_length B m) bytes

  left_by : when_done (judged (shape_tests B N (length s) (length bytes))) (written N) bytes ≡ tabulate_out w s bytes
  unfolding tabulate_out
  left_by =
      ap (λ (m : ℕ). when_done (judged (shape_tests B m (length s) (length bytes))) (written m) bytes) n
      ∙ ap (λ (c : ℕ). bands_out c s bytes) b

  pub tells_refused : (r : Refusal) {t : ℕ × ℕ × ℕ} → Gives (shape_tests B N (length s) (length bytes)) (Err r) → t ≡ (class_of r, where_of r, 0)
      → (t ≡ tabulate_told w s (length bytes)) × (bytes ≡ tabulate_out w s bytes)
  tells_refused r g e =
      (e ∙ ap (λ a. or_else a (stored_told B N s)) (gives g) ∙ told_by, ap (λ a. when_done a (written N) bytes) (gives g) ∙ left_by)

  pub tells_stored : {end : ℕ} {t : ℕ × ℕ × ℕ} (left : List ℕ) → end ≡ table_length B N → Gives (shape_tests B N (length s) (length bytes)) (Ok tt) → t ≡ stored_told B N s
      → left ≡ stored_out B N s (take end bytes) → (t ≡ tabulate_told w s (length bytes)) × (left ++ drop end bytes ≡ tabulate_out w s bytes)
  tells_stored {end} left k g e l = (
    e ∙ ap (λ a. or_else a (stored_told B N s)) (gives g) ∙ told_by,
    ap₂ (λ x m. x ++ drop m bytes) l k ∙ ap (λ (m : ℕ). stored_out B N s (take m bytes) ++ drop (table_length B N) bytes) k
        ∙ ap (λ a. when_done a (written N) bytes) (gives g) ∙ left_by,
  )

-- an argument that names no bands
pub tells_none : (w s : List ℕ) {t : ℕ × ℕ × ℕ} → None ≡ bands_named w → (bytes : List ℕ) → t ≡ (7, 0, 0)
    → (t ≡ tabulate_told w s (length bytes)) × (bytes ≡ tabulate_out w s bytes)
tells_none w s b bytes e =
    let z = none_named w b in
    tells_refused w s (sym z) refl bytes Count (stop (none_refused 0 (rows_in 0 (length s)) (omega arith))) e

-- the rows of an input, as the code rounds them up
pub rows_up : (n : ℕ) {B r : ℕ} → 1 ≤ B → r ≡ n / (4 * B) + min 1 (n % (4 * B)) → r ≡ rows_in B n
unfolding rows_in
rows_up n {B} h e =
    let m = 4 * B in
    let q = n / m + min 1 (n % m) in
    let both : (n ≤ q * m) × (q * m < n + m) = div_ceil_times n m (omega arith) in
    e ∙ sym (div-eq_of_lt-le {k = q} m {m = n + (m - 1)} (omega arith) (omega (arith, suc-mul q m, ap (λ x. x * m) (add-one q))))

-- a table that is told of has room in the lent bytes
pick_fits : (b : Bool) (n p end room : ℕ) → end ≤ room → (cond {A = ℕ × ℕ × ℕ} b (0, 0, end) (n, p, 0)).2 ≤ room
pick_fits true n p end room h = h
pick_fits false n p end room h = omega arith

stored_fits : (B N : ℕ) (s : List ℕ) (room : ℕ) (a : Answer) → a ≡ judged (shape_tests B N (length s) room) → (or_else a (stored_told B N s)).2 ≤ room
unfolding stored_told
stored_fits B N s room (Err r) e = omega arith
stored_fits B N s room (Ok tt) e =
    pick_fits (eqb (stop_of B s N).0 0) (stop_of B s N).0 (stop_of B s N).1 (table_length B N) room
    (ltb-false room (table_length B N) (opened _ _ _ (opened _ _ _ (opened _ _ _ e).1).1).0)

pub told_fits : (w s : List ℕ) {room n : ℕ} → tabulated_of (Ok n) ≡ tabulate_told w s room → n ≤ room
unfolding tabulate_told
told_fits w s {room} e =
    subst (λ (n : ℕ). n ≤ room) (sym (ap (λ x. x.2) e)) (stored_fits (bands_in w) (rows_in (bands_in w) (length s)) s room _ refl)
