-- The two forms: they are sound, the form that leaves out nothing is form 1, and what a block's bytes say of theirs. Assumes nothing.
use Prim.Native.Nat.{ℕ, zero, suc, ◌+◌, ◌-◌, ◌*◌, ◌≤◌, ◌<◌}
use mathlib.Core.Path.{◌≡◌, refl, sym, ap, ◌∙◌, fun_ext}
use mathlib.Core.Bool.{Bool, true, false, not, cond}
use mathlib.Core.List.{List}
use native.Mathlib.Nat.{sub-zero}
use native.Mathlib.Omega.{arith}
use lib.ListN.{length, get_or}
use lib.Dec.{eqb}
use borrow.Author.Tests.{eq-eqb}
use Rattle.lists.specs.Lists.{Filled, tab}
use Rattle.lists.proofs.Tab.{tab_at, tab_same}
use Rattle.lists.proofs.Placed.{filled_all}
use Rattle.answer.specs.Limits.{band_limit, row_limit, parts}
use Rattle.answer.specs.Answer.{judged}
use Rattle.answer.specs.Answer.{Answer}
use Rattle.answer.proofs.Chain.{gives, skip, rest}
use Rattle.block.specs.Form.{Sound}
use Rattle.block.specs.Block.{blocks, given}
use Rattle.block.specs.Read.{bytes_from, word_at, bands_of, rows_of, head_ok_by, row_tests_by, block_tests_by, body_tests_by, gain_at}
use Rattle.table.specs.Asked.{Known}
use Rattle.table.specs.Release.{form1, form, drop_in, form_in, form_of, body_tests, table_gains}
use Rattle.table.proofs.Reading.{Begun, begun_known, runs_of, body_of, gains_are}

pub sound1 : Sound form1
sound1 = record { some = λ B h. h; thin = λ B. omega arith; last = λ B. omega arith; bands = omega arith; lines = omega arith }

pub sound : (d : ℕ) → d ≤ 1 → Sound (form d)
sound d few =
    record { some = λ B h. omega arith; thin = λ B. omega arith; last = λ B. omega arith; bands = omega arith; lines = omega arith }

pub form_zero : form 0 ≡ form1
form_zero =
    ap (λ (w : ℕ → ℕ). record { code = 1; width = w; least = 1; most = band_limit; rows = row_limit; parts = parts }) (fun_ext sub-zero)

-- the form that a block says
pub drop_small : (f : ℕ → ℕ) → drop_in f ≤ 1
unfolding drop_in
drop_small f = go (eqb (word_at f 0) 2)
  where
    go : (b : Bool) → cond b 1 0 ≤ 1
    go true = omega arith
    go false = omega arith

pub drop_is : (f : ℕ → ℕ) (d : ℕ) → d ≤ 1 → word_at f 0 ≡ 1 + d → drop_in f ≡ d
unfolding drop_in
drop_is f zero h e = rw e refl
drop_is f (suc zero) h e = rw e refl
drop_is f (suc (suc d)) h e = absurd (let z : ⊥ = omega arith in z)

pub sound_in : (f : ℕ → ℕ) → Sound (form_in f)
sound_in f = sound (drop_in f) (drop_small f)

-- a header and a block's tests, by the form that was found
pub head_by : {d e : ℕ} → d ≡ e → (f : ℕ → ℕ) (k : ℕ) → head_ok_by (form d) f k ≡ head_ok_by (form e) f k
head_by h f k = ap (λ (x : ℕ). head_ok_by (form x) f k) h

pub block_by : {d e : ℕ} → d ≡ e → (B N : ℕ) (f : ℕ → ℕ) (k : ℕ) → judged (block_tests_by (form d) B N f k) ≡ judged (block_tests_by (form e) B N f k)
block_by h B N f k = ap (λ (x : ℕ). judged (block_tests_by (form x) B N f k)) h

-- a table whose head passed, by what was read of it
module _ (s : List ℕ) (d B N : ℕ) (e : d ≡ drop_in (bytes_from s 0)) (p : B ≡ bands_of (bytes_from s 0)) (q : N ≡ rows_of (bytes_from s 0)) where
  pub known : Begun (form_of s) s → Known s (B - d) B N
  known b = rw e (begun_known (sound_in (bytes_from s 0)) b p q)

  pub body_is : (n : ℕ) (a : Answer) → n ≡ blocks (B - d) N → a ≡ runs_of (form d) s B N n → a ≡ judged (body_tests s)
  body_is n a h r = body_of (form d) s B N p q n a h r ∙ ap (λ (x : ℕ). judged (body_tests_by (form x) s)) e

  -- block 0, whose check and header passed with the head
  pub first_rows : Begun (form_of s) s → (a : Answer) → a ≡ judged (row_tests_by (form d) B N (bytes_from s 0) 0) → a ≡ judged (block_tests_by (form d) B N (bytes_from s 0) 0)
  unfolding block_tests_by
  first_rows b a r =
      let ok : head_ok_by (form d) (bytes_from s 0) 0 ≡ true = head_by e (bytes_from s 0) 0 ∙ b.ok in
      gives (skip (ap not b.checks) (skip (rw (ok, eq-eqb _ _ (sym p), eq-eqb _ _ (sym q)) refl) (rest r)))

  -- its gains
  gains_is : tab (given parts (B - d) B (gain_at (B - d) s)) (N * B) ≡ table_gains s
  gains_is = rw e (gains_are (form_in (bytes_from s 0)) s B N p q)

  pub gain_is : (i : ℕ) → i < N * B → get_or (table_gains s) i 0 ≡ given parts (B - d) B (gain_at (B - d) s) i
  gain_is i l = ap (λ (g : List ℕ). get_or g i 0) (sym gains_is) ∙ tab_at (given parts (B - d) B (gain_at (B - d) s)) (N * B) i 0 l

  -- and those of all rows, as they were copied
  pub gains_of_law : (a l : List ℕ) → length a ≡ N * B → Filled 0 a l (N * B) (λ i. given parts (B - d) B (gain_at (B - d) s) (0 * B + i)) → l ≡ table_gains s
  gains_of_law a l m f =
      filled_all a l (N * B) (N * B) _ f m (omega arith)
      ∙ tab_same _ (given parts (B - d) B (gain_at (B - d) s)) (N * B) (λ i h. ap (given parts (B - d) B (gain_at (B - d) s)) (omega arith))
      ∙ gains_is
