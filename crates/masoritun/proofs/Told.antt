-- What the table's readers tell, as a C caller sees it: the word, and the numbers that are left. Assumes nothing.
use Prim.Native.Nat.{ℕ, ◌^◌, ◌<◌}
use mathlib.Core.Path.{◌≡◌, sym, ap, ◌∙◌}
use mathlib.Core.List.{List}
use native.Mathlib.Omega.{arith}
use Rattle.std.specs.Prelude.{Ok, Err}
use Rattle.answer.specs.Answer.{place_of, told_of}
use Rattle.answer.specs.declared.Refusal.{Refusal}
use Rattle.table.specs.Table.{TableAnswer, BlockAnswer, table_told_of, block_told_of}
use Rattle.table.specs.Release.{form_of, read_told, block_told}
use Rattle.table.specs.declared.Shape.{Shape}
use Rattle.table.specs.declared.Header.{Header}
use Rattle.table.proofs.Place.{read_told_place, block_told_place}
use Rattle.pack.specs.Pack.{packed, when_zero}
use Rattle.pack.proofs.Packing.{old_left}

-- a table
module _ (s gains : List ℕ) (a : TableAnswer) (e : table_told_of a ≡ read_told s gains) where
  pub table_told_law : (x : Shape) (bands rows : ℕ) → a ≡ Ok x
      → (0 ≡ packed ((read_told s gains).0, (read_told s gains).1))
      × ((x.bands ≡ when_zero (read_told s gains).0 (read_told s gains).2 bands)
      × (x.rows ≡ when_zero (read_told s gains).0 (read_told s gains).3 rows))
  table_told_law x bands rows n =
      let t = ap table_told_of (sym n) ∙ e in
      (ap (λ z. packed (z.0, z.1)) t, (ap (λ z. when_zero z.0 z.2 bands) t, ap (λ z. when_zero z.0 z.3 rows) t))

  pub table_refused : (why : Refusal) (bands rows : ℕ) → a ≡ Err why
      → (packed (told_of (Err why)) ≡ packed ((read_told s gains).0, (read_told s gains).1))
      × ((bands ≡ when_zero (read_told s gains).0 (read_told s gains).2 bands)
      × (rows ≡ when_zero (read_told s gains).0 (read_told s gains).3 rows))
  table_refused why bands rows n =
      let t = ap table_told_of (sym n) ∙ e in (
        ap (λ z. packed (z.0, z.1)) t,
        (old_left why 0 bands ∙ ap (λ z. when_zero z.0 z.2 bands) t, old_left why 0 rows ∙ ap (λ z. when_zero z.0 z.3 rows) t),
      )

  pub table_fits : (why : Refusal) → a ≡ Err why → place_of (Err why) < 2 ^ 56
  table_fits why n = omega (arith, ap (λ z. z.1) (ap table_told_of (sym n) ∙ e), read_told_place (form_of s) s gains)

-- one block
module _ (number : ℕ) (N : number < 2 ^ 32) (s : List ℕ) (a : BlockAnswer) (e : block_told_of a ≡ block_told number s) where
  pub block_told_law : (x : Header) (form bands rows held : ℕ) → a ≡ Ok x
      → (0 ≡ packed ((block_told number s).0, (block_told number s).1))
      × ((x.form ≡ when_zero (block_told number s).0 (block_told number s).2 form)
      × ((x.bands ≡ when_zero (block_told number s).0 (block_told number s).4 bands)
      × ((x.rows ≡ when_zero (block_told number s).0 (block_told number s).5 rows)
      × (x.held ≡ when_zero (block_told number s).0 (block_told number s).6 held))))
  block_told_law x form bands rows held n =
      let t = ap block_told_of (sym n) ∙ e in (
        ap (λ z. packed (z.0, z.1)) t,
        (
          ap (λ z. when_zero z.0 z.2 form) t,
          (ap (λ z. when_zero z.0 z.4 bands) t, (ap (λ z. when_zero z.0 z.5 rows) t, ap (λ z. when_zero z.0 z.6 held) t)),
        ),
      )

  pub block_refused : (why : Refusal) (form bands rows held : ℕ) → a ≡ Err why
      → (packed (told_of (Err why)) ≡ packed ((block_told number s).0, (block_told number s).1))
      × ((form ≡ when_zero (block_told number s).0 (block_told number s).2 form)
      × ((bands ≡ when_zero (block_told number s).0 (block_told number s).4 bands)
      × ((rows ≡ when_zero (block_told number s).0 (block_told number s).5 rows)
      × (held ≡ when_zero (block_told number s).0 (block_told number s).6 held))))
  block_refused why form bands rows held n =
      let t = ap block_told_of (sym n) ∙ e in (
        ap (λ z. packed (z.0, z.1)) t,
        (
          old_left why 0 form ∙ ap (λ z. when_zero z.0 z.2 form) t,
          (
            old_left why 0 bands ∙ ap (λ z. when_zero z.0 z.4 bands) t,
            (old_left why 0 rows ∙ ap (λ z. when_zero z.0 z.5 rows) t, old_left why 0 held ∙ ap (λ z. when_zero z.0 z.6 held) t),
          ),
        ),
      )

  pub block_fits : (why : Refusal) → a ≡ Err why → place_of (Err why) < 2 ^ 56
  block_fits why n = omega (arith, ap (λ z. z.1) (ap block_told_of (sym n) ∙ e), block_told_place (form_of s) number s)
