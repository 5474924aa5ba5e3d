-- What the tests of a form's limits and of a header say. Assumes nothing.
use Prim.Native.Nat.{ℕ, ◌≤◌, ◌<◌}
use mathlib.Core.Path.{◌≡◌, refl, ap}
use mathlib.Core.Bool.{Bool, true, false}
use native.Mathlib.Nat.{le_trans}
use native.Mathlib.Omega.{arith}
use borrow.Author.Tests.{leb-true, le-leb, ltb-true, lt-ltb, eqb-true, eq-eqb}
use Rattle.lists.proofs.Tests.{both}
use Rattle.block.specs.declared.form.Form as form
use Rattle.block.specs.declared.form.Form.TheVariants.{One, Two}
use Rattle.block.specs.contracts.form.Form.{the_type}
use denote.Enum.Bare.{sameb, same_true, same_false}
use Rattle.block.specs.Kind.{left_out}
use Rattle.block.specs.Form.{Form, Sound}
use Rattle.block.specs.Block.{blocks}
use Rattle.block.specs.Write.{shape_ok_by}
use Rattle.block.specs.Read.{word_at, bands_of, rows_of, head_ok_by, head_fits_by}
use Rattle.block.specs.Asked.{Fits, Stores}

-- a form leaves out one gain of a row at most
pub left_out_small : (f : form.Form) → left_out f ≤ 1
left_out_small One = omega arith
left_out_small Two = omega arith

-- what `==` tells of two
pub same_left : (a b : form.Form) → sameb the_type a b ≡ true → left_out a ≡ left_out b
same_left a b e = ap left_out (same_true the_type tt a b e)

pub other_left : (a b : form.Form) → sameb the_type a b ≡ false → left_out a ≡ left_out b → ⊥
other_left One One e z = same_false the_type One One e refl
other_left One Two e z = omega (arith, z)
other_left Two One e z = omega (arith, z)
other_left Two Two e z = same_false the_type Two Two e refl

-- bands and rows within their limits
pub record Within (F : Form) (B N : ℕ) : Type 0 where
  pub some : F.least ≤ B
  pub most : B ≤ F.most
  pub rows : 1 ≤ N
  pub last : N ≤ F.rows

pub shape_is : {F : Form} (B N : ℕ) → shape_ok_by F B N ≡ true → Within F B N
shape_is B N h =
    let a = both _ _ h in
    let b = both _ _ a.1 in
    let c = both _ _ b.1 in
    record { some = leb-true _ _ a.0; most = leb-true _ _ b.0; rows = leb-true _ _ c.0; last = leb-true _ _ c.1 }

pub shape_ok_law : {F : Form} {B N : ℕ} → Within F B N → shape_ok_by F B N ≡ true
shape_ok_law z = rw (le-leb _ _ z.some, le-leb _ _ z.most, le-leb _ _ z.rows, le-leb _ _ z.last)

-- rows of a sound form fit blocks
pub shape_stores : {F : Form} {B N : ℕ} → Sound F → Within F B N → Stores (F.width B) B N
shape_stores {F} {B} S z =
    let most = le_trans z.most S.bands in
    record {
      fits = record { some = S.some B z.some; most = le_trans (S.thin B) most; rows = le_trans z.last S.lines };
      thin = S.thin B;
      bands = most;
    }

pub shape_fits : {F : Form} {B N : ℕ} → Sound F → Within F B N → Fits (F.width B) N
shape_fits S z = (shape_stores S z).fits

-- what a good header says
pub record Head (F : Form) (f : ℕ → ℕ) (k : ℕ) : Type 0 where
  pub form : word_at f 0 ≡ F.code
  pub number : word_at f 2 ≡ k
  pub shape : Within F (bands_of f) (rows_of f)
  pub inside : k < blocks (F.width (bands_of f)) (rows_of f)

pub head_is : {F : Form} (f : ℕ → ℕ) (k : ℕ) → head_ok_by F f k ≡ true → Head F f k
unfolding head_ok_by
head_is f k h =
    let a = both _ _ h in
    let b = both _ _ a.1 in
    let c = both _ _ b.1 in
    record { form = eqb-true _ _ a.0; number = eqb-true _ _ b.0; shape = shape_is (bands_of f) (rows_of f) c.0; inside = ltb-true _ _ c.1 }

-- and back, with what it says, and where it cannot say that
pub head_ok_law : {F : Form} (f : ℕ → ℕ) (k : ℕ) → Head F f k → head_ok_by F f k ≡ true
unfolding head_ok_by
head_ok_law f k h = rw (eq-eqb _ _ h.form, eq-eqb _ _ h.number, shape_ok_law h.shape, lt-ltb _ _ h.inside) refl

pub head_not : {F : Form} (f : ℕ → ℕ) (k : ℕ) → (Head F f k → ⊥) → head_ok_by F f k ≡ false
head_not {F} f k other = go (head_ok_by F f k) refl
  where
    go : (b : Bool) → head_ok_by F f k ≡ b → b ≡ false
    go true e = absurd (other (head_is {F = F} f k e))
    go false e = refl

-- and one that fits a table of B bands and N rows
pub head_fits : {F : Form} → Sound F → (B N : ℕ) (f : ℕ → ℕ) (k : ℕ) → head_fits_by F B N f k ≡ true
    → Stores (F.width B) B N × (k < blocks (F.width B) N)
head_fits {F} S B N f k h =
    let a = both _ _ h in
    let b = both _ _ a.1 in
    let g : Head F f k = head_is f k a.0 in
    let p : bands_of f ≡ B = eqb-true _ _ b.0 in
    let q : rows_of f ≡ N = eqb-true _ _ b.1 in
    (shape_stores S (rw (p, q) at g.shape), rw (p, q) at g.inside)

-- the number of another form
pub no_form : (F : Form) (f : ℕ → ℕ) (k : ℕ) → (word_at f 0 ≡ F.code → ⊥) → head_ok_by F f k ≡ false
no_form F f k other = head_not {F = F} f k (λ h. other h.form)

-- more bands than the form has
pub no_bands : (F : Form) (f : ℕ → ℕ) (k : ℕ) → F.most < bands_of f → head_ok_by F f k ≡ false
no_bands F f k far = head_not {F = F} f k (λ h. omega (arith, far, h.shape.most))

-- a number that no header can hold, above 65,535, is no block's
pub no_number : (F : Form) (f : ℕ → ℕ) (k : ℕ) → ((i : ℕ) → f i < 256) → 65535 < k → head_ok_by F f k ≡ false
no_number F f k small far = head_not {F = F} f k (λ h. omega (arith, far, h.number, small 2, small 3))
