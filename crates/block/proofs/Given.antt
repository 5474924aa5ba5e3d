-- Laws of a row's gains from those that are stored of it. Assumes nothing.
use Prim.Native.Nat.{ℕ, ◌+◌, ◌-◌, ◌*◌, ◌/◌, ◌%◌, ◌≤◌, ◌<◌}
use mathlib.Core.Path.{◌≡◌, refl, sym, ap, ap₂, ◌∙◌}
use mathlib.Core.Bool.{true}
use native.Mathlib.Nat.{mul-add-div_right, mul-add-mod_self_right, div-eq_of_lt, mod-eq_of_lt, add-zero, div-add-mod', mod-lt}
use native.Mathlib.Omega.{arith}
use native.Mathlib.Decide.{dec_lt}
use mathlib.Core.List.{List}
use lib.ListN.{get_or}
use lib.Dec.{leb, eqb}
use borrow.Author.Tests.{lt-ltb, le-ltb, lt-leb, le-leb, eq-eqb, ne_eqb, eqb-true}
use Rattle.lists.specs.Lists.{sum_to}
use Rattle.lists.proofs.Sum.{sum_same, sum_more, sum_join, sum_const}
use Rattle.block.specs.Block.{per_block, row_gain, given, stored}
use Rattle.block.specs.Write.{row_ok}
use Rattle.block.specs.Read.{bytes_from, gain_in, gain_at}
use Rattle.block.specs.Asked.{row_stored}
use Rattle.block.proofs.Totals.{row_sum, row_same}

-- place b of row r, n to a row
pub row_of : (n r b : ℕ) → b < n → (r * n + b) / n ≡ r
row_of n r b l = mul-add-div_right (omega arith) r b ∙ ap (λ (x : ℕ). r + x) (div-eq_of_lt l) ∙ add-zero r

pub column_of : (n r b : ℕ) → b < n → (r * n + b) % n ≡ b
column_of n r b l = mul-add-mod_self_right r n b ∙ mod-eq_of_lt l

module _ (parts W B : ℕ) (f : ℕ → ℕ) where
  pub given_at : (r b : ℕ) → b < B → given parts W B f (r * B + b) ≡ row_gain parts W f r b
  unfolding given
  given_at r b l = rw (row_of B r b l, column_of B r b l)

  pub gain_stored : (r b : ℕ) → b < W → row_gain parts W f r b ≡ f (r * W + b)
  unfolding row_gain
  gain_stored r b l = rw (lt-ltb b W l)

  pub gain_left : (r b : ℕ) → W ≤ b → row_gain parts W f r b ≡ parts - sum_to (λ j. f (r * W + j)) W
  unfolding row_gain
  gain_left r b l = rw (le-ltb b W l)

  -- what a row adds up to
  row_total : (r sum : ℕ) → W ≤ B → sum ≡ sum_to (λ j. f (r * W + j)) W → sum_to (row_gain parts W f r) B ≡ sum + (B - W) * (parts - sum)
  row_total r sum l e =
      let z : W + (B - W) ≡ B = omega arith in
      ap (sum_to (row_gain parts W f r)) (sym z) ∙ sum_join (row_gain parts W f r) W (B - W)
      ∙ ap₂ ◌+◌ (sum_same (row_gain parts W f r) (λ j. f (r * W + j)) W (λ j h. gain_stored r j h) ∙ sym e)
      (sum_same (λ j. row_gain parts W f r (W + j)) (λ j. parts - sum) (B - W)
      (λ j h. gain_left r (W + j) (omega arith) ∙ ap (λ (x : ℕ). parts - x) (sym e))
      ∙ sum_const (parts - sum) (B - W))

  -- so the sum of what is stored says whether it adds up
  row_adds : (r sum d : ℕ) → W ≡ B - d → d ≤ B → sum ≡ sum_to (λ j. f (r * W + j)) W
      → row_ok parts (given parts W B f) B r ≡ eqb (sum + d * (parts - sum)) parts
  unfolding row_ok
  row_adds r sum d w h e =
      let z : B - W ≡ d = omega arith in
      ap (λ (x : ℕ). eqb x parts)
      (sum_same (λ j. given parts W B f (r * B + j)) (row_gain parts W f r) B (given_at r) ∙ row_total r sum (omega arith) e
      ∙ ap (λ (x : ℕ). sum + x * (parts - sum)) z)

-- where one gain is left out, it adds up if what is stored does not pass the parts
adds_less : (parts sum : ℕ) → eqb (sum + 1 * (parts - sum)) parts ≡ leb sum parts
adds_less parts sum = elim (dec_lt parts sum) [
  | yes h ↦ ne_eqb (sum + 1 * (parts - sum)) parts (λ z. omega arith) ∙ sym (lt-leb sum parts h)
  | no h ↦ eq-eqb (sum + 1 * (parts - sum)) parts (omega arith) ∙ sym (le-leb sum parts (omega arith))
]

pub adds_but_one : (parts W B d : ℕ) (f : ℕ → ℕ) (r : ℕ) → W ≡ B - d → d ≡ 1 → d ≤ B → leb (row_stored f W r) parts ≡ row_ok parts (given parts W B f) B r
adds_but_one parts W B d f r w e h = sym (row_adds parts W B f r _ d w h refl ∙ rw e (adds_less parts (row_stored f W r)))

-- rows of which the same is stored
pub gain_same : (parts W : ℕ) (f g : ℕ → ℕ) (r q : ℕ) → ((j : ℕ) → j < W → f (r * W + j) ≡ g (q * W + j))
    → (b : ℕ) → row_gain parts W f r b ≡ row_gain parts W g q b
gain_same parts W f g r q h b = elim (dec_lt b W) [
  | yes l ↦ gain_stored parts W W f r b l ∙ h b l ∙ sym (gain_stored parts W W g q b l)
  | no l ↦
      gain_left parts W W f r b (omega arith) ∙ ap (λ (x : ℕ). parts - x) (sum_same (λ j. f (r * W + j)) (λ j. g (q * W + j)) W h)
      ∙ sym (gain_left parts W W g q b (omega arith))
]

pub given_same : (parts W B : ℕ) (f g : ℕ → ℕ) (r q : ℕ) → ((j : ℕ) → j < W → f (r * W + j) ≡ g (q * W + j))
    → (b : ℕ) → b < B → given parts W B f (r * B + b) ≡ given parts W B g (q * B + b)
given_same parts W B f g r q h b l = given_at parts W B f r b l ∙ gain_same parts W f g r q h b ∙ sym (given_at parts W B g q b l)

-- what is stored of gains, and the gains again
module _ (W B : ℕ) (g : List ℕ) where
  pub stored_row : (r b : ℕ) → b < W → stored W B g (r * W + b) ≡ get_or g (r * B + b) 0
  unfolding stored
  stored_row r b l = rw (row_of W r b l, column_of W r b l)

  pub given_back : (parts r : ℕ) → W ≤ B → B ≤ W + 1 → row_ok parts (λ i. get_or g i 0) B r ≡ true
      → (b : ℕ) → b < B → given parts W B (stored W B g) (r * B + b) ≡ get_or g (r * B + b) 0
  unfolding row_ok
  given_back parts r h n adds b l = given_at parts W B (stored W B g) r b l ∙ (elim (dec_lt b W) [
    | yes m ↦ gain_stored parts W B (stored W B g) r b m ∙ stored_row r b m
    | no m ↦
        let z : b ≡ W = omega arith in
        let y : B ≡ W + 1 = omega arith in
        let t : sum_to (λ j. get_or g (r * B + j) 0) B ≡ parts = eqb-true _ _ adds in
        let u : sum_to (λ j. get_or g (r * B + j) 0) (W + 1) ≡ parts = ap (sum_to (λ j. get_or g (r * B + j) 0)) (sym y) ∙ t in
        let v = sum_more (λ j. get_or g (r * B + j) 0) W _ _ refl refl in
        let w = sum_same (λ j. stored W B g (r * W + j)) (λ j. get_or g (r * B + j) 0) W (λ j k. stored_row r j k) in
        gain_left parts W B (stored W B g) r b (omega arith) ∙ ap (λ (x : ℕ). parts - x) w ∙ rw z (omega (arith, u, v))
  ])

-- and of gains that were worked out, what was stored
pub stored_given : (parts W B : ℕ) (f : ℕ → ℕ) (i : ℕ) → 1 ≤ W → W ≤ B → given parts W B f (i / W * B + i % W) ≡ f i
stored_given parts W B f i h l =
    let m = mod-lt i h in
    given_at parts W B f (i / W) (i % W) (omega arith) ∙ gain_stored parts W B f (i / W) (i % W) m ∙ ap f (div-add-mod' i W)

-- where all of a row is stored, the gains are the stored ones
given_whole : (parts B : ℕ) (f : ℕ → ℕ) (i : ℕ) → 1 ≤ B → given parts B B f i ≡ f i
given_whole parts B f i h = ap (given parts B B f) (sym (div-add-mod' i B)) ∙ stored_given parts B B f i h (omega arith)

pub adds_whole : (parts W B : ℕ) (f : ℕ → ℕ) (r : ℕ) → B ≡ W → 1 ≤ B → eqb (row_stored f B r) parts ≡ row_ok parts (given parts W B f) B r
adds_whole parts W B f r e h =
    rw (← e)
    (sym (row_sum parts f (λ j. f (r * B + j)) B r (row_stored f B r) (λ j l. refl) refl)
    ∙ row_same parts f (given parts B B f) B r r (λ j m. given_whole parts B f (r * B + j) h))

-- stored gain i of block k, in the list of all stored ones
pub gain_in_law : (s : List ℕ) (W k i : ℕ) → 1 ≤ per_block W * W → i < per_block W * W
    → gain_at W s (k * (per_block W * W) + i) ≡ gain_in (bytes_from s (512 * k)) i
unfolding gain_at
gain_in_law s W k i h l =
    let d : (k * (per_block W * W) + i) / (per_block W * W) ≡ k = mul-add-div_right h k i ∙ ap (λ (x : ℕ). k + x) (div-eq_of_lt l) ∙ add-zero k in
    let m : (k * (per_block W * W) + i) % (per_block W * W) ≡ i = mul-add-mod_self_right k (per_block W * W) i ∙ mod-eq_of_lt l in
    rw (d, m)
