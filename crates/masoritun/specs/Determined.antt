-- For each call of the C boundary: two outcomes that its promise allows are equal, the word and every lent number. Statements only.
use Rattle.std.specs.Prelude.{ℕ, ◌≡◌, Bool, List, Float}
use Rattle.pack.specs.Pack.{packed, when_zero, Determined}
use Rattle.unary.specs.Unary.{apply_told, apply_out}
use Rattle.unary.specs.declared.Op.TheVariants.{Exp, ReducedRangeExp, Sigmoid, Silu, Swish, Elu, Tanh, Erf, Gelu, ApproxGelu, Sin, Cos}
use Rattle.sum.specs.Sum.{add_up_told}
use Rattle.sum.specs.declared.SumOp.TheVariants.{Sum, SumSquare, SumAbs, SumSquareSub, SumExpSub}
use Rattle.min_max.specs.MinMax.{min_max_told, max_num_told, min_num_told}
use Rattle.softmax.specs.Softmax.{softmax_told, softmax_out}
use Rattle.softmax.specs.Softmax as softmax
use Rattle.normalize.specs.Normalize.{normalize_told, normalize_out}
use Rattle.normalize.specs.Normalize as normalize
use Rattle.normalize.specs.declared.Settings.{Settings}
use Rattle.quantize.specs.Quantize.{quantize_told, quantize_out}
use Rattle.split.specs.Split.{split_told, split_out}
use Rattle.meter.specs.Meter.{feed_of, fed_told}
use Rattle.meter.specs.declared.Meter.{Meter}
use Rattle.table.specs.Release.{write_told, write_out, read_told, read_out, block_told}
use Rattle.moving.specs.Moving.{move_told, move_out}
use Rattle.masoritun.specs.Masoritun.{left_of, version}

pub record EachCall : Type 0 where
  -- the operators
  pub mst_exp : (src dst : List Float) → Determined (packed (apply_told Exp src dst)) (apply_out Exp src dst)
  pub mst_reduced_range_exp : (src dst : List Float) → Determined (packed (apply_told ReducedRangeExp src dst)) (apply_out ReducedRangeExp src dst)
  pub mst_sigmoid : (src dst : List Float) → Determined (packed (apply_told Sigmoid src dst)) (apply_out Sigmoid src dst)
  pub mst_silu : (src dst : List Float) → Determined (packed (apply_told Silu src dst)) (apply_out Silu src dst)
  pub mst_swish : (alpha : Float) (src dst : List Float) → Determined (packed (apply_told (Swish alpha) src dst)) (apply_out (Swish alpha) src dst)
  pub mst_elu : (alpha : Float) (src dst : List Float) → Determined (packed (apply_told (Elu alpha) src dst)) (apply_out (Elu alpha) src dst)
  pub mst_tanh : (src dst : List Float) → Determined (packed (apply_told Tanh src dst)) (apply_out Tanh src dst)
  pub mst_erf : (src dst : List Float) → Determined (packed (apply_told Erf src dst)) (apply_out Erf src dst)
  pub mst_gelu : (src dst : List Float) → Determined (packed (apply_told Gelu src dst)) (apply_out Gelu src dst)
  pub mst_approx_gelu : (src dst : List Float) → Determined (packed (apply_told ApproxGelu src dst)) (apply_out ApproxGelu src dst)
  pub mst_sin : (src dst : List Float) → Determined (packed (apply_told Sin src dst)) (apply_out Sin src dst)
  pub mst_cos : (src dst : List Float) → Determined (packed (apply_told Cos src dst)) (apply_out Cos src dst)
  -- the sums and extremes, with the numbers that are part of the answer
  pub mst_sum : (src : List Float) → Determined (packed (add_up_told Sum src).0) (add_up_told Sum src).1
  pub mst_sum_square : (src : List Float) → Determined (packed (add_up_told SumSquare src).0) (add_up_told SumSquare src).1
  pub mst_sum_abs : (src : List Float) → Determined (packed (add_up_told SumAbs src).0) (add_up_told SumAbs src).1
  pub mst_sum_square_sub : (offset : Float) (src : List Float) → Determined (packed (add_up_told (SumSquareSub offset) src).0) (add_up_told (SumSquareSub offset) src).1
  pub mst_sum_exp_sub : (offset : Float) (src : List Float) → Determined (packed (add_up_told (SumExpSub offset) src).0) (add_up_told (SumExpSub offset) src).1
  pub mst_min_max : (src : List Float) → Determined (packed (min_max_told src).0) (min_max_told src).1
  pub mst_max_num : (src : List Float) → Determined (packed (max_num_told src).0) (max_num_told src).1
  pub mst_min_num : (src : List Float) → Determined (packed (min_num_told src).0) (min_num_told src).1
  -- the kernels over slices
  pub mst_softmax : (flush : Bool) (src dst : List Float) → Determined (packed (softmax_told flush src dst)) (softmax_out flush src dst)
  pub mst_softmax_in_place : (flush : Bool) (buf : List Float) → Determined (packed (softmax.in_place_told flush buf)) (softmax.in_place_out flush buf)
  pub mst_normalize : (st : Settings) (hs : Bool) (es : List Float) (hb : Bool) (eb src dst : List Float)
      → Determined (packed (normalize_told st hs es hb eb src dst)) (normalize_out st hs es hb eb src dst)
  pub mst_normalize_in_place : (st : Settings) (hs : Bool) (es : List Float) (hb : Bool) (eb buf : List Float)
      → Determined (packed (normalize.in_place_told st hs es hb eb buf)) (normalize.in_place_out st hs es hb eb buf)
  pub mst_quantize : (inv : Float) (zp : ℕ) (src : List Float) (dst : List ℕ) → Determined (packed (quantize_told inv src dst)) (quantize_out inv zp src dst)
  pub mst_split : (levels : List Float) (gains : List ℕ) → Determined (packed (split_told levels gains)) (split_out levels gains)
  -- a meter's five numbers; a table's bytes; gains with bands and rows; a block's form, bands, rows and rows held; a moved table's bytes
  pub mst_meter_feed : (held : Meter) (src : List Float) → Determined (packed (fed_told (feed_of held src)).0) (left_of held src)
  pub mst_table_write : (B N : ℕ) (gains bytes : List ℕ) → Determined (packed (write_told B N gains bytes)) (write_out B N gains bytes)
  pub mst_table_read : (bytes gains : List ℕ) (bands rows : ℕ)
      → (let t = read_told bytes gains in
      Determined {A = List ℕ × ℕ × ℕ} (packed (t.0, t.1)) (read_out bytes gains, when_zero t.0 t.2 bands, when_zero t.0 t.3 rows))
  pub mst_table_read_block : (number : ℕ) (bytes : List ℕ) (form bands rows held : ℕ)
      → (let t = block_told number bytes in
      Determined {A = ℕ × ℕ × ℕ × ℕ} (packed (t.0, t.1))
      (when_zero t.0 t.2 form, when_zero t.0 t.4 bands, when_zero t.0 t.5 rows, when_zero t.0 t.6 held))
  pub mst_table_to_form_1 : (bytes result : List ℕ) → Determined (packed (move_told 0 bytes result)) (move_out 0 bytes result)
  pub mst_table_to_form_2 : (bytes result : List ℕ) → Determined (packed (move_told 1 bytes result)) (move_out 1 bytes result)

-- of `mst_version`, to which nothing is lent
abbrev pub VersionCall : Type 0
VersionCall = (r s : ℕ) → r ≡ version → s ≡ version → r ≡ s
