-- tanh.rs over one lane, each step rounded once, in the Rust's order; a zero keeps its sign, which there it does not. Definitions, and a claim.
use Rattle.std.specs.Prelude.{◌≡◌, true, cond, Float}
use Rattle.std.specs.Float.{binary32}
use Rattle.std.specs.Float.Ieee.{add, sub, mul, div, neg, eq, le}
use Rattle.floats.specs.Values.{zero_f, one_f, two_f}
use Rattle.consts.specs.Consts.{tanh_cutoff, tanh_tiny, tanh_small, tanh_p1, tanh_p3, tanh_p5, tanh_p7, tanh_p9}
use Rattle.floats.specs.Floats.{mul_add, abs_of, has_sign}
use Rattle.exp.specs.Exp.{exp_of}

-- for a small x: an odd polynomial in x, by its square and its size
abbrev pub small_of : Float → Float → Float
small_of square size = mul binary32 (mul_add (mul_add (mul_add (mul_add tanh_p9 square tanh_p7) square tanh_p5) square tanh_p3) square tanh_p1) size

-- for a medium x: (e - 1) / (e + 1), where e is exp of twice the size
abbrev pub medium_of : Float → Float
medium_of e = div binary32 (sub binary32 e one_f) (add binary32 e one_f)

-- the size of the result, chosen by |x|
unfoldable pub size_of : Float → Float → Float
size_of x size =
    cond (le size tanh_tiny) size
    (cond (le size tanh_small) (small_of (mul binary32 x x) size)
    (cond (le tanh_cutoff size) one_f (medium_of (exp_of (mul binary32 size two_f)))))

-- `Tanh`: the size with the sign of x, of a zero too
unfoldable pub tanh_of : Float → Float
tanh_of x = cond (has_sign true x) (neg (size_of x (abs_of x))) (size_of x (abs_of x))

-- both zeros come back as they went in
abbrev pub ZeroKept : Type 0
ZeroKept = (x : Float) → eq x zero_f ≡ true → tanh_of x ≡ x
