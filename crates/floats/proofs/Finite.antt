-- A finite result had finite operands. Assumes nothing.
use Rattle.std.proofs.Common.{◌≡◌, Bool, true, false, cond, eqb, sym, refl, ◌∙◌}
use mathlib.Core.Bool.{false≢true}
use lib.Ieee.{Float, nan, inf, fin, Format, add, sub, mul, neg}
use lib.Ieee.Scale.{finite}
use Rattle.floats.specs.Floats.{abs_of}

pub add_finite : (f : Format) (x y : Float) → finite (add f x y) ≡ true → (finite x ≡ true) × (finite y ≡ true)
unfolding add
add_finite f nan y h = absurd (false≢true h)
add_finite f (inf s) nan h = absurd (false≢true h)
add_finite f (inf false) (inf false) h = absurd (false≢true h)
add_finite f (inf false) (inf true) h = absurd (false≢true h)
add_finite f (inf true) (inf false) h = absurd (false≢true h)
add_finite f (inf true) (inf true) h = absurd (false≢true h)
add_finite f (inf s) (fin t n d) h = absurd (false≢true h)
add_finite f (fin s m e) nan h = absurd (false≢true h)
add_finite f (fin s m e) (inf t) h = absurd (false≢true h)
add_finite f (fin s m e) (fin t n d) h = (refl, refl)

neg_same : (x : Float) → finite (neg x) ≡ finite x
unfolding neg
neg_same nan = refl
neg_same (inf s) = refl
neg_same (fin s m e) = refl

pub sub_finite : (f : Format) (x y : Float) → finite (sub f x y) ≡ true → (finite x ≡ true) × (finite y ≡ true)
unfolding sub
sub_finite f x y h = let both = add_finite f x (neg y) h in (both.0, sym (neg_same y) ∙ both.1)

-- zero times an infinity is a NaN, and any other number times it is infinite
neither : {A : Type 0} (b t : Bool) → finite (cond b nan (inf t)) ≡ true → A
neither true t h = absurd (false≢true h)
neither false t h = absurd (false≢true h)

pub mul_finite : (f : Format) (x y : Float) → finite (mul f x y) ≡ true → (finite x ≡ true) × (finite y ≡ true)
unfolding mul
mul_finite f nan y h = absurd (false≢true h)
mul_finite f (inf s) nan h = absurd (false≢true h)
mul_finite f (inf s) (inf t) h = absurd (false≢true h)
mul_finite f (inf s) (fin t n d) h = neither (eqb n 0) _ h
mul_finite f (fin s m e) nan h = absurd (false≢true h)
mul_finite f (fin s m e) (inf t) h = neither (eqb m 0) _ h
mul_finite f (fin s m e) (fin t n d) h = (refl, refl)

pub abs_finite : (x : Float) → finite (abs_of x) ≡ true → finite x ≡ true
abs_finite nan h = h
abs_finite (inf s) h = h
abs_finite (fin s m e) h = h
