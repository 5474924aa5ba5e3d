-- `tabulate`'s promise determines its outcome: two that it allows are equal, the answer and every lent byte. Assumes nothing.
use Prim.Native.Nat.{ℕ}
use mathlib.Core.Path.{◌≡◌, refl, sym, ap, ap₂, ◌∙◌}
use mathlib.Core.Bool.{cond}
use mathlib.Core.List.{List}
use lib.Dec.{eqb}
use lib.ListN.{length}
use Rattle.std.specs.Prelude.{Ok, Err}
use Rattle.tabulate_core.specs.Stop.{stop_class, stop_where}
use Rattle.tabulate_core.specs.Tabulate.{Tabulated, tabulated_of, tabulate_told, tabulate_out}
use Rattle.tabulate_core.proofs.Stored.{stop_some}
use Rattle.tabulate_core.specs.declared.Stop.{Stop}
use Rattle.tabulate_core.specs.declared.Stop.TheVariants.{Count, StoredLength, Domain, Masked}

-- of the argument w and the input s: the answer t, and l what the lent bytes are afterwards
pub record Allowed (w s bytes : List ℕ) (t : Tabulated) (l : List ℕ) : Type 0 where
  pub told : tabulated_of t ≡ tabulate_told w s (length bytes)
  pub left : l ≡ tabulate_out w s bytes

-- number and place tell which stop it is
stop_from : ℕ → ℕ → Stop
stop_from n p = cond (eqb n 4) (Domain p) (cond (eqb n 5) (Masked p) (cond (eqb n 7) Count StoredLength))

stop_back : (s : Stop) → stop_from (stop_class s) (stop_where s) ≡ s
unfolding stop_from
stop_back Count = refl
stop_back StoredLength = refl
stop_back (Domain i) = refl
stop_back (Masked i) = refl

tabulated_one : (t u : Tabulated) → tabulated_of t ≡ tabulated_of u → t ≡ u
tabulated_one (Ok n) (Ok m) e = ap Ok (ap (λ t. t.2) e)
tabulated_one (Ok n) (Err s) e = absurd (stop_some s (sym (ap (λ t. t.0) e)))
tabulated_one (Err s) (Ok m) e = absurd (stop_some s (ap (λ t. t.0) e))
tabulated_one (Err s) (Err q) e =
    ap Err (sym (stop_back s) ∙ ap₂ stop_from (ap (λ t. t.0) e) (ap (λ t. t.1) e) ∙ stop_back q)

pub tabulate_determined : (w s bytes : List ℕ) (t u : Tabulated) (l k : List ℕ) → Allowed w s bytes t l → Allowed w s bytes u k → (t ≡ u) × (l ≡ k)
tabulate_determined w s bytes t u l k x y = (tabulated_one t u (x.told ∙ sym y.told), x.left ∙ sym y.left)
