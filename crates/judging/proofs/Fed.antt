-- Laws of feeding: block after block, and what is left. Assumes nothing.
use Prim.Native.Nat.{ℕ, zero, suc, ◌+◌, ◌*◌, ◌≤◌}
use mathlib.Core.Path.{◌≡◌, refl, sym, ap₂}
use mathlib.Core.Bool.{Bool, true, false, cond}
use mathlib.Core.List.{List, [], ◌++◌}
use native.Mathlib.Omega.{arith}
use lib.ListN.{length}
use lib.Dec.{eqb}
use borrow.Author.Tests.{eqb-true}
use Rattle.block.specs.Read.{bytes_from}
use Rattle.block.proofs.Cut.{block_join, block_last}
use Rattle.judging.specs.declared.Judging.{Judging}
use Rattle.judging.specs.Judging.{new_judging, first_of, more_of, fed_of, fed_to}

pub fed_start : (s : List ℕ) → new_judging ≡ fed_to s 0
unfolding fed_to
fed_start s = refl

-- no bytes change nothing
pub fed_none : (j : Judging) → fed_of j [] ≡ j
unfolding fed_of
fed_none j = refl

-- a whole block counts
pub fed_next : (j : Judging) (s : List ℕ) → length s ≡ 512 → (fed_of j s).next ≡ j.next + 1
unfolding fed_of first_of more_of
fed_next j s l = rw l (go (eqb j.next 0) refl)
  where
    go : (b : Bool) → eqb j.next 0 ≡ b → (cond b (first_of j.whole (bytes_from s 0)) (more_of j (bytes_from s 0))).next ≡ j.next + 1
    go true e = let z = eqb-true j.next 0 e in omega arith
    go false e = refl

-- k blocks of the input are fed whatever follows them
fed_join : (s t : List ℕ) (k : ℕ) → 512 * k ≤ length s → fed_to (s ++ t) k ≡ fed_to s k
unfolding fed_to
fed_join s t zero l = refl
fed_join s t (suc k) l = ap₂ fed_of (fed_join s t k (omega arith)) (block_join s t k (omega arith))

-- a piece more
pub fed_more : (s t : List ℕ) (k : ℕ) → length s ≡ 512 * k → length t ≤ 512 → fed_of (fed_to s k) t ≡ fed_to (s ++ t) (suc k)
unfolding fed_to
fed_more s t k l m = ap₂ fed_of (sym (fed_join s t k (omega arith))) (sym (block_last s t k l m))
