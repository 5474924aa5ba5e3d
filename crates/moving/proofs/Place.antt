-- The places that a move tells are small. Assumes nothing.
use Prim.Native.Nat.{ℕ, ◌≤◌}
use mathlib.Core.List.{List}
use native.Mathlib.Omega.{arith}
use Rattle.answer.specs.Answer.{judged, or_else, place_of}
use Rattle.answer.specs.Limits.{row_limit}
use Rattle.answer.specs.Answer.{Answer}
use Rattle.std.specs.Prelude.{Ok, Err}
use Rattle.answer.proofs.Bounded.{place_bounded}
use Rattle.table.specs.Release.{form_of, table_answer}
use Rattle.table.proofs.Place.{place_most, table_place}
use Rattle.moving.specs.Moving.{move_tests, move_answer}

tests_place : (d : ℕ) (s : List ℕ) (room : ℕ) → place_of (judged (move_tests d s room)) ≤ place_most row_limit
unfolding move_tests
tests_place d s room = place_bounded (place_most row_limit) _ (λ a. omega arith, λ a. (λ b. omega arith, λ b. tt))

pub move_place : (d : ℕ) (s : List ℕ) (room : ℕ) → place_of (move_answer d s room) ≤ place_most row_limit
move_place d s room = go (table_answer s) (table_place (form_of s) s)
  where
    go : (a : Answer) → place_of a ≤ place_most row_limit → place_of (or_else a (judged (move_tests d s room))) ≤ place_most row_limit
    go (Ok tt) h = tests_place d s room
    go (Err r) h = h
