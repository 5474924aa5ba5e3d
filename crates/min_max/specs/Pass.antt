-- What a pass holds and how it goes on: the largest element alone, or both extremes and whether a NaN was met. Definitions only.
use Rattle.std.specs.Prelude.{◌≡◌, false, ◌||◌, Float}
use mathlib.Core.List.{List, ◌++◌, foldl}
use Rattle.std.specs.Float.Ieee.{is_nan}
use Rattle.min_max.specs.MinMax.{Least, Largest, start_of, keep}
use Rattle.min_max.specs.declared.Seen.{Seen}
use Rattle.min_max.specs.declared.pass.Top.{Top}

-- every element in order, from what is held on
unfoldable pub folded : {S : Type 0} → (S → Float → S) → S → List Float → S
folded take held s = foldl take held s

-- what is held after two lists is what is held after the first, joined with what the second alone gives
abbrev pub PassLaw : {S : Type 0} → S → (S → Float → S) → (S → S → S) → Type 0
PassLaw start take join = (held : _) (s t : List Float) → folded take held (s ++ t) ≡ join (folded take held s) (folded take start t)

abbrev pub top_start : Top
top_start = record { value = start_of Largest }

abbrev pub top_take : Top → Float → Top
top_take h x = record { value = keep Largest h.value x }

abbrev pub top_join : Top → Top → Top
top_join h l = record { value = keep Largest h.value l.value }

abbrev pub seen_start : Seen
seen_start = record { least = start_of Least; largest = start_of Largest; nan = false }

abbrev pub seen_take : Seen → Float → Seen
seen_take h x = record { least = keep Least h.least x; largest = keep Largest h.largest x; nan = h.nan || is_nan x }

abbrev pub seen_join : Seen → Seen → Seen
seen_join h l = record { least = keep Least h.least l.least; largest = keep Largest h.largest l.largest; nan = h.nan || l.nan }
