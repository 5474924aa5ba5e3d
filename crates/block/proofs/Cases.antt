-- A worked case (RULES, Worked), the table of one band, one row, 32768, byte for byte; and a block with two faults. Assumes nothing.
use mathlib.Core.Path.{◌≡◌, refl}
use mathlib.Core.List.{[], ◌∷◌, ◌++◌}
use lib.ListN.{replicate}
use Rattle.lists.specs.Lists.{tab, sum_to}
use Rattle.answer.specs.Answer.{judged}
use Rattle.std.specs.Prelude.{Err}
use Rattle.answer.specs.declared.Refusal.TheVariants.{Check}
use Rattle.block.specs.Form.{Form}
use Rattle.block.specs.Read.{checks_ok, block_tests_by, block_answer_by}
use Rattle.block.specs.Block.{half, bytes_of, check_a, check_b, sealed, block_byte, blocks, held_rows, block_word, stored, table_byte, table_bytes}

pub one_band_law : table_bytes 1 1 1 1 (32768 ∷ [])
    ≡ 0x01 ∷ 0x00 ∷ 0x00 ∷ 0x00 ∷ 0x01 ∷ 0x00 ∷ 0x01 ∷ 0x00 ∷ 0x00 ∷ 0x80 ∷ replicate 498 0 ++ (0x83 ∷ 0x00 ∷ 0x0D ∷ 0x05 ∷ [])
unfolding tab sum_to half bytes_of check_a check_b sealed block_byte blocks held_rows block_word stored table_byte table_bytes
one_band_law = refl

-- a block of 512 ones has wrong checks and a wrong header: 10 is told, not 11
abbrev plain : Form
plain = record { code = 1; width = λ B. B; least = 1; most = 1; rows = 1; parts = 1 }

pub check_first : block_answer_by plain 0 (replicate 512 1) ≡ Err (Check 0)
unfolding sum_to check_a check_b checks_ok block_tests_by block_answer_by judged
check_first = refl
