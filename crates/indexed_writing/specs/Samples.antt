-- Samples of the call with an index: the order of the refusals with 15, and what false cells write. Assumes nothing.
use Rattle.std.specs.Prelude.{◌≡◌, [], ◌∷◌, replicate}
use Rattle.standard.specs.Encodings.{Tables, lent, no_tables}
use Rattle.standard.specs.Encoders.Samples.{table}
use Rattle.encoder_spec.specs.Samples.{leaves, leaves_in}
use Rattle.indexed_writing.specs.Call.{indexed_call}

-- a single-byte table with U+0401 at pointers 1 and 2; its index has 256 cells
abbrev pub twice : Tables
twice = lent (table 128 1 (0x401 ∷ 0x401 ∷ [])) []

pub record Samples : Type 0 where
  -- 5, 9 and 4 come before 15, and 15 before 8, 10 and 7
  pub 2-before-15 : indexed_call 40 0 0 no_tables (0 ∷ []) [] [] ≡ leaves 0 0 2 []
  pub 3-before-15 : indexed_call 0 2 0 no_tables (0 ∷ []) [] [] ≡ leaves 0 0 3 []
  pub 5-before-15 : indexed_call 0 0 3 no_tables (0 ∷ []) [] [] ≡ leaves_in 3 0 0 5 []
  pub 9-before-15 : indexed_call 36 0 0 no_tables (0 ∷ []) [] [] ≡ leaves 0 0 9 []
  pub 4-before-15 : indexed_call 1 0 0 no_tables (0 ∷ []) [] [] ≡ leaves 0 0 4 []
  pub 15-before-8 : indexed_call 0 0 0 no_tables (0 ∷ []) (replicate 16385 0x41) [] ≡ leaves 0 0 15 []
  pub 15-before-10 : indexed_call 0 0 1 no_tables (0 ∷ []) (0xD800 ∷ []) [] ≡ leaves_in 1 0 0 15 []
  pub 15-before-7 : indexed_call 1 0 0 twice [] (0x41 ∷ []) [] ≡ leaves 0 0 15 []
  -- an encoding without a first table has an index of no cells
  pub windows-1252 : indexed_call 21 0 0 no_tables [] (0x20AC ∷ []) (0 ∷ []) ≡ leaves 1 0 0 (0x80 ∷ [])
  pub no_table_15 : indexed_call 21 0 0 no_tables (0 ∷ 0 ∷ []) (0x20AC ∷ []) (0 ∷ []) ≡ leaves 0 0 15 (0 ∷ [])
  -- zeros say nothing, so the first pointer is found; cells that lead to pointer 2 give its byte, and another scalar is unwritable
  pub zeros : indexed_call 1 1 0 twice (replicate 256 0) (0x401 ∷ []) (0 ∷ []) ≡ leaves 1 0 0 (0x81 ∷ [])
  pub false_cells : indexed_call 1 1 0 twice (replicate 256 3) (0x401 ∷ []) (0 ∷ []) ≡ leaves 1 0 0 (0x82 ∷ [])
  pub missing : indexed_call 1 1 0 twice (replicate 256 3) (0x402 ∷ []) (0 ∷ []) ≡ leaves 0 0 11 (0 ∷ [])
