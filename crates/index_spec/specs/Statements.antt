-- What is proved of index lines: the reader and the grammar, and the call. Assumes nothing.
use Rattle.std.specs.Prelude.{◌≡◌, ◌↔◌, List, [], ◌∷◌, map, ℕ, ◌≤◌, ◌<◌, length, get_or, replicate}
use Prim.Native.String.{String}
use Rattle.standard.specs.Text.{bytes}
use Rattle.index_spec.specs.IndexLine.{NoEntry, Entry}
use Rattle.index_spec.specs.IndexRead.{Read, no_entry, bad, entry, read}
use Rattle.index_spec.specs.IndexCall.{Outcome, without, index_line}
use Rattle.index_spec.specs.declared.Line.{Line}

-- The reader reads what the grammar says, and calls every other line bad.
pub record Reads (line : List ℕ) : Type 0 where
  pub entries : (p c : ℕ) → (read line ≡ entry p c) ↔ Entry line p c
  pub no_entries : (read line ≡ no_entry) ↔ NoEntry line
  pub others : (read line ≡ bad) ↔ ((NoEntry line → ⊥) × ((p c : ℕ) → Entry line p c → ⊥))

-- An accepted entry: its pointer is told, the cell there is its code point, every other cell and the length are as they were.
pub record Fills (p c : ℕ) (table : List ℕ) (o : Outcome) : Type 0 where
  pub answer : ◌≡◌ {A = Line} o.answer (record { pointer = p; refusal = 0; entry = 1 })
  pub cell : get_or o.table p 0 ≡ c
  pub cells : (i : ℕ) → (i ≡ p → ⊥) → get_or o.table i 0 ≡ get_or table i 0
  pub same_length : length o.table ≡ length table

-- The call, in the order of its refusals: 8, 12, 13.
pub record Answers (line table : List ℕ) : Type 0 where
  pub long : 1024 < length line → index_line line table ≡ without 8 table
  pub nothing : length line ≤ 1024 → NoEntry line → index_line line table ≡ without 0 table
  pub bad_line : length line ≤ 1024 → (NoEntry line → ⊥) → ((p c : ℕ) → Entry line p c → ⊥) →
      index_line line table ≡ without 12 table
  pub no_room : length line ≤ 1024 → (p c : ℕ) → Entry line p c → ((p < length table) × (get_or table p 0 ≡ 0) → ⊥) →
      index_line line table ≡ without 13 table
  pub filled : length line ≤ 1024 → (p c : ℕ) → Entry line p c → p < length table → get_or table p 0 ≡ 0 →
      Fills p c table (index_line line table)
  pub unchanged : (index_line line table).answer.entry ≡ 0 → (index_line line table).table ≡ table

-- No call writes past the table: whatever the line, the table keeps its length.
abbrev pub TableKept : Type 0
TableKept = (line table : List ℕ) → length (index_line line table).table ≡ length table

-- Texts that are all read as r.
abbrev pub AllRead : Read → List String → Type 0
AllRead r texts = map (λ s. read (bytes s)) texts ≡ map (λ s. r) texts

-- The call with a text as its line, and a table of three cells.
abbrev pub entered : String → ℕ → ℕ → ℕ → Outcome
entered s a b c = index_line (bytes s) (a ∷ b ∷ c ∷ [])

-- Samples: lines that are entries, none, or bad; the order of the refusals; the cell that is filled.
pub record Samples : Type 0 where
  pub e_acute : AllRead (entry 1 0xE9) ("1\t0x00E9" ∷ "  1\t0x00E9" ∷ "0000001\t0x0000E9" ∷ "1\t0x00E9\t" ∷ "1\t0x00E9\tanything\r" ∷ [])
  pub largest : read (bytes "9999999\t0x10FFFF") ≡ entry 9999999 0x10FFFF
  pub no_entries : AllRead no_entry ("" ∷ "#" ∷ "# a comment" ∷ [])
  pub front : AllRead bad (" " ∷ " #" ∷ "\r" ∷ "\t1\t0x00E9" ∷ " \t1\t0x00E9" ∷ "+1\t0x00E9" ∷ [])
  pub pointers : AllRead bad ("\t0x00E9" ∷ "10000000\t0x00E9" ∷ "00000001\t0x00E9" ∷ "1 \t0x00E9" ∷ "A\t0x00E9" ∷ [])
  pub marks : AllRead bad ("1" ∷ "1\t" ∷ "1 0x00E9" ∷ "1\t\t0x00E9" ∷ "1\t 0x00E9" ∷ "1\t0X00E9" ∷ "1\tU+00E9" ∷ [])
  pub digits : AllRead bad ("1\t0x" ∷ "1\t0x0E9" ∷ "1\t0x00000E9" ∷ "1\t0x00e9" ∷ "1\t0x00G9" ∷ [])
  pub endings : AllRead bad ("1\t0x00E9\r" ∷ "1\t0x00E9 " ∷ "1\t0x00E9 \t" ∷ [])
  pub unmapped : AllRead bad ("1\t0x0000" ∷ "1\t0x0041" ∷ "1\t0x007F" ∷ "1\t0xD800" ∷ "1\t0xDFFF" ∷ "1\t0x110000" ∷ [])
  pub mapped : read (bytes "1\t0x0080") ≡ entry 1 0x80
  pub fills : ◌≡◌ {A = Outcome} (entered "1\t0x00E9" 0 0 0) (record { answer = record { pointer = 1; refusal = 0; entry = 1 }; table = 0 ∷ 0xE9 ∷ 0 ∷ [] })
  pub nothing : entered "# 1" 0 0 0 ≡ without 0 (0 ∷ 0 ∷ 0 ∷ [])
  pub bad_before_room : entered "3\t0x0041" 0 0 0 ≡ without 12 (0 ∷ 0 ∷ 0 ∷ [])
  pub no_room : entered "3\t0x00E9" 0 0 0 ≡ without 13 (0 ∷ 0 ∷ 0 ∷ [])
  pub not_free : entered "1\t0x00E9" 0 0xE9 0 ≡ without 13 (0 ∷ 0xE9 ∷ 0 ∷ [])
  pub not_zero : entered "1\t0x00E9" 0 0x41 0 ≡ without 13 (0 ∷ 0x41 ∷ 0 ∷ [])
  pub long : index_line (replicate 1025 0x20) [] ≡ without 8 []
  pub not_long : index_line (replicate 1024 0x20) [] ≡ without 12 []
