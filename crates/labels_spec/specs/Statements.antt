-- What is proved of the labels: the table, trimming, and the label call. Assumes nothing.
use Rattle.std.specs.Prelude.{◌≡◌, ◌↔◌, true, false, ℕ, ◌+◌, ◌≤◌, ◌<◌, length, get_or, take, drop, replicate}
use mathlib.Core.List.{List, [], ◌∷◌, ◌++◌, map, Memᴰ}
use Prim.Native.String.{String}
use Rattle.standard.specs.Base.{every}
use Rattle.standard.specs.Text.{bytes}
use Rattle.labels_spec.specs.Labels.{table, name, white, fold, start, trimmed, label, naming}
use Rattle.labels_spec.specs.declared.Found.{Found}

-- The labels of an encoding number, as bytes; none above 39.
unfoldable pub labels : ℕ → List (List ℕ)
labels e = map bytes (get_or table e ("", [])).1

-- The labels of all rows, in order.
unfoldable pub texts : List (String × List String) → List String
texts [] = []
texts (r ∷ rs) = r.1 ++ texts rs

-- The labels of the table, as bytes.
abbrev pub all_labels : List (List ℕ)
all_labels = map bytes (texts table)

-- What the call answers for bytes whose trimmed label is known as encoding e.
abbrev pub known : List ℕ → ℕ → Found
known xs e = record { start = start xs; length = length (trimmed xs); refusal = 0; encoding = e }

-- What it answers for an unknown label.
abbrev pub unknown : Found
unknown = record { start = 0; length = 0; refusal = 1; encoding = 0 }

-- The table: 40 encodings and 228 labels, none of them twice, each its own trimmed and folded form; a name, folded, is one of the labels (004);
-- nothing above 39.
pub record Table : Type 0 where
  pub encodings : length table ≡ 40
  pub all : length all_labels ≡ 228
  pub once : (i j : ℕ) → i < 228 → j < 228 → get_or all_labels i [] ≡ get_or all_labels j [] → i ≡ j
  pub plain : (e : ℕ) (l : List ℕ) → Memᴰ l (labels e) → (trimmed l ≡ l) × (map fold l ≡ l)
  pub named : (e : ℕ) → e < 40 → Memᴰ (map fold (name e)) (labels e)
  pub above : (e : ℕ) → 40 ≤ e → (name e ≡ []) × (labels e ≡ [])

-- Each label of the table, and each name, gives its encoding's number, and the whole of it is the trimmed label.
pub record Finds : Type 0 where
  pub by_label : (e : ℕ) (l : List ℕ) → Memᴰ l (labels e) → ◌≡◌ {A = Found} (label l) (record { start = 0; length = length l; refusal = 0; encoding = e })
  pub by_name : (e : ℕ) → e < 40 → ◌≡◌ {A = Found} (label (name e)) (record { start = 0; length = length (name e); refusal = 0; encoding = e })

-- Trimming takes away white space only, from both ends, and all of it.
pub record Trims (xs : List ℕ) : Type 0 where
  pub before : List ℕ
  pub behind : List ℕ
  pub whole : xs ≡ before ++ (trimmed xs ++ behind)
  pub starts : length before ≡ start xs
  pub white_before : every white before ≡ true
  pub white_behind : every white behind ≡ true
  pub first : (b : ℕ) (ys : List ℕ) → trimmed xs ≡ b ∷ ys → white b ≡ false
  pub last : (b : ℕ) (ys : List ℕ) → trimmed xs ≡ ys ++ (b ∷ []) → white b ≡ false

-- The call, for any bytes: exactly the labels of the table are known; the part lies within the bytes and is the trimmed label.
pub record Answers (xs : List ℕ) : Type 0 where
  pub accepts : (e : ℕ) → (label xs ≡ known xs e) ↔ Memᴰ (map fold (trimmed xs)) (labels e)
  pub refuses : ((label xs).refusal ≡ 1) ↔ ((e : ℕ) → Memᴰ (map fold (trimmed xs)) (labels e) → ⊥)
  pub refused : (label xs).refusal ≡ 1 → label xs ≡ unknown
  pub within : (label xs).start + (label xs).length ≤ length xs
  pub part : (label xs).refusal ≡ 0 → take (label xs).length (drop (label xs).start xs) ≡ trimmed xs

-- White space around the bytes changes neither the refusal nor the encoding; the case of letters changes nothing.
pub record Insensitive : Type 0 where
  pub space : (before xs behind : List ℕ) → every white before ≡ true → every white behind ≡ true →
      ((label (before ++ (xs ++ behind))).refusal ≡ (label xs).refusal) × ((label (before ++ (xs ++ behind))).encoding ≡ (label xs).encoding)
  pub case : (xs ys : List ℕ) → map fold xs ≡ map fold ys → label xs ≡ label ys

-- The name call does not write past the room: whatever the number, the room keeps its length.
abbrev pub RoomKept : Type 0
RoomKept = (e : ℕ) (room : List ℕ) → length (naming e room).room ≡ length room

-- Samples: white space and case; labels that the print of 000 damages; bytes that are not trimmed; nothing to read; a space or a NUL inside;
-- bytes that are not folded; the numbers that 01 names.
pub record Samples : Type 0 where
  pub latin1 : ◌≡◌ {A = Found} (label (bytes " Latin1")) (record { start = 1; length = 6; refusal = 0; encoding = 21 })
  pub spaces : ◌≡◌ {A = Found} (label (bytes "\t\n\u{c}\r UTF-8 \r\u{c}\n\t")) (record { start = 5; length = 5; refusal = 0; encoding = 0 })
  pub l2 : ◌≡◌ {A = Found} (label (bytes "l2")) (record { start = 0; length = 2; refusal = 0; encoding = 2 })
  pub koi8_r : ◌≡◌ {A = Found} (label (bytes "koi8_r")) (record { start = 0; length = 6; refusal = 0; encoding = 15 })
  pub misprints : map label (bytes "12" ∷ bytes "koi8 r" ∷ []) ≡ replicate 2 unknown
  pub before : map (λ b. label (b ∷ bytes "utf-8")) (0x0B ∷ 0x00 ∷ 0x85 ∷ 0xA0 ∷ []) ≡ replicate 4 unknown
  pub behind : map (λ b. label (bytes "utf-8" ++ (b ∷ []))) (0x0B ∷ 0x00 ∷ 0x85 ∷ 0xA0 ∷ []) ≡ replicate 4 unknown
  pub empty : map label ([] ∷ bytes " " ∷ bytes "\t\n" ∷ []) ≡ replicate 3 unknown
  pub inside : map label (bytes "utf -8" ∷ bytes "utf\0-8" ∷ []) ≡ replicate 2 unknown
  pub fold_ends : map fold (0x40 ∷ 0x41 ∷ 0x5A ∷ 0x5B ∷ 0xC0 ∷ []) ≡ 0x40 ∷ 0x61 ∷ 0x7A ∷ 0x5B ∷ 0xC0 ∷ []
  pub no_digits : label (0x18 ∷ 0x16 ∷ 0x16 ∷ []) ≡ unknown
  pub names : map name (0 ∷ 1 ∷ 21 ∷ 28 ∷ 29 ∷ 30 ∷ 31 ∷ 32 ∷ 33 ∷ 34 ∷ 35 ∷ 36 ∷ 37 ∷ 38 ∷ 39 ∷ []) ≡
      map bytes ("UTF-8" ∷ "IBM866" ∷ "windows-1252" ∷ "x-mac-cyrillic" ∷ "GBK" ∷ "gb18030" ∷ "Big5" ∷ "EUC-JP" ∷ "ISO-2022-JP" ∷
      "Shift_JIS" ∷ "EUC-KR" ∷ "replacement" ∷ "UTF-16BE" ∷ "UTF-16LE" ∷ "x-user-defined" ∷ [])
