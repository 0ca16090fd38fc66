-- What is proved of the list call and of the record's walk. Assumes nothing.
use Rattle.std.specs.Prelude.{◌≡◌, ◌⊎◌, ℕ, zero, suc, ◌+◌, ◌-◌, ◌*◌, ◌/◌, ◌≤◌, ◌<◌, ltb, eqb, length, get_or, take, drop}
use mathlib.Core.List.{List, [], ◌∷◌, ◌++◌, Memᴰ}
use Rattle.std.proofs.Math.Seq.{slice}
use Rattle.standard.specs.Base.{◌then◌else◌, line_feeds}
use Rattle.list_spec.specs.Lines.{TAB, LF, CR, before, count, Line, line, lines_of, chars_of, name_of, names_of}
use Rattle.list_spec.specs.ListCall.{fault_of, options_of, cells, listed, list_call}
use Rattle.list_spec.specs.Spans.{span, span_at}
use Rattle.list_spec.specs.declared.Listed.{Listed}

-- "one tab and a known name, not empty and not used before"
pub record Right (text names : List ℕ) (l : Line) : Type 0 where
  pub one_tab : count TAB (chars_of text l) ≡ 1
  pub named : 0 < length (name_of text l)
  pub known : Memᴰ (name_of text l) (names_of names)
  pub fresh : (m : Line) → Memᴰ m (lines_of text) → m.start < l.start → name_of text m ≡ name_of text l → ⊥

-- "faultless exactly when every line not passed over has .."
abbrev pub Faultless : List ℕ → List ℕ → Type 0
Faultless text names = (l : Line) → Memᴰ l (lines_of text) → l.start < l.stop → Right text names l

-- The answer, by these words. The room holds so many options as five cells go into it.
pub record Exactly (text names room : List ℕ) : Type 0 where
  pub accepted : Faultless text names → length (options_of text) ≤ length room / 5 →
      (list_call text names room).answer ≡ listed (length (options_of text)) 0 0
  pub too_small : Faultless text names → length room / 5 < length (options_of text) → (list_call text names room).answer ≡ listed 0 0 7
  pub only_then : (list_call text names room).answer.refusal ≡ 0 → Faultless text names × (length (options_of text) ≤ length room / 5)
  -- a refusal alters nothing, and no call writes past the room
  pub untouched : ((list_call text names room).answer.refusal ≡ 0 → ⊥) → (list_call text names room).room ≡ room
  pub room_kept : length (list_call text names room).room ≡ length room

-- The line at fault is one of the text's, the lines before it have no fault, and its number counts the line feeds before it.
pub record AtFault (text names : List ℕ) (a : Listed) : Type 0 where
  pub line : Line
  pub there : Memᴰ line (lines_of text)
  pub number : line.number ≡ a.line
  pub fault : fault_of text names line ≡ a.refusal
  pub first : (m : Line) → Memᴰ m (lines_of text) → m.start < line.start → fault_of text names m ≡ 0
  pub within : line.start < length text
  pub counted : a.line ≡ 1 + line_feeds (take line.start text)
  -- it begins the text, or stands behind a line feed
  pub behind : 0 < line.start → get_or text (line.start - 1) 0 ≡ LF

-- An answer of a list that is not faultless is one of the three, with such a line.
pub record FirstFault (text names room : List ℕ) : Type 0 where
  pub faulty : (Faultless text names → ⊥) → AtFault text names (list_call text names room).answer
  pub named : (Faultless text names → ⊥) →
      ((list_call text names room).answer.refusal ≡ 16) ⊎ ((list_call text names room).answer.refusal ≡ 17) ⊎
      ((list_call text names room).answer.refusal ≡ 18)

-- The lines in their order: numbers one by one, each begins behind the stop of the one before it.
unfoldable pub Rising : ℕ → ℕ → List Line → Type 0
Rising n s [] = Unit
Rising n s (l ∷ ls) = (l.number ≡ n) × (s ≤ l.start) × (l.start ≤ l.stop) × Rising (n + 1) (l.stop + 1) ls

-- Each begins behind the stop of the one before it, so that none comes twice.
unfoldable pub Ascending : ℕ → List Line → Type 0
Ascending s [] = Unit
Ascending s (l ∷ ls) = (s ≤ l.start) × Ascending (l.stop + 1) ls

-- Where the parts of an option lie, its tab at e: name and value within the text.
pub record Places (text : List ℕ) (l : Line) (e : ℕ) : Type 0 where
  pub name : l.start < e
  pub value : e + 1 ≤ l.stop
  pub within : l.stop ≤ length text
  pub tab : get_or text e 0 ≡ TAB
  pub same : slice l.start e text ≡ name_of text l

-- "Each option of an accepted list is handed out once, in order, as five 64-bit cells"
pub record Handed (text names : List ℕ) : Type 0 where
  pub order : Rising 1 0 (lines_of text)
  pub once : Ascending 0 (options_of text)
  pub five : length (cells text (options_of text)) ≡ 5 * length (options_of text)
  pub kept_lines : (l : Line) → Memᴰ l (options_of text) → Memᴰ l (lines_of text) × (l.start < l.stop)
  pub all_kept : (l : Line) → Memᴰ l (lines_of text) → l.start < l.stop → Memᴰ l (options_of text)
  pub places : Faultless text names → (l : Line) → Memᴰ l (options_of text) → Places text l (l.start + before TAB (chars_of text l))

-- What closes a line, by what stands behind its stop: nothing at the end of the text, a carriage return and a line feed, or a line feed.
unfoldable pub closing : List ℕ → List ℕ
closing [] = []
closing (c ∷ cs) = eqb c CR then CR ∷ LF ∷ [] else LF ∷ []

-- The lines joined, each with what closes it.
unfoldable pub joined : List ℕ → List Line → List ℕ
joined text [] = []
joined text (l ∷ ls) = chars_of text l ++ (closing (drop l.stop text) ++ joined text ls)

pub record Joined (text : List ℕ) : Type 0 where
  pub whole : joined text (lines_of text) ≡ text
  -- no line feed is part of a line, and no carriage return just before one
  pub no_line_feed : (l : Line) → Memᴰ l (lines_of text) → count LF (chars_of text l) ≡ 0
  pub no_carriage_return : (l : Line) → Memᴰ l (lines_of text) → l.start < l.stop → l.stop < length text →
      get_or text l.stop 0 ≡ LF → get_or text (l.stop - 1) 0 ≡ CR → ⊥
  -- behind the last line feed there is a line only if there are characters
  pub none_behind : (l : Line) → Memᴰ l (lines_of text) → l.start < length text

-- The lines that the record meets in at most k steps, from a place where the line n begins.
unfoldable pub met : ℕ → List ℕ → ℕ → ℕ → List Line
met zero text n a = []
met (suc k) text n a = ltb a (length text) then line n a (span_at text a).stop ∷ met k text (n + 1) (span_at text a).next else []

-- The record's walk over a text: from its start, in as many steps as it has characters, it meets exactly the lines of the text, and each
-- step goes on; at the end, and at any place behind it, there is nothing more.
pub record Walked (text : List ℕ) : Type 0 where
  pub lines : met (length text) text 1 0 ≡ lines_of text
  pub on : (a : ℕ) → a < length text → a < (span_at text a).next
  pub end : (a : ℕ) → length text ≤ a → span_at text a ≡ span a a
