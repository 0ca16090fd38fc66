-- Samples of the list call: text, known names, the cells of the room, each of which held 7; then the answer and the room afterwards.
-- Assumes nothing.
use Rattle.std.specs.Prelude.{◌≡◌, List, [], ◌∷◌, ℕ, replicate}
use Prim.Native.String.{String}
use Rattle.standard.specs.Text.{bytes}
use Rattle.list_spec.specs.ListCall.{Outcome, listed, refuse, list_call}

abbrev pub names : String
names = "a\nb\nab\nname\n"

abbrev pub Accepts : String → String → ℕ → ℕ → List ℕ → Type 0
Accepts text known room options after =
    ◌≡◌ {A = Outcome} (list_call (bytes text) (bytes known) (replicate room 7)) (record { answer = listed options 0 0; room = after })

abbrev pub Refuses : String → String → ℕ → ℕ → ℕ → Type 0
Refuses text known room n refusal = list_call (bytes text) (bytes known) (replicate room 7) ≡ refuse refusal n (replicate room 7)

pub record Samples : Type 0 where
  pub nothing : Accepts "" "" 0 0 []
  -- a carriage return before a line feed, and a last line without its line feed
  pub three : Accepts "a\tv\nb\tw\r\nab\tx" names 16 3 (1 ∷ 0 ∷ 1 ∷ 2 ∷ 3 ∷ 2 ∷ 4 ∷ 5 ∷ 6 ∷ 7 ∷ 3 ∷ 9 ∷ 11 ∷ 12 ∷ 13 ∷ 7 ∷ [])
  -- one carriage return is dropped, and none at the end of the text
  pub two_returns : Accepts "a\tv\r\r\n" names 5 1 (1 ∷ 0 ∷ 1 ∷ 2 ∷ 4 ∷ [])
  pub return_at_end : Accepts "a\tv\r" names 5 1 (1 ∷ 0 ∷ 1 ∷ 2 ∷ 4 ∷ [])
  -- lines that are passed over are counted; a line of blanks is not empty
  pub passed_over : Accepts "\n\r\n\na\tv\n" names 5 1 (4 ∷ 4 ∷ 5 ∷ 6 ∷ 7 ∷ [])
  pub blank : Refuses "a\tv\n \n" names 5 2 16
  -- no value
  pub no_value : Accepts "a\t\r\n" names 5 1 (1 ∷ 0 ∷ 1 ∷ 2 ∷ 2 ∷ [])
  -- 16: no tab, two tabs; the second is no part of the value
  pub no_tab : Refuses "a\n" names 5 1 16
  pub two_tabs : Refuses "a\tv\tw\n" names 5 1 16
  -- 17: unknown, empty even where an empty name is known, the front of a known one, the known one only a front of it
  pub unknown : Refuses "a\tv\nc\tw\n" names 10 2 17
  pub empty_name : Refuses "\tv\n" "\n\na\n" 5 1 17
  pub front : Refuses "nam\tv\n" names 5 1 17
  pub longer : Refuses "names\tv\n" names 5 1 17
  -- a last known name without its line feed names nothing, and a carriage return is part of a known name
  pub open_name : Refuses "b\tv\n" "a\nb" 5 1 17
  pub return_in_name : Refuses "a\tv\n" "a\r\n" 5 1 17
  -- 18 has the line of the second use
  pub used : Refuses "a\tv\nb\tw\n\r\nab\tx\na\ty\n" names 20 5 18
  -- the first line at fault, and within it 16, 17, 18
  pub first_line : Refuses "a\tv\na\tw\nc\n" names 15 2 18
  pub 16-before-17 : Refuses "c\tv\tw\n" names 5 1 16
  pub 16-before-18 : Refuses "a\tv\na\n" names 10 2 16
  -- 7: a cell short, and after the others
  pub room_exact : Accepts "a\tv\nb\tw\n" names 10 2 (1 ∷ 0 ∷ 1 ∷ 2 ∷ 3 ∷ 2 ∷ 4 ∷ 5 ∷ 6 ∷ 7 ∷ [])
  pub room_short : Refuses "a\tv\nb\tw\n" names 9 0 7
  pub 17-before-7 : Refuses "a\tv\nx\ty\n" names 0 2 17
