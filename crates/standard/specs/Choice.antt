-- Document 02, Ask 1: the mark at the front chooses the encoding that reads. What the first bytes choose, and reading from a stage on.
-- Assumes nothing.
use Rattle.std.specs.Prelude.{Bool, true, false, List, [], ◌∷◌, ◌++◌, ℕ, eqb, drop}
use Rattle.standard.specs.Base.{◌then◌else◌}
use Rattle.standard.specs.Encodings.{Tables, no_tables, family}
use Rattle.standard.specs.Sequence.{Shift, Next, more, item, text, plain}
use Rattle.standard.specs.Next.{next}
use Rattle.standard.specs.Items.{Item, span, Read}
use Rattle.standard.specs.Decode.{decode, ending, everything}

-- The bytes wait for the choice; no mark: the label's encoding; a mark of so many bytes, and the stage that it leads to.
pub data Choice : Type 0 where
  waiting : Choice
  label : Choice
  marked : ℕ → ℕ → Choice

-- EF BB BF chooses UTF-8, FE FF UTF-16BE, FF FE UTF-16LE, as soon as the mark is whole; the label, as soon as no mark is possible.
abbrev pub mark2 : ℕ → ℕ → List ℕ → Choice
mark2 c g [] = waiting
mark2 c g (b ∷ xs) = eqb b c then marked 2 g else label

abbrev pub mark3 : List ℕ → Choice
mark3 [] = waiting
mark3 (b ∷ xs) = eqb b 0xBF then marked 3 2 else label

abbrev pub mark_ef : List ℕ → Choice
mark_ef [] = waiting
mark_ef (b ∷ xs) = eqb b 0xBB then mark3 xs else label

unfoldable pub choose : List ℕ → Choice
choose [] = waiting
choose (b ∷ xs) =
    eqb b 0xEF then mark_ef xs else
    eqb b 0xFE then mark2 0xFF 3 xs else
    eqb b 0xFF then mark2 0xFE 4 xs else label

-- The stages: 0 the label's encoding reads, 1 the choice is still to come, 2, 3, 4 a mark chose UTF-8, UTF-16BE, UTF-16LE.
-- The number of the encoding that reads, with the label's encoding e.
unfoldable pub reader : ℕ → ℕ → ℕ
reader e g =
    eqb g 2 then 0 else
    eqb g 3 then 37 else
    eqb g 4 then 38 else e

-- Where reading stands.
pub record Spot : Type 0 where
  pub stage : ℕ
  pub shift : Shift

abbrev pub spot : ℕ → Shift → Spot
spot g s = record { stage = g; shift = s }

-- What is read from a spot on: the sequences, an eaten mark among them, the spot after them, and the bytes held.
pub record Parsed : Type 0 where
  pub items : List Item
  pub spot : Spot
  pub rest : List ℕ

abbrev pub lift : ℕ → Read → Parsed
lift g r = record { items = r.items; spot = spot g r.shift; rest = r.rest }

-- An eaten mark gives no text.
abbrev pub eaten : ℕ → Parsed → Parsed
eaten w r = record { items = span w (text []) ∷ r.items; spot = r.spot; rest = r.rest }

-- The bytes wait; or the label's encoding reads them all; or the chosen one reads what follows the mark. No later mark is dropped.
unfoldable pub chosen : Tables → ℕ → List ℕ → Choice → Parsed
chosen t e xs waiting = record { items = []; spot = spot 1 plain; rest = xs }
chosen t e xs label = lift 0 (decode (next t (family e)) plain xs)
chosen t e xs (marked w g) = eaten w (lift g (decode (next t (family (reader e g))) plain (drop w xs)))

unfoldable pub read_from : Tables → ℕ → Spot → List ℕ → Parsed
read_from t e p xs =
    eqb p.stage 1 then chosen t e xs (choose xs) else
    lift p.stage (decode (next t (family (reader e p.stage))) p.shift xs)

-- The end of input: what still waits is read by the label's encoding. In the other stages no table is looked into.
unfoldable pub end_from : Tables → ℕ → Spot → List ℕ → List Item
end_from t e p xs =
    eqb p.stage 1 then everything t (family e) plain xs else
    ending no_tables (family (reader e p.stage)) p.shift xs

-- Everything that a whole input gives from a spot on.
unfoldable pub everything_from : Tables → ℕ → Spot → List ℕ → List Item
everything_from t e p xs =
    let r = read_from t e p xs in
    r.items ++ end_from t e r.spot r.rest

-- The bytes of the mark that led to a stage.
abbrev pub mark_width : ℕ → ℕ
mark_width g = eqb g 2 then 3 else 2

-- Are more bytes wanted, for a sequence or for the choice?
abbrev pub is_more : Next → Bool
is_more more = true
is_more (item w s o) = false

abbrev pub is_waiting : Choice → Bool
is_waiting waiting = true
is_waiting label = false
is_waiting (marked w g) = false

-- Are these the bytes of a mark or a sequence that was started at a spot? No table is looked into.
unfoldable pub rests : ℕ → Spot → List ℕ → Bool
rests e p xs =
    eqb p.stage 1 then is_waiting (choose xs) else
    is_more (next no_tables (family (reader e p.stage)) p.shift xs)
