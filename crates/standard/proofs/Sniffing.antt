-- 000's "BOM sniff" says of the first bytes what they choose; and what a whole input gives by the choice. Assumes nothing.
use mathlib.Core.Path.{◌≡◌, refl, sym, ap, subst}
use mathlib.Core.Bool.{Bool, false}
use mathlib.Core.List.{List, [], ◌∷◌, ◌++◌}
use Prim.Native.Nat.{ℕ}
use lib.Dec.{eqb}
use lib.ListN.{length, drop}
use borrow.Author.Tests.{eqb-true, eqb-false, ne_eqb}
use Rattle.standard.specs.Encodings.{Tables, no_tables, family}
use Rattle.standard.specs.Sequence.{Shift, text, plain}
use Rattle.standard.specs.Next.{next}
use Rattle.standard.specs.Decode.{Item, span, decode, everything}
use Rattle.standard.specs.Choice.{Choice, waiting, label, marked, choose, reader, is_waiting}
use Rattle.standard.specs.Choice.{Spot, spot, chosen, end_from, everything_from}
use Rattle.standard.specs.Sniffing.{marks, starts_with, sniff, waits}
use Rattle.standard.proofs.Tests.{split}
use Rattle.standard.proofs.Reading.{ending_any}
use Rattle.standard.proofs.Stages.{at_mark, not_one, read_on_lem, read_choice}

-- The encoding that reads, how many bytes are left out before it, and whether a mark is still possible.
pub record Said : Type 0 where
  pub encoding : ℕ
  pub width : ℕ
  pub waits : Bool

-- What sniffing says of some bytes, and what a choice says; e is the label's encoding.
abbrev pub sniffed : ℕ → List ℕ → Said
sniffed e xs = let k = sniff marks e xs in record { encoding = k.encoding; width = length k.bytes; waits = waits marks xs }

abbrev pub stage_by : Choice → ℕ
stage_by waiting = 1
stage_by label = 0
stage_by (marked w g) = g

abbrev pub width_by : Choice → ℕ
width_by waiting = 0
width_by label = 0
width_by (marked w g) = w

abbrev pub said_by : ℕ → Choice → Said
said_by e c = record { encoding = reader e (stage_by c); width = width_by c; waits = is_waiting c }

module _ (e : ℕ) where
  abbrev Agrees : List ℕ → Type 0
  Agrees xs = sniffed e xs ≡ said_by e (choose xs)

  -- a byte is the mark's, or another one
  either : (P : ℕ → Type 0) (b n : ℕ) → P n → (eqb b n ≡ false → eqb n b ≡ false → P b) → P b
  either P b n p q =
      split (eqb b n) (λ h. subst P (sym (eqb-true b n h)) p) (λ h. q h (ne_eqb n b (λ s. eqb-false b n h (sym s))))

  -- behind each first byte of a mark
  after_ef : (xs : List ℕ) → Agrees (0xEF ∷ xs)
  unfolding choose reader sniff starts_with waits
  after_ef [] = refl
  after_ef (b ∷ xs) = either (λ (b : ℕ). Agrees (0xEF ∷ b ∷ xs)) b 0xBB (third xs) (λ p q. rw (p, q))
    where
      whole : (xs : List ℕ) → Agrees (0xEF ∷ 0xBB ∷ 0xBF ∷ xs)
      whole [] = refl
      whole (d ∷ xs) = refl

      third : (xs : List ℕ) → Agrees (0xEF ∷ 0xBB ∷ xs)
      third [] = refl
      third (c ∷ xs) = either (λ (c : ℕ). Agrees (0xEF ∷ 0xBB ∷ c ∷ xs)) c 0xBF (whole xs) (λ p q. rw (p, q))

  after_fe : (xs : List ℕ) → Agrees (0xFE ∷ xs)
  unfolding choose reader sniff starts_with waits
  after_fe [] = refl
  after_fe (b ∷ xs) = either (λ (b : ℕ). Agrees (0xFE ∷ b ∷ xs)) b 0xFF (whole xs) (λ p q. rw (p, q))
    where
      whole : (xs : List ℕ) → Agrees (0xFE ∷ 0xFF ∷ xs)
      whole [] = refl
      whole (c ∷ xs) = refl

  after_ff : (xs : List ℕ) → Agrees (0xFF ∷ xs)
  unfolding choose reader sniff starts_with waits
  after_ff [] = refl
  after_ff (b ∷ xs) = either (λ (b : ℕ). Agrees (0xFF ∷ b ∷ xs)) b 0xFE (whole xs) (λ p q. rw (p, q))
    where
      whole : (xs : List ℕ) → Agrees (0xFF ∷ 0xFE ∷ xs)
      whole [] = refl
      whole (c ∷ xs) = refl

  pub sniff_chooses : (xs : List ℕ) → sniffed e xs ≡ said_by e (choose xs)
  unfolding choose reader sniff starts_with waits
  sniff_chooses [] = refl
  sniff_chooses (a ∷ xs) =
      either (λ (a : ℕ). Agrees (a ∷ xs)) a 0xEF (after_ef xs) (λ p p'.
      either (λ (a : ℕ). Agrees (a ∷ xs)) a 0xFE (after_fe xs) (λ q q'.
      either (λ (a : ℕ). Agrees (a ∷ xs)) a 0xFF (after_ff xs) (λ r r'. rw (p, q, r, p', q', r'))))

-- The mark that a choice eats.
abbrev pub eaten_by : Choice → List Item
eaten_by waiting = []
eaten_by label = []
eaten_by (marked w g) = span w (text []) ∷ []

module _ (t : Tables) (e : ℕ) where
  -- where the encoding that reads is known, its end looks into no table
  ended : (g : ℕ) → eqb g 1 ≡ false → (s : Shift) (xs : List ℕ) → let r = decode (next t (family (reader e g))) s xs in
      r.items ++ end_from t e (spot g r.shift) r.rest ≡ everything t (family (reader e g)) s xs
  unfolding end_from everything
  ended g h s xs =
      let r = decode (next t (family (reader e g))) s xs in
      rw h (ap (λ (is : List Item). r.items ++ is) (ending_any no_tables t (family (reader e g)) r.shift r.rest))

  pub all_read : (p : Spot) (xs : List ℕ) → eqb p.stage 1 ≡ false →
      everything_from t e p xs ≡ everything t (family (reader e p.stage)) p.shift xs
  unfolding everything_from
  all_read p xs h = rw (read_on_lem t e p xs h) (ended p.stage h p.shift xs)

  -- where the first bytes choose
  pub all_chosen : (xs : List ℕ) (c : Choice) → choose xs ≡ c →
      everything_from t e (spot 1 plain) xs ≡ eaten_by c ++ everything t (family (reader e (stage_by c))) plain (drop (width_by c) xs)
  unfolding everything_from chosen end_from reader
  all_chosen xs waiting q = rw (read_choice t e (spot 1 plain) xs refl, q)
  all_chosen xs label q = rw (read_choice t e (spot 1 plain) xs refl, q) (ended 0 refl plain xs)
  all_chosen xs (marked w g) q = rw (read_choice t e (spot 1 plain) xs refl, q)
      (ap (λ (is : List Item). span w (text []) ∷ is) (ended g (not_one g (at_mark xs q).low) plain (drop w xs)))
