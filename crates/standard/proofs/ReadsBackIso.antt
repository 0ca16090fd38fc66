-- The law of one scalar for ISO-2022-JP: a shift sequence where the state changes, then the scalar's image. Assumes nothing.
use mathlib.Core.Path.{◌≡◌, refl, ap, ◌∙◌}
use mathlib.Core.Bool.{Bool, true, false, not, ◌&&◌, ◌||◌}
use mathlib.Core.List.{List, [], ◌∷◌, ◌++◌, append_assoc}
use mathlib.Core.Option.{Option, some, none}
use Prim.Native.Nat.{ℕ, zero, suc, ◌≤◌, ◌<◌}
use native.Mathlib.Omega.{arith}
use lib.Dec.{eqb, lit≤}
use lib.ListN.{length}
use lib.Seq.{drop-append_seam}
use borrow.Author.Tests.{ltb-true, eqb-true, lt-leb, ne_eqb, not-true}
use Rattle.standard.specs.Base.{◌then◌else◌, within}
use Rattle.standard.specs.Encodings.{Tables, ISO-2022-JP, traits}
use Rattle.standard.specs.Handlers.{ascii}
use Rattle.standard.specs.Machine.{Result, tokens, error_with}
use Rattle.standard.specs.Sequence.{Shift, text, Next, item, shift}
use Rattle.standard.specs.Sequences.Iso2022Jp.{escaped, byte_out, iso2022_jp}
use Rattle.standard.specs.Layouts.{leads, trails, pair_code, lead_of, trail_of, two_bytes, iso2022_jp_layout}
use Rattle.standard.specs.Search.{first, Lookup, Sound}
use Rattle.standard.specs.Encoders.Pairs.{pair_or_error_with}
use Rattle.standard.specs.Encoders.EucJp.{jis0208_over}
use Rattle.standard.specs.Encoders.Iso2022Jp.{State, ASCII, Roman, jis0208, state_of, escape, control, roman_lacks, changed, changed_name}
use Rattle.standard.specs.Ones.{shift_to, changed_pair, iso2022_jp_encode, written_in}
use Rattle.standard.specs.Next.{next}
use Rattle.standard.specs.Decode.{span, put, decode}
use Rattle.standard.specs.Images.{iso_image, reader_shift, shifts, front, OneScalarInState}
use Rattle.standard.proofs.Tests.{choose, or_none_lem, and_right, within_low, under}
use Rattle.standard.proofs.Laws.{Laws}
use Rattle.standard.proofs.FamilyLaws.{keeps, next_laws}
use Rattle.standard.proofs.Layouts.{two_bytes_lem, iso_2022_jp_regular}
use Rattle.standard.proofs.ReadsBack.{cell_of_lem, first_fits}
use Rattle.standard.proofs.ReadsBackPairs.{jis0208_row}
use Rattle.standard.proofs.Walk.{decode_item}

-- the reader's output state at each state of the writer
abbrev reader_state : ℕ → ℕ
reader_state s = eqb s 2 then 3 else s

-- no control, so none of the three
module _ (c : ℕ) (h : control c ≡ false) where
  not_0e : eqb c 0x0E ≡ false
  not_0e = (or_none_lem (eqb c 0x0E) (eqb c 0x0F) (or_none_lem (eqb c 0x0E || eqb c 0x0F) (eqb c 0x1B) h).0).0

  not_0f : eqb c 0x0F ≡ false
  not_0f = (or_none_lem (eqb c 0x0E) (eqb c 0x0F) (or_none_lem (eqb c 0x0E || eqb c 0x0F) (eqb c 0x1B) h).0).1

  not_1b : eqb c 0x1B ≡ false
  not_1b = (or_none_lem (eqb c 0x0E || eqb c 0x0F) (eqb c 0x1B) h).1

-- the image of a scalar that is not changed
self_image : (katakana : List ℕ) (c : ℕ) → (c ≡ 0x2212 → ⊥) → within 0xFF61 c 0xFF9F ≡ false → iso_image katakana c ≡ c
self_image katakana c p q = rw (ne_eqb c 0x2212 p, q)

-- the state that a scalar is written in
pub written_small : (s c : ℕ) → written_in s c ≤ 2
written_small s c =
    choose (λ n. n ≤ 2) (ascii c) (λ _. choose (λ n. n ≤ 2) (eqb s 1 && not (roman_lacks c)) (λ _. lit≤ tt) (λ _. lit≤ tt)) (λ _.
    choose (λ n. n ≤ 2) (eqb c 0xA5 || eqb c 0x203E) (λ _. lit≤ tt) (λ _. lit≤ tt))

-- a shift sequence has three bytes
three : (v : State) → length (escape v) ≡ 3
three ASCII = refl
three Roman = refl
three jis0208 = refl

module _ (t : Tables) where
  abbrev N : Shift → List ℕ → Next
  N = next t ISO-2022-JP

  law : Laws (keeps ISO-2022-JP) N
  law = next_laws t ISO-2022-JP

  -- a shift sequence, where none stands just before it
  pub escape_next_lem : (a s : ℕ) → s ≤ 2 → (ys : List ℕ) →
      N (shift a false) (escape (state_of s) ++ ys) ≡ item (length (escape (state_of s))) (shift (reader_state s) true) (text [])
  unfolding next iso2022_jp escaped
  escape_next_lem a zero h ys = refl
  escape_next_lem a (suc zero) h ys = refl
  escape_next_lem a (suc (suc zero)) h ys = refl
  escape_next_lem a (suc (suc (suc s))) h ys = absurd (omega arith)

  -- What bytes written in the state s are to the reader, with either flag: one sequence that gives d.
  record Good (s d : ℕ) (bs : List ℕ) : Type 0 where
    reads : (flag : Bool) (ys : List ℕ) → N (shift (reader_state s) flag) (bs ++ ys) ≡ item (length bs) (reader_shift s) (text (d ∷ []))

  -- a byte in ASCII, a byte in Roman
  in_ascii : (c : ℕ) → control c ≡ false → c < 0x80 → Good 0 c (c ∷ [])
  unfolding next iso2022_jp byte_out
  in_ascii c h l = record { reads = λ flag ys. rw (not_1b c h, lt-leb 0x80 c l, not_0e c h, not_0f c h) }

  in_roman : (c : ℕ) → control c ≡ false → c < 0x80 → roman_lacks c ≡ false → Good 1 c (c ∷ [])
  unfolding next iso2022_jp byte_out
  in_roman c h l n =
      let q = or_none_lem (eqb c 0x5C) (eqb c 0x7E) n in
      record { reads = λ flag ys. rw (not_1b c h, lt-leb 0x80 c l, not_0e c h, not_0f c h, q.0, q.1) }

  yen : Good 1 0xA5 (0x5C ∷ [])
  unfolding next iso2022_jp byte_out
  yen = record { reads = λ flag ys. refl }

  overline : Good 1 0x203E (0x7E ∷ [])
  unfolding next iso2022_jp byte_out
  overline = record { reads = λ flag ys. refl }

  -- two bytes
  pair_next : (b c d : ℕ) (flag : Bool) (ys : List ℕ) → leads iso2022_jp_layout b ≡ true → trails iso2022_jp_layout c ≡ true →
      pair_code iso2022_jp_layout t.first b c ≡ d → 0x80 ≤ d → N (shift 3 flag) (b ∷ c ∷ ys) ≡ item 2 (shift 3 false) (text (d ∷ []))
  unfolding next iso2022_jp
  pair_next b c d flag ys l m e z =
      rw (
        ne_eqb b 0x1B (λ q. omega (arith, within_low 0x21 b 0x7E l)),
        l,
        ne_eqb c 0x1B (λ q. omega (arith, within_low 0x21 c 0x7E m)),
        e,
        ne_eqb d 0 (λ q. omega arith),
      )

  module _ (fit : length t.first ≤ 11280) {look : Lookup} (S : Sound look t.first) (katakana : List ℕ) where
    by_pair : (d p : ℕ) → look first jis0208_over d ≡ some p → Good 2 d (two_bytes iso2022_jp_layout p)
    unfolding pair_code
    by_pair d p e =
        let f = S.sound first jis0208_over d p e in
        let x = cell_of_lem t.first p d f.code in
        let w = two_bytes_lem iso2022_jp_layout p iso_2022_jp_regular (jis0208_row (length t.first) p fit f.inside f.searched) in
        let code : pair_code iso2022_jp_layout t.first (lead_of iso2022_jp_layout p) (trail_of iso2022_jp_layout p) ≡ d =
        rw (w.lead_fits, w.trail_fits, w.back) x.0 in
        record {
          reads = λ flag ys. pair_next (lead_of iso2022_jp_layout p) (trail_of iso2022_jp_layout p) d flag ys w.lead_fits w.trail_fits code x.1;
        }

    -- what an encoder answers with bytes is good
    abbrev Fine : ℕ → ℕ → Result → Type 0
    Fine s d r = (bs : List ℕ) → r ≡ tokens bs → Good s d bs

    fine_bytes : {s d : ℕ} (bs : List ℕ) → Good s d bs → Fine s d (tokens bs)
    fine_bytes bs g bs' e = let q : bs' ≡ bs = cc in rw q g

    fine_none : {s d : ℕ} (n : ℕ) → Fine s d (error_with n)
    fine_none n bs e = let z : ◌≡◌ {A = ℕ} 0 1 = cc in absurd (omega arith)

    by_changed : (c : ℕ) (o : Option ℕ) → Fine 2 (changed_name o c) (changed_pair look o c)
    by_changed c none = fine_none c
    by_changed c (some d) = go (look first jis0208_over d) refl
      where
        go : (p : Option ℕ) → look first jis0208_over d ≡ p → Fine 2 d (pair_or_error_with iso2022_jp_layout p d)
        go none q = fine_none d
        go (some p) q = fine_bytes (two_bytes iso2022_jp_layout p) (by_pair d p q)

    ascii_byte : (s c : ℕ) → control c ≡ false → c < 0x80 → (b : Bool) → eqb s 1 && not (roman_lacks c) ≡ b → Good (b then 1 else 0) c (c ∷ [])
    ascii_byte s c h l true e = in_roman c h l (not-true (roman_lacks c) (and_right (eqb s 1) (not (roman_lacks c)) e))
    ascii_byte s c h l false e = in_ascii c h l

    -- The scalar in the state that it is written in.
    in_state : (s c : ℕ) → Fine (written_in s c) (iso_image katakana c) (iso2022_jp_encode look katakana c)
    unfolding iso2022_jp_encode
    in_state s c =
        choose (Fine (written_in s c) (iso_image katakana c)) (control c) (λ h. fine_none 0xFFFD) (λ h.
        choose (Fine (written_in s c) (iso_image katakana c)) (ascii c)
        (λ k. let l : c < 0x80 = ltb-true c 0x80 k in
        rw (k, self_image katakana c (λ z. omega arith) (under 0xFF61 c 0xFF9F (omega arith)))
        (fine_bytes (c ∷ []) (ascii_byte s c h l (eqb s 1 && not (roman_lacks c)) refl))) (λ k.
        choose (Fine (written_in s c) (iso_image katakana c)) (eqb c 0xA5)
        (λ g. let q : c ≡ 0xA5 = eqb-true c 0xA5 g in rw q (fine_bytes (0x5C ∷ []) yen)) (λ g.
        choose (Fine (written_in s c) (iso_image katakana c)) (eqb c 0x203E)
        (λ u. let q : c ≡ 0x203E = eqb-true c 0x203E u in rw q (fine_bytes (0x7E ∷ []) overline)) (λ u.
        rw (k, g, u) (by_changed c (changed katakana c))))))

    -- with the shift sequence in front
    decodes : (s s' d : ℕ) (bs ys : List ℕ) → s' ≤ 2 → Good s' d bs →
        decode N (reader_shift s) ((shift_to s s' ++ bs) ++ ys) ≡
        front (shifts s s' ++ span (length bs) (text (d ∷ [])) ∷ []) (decode N (reader_shift s') ys)
    decodes s s' d bs ys small g = go (eqb s s') refl
      where
        last : (a : Shift) → N a (bs ++ ys) ≡ item (length bs) (reader_shift s') (text (d ∷ [])) →
            decode N a (bs ++ ys) ≡ put (length bs) (text (d ∷ [])) (decode N (reader_shift s') ys)
        last a e = decode_item (keeps ISO-2022-JP) N law a (bs ++ ys) e ∙ rw drop-append_seam

        go : (b : Bool) → eqb s s' ≡ b →
            decode N (reader_shift s) (((b then [] else escape (state_of s')) ++ bs) ++ ys) ≡
            front ((b then [] else span 3 (text []) ∷ []) ++ span (length bs) (text (d ∷ [])) ∷ []) (decode N (reader_shift s') ys)
        go true e = rw (eqb-true s s' e) (last (reader_shift s') (g.reads false ys))
        go false e = rw (append_assoc (escape (state_of s')) bs ys)
            (decode_item (keeps ISO-2022-JP) N law (reader_shift s) (escape (state_of s') ++ (bs ++ ys))
            (escape_next_lem (reader_state s) s' small (bs ++ ys)) ∙
            rw (drop-append_seam, three (state_of s')) (ap (put 3 (text [])) (last (shift (reader_state s') true) (g.reads true ys))))

pub one_scalar_in_state : OneScalarInState
unfolding traits
one_scalar_in_state t katakana look h S s c bs ys e =
    let fit = first_fits ISO-2022-JP t h in
    decodes t fit S katakana s (written_in s c) (iso_image katakana c) bs ys (written_small s c) (in_state t fit S katakana s c bs e)
