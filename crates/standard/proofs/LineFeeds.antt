-- Line feeds are counted part by part; where an encoding keeps separators, those handed out are those of the bytes. Assumes nothing.
use mathlib.Core.Path.{◌≡◌, refl, sym, ap, ◌∙◌}
use mathlib.Core.Bool.{Bool, true, false, ◌&&◌, ◌||◌}
use mathlib.Core.List.{List, [], ◌∷◌, ◌++◌, append-nil}
use Prim.Native.Nat.{ℕ, zero, suc, ◌+◌, ◌-◌, ◌≤◌}
use native.Mathlib.Omega.{arith}
use native.Mathlib.Numerals.{unary_clauses}
use lib.Dec.{T, ltb, leb, eqb, lit≤}
use lib.ListN.{length, take}
use borrow.Author.Tests.{ltb-false, eqb-true, ne_eqb}
use Rattle.standard.specs.Base.{◌then◌else◌, within, separators, line_feeds}
use Rattle.standard.specs.Encodings.{Tables, Family, UTF-8, single-byte, windows-1252, GB18030, Big5, EUC-JP, ISO-2022-JP, Shift-JIS, EUC-KR, Replacement, UTF-16BE, UTF-16LE, x-user-defined}
use Rattle.standard.specs.Standard.{drop_mark}
use Rattle.standard.specs.Sequence.{Shift, Out, text, error, Next, more, item, await, shift}
use Rattle.standard.specs.Layouts.{leads, iso2022_jp_layout}
use Rattle.standard.specs.Sequences.Iso2022Jp.{iso2022_jp, byte_out, escape_end, escape_next, lead_next}
use Rattle.standard.specs.Next.{next}
use Rattle.standard.specs.Decode.{Item, span, decode, one_error, last_out, iso_end, ending, given, shown, before, reach}
use Rattle.standard.specs.LineFeeds.{LineFeeds, NoneAtEnd}
use Rattle.standard.proofs.Tests.{or_case}
use Rattle.standard.proofs.FamilyLaws.{keeps}
use Rattle.standard.proofs.Items.{shown_cons}
use Rattle.standard.proofs.Separators.{none_held_lem, chunk_separators, before_separators}

pub line_feeds-append : (xs ys : List ℕ) → line_feeds (xs ++ ys) ≡ line_feeds xs + line_feeds ys
unfolding line_feeds
line_feeds-append [] ys = omega arith
line_feeds-append (x ∷ xs) ys = go (eqb x 0x0A) (line_feeds-append xs ys)
  where
    go : (t : Bool) → line_feeds (xs ++ ys) ≡ line_feeds xs + line_feeds ys →
        (t then suc (line_feeds (xs ++ ys)) else line_feeds (xs ++ ys)) ≡ (t then suc (line_feeds xs) else line_feeds xs) + line_feeds ys
    go true h = omega arith
    go false h = h

pub line_feeds-length : (xs : List ℕ) → line_feeds xs ≤ length xs
unfolding line_feeds
line_feeds-length [] = lit≤ tt
line_feeds-length (x ∷ xs) = go (eqb x 0x0A) (line_feeds-length xs)
  where
    go : (t : Bool) → line_feeds xs ≤ length xs → (t then suc (line_feeds xs) else line_feeds xs) ≤ suc (length xs)
    go true h = omega arith
    go false h = omega arith

-- a byte order mark is no line feed
pub mark_line_feeds : (cs : List ℕ) → line_feeds (drop_mark cs) ≡ line_feeds cs
unfolding line_feeds
mark_line_feeds [] = refl
mark_line_feeds (c ∷ cs) = go (eqb c 0xFEFF) refl
  where
    go : (t : Bool) → eqb c 0xFEFF ≡ t → line_feeds (t then cs else c ∷ cs) ≡ (eqb c 0x0A then suc (line_feeds cs) else line_feeds cs)
    go true e = rw (ne_eqb c 0x0A (λ z. omega (arith, eqb-true c 0xFEFF e)))
    go false e = refl

-- what stands before the first error has no more than all
pub before_line_feeds : (is : List Item) → line_feeds (before is) ≤ line_feeds (shown is)
unfolding before shown line_feeds
before_line_feeds [] = lit≤ tt
before_line_feeds (span w (text cs) ∷ is) = simp line_feeds-append (omega (arith, before_line_feeds is))
before_line_feeds (span w error ∷ is) = omega arith

-- a front behind elements without a line feed
behind_none : (n : ℕ) (xs ys : List ℕ) → line_feeds xs ≡ 0 → line_feeds (take n (xs ++ ys)) ≡ line_feeds (take (n - length xs) ys)
unfolding line_feeds
behind_none n [] ys h = simp unary_clauses refl
behind_none zero (x ∷ xs) ys h = let z : 0 - suc (length xs) ≡ 0 = omega arith in rw z
behind_none (suc n) (x ∷ xs) ys h = simp unary_clauses (go (eqb x 0x0A) h (behind_none n xs ys))
  where
    go : (t : Bool) → (t then suc (line_feeds xs) else line_feeds xs) ≡ 0 →
        (line_feeds xs ≡ 0 → line_feeds (take n (xs ++ ys)) ≡ line_feeds (take (n - length xs) ys)) →
        (t then suc (line_feeds (take n (xs ++ ys))) else line_feeds (take n (xs ++ ys))) ≡ line_feeds (take (n - length xs) ys)
    go true h ih = absurd (omega arith)
    go false h ih = ih h

-- A line feed is a separator.
of_separators : (xs : List ℕ) → line_feeds (separators xs) ≡ line_feeds xs
unfolding separators line_feeds
of_separators [] = refl
of_separators (x ∷ xs) = go (ltb x 0x30) refl (of_separators xs)
  where
    go : (t : Bool) → ltb x 0x30 ≡ t → line_feeds (separators xs) ≡ line_feeds xs →
        line_feeds (t then x ∷ separators xs else separators xs) ≡ (eqb x 0x0A then suc (line_feeds xs) else line_feeds xs)
    go true e h = rw h
    go false e h = rw (ne_eqb x 0x0A (λ z. omega (arith, ltb-false x 0x30 e))) h

pub same_separators : (xs ys : List ℕ) → separators xs ≡ separators ys → line_feeds xs ≡ line_feeds ys
same_separators xs ys h = sym (of_separators xs) ∙ ap line_feeds h ∙ of_separators ys

no_separators : (xs : List ℕ) → separators xs ≡ [] → line_feeds xs ≡ 0
unfolding separators line_feeds
no_separators xs h = same_separators xs [] h

-- The bytes held may have been read with other tables.
pub line_feeds_lem : (t t' : Tables) (f : Family) → T (keeps f) → (s : Shift) (held chunk : List ℕ) → next t' f s held ≡ more → LineFeeds t f s held chunk
line_feeds_lem t t' f k s held chunk w =
    let none = none_held_lem t' f k s held w in
    let is = (decode (next t f) s (held ++ chunk)).items in
    record {
      none_held = no_separators held none;
      whole = same_separators (shown is) chunk (chunk_separators t f k s held chunk none);
      up_to_error = same_separators (before is) (take (reach is) (held ++ chunk)) (before_separators t f k s (held ++ chunk)) ∙
          behind_none (reach is) held chunk (no_separators held none);
    }

-- What a sequence gives has no line feed: a scalar that is none, an error, either of two.
record Quiet (o : Out) : Type 0 where
  none : line_feeds (given o) ≡ 0

quiet_scalar : (u : ℕ) → (u ≡ 0x0A → ⊥) → Quiet (text (u ∷ []))
unfolding line_feeds
quiet_scalar u h = record { none = rw (ne_eqb u 0x0A h) }

quiet_error : Quiet error
unfolding line_feeds
quiet_error = record { none = refl }

quiet_test : (p : Bool) {a b : Out} → Quiet a → Quiet b → Quiet (p then a else b)
quiet_test true h g = h
quiet_test false h g = g

-- The byte after 1B that is held in ISO-2022-JP is 24 or 28; read for itself it gives no line feed.
no_more : {w : ℕ} {s : Shift} {o : Out} → item w s o ≡ more → ⊥
no_more e = let z : ◌≡◌ {A = ℕ} 0 1 = cc in absurd (omega arith)

neither : (p : Bool) {a b : Next} → (a ≡ more → ⊥) → (b ≡ more → ⊥) → (p then a else b) ≡ more → ⊥
neither true h g e = h e
neither false h g e = g e

second : (t : Tables) (s : Shift) (b c : ℕ) (xs : List ℕ) → iso2022_jp t s (b ∷ c ∷ xs) ≡ more → eqb c 0x24 || eqb c 0x28 ≡ true
unfolding iso2022_jp
second t s b c xs e = go (eqb b 0x1B) e
  where
    escape : (p : Bool) → (p then await xs (λ d xs. escape_end s c d) else item 1 (shift s.state false) error) ≡ more → p ≡ true
    escape true e = refl
    escape false e = absurd (no_more e)

    go : (p : Bool) → (p then escape_next s c xs else eqb s.state 3 then lead_next t.first b (c ∷ xs) else
        item 1 (shift s.state false) (byte_out s.state b)) ≡ more → eqb c 0x24 || eqb c 0x28 ≡ true
    go true e = escape (eqb c 0x24 || eqb c 0x28) e
    go false e = absurd (neither (eqb s.state 3) (neither (leads iso2022_jp_layout b) (neither (eqb c 0x1B) no_more no_more) no_more) no_more e)

quiet_byte : (state c : ℕ) → (c ≡ 0x0A → ⊥) → Quiet (byte_out state c)
unfolding byte_out
quiet_byte state c h =
    quiet_test (eqb state 2) (quiet_test (within 0x21 c 0x5F) (quiet_scalar _ (λ z. omega arith)) quiet_error)
    (quiet_test (leb 0x80 c || eqb c 0x0E || eqb c 0x0F) quiet_error
    (quiet_test (eqb state 1 && eqb c 0x5C) (quiet_scalar 0xA5 (λ z. omega arith))
    (quiet_test (eqb state 1 && eqb c 0x7E) (quiet_scalar 0x203E (λ z. omega arith)) (quiet_scalar c h))))

quiet_last : (t : Tables) (s : Shift) (c : ℕ) → eqb c 0x24 || eqb c 0x28 ≡ true → Quiet (last_out (next t ISO-2022-JP s (c ∷ [])))
unfolding next iso2022_jp
quiet_last t s c h = go (eqb c 0x1B) (eqb s.state 3) (leads iso2022_jp_layout c)
  where
    go : (p q r : Bool) → Quiet (last_out (p then more else q then (r then more else item 1 (shift 3 false) error) else
        item 1 (shift s.state false) (byte_out s.state c)))
    go true q r = quiet_error
    go false true true = quiet_error
    go false true false = quiet_error
    go false false r = quiet_byte s.state c (λ z.
        or_case (eqb c 0x24) (eqb c 0x28) h (λ e. omega (arith, eqb-true c 0x24 e)) (λ e. omega (arith, eqb-true c 0x28 e)))

one_quiet : (xs : List ℕ) → line_feeds (shown (one_error xs)) ≡ 0
unfolding one_error shown line_feeds
one_quiet [] = refl
one_quiet (b ∷ xs) = refl

iso_quiet : (t : Tables) (s : Shift) (xs : List ℕ) → next t ISO-2022-JP s xs ≡ more → line_feeds (shown (iso_end t s xs)) ≡ 0
unfolding iso_end shown line_feeds next
iso_quiet t s [] w = refl
iso_quiet t s (b ∷ []) w = refl
iso_quiet t s (b ∷ c ∷ xs) w =
    let o = last_out (next t ISO-2022-JP s (c ∷ [])) in
    ap line_feeds (shown_cons (suc (length xs)) o [] ∙ append-nil (given o)) ∙ (quiet_last t s c (second t s b c xs w)).none

pub none_at_end : NoneAtEnd
unfolding ending
none_at_end t ISO-2022-JP s held w = iso_quiet t s held w
none_at_end t UTF-8 s held w = one_quiet held
none_at_end t single-byte s held w = one_quiet held
none_at_end t windows-1252 s held w = one_quiet held
none_at_end t GB18030 s held w = one_quiet held
none_at_end t Big5 s held w = one_quiet held
none_at_end t EUC-JP s held w = one_quiet held
none_at_end t Shift-JIS s held w = one_quiet held
none_at_end t EUC-KR s held w = one_quiet held
none_at_end t Replacement s held w = one_quiet held
none_at_end t UTF-16BE s held w = one_quiet held
none_at_end t UTF-16LE s held w = one_quiet held
none_at_end t x-user-defined s held w = one_quiet held
