-- The bytes of one scalar, as the code makes them. Assumes nothing.
use mathlib.Core.Path.{◌≡◌, refl, sym, ap, ◌∙◌}
use mathlib.Core.Bool.{Bool, true, false, not, ◌&&◌, and-false}
use mathlib.Core.List.{List, [], ◌∷◌, ◌++◌}
use mathlib.Core.Option.{Option, some, none}
use Prim.Native.Nat.{ℕ, zero, suc, ◌+◌, ◌-◌, ◌/◌, ◌%◌, ◌≤◌, ◌<◌}
use native.Mathlib.Omega.{arith}
use mir.Val.{bool_byte}
use lib.Dec.{ltb, leb, eqb}
use lib.ListN.{length}
use borrow.Author.Tests.{ltb-true, ltb-false, lt-ltb, le-ltb, leb-true, leb-false, le-leb, lt-leb, eqb-true, eqb-false, eq-eqb, ne_eqb}
use Rattle.standard.specs.Base.{◌then◌else◌, within, every, mapped}
use Rattle.standard.specs.Indexes.{irregular, count_from, windows1252}
use Rattle.standard.specs.Machine.{Result, tokens, error_with}
use Rattle.standard.specs.Search.{none_over, pass_over, first, either, search_from, Lookup, searching, index_pointer, pointer_from}
use Rattle.standard.specs.Encoders.Utf8.{utf8_following, utf8_bytes, utf8_encode}
use Rattle.standard.specs.Encoders.SingleByte.{or_error_with, single_byte_encode}
use Rattle.standard.specs.Encoders.UserDefined.{user_defined_encode}
use Rattle.standard.proofs.Search.{search_rule}
use Rattle.standard.proofs.Tests.{split, and_left, and_right, within_low, within_high, under, above}
use Rattle.reverse_index_spec.specs.ReverseIndex.{look_up}
use Rattle.reverse_index_spec.proofs.LookUp.{look_up-sound}
use Rattle.encoder.specs.WriterCode.{utf8_of, pairs, encoder_of}

-- UTF-8
module _ (c : ℕ) where
  pub utf8_tokens : utf8_encode c ≡ tokens (utf8_of c)
  unfolding utf8_encode
  utf8_tokens = go (ltb c 0x80) (leb c 0x7FF) (leb c 0xFFFF)
    where
      go : (s t u : Bool) →
          (s then tokens (c ∷ []) else t then tokens (utf8_bytes 1 0xC0 c) else u then tokens (utf8_bytes 2 0xE0 c) else tokens (utf8_bytes 3 0xF0 c)) ≡
          tokens (s then c ∷ [] else t then utf8_bytes 1 0xC0 c else u then utf8_bytes 2 0xE0 c else utf8_bytes 3 0xF0 c)
      go true t u = refl
      go false true u = refl
      go false false true = refl
      go false false false = refl

  pub utf8_one_lem : c < 0x80 → c ∷ [] ≡ utf8_of c
  utf8_one_lem h = rw (lt-ltb c 0x80 h)

  pub utf8_two_lem : 0x80 ≤ c → c ≤ 0x7FF → (s : ℕ) → s ≡ 0x80 + c % 64 → (c / 64 + 0xC0) ∷ s ∷ [] ≡ utf8_of c
  unfolding utf8_bytes utf8_following
  utf8_two_lem h g s e = let f : s ≡ 0x80 + c / 1 % 64 = omega arith in rw (le-ltb c 0x80 h, le-leb c 0x7FF g, f)

  pub utf8_three_lem : 0x7FF < c → c ≤ 0xFFFF → (s t : ℕ) → s ≡ 0x80 + c / 64 % 64 → t ≡ 0x80 + c % 64 → (c / 4096 + 0xE0) ∷ s ∷ t ∷ [] ≡ utf8_of c
  unfolding utf8_bytes utf8_following
  utf8_three_lem h g s t e d = let f : t ≡ 0x80 + c / 1 % 64 = omega arith in rw (le-ltb c 0x80 (omega arith), lt-leb c 0x7FF h, le-leb c 0xFFFF g, e, f)

  pub utf8_four_lem : 0xFFFF < c → (s t u : ℕ) → s ≡ 0x80 + c / 4096 % 64 → t ≡ 0x80 + c / 64 % 64 → u ≡ 0x80 + c % 64 →
      (c / 262144 + 0xF0) ∷ s ∷ t ∷ u ∷ [] ≡ utf8_of c
  unfolding utf8_bytes utf8_following
  utf8_four_lem h s t u e d k = let f : u ≡ 0x80 + c / 1 % 64 = omega arith in rw (le-ltb c 0x80 (omega arith), lt-leb c 0x7FF (omega arith), lt-leb c 0xFFFF h, e, d, f)

  -- how many bytes
  pub utf8_one-length : c < 0x80 → 1 ≡ length (utf8_of c)
  utf8_one-length h = ap length (utf8_one_lem h)

  pub utf8_two-length : 0x80 ≤ c → c ≤ 0x7FF → 2 ≡ length (utf8_of c)
  utf8_two-length h g = ap length (utf8_two_lem h g (0x80 + c % 64) refl)

  pub utf8_three-length : 0x7FF < c → c ≤ 0xFFFF → 3 ≡ length (utf8_of c)
  utf8_three-length h g = ap length (utf8_three_lem h g (0x80 + c / 64 % 64) (0x80 + c % 64) refl refl)

  pub utf8_four-length : 0xFFFF < c → 4 ≡ length (utf8_of c)
  utf8_four-length h = ap length (utf8_four_lem h (0x80 + c / 4096 % 64) (0x80 + c / 64 % 64) (0x80 + c % 64) refl refl refl)

  -- and by the three tests
  test_below : (n x : ℕ) → c < n → x ≡ bool_byte (leb n c) → x ≡ 0
  test_below n x h e = e ∙ rw (lt-leb n c h)

  test_from : (n x : ℕ) → n ≤ c → x ≡ bool_byte (leb n c) → x ≡ 1
  test_from n x h e = e ∙ rw (le-leb n c h)

  pub utf8_size : (s t u : ℕ) → s ≡ bool_byte (leb 0x80 c) → t ≡ bool_byte (leb 0x800 c) → u ≡ bool_byte (leb 0x10000 c) →
      1 + s + t + u ≡ length (utf8_of c)
  utf8_size s t u e d k =
      split (ltb c 0x80) (λ h. let l : c < 0x80 = ltb-true c 0x80 h in
      omega (arith, utf8_one-length l, test_below 0x80 s l e, test_below 0x800 t (omega arith) d, test_below 0x10000 u (omega arith) k)) (λ h.
      let l : 0x80 ≤ c = ltb-false c 0x80 h in
      split (ltb c 0x800) (λ g. let m : c < 0x800 = ltb-true c 0x800 g in
      omega (arith, utf8_two-length l (omega arith), test_from 0x80 s l e, test_below 0x800 t m d, test_below 0x10000 u (omega arith) k)) (λ g.
      let m : 0x800 ≤ c = ltb-false c 0x800 g in
      split (ltb c 0x10000) (λ f. let n : c < 0x10000 = ltb-true c 0x10000 f in
      omega (arith, utf8_three-length (omega arith) (omega arith), test_from 0x80 s l e, test_from 0x800 t m d, test_below 0x10000 u n k)) (λ f.
      let n : 0x10000 ≤ c = ltb-false c 0x10000 f in
      omega (arith, utf8_four-length (omega arith), test_from 0x80 s l e, test_from 0x800 t m d, test_from 0x10000 u n k))))

-- single-byte
module _ (look : Lookup) (c : ℕ) where
  pub single_one : c < 0x80 → tokens (c ∷ []) ≡ single_byte_encode look c
  unfolding single_byte_encode
  single_one h = rw (lt-ltb c 0x80 h)

  pub single_by : 0x80 ≤ c → {o : Option ℕ} → o ≡ look first none_over c → {r : Result} → r ≡ or_error_with o c → r ≡ single_byte_encode look c
  unfolding single_byte_encode
  single_by h e q = q ∙ rw (le-ltb c 0x80 h, e)

-- a pointer is below the table's length, by a search and by an index
pub pointer_below : (table : List ℕ) (c : ℕ) {o : Option ℕ} → o ≡ index_pointer table c → length table ≤ 128 → (p : ℕ) → o ≡ some p → p < 128
pointer_below table c e h p q = omega (arith, ((search_rule first none_over table c).found p (sym e ∙ q)).inside, h)

pub looked_below : (table links : List ℕ) (c : ℕ) {o : Option ℕ} → o ≡ look_up table links first (pass_over 1 0) c → length table ≤ 128 →
    (p : ℕ) → o ≡ some p → p < 128
looked_below table links c e h p q = omega (arith, (look_up-sound table links first (pass_over 1 0) c p (sym e ∙ q)).inside, h)

-- windows-1252: the search goes on behind the irregular ones
pointer_append : (p : ℕ) (xs ys : List ℕ) (c : ℕ) → pointer_from p (xs ++ ys) c ≡ either first (pointer_from p xs c) (pointer_from (length xs + p) ys c)
unfolding search_from
pointer_append p [] ys c = let e : 0 + p ≡ p = omega arith in rw e
pointer_append p (x ∷ xs) ys c = split (mapped x && eqb x c)
    (λ h. rw h)
    (λ h. let e : suc (length xs) + p ≡ length xs + suc p = omega arith in rw (h, e) (pointer_append (suc p) xs ys c))

-- where c fails a test that all cells pass, it is no cell
none_among : (t : ℕ → Bool) (c : ℕ) → t c ≡ false → (p : ℕ) (xs : List ℕ) → every t xs ≡ true → pointer_from p xs c ≡ none
unfolding search_from every
none_among t c f p [] h = refl
none_among t c f p (x ∷ xs) h = rw not_here (none_among t c f (suc p) xs (and_right (t x) (every t xs) h))
  where
    not_here : mapped x && eqb x c ≡ false
    not_here = split (eqb x c)
        (λ e. let g : true ≡ false = sym (and_left (t x) (every t xs) h) ∙ ap t (eqb-true x c e) ∙ f in cc)
        (λ e. rw (e, and-false (mapped x)))

-- numbers in order
counted_self : (p a n c : ℕ) → mapped c ≡ true → a ≤ c → c < a + n → pointer_from p (count_from a n) c ≡ some (p + (c - a))
unfolding search_from count_from
counted_self p a zero c m h g = absurd (omega arith)
counted_self p a (suc n) c m h g = split (eqb a c)
    (λ e. let q : a ≡ c = eqb-true a c e in let z : p + (c - a) ≡ p = omega arith in rw (z, q, m, eq-eqb c c refl))
    (λ e. let z : suc p + (c - suc a) ≡ p + (c - a) = omega (arith, eqb-false a c e) in
    rw (e, and-false (mapped a)) (counted_self (suc p) (suc a) n c m (omega (arith, eqb-false a c e)) (omega arith) ∙ ap some z))

regular : ℕ → Bool
regular x = within 0xA0 x 0xFF

module _ (c : ℕ) where
  irregular_none : regular c ≡ true → pointer_from 0 irregular c ≡ none
  unfolding irregular regular every
  irregular_none h = none_among (λ x. not (regular x)) c (rw h) 0 irregular refl

  regular_none : regular c ≡ false → pointer_from 32 (count_from 0xA0 96) c ≡ none
  unfolding count_from regular every
  regular_none h = none_among regular c h 32 (count_from 0xA0 96) refl

  windows_pointer : index_pointer windows1252 c ≡ either first (index_pointer irregular c) (pointer_from 32 (count_from 0xA0 96) c)
  unfolding windows1252 irregular
  windows_pointer = pointer_append 0 irregular (count_from 0xA0 96) c

  either_none : (o : Option ℕ) → either first o none ≡ o
  either_none none = refl
  either_none (some p) = refl

  windows_searched : regular c ≡ false → single_byte_encode (searching irregular) c ≡ single_byte_encode (searching windows1252) c
  unfolding single_byte_encode
  windows_searched h =
      let e : index_pointer windows1252 c ≡ index_pointer irregular c =
      windows_pointer ∙ ap (either first (index_pointer irregular c)) (regular_none h) ∙ either_none (index_pointer irregular c) in
      rw e

  pub windows_low : c < 0xA0 → single_byte_encode (searching irregular) c ≡ single_byte_encode (searching windows1252) c
  unfolding regular
  windows_low h = windows_searched (under 0xA0 c 0xFF h)

  pub windows_high : 0xFF < c → single_byte_encode (searching irregular) c ≡ single_byte_encode (searching windows1252) c
  unfolding regular
  windows_high h = windows_searched (above 0xA0 c 0xFF h)

  pub windows_self : 0xA0 ≤ c → c ≤ 0xFF → tokens (c ∷ []) ≡ single_byte_encode (searching windows1252) c
  unfolding single_byte_encode regular
  windows_self h g =
      let m : mapped c ≡ true = rw (le-leb 0x80 c (omega arith), le-leb c 0x10FFFF (omega arith), under 0xD800 c 0xDFFF (omega arith)) in
      let r : regular c ≡ true = rw (le-leb 0xA0 c h, le-leb c 0xFF g) in
      let e : index_pointer windows1252 c ≡ some (32 + (c - 0xA0)) = windows_pointer ∙ rw (irregular_none r) (counted_self 32 0xA0 96 c m h (omega arith)) in
      let z : 32 + (c - 0xA0) + 0x80 ≡ c = omega arith in
      rw (le-ltb c 0x80 (omega arith), e, z)

  -- what is found among the irregular ones
  pub windows_more : (bs : List ℕ) → single_byte_encode (searching irregular) c ≡ tokens bs → single_byte_encode (searching windows1252) c ≡ tokens bs
  unfolding single_byte_encode
  windows_more bs e = split (ltb c 0x80)
      (λ h. rw h (rw h at e))
      (λ h. rw (h, windows_pointer) (go (index_pointer irregular c) (pointer_from 32 (count_from 0xA0 96) c) (rw h at e)))
    where
      go : (o x : Option ℕ) → or_error_with o c ≡ tokens bs → or_error_with (either first o x) c ≡ tokens bs
      go (some p) x e = e
      go none x e = let z : ◌≡◌ {A = ℕ} 0 1 = cc in absurd (omega arith)

  -- x-user-defined
  pub user_one : c < 0x80 → tokens (c ∷ []) ≡ user_defined_encode c
  unfolding user_defined_encode
  user_one h = rw (lt-ltb c 0x80 h)

  pub user_none : 0x80 ≤ c → (0xF780 ≤ c → c ≤ 0xF7FF → ⊥) → error_with c ≡ user_defined_encode c
  unfolding user_defined_encode
  user_none h n = split (ltb c 0xF780)
      (λ z. rw (le-ltb c 0x80 h, under 0xF780 c 0xF7FF (ltb-true c 0xF780 z)))
      (λ z. let l : 0xF780 ≤ c = ltb-false c 0xF780 z in
      rw (le-ltb c 0x80 h, above 0xF780 c 0xF7FF (split (leb c 0xF7FF) (λ y. absurd (n l (leb-true c 0xF7FF y))) (λ y. leb-false c 0xF7FF y))))

  pub user_byte : 0xF780 ≤ c → c ≤ 0xF7FF → tokens ((c - 0xF780 + 0x80) ∷ []) ≡ user_defined_encode c
  unfolding user_defined_encode
  user_byte h g = rw (le-ltb c 0x80 (omega arith), le-leb 0xF780 c h, le-leb c 0xF7FF g)

-- the encodings that write pairs
module _ (e : ℕ) (p : pairs e ≡ true) where
  pub pairs_past : 28 < e
  pairs_past = omega (arith, within_low 29 e 35 p)

  pub by_pairs : {A : Type 0} → (e ≡ 29 → A) → (e ≡ 30 → A) → (e ≡ 31 → A) → (e ≡ 32 → A) → (e ≡ 33 → A) → (e ≡ 34 → A) → (e ≡ 35 → A) → A
  by_pairs f g h i n j k =
      split (eqb e 29) (λ z. f (eqb-true e 29 z)) (λ a.
      split (eqb e 30) (λ z. g (eqb-true e 30 z)) (λ b.
      split (eqb e 31) (λ z. h (eqb-true e 31 z)) (λ c.
      split (eqb e 32) (λ z. i (eqb-true e 32 z)) (λ d.
      split (eqb e 33) (λ z. n (eqb-true e 33 z)) (λ r.
      split (eqb e 34) (λ z. j (eqb-true e 34 z)) (λ q.
      k (omega (
        arith,
        within_low 29 e 35 p,
        within_high 29 e 35 p,
        eqb-false e 29 a,
        eqb-false e 30 b,
        eqb-false e 31 c,
        eqb-false e 32 d,
        eqb-false e 33 r,
        eqb-false e 34 q,
      ))))))))

pub no_pairs : (e : ℕ) → e ≤ 28 → pairs e ≡ false
no_pairs e l = under 29 e 35 (omega arith)

-- by the encoding's number
module _ (e : ℕ) (look : Lookup) (c : ℕ) where
  pub of_utf8 : e ≡ 0 → utf8_encode c ≡ encoder_of e look c
  unfolding encoder_of
  of_utf8 h = rw (eq-eqb e 0 h)

  pub of_windows_1252 : e ≡ 21 → single_byte_encode (searching windows1252) c ≡ encoder_of e look c
  unfolding encoder_of
  of_windows_1252 h = rw h

  pub of_single_byte : (e ≡ 0 → ⊥) → (e ≡ 21 → ⊥) → e ≤ 28 → single_byte_encode look c ≡ encoder_of e look c
  unfolding encoder_of
  of_single_byte h g k = rw (ne_eqb e 0 h, ne_eqb e 21 g, le-leb e 28 k)

  pub of_user_defined : 28 < e → user_defined_encode c ≡ encoder_of e look c
  unfolding encoder_of
  of_user_defined h = rw (ne_eqb e 0 (omega arith), ne_eqb e 21 (omega arith), lt-leb e 28 h)
