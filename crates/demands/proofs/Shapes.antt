-- The test behind refusal 5 has five shapes, and each encoding has one of them. What the test says of each shape, and of a spot.
-- Assumes nothing.
use mathlib.Core.Path.{◌≡◌, refl, sym, subst, ◌∙◌}
use mathlib.Core.Bool.{Bool, true, false, not, ◌&&◌, ◌||◌, and-false}
use Prim.Native.Nat.{ℕ, zero, suc, ◌+◌, ◌-◌, ◌*◌, ◌%◌, ◌≤◌}
use native.Mathlib.Omega.{arith}
use lib.Dec.{T, ltb, leb, eqb, leb→le, le→leb, ltb→lt, lt→ltb, eqb→eq, lit≤}
use borrow.Author.Tests.{eq-eqb, ne_eqb, le-leb, not-true}
use Rattle.standard.specs.Base.{◌then◌else◌}
use Rattle.standard.specs.Encodings.{Family, UTF-8, single-byte, windows-1252, GB18030, Big5, EUC-JP, ISO-2022-JP, Shift-JIS, EUC-KR, Replacement, UTF-16BE, UTF-16LE, x-user-defined, family, traits}
use Rattle.standard.specs.Sequence.{Shift, shift, plain}
use Rattle.standard.specs.Choice.{reader, Spot, spot, mark_width}
use Rattle.standard.proofs.Tests.{T_true, true_t, and_t_left, and_t_right}
use Rattle.standard.proofs.Every.{both}
use Rattle.standard.proofs.Stages.{not_one}
use Rattle.decoder.specs.Valid.{unshifted, marking, paired, replaced, iso_cost, iso_least, escaping, possible, possible_at, ended_totals}

pub data Shape : Type 0 where
  Unshifted Marked Paired Replaced Escaped : Shape

abbrev pub shape_of : Family → Shape
shape_of UTF-8 = Marked
shape_of single-byte = Unshifted
shape_of windows-1252 = Unshifted
shape_of GB18030 = Unshifted
shape_of Big5 = Unshifted
shape_of EUC-JP = Unshifted
shape_of ISO-2022-JP = Escaped
shape_of Shift-JIS = Unshifted
shape_of EUC-KR = Unshifted
shape_of Replacement = Replaced
shape_of UTF-16BE = Paired
shape_of UTF-16LE = Paired
shape_of x-user-defined = Unshifted

-- the tests by shape
abbrev pub possible_as : Shape → ℕ → Shift → ℕ → ℕ → Bool
possible_as Unshifted m s c l = unshifted s c l
possible_as Marked m s c l = marking s c l
possible_as Paired m s c l = paired s c l
possible_as Replaced m s c l = replaced m s c l
possible_as Escaped m s c l = escaping m s c l

abbrev pub totals_as : Shape → ℕ → ℕ → Bool
totals_as Unshifted n l = leb l n
totals_as Marked n l = leb l n
totals_as Paired n l = leb (2 * l) n || leb (l + 3) n
totals_as Replaced n l = eqb l 0 || leb (l + 3) n
totals_as Escaped n l = leb l n

pub possible_as_lem : (f : Family) (m : ℕ) (s : Shift) (c l : ℕ) → possible f m s c l ≡ possible_as (shape_of f) m s c l
unfolding possible
possible_as_lem UTF-8 m s c l = refl
possible_as_lem single-byte m s c l = refl
possible_as_lem windows-1252 m s c l = refl
possible_as_lem GB18030 m s c l = refl
possible_as_lem Big5 m s c l = refl
possible_as_lem EUC-JP m s c l = refl
possible_as_lem ISO-2022-JP m s c l = refl
possible_as_lem Shift-JIS m s c l = refl
possible_as_lem EUC-KR m s c l = refl
possible_as_lem Replacement m s c l = refl
possible_as_lem UTF-16BE m s c l = refl
possible_as_lem UTF-16LE m s c l = refl
possible_as_lem x-user-defined m s c l = refl

pub totals_as_lem : (f : Family) (n l : ℕ) → ended_totals f n l ≡ totals_as (shape_of f) n l
unfolding ended_totals
totals_as_lem UTF-8 n l = refl
totals_as_lem single-byte n l = refl
totals_as_lem windows-1252 n l = refl
totals_as_lem GB18030 n l = refl
totals_as_lem Big5 n l = refl
totals_as_lem EUC-JP n l = refl
totals_as_lem ISO-2022-JP n l = refl
totals_as_lem Shift-JIS n l = refl
totals_as_lem EUC-KR n l = refl
totals_as_lem Replacement n l = refl
totals_as_lem UTF-16BE n l = refl
totals_as_lem UTF-16LE n l = refl
totals_as_lem x-user-defined n l = refl

-- In text, behind c bytes with l line feeds, there is no shift. (Replacement: nothing was read.)
abbrev pub InText : Shape → ℕ → ℕ → Type 0
InText Unshifted c l = l ≤ c
InText Marked c l = l ≤ c
InText Paired c l = (c % 2 ≡ 0) × (2 * l ≤ c)
InText Replaced c l = (c ≡ 0) × (l ≡ 0)
InText Escaped c l = ⊥

-- a mark at the front may be dropped
abbrev pub marks_as : Shape → Bool
marks_as Unshifted = false
marks_as Marked = true
marks_as Paired = true
marks_as Replaced = false
marks_as Escaped = false

abbrev pub Marks : Shape → Type 0
Marks σ = T (marks_as σ)

pub marks_as_lem : (f : Family) → (traits f).mark ≡ marks_as (shape_of f)
unfolding traits
marks_as_lem UTF-8 = refl
marks_as_lem single-byte = refl
marks_as_lem windows-1252 = refl
marks_as_lem GB18030 = refl
marks_as_lem Big5 = refl
marks_as_lem EUC-JP = refl
marks_as_lem ISO-2022-JP = refl
marks_as_lem Shift-JIS = refl
marks_as_lem EUC-KR = refl
marks_as_lem Replacement = refl
marks_as_lem UTF-16BE = refl
marks_as_lem UTF-16LE = refl
marks_as_lem x-user-defined = refl

-- ISO-2022-JP
pub record Escaping (m : ℕ) (s : Shift) (c l : ℕ) : Type 0 where
  pub low : s.state ≤ 3
  pub cost : l + iso_cost m s ≤ c
  pub least : iso_least s ≤ c

-- The test as facts: in mode m, behind c bytes with l line feeds, a decoder comes to a shift. It stands in text, before a mark,
-- behind the error of replacement, or in an output state of ISO-2022-JP.
pub data Comes (m : ℕ) : Shape → Shift → ℕ → ℕ → Type 0 where
  in_text : {σ : Shape} {c l : ℕ} → InText σ c l → Comes m σ plain c l
  mark_ahead : {σ : Shape} {c l : ℕ} → Marks σ → c ≡ 0 → l ≡ 0 → Comes m σ (shift 0 true) c l
  behind_error : {c l : ℕ} → m ≡ 0 → 1 ≤ c → l ≡ 0 → Comes m Replaced (shift 0 true) c l
  in_state : {s : Shift} {c l : ℕ} → Escaping m s c l → Comes m Escaped s c l

shift_is : (s : Shift) (b : Bool) → T (eqb s.state 0) → s.flag ≡ b → shift 0 b ≡ s
shift_is s b p q = sym (λ i. record { state = eqb→eq s.state 0 p i; flag = q i })

unflagged : (s : Shift) → T (eqb s.state 0 && not s.flag) → plain ≡ s
unflagged s p = shift_is s false (and_t_left (eqb s.state 0) (not s.flag) p)
    (not-true s.flag (T_true (not s.flag) (and_t_right (eqb s.state 0) (not s.flag) p)))

-- from the test
module _ (m : ℕ) (s : Shift) (c l : ℕ) where
  -- by the flag
  flagged : (σ : Shape) (t u : Bool) → T (eqb s.state 0) → T (s.flag then t else u) →
      (T t → Comes m σ (shift 0 true) c l) → (T u → Comes m σ plain c l) → Comes m σ s c l
  flagged σ t u z p f g = go s.flag refl p
    where
      go : (b : Bool) → s.flag ≡ b → T (b then t else u) → Comes m σ s c l
      go true e q = subst (λ (s : Shift). Comes m σ s c l) (shift_is s true z e) (f q)
      go false e q = subst (λ (s : Shift). Comes m σ s c l) (shift_is s false z e) (g q)

  pub comes_as : (σ : Shape) → T (possible_as σ m s c l) → Comes m σ s c l
  comes_as Unshifted p =
      subst (λ (s : Shift). Comes m Unshifted s c l) (unflagged s (and_t_left (eqb s.state 0 && not s.flag) (leb l c) p))
      (in_text (leb→le l c (and_t_right (eqb s.state 0 && not s.flag) (leb l c) p)))
  comes_as Marked p =
      flagged Marked (eqb c 0 && eqb l 0) (leb l c) (and_t_left (eqb s.state 0) _ p) (and_t_right (eqb s.state 0) _ p)
      (λ q. mark_ahead tt (eqb→eq c 0 (and_t_left (eqb c 0) (eqb l 0) q)) (eqb→eq l 0 (and_t_right (eqb c 0) (eqb l 0) q)))
      (λ q. in_text (leb→le l c q))
  comes_as Paired p =
      let z = and_t_left (eqb s.state 0 && eqb (c % 2) 0) _ p in
      flagged Paired (eqb c 0 && eqb l 0) (leb (2 * l) c)
      (and_t_left (eqb s.state 0) _ z) (and_t_right (eqb s.state 0 && eqb (c % 2) 0) _ p)
      (λ q. mark_ahead tt (eqb→eq c 0 (and_t_left (eqb c 0) (eqb l 0) q)) (eqb→eq l 0 (and_t_right (eqb c 0) (eqb l 0) q)))
      (λ q. in_text (eqb→eq (c % 2) 0 (and_t_right (eqb s.state 0) (eqb (c % 2) 0) z), leb→le (2 * l) c q))
  comes_as Replaced p =
      let z = and_t_left (eqb s.state 0 && eqb l 0) _ p in
      let none : l ≡ 0 = eqb→eq l 0 (and_t_right (eqb s.state 0) (eqb l 0) z) in
      flagged Replaced (eqb m 0 && ltb 0 c) (eqb c 0)
      (and_t_left (eqb s.state 0) _ z) (and_t_right (eqb s.state 0 && eqb l 0) _ p)
      (λ q. behind_error (eqb→eq m 0 (and_t_left (eqb m 0) (ltb 0 c) q)) (ltb→lt 0 c (and_t_right (eqb m 0) (ltb 0 c) q)) none)
      (λ q. in_text (eqb→eq c 0 q, none))
  comes_as Escaped p =
      let q = and_t_left (leb s.state 3 && leb (l + iso_cost m s) c) (leb (iso_least s) c) p in
      in_state (record {
        low = leb→le s.state 3 (and_t_left (leb s.state 3) (leb (l + iso_cost m s) c) q);
        cost = leb→le (l + iso_cost m s) c (and_t_right (leb s.state 3) (leb (l + iso_cost m s) c) q);
        least = leb→le (iso_least s) c (and_t_right (leb s.state 3 && leb (l + iso_cost m s) c) (leb (iso_least s) c) p);
      })

-- to the test
t_eqb : (a b : ℕ) → a ≡ b → T (eqb a b)
t_eqb a b h = true_t (eq-eqb a b h)

module _ {m : ℕ} where
  pub possible_from : (σ : Shape) (s : Shift) (c l : ℕ) → Comes m σ s c l → T (possible_as σ m s c l)
  possible_from Unshifted s c l (in_text h) = le→leb l c h
  possible_from Marked s c l (in_text h) = le→leb l c h
  possible_from Paired s c l (in_text h) = both (eqb (c % 2) 0) (leb (2 * l) c) (t_eqb (c % 2) 0 h.0) (le→leb (2 * l) c h.1)
  possible_from Replaced s c l (in_text h) = both (eqb l 0) (eqb c 0) (t_eqb l 0 h.1) (t_eqb c 0 h.0)
  possible_from Escaped s c l (in_text h) = absurd h
  possible_from Unshifted s c l (mark_ahead k z n) = absurd k
  possible_from Marked s c l (mark_ahead k z n) = rw (z, n) tt
  possible_from Paired s c l (mark_ahead k z n) = rw (z, n) tt
  possible_from Replaced s c l (mark_ahead k z n) = absurd k
  possible_from Escaped s c l (mark_ahead k z n) = absurd k
  possible_from σ s c l (behind_error z h n) =
      both (eqb l 0) (eqb m 0 && ltb 0 c) (t_eqb l 0 n) (both (eqb m 0) (ltb 0 c) (t_eqb m 0 z) (lt→ltb 0 c h))
  possible_from σ s c l (in_state e) = both (leb s.state 3 && leb (l + iso_cost m s) c) (leb (iso_least s) c)
      (both (leb s.state 3) (leb (l + iso_cost m s) c) (le→leb s.state 3 e.low) (le→leb (l + iso_cost m s) c e.cost))
      (le→leb (iso_least s) c e.least)

-- the same of an encoding
pub comes : (f : Family) (m : ℕ) (s : Shift) (c l : ℕ) → T (possible f m s c l) → Comes m (shape_of f) s c l
comes f m s c l p = comes_as m s c l (shape_of f) (subst T (possible_as_lem f m s c l) p)

pub to_possible : (f : Family) (m : ℕ) (s : Shift) (c l : ℕ) → Comes m (shape_of f) s c l → T (possible f m s c l)
to_possible f m s c l p = subst T (sym (possible_as_lem f m s c l)) (possible_from (shape_of f) s c l p)

-- The first shift of a decoder, where a mark is dropped or not; and no shift.
module _ (m : ℕ) where
  first_as : (σ : Shape) (b : Bool) → Comes m σ (shift 0 (marks_as σ && b)) 0 0
  unfolding iso_cost iso_least
  first_as Unshifted b = in_text (lit≤ tt)
  first_as Marked true = mark_ahead tt refl refl
  first_as Marked false = in_text (lit≤ tt)
  first_as Paired true = mark_ahead tt refl refl
  first_as Paired false = in_text {σ = Paired} (refl, lit≤ tt)
  first_as Replaced b = in_text {σ = Replaced} (refl, refl)
  first_as Escaped b = in_state (record { low = lit≤ tt; cost = lit≤ tt; least = lit≤ tt })

  pub first_comes : (f : Family) (b : Bool) → Comes m (shape_of f) (shift 0 ((traits f).mark && b)) 0 0
  first_comes f b = subst (λ (x : Bool). Comes m (shape_of f) (shift 0 (x && b)) 0 0) (sym (marks_as_lem f)) (first_as (shape_of f) b)

  pub plain_comes : (σ : Shape) → Comes m σ plain 0 0
  plain_comes σ = subst (λ (x : Bool). Comes m σ (shift 0 x) 0 0) (and-false (marks_as σ)) (first_as σ false)

-- Where a mark may be dropped and none is ahead, there is no shift.
pub unmarked_text : {m : ℕ} (σ : Shape) {s : Shift} {c l : ℕ} → Marks σ → s.flag ≡ false → Comes m σ s c l → (s ≡ plain) × InText σ c l
unmarked_text σ k z (in_text h) = (refl, h)
unmarked_text σ k z (mark_ahead x c l) = absurd (subst T z tt)
unmarked_text σ k z (behind_error x c l) = absurd k
unmarked_text σ k z (in_state e) = absurd k

-- The stages that a mark leads to; UTF-8 or UTF-16 reads there.
pub by_stage : (P : ℕ → Type 0) → P 2 → P 3 → P 4 → (g : ℕ) → 2 ≤ g → g ≤ 4 → P g
by_stage P p q r zero h k = absurd (omega arith)
by_stage P p q r (suc zero) h k = absurd (omega arith)
by_stage P p q r (suc (suc zero)) h k = p
by_stage P p q r (suc (suc (suc zero))) h k = q
by_stage P p q r (suc (suc (suc (suc zero)))) h k = r
by_stage P p q r (suc (suc (suc (suc (suc g))))) h k = absurd (omega arith)

abbrev pub shape_at : ℕ → ℕ → Shape
shape_at e g = shape_of (family (reader e g))

pub reader_marks : (e g : ℕ) → 2 ≤ g → g ≤ 4 → Marks (shape_at e g)
unfolding reader family
reader_marks e = by_stage (λ g. Marks (shape_at e g)) tt tt tt

-- The test of a spot as facts: the label's encoding reads; the choice is to come, and nothing was read; or a mark chose, and text
-- follows it.
pub data ComesAt (e m : ℕ) : Spot → ℕ → ℕ → Type 0 where
  by_label : {s : Shift} {c l : ℕ} → Comes m (shape_of (family e)) s c l → ComesAt e m (spot 0 s) c l
  choosing : ComesAt e m (spot 1 plain) 0 0
  by_mark : {g c l : ℕ} → 2 ≤ g → g ≤ 4 → mark_width g ≤ c → InText (shape_at e g) (c - mark_width g) l → ComesAt e m (spot g plain) c l

module _ (e m : ℕ) where
  mark_test : (g : ℕ) (s : Shift) (c l : ℕ) → 2 ≤ g → possible_at e m (spot g s) c l ≡
      leb g 4 && not s.flag && leb (mark_width g) c && possible (family (reader e g)) m s (c - mark_width g) l
  unfolding possible_at
  mark_test g s c l low = rw (ne_eqb g 0 (λ z. omega arith), not_one g low)

  from_mark : (g : ℕ) (s : Shift) (c l : ℕ) → 2 ≤ g → T (possible_at e m (spot g s) c l) → ComesAt e m (spot g s) c l
  from_mark g s c l low p' =
      let p = subst T (mark_test g s c l low) p' in
      let f = family (reader e g) in
      let four = leb g 4 in
      let wide = leb (mark_width g) c in
      let q = and_t_left (four && not s.flag && wide) _ p in
      let r = and_t_left (four && not s.flag) wide q in
      let high = leb→le g 4 (and_t_left four (not s.flag) r) in
      let none = not-true s.flag (T_true (not s.flag) (and_t_right four (not s.flag) r)) in
      let come = comes f m s (c - mark_width g) l (and_t_right (four && not s.flag && wide) _ p) in
      let u = unmarked_text (shape_of f) (reader_marks e g low high) none come in
      subst (λ (s : Shift). ComesAt e m (spot g s) c l) (sym u.0)
      (by_mark low high (leb→le (mark_width g) c (and_t_right (four && not s.flag) wide q)) u.1)

  from_choosing : (s : Shift) (c l : ℕ) → T (eqb s.state 0 && not s.flag && eqb c 0 && eqb l 0) → ComesAt e m (spot 1 s) c l
  from_choosing s c l p =
      let u = eqb s.state 0 && not s.flag in
      let q = and_t_left (u && eqb c 0) (eqb l 0) p in
      rw (eqb→eq c 0 (and_t_right u (eqb c 0) q), eqb→eq l 0 (and_t_right (u && eqb c 0) (eqb l 0) p))
      (subst (λ (s : Shift). ComesAt e m (spot 1 s) 0 0) (unflagged s (and_t_left u (eqb c 0) q)) choosing)

  pub comes_at : (p : Spot) (c l : ℕ) → T (possible_at e m p c l) → ComesAt e m p c l
  unfolding possible_at
  comes_at p c l = go p.stage
    where
      go : (g : ℕ) → T (possible_at e m (spot g p.shift) c l) → ComesAt e m (spot g p.shift) c l
      go zero q = by_label (comes (family e) m p.shift c l q)
      go (suc zero) q = from_choosing p.shift c l q
      go (suc (suc g)) q = from_mark (suc (suc g)) p.shift c l (omega arith) q

  pub to_possible_at : (p : Spot) (c l : ℕ) → ComesAt e m p c l → T (possible_at e m p c l)
  unfolding possible_at
  to_possible_at p c l (by_label k) = to_possible (family e) m p.shift c l k
  to_possible_at p c l choosing = tt
  to_possible_at p c l (by_mark {g} low high w h) = subst T (sym (mark_test g plain c l low))
      (rw (le-leb g 4 high, le-leb (mark_width g) c w) (to_possible (family (reader e g)) m plain (c - mark_width g) l (in_text h)))

  -- before the choice there is no shift
  pub waiting_plain : {p : Spot} {c l : ℕ} → ComesAt e m p c l → eqb p.stage 1 ≡ true → p ≡ spot 1 plain
  waiting_plain (by_label k) q = absurd (subst T (sym q) tt)
  waiting_plain choosing q = refl
  waiting_plain (by_mark {g} low high w h) q = absurd (subst T (sym q ∙ not_one g low) tt)
