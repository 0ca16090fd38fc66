-- Ways to the spots that the test behind refusal 5 lets pass: bytes that lead there from an opening, with so many line feeds.
-- Assumes nothing.
use mathlib.Core.Path.{◌≡◌, refl, sym, ap, ◌∙◌, subst}
use mathlib.Core.Bool.{Bool, true, false, ◌&&◌, ◌||◌, and-false}
use mathlib.Core.List.{List, [], ◌∷◌, ◌++◌, append-nil}
use Prim.Native.Nat.{ℕ, zero, suc, ◌+◌, ◌-◌, ◌*◌, ◌/◌, ◌%◌, ◌≤◌}
use native.Mathlib.Nat.{div-add-mod', suc-mul}
use native.Mathlib.Omega.{arith}
use lib.Dec.{T, eqb, lit≤}
use lib.ListN.{length, length-append}
use borrow.Author.Tests.{eqb-true}
use Rattle.standard.specs.Base.{◌then◌else◌, every, Bytes, line_feeds}
use Rattle.standard.specs.Encodings.{Family, UTF-8, single-byte, windows-1252, GB18030, Big5, EUC-JP, ISO-2022-JP, Shift-JIS, EUC-KR, Replacement, UTF-16BE, UTF-16LE, x-user-defined, family, traits, Tables, no_tables}
use Rattle.standard.specs.Sequence.{Shift, Out, text, error, more, shift, plain, cell}
use Rattle.standard.specs.Layouts.{pointer_of, pair_code}
use Rattle.standard.specs.Sequences.Utf8.{utf8}
use Rattle.standard.specs.Sequences.SingleByte.{single_byte}
use Rattle.standard.specs.Sequences.Gb18030.{gb18030}
use Rattle.standard.specs.Sequences.Big5.{big5}
use Rattle.standard.specs.Sequences.EucJp.{euc_jp}
use Rattle.standard.specs.Sequences.Iso2022Jp.{iso2022_jp, escaped, byte_out}
use Rattle.standard.specs.Sequences.ShiftJis.{shift_jis}
use Rattle.standard.specs.Sequences.EucKr.{euc_kr}
use Rattle.standard.specs.Sequences.Replacement.{replacement}
use Rattle.standard.specs.Sequences.Utf16.{utf16, unit}
use Rattle.standard.specs.Sequences.UserDefined.{user_defined}
use Rattle.standard.specs.Next.{next}
use Rattle.standard.specs.Decode.{Item, span, Read, reads, decode, shown, broken}
use Rattle.standard.specs.Choice.{choose, reader, mark_width, Spot, spot, lift, eaten, chosen, read_from}
use Rattle.standard.proofs.Tests.{T_true}
use Rattle.standard.proofs.Every.{bytes_append}
use Rattle.standard.proofs.FamilyLaws.{keeps, next_laws}
use Rattle.standard.proofs.Walk.{chunks, decode_more}
use Rattle.standard.proofs.Items.{shown_append, broken_append}
use Rattle.standard.proofs.Reading.{empty}
use Rattle.standard.proofs.LineFeeds.{line_feeds-append}
use Rattle.standard.proofs.Stages.{read_on_lem}
use Rattle.decoder.specs.Record.{new_spot}
use Rattle.decoder.specs.Valid.{iso_cost, iso_least}
use Rattle.demands.specs.Samples.{filled}
use Rattle.demands.proofs.Steps.{kept_new, waiting_new}
use Rattle.demands.proofs.Shapes.{Shape, Unshifted, Marked, Paired, Replaced, Escaped, shape_of, marks_as, marks_as_lem, InText, Escaping}
use Rattle.demands.proofs.Shapes.{Comes, in_text, mark_ahead, behind_error, in_state, by_stage, ComesAt, by_label, choosing, by_mark}

-- Tables to lend: every cell is U+3000; no ranges.
abbrev pub lent : Family → Tables
lent f = filled 0x3000 f

-- what is read behind some items
abbrev behind : List Item → Read → Read
behind is r = record { items = is ++ r.items; shift = r.shift; rest = r.rest }

-- Bytes that lead from one shift to another and leave nothing over: c bytes, with l line feeds, and no error in refusing mode.
pub record Way (f : Family) (m : ℕ) (s₀ : Shift) (c l : ℕ) (s : Shift) : Type 0 where
  pub bytes : List ℕ
  pub items : List Item
  pub leads : decode (next (lent f) f) s₀ bytes ≡ record { items = items; shift = s; rest = [] }
  pub sound : eqb m 1 && broken items ≡ false
  pub long : length bytes ≡ c
  pub feeds : line_feeds (shown items) ≡ l
  pub are : Bytes bytes

no_error : (x a b : Bool) → x && a ≡ false → x && b ≡ false → x && (a || b) ≡ false
no_error true true b p q = absurd (subst T p tt)
no_error true false b p q = q
no_error false a b p q = refl

module _ {f : Family} {m : ℕ} where
  stay : (s : Shift) → Way f m s 0 0 s
  unfolding broken shown line_feeds every
  stay s = record {
    bytes = [];
    items = [];
    leads = decode_more (keeps f) (next (lent f) f) (next_laws (lent f) f) s [] (empty (lent f) f s);
    sound = and-false (eqb m 1);
    long = refl;
    feeds = refl;
    are = tt;
  }

  -- by the chunk law bytes that follow are read from the shift that a way leads to
  along : {s₀ s : Shift} {c l : ℕ} (p : Way f m s₀ c l s) (ys : List ℕ) →
      decode (next (lent f) f) s₀ (p.bytes ++ ys) ≡ behind p.items (decode (next (lent f) f) s ys)
  along {s₀} p ys =
      let g = next (lent f) f in
      chunks (keeps f) g (next_laws (lent f) f) s₀ p.bytes ys ∙
      ap (λ (r : Read). behind r.items (decode g r.shift (r.rest ++ ys))) p.leads

  join : {s s' s'' : Shift} {c c' l l' : ℕ} → Way f m s c l s' → Way f m s' c' l' s'' → Way f m s (c + c') (l + l') s''
  join p q = record {
    bytes = p.bytes ++ q.bytes;
    items = p.items ++ q.items;
    leads = along p q.bytes ∙ ap (behind p.items) q.leads;
    sound = ap (◌&&◌ (eqb m 1)) (broken_append p.items q.items) ∙
        no_error (eqb m 1) (broken p.items) (broken q.items) p.sound q.sound;
    long = length-append p.bytes q.bytes ∙ (λ i. p.long i + q.long i);
    feeds = ap line_feeds (shown_append p.items q.items) ∙ line_feeds-append (shown p.items) (shown q.items) ∙
        (λ i. p.feeds i + q.feeds i);
    are = bytes_append p.bytes q.bytes p.are q.are;
  }

  sized_way : {s s' : Shift} {c l : ℕ} (c' l' : ℕ) → c ≡ c' → l ≡ l' → Way f m s c l s' → Way f m s c' l' s'
  sized_way c' l' p q w = record {
    bytes = w.bytes;
    items = w.items;
    leads = w.leads;
    sound = w.sound;
    long = w.long ∙ p;
    feeds = w.feeds ∙ q;
    are = w.are;
  }

  -- l times a line feed, and k times something else, each of w bytes
  fill : {s : Shift} (w : ℕ) → Way f m s w 1 s → Way f m s w 0 s → (l k : ℕ) → Way f m s (l * w + k * w) l s
  fill {s} w one other zero zero = sized_way (0 * w + 0 * w) 0 (omega arith) refl (stay s)
  fill {s} w one other zero (suc k) =
      sized_way (0 * w + suc k * w) 0 (simp suc-mul (omega arith)) refl (join other (fill w one other zero k))
  fill {s} w one other (suc l) k =
      sized_way (suc l * w + k * w) (suc l) (simp suc-mul (omega arith)) (omega arith) (join one (fill w one other l k))

-- Some bytes are one sequence: one that gives text, and one that is an error.
abbrev Alone : Family → Shift → List ℕ → Out → Shift → Type 0
Alone f s bytes o s' = decode (next (lent f) f) s bytes ≡ record { items = span (length bytes) o ∷ []; shift = s'; rest = [] }

module _ (f : Family) (m : ℕ) (s s' : Shift) (bytes : List ℕ) (are : Bytes bytes) where
  gives : (cs : List ℕ) → Alone f s bytes (text cs) s' → Way f m s (length bytes) (line_feeds cs) s'
  unfolding broken shown
  gives cs e = record {
    bytes = bytes;
    items = span (length bytes) (text cs) ∷ [];
    leads = e;
    sound = and-false (eqb m 1);
    long = refl;
    feeds = ap line_feeds (append-nil cs);
    are = are;
  }

  fails : m ≡ 0 → Alone f s bytes error s' → Way f m s (length bytes) 0 s'
  unfolding broken shown line_feeds
  fails z e = record {
    bytes = bytes;
    items = span (length bytes) error ∷ [];
    leads = e;
    sound = rw z;
    long = refl;
    feeds = refl;
    are = are;
  }

-- Text without a shift, from the line feed and the letter A: a byte for a character, or two.
abbrev Plainly : Family → ℕ → Type 0
Plainly f m = (c l : ℕ) → l ≤ c → Way f m plain c l plain

abbrev Doubly : Family → ℕ → Type 0
Doubly f m = (c l : ℕ) → c % 2 ≡ 0 → 2 * l ≤ c → Way f m plain c l plain

plainly : (f : Family) (m : ℕ) → Alone f plain (0x0A ∷ []) (text (0x0A ∷ [])) plain →
    Alone f plain (0x41 ∷ []) (text (0x41 ∷ [])) plain → Plainly f m
unfolding every line_feeds
plainly f m p q c l h =
    let one = gives f m plain plain (0x0A ∷ []) tt (0x0A ∷ []) p in
    let other = gives f m plain plain (0x41 ∷ []) tt (0x41 ∷ []) q in
    sized_way c l (omega arith) refl (fill 1 one other l (c - l))

doubly : (f : Family) (m : ℕ) → Way f m plain 2 1 plain → Way f m plain 2 0 plain → Doubly f m
doubly f m one other c l e h = let d = div-add-mod' c 2 in sized_way c l (omega (arith, d, e)) refl (fill 2 one other l (c / 2 - l))

-- What the ways to a shape are made of. UTF-16 may hold a byte.
abbrev pub Ways : Shape → Family → ℕ → Type 0
Ways Unshifted f m = Plainly f m
Ways Marked f m = Plainly f m
Ways Paired f m = Doubly f m × (next no_tables f plain (0x41 ∷ []) ≡ more)
Ways Replaced f m = f ≡ Replacement
Ways Escaped f m = f ≡ ISO-2022-JP

be_doubly : (m : ℕ) → Doubly UTF-16BE m
unfolding decode reads next utf16 unit every line_feeds
be_doubly m = doubly UTF-16BE m
    (gives UTF-16BE m plain plain (0x00 ∷ 0x0A ∷ []) tt (0x0A ∷ []) refl)
    (gives UTF-16BE m plain plain (0x00 ∷ 0x41 ∷ []) tt (0x41 ∷ []) refl)

le_doubly : (m : ℕ) → Doubly UTF-16LE m
unfolding decode reads next utf16 unit every line_feeds
le_doubly m = doubly UTF-16LE m
    (gives UTF-16LE m plain plain (0x0A ∷ 0x00 ∷ []) tt (0x0A ∷ []) refl)
    (gives UTF-16LE m plain plain (0x41 ∷ 0x00 ∷ []) tt (0x41 ∷ []) refl)

pub ways : (f : Family) (m : ℕ) → Ways (shape_of f) f m
unfolding decode reads next utf8 single_byte gb18030 big5 euc_jp shift_jis euc_kr utf16 user_defined
ways UTF-8 m = plainly UTF-8 m refl refl
ways single-byte m = plainly single-byte m refl refl
ways windows-1252 m = plainly windows-1252 m refl refl
ways GB18030 m = plainly GB18030 m refl refl
ways Big5 m = plainly Big5 m refl refl
ways EUC-JP m = plainly EUC-JP m refl refl
ways ISO-2022-JP m = refl
ways Shift-JIS m = plainly Shift-JIS m refl refl
ways EUC-KR m = plainly EUC-KR m refl refl
ways Replacement m = refl
ways UTF-16BE m = (be_doubly m, refl)
ways UTF-16LE m = (le_doubly m, refl)
ways x-user-defined m = plainly x-user-defined m refl refl

-- replacement: the error, and nothing after it
module _ (m : ℕ) (z : m ≡ 0) where
  silent : (c : ℕ) → Way Replacement m (shift 0 true) c 0 (shift 0 true)
  unfolding decode reads next replacement every line_feeds
  silent zero = stay (shift 0 true)
  silent (suc c) = sized_way (suc c) 0 (omega arith) refl
      (join (gives Replacement m (shift 0 true) (shift 0 true) (0x41 ∷ []) tt [] refl) (silent c))

  replacement_way : (c : ℕ) → 1 ≤ c → Way Replacement m plain c 0 (shift 0 true)
  unfolding decode reads next replacement every
  replacement_way c h = sized_way c 0 (omega arith) refl
      (join (fails Replacement m plain (shift 0 true) (0x41 ∷ []) tt z refl) (silent (c - 1)))

-- ISO-2022-JP: an escape, and what lowers the flag
module _ (m : ℕ) where
  iso_plainly : Plainly ISO-2022-JP m
  unfolding decode reads next iso2022_jp byte_out
  iso_plainly = plainly ISO-2022-JP m refl refl

  abbrev To : Shift → ℕ → ℕ → Shift → Type 0
  To s c l s' = Way ISO-2022-JP m s c l s'

  escape_to : (n : ℕ) → n ≤ 3 → To plain 3 0 (shift n true)
  unfolding decode reads next iso2022_jp escaped every line_feeds
  escape_to zero h = gives ISO-2022-JP m plain (shift 0 true) (0x1B ∷ 0x28 ∷ 0x42 ∷ []) tt [] refl
  escape_to (suc zero) h = gives ISO-2022-JP m plain (shift 1 true) (0x1B ∷ 0x28 ∷ 0x4A ∷ []) tt [] refl
  escape_to (suc (suc zero)) h = gives ISO-2022-JP m plain (shift 2 true) (0x1B ∷ 0x28 ∷ 0x49 ∷ []) tt [] refl
  escape_to (suc (suc (suc zero))) h = gives ISO-2022-JP m plain (shift 3 true) (0x1B ∷ 0x24 ∷ 0x42 ∷ []) tt [] refl
  escape_to (suc (suc (suc (suc n)))) h = absurd (omega arith)

  -- what lowers the flag in state n
  abbrev Down : ℕ → ℕ → ℕ → Type 0
  Down n w k = To (shift n true) w k (shift n false)

  roman_letter : Down 1 1 0
  unfolding decode reads next iso2022_jp byte_out every line_feeds
  roman_letter = gives ISO-2022-JP m (shift 1 true) (shift 1 false) (0x41 ∷ []) tt (0x41 ∷ []) refl

  roman_feed : Down 1 1 1
  unfolding decode reads next iso2022_jp byte_out every line_feeds
  roman_feed = gives ISO-2022-JP m (shift 1 true) (shift 1 false) (0x0A ∷ []) tt (0x0A ∷ []) refl

  kana_letter : Down 2 1 0
  unfolding decode reads next iso2022_jp byte_out every line_feeds
  kana_letter = gives ISO-2022-JP m (shift 2 true) (shift 2 false) (0x21 ∷ []) tt (0xFF61 ∷ []) refl

  pair_letter : Down 3 2 0
  unfolding decode reads next iso2022_jp pair_code pointer_of cell filled traits every line_feeds
  pair_letter = gives ISO-2022-JP m (shift 3 true) (shift 3 false) (0x21 ∷ 0x21 ∷ []) tt (0x3000 ∷ []) refl

  pair_error : m ≡ 0 → Down 3 1 0
  unfolding decode reads next iso2022_jp every
  pair_error z = fails ISO-2022-JP m (shift 3 true) (shift 3 false) (0x80 ∷ []) tt z refl

  -- text in ASCII, an escape, and what comes after it: w bytes and k line feeds
  by_escape : (n w k : ℕ) {b : Bool} → n ≤ 3 → To (shift n true) w k (shift n b) → (c l : ℕ) →
      k ≤ l → l + 3 + w ≤ c + k → To plain c l (shift n b)
  by_escape n w k h down c l q r = sized_way c l (omega arith) (omega arith)
      (join (iso_plainly (c - 3 - w) (l - k) (omega arith)) (join (escape_to n h) down))

  iso_to : (n : ℕ) (b : Bool) (c l : ℕ) → Escaping m (shift n b) c l → To plain c l (shift n b)
  unfolding iso_cost iso_least
  iso_to n true c l e = by_escape n 0 0 e.low (stay (shift n true)) c l (omega arith) (omega (arith, e.cost))
  iso_to zero false c l e = iso_plainly c l (omega (arith, e.cost))
  iso_to (suc zero) false c zero e = by_escape 1 1 0 (lit≤ tt) roman_letter c 0 (lit≤ tt) (omega (arith, e.least))
  iso_to (suc zero) false c (suc l) e = by_escape 1 1 1 (lit≤ tt) roman_feed c (suc l) (omega arith) (omega (arith, e.cost))
  iso_to (suc (suc zero)) false c l e = by_escape 2 1 0 (lit≤ tt) kana_letter c l (omega arith) (omega (arith, e.cost))
  iso_to (suc (suc (suc zero))) false c l e = go (eqb m 0) refl e.cost
    where
      go : (x : Bool) → eqb m 0 ≡ x → l + (x then 4 else 5) ≤ c → To plain c l (shift 3 false)
      go true y h = by_escape 3 1 0 (lit≤ tt) (pair_error (eqb-true m 0 y)) c l (omega arith) (omega arith)
      go false y h = by_escape 3 2 0 (lit≤ tt) pair_letter c l (omega arith) (omega arith)
  iso_to (suc (suc (suc (suc n)))) false c l e = absurd (omega (arith, e.low))

-- A way to text, by the shape of the test.
module _ (f : Family) (m : ℕ) where
  text_way : (σ : Shape) {c l : ℕ} → Ways σ f m → InText σ c l → Way f m plain c l plain
  text_way Unshifted {c} {l} k h = k c l h
  text_way Marked {c} {l} k h = k c l h
  text_way Paired {c} {l} k h = k.0 c l h.0 h.1
  text_way Replaced {c} {l} k h = sized_way c l (sym h.0) (sym h.1) (stay plain)
  text_way Escaped k h = absurd h

-- Bytes that lead from an opening by some mark rule to a spot, and leave nothing over.
pub record Opened (e m c l : ℕ) (p : Spot) : Type 0 where
  pub rule : ℕ
  pub known : rule ≤ 2
  pub first : Spot
  pub new : new_spot e rule ≡ first
  pub bytes : List ℕ
  pub items : List Item
  pub leads : read_from (lent (family e)) e first bytes ≡ record { items = items; spot = p; rest = [] }
  pub sound : eqb m 1 && broken items ≡ false
  pub long : length bytes ≡ c
  pub feeds : line_feeds (shown items) ≡ l
  pub are : Bytes bytes

-- The mark of a stage, and what follows it. UTF-8 and UTF-16 look into no table.
abbrev mark_bytes : ℕ → List ℕ
mark_bytes g = eqb g 2 then 0xEF ∷ 0xBB ∷ 0xBF ∷ [] else eqb g 3 then 0xFE ∷ 0xFF ∷ [] else 0xFF ∷ 0xFE ∷ []

mark_bytes_lem : (g : ℕ) → 2 ≤ g → g ≤ 4 → (length (mark_bytes g) ≡ mark_width g) × Bytes (mark_bytes g)
unfolding every
mark_bytes_lem = by_stage (λ g. (length (mark_bytes g) ≡ mark_width g) × Bytes (mark_bytes g)) (refl, tt) (refl, tt) (refl, tt)

mark_read : (t t' : Tables) (e g : ℕ) → 2 ≤ g → g ≤ 4 → (ys : List ℕ) → read_from t e (spot 1 plain) (mark_bytes g ++ ys) ≡
    eaten (mark_width g) (lift g (decode (next t' (family (reader e g))) plain ys))
unfolding read_from chosen choose reader family next
mark_read t t' e = by_stage (λ g. (ys : List ℕ) → read_from t e (spot 1 plain) (mark_bytes g ++ ys) ≡
    eaten (mark_width g) (lift g (decode (next t' (family (reader e g))) plain ys))) (λ ys. refl) (λ ys. refl) (λ ys. refl)

module _ (e m : ℕ) where
  -- the label's encoding reads: with the mark kept, by rule 1, or still to be dropped, by rule 0
  by_rule : (rule : ℕ) → rule ≤ 2 → {c l : ℕ} {s₀ s : Shift} → new_spot e rule ≡ spot 0 s₀ → Way (family e) m s₀ c l s →
      Opened e m c l (spot 0 s)
  unfolding reader
  by_rule rule known {s₀ = s₀} new w = record {
    rule = rule;
    known = known;
    first = spot 0 s₀;
    new = new;
    bytes = w.bytes;
    items = w.items;
    leads = read_on_lem (lent (family e)) e (spot 0 s₀) w.bytes refl ∙ ap (lift 0) w.leads;
    sound = w.sound;
    long = w.long;
    feeds = w.feeds;
    are = w.are;
  }

  kept : {c l : ℕ} {s : Shift} → Way (family e) m plain c l s → Opened e m c l (spot 0 s)
  kept = by_rule 1 (lit≤ tt) (kept_new e)

  dropping : {c l : ℕ} → (traits (family e)).mark ≡ true → c ≡ 0 → l ≡ 0 → Opened e m c l (spot 0 (shift 0 true))
  dropping {c} {l} k z n = by_rule 0 (lit≤ tt) (ap (λ (b : Bool). spot 0 (shift 0 (b && true))) k)
      (sized_way c l (sym z) (sym n) (stay (shift 0 true)))

  -- nothing was read, by rule 2
  waited : Opened e m 0 0 (spot 1 plain)
  unfolding read_from chosen choose broken shown line_feeds every
  waited = record {
    rule = 2;
    known = lit≤ tt;
    first = spot 1 plain;
    new = waiting_new e 2 refl;
    bytes = [];
    items = [];
    leads = refl;
    sound = and-false (eqb m 1);
    long = refl;
    feeds = refl;
    are = tt;
  }

  -- a mark chose, by rule 2
  behind_mark_lem : (g : ℕ) → 2 ≤ g → g ≤ 4 → {c l : ℕ} → mark_width g ≤ c → Way (family (reader e g)) m plain (c - mark_width g) l plain →
      Opened e m c l (spot g plain)
  unfolding broken shown
  behind_mark_lem g low high w way =
      let t = lent (family e) in
      let t' = lent (family (reader e g)) in
      let k = mark_bytes_lem g low high in
      record {
        rule = 2;
        known = lit≤ tt;
        first = spot 1 plain;
        new = waiting_new e 2 refl;
        bytes = mark_bytes g ++ way.bytes;
        items = span (mark_width g) (text []) ∷ way.items;
        leads = mark_read t t' e g low high way.bytes ∙ ap (λ (r : Read). eaten (mark_width g) (lift g r)) way.leads;
        sound = way.sound;
        long = length-append (mark_bytes g) way.bytes ∙ omega (arith, k.0, way.long, w);
        feeds = way.feeds;
        are = bytes_append (mark_bytes g) way.bytes k.1 way.are;
      }

  label_way : (σ : Shape) {s : Shift} {c l : ℕ} → (traits (family e)).mark ≡ marks_as σ → Ways σ (family e) m → Comes m σ s c l →
      Opened e m c l (spot 0 s)
  label_way σ q k (in_text h) = kept (text_way (family e) m σ k h)
  label_way σ q k (mark_ahead x z n) = dropping (q ∙ T_true (marks_as σ) x) z n
  label_way σ {c = c} {l = l} q k (behind_error z h n) = kept (rw k (sized_way c l refl (sym n) (replacement_way m z c h)))
  label_way σ {s = s} {c = c} {l = l} q k (in_state x) = kept (rw k (iso_to m s.state s.flag c l x))

  pub way_to : {p : Spot} {c l : ℕ} → ComesAt e m p c l → Opened e m c l p
  way_to (by_label come) = label_way (shape_of (family e)) (marks_as_lem (family e)) (ways (family e) m) come
  way_to choosing = waited
  way_to (by_mark {g} low high w h) =
      let f = family (reader e g) in behind_mark_lem g low high w (text_way f m (shape_of f) (ways f m) h)
