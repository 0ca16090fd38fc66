-- What the sequences of each encoding leave behind: so the spots that a decoder can come to stay possible, with the bytes in whole
-- sequences and the line feeds handed out; and so do the totals of a decoder that ends. Assumes nothing.
use mathlib.Core.Path.{◌≡◌, refl, sym, ap, subst, ◌∙◌}
use mathlib.Core.Bool.{Bool, true, false, or-true}
use mathlib.Core.List.{List, [], ◌∷◌}
use Prim.Native.Nat.{ℕ, zero, suc, ◌+◌, ◌-◌, ◌*◌, ◌%◌, ◌≤◌}
use native.Mathlib.Nat.{add-mod, add-zero}
use native.Mathlib.Omega.{arith}
use lib.Dec.{T, leb, eqb, lit≤}
use lib.ListN.{length, drop}
use borrow.Author.Tests.{le-leb}
use Rattle.standard.specs.Base.{◌then◌else◌, line_feeds}
use Rattle.standard.specs.Encodings.{Tables, Family, UTF-8, single-byte, windows-1252, GB18030, Big5, EUC-JP, ISO-2022-JP, Shift-JIS, EUC-KR, Replacement, UTF-16BE, UTF-16LE, x-user-defined, family, no_tables}
use Rattle.standard.specs.Sequence.{Shift, Out, text, error, Next, more, item, shift, plain}
use Rattle.standard.specs.Sequences.Utf8.{utf8}
use Rattle.standard.specs.Sequences.SingleByte.{single_byte}
use Rattle.standard.specs.Sequences.Gb18030.{gb18030}
use Rattle.standard.specs.Sequences.Big5.{big5, big5_pair}
use Rattle.standard.specs.Sequences.EucJp.{euc_jp}
use Rattle.standard.specs.Sequences.ShiftJis.{shift_jis}
use Rattle.standard.specs.Sequences.EucKr.{euc_kr}
use Rattle.standard.specs.Sequences.Replacement.{replacement}
use Rattle.standard.specs.Sequences.Utf16.{utf16}
use Rattle.standard.specs.Sequences.UserDefined.{user_defined}
use Rattle.standard.specs.Next.{unmark, unmarked, next}
use Rattle.standard.specs.Decode.{Item, span, decode, ending, everything, given, shown, broken, widths}
use Rattle.standard.specs.Choice.{Choice, waiting, label, marked, choose, reader, mark_width, Spot, spot, Parsed, lift, eaten, chosen}
use Rattle.standard.specs.Choice.{read_from, end_from}
use Rattle.standard.proofs.FamilyLaws.{keeps, next_laws}
use Rattle.standard.proofs.Walk.{at_item, walk}
use Rattle.standard.proofs.Items.{shown_cons, shown_append}
use Rattle.standard.proofs.Reading.{reading}
use Rattle.standard.proofs.LineFeeds.{line_feeds-append, line_feeds-length, none_at_end}
use Rattle.standard.proofs.Widths.{all_widths}
use Rattle.standard.proofs.Stages.{at_mark, not_one, Rests, rest_more, read_on_lem, read_choice}
use Rattle.standard.proofs.Fronts.{Front, front_test, front_await, front_item}
use Rattle.decoder.specs.Valid.{ended_totals}
use Rattle.demands.proofs.Shapes.{Shape, Unshifted, Marked, Paired, Replaced, Escaped, shape_of, totals_as, totals_as_lem, InText, Marks}
use Rattle.demands.proofs.Shapes.{Comes, in_text, mark_ahead, behind_error, in_state, plain_comes, unmarked_text}
use Rattle.demands.proofs.Shapes.{by_stage, shape_at, reader_marks, ComesAt, by_label, choosing, by_mark}
use Rattle.demands.proofs.ShiftsIso.{Leaves, iso_leaves, iso_step, iso_replacing}

-- What a sequence at shift s leaves behind. UTF-16 has an even width, and two bytes or more for a scalar.
abbrev After : Shape → Shift → ℕ → Shift → Out → Type 0
After Unshifted s w s' o = s' ≡ plain
After Marked s w s' o = s' ≡ plain
After Paired s w s' o = (s' ≡ plain) × (w % 2 ≡ 0) × (2 * length (given o) ≤ w)
After Replaced s w s' o = (s' ≡ shift 0 true) × (o ≡ (s.flag then text [] else error))
After Escaped s w s' o = Leaves s w s' o

-- a mark dropped leaves no more
unmark_less : (o : Out) → length (given (unmark o)) ≤ length (given o)
unmark_less error = lit≤ tt
unmark_less (text []) = lit≤ tt
unmark_less (text (c ∷ cs)) = go (eqb c 0xFEFF)
  where
    go : (t : Bool) → length (given (t then text cs else text (c ∷ cs))) ≤ suc (length cs)
    go true = omega arith
    go false = omega arith

fresh_less : (fresh : Bool) (o : Out) → length (given (fresh then unmark o else o)) ≤ length (given o)
fresh_less true o = unmark_less o
fresh_less false o = omega arith

after_mark : (s : Shift) (fresh : Bool) (a : Next) → Front (After Marked s) a → Front (After Marked s) (unmarked fresh a)
after_mark s fresh more h = record { holds = tt }
after_mark s fresh (item w s' o) h = record { holds = h.holds }

after_mark_pairs : (s : Shift) (fresh : Bool) (a : Next) → Front (After Paired s) a → Front (After Paired s) (unmarked fresh a)
after_mark_pairs s fresh more h = record { holds = tt }
after_mark_pairs s fresh (item w s' o) h = record { holds = (h.holds.0, h.holds.1, omega (arith, h.holds.2, fresh_less fresh o)) }

-- by a walk over each definition's text
next_leaves : (t : Tables) (f : Family) (s : Shift) (xs : List ℕ) → Front (After (shape_of f) s) (next t f s xs)
unfolding next utf8 single_byte gb18030 big5 big5_pair euc_jp shift_jis euc_kr replacement utf16 user_defined
next_leaves t UTF-8 s xs = after_mark s s.flag (utf8 xs) (search (front_await, front_test, front_item) depth 20)
next_leaves t single-byte s xs = search (front_await, front_test, front_item) depth 20
next_leaves t windows-1252 s xs = search (front_await, front_test, front_item) depth 20
next_leaves t GB18030 s xs = search (front_await, front_test, front_item) depth 20
next_leaves t Big5 s xs = search (front_await, front_test, front_item) depth 20
next_leaves t EUC-JP s xs = search (front_await, front_test, front_item) depth 20
next_leaves t ISO-2022-JP s xs = iso_leaves s t xs
next_leaves t Shift-JIS s xs = search (front_await, front_test, front_item) depth 20
next_leaves t EUC-KR s xs = search (front_await, front_test, front_item) depth 20
next_leaves t Replacement s xs = front_await xs (λ b zs. front_item (refl, refl))
next_leaves t UTF-16BE s xs = after_mark_pairs s s.flag (utf16 true xs) (search (front_await, front_test, front_item, lit≤) depth 20)
next_leaves t UTF-16LE s xs = after_mark_pairs s s.flag (utf16 false xs) (search (front_await, front_test, front_item, lit≤) depth 20)
next_leaves t x-user-defined s xs = search (front_await, front_test, front_item) depth 20

-- with two of the laws that every encoding keeps
record Taken (σ : Shape) (s : Shift) (w : ℕ) (s' : Shift) (o : Out) : Type 0 where
  after : After σ s w s' o
  some : 1 ≤ w
  count : length (given o) ≤ w

taken : (t : Tables) (f : Family) (s : Shift) (xs : List ℕ) {w : ℕ} {s' : Shift} {o : Out} → next t f s xs ≡ item w s' o →
    Taken (shape_of f) s w s' o
taken t f s xs h =
    let l = at_item (keeps f) (next t f) (next_laws t f) s xs h [] in
    record { after = rw h at (next_leaves t f s xs).holds; some = l.1; count = l.3 }

-- What a sequence leaves is possible if what it began with was; in refusing mode an error ends the decoder.
abbrev Goes : ℕ → Out → Type 0
Goes m o = m ≡ 1 → o ≡ error → ⊥

replaced_quiet : (b : Bool) → line_feeds (given (b then text [] else error)) ≡ 0
unfolding line_feeds
replaced_quiet true = refl
replaced_quiet false = refl

even_sum : (a b : ℕ) → a % 2 ≡ 0 → b % 2 ≡ 0 → (a + b) % 2 ≡ 0
even_sum a b p q = add-mod a b 2 ∙ rw (p, q)

module _ (m : ℕ) (small : m ≤ 1) (w : ℕ) (s' : Shift) (o : Out) where
  lands : (σ : Shape) (c l : ℕ) → s' ≡ plain → InText σ (c + w) (l + line_feeds (given o)) → Comes m σ s' (c + w) (l + line_feeds (given o))
  lands σ c l a h = subst (λ (s : Shift). Comes m σ s (c + w) (l + line_feeds (given o))) (sym a) (in_text h)

  text_step : (c l : ℕ) → l ≤ c → length (given o) ≤ w → l + line_feeds (given o) ≤ c + w
  text_step c l h k = omega (arith, line_feeds-length (given o))

  pair_step : (s : Shift) (c l : ℕ) → c % 2 ≡ 0 → 2 * l ≤ c → Taken Paired s w s' o → Comes m Paired s' (c + w) (l + line_feeds (given o))
  pair_step s c l e h k =
      lands Paired c l k.after.0 (even_sum c w e k.after.1, omega (arith, k.after.2, line_feeds-length (given o)))

  -- replacement: behind the first byte only in replacing mode
  error_step : (s : Shift) (c l : ℕ) → m ≡ 0 → l ≡ 0 → Taken Replaced s w s' o → Comes m Replaced s' (c + w) (l + line_feeds (given o))
  unfolding line_feeds
  error_step s c l z n k = subst (λ (s : Shift). Comes m Replaced s (c + w) (l + line_feeds (given o))) (sym k.after.0)
      (behind_error z (omega (arith, k.some)) (rw (n, k.after.1, replaced_quiet s.flag)))

  step : (σ : Shape) (s : Shift) (c l : ℕ) → Comes m σ s c l → Taken σ s w s' o → Goes m o → Comes m σ s' (c + w) (l + line_feeds (given o))
  step Unshifted s c l (in_text h) k g = lands Unshifted c l k.after (text_step c l h k.count)
  step Marked s c l (in_text h) k g = lands Marked c l k.after (text_step c l h k.count)
  step Paired s c l (in_text h) k g = pair_step s c l h.0 h.1 k
  step Replaced s c l (in_text h) k g = error_step s c l (let n : m ≡ 1 → ⊥ = (λ q. g q k.after.1) in omega arith) h.1 k
  step Escaped s c l (in_text h) k g = absurd h
  step Unshifted s c l (mark_ahead x z n) k g = absurd x
  step Marked s c l (mark_ahead x z n) k g = lands Marked c l k.after (text_step c l (omega arith) k.count)
  step Paired s c l (mark_ahead x z n) k g = pair_step s c l (rw z) (omega arith) k
  step Replaced s c l (mark_ahead x z n) k g = absurd x
  step Escaped s c l (mark_ahead x z n) k g = absurd x
  step σ s c l (behind_error z h n) k g = error_step s c l z n k
  step σ s c l (in_state e) k g = in_state
      (iso_step m c l small k.some (omega (arith, k.count, line_feeds-length (given o))) g e k.after)

-- no error among items: none at the front, and none behind
not_error : (w : ℕ) (o : Out) (is : List Item) → broken (span w o ∷ is) ≡ false → (o ≡ error → ⊥) × (broken is ≡ false)
unfolding broken
not_error w (text cs) is h = ((λ q. let z : ◌≡◌ {A = ℕ} 0 1 = cc in omega arith), h)
not_error w error is h = absurd (subst T h tt)

-- the line feeds of items, part by part
feeds_cons : (w : ℕ) (o : Out) (is : List Item) → line_feeds (shown (span w o ∷ is)) ≡ line_feeds (given o) + line_feeds (shown is)
feeds_cons w o is = rw (shown_cons w o is) (line_feeds-append (given o) (shown is))

-- Sequence after sequence, a possible shift stays one.
module _ (t : Tables) where
  decode_comes : (f : Family) (m c l : ℕ) (s : Shift) (xs : List ℕ) → m ≤ 1 → Comes m (shape_of f) s c l →
      let r = decode (next t f) s xs in
      (m ≡ 1 → broken r.items ≡ false) → Comes m (shape_of f) r.shift (c + widths r.items) (l + line_feeds (shown r.items))
  unfolding widths shown line_feeds
  decode_comes f m c l s xs small come sound = walk (keeps f) (next t f) (next_laws t f)
      (λ s xs r. (c l : ℕ) → Comes m (shape_of f) s c l → (m ≡ 1 → broken r.items ≡ false) →
      Comes m (shape_of f) r.shift (c + widths r.items) (l + line_feeds (shown r.items)))
      (λ s xs e c l k b. rw (add-zero c, add-zero l) k)
      (λ s xs w s' o r h ih c l k b.
      let k' = step m small w s' o (shape_of f) s c l k (taken t f s xs h) (λ z. (not_error w o r.items (b z)).0) in
      let q = ih (c + w) (l + line_feeds (given o)) k' (λ z. (not_error w o r.items (b z)).1) in
      let x : c + w + widths r.items ≡ c + (w + widths r.items) = omega arith in
      let y : l + line_feeds (given o) + line_feeds (shown r.items) ≡ l + line_feeds (shown (span w o ∷ r.items)) =
      omega (arith, feeds_cons w o r.items) in
      subst (λ (n : ℕ). Comes m (shape_of f) r.shift (c + (w + widths r.items)) n) y
      (subst (λ (n : ℕ). Comes m (shape_of f) r.shift n (l + line_feeds (given o) + line_feeds (shown r.items))) x q))
      s xs c l come sound

  -- where marks are dropped, no sequence leaves a shift
  no_shift : (σ : Shape) {s : Shift} {w : ℕ} {s' : Shift} {o : Out} → Marks σ → Taken σ s w s' o → s' ≡ plain
  no_shift Unshifted k a = absurd k
  no_shift Marked k a = a.after
  no_shift Paired k a = a.after.0
  no_shift Replaced k a = absurd k
  no_shift Escaped k a = absurd k

  decode_plain : (f : Family) (xs : List ℕ) → Marks (shape_of f) → (decode (next t f) plain xs).shift ≡ plain
  decode_plain f xs k = walk (keeps f) (next t f) (next_laws t f) (λ s xs r. s ≡ plain → r.shift ≡ plain)
      (λ s xs e p. p) (λ s xs w s' o r h ih p. ih (no_shift (shape_of f) k (taken t f s xs h))) plain xs refl

-- Reading keeps a spot possible.
module _ (t : Tables) (e m : ℕ) (small : m ≤ 1) where
  abbrev Onward : ℕ → ℕ → Parsed → Type 0
  Onward c l r = (m ≡ 1 → broken r.items ≡ false) → ComesAt e m r.spot (c + widths r.items) (l + line_feeds (shown r.items))

  -- behind a mark
  text_comes : (g : ℕ) → 2 ≤ g → g ≤ 4 → (c l : ℕ) (xs : List ℕ) → mark_width g ≤ c → InText (shape_at e g) (c - mark_width g) l →
      Onward c l (lift g (decode (next t (family (reader e g))) plain xs))
  text_comes g low high c l xs w h b =
      let f = family (reader e g) in
      let r = decode (next t f) plain xs in
      let feeds = l + line_feeds (shown r.items) in
      let marks = reader_marks e g low high in
      let z : r.shift ≡ plain = decode_plain t f xs marks in
      let come = decode_comes t f m (c - mark_width g) l plain xs small (in_text h) b in
      let inside = (unmarked_text (shape_of f) marks (ap (λ (s : Shift). s.flag) z) come).1 in
      let count : c - mark_width g + widths r.items ≡ c + widths r.items - mark_width g = omega (arith, w) in
      subst (λ (s : Shift). ComesAt e m (spot g s) (c + widths r.items) feeds) (sym z)
      (by_mark low high (omega (arith, w)) (subst (λ (n : ℕ). InText (shape_at e g) n feeds) count inside))

  -- a mark that is eaten
  mark_comes : (w g : ℕ) (xs : List ℕ) → w ≡ mark_width g → 2 ≤ g → g ≤ 4 →
      Onward 0 0 (eaten w (lift g (decode (next t (family (reader e g))) plain xs)))
  unfolding widths shown broken
  mark_comes w g xs q low high b =
      let r = decode (next t (family (reader e g))) plain xs in
      let none : 0 ≡ mark_width g - mark_width g = omega arith in
      let σ = shape_at e g in
      let first : InText σ 0 0 = (unmarked_text σ (reader_marks e g low high) refl (plain_comes m σ)).1 in
      subst (λ (n : ℕ). ComesAt e m (spot g r.shift) n (0 + line_feeds (shown r.items))) (omega (arith, q))
      (text_comes g low high (mark_width g) 0 xs (omega arith) (subst (λ (n : ℕ). InText σ n 0) none first) b)

  pub read_comes : (xs : List ℕ) {p : Spot} {c l : ℕ} → ComesAt e m p c l → Onward c l (read_from t e p xs)
  unfolding reader chosen widths shown line_feeds
  read_comes xs {c = c} {l = l} (by_label {s} come) = subst (Onward c l) (sym (read_on_lem t e (spot 0 s) xs refl))
      (λ b. by_label (decode_comes t (family e) m c l s xs small come b))
  read_comes xs choosing = subst (Onward 0 0) (sym (read_choice t e (spot 1 plain) xs refl)) (go (choose xs) refl)
    where
      go : (c : Choice) → choose xs ≡ c → Onward 0 0 (chosen t e xs c)
      go waiting q b = choosing
      go label q b = by_label (decode_comes t (family e) m 0 0 plain xs small (plain_comes m (shape_of (family e))) b)
      go (marked w g) q b = let M = at_mark xs q in mark_comes w g (drop w xs) M.width M.low M.high b
  read_comes xs {c = c} {l = l} (by_mark {g} low high w h) =
      subst (Onward c l) (sym (read_on_lem t e (spot g plain) xs (not_one g low))) (text_comes g low high c l xs w h)

-- What is possible in any mode is possible in replacing mode.
replacing : (m : ℕ) {σ : Shape} {s : Shift} {c l : ℕ} → Comes m σ s c l → Comes 0 σ s c l
replacing m (in_text h) = in_text h
replacing m (mark_ahead k z n) = mark_ahead k z n
replacing m (behind_error z h n) = behind_error refl h n
replacing m (in_state e) = in_state (iso_replacing m e)

pub replacing_at : (e m : ℕ) {p : Spot} {c l : ℕ} → ComesAt e m p c l → ComesAt e 0 p c l
replacing_at e m (by_label come) = by_label (replacing m come)
replacing_at e m choosing = choosing
replacing_at e m (by_mark low high w h) = by_mark low high w h

-- The totals of a decoder that ends: without a line feed, or with three bytes more than line feeds, they pass for every label.
any_totals : (σ : Shape) (n l : ℕ) → (1 ≤ l → l + 3 ≤ n) → totals_as σ n l ≡ true
any_totals Unshifted n zero h = le-leb 0 n (omega arith)
any_totals Marked n zero h = le-leb 0 n (omega arith)
any_totals Paired n zero h = rw (le-leb 0 n (omega arith))
any_totals Replaced n zero h = refl
any_totals Escaped n zero h = le-leb 0 n (omega arith)
any_totals Unshifted n (suc l) h = le-leb (suc l) n (omega (arith, h (omega arith)))
any_totals Marked n (suc l) h = le-leb (suc l) n (omega (arith, h (omega arith)))
any_totals Paired n (suc l) h = rw (le-leb (suc l + 3) n (h (omega arith))) (or-true (leb (2 * suc l) n))
any_totals Replaced n (suc l) h = rw (le-leb (suc l + 3) n (h (omega arith))) (or-true (eqb (suc l) 0))
any_totals Escaped n (suc l) h = le-leb (suc l) n (omega (arith, h (omega arith)))

-- n bytes and k line feeds: no fewer bytes and no more line feeds than where the decoder came to
module _ (n k : ℕ) where
  none_totals : (σ : Shape) → k ≡ 0 → totals_as σ n k ≡ true
  none_totals σ z = any_totals σ n k (λ h. omega arith)

  comes_totals : (m : ℕ) (σ : Shape) {s : Shift} {c l : ℕ} → Comes m σ s c l → c ≤ n → k ≤ l → totals_as σ n k ≡ true
  comes_totals m Unshifted (in_text h) p q = le-leb k n (omega arith)
  comes_totals m Marked (in_text h) p q = le-leb k n (omega arith)
  comes_totals m Paired (in_text h) p q = rw (le-leb (2 * k) n (omega (arith, h.1)))
  comes_totals m Replaced (in_text h) p q = none_totals Replaced (omega (arith, h.1))
  comes_totals m Escaped (in_text h) p q = absurd h
  comes_totals m σ (mark_ahead x y z) p q = none_totals σ (omega arith)
  comes_totals m σ (behind_error x y z) p q = none_totals Replaced (omega arith)
  comes_totals m σ (in_state e) p q = le-leb k n (omega (arith, e.cost))

-- text behind a mark: its own two or three bytes give no line feed
mark_totals : (e g : ℕ) → 2 ≤ g → g ≤ 4 → (c l : ℕ) → mark_width g ≤ c → InText (shape_at e g) (c - mark_width g) l → 1 ≤ l → l + 3 ≤ c
unfolding reader family
mark_totals e = by_stage (λ g. (c l : ℕ) → mark_width g ≤ c → InText (shape_at e g) (c - mark_width g) l → 1 ≤ l → l + 3 ≤ c)
    (λ c l w h k. omega arith) (λ c l w h k. omega (arith, h.1)) (λ c l w h k. omega (arith, h.1))

pub ended_totals_lem : (e m : ℕ) {p : Spot} {c l : ℕ} (n k : ℕ) → ComesAt e m p c l → c ≤ n → k ≤ l → ended_totals (family e) n k ≡ true
ended_totals_lem e m n k (by_label come) h q = totals_as_lem (family e) n k ∙ comes_totals n k m (shape_of (family e)) come h q
ended_totals_lem e m n k choosing h q = totals_as_lem (family e) n k ∙ none_totals n k (shape_of (family e)) (omega arith)
ended_totals_lem e m {c = c} {l = l} n k (by_mark {g} low high w i) h q = totals_as_lem (family e) n k ∙
    any_totals (shape_of (family e)) n k (λ x. omega (arith, mark_totals e g low high c l w i (omega arith)))

-- The end of input gives no line feed, unless the choice is still to come.
pub quiet_end : (t : Tables) (e : ℕ) (p : Spot) (xs : List ℕ) → eqb p.stage 1 ≡ false → Rests e p xs →
    line_feeds (shown (end_from t e p xs)) ≡ 0
unfolding end_from
quiet_end t e p xs g r = rw g (none_at_end no_tables (family (reader e p.stage)) p.shift xs (rest_more e p xs g r))

-- then the label's encoding reads the bytes held
label_end : (t : Tables) (e n k : ℕ) (xs : List ℕ) → length xs ≤ n → k ≤ line_feeds (shown (everything t (family e) plain xs)) →
    ended_totals (family e) n k ≡ true
unfolding everything
label_end t e n k xs h q =
    let f = family e in
    let r = decode (next t f) plain xs in
    let es = ending t f r.shift r.rest in
    let come = decode_comes t f 0 0 0 plain xs (lit≤ tt) (plain_comes 0 (shape_of f)) (λ z. absurd (omega arith)) in
    let quiet = none_at_end t f r.shift r.rest (reading (keeps f) (next t f) (next_laws t f) plain xs).waits in
    let feeds = ap line_feeds (shown_append r.items es) ∙ line_feeds-append (shown r.items) (shown es) in
    totals_as_lem f n k ∙ comes_totals n k 0 (shape_of f) come (omega (arith, all_widths.so_far t f plain xs)) (omega (arith, feeds, quiet))

pub end_totals : (t : Tables) (e m n k : ℕ) (xs : List ℕ) {p : Spot} {c l : ℕ} → ComesAt e m p c l → Rests e p xs → c + length xs ≤ n →
    k ≤ l + line_feeds (shown (end_from t e p xs)) → ended_totals (family e) n k ≡ true
unfolding end_from
end_totals t e m n k xs (by_label {s} come) r h q =
    ended_totals_lem e m n k (by_label come) (omega arith) (omega (arith, quiet_end t e (spot 0 s) xs refl r))
end_totals t e m n k xs choosing r h q = label_end t e n k xs (omega arith) (omega arith)
end_totals t e m n k xs (by_mark {g} low high w i) r h q =
    ended_totals_lem e m n k (by_mark low high w i) (omega arith) (omega (arith, quiet_end t e (spot g plain) xs (not_one g low) r))
