-- Slots that are filled are right: the only pointer of a code point is the one that is looked up, whatever the cells of an index. Assumes nothing.
use mathlib.Core.Path.{◌≡◌, refl, sym, ap, subst, ◌∙◌}
use mathlib.Core.Bool.{Bool, and-false}
use mathlib.Core.List.{List, [], ◌∷◌}
use mathlib.Core.Option.{Option, some, none}
use Prim.Native.Nat.{ℕ, ◌*◌, ◌/◌, ◌%◌, ◌≤◌, ◌<◌}
use native.Mathlib.Omega.{arith}
use lib.Dec.{ltb, leb, eqb}
use lib.ListN.{length, get_or}
use borrow.Author.Tests.{ltb-true, ltb-false, lt-ltb, le-ltb, leb-true, leb-false, le-leb, lt-leb, eqb-true, eqb-false, ne_eqb}
use Rattle.standard.specs.Indexes.{index_code_point}
use Rattle.standard.specs.Machine.{tokens}
use Rattle.standard.specs.Layouts.{lead_of, trail_of, two_bytes, gb18030_layout, big5_layout, euc_jp_layout, iso2022_jp_layout, shift_jis_layout, euc_kr_layout}
use Rattle.standard.specs.Search.{PassedOver, pass_over, none_over, Side, first, Lookup, Counts}
use Rattle.standard.specs.Encoders.Pairs.{minus}
use Rattle.standard.specs.Encoders.Gb18030.{gb18030_encode}
use Rattle.standard.specs.Encoders.Big5.{big5_side, big5_encode}
use Rattle.standard.specs.Encoders.EucKr.{euc_kr_encode}
use Rattle.standard.specs.Encoders.EucJp.{euc_jp_encode}
use Rattle.standard.specs.Encoders.ShiftJis.{shift_jis_encode}
use Rattle.standard.specs.Ones.{iso2022_jp_encode}
use Rattle.standard.proofs.Laws.{mapped_real}
use Rattle.standard.proofs.Search.{search_rule}
use Rattle.standard.proofs.Tests.{split}
use Rattle.layouts.specs.Rows.{layout_of}
use Rattle.reverse_index_spec.specs.ReverseIndex.{look_up}
use Rattle.reverse_index_spec.proofs.LookUp.{look_up-sound, look_up-none, none_passed}
use Rattle.pair_writers.specs.Pairs.{pair_encode, over_of, low_of, high_of, slot_of, floor_of, bytes_in, Has, pair_number, Slot, nothing, only, several, Filled, Plainly, Usual, Excepted, Right}
use Rattle.pair_writers.proofs.Shapes.{number_least, floor_real, trail_below}
use Rattle.pair_writers.proofs.Filling.{beyond_none, slot_below, counts_has, has_code}
use Rattle.pair_writers.proofs.Encoders.{of_gb18030, of_big5, of_euc_jp, of_iso_2022_jp, of_shift_jis, of_euc_kr, big5_self, euc_jp-self, shift_jis-self, euc_kr-self}

-- The only pointer that has a code point is looked up, from either side.
module _ (table links : List ℕ) (over : PassedOver) (k q : ℕ) (l : 0 < k) (h : Has over table k q)
    (one : (r : ℕ) → r < length table → Has over table k r → r ≡ q) where
  counts : Counts over table k q
  unfolding index_code_point
  counts = record { inside = h.inside; searched = h.searched; code = rw h.is_mapped (ap some (has_code over table k q h l)) }

  low_slot : slot_of k ≡ k
  low_slot = split (ltb k 0x10000) (λ t. rw t) (λ t. absurd (omega (arith, ltb-false k 0x10000 t, has_slot)))
    where
      has_slot : k < 0x10000
      has_slot = rw h.slot_is at (slot_below (get_or table q 0))

  pub looked_up_lem : (side : Side) → look_up table links side over k ≡ some q
  looked_up_lem side = go (look_up table links side over k) refl
    where
      go : (o : Option ℕ) → look_up table links side over k ≡ o → o ≡ some q
      go none e = absurd ((search_rule side over table k).missing (look_up-none table links side over k e) q counts)
      go (some p) e =
          let c = look_up-sound table links side over k p e in
          ap some (one p c.inside (rw low_slot at (counts_has over table k p c)))

-- A usual code point from 0x80 on goes by its pointer in every encoding.
module _ (table links second : List ℕ) (k q : ℕ) (l : 0x80 ≤ k) (u : Usual k) where
  abbrev look : Lookup
  look = look_up table links

  abbrev Looked : ℕ → ℕ → Type 0
  Looked low high = (side : Side) → look side (pass_over low high) k ≡ some q

  plain_look : Looked 1 0 → look first none_over k ≡ some q
  plain_look h = sym (none_passed table links first k) ∙ h first

  usual_gb18030 : (gbk : Bool) → Looked 1 0 → gb18030_encode gbk look second k ≡ tokens (two_bytes gb18030_layout q)
  unfolding gb18030_encode
  usual_gb18030 gbk h = rw (le-ltb k 0x80 l, ne_eqb k 0xE5E5 u.no_e5e5, ne_eqb k 0x20AC u.no_euro, and-false gbk, plain_look h)

  usual_big5 : Looked 0 5023 → big5_encode look k ≡ tokens (two_bytes big5_layout q)
  unfolding big5_encode
  usual_big5 h = rw (le-ltb k 0x80 l, h (big5_side k))

  usual_euc_kr : Looked 1 0 → euc_kr_encode look k ≡ tokens (two_bytes euc_kr_layout q)
  unfolding euc_kr_encode
  usual_euc_kr h = rw (le-ltb k 0x80 l, plain_look h)

  no_minus : minus k ≡ k
  no_minus = rw (ne_eqb k 0x2212 u.no_minus)

  usual_euc_jp : Looked 8836 11279 → euc_jp_encode look k ≡ tokens (two_bytes euc_jp_layout q)
  unfolding euc_jp_encode
  usual_euc_jp h = rw (le-ltb k 0x80 l, ne_eqb k 0xA5 u.no_yen, ne_eqb k 0x203E u.no_overline, u.no_katakana, ne_eqb k 0x2212 u.no_minus, h first)

  usual_shift_jis : Looked 8272 10715 → shift_jis_encode look k ≡ tokens (two_bytes shift_jis_layout q)
  unfolding shift_jis_encode
  usual_shift_jis h = rw (
    le-ltb k 0x80 l,
    ne_eqb k 0x80 u.no_80,
    ne_eqb k 0xA5 u.no_yen,
    ne_eqb k 0x203E u.no_overline,
    u.no_katakana,
    ne_eqb k 0x2212 u.no_minus,
    h first,
  )

  usual_iso_2022_jp : Looked 8836 11279 → iso2022_jp_encode look second k ≡ tokens (two_bytes iso2022_jp_layout q)
  unfolding iso2022_jp_encode
  usual_iso_2022_jp h = rw (
    ne_eqb k 0x0E (λ z. omega arith),
    ne_eqb k 0x0F (λ z. omega arith),
    ne_eqb k 0x1B (λ z. omega arith),
    le-ltb k 0x80 l,
    ne_eqb k 0xA5 u.no_yen,
    ne_eqb k 0x203E u.no_overline,
    ne_eqb k 0x2212 u.no_minus,
    u.no_katakana,
    h first,
  )

  pub by_table_lem : (e : ℕ) → Looked (low_of e) (high_of e) → pair_encode e look second k ≡ tokens (two_bytes (layout_of e) q)
  unfolding layout_of
  by_table_lem e h =
      split (leb e 30) (λ t.
      sym (of_gb18030 e look second k (leb-true e 30 t)) ∙ usual_gb18030 (eqb e 29) (rw t at h) ∙ rw t) (λ t.
      split (eqb e 31) (λ v. let z = eqb-true e 31 v in sym (of_big5 e look second k z) ∙ usual_big5 (rw z at h) ∙ rw z) (λ v.
      split (eqb e 32) (λ w. let z = eqb-true e 32 w in sym (of_euc_jp e look second k z) ∙ usual_euc_jp (rw z at h) ∙ rw z) (λ w.
      split (eqb e 33) (λ x. let z = eqb-true e 33 x in sym (of_iso_2022_jp e look second k z) ∙ usual_iso_2022_jp (rw z at h) ∙ rw z) (λ x.
      split (eqb e 34) (λ y. let z = eqb-true e 34 y in sym (of_shift_jis e look second k z) ∙ usual_shift_jis (rw z at h) ∙ rw z) (λ y.
      let m : 34 < e = omega (arith, leb-false e 30 t, eqb-false e 31 v, eqb-false e 32 w, eqb-false e 33 x, eqb-false e 34 y) in
      sym (of_euc_kr e look second k m) ∙ usual_euc_kr (rw (t, v, lt-leb e 33 (omega arith), y) at h) ∙ rw (t, v, w, x, y))))))

-- ASCII but in ISO-2022-JP
pub by_ascii : (e : ℕ) (look : Lookup) (second : List ℕ) (k : ℕ) → (e ≡ 33 → ⊥) → k < 0x80 → pair_encode e look second k ≡ tokens (k ∷ [])
unfolding gb18030_encode
by_ascii e look second k n l =
    split (leb e 30) (λ t. sym (of_gb18030 e look second k (leb-true e 30 t)) ∙ self) (λ t.
    split (eqb e 31) (λ v. sym (of_big5 e look second k (eqb-true e 31 v)) ∙ sym (big5_self k look l)) (λ v.
    split (eqb e 32) (λ w. sym (of_euc_jp e look second k (eqb-true e 32 w)) ∙ sym (euc_jp-self k look l)) (λ w.
    split (eqb e 34) (λ y. sym (of_shift_jis e look second k (eqb-true e 34 y)) ∙ sym (shift_jis-self k look (omega arith))) (λ y.
    let m : 34 < e = omega (arith, leb-false e 30 t, eqb-false e 31 v, eqb-false e 32 w, n, eqb-false e 34 y) in
    sym (of_euc_kr e look second k m) ∙ sym (euc_kr-self k look l)))))
  where
    self : gb18030_encode (eqb e 29) look second k ≡ tokens (k ∷ [])
    self = rw (lt-ltb k 0x80 l)

-- the bytes of a number
number_bytes : (e q : ℕ) → tokens (two_bytes (layout_of e) q) ≡ tokens (bytes_in e (pair_number (layout_of e) q))
number_bytes e q =
    let n = pair_number (layout_of e) q in
    let a : n / 256 ≡ lead_of (layout_of e) q = omega (arith, trail_below e q) in
    let b : n % 256 ≡ trail_of (layout_of e) q = omega (arith, trail_below e q) in
    rw (le-leb (floor_of e) n (number_least e q), a, b)

ascii_bytes : (e k : ℕ) → (e ≡ 33 → ⊥) → k < 0x80 → tokens (k ∷ []) ≡ tokens (bytes_in e (k * 256))
ascii_bytes e k n l = let a : k * 256 / 256 ≡ k = omega arith in rw (ne_eqb e 33 n, lt-leb 0x8000 (k * 256) (omega arith), a)

-- SLOTS ARE RIGHT: all pointers are in, then ASCII, and then the code points that go otherwise are excepted.
module _ (e : ℕ) (table links second filled plain slots : List ℕ) (f : Filled e table (length table) filled) (p : Plainly e filled plain)
    (x : Excepted plain slots) (l : length slots ≡ 0x10000) where
  -- a slot that is still empty, or has bytes, as the pointers left it
  still_zero : (k : ℕ) → get_or plain k 0 ≡ 0 → get_or filled k 0 ≡ 0
  still_zero k z = split (eqb e 33) (λ t. sym (p.shifting (eqb-true e 33 t) k) ∙ z) (λ t.
      split (ltb k 0x80)
      (λ h. split (eqb k 0)
      (λ y. let w = eqb-true k 0 y in ap (λ (n : ℕ). get_or filled n 0) w ∙ sym p.null ∙ ap (λ (n : ℕ). get_or plain n 0) (sym w) ∙ z)
      (λ y. let n = eqb-false k 0 y in absurd (omega (arith, n, p.ascii (eqb-false e 33 t) k (omega (arith, n)) (ltb-true k 0x80 h)))))
      (λ h. sym (p.others k (ltb-false k 0x80 h)) ∙ z))

  empty_slot : (k v : ℕ) → Slot (layout_of e) (over_of e) table (length table) k v → v ≡ 0 → (q : ℕ) → Has (over_of e) table k q → ⊥
  empty_slot k v (nothing g) z q h = g q h.inside h
  empty_slot k v (only r s g i) z q h = omega (arith, number_least e r, floor_real e)
  empty_slot k v several z q h = omega arith

  by_slot : (k v : ℕ) → Slot (layout_of e) (over_of e) table (length table) k v → 256 ≤ v → Usual k →
      pair_encode e (look_up table links) second k ≡ tokens (bytes_in e v)
  by_slot k v (nothing g) h u = absurd (omega arith)
  by_slot k v (only q s g i) h u =
      let code : get_or table q 0 ≡ k = has_code (over_of e) table k q s i in
      let least : 0x80 ≤ k = omega (arith, mapped_real (get_or table q 0) s.is_mapped) in
      by_table_lem table links second k q least u e (looked_up_lem table links (over_of e) k q i s g) ∙ number_bytes e q
  by_slot k v several h u = absurd (omega arith)

  bytes_slot : (k : ℕ) → 256 ≤ get_or slots k 0 → pair_encode e (look_up table links) second k ≡ tokens (bytes_in e (get_or slots k 0))
  bytes_slot k h =
      let same = x.bytes_still k h in
      let below : k < 0x10000 = split (ltb k 0x10000) (λ t. ltb-true k 0x10000 t) (λ t. absurd (omega (arith, beyond_none slots l k (ltb-false k 0x10000 t)))) in
      split (eqb e 33)
      (λ t. from_pointers k h below (sym (p.shifting (eqb-true e 33 t) k) ∙ same))
      (λ t. split (ltb k 0x80)
      (λ g. of_ascii k h (eqb-false e 33 t) (ltb-true k 0x80 g) same)
      (λ g. from_pointers k h below (sym (p.others k (ltb-false k 0x80 g)) ∙ same)))
    where
      from_pointers : (k : ℕ) → 256 ≤ get_or slots k 0 → k < 0x10000 → get_or filled k 0 ≡ get_or slots k 0 →
          pair_encode e (look_up table links) second k ≡ tokens (bytes_in e (get_or slots k 0))
      from_pointers k h b z = by_slot k (get_or slots k 0) (subst (Slot (layout_of e) (over_of e) table (length table) k) z (f.slot k b)) h (x.usual k h)

      of_ascii : (k : ℕ) → 256 ≤ get_or slots k 0 → (e ≡ 33 → ⊥) → k < 0x80 → get_or plain k 0 ≡ get_or slots k 0 →
          pair_encode e (look_up table links) second k ≡ tokens (bytes_in e (get_or slots k 0))
      of_ascii k h n b z = split (eqb k 0)
          (λ y. let w = eqb-true k 0 y in
          from_pointers k h (omega arith) (ap (λ (j : ℕ). get_or filled j 0) w ∙ sym p.null ∙ ap (λ (j : ℕ). get_or plain j 0) (sym w) ∙ z))
          (λ y. let real : 0 < k = omega (arith, eqb-false k 0 y) in
          by_ascii e (look_up table links) second k n b ∙ ascii_bytes e k n b ∙
          ap (λ (v : ℕ). tokens (bytes_in e v)) (sym (p.ascii n k real b) ∙ z))

  pub slots_right : Right e table links second slots
  slots_right = record {
    empty = λ k h z q s. empty_slot k (get_or filled k 0) (f.slot k h) (still_zero k (x.zero_still k z)) q s;
    bytes = bytes_slot;
  }
