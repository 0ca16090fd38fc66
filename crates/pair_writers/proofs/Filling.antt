-- Slots: what they say of a code point's pointer. Assumes nothing.
use mathlib.Core.Path.{◌≡◌, refl, sym, ap, subst, ◌∙◌}
use mathlib.Core.Bool.{Bool, true, false}
use mathlib.Core.List.{List}
use mathlib.Core.Option.{Option, some, none}
use Prim.Native.Nat.{ℕ, suc, ◌+◌, ◌-◌, ◌*◌, ◌/◌, ◌≤◌, ◌<◌}
use native.Mathlib.Nat.{suc-mul}
use native.Mathlib.Omega.{arith}
use lib.Dec.{ltb, eqb}
use lib.ListN.{length, get_or, set, take, drop, replicate, length-set, length-take, length-replicate, get_or-eq_default}
use lib.Seq.{get_or-take, get_or-drop, get_or-set_same, get_or-set_other}
use borrow.Author.Tests.{ltb-true, ltb-false, lt-ltb, le-ltb, eqb-true, eqb-false}
use Rattle.standard.specs.Base.{◌then◌else◌, within, mapped}
use Rattle.standard.specs.Indexes.{index_code_point}
use Rattle.standard.specs.Layouts.{Layout, placed, lead_of, trail_of}
use Rattle.standard.specs.Search.{PassedOver, passed, pass_over, Side, Counts}
use Rattle.standard.proofs.Tests.{split, within_low, within_high}
use Rattle.standard.proofs.Laws.{mapped_real}
use Rattle.standard.proofs.EmptyCells.{empty_cell}
use Rattle.layouts.specs.Rows.{cells, layout_of, TheBytes}
use Rattle.layouts.specs.declared.Pair.{Pair}
use Rattle.reverse_index_spec.specs.ReverseIndex.{look_up}
use Rattle.reverse_index_spec.proofs.LookUp.{look_up-sound}
use Rattle.pair_writers.specs.Pairs.{cells_of, over_of, slot_of, Has, pair_number, entered, Slot, nothing, only, several, Filled, Row, Trails, Laid, Usual, Excepted, Marked, Aids, Helped, Ready}
use Rattle.pair_writers.proofs.Shapes.{number_least, floor_real, trail_below, same_row, same_column, row_alike, row_inside, rows_all, row_led, divisor_small}

-- behind the slots there is nothing
pub beyond_none : (slots : List ℕ) → length slots ≡ 0x10000 → (k : ℕ) → 0x10000 ≤ k → get_or slots k 0 ≡ 0
beyond_none slots l k h = get_or-eq_default slots 0 (omega arith)

-- a slot is one of 65,536
pub slot_below : (c : ℕ) → slot_of c < 0x10000
slot_below c = split (ltb c 0x10000) (λ e. rw e (ltb-true c 0x10000 e)) (λ e. rw e (omega arith))

-- A pointer that counts has its code point's slot.
module _ (over : PassedOver) (table : List ℕ) (c : ℕ) where
  pub counts_has : (q : ℕ) → Counts over table c q → Has over table (slot_of c) q
  unfolding index_code_point
  counts_has q h = go (mapped (get_or table q 0)) refl h.code
    where
      go : (m : Bool) → mapped (get_or table q 0) ≡ m → ◌≡◌ {A = Option ℕ} (m then some (get_or table q 0) else none) (some c) →
          Has over table (slot_of c) q
      go true m e = let x : get_or table q 0 ≡ c = cc in
          record { inside = h.inside; searched = h.searched; is_mapped = m; slot_is = ap slot_of x }
      go false m e = let z : ◌≡◌ {A = ℕ} 0 1 = cc in absurd (omega arith)

  -- An empty slot: nothing is looked up.
  pub empty_none : (links slots : List ℕ) (side : Side) → Aids over table slots → length slots ≡ 0x10000 → get_or slots (slot_of c) 0 ≡ 0 →
      none ≡ look_up table links side over c
  empty_none links slots side a l z = go (look_up table links side over c) refl
    where
      go : (o : Option ℕ) → look_up table links side over c ≡ o → none ≡ o
      go none e = refl
      go (some p) e = absurd (a l (slot_of c) (slot_below c) z p (counts_has p (look_up-sound table links side over c p e)))

-- An entry of slot 0 tells of code points above U+FFFF, one of another slot of its code point.
slot_low : (c : ℕ) → c < 0x10000 → slot_of c ≡ c
slot_low c h = rw (lt-ltb c 0x10000 h)

slot_high : (c : ℕ) → 0xFFFF < c → slot_of c ≡ 0
slot_high c h = rw (le-ltb c 0x10000 (omega arith))

pub has_code : (over : PassedOver) (table : List ℕ) (k q : ℕ) → Has over table k q → 0 < k → get_or table q 0 ≡ k
has_code over table k q h l = split (ltb (get_or table q 0) 0x10000)
    (λ t. sym (slot_low (get_or table q 0) (ltb-true (get_or table q 0) 0x10000 t)) ∙ h.slot_is)
    (λ t. absurd (omega (arith, l, sym (slot_high (get_or table q 0) (omega (arith, ltb-false (get_or table q 0) 0x10000 t))) ∙ h.slot_is)))

-- empty slots, before any pointer
pub filled_start : (e : ℕ) (table slots : List ℕ) → slots ≡ replicate 0x10000 0 → Filled e table 0 slots
filled_start e table slots z = rw z (record {
  size = length-replicate {A = ℕ} 0x10000 0;
  slot = λ k h. subst (Slot (layout_of e) (over_of e) table 0 k) (sym (empty_cell 0x10000 k)) (nothing (λ q l s. omega arith));
})

-- more pointers that have not the slot
module _ (y : Layout) (over : PassedOver) (table : List ℕ) (p p' k : ℕ) (l : p ≤ p')
    (n : (q : ℕ) → p ≤ q → q < p' → Has over table k q → ⊥) where
  earlier : (q : ℕ) → q < p' → Has over table k q → q < p
  earlier q h s = split (ltb q p) (λ t. ltb-true q p t) (λ t. absurd (n q (ltb-false q p t) h s))

  kept : (v : ℕ) → Slot y over table p k v → Slot y over table p' k v
  kept v (nothing f) = nothing (λ q h s. f q (earlier q h s) s)
  kept v (only q s f g) = only q s (λ r h t. f r (earlier r h t) t) g
  kept v several = several

-- pointers that are passed over
pub filled_pass : (e : ℕ) (table : List ℕ) (p n : ℕ) (slots : List ℕ) → ((j : ℕ) → j < n → passed (over_of e) (p + j) ≡ true) →
    Filled e table p slots → Filled e table (p + n) slots
filled_pass e table p n slots h f = record {
  size = f.size;
  slot = λ k l. kept (layout_of e) (over_of e) table p (p + n) k (omega arith)
      (λ q g i s. let z : p + (q - p) ≡ q = omega arith in
      let t : passed (over_of e) q ≡ true = rw z at (h (q - p) (omega arith)) in
      let x : ◌≡◌ {A = ℕ} 0 1 = cc (s.searched, t) in omega arith)
      (get_or slots k 0) (f.slot k l);
}

-- one pointer more, that is searched
module _ (e : ℕ) (table : List ℕ) (p v : ℕ) (slots : List ℕ) (f : Filled e table p slots) (l : p < length table)
    (s : passed (over_of e) p ≡ false) (num : v ≡ pair_number (layout_of e) p) where
  abbrev y : Layout
  y = layout_of e

  abbrev c : ℕ
  c = get_or table p 0

  -- a slot that it has not
  others : (k : ℕ) → k < 0x10000 → (Has (over_of e) table k p → ⊥) → Slot y (over_of e) table (p + 1) k (get_or slots k 0)
  others k h n = kept y (over_of e) table p (p + 1) k (omega arith)
      (λ q g i t. n (subst (Has (over_of e) table k) (omega arith) t)) (get_or slots k 0) (f.slot k h)

  -- its own slot, empty before
  alone : (x : ℕ) → Slot y (over_of e) table p c x → x ≡ 0 → Has (over_of e) table c p → 0 < c → Slot y (over_of e) table (p + 1) c v
  alone x (nothing g) z h i = rw num (only p h (λ r j t. split (ltb r p)
      (λ u. absurd (g r (ltb-true r p u) t))
      (λ u. omega (arith, ltb-false r p u))) i)
  alone x (only q t g i) z h j = absurd (omega (arith, number_least e q, z, floor_real e))
  alone x several z h i = absurd (omega (arith, z))

  entering : (b : Bool) → eqb (get_or slots c 0) 0 ≡ b → c < 0x10000 → Has (over_of e) table c p → 0 < c →
      Slot y (over_of e) table (p + 1) c (b then v else 1)
  entering true t h g i = alone (get_or slots c 0) (f.slot c h) (eqb-true (get_or slots c 0) 0 t) g i
  entering false t h g i = several

  pub filled_on : Filled e table (p + 1) (entered slots c v)
  filled_on = split (mapped c) (λ m. split (ltb 0xFFFF c) (λ t. rw (m, t) (high m (ltb-true 0xFFFF c t))) (λ t. rw (m, t) (low m (ltb-false 0xFFFF c t))))
      (λ m. rw m (record {
        size = f.size;
        slot = λ k h. others k h (λ g. let x : ◌≡◌ {A = ℕ} 0 1 = cc (g.is_mapped, m) in omega arith);
      }))
    where
      high : mapped c ≡ true → 0xFFFF < c → Filled e table (p + 1) (set slots 0 1)
      high m h = record {
        size = length-set slots 0 1 ∙ f.size;
        slot = λ k g. split (eqb k 0)
            (λ z. subst (Slot y (over_of e) table (p + 1) k)
            (sym (ap (λ (j : ℕ). get_or (set slots 0 1) j 0) (eqb-true k 0 z) ∙ get_or-set_same slots 0 1 0 (omega (arith, f.size)))) several)
            (λ z. subst (Slot y (over_of e) table (p + 1) k) (sym (get_or-set_other slots 0 k 1 0 (eqb-false k 0 z)))
            (others k g (λ t. eqb-false k 0 z (sym t.slot_is ∙ slot_high c h))));
      }

      low : mapped c ≡ true → c ≤ 0xFFFF → Filled e table (p + 1) (set slots c (eqb (get_or slots c 0) 0 then v else 1))
      low m h = record {
        size = length-set slots c (eqb (get_or slots c 0) 0 then v else 1) ∙ f.size;
        slot = λ k g. split (eqb k c)
            (λ z. let q = eqb-true k c z in
            subst (λ (j : ℕ). Slot y (over_of e) table (p + 1) j (get_or (set slots c (eqb (get_or slots c 0) 0 then v else 1)) j 0)) (sym q)
            (subst (Slot y (over_of e) table (p + 1) c)
            (sym (get_or-set_same slots c (eqb (get_or slots c 0) 0 then v else 1) 0 (omega (arith, f.size))))
            (entering (eqb (get_or slots c 0) 0) refl (omega arith)
            (record { inside = l; searched = s; is_mapped = m; slot_is = slot_low c (omega arith) }) (omega (arith, mapped_real c m)))))
            (λ z. subst (Slot y (over_of e) table (p + 1) k)
            (sym (get_or-set_other slots c k (eqb (get_or slots c 0) 0 then v else 1) 0 (eqb-false k c z)))
            (others k g (λ t. eqb-false k c z (sym t.slot_is ∙ slot_low c (omega arith)))));
      }

-- a row by its lead and the trails
pub row_of : (e r lead : ℕ) (trails : List ℕ) → lead ≡ lead_of (layout_of e) (r * (layout_of e).divisor) → Trails e (layout_of e).divisor trails →
    passed (over_of e) (r * (layout_of e).divisor) ≡ false → Row e (r * (layout_of e).divisor) (layout_of e).divisor (lead * 256) trails
row_of e r lead trails l t s = record {
  number = λ j h.
      let a : lead_of (layout_of e) (r * (layout_of e).divisor + j) ≡ lead = ap (placed (layout_of e).lead) (same_row e r j h) ∙ sym l in
      let b : trail_of (layout_of e) (r * (layout_of e).divisor + j) ≡ get_or trails j 0 =
      ap (placed (layout_of e).trail) (same_column e r j h) ∙ sym (t j h) in
      rw (a, b);
  searched = λ j h. row_alike e r j h ∙ s;
}

-- one cell of a row more, taken from the row beside its trail
module _ (e : ℕ) (table : List ℕ) (at width lead : ℕ) (trails slots : List ℕ) (n x t : ℕ) where
  abbrev row : List ℕ
  row = take (at + width - at) (drop at table)

  pub row_on : at + width ≤ length table → n < length row → ((d : ℕ) → x ≡ get_or row n d) → ((d : ℕ) → t ≡ get_or trails n d) →
      Row e at width lead trails → Filled e table (at + n) slots →
      (m : ℕ) (after : List ℕ) → m ≡ n + 1 → after ≡ entered slots x (lead + t) → Filled e table (at + m) after
  row_on h l a b r f m after z q =
      let w : at + width - at ≡ width = omega arith in
      let below : n < width = omega (arith, l, length-take (at + width - at) (drop at table)) in
      let cell : x ≡ get_or table (at + n) 0 =
      a 0 ∙ get_or-take (at + width - at) (drop at table) n 0 (omega arith) ∙ get_or-drop at table n 0 in
      let next : at + n + 1 ≡ at + m = omega arith in
      rw (q, cell, b 0) (subst (λ (p : ℕ). Filled e table p (entered slots (get_or table (at + n) 0) (lead + get_or trails n 0))) next
      (filled_on e table (at + n) (lead + get_or trails n 0) slots f (omega arith) (r.searched n below) (r.number n below)))

-- trails, column after column, as far as the row goes
pub trails_on : (e k v n : ℕ) (trails : List ℕ) → k < length trails → (k < n → v ≡ trail_of (layout_of e) k) →
    ((j : ℕ) → j < k → j < n → get_or trails j 0 ≡ trail_of (layout_of e) j) →
    (j : ℕ) → j < k + 1 → j < n → get_or (set trails k v) j 0 ≡ trail_of (layout_of e) j
trails_on e k v n trails l h t j g m = split (eqb j k)
    (λ z. let q = eqb-true j k z in
    ap (λ (i : ℕ). get_or (set trails k v) i 0) q ∙ get_or-set_same trails k v 0 l ∙ h (omega (arith, q)) ∙ ap (trail_of (layout_of e)) (sym q))
    (λ z. get_or-set_other trails k j v 0 (eqb-false j k z) ∙ t j (omega (arith, eqb-false j k z)) m)

-- the rows of an encoding
pub next_row : (r w : ℕ) → (r + 1) * w ≡ r * w + w
next_row r w = let z : r + 1 ≡ suc r = omega arith in rw z (suc-mul r w)

module _ (e : ℕ) (table : List ℕ) (low high width : ℕ) (trails : List ℕ) (a : Laid e table low high width trails) where
  pub laid_real : 0 < width
  laid_real = omega (arith, a.is_width, (divisor_small e).0)

  pub laid_all : length table / width * width ≡ length table
  laid_all = rw (a.cells, a.is_width) (rows_all e)

  module _ (r : ℕ) (h : r < length table / width) where
    inside : r < cells_of e / (layout_of e).divisor
    inside = rw (a.cells, a.is_width) at h

    pub laid_inside : r * width + width ≤ length table
    laid_inside = rw (a.cells, a.is_width) (row_inside e r inside)

    pub laid_pass : passed (pass_over low high) (r * width) ≡ true → (after : List ℕ) → Filled e table (r * width) after →
        Filled e table (r * width + width) after
    laid_pass t after f =
        let u : passed (over_of e) (r * (layout_of e).divisor) ≡ true = rw (a.is_low, a.is_high, a.is_width) at t in
        let g : Filled e table (r * (layout_of e).divisor) after = rw a.is_width at f in
        rw a.is_width (filled_pass e table (r * (layout_of e).divisor) (layout_of e).divisor after (λ j l. row_alike e r j l ∙ u) g)

    module _ (s : passed (pass_over low high) (r * width) ≡ false) (pair : Pair)
        (t : r * width < cells (layout_of e) → TheBytes (layout_of e) (r * width) pair) where
      unpassed : passed (over_of e) (r * (layout_of e).divisor) ≡ false
      unpassed = rw (a.is_low, a.is_high, a.is_width) at s

      pub laid_row : Row e (r * width) width (pair.lead * 256) trails
      laid_row =
          let l : r * (layout_of e).divisor < cells (layout_of e) = row_led e r inside unpassed in
          let b : TheBytes (layout_of e) (r * (layout_of e).divisor) pair = (rw a.is_width at t) l in
          let c : Trails e (layout_of e).divisor trails = rw a.is_width at a.trail in
          rw a.is_width (row_of e r pair.lead trails b.lead c unpassed)

  pub laid_fits : (lead j : ℕ) → lead < 256 → j < width → lead * 256 + get_or trails j 0 < 0x10000
  laid_fits lead j l h = omega (arith, a.trail j h, trail_below e j)

-- ASCII, slot after slot
pub record PlainTo (before : List ℕ) (n : ℕ) (after : List ℕ) : Type 0 where
  pub inside : (k : ℕ) → 0 < k → k < n → get_or after k 0 ≡ k * 256
  pub null : get_or after 0 0 ≡ get_or before 0 0
  pub behind : (k : ℕ) → n ≤ k → get_or after k 0 ≡ get_or before k 0

-- slots that are marked
module _ (before after : List ℕ) (from to : ℕ) (m : Marked before from to after) (k : ℕ) where
  marked_either : {A : Type 0} → (get_or after k 0 ≡ 1 → A) → ((from ≤ k → k < to → ⊥) → get_or after k 0 ≡ get_or before k 0 → A) → A
  marked_either f g = split (ltb k from)
      (λ t. let l = ltb-true k from t in g (λ h i. omega arith) (m.front k l))
      (λ t. split (ltb k to)
      (λ u. f (m.inside k (ltb-false k from t) (ltb-true k to u)))
      (λ u. let l = ltb-false k to u in g (λ h i. omega arith) (m.behind k l)))

  pub marked_zero : get_or after k 0 ≡ 0 → get_or before k 0 ≡ 0
  marked_zero z = marked_either (λ h. absurd (omega arith)) (λ n h. sym h ∙ z)

  pub marked_bytes : 256 ≤ get_or after k 0 → (get_or before k 0 ≡ get_or after k 0) × (from ≤ k → k < to → ⊥)
  marked_bytes l = marked_either (λ h. absurd (omega arith)) (λ n h. (sym h, n))

pub excepted : (a b c d e f g h : List ℕ) → Marked a 0x80 0x81 b → Marked b 0xA5 0xA6 c → Marked c 0x203E 0x203F d →
    Marked d 0x20AC 0x20AD e → Marked e 0x2212 0x2213 f → Marked f 0xE5E5 0xE5E6 g → Marked g 0xFF61 0xFFA0 h → Excepted a h
excepted a b c d e f g h m1 m2 m3 m4 m5 m6 m7 = record {
  zero_still = λ k z. marked_zero a b 0x80 0x81 m1 k (marked_zero b c 0xA5 0xA6 m2 k (marked_zero c d 0x203E 0x203F m3 k
      (marked_zero d e 0x20AC 0x20AD m4 k (marked_zero e f 0x2212 0x2213 m5 k (marked_zero f g 0xE5E5 0xE5E6 m6 k
      (marked_zero g h 0xFF61 0xFFA0 m7 k z))))));
  bytes_still = λ k l. (still k l).0;
  usual = λ k l. (still k l).1;
}
  where
    still : (k : ℕ) → 256 ≤ get_or h k 0 → (get_or a k 0 ≡ get_or h k 0) × Usual k
    still k l =
        let s7 = marked_bytes g h 0xFF61 0xFFA0 m7 k l in
        let s6 = marked_bytes f g 0xE5E5 0xE5E6 m6 k (omega (arith, s7.0)) in
        let s5 = marked_bytes e f 0x2212 0x2213 m5 k (omega (arith, s7.0, s6.0)) in
        let s4 = marked_bytes d e 0x20AC 0x20AD m4 k (omega (arith, s7.0, s6.0, s5.0)) in
        let s3 = marked_bytes c d 0x203E 0x203F m3 k (omega (arith, s7.0, s6.0, s5.0, s4.0)) in
        let s2 = marked_bytes b c 0xA5 0xA6 m2 k (omega (arith, s7.0, s6.0, s5.0, s4.0, s3.0)) in
        let s1 = marked_bytes a b 0x80 0x81 m1 k (omega (arith, s7.0, s6.0, s5.0, s4.0, s3.0, s2.0)) in (
          s1.0 ∙ s2.0 ∙ s3.0 ∙ s4.0 ∙ s5.0 ∙ s6.0 ∙ s7.0,
          record {
            no_80 = λ z. s1.1 (omega arith) (omega arith);
            no_yen = λ z. s2.1 (omega arith) (omega arith);
            no_overline = λ z. s3.1 (omega arith) (omega arith);
            no_euro = λ z. s4.1 (omega arith) (omega arith);
            no_minus = λ z. s5.1 (omega arith) (omega arith);
            no_e5e5 = λ z. s6.1 (omega arith) (omega arith);
            no_katakana = split (within 0xFF61 k 0xFF9F)
                (λ t. absurd (s7.1 (within_low 0xFF61 k 0xFF9F t) (omega (arith, within_high 0xFF61 k 0xFF9F t))))
                (λ t. t);
          },
        )

-- what the encoders' own functions are lent
pub helped : (e : ℕ) (table links second slots : List ℕ) → Ready e table links second slots → Helped (cells_of e) (over_of e) table slots
helped e table links second slots r = (r.0, λ l. (r.1 l).empty)
