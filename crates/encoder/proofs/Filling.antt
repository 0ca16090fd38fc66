-- Slots: how they are filled from a table, and what they say of a scalar. Assumes nothing.
use mathlib.Core.Path.{◌≡◌, refl, sym, ap, subst, ◌∙◌}
use mathlib.Core.Bool.{Bool, true, false, not, ◌&&◌, and-false}
use mathlib.Core.List.{List, [], ◌∷◌}
use mathlib.Core.Option.{Option, some, none}
use Prim.Native.Nat.{ℕ, suc, ◌+◌, ◌-◌, ◌*◌, ◌/◌, ◌%◌, ◌≤◌, ◌<◌}
use native.Mathlib.Omega.{arith}
use lib.Dec.{leb, eqb}
use lib.ListN.{length, get_or, set, drop, replicate, length-set, length-replicate}
use lib.Seq.{get_or-set_same, get_or-set_other, drop-cons}
use borrow.Author.Tests.{leb-true, eqb-true, eqb-false, lt-ltb, le-ltb, eq-eqb, ne_eqb}
use Rattle.standard.specs.Base.{◌then◌else◌, within, is_scalar, mapped}
use Rattle.standard.specs.Indexes.{irregular, windows1252}
use Rattle.standard.specs.Machine.{Result, tokens, error_with}
use Rattle.standard.specs.Search.{first, either, search_from, Lookup, searching, pointer_from}
use Rattle.standard.specs.Encoders.Utf8.{utf8_encode}
use Rattle.standard.specs.Encoders.SingleByte.{single_byte_encode}
use Rattle.standard.specs.Encoders.UserDefined.{user_defined_encode}
use Rattle.standard.specs.Encoders.Gb18030.{gb18030_encode}
use Rattle.standard.specs.Encoders.Big5.{big5_encode}
use Rattle.standard.specs.Encoders.EucJp.{euc_jp_encode}
use Rattle.standard.specs.Encoders.ShiftJis.{shift_jis_encode}
use Rattle.standard.specs.Encoders.EucKr.{euc_kr_encode}
use Rattle.standard.specs.Encoders.Iso2022Jp.{control}
use Rattle.standard.specs.Ones.{iso2022_jp_encode}
use Rattle.standard.proofs.EmptyCells.{empty_cell}
use Rattle.standard.proofs.Tests.{split, and_left, and_right}
use Rattle.reverse_index_spec.specs.ReverseIndex.{look_up}
use Rattle.reverse_index_spec.proofs.LookUp.{no_index}
use Rattle.pair_writers.specs.Pairs.{pair_encode}
use Rattle.encoder.specs.WriterCode.{encoder_of, Slots, entered}
use Rattle.encoder.proofs.Scalars.{windows_self, windows_more}

-- a cell that counts as mapped is a scalar of at least 0x80
module _ (x : ℕ) (h : mapped x ≡ true) where
  mapped_least : 0x80 ≤ x
  mapped_least = leb-true 0x80 x (and_left (leb 0x80 x) (is_scalar x) h)

  pub mapped_most : x ≤ 0x10FFFF
  mapped_most = leb-true x 0x10FFFF (and_left (leb x 0x10FFFF) (not (within 0xD800 x 0xDFFF)) (and_right (leb 0x80 x) (is_scalar x) h))

-- What stands in slot k once the cells from p on are in: nothing, or a scalar of this remainder and its first pointer from p on.
data Slot (table : List ℕ) (p k : ℕ) : ℕ → Type 0 where
  empty : Slot table p k 0
  entry : (c q : ℕ) → c % 2048 ≡ k → 0x80 ≤ c → q < 128 → pointer_from p (drop p table) c ≡ some q → Slot table p k (c * 256 + (q + 0x80))

pub record Filled (table : List ℕ) (p : ℕ) (slots : List ℕ) : Type 0 where
  pub size : length slots ≡ 2048
  pub inside : p ≤ length table
  slot : (k : ℕ) → Slot table p k (get_or slots k 0)

pub filled_start : (table slots : List ℕ) → slots ≡ replicate 2048 0 → Filled table (length table) slots
filled_start table slots e = rw e (record {
  size = length-replicate {A = ℕ} 2048 0;
  inside = omega arith;
  slot = λ k. subst (Slot table (length table) k) (sym (empty_cell 2048 k)) empty;
})

-- one cell more in front
module _ (table : List ℕ) (p : ℕ) (h : p < length table) (few : p < 128) where
  at_front : (c : ℕ) →
      pointer_from p (drop p table) c ≡ (mapped (get_or table p 0) && eqb (get_or table p 0) c then some p else pointer_from (suc p) (drop (suc p) table) c)
  unfolding search_from
  at_front c = rw (drop-cons table p 0 h) (go (mapped (get_or table p 0) && eqb (get_or table p 0) c) (pointer_from (suc p) (drop (suc p) table) c))
    where
      go : (b : Bool) (o : Option ℕ) → either first (b then some p else none) o ≡ (b then some p else o)
      go true o = refl
      go false o = refl

  kept : (k s : ℕ) → ((c : ℕ) → c % 2048 ≡ k → mapped (get_or table p 0) && eqb (get_or table p 0) c ≡ false) → Slot table (suc p) k s → Slot table p k s
  kept k s n empty = empty
  kept k s n (entry c q r l b e) = entry c q r l b (at_front c ∙ rw (n c r) e)

  module _ (slots : List ℕ) (f : Filled table (suc p) slots) where
    unmapped : mapped (get_or table p 0) ≡ false → Filled table p slots
    unmapped e = record { size = f.size; inside = omega (arith, f.inside); slot = λ k. kept k (get_or slots k 0) (λ c r. rw e) (f.slot k) }

    value : ℕ
    value = get_or table p 0 * 256 + (p + 0x80)

    put : mapped (get_or table p 0) ≡ true → (k : ℕ) → Slot table p k (get_or (set slots (get_or table p 0 % 2048) value) k 0)
    unfolding value
    put e k = split (eqb k (get_or table p 0 % 2048))
        (λ z. let q : k ≡ get_or table p 0 % 2048 = eqb-true k (get_or table p 0 % 2048) z in
        subst (Slot table p k) (sym (ap (λ (j : ℕ). get_or (set slots (get_or table p 0 % 2048) value) j 0) q ∙ get_or-set_same slots (get_or table p 0 % 2048) value 0 (omega (arith, f.size))))
        (entry (get_or table p 0) p (sym q) (mapped_least (get_or table p 0) e) few (at_front (get_or table p 0) ∙ rw (e, eq-eqb (get_or table p 0) (get_or table p 0) refl))))
        (λ z. let n : k ≡ get_or table p 0 % 2048 → ⊥ = eqb-false k (get_or table p 0 % 2048) z in
        subst (Slot table p k) (sym (get_or-set_other slots (get_or table p 0 % 2048) k value 0 n))
        (kept k (get_or slots k 0) (λ c r. rw (ne_eqb (get_or table p 0) c (λ w. n (sym r ∙ ap (λ (x : ℕ). x % 2048) (sym w)))) (and-false (mapped (get_or table p 0)))) (f.slot k)))

    one_more : Filled table p (entered slots (get_or table p 0) (p + 0x80))
    unfolding value
    one_more = split (mapped (get_or table p 0))
        (λ e. rw e (record { size = length-set slots (get_or table p 0 % 2048) value ∙ f.size; inside = omega (arith, f.inside); slot = put e }))
        (λ e. rw e (unmapped e))

pub filled_on : (table slots after : List ℕ) (p : ℕ) → length table ≤ 128 → 0 < p → Filled table p slots →
    after ≡ entered slots (get_or table (p - 1) 0) (p - 1 + 0x80) → Filled table (p - 1) after
filled_on table slots after p few h f e =
    let q : p ≡ suc (p - 1) = omega arith in
    subst (Filled table (p - 1)) (sym e) (one_more table (p - 1) (omega (arith, f.inside)) (omega (arith, f.inside)) slots (subst (λ (n : ℕ). Filled table n slots) q f))

-- a full slot says the byte
slot_right : (table : List ℕ) (k s : ℕ) → Slot table 0 k s → single_byte_encode (searching table) (s / 256) ≡ tokens (s % 256 ∷ [])
unfolding single_byte_encode
slot_right table k s empty = refl
slot_right table k s (entry c q r l b e) =
    let d : (c * 256 + (q + 0x80)) / 256 ≡ c = omega arith in let m : (c * 256 + (q + 0x80)) % 256 ≡ q + 0x80 = omega arith in
    rw (d, m, le-ltb c 0x80 l, e)

pub filled_end : (table slots : List ℕ) (p : ℕ) → p ≤ 0 → Filled table p slots → Slots (single_byte_encode (searching table)) slots
filled_end table slots p h f =
    let q : p ≡ 0 = omega arith in
    let g : Filled table 0 slots = subst (λ (n : ℕ). Filled table n slots) q f in
    record { right = λ k. slot_right table k (get_or slots k 0) (g.slot k) }

-- the same slots, for an equal encoder
pub slots_as : {f g : ℕ → Result} (slots : List ℕ) → ((c : ℕ) → f c ≡ g c) → Slots f slots → Slots g slots
slots_as slots e s = record { right = λ k. sym (e (get_or slots k 0 / 256)) ∙ s.right k }

-- windows-1252
pub windows_slots : (slots : List ℕ) → Slots (single_byte_encode (searching irregular)) slots → Slots (single_byte_encode (searching windows1252)) slots
windows_slots slots s = record { right = λ k. windows_more (get_or slots k 0 / 256) (get_or slots k 0 % 256 ∷ []) (s.right k) }

slots_set : (encode : ℕ → Result) (slots : List ℕ) (i v : ℕ) → i < length slots → Slots encode slots →
    encode (v / 256) ≡ tokens (v % 256 ∷ []) → Slots encode (set slots i v)
slots_set encode slots i v h s e = record {
  right = λ k. split (eqb k i)
      (λ z. let q : get_or (set slots i v) k 0 ≡ v = ap (λ (j : ℕ). get_or (set slots i v) j 0) (eqb-true k i z) ∙ get_or-set_same slots i v 0 h in rw q e)
      (λ z. rw (get_or-set_other slots i k v 0 (eqb-false k i z)) (s.right k));
}

pub regular_on : (slots : List ℕ) (c : ℕ) → length slots ≡ 2048 → 0xA0 ≤ c → c < 0x100 → Slots (single_byte_encode (searching windows1252)) slots →
    Slots (single_byte_encode (searching windows1252)) (set slots c (c * 256 + c))
regular_on slots c l h g s = slots_set (single_byte_encode (searching windows1252)) slots c (c * 256 + c) (omega arith) s
    (let d : (c * 256 + c) / 256 ≡ c = omega arith in let m : (c * 256 + c) % 256 ≡ c = omega arith in rw (d, m) (sym (windows_self c h (omega arith))))

-- cells looked up: each entry is right by itself
module _ (look : Lookup) where
  pub record Looked (slots : List ℕ) : Type 0 where
    pub size : length slots ≡ 2048
    pub right : Slots (single_byte_encode look) slots

  pub looked_start : (slots : List ℕ) → slots ≡ replicate 2048 0 → Looked slots
  unfolding single_byte_encode
  looked_start slots e = rw e (record { size = length-replicate {A = ℕ} 2048 0; right = record { right = λ k. rw (empty_cell 2048 k) refl } })

-- ASCII is its own byte in the encodings that write pairs, but for the controls of ISO-2022-JP
pub pair_80 : (e : ℕ) (look : Lookup) (second : List ℕ) (c : ℕ) → c < 0x80 →
    (eqb e 33 && control c then error_with 0xFFFD else tokens (c ∷ [])) ≡ pair_encode e look second c
unfolding pair_encode gb18030_encode big5_encode euc_jp_encode iso2022_jp_encode shift_jis_encode euc_kr_encode
pair_80 e look second c h = split (eqb e 33) (λ z. rw (eqb-true e 33 z, lt-ltb c 0x80 h)) (λ z. rw z (go (leb e 30) (eqb e 31) (eqb e 32) (eqb e 34)))
  where
    go : (g b j s : Bool) → tokens (c ∷ []) ≡ (g then gb18030_encode (eqb e 29) look second else
        b then big5_encode look else j then euc_jp_encode look else
        s then shift_jis_encode look else euc_kr_encode look) c
    go true b j s = rw (lt-ltb c 0x80 h)
    go false true j s = rw (lt-ltb c 0x80 h)
    go false false true s = rw (lt-ltb c 0x80 h)
    go false false false true = rw (lt-ltb c 0x80 h)
    go false false false false = rw (lt-ltb c 0x80 h)

-- by the encoding's number
module _ (e : ℕ) (look : Lookup) where
  pub below_80 : (c : ℕ) → c < 0x80 → tokens (c ∷ []) ≡ encoder_of e look c
  unfolding encoder_of utf8_encode single_byte_encode user_defined_encode
  below_80 c h = go (eqb e 0) (eqb e 21) (leb e 28)
    where
      go : (u w s : Bool) → tokens (c ∷ []) ≡ (u then utf8_encode else w then single_byte_encode (searching windows1252) else
          s then single_byte_encode look else user_defined_encode) c
      go true w s = rw (lt-ltb c 0x80 h)
      go false true s = rw (lt-ltb c 0x80 h)
      go false false true = rw (lt-ltb c 0x80 h)
      go false false false = rw (lt-ltb c 0x80 h)

  -- empty slots, or none
  pub empty_slots : (slots : List ℕ) → ((k : ℕ) → get_or slots k 0 ≡ 0) → Slots (encoder_of e look) slots
  empty_slots slots z = record { right = λ k. rw (z k) (sym (below_80 0 (omega arith))) }

  pub zero_slots : (slots : List ℕ) → slots ≡ replicate 2048 0 → Slots (encoder_of e look) slots
  zero_slots slots q = empty_slots slots (λ k. ap (λ (l : List ℕ). get_or l k 0) q ∙ empty_cell 2048 k)

  pub by_slot : (slots : List ℕ) → Slots (encoder_of e look) slots → (k c : ℕ) → get_or slots k 0 / 256 ≡ c →
      tokens (get_or slots k 0 % 256 ∷ []) ≡ encoder_of e look c
  by_slot slots s k c q = sym (s.right k) ∙ ap (encoder_of e look) q

-- Where there is no reverse index, a look-up is the search.
pub slots_lent : (e : ℕ) (table links slots : List ℕ) → length links ≡ 0 → Slots (encoder_of e (searching table)) slots →
    Slots (encoder_of e (look_up table links)) slots
slots_lent e table [] slots q s = rw (no_index table) s
slots_lent e table (l ∷ links) slots q s = absurd (omega arith)
