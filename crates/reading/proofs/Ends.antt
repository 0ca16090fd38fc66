-- The end of input, by the bytes held: what it gives in each case of the code. Assumes nothing.
use mathlib.Core.Path.{◌≡◌, refl, sym, ap, ◌∙◌}
use mathlib.Core.Bool.{Bool, true, false, ◌&&◌, ◌||◌}
use mathlib.Core.List.{List, [], ◌∷◌, append-nil}
use Prim.Native.Nat.{ℕ, zero, suc, ◌+◌, ◌-◌}
use native.Mathlib.Omega.{arith}
use native.Mathlib.Nat.{add-zero}
use lib.Dec.{leb, eqb}
use lib.ListN.{length, take}
use borrow.Author.Tests.{ne_eqb}
use Rattle.std.specs.Prelude.{Ok, Err}
use Rattle.standard.specs.Base.{◌then◌else◌, line_feeds}
use Rattle.standard.specs.Encodings.{Family, ISO-2022-JP, family, Tables, no_tables}
use Rattle.standard.specs.Sequence.{Shift, Out, text, error, Next, more, item, shift, plain}
use Rattle.standard.specs.Sequences.Iso2022Jp.{iso2022_jp, byte_out}
use Rattle.standard.specs.Next.{next}
use Rattle.standard.specs.Decode.{Item, span, one_error, iso_end, ending, last_out, given, shown}
use Rattle.standard.specs.Choice.{spot}
use Rattle.standard.proofs.Items.{shown_cons}
use Rattle.standard.proofs.Reading.{either_end, no_bytes}
use Rattle.standard.proofs.Families.{by_family}
use Rattle.sequences.specs.Code.{item_of, out_of, front}
use Rattle.sequences.specs.declared.Out.{Out as CodeOut}
use Rattle.sequences.specs.declared.Out.TheVariants.{Error, Nothing, One, Two}
use Rattle.sequences.specs.declared.Sequence.{Sequence}
use Rattle.runs.specs.Run.{patch}
use Rattle.reading.specs.Reading.{bytes_of, leaves, ReadOutcome, behind}
use Rattle.reading.specs.declared.Held.{Held}
use Rattle.reading.specs.declared.Stop.TheVariants.{Report}
use Rattle.reading.proofs.Handing.{last, emit_stop, emit_report, emit_last}

-- the byte after 1B at the end of input gives exactly one scalar, or an error
one_out : (t : Tables) (s : Shift) (b : ℕ) → length (given (last_out (next t ISO-2022-JP s (b ∷ [])))) ≡ 1
unfolding next iso2022_jp byte_out
one_out t s b = go (eqb b 0x1B) (eqb s.state 3) (leb 0x21 b && leb b 0x7E) (eqb s.state 2) (leb 0x21 b && leb b 0x5F)
    (leb 0x80 b || eqb b 0x0E || eqb b 0x0F) (eqb s.state 1 && eqb b 0x5C) (eqb s.state 1 && eqb b 0x7E)
  where
    kana : Bool → Out
    kana y = y then text ((0xFF61 - 0x21 + b) ∷ []) else error

    byte : Bool → Bool → Bool → Bool → Bool → Out
    byte x y v w u = x then kana y else v then error else w then text (0xA5 ∷ []) else u then text (0x203E ∷ []) else text (b ∷ [])

    answer : Bool → Bool → Bool → Out → Next
    answer a c i o = a then more else c then (i then more else item 1 (shift 3 false) error) else item 1 (shift s.state false) o

    one : (x y v w u : Bool) → length (given (byte x y v w u)) ≡ 1
    one true true v w u = refl
    one true false v w u = refl
    one false y true w u = refl
    one false y false true u = refl
    one false y false false true = refl
    one false y false false false = refl

    go : (a c i x y v w u : Bool) → length (given (last_out (answer a c i (byte x y v w u)))) ≡ 1
    go true c i x y v w u = refl
    go false true true x y v w u = refl
    go false true false x y v w u = refl
    go false false i x y v w u = one x y v w u

pub iso_end-any : (t : Tables) (s : Shift) (b : ℕ) → next t ISO-2022-JP s (b ∷ []) ≡ next no_tables ISO-2022-JP s (b ∷ [])
unfolding next iso2022_jp
iso_end-any t s b = refl

-- what the code finds there
module _ (t : Tables) (s : Shift) (b : ℕ) where
  pub last_more : more ≡ next t ISO-2022-JP s (front 1 b 0 0 0) → (0xFFFD ∷ []) ≡ given (last_out (next no_tables ISO-2022-JP s (b ∷ [])))
  last_more e = ap (λ (a : Next). given (last_out a)) (e ∙ iso_end-any t s b)

  module _ (q : Sequence) (e : item_of q ≡ next t ISO-2022-JP s (front 1 b 0 0 0)) where
    last_item : given (out_of q.out) ≡ given (last_out (next no_tables ISO-2022-JP s (b ∷ [])))
    last_item = ap (λ (a : Next). given (last_out a)) (e ∙ iso_end-any t s b)

    pub last_one : (c : ℕ) → q.out ≡ One c → (c ∷ []) ≡ given (last_out (next no_tables ISO-2022-JP s (b ∷ [])))
    last_one c h = let g : given (out_of q.out) ≡ c ∷ [] = rw h in sym g ∙ last_item

    -- it is an error, if it is not one scalar
    pub last_error : ((c : ℕ) → q.out ≡ One c → ⊥) → (0xFFFD ∷ []) ≡ given (last_out (next no_tables ISO-2022-JP s (b ∷ [])))
    last_error n = alone q.out n (ap length last_item ∙ one_out no_tables s b) ∙ last_item
      where
        alone : (o : CodeOut) → ((c : ℕ) → o ≡ One c → ⊥) → length (given (out_of o)) ≡ 1 → (0xFFFD ∷ []) ≡ given (out_of o)
        alone Error n l = refl
        alone Nothing n l = absurd (omega arith)
        alone (One c) n l = absurd (n c refl)
        alone (Two c d) n l = absurd (omega arith)

-- one byte held; bytes held in an encoding other than ISO-2022-JP; bytes held in any
pub one_byte : (t : Tables) (f : Family) (s : Shift) (b : ℕ) → ending t f s (b ∷ []) ≡ span 1 error ∷ []
unfolding one_error iso_end
one_byte t f s b = either_end (λ is. is ≡ span 1 error ∷ []) t f s (b ∷ []) refl refl

pub other_error : (t : Tables) (e : ℕ) (s : Shift) (b : ℕ) (xs : List ℕ) → (e ≡ 33 → ⊥) →
    ending t (family e) s (b ∷ xs) ≡ span (suc (length xs)) error ∷ []
unfolding ending one_error
other_error t e s b xs n = by_family (λ f. ending t f s (b ∷ xs) ≡ span (suc (length xs)) error ∷ []) e (record {
  c0 = λ h. refl;
  c21 = λ h. refl;
  c1_28 = λ l u n. refl;
  c29_30 = λ l u. refl;
  c31 = λ h. refl;
  c32 = λ h. refl;
  c33 = λ h. absurd (n h);
  c34 = λ h. refl;
  c35 = λ h. refl;
  c36 = λ h. refl;
  c37 = λ h. refl;
  c38 = λ h. refl;
  c39 = λ l. refl;
})

abbrev Starts : List Item → Type 0
Starts is = (w : ℕ) × (js : List Item) × (is ≡ span w error ∷ js)

starts_error : (t : Tables) (f : Family) (s : Shift) (b : ℕ) (xs : List ℕ) → Starts (ending t f s (b ∷ xs))
unfolding one_error iso_end
starts_error t f s b xs = either_end Starts t f s (b ∷ xs) (suc (length xs), [], refl) (iso xs)
  where
    iso : (xs : List ℕ) → Starts (iso_end t s (b ∷ xs))
    iso [] = (1, [], refl)
    iso (c ∷ xs) = (1, span (suc (length xs)) (last_out (next t ISO-2022-JP s (c ∷ []))) ∷ [], refl)

-- the bytes held, if there are some, and if there are two
held_some : (n a b c : ℕ) → (n ≡ 0 → ⊥) → (xs : List ℕ) × (take n (a ∷ b ∷ c ∷ []) ≡ a ∷ xs)
held_some zero a b c h = absurd (h refl)
held_some (suc n) a b c h = (take n (b ∷ c ∷ []), refl)

held_two : (n a b c : ℕ) → (n ≡ 0 → ⊥) → (n ≡ 1 → ⊥) → (xs : List ℕ) × (take n (a ∷ b ∷ c ∷ []) ≡ a ∷ b ∷ xs)
held_two zero a b c h g = absurd (h refl)
held_two (suc zero) a b c h g = absurd (g refl)
held_two (suc (suc n)) a b c h g = (take n (c ∷ []), refl)

-- What the end gives, in the order of the code's tests, behind w scalars with k line feeds among them, and `at` bytes.
abbrev pub ended : ℕ → ℕ → List ℕ → ReadOutcome
ended w k room = record { left = Ok (leaves w k (spot 0 plain) []); room = room }

module _ (e m at w k state flag : ℕ) (held : Held) (room : List ℕ) where
  abbrev s : Shift
  s = shift state (eqb flag 1)

  abbrev given_last : ReadOutcome
  given_last = behind m at w k (ending no_tables (family e) s (bytes_of held)) room

  pub end_none : held.count ≡ 0 → given_last ≡ ended w k room
  end_none h = rw (h, no_bytes no_tables (family e) s) (emit_last m at w k [] room ∙ emit_stop m (spot 0 plain) [] at k w room)

  pub end_report : (held.count ≡ 0 → ⊥) → m ≡ 1 → given_last ≡ record { left = Err (Report w k at); room = room }
  end_report h q =
      let i = held_some held.count held.first held.second held.third h in
      let j = starts_error no_tables (family e) s held.first i.0 in
      rw (i.1, j.2) (emit_last m at w k (span j.0 error ∷ j.1) room ∙ emit_report m j.0 (last j.1) at k w room q)

  one_error_lem : (n : ℕ) → (m ≡ 1 → ⊥) → behind m at w k (span n error ∷ []) room ≡ ended (w + 1) k (patch w (0xFFFD ∷ []) room)
  unfolding shown line_feeds
  one_error_lem n q = rw (ne_eqb m 1 q, add-zero k)

  pub end_one : held.count ≡ 1 → (m ≡ 1 → ⊥) → given_last ≡ ended (w + 1) k (patch w (0xFFFD ∷ []) room)
  end_one h q = rw (h, one_byte no_tables (family e) s held.first) (one_error_lem 1 q)

  pub end_other : (held.count ≡ 0 → ⊥) → (m ≡ 1 → ⊥) → (e ≡ 33 → ⊥) → given_last ≡ ended (w + 1) k (patch w (0xFFFD ∷ []) room)
  end_other h q n =
      let i = held_some held.count held.first held.second held.third h in
      rw (i.1, other_error no_tables e s held.first i.0 n) (one_error_lem (suc (length i.0)) q)

  pub end_iso : (c : ℕ) → (held.count ≡ 0 → ⊥) → (held.count ≡ 1 → ⊥) → (m ≡ 1 → ⊥) → e ≡ 33 →
      (c ∷ []) ≡ given (last_out (next no_tables ISO-2022-JP s (held.second ∷ []))) →
      given_last ≡ ended (w + 2) (k + line_feeds (c ∷ [])) (patch w (0xFFFD ∷ c ∷ []) room)
  unfolding family ending iso_end shown line_feeds
  end_iso c h g q n l =
      let i = held_two held.count held.first held.second held.third h g in
      let o = last_out (next no_tables ISO-2022-JP s (held.second ∷ [])) in
      let two : shown (span 1 error ∷ span (suc (length i.0)) o ∷ []) ≡ 0xFFFD ∷ c ∷ [] =
      ap (◌∷◌ 0xFFFD) (shown_cons (suc (length i.0)) o [] ∙ append-nil (given o) ∙ sym l) in
      rw (i.1, n, ne_eqb m 1 q)
      (ap (λ (cs : List ℕ). ended (w + length cs) (k + line_feeds cs) (patch w cs room)) two)
