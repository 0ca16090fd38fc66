-- The slots of the writers of pairs: the bytes of a number, one more in its slot, and what they say of a scalar in a state. Assumes nothing.
use mathlib.Core.Path.{◌≡◌, refl, sym, ap, ◌∙◌}
use mathlib.Core.Bool.{Bool, true, false, ◌||◌}
use mathlib.Core.List.{List, [], ◌∷◌}
use Prim.Native.Nat.{ℕ, suc, ◌+◌, ◌*◌, ◌/◌, ◌%◌, ◌≤◌, ◌<◌}
use native.Mathlib.Omega.{arith}
use lib.Dec.{leb, eqb}
use lib.ListN.{length, get_or, set}
use lib.Seq.{sets, set-get_or, get_or-set_same, get_or-set_other}
use borrow.Author.Tests.{eqb-true, eqb-false, le-leb, eq-eqb}
use Rattle.standard.specs.Base.{◌then◌else◌}
use Rattle.standard.specs.Machine.{Result, tokens, error_with}
use Rattle.standard.specs.Handlers.{ascii}
use Rattle.standard.specs.Search.{Lookup}
use Rattle.standard.specs.Encoders.Iso2022Jp.{control, changed}
use Rattle.standard.specs.Ones.{One, wrote, shift_to, answered, changed_pair, iso2022_jp_encode, written_in}
use Rattle.standard.proofs.Tests.{split, choose}
use Rattle.reverse_index_spec.specs.ReverseIndex.{look_up}
use Rattle.pair_writers.specs.Pairs.{told, pair_encode, pair_state, floor_of, bytes_in, Right, Ready}
use Rattle.pair_writers.specs.declared.One.{One as Answer}
use Rattle.pair_writers.specs.declared.One.TheVariants.{Two}
use Rattle.pair_writers.proofs.Shapes.{floor_real}
use Rattle.encoder.specs.WriterCode.{Keeps, same, put, Stays, pair_of}

-- at most two
pub bytes_most : (e v : ℕ) → length (bytes_in e v) ≤ 2
bytes_most e v = choose (λ (l : List ℕ). length l ≤ 2) (leb (floor_of e) v) (λ _. omega arith) (λ _. omega arith)

-- in a room, where the cell behind one byte is stored as it was
pub kept_put : (room : List ℕ) (at e v : ℕ) (two : Bool) → two ≡ leb (floor_of e) v → (r b : ℕ) → r ≡ (two then at + 2 else at + 1) →
    b ≡ (two then v % 256 else get_or (set room at (v / 256)) (at + 1) 0) →
    (r ≡ at + length (bytes_in e v)) × (set (set room at (v / 256)) (at + 1) b ≡ sets room at (bytes_in e v))
kept_put room at e v two z r b p q = rw (p, q, z) (go (leb (floor_of e) v))
  where
    go : (t : Bool) →
        ((t then at + 2 else at + 1) ≡ at + length (t then v / 256 ∷ v % 256 ∷ [] else v / 256 ∷ [])) ×
        (set (set room at (v / 256)) (at + 1) (t then v % 256 else get_or (set room at (v / 256)) (at + 1) 0) ≡
        sets room at (t then v / 256 ∷ v % 256 ∷ [] else v / 256 ∷ []))
    go true = let next : at + 1 ≡ suc at = omega arith in (refl, rw next refl)
    go false = (refl, set-get_or (set room at (v / 256)) (at + 1) 0)

-- The number in a scalar's slot is its bytes; and two bytes of a scalar put into its slot.
module _ (e : ℕ) (table links second slots : List ℕ) where
  pub kept_told : (c v : ℕ) → Ready e table links second slots → (length slots ≡ 0x10000) × (v ≡ get_or slots c 0) → 256 ≤ v →
      tokens (bytes_in e v) ≡ pair_encode e (look_up table links) second c
  kept_told c v r k h = rw k.1 (sym ((r.1 k.0).bytes c (omega (arith, k.1))))

  module _ (r : Right e table links second slots) (c v : ℕ) (l : c < length slots) (f : floor_of e ≤ v)
      (t : pair_encode e (look_up table links) second c ≡ tokens (v / 256 ∷ v % 256 ∷ [])) where
    here : (k : ℕ) → eqb k c ≡ true → get_or (set slots c v) k 0 ≡ v
    here k z = ap (λ (n : ℕ). get_or (set slots c v) n 0) (eqb-true k c z) ∙ get_or-set_same slots c v 0 l

    right_put : Right e table links second (set slots c v)
    right_put = record {
      empty = λ k g. split (eqb k c)
          (λ z n. absurd (omega (arith, here k z, floor_real e, f, n)))
          (λ z. rw (get_or-set_other slots c k v 0 (eqb-false k c z)) (r.empty k g));
      bytes = λ k. split (eqb k c)
          (λ z g. rw (here k z, le-leb (floor_of e) v f) (ap (pair_encode e (look_up table links) second) (eqb-true k c z) ∙ t))
          (λ z. rw (get_or-set_other slots c k v 0 (eqb-false k c z)) (r.bytes k));
    }

  pub keeps_ready : (c : ℕ) (o : Answer) {after : List ℕ} → told o ≡ pair_encode e (look_up table links) second c →
      Ready e table links second slots → Keeps e slots c o after → Ready e table links second after
  keeps_ready c o t r same = r
  keeps_ready c o t r (put u v n l h b f) =
      let w = u * 256 + v in
      let lead : w / 256 ≡ u = omega (arith, b) in
      let trail : w % 256 ≡ v = omega (arith, b) in
      (r.0, λ _. right_put (r.1 l) c w (omega (arith, l, h)) f (rw (lead, trail) (sym t ∙ rw n)))

-- In ISO-2022-JP a scalar of two bytes is written in the two-byte state.
two_stays : (look : Lookup) (second : List ℕ) (c u v : ℕ) → iso2022_jp_encode look second c ≡ tokens (u ∷ v ∷ []) → written_in 2 c ≡ 2
unfolding iso2022_jp_encode
two_stays look second c u v = go (control c) (ascii c) (eqb c 0xA5) (eqb c 0x203E)
  where
    go : (k a y o : Bool) →
        (k then error_with 0xFFFD else a then tokens (c ∷ []) else y then tokens (0x5C ∷ []) else o then tokens (0x7E ∷ []) else
        changed_pair look (changed second c) c) ≡ tokens (u ∷ v ∷ []) →
        ◌≡◌ {A = ℕ} (a then 0 else (y || o) then 1 else 2) 2
    go true a y o q = let z : ◌≡◌ {A = ℕ} 0 1 = cc in absurd (omega arith)
    go false true y o q = let z : ◌≡◌ {A = ℕ} 0 1 = cc in absurd (omega arith)
    go false false true o q = let z : ◌≡◌ {A = ℕ} 0 1 = cc in absurd (omega arith)
    go false false false true q = let z : ◌≡◌ {A = ℕ} 0 1 = cc in absurd (omega arith)
    go false false false false q = refl

in_jis : (look : Lookup) (second : List ℕ) (c v : ℕ) → 256 ≤ v → pair_encode 33 look second c ≡ tokens (bytes_in 33 v) →
    pair_state 33 2 c (tokens (bytes_in 33 v)) ≡ 2
unfolding pair_encode
in_jis look second c v h q = two_stays look second c (v / 256) (v % 256) (q ∙ rw (le-leb 256 v h))

-- The numbers in slots are what is written of their scalars.
module _ (e s : ℕ) (table links second slots : List ℕ) (r : Ready e table links second slots) where
  state_stays : length slots ≡ 0x10000 → (e ≡ 33 → s ≡ 2) → (k : ℕ) → 256 ≤ get_or slots k 0 →
      pair_state e s k (tokens (bytes_in e (get_or slots k 0))) ≡ s
  state_stays l h k g = split (eqb e 33)
      (λ z.
      let jis : e ≡ 33 = eqb-true e 33 z in
      rw (jis, h jis) (in_jis (look_up table links) second k (get_or slots k 0) g (rw jis at ((r.1 l).bytes k g))))
      (λ z. rw z)

  pub ready_stays : Stays e s slots (pair_of e (look_up table links) second)
  ready_stays l h k g =
      ap (λ (q : Result). answered (shift_to s (pair_state e s k q)) (pair_state e s k q) q) ((r.1 l).bytes k g) ∙
      ap (λ (n : ℕ). answered (shift_to s n) n (tokens (bytes_in e (get_or slots k 0)))) (state_stays l h k g) ∙ rw (eq-eqb s s refl)

-- so is one that was read, for any writer of one scalar
pub stays_here : (e s : ℕ) (slots : List ℕ) (one : ℕ → ℕ → One) → Stays e s slots one → (e ≡ 33 → s ≡ 2) → (c v : ℕ) →
    (length slots ≡ 0x10000) × (v ≡ get_or slots c 0) → 256 ≤ v → one s c ≡ wrote (bytes_in e v) s
stays_here e s slots one stays h c v k g = rw k.1 (stays k.0 h c (omega (arith, k.1)))

-- two bytes are put into their slot
pub keeps_two : (e : ℕ) (slots : List ℕ) (c : ℕ) (o : Answer) (bs : List ℕ) → o ≡ Two bs → length bs ≡ 2 →
    (u v : ℕ) → u ≡ get_or bs 0 0 → v ≡ get_or bs 1 0 → v < 256 → length slots ≡ 0x10000 → c < 0x10000 → floor_of e ≤ u * 256 + v →
    Keeps e slots c o (set slots c (u * 256 + v))
keeps_two e slots c o [] z n u v p q b l h f = absurd (omega arith)
keeps_two e slots c o (x ∷ []) z n u v p q b l h f = absurd (omega arith)
keeps_two e slots c o (x ∷ y ∷ []) z n u v p q b l h f = put u v (rw (p, q) z) l h b f
keeps_two e slots c o (x ∷ y ∷ w ∷ bs) z n u v p q b l h f = absurd (omega arith)
