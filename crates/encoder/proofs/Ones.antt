-- The answers of the writers of pairs: their bytes in a room, and what is written of a scalar. Assumes nothing.
use mathlib.Core.Path.{◌≡◌, refl, sym, ap, ◌∙◌}
use mathlib.Core.List.{List, [], ◌∷◌, ◌++◌}
use Prim.Native.Nat.{ℕ}
use borrow.Author.Tests.{eq-eqb}
use Rattle.pair_writers.specs.Pairs.{bytes_of, told, pair_encode, pair_state, Plain}
use Rattle.pair_writers.specs.declared.One.{One}
use Rattle.pair_writers.specs.declared.One.TheVariants.{Unwritable, Byte, Two, Four}
use Rattle.standard.specs.Machine.{Result, tokens, error_with}
use Rattle.standard.specs.Search.{Lookup}
use Rattle.standard.specs.Ones.{wrote, cannot, shift_to, answered}
use Rattle.encoder.specs.WriterCode.{pair_of}
use Rattle.encoder.proofs.Filling.{pair_80}

-- an answer that is no error has bytes
has_bytes : (o : One) → ((n : ℕ) → o ≡ Unwritable n → ⊥) → told o ≡ tokens (bytes_of o)
has_bytes (Unwritable n) h = absurd (h n refl)
has_bytes (Byte b) h = refl
has_bytes (Two bs) h = refl
has_bytes (Four bs) h = refl

-- by the answer
module _ (o : One) where
  -- what is written of a scalar from a state, by the answer and the state that it is written in
  module _ (e : ℕ) (look : Lookup) (second : List ℕ) (s c : ℕ) (t : told o ≡ pair_encode e look second c) (s' : ℕ) (z : s' ≡ pair_state e s c (told o)) where
    abbrev result : Result
    result = pair_encode e look second c

    -- with the way to that state in front
    pub pair_answered : pair_of e look second s c ≡ answered (shift_to s s') s' result
    pair_answered =
        let q : pair_state e s c result ≡ s' = ap (pair_state e s c) (sym t) ∙ sym z in
        ap (λ (n : ℕ). answered (shift_to s n) n result) q

    pub pair_bytes : ((n : ℕ) → o ≡ Unwritable n → ⊥) → pair_of e look second s c ≡ wrote (shift_to s s' ++ bytes_of o) s'
    pair_bytes h =
        let q : result ≡ tokens (bytes_of o) = sym t ∙ has_bytes o h in
        pair_answered ∙ ap (answered (shift_to s s') s') q

    pub pair_named : (n : ℕ) → o ≡ Unwritable n → pair_of e look second s c ≡ cannot (shift_to s s') n s'
    pair_named n h =
        let q : result ≡ error_with n = sym t ∙ rw h in
        pair_answered ∙ ap (answered (shift_to s s') s') q

-- ASCII that leaves the state as it is
pub plain_byte : (e : ℕ) (look : Lookup) (second : List ℕ) (s c : ℕ) → Plain e s c → pair_of e look second s c ≡ wrote (c ∷ []) s
plain_byte e look second s c p =
    let r : pair_encode e look second c ≡ tokens (c ∷ []) = sym (pair_80 e look second c p.is_ascii) ∙ rw p.no_control in
    ap (λ (q : Result). answered (shift_to s (pair_state e s c q)) (pair_state e s c q) q) r ∙
    ap (λ (n : ℕ). answered (shift_to s n) n (tokens (c ∷ []))) p.stays ∙ rw (eq-eqb s s refl)
