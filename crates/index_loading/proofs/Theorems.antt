-- Loading byte by byte, with at most 1,025 bytes kept, is loading line by line. Assumes nothing.
use mathlib.Core.Path.{◌≡◌, refl, sym, ap, ◌∙◌}
use mathlib.Core.Bool.{Bool, true, false}
use mathlib.Core.List.{List, [], ◌∷◌, ◌++◌}
use Prim.Native.Nat.{ℕ, ◌≤◌, ◌<◌}
use native.Mathlib.Omega.{arith}
use lib.Dec.{ltb, eqb}
use lib.ListN.{length, take, length-take, length-append}
use lib.Seq.{take_all, take-append-le}
use borrow.Author.Tests.{eqb-true, eqb-false, ltb-true, ltb-false, lt-ltb}
use Rattle.standard.specs.Base.{◌then◌else◌}
use Rattle.standard.specs.Text.{bytes}
use Rattle.standard.proofs.Tests.{split}
use Rattle.index_spec.specs.IndexLine.{value}
use Rattle.index_spec.specs.IndexRead.{front, behind, fits, read}
use Rattle.index_spec.specs.IndexCall.{Outcome, index_line}
use Rattle.index_loading.specs.Loading.{load_from}
use Rattle.index_loading.specs.Steps.{Place, close, on_byte, on_bytes, on_end, loaded_at}
use Rattle.index_loading.specs.Statements.{fresh, joined, after_parts, Loads}
use Rattle.index_loading.proofs.Bytes.{stays}

-- 1,025 bytes of a line decide it
enough : (line table : List ℕ) → index_line (take 1025 line) table ≡ index_line line table
unfolding index_line
enough line table = split (ltb 1024 (length line))
    (λ e. rw (e, lt-ltb 1024 (length (take 1025 line)) (omega (arith, ltb-true 1024 (length line) e, length-take 1025 line))))
    (λ e. rw (take_all 1025 line (omega (arith, ltb-false 1024 (length line) e))))

abbrev here : List ℕ → List ℕ → Place
here line table = record { line = take 1025 line; table = table; refusal = 0 }

-- a byte more of a line
more : (line table : List ℕ) (b : ℕ) → eqb b 0x0A ≡ false → on_byte (here line table) b ≡ here (line ++ b ∷ []) table
unfolding on_byte
more line table b e = split (ltb (length (take 1025 line)) 1025)
    (λ h.
    let short : length line < 1025 = omega (arith, ltb-true (length (take 1025 line)) 1025 h, length-take 1025 line) in
    rw (e, h) (ap (λ (l : List ℕ). record { line = l; table = table; refusal = 0 })
    (ap (λ (l : List ℕ). l ++ b ∷ []) (take_all 1025 line (omega arith)) ∙
    sym (take_all 1025 (line ++ b ∷ []) (rw length-append (omega arith))))))
    (λ h.
    let long : 1025 ≤ length line = omega (arith, ltb-false (length (take 1025 line)) 1025 h, length-take 1025 line) in
    rw (e, h) (ap (λ (l : List ℕ). record { line = l; table = table; refusal = 0 }) (sym (take-append-le 1025 line (b ∷ []) long))))

end_line : (line table : List ℕ) (b : ℕ) → eqb b 0x0A ≡ true → on_byte (here line table) b ≡ close (here line table)
unfolding on_byte
end_line line table b e = rw e

ended : (p : Place) (n : ℕ) → p.refusal ≡ n → (n ≡ 0 → ⊥) → loaded_at (on_end p) ≡ loaded_at p
unfolding on_end
ended p n q h = go (eqb p.refusal 0) refl
  where
    go : (b : Bool) → eqb p.refusal 0 ≡ b → loaded_at (b then close p else p) ≡ loaded_at p
    go true e = absurd (h (sym q ∙ eqb-true p.refusal 0 e))
    go false e = refl

-- a line closed
abbrev shut_by : List ℕ → List ℕ → Place
shut_by line table = record { line = []; table = (index_line line table).table; refusal = (index_line line table).answer.refusal }

from_here : (line table bs : List ℕ) → loaded_at (on_end (on_bytes (here line table) bs)) ≡ load_from line table bs
unfolding on_bytes on_end load_from
from_here line table [] = ap (λ (o : Outcome). record { refusal = o.answer.refusal; table = o.table }) (enough line table)
from_here line table (b ∷ bs) = go (eqb b 0x0A) refl (λ t. from_here [] t bs) (from_here (line ++ b ∷ []) table bs)
  where
    closes : close (here line table) ≡ shut_by line table
    closes = ap (λ (o : Outcome). record { line = []; table = o.table; refusal = o.answer.refusal }) (enough line table)

    at_end : (x : Bool) → eqb (index_line line table).answer.refusal 0 ≡ x → ((t : List ℕ) → loaded_at (on_end (on_bytes (here [] t) bs)) ≡ load_from [] t bs) →
        loaded_at (on_end (on_bytes (shut_by line table) bs)) ≡
        (x then load_from [] (index_line line table).table bs else record { refusal = (index_line line table).answer.refusal; table = (index_line line table).table })
    at_end true e ih = ap (λ (n : ℕ). loaded_at (on_end (on_bytes (record { line = []; table = (index_line line table).table; refusal = n }) bs)))
        (eqb-true (index_line line table).answer.refusal 0 e) ∙ ih (index_line line table).table
    at_end false e ih =
        let h = eqb-false (index_line line table).answer.refusal 0 e in
        ap (λ (p : Place). loaded_at (on_end p)) (stays (shut_by line table) bs h) ∙ ended (shut_by line table) (index_line line table).answer.refusal refl h

    go : (x : Bool) → eqb b 0x0A ≡ x → ((t : List ℕ) → loaded_at (on_end (on_bytes (here [] t) bs)) ≡ load_from [] t bs) →
        loaded_at (on_end (on_bytes (here (line ++ b ∷ []) table) bs)) ≡ load_from (line ++ b ∷ []) table bs →
        loaded_at (on_end (on_bytes (on_byte (here line table) b) bs)) ≡
        (x then (eqb (index_line line table).answer.refusal 0 then load_from []
        (index_line line table).table bs else record { refusal = (index_line line table).answer.refusal; table = (index_line line table).table }) else
        load_from (line ++ b ∷ []) table bs)
    go true e ih jh = ap (λ (p : Place). loaded_at (on_end (on_bytes p bs))) (end_line line table b e ∙ closes) ∙
        at_end (eqb (index_line line table).answer.refusal 0) refl ih
    go false e ih jh = ap (λ (p : Place). loaded_at (on_end (on_bytes p bs))) (more line table b e) ∙ jh

on_bytes-append : (p : Place) (xs ys : List ℕ) → on_bytes p (xs ++ ys) ≡ on_bytes (on_bytes p xs) ys
unfolding on_bytes
on_bytes-append p [] ys = refl
on_bytes-append p (x ∷ xs) ys = on_bytes-append (on_byte p x) xs ys

pub in_parts : (p : Place) (parts : List (List ℕ)) → after_parts p parts ≡ on_bytes p (joined parts)
unfolding after_parts joined on_bytes
in_parts p [] = refl
in_parts p (b ∷ bs) = in_parts (on_bytes p b) bs ∙ sym (on_bytes-append p b (joined bs))

pub loads : Loads
unfolding load_from index_line read front behind fits value bytes
loads = record {
  any_parts = λ table parts. ap (λ (p : Place). loaded_at (on_end p)) (in_parts (fresh table) parts) ∙ from_here [] table (joined parts);
  last_line = refl;
  bad = refl;
  twice = refl;
}
