-- What an encoder answers for one scalar, at the front of any bytes, is one sequence that gives its image: what the encodings share.
-- Assumes nothing.
use mathlib.Core.Path.{◌≡◌, refl, ◌∙◌}
use mathlib.Core.Bool.{Bool, true, false}
use mathlib.Core.List.{List, ◌∷◌, ◌++◌}
use mathlib.Core.Option.{Option, some, none}
use Prim.Native.Nat.{ℕ, ◌*◌, ◌≤◌, ◌<◌}
use native.Mathlib.Omega.{arith}
use lib.Dec.{eqb}
use lib.ListN.{length, get_or}
use borrow.Author.Tests.{eqb-true, ne_eqb}
use Rattle.standard.specs.Base.{◌then◌else◌, mapped}
use Rattle.standard.specs.Encodings.{Family, Tables, traits, second_fits, fits}
use Rattle.standard.specs.Indexes.{index_code_point}
use Rattle.standard.specs.Machine.{Result, tokens, error_with}
use Rattle.standard.specs.Sequence.{Next, scalar, cell, pair}
use Rattle.standard.specs.Search.{PassedOver, passed, Side, Lookup, Sound}
use Rattle.standard.specs.Layouts.{Layout, leads, trails, pointer_of, lead_of, trail_of, two_bytes}
use Rattle.standard.specs.Encoders.Pairs.{pair_or}
use Rattle.standard.proofs.Tests.{and_left}
use Rattle.standard.proofs.Laws.{mapped_real}
use Rattle.standard.proofs.Layouts.{Regular, two_bytes_lem}

-- The bytes of the answer r, and any after them, are to the decoder n one sequence of just their width that gives d.
pub record ReadsBack (n : List ℕ → Next) (d : ℕ) (r : Result) : Type 0 where
  pub reads : (bs : List ℕ) → r ≡ tokens bs → (ys : List ℕ) → n (bs ++ ys) ≡ scalar (length bs) d

module _ {n : List ℕ → Next} {d : ℕ} where
  pub by_bytes : (bs : List ℕ) → ((ys : List ℕ) → n (bs ++ ys) ≡ scalar (length bs) d) → ReadsBack n d (tokens bs)
  by_bytes bs h = record { reads = λ bs' e ys. let q : bs' ≡ bs = cc in rw q (h ys) }

  pub no_bytes : (c : ℕ) → ReadsBack n d (error_with c)
  no_bytes c = record { reads = λ bs e. let z : ◌≡◌ {A = ℕ} 0 1 = cc in absurd (omega arith) }

-- a cell whose index code point is c
pub cell_of_lem : (index : List ℕ) (p c : ℕ) → index_code_point index p ≡ some c → (cell index p ≡ c) × (0x80 ≤ c)
unfolding index_code_point cell
cell_of_lem index p c h = go (mapped (get_or index p 0)) refl h
  where
    go : (t : Bool) → mapped (get_or index p 0) ≡ t → ◌≡◌ {A = Option ℕ} (t then some (get_or index p 0) else none) (some c) →
        ((t then get_or index p 0 else 0) ≡ c) × (0x80 ≤ c)
    go true m e = let q : get_or index p 0 ≡ c = cc in (q, omega (arith, mapped_real (get_or index p 0) m))
    go false m e = let z : ◌≡◌ {A = ℕ} 0 1 = cc in absurd (omega arith)

-- What a decoder n must do with a lead and a trail byte of its layout, at the pointers that the encoder may write.
pub record ReadsPairs (n : List ℕ → Next) (y : Layout) (over : PassedOver) (index : List ℕ) : Type 0 where
  pub regular : Regular y
  pub in_rows : (p : ℕ) → p < length index → passed over p ≡ false → p < y.rows * y.divisor
  pub pairs : (b c p : ℕ) (ys : List ℕ) → leads y b ≡ true → trails y c ≡ true → pointer_of y b c ≡ p → passed over p ≡ false →
      n (b ∷ c ∷ ys) ≡ pair c (cell index p)

-- Every pointer that a sound look-up gives is written as two bytes that read back, by the law of the layout. Without one the answer is
-- `other`.
pub by_lookup : {n : List ℕ → Next} {y : Layout} {over : PassedOver} {index : List ℕ} → ReadsPairs n y over index →
    {look : Lookup} → Sound look index → (side : Side) (c : ℕ) {other : Result} → ReadsBack n c other →
    ReadsBack n c (pair_or y (look side over c) other)
by_lookup {n} {y} {over} {index} R {look} S side c {other} B = go (look side over c) refl
  where
    go : (o : Option ℕ) → look side over c ≡ o → ReadsBack n c (pair_or y o other)
    go none e = B
    go (some p) e =
        let f = S.sound side over c p e in
        let x = cell_of_lem index p c f.code in
        let w = two_bytes_lem y p R.regular (R.in_rows p f.inside f.searched) in
        by_bytes (two_bytes y p) (λ ys. R.pairs (lead_of y p) (trail_of y p) p ys w.lead_fits w.trail_fits w.back f.searched ∙
        rw (x.0, ne_eqb c 0 (λ z. omega (arith, x.1))))

-- A first table that fits.
pub first_fits : (f : Family) (t : Tables) → fits f t ≡ true → length t.first ≤ (traits f).first
unfolding fits
first_fits f t h =
    let e = and_left (eqb (length t.first) (traits f).first) (second_fits (traits f).second (length t.second)) h in
    omega (arith, eqb-true (length t.first) (traits f).first e)
