-- The whole program: the first buffer, the table, and the text. Assumes nothing.
use Rattle.std.proofs.Common.{◌≡◌, refl, sym, ap, ◌∙◌, subst, ℕ, ◌≤◌, ◌<◌, ◌⊎◌, true, List, [], ◌∷◌, ◌++◌, length, take, replicate, length-take-le, arith, Option, None, Some, IfSome}
use Rattle.std.proofs.Math.Dec.{ltb, eqb}
use Rattle.std.proofs.Math.Option.{some, none}
use Rattle.std.proofs.Math.Option.{Option as Optional}
use Rattle.std.specs.Io.KnownBytes.{Appends, Consumes, IsAtEnd}
use Rattle.std.proofs.KnownBytes.{Appends-nil}
use mathlib.Core.Logic.{⊎_elim}
use Rattle.std.proofs.lemmas.List.{take-replicate}
use borrow.Author.Tests.{eq-eqb, ne_eqb, ltb-true, ltb-false, eqb-true, eqb-false}
use Rattle.standard.specs.Encodings.{Tables, family, fits, lent, no_tables}
use Rattle.standard.proofs.Tests.{split}
use Rattle.labels_spec.specs.Labels.{label}
use Rattle.decoder.specs.Calls.{opening}
use Rattle.replacements_spec.specs.Statements.{Piece, joined}
use Rattle.index_loading.specs.Loading.{loading}
use Rattle.program_text.specs.Lines.{first_line, after_line, label_refusal, refused}
use Rattle.program_text.proofs.FirstLine.{after_few, known_below}
use Rattle.mend_spec.specs.Mended.{Streams, refuses, mended_text, encoding_refusal, cells_of, begin_refusal, mended}
use Rattle.mend_spec.specs.Program.{text_by, behind_line, program}
use Rattle.mend_spec.specs.Statements.{Roomy}
use Rattle.mend_spec.proofs.Whole.{first_fits, begun}
use Rattle.mend_spec.proofs.Theorems.{mends}
use Rattle.mend.specs.Steps.{Written, Suits, Taken}
use Rattle.mend.specs.Files.{Fills}
use Rattle.mend.specs.Whole.{Provided, WritesMended}
use Rattle.mend.proofs.Runs.{cut, with_piece, joined_piece}

-- Behind a read of some bytes of an input that is known.
pub read_known : (r₀ r₁ : Option (List ℕ)) (n full : ℕ) (b : List ℕ) (Q : List ℕ → Type 0) → Consumes r₀ r₁ b → (n < full → IsAtEnd r₁) →
    ((rest : List ℕ) → r₁ ≡ Some rest → (n < full → rest ≡ []) → Q (b ++ rest)) → IfSome r₀ Q
read_known None r₁ n full b Q c e f = tt
read_known (Some all) None n full b Q c e f = absurd c
read_known (Some all) (Some rest) n full b Q c e f = subst Q (sym c) (f rest refl e)

-- A first buffer, and the rest of the input.
module _ {full : ℕ} {room spans : List ℕ} (r : Suits full room spans) (b rest : List ℕ) (few : length b ≤ full) (whole : length b < 256 → rest ≡ []) where
  abbrev first : Piece
  first = record { chunk = b; room = room; spans = spans }

  abbrev Parts : Type 0
  Parts = (ps : List Piece) × Roomy ps room spans × (joined ps ≡ rest) × (length b < 256 → ps ≡ [])

  parts : Parts
  unfolding joined Roomy
  parts = split (ltb (length b) 256)
      (λ e. ([], (omega (arith, r.scalars), omega (arith, r.told)), sym (whole (ltb-true (length b) 256 e)), λ _. refl))
      (λ e. let c = cut full room spans r.low r.high r.scalars r.told rest in let h = ltb-false (length b) 256 e in (c.0, c.1, c.2, λ k. absurd (omega (arith, h, k))))

  abbrev ps : List Piece
  ps = parts.0

  as_program : (file : Optional (List ℕ)) → mended file (b ++ rest) ≡ program file first ps room spans
  as_program file = ap (λ l. mended file (b ++ l)) (sym parts.2) ∙ sym (mends.whole file first ps room spans parts.3 (with_piece b r few ps room spans parts.1))

  pub by_refusal : (file : Optional (List ℕ)) → (begin_refusal b ≡ 0 → ⊥) → mended file (b ++ rest) ≡ refuses (begin_refusal b)
  unfolding program
  by_refusal file z = as_program file ∙ rw (ne_eqb (begin_refusal b) 0 z) refl

  module _ (z : begin_refusal b ≡ 0) where
    abbrev e : ℕ
    e = (label (first_line b)).encoding

    accepted : (label_refusal b ≡ 0) × (encoding_refusal e ≡ 0)
    accepted = begun (label_refusal b) (encoding_refusal e) z

    pub known : e ≤ 39
    known = split (ltb 255 (length (first_line b)))
        (λ l. let one : 1 ≡ label_refusal b = rw l refl in absurd (omega (arith, one, accepted.0)))
        (λ l. let zero : (label (first_line b)).refusal ≡ 0 = rw l at accepted.0 in known_below (first_line b) (λ q. omega (arith, q, zero)))

    pub suits : (table : List ℕ) → length table ≡ cells_of e → fits (family e) (lent table []) ≡ true
    suits table n = first_fits e table accepted.1 n

    text : (t : Tables) → fits (family e) t ≡ true → text_by t (opening e 0 0).decoder (behind_line first ∷ ps) room spans ≡ mended_text t e (after_line b ++ rest)
    text t f =
        mends.text t e (behind_line first ∷ ps) room spans known f (with_piece (after_line b) r (omega (arith, after_few b, few)) ps room spans parts.1) ∙
        ap (mended_text t e) (joined_piece (after_line b) room spans ps ∙ ap (λ l. after_line b ++ l) parts.2)

    pub by_none : (file : Optional (List ℕ)) → cells_of e ≡ 0 → mended file (b ++ rest) ≡ mended_text (lent [] []) e (after_line b ++ rest)
    unfolding program
    by_none file q = as_program file ∙ rw (eq-eqb (begin_refusal b) 0 z, eq-eqb (cells_of e) 0 q) (text no_tables (suits [] (sym q)))

    module _ (some_cells : cells_of e ≡ 0 → ⊥) where
      pub by_no_file : mended none (b ++ rest) ≡ refuses 4
      unfolding program
      by_no_file = as_program none ∙ rw (eq-eqb (begin_refusal b) 0 z, ne_eqb (cells_of e) 0 some_cells) refl

      module _ (file : List ℕ) {number : ℕ} {table : List ℕ} (l : loading (replicate (cells_of e) 0) file ≡ record { refusal = number; table = table }) where
        pub by_fault : (number ≡ 0 → ⊥) → mended (some file) (b ++ rest) ≡ refuses number
        unfolding program
        by_fault q = as_program (some file) ∙ rw (eq-eqb (begin_refusal b) 0 z, ne_eqb (cells_of e) 0 some_cells, l, ne_eqb number 0 q) refl

        pub by_loaded : number ≡ 0 → length table ≡ cells_of e → mended (some file) (b ++ rest) ≡ mended_text (lent table []) e (after_line b ++ rest)
        unfolding program
        by_loaded q n = as_program (some file) ∙
            rw (eq-eqb (begin_refusal b) 0 z, ne_eqb (cells_of e) 0 some_cells, l, eq-eqb number 0 q) (text (lent table []) (suits table n))

refuses_only : {w e e' : Option (List ℕ)} {s : Streams} (number : ℕ) → s ≡ refuses number → Appends e e' (refused number) → Written w w e e' s
refuses_only {w} {e} {e'} number q a = subst (Written w w e e') (sym q) (record { text = Appends-nil w; lines = a })

-- The first buffer: b is its bytes, of the known input.
module _ (r₀ r₁ w w' e e' : Option (List ℕ)) (full n cells : ℕ) (line table room spans b : List ℕ) (read : Consumes r₀ r₁ b) (end : n < full → IsAtEnd r₁)
    (size : length b ≡ n) (few : n ≤ full) where
  abbrev Mends : List ℕ → Type 0
  Mends input = Provided full line table room spans → WritesMended w w' e e' input

  first_whole : {rest : List ℕ} → Provided full line table room spans → (n < full → rest ≡ []) → length b < 256 → rest ≡ []
  first_whole p short k = short (omega (arith, k, size, p.label))

  abbrev enc : ℕ
  enc = (label (first_line b)).encoding

  -- It is refused.
  pub refused_first : w' ≡ w → {number : ℕ} → number ≡ begin_refusal b → (number ≡ 0 → ⊥) → Appends e e' (refused number) → IfSome r₀ Mends
  refused_first same {number} q z a = read_known r₀ r₁ n full b Mends read end (λ rest is short p. record {
    file = none;
    written = rw same (refuses_only number (by_refusal p.rooms b rest (omega (arith, size, few)) (first_whole p short) none (λ k. z (q ∙ k)) ∙ ap refuses (sym q)) a);
  })

  module _ (zero : begin_refusal b ≡ 0) (known_cells : cells ≡ cells_of enc) (within : cells ≤ length table) {number : ℕ} {after : List ℕ}
      (empty : length (take cells table) ≡ 0 → (number ≡ 0) × (after ≡ take cells table))
      (file : 0 < length (take cells table) → (number ≡ 4) ⊎ Fills line (take cells table) number after) where
    cells_size : length (take cells table) ≡ cells
    cells_size = length-take-le cells table within

    free : Provided full line table room spans → take cells table ≡ replicate (cells_of enc) 0
    free p = ap (take cells) p.free ∙ take-replicate cells (length table) 0 within ∙ ap (λ k. replicate k 0) known_cells

    filled : Provided full line table room spans → (f : Fills line (take cells table) number after) → loading (replicate (cells_of enc) 0) f.file ≡ record { refusal = number; table = after }
    filled p f = ap (λ t. loading t f.file) (sym (free p)) ∙ f.loaded p.kept

    some_cells : 0 < cells → cells_of enc ≡ 0 → ⊥
    some_cells k q = omega (arith, k, q, known_cells)

    -- Its table is refused.
    pub refused_table : w' ≡ w → (number ≡ 0 → ⊥) → Appends e e' (refused number) → IfSome r₀ Mends
    refused_table same z a = read_known r₀ r₁ n full b Mends read end (λ rest is short p.
        let many : 0 < cells = split (eqb cells 0)
        (λ q. absurd (z (empty (cells_size ∙ eqb-true cells 0 q)).0))
        (λ q. let k = eqb-false cells 0 q in omega (arith, k)) in
        let whole = first_whole p short in
        let fits : length b ≤ full = omega (arith, size, few) in
        ⊎_elim
        (λ four. record {
          file = none;
          written = rw same (refuses_only number (by_no_file p.rooms b rest fits whole zero (some_cells many) ∙ ap refuses (sym four)) a);
        })
        (λ f. record {
          file = some f.file;
          written = rw same (refuses_only number (by_fault p.rooms b rest fits whole zero (some_cells many) f.file (filled p f) z) a);
        })
        (file (omega (arith, many, cells_size))))

    -- The text is mended.
    pub text_mended : number ≡ 0 → length after ≡ cells → (encoding : ℕ) → encoding ≡ enc →
        IfSome r₁ (λ rest. Taken encoding after × Suits full room spans × (n < full → rest ≡ []) →
        Written w w' e e' (mended_text (lent after []) encoding (after_line b ++ rest))) → IfSome r₀ Mends
    text_mended z all encoding q k = read_known r₀ r₁ n full b Mends read end (λ rest is short p.
        let whole = first_whole p short in
        let fits : length b ≤ full = omega (arith, size, few) in
        let lent_size : length after ≡ cells_of enc = all ∙ known_cells in
        let taken : Taken encoding after = rw q (record { known = known p.rooms b rest fits whole zero; suits = suits p.rooms b rest fits whole zero after lent_size }) in
        let written : Written w w' e e' (mended_text (lent after []) enc (after_line b ++ rest)) = rw q at (rw is at k (taken, p.rooms, short)) in
        split (eqb cells 0)
        (λ c. let none_left = eqb-true cells 0 c in
        let nothing : after ≡ [] = (empty (cells_size ∙ none_left)).1 ∙ ap (λ j. take j table) none_left in
        record {
          file = none;
          written = rw (by_none p.rooms b rest fits whole zero none (sym known_cells ∙ none_left)) (rw nothing at written);
        })
        (λ c. let many : 0 < cells = let v = eqb-false cells 0 c in omega (arith, v) in
        ⊎_elim
        (λ four. absurd (omega (arith, z, four)))
        (λ (f : Fills line (take cells table) number after). record {
          file = some f.file;
          written = subst (Written w w' e e') (sym (by_loaded p.rooms b rest fits whole zero (some_cells many) f.file (filled p f) z lent_size)) written;
        })
        (file (omega (arith, many, cells_size)))))
