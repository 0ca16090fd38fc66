-- The whole program: its first buffer has the label and the refusals of the whole input, and the table that a file fills fits. Assumes nothing.
use mathlib.Core.Path.{◌≡◌, refl, sym, ◌∙◌}
use mathlib.Core.Bool.{Bool, true, false}
use mathlib.Core.List.{List, [], ◌∷◌, ◌++◌}
use mathlib.Core.Option.{Option, some, none}
use Prim.Native.Nat.{ℕ, ◌≤◌, ◌<◌}
use native.Mathlib.Omega.{arith}
use lib.Dec.{ltb, eqb}
use lib.ListN.{length, replicate, length-replicate}
use borrow.Author.Tests.{lt-ltb, le-ltb, eq-eqb, eqb-true, ltb-true, ltb-false}
use Rattle.standard.specs.Base.{◌then◌else◌}
use Rattle.standard.specs.Encodings.{family, traits, Tables, lent, no_tables, second_fits, fits}
use Rattle.standard.proofs.Families.{by_family}
use Rattle.standard.proofs.Tests.{split}
use Rattle.labels_spec.specs.Labels.{label}
use Rattle.index_spec.specs.IndexCall.{index_line}
use Rattle.index_spec.proofs.Call.{table_kept}
use Rattle.decoder.specs.Calls.{opening}
use Rattle.replacements_spec.specs.Statements.{Piece, joined}
use Rattle.index_loading.specs.Loading.{Loaded, load_from, loading}
use Rattle.program_text.specs.Lines.{first_line, after_line, label_refusal}
use Rattle.program_text.proofs.FirstLine.{line_longer, after_few, line_cut, known_below}
use Rattle.mend_spec.specs.Mended.{Streams, refuses, mended_text, encoding_refusal, cells_of, by_table, by_file, begin_refusal, mended}
use Rattle.mend_spec.specs.Program.{text_by, behind_line, with_table, with_file, program}
use Rattle.mend_spec.specs.Statements.{Roomy}

-- what a file makes of a table keeps its cells' number
loaded_length : (line table bs : List ℕ) → length (load_from line table bs).table ≡ length table
unfolding load_from
loaded_length line table [] = table_kept line table
loaded_length line table (b ∷ bs) =
    go (loaded_length [] (index_line line table).table bs) (loaded_length (line ++ b ∷ []) table bs) (eqb b 0x0A)
    (eqb (index_line line table).answer.refusal 0)
  where
    go : length (load_from [] (index_line line table).table bs).table ≡ length (index_line line table).table →
        length (load_from (line ++ b ∷ []) table bs).table ≡ length table → (x y : Bool) →
        length (x then (y then load_from [] (index_line line table).table bs else
        record { refusal = (index_line line table).answer.refusal; table = (index_line line table).table }) else
        load_from (line ++ b ∷ []) table bs).table ≡ length table
    go f g true true = f ∙ table_kept line table
    go f g true false = table_kept line table
    go f g false y = g

-- an encoding that is taken is lent no second table
second_none : (e : ℕ) → encoding_refusal e ≡ 0 → second_fits (traits (family e)).second 0 ≡ true
unfolding traits encoding_refusal
second_none e h = by_family (λ f. second_fits (traits f).second 0 ≡ true) e (record {
  c0 = λ q. refl;
  c21 = λ q. refl;
  c1_28 = λ q r n. refl;
  c29_30 = λ q r. refl;
  c31 = λ q. refl;
  c32 = λ q. let z : ◌≡◌ {A = ℕ} 4 0 = rw q at h in absurd (omega (arith, z));
  c33 = λ q. refl;
  c34 = λ q. refl;
  c35 = λ q. refl;
  c36 = λ q. refl;
  c37 = λ q. refl;
  c38 = λ q. refl;
  c39 = λ q. refl;
})

pub first_fits : (e : ℕ) (xs : List ℕ) → encoding_refusal e ≡ 0 → length xs ≡ cells_of e → fits (family e) (lent xs []) ≡ true
unfolding fits
first_fits e xs h l = rw (eq-eqb (length xs) (traits (family e)).first l, second_none e h)

-- no refusal: a known label, of an encoding that is taken
pub begun : (r a : ℕ) → (eqb r 0 then a else 1) ≡ 0 → (r ≡ 0) × (a ≡ 0)
begun r a h = go (eqb r 0) refl h
  where
    go : (b : Bool) → eqb r 0 ≡ b → (b then a else 1) ≡ 0 → (r ≡ 0) × (a ≡ 0)
    go true e z = (eqb-true r 0 e, z)
    go false e z = absurd (omega (arith, z))

-- The text of buffers is that of the whole; `proofs/Buffers.antt` has it.
abbrev pub TextWhole : Type 0
TextWhole = (t : Tables) (e : ℕ) (ps : List Piece) (room spans : List ℕ) → e ≤ 39 → fits (family e) t ≡ true → Roomy ps room spans →
    text_by t (opening e 0 0).decoder ps room spans ≡ mended_text t e (joined ps)

module _ (whole_text : TextWhole) (file : Option (List ℕ)) (first : Piece) (ps : List Piece) (room spans : List ℕ)
    (c : length first.chunk < 256 → ps ≡ []) (g : Roomy (first ∷ ps) room spans) where
  abbrev xs : List ℕ
  xs = first.chunk

  abbrev e : ℕ
  e = (label (first_line xs)).encoding

  abbrev text : Tables → Streams
  text t = text_by t (opening e 0 0).decoder (behind_line first ∷ ps) room spans

  roomy : Roomy (behind_line first ∷ ps) room spans
  unfolding Roomy
  roomy = (omega (arith, after_few xs, g.0), omega (arith, after_few xs, g.1), omega (arith, after_few xs, g.2), g.3)

  -- a first line that is too long is so in the whole input
  long : 255 < length (first_line xs) → program file first ps room spans ≡ mended file (xs ++ joined ps)
  unfolding program mended
  long l = rw (
    lt-ltb 255 (length (first_line xs)) l,
    lt-ltb 255 (length (first_line (xs ++ joined ps))) (omega (arith, l, line_longer xs (joined ps))),
  )

  module _ (few : length (first_line xs) ≤ 255) where
    none_behind : length xs < 256 → joined ps ≡ []
    unfolding joined
    none_behind l = rw (c l)

    abbrev cut : (first_line (xs ++ joined ps) ≡ first_line xs) × (after_line (xs ++ joined ps) ≡ after_line xs ++ joined ps)
    cut = line_cut xs (joined ps) none_behind few

    abbrev rest : List ℕ
    rest = after_line xs ++ joined ps

    module _ (z : begin_refusal xs ≡ 0) where
      known : e ≤ 39
      known =
          let r : label_refusal xs ≡ 0 = (begun (label_refusal xs) (encoding_refusal e) z).0 in
          let q : (label (first_line xs)).refusal ≡ 0 = rw (le-ltb 255 (length (first_line xs)) few) at r in
          known_below (first_line xs) (λ n. omega (arith, q, n))

      taken : encoding_refusal e ≡ 0
      taken = (begun (label_refusal xs) (encoding_refusal e) z).1

      text_is : (t : Tables) → fits (family e) t ≡ true → text t ≡ mended_text t e rest
      unfolding joined
      text_is t f = whole_text t e (behind_line first ∷ ps) room spans known f roomy

      by_loaded : (l : Loaded) → length l.table ≡ cells_of e → with_table l text ≡ by_table e rest l
      by_loaded l n = split (eqb l.refusal 0)
          (λ q. rw q (text_is (lent l.table []) (first_fits e l.table taken n)))
          (λ q. rw q)

      by_lent : (f : Option (List ℕ)) → with_file e f text ≡ by_file e rest f
      by_lent none = refl
      by_lent (some f) =
          by_loaded (loading (replicate (cells_of e) 0) f) (loaded_length [] (replicate (cells_of e) 0) f ∙ length-replicate (cells_of e) 0)

      accepted : (eqb (cells_of e) 0 then text no_tables else with_file e file text) ≡
          (eqb (cells_of e) 0 then mended_text no_tables e rest else by_file e rest file)
      accepted = split (eqb (cells_of e) 0)
          (λ q. rw q (text_is no_tables (first_fits e [] taken (sym (eqb-true (cells_of e) 0 q)))))
          (λ q. rw q (by_lent file))

    short : program file first ps room spans ≡ mended file (xs ++ joined ps)
    unfolding program mended
    short = rw (cut.0, cut.1) (go (eqb (begin_refusal xs) 0) refl)
      where
        go : (b : Bool) → eqb (begin_refusal xs) 0 ≡ b →
            (b then (eqb (cells_of e) 0 then text no_tables else with_file e file text) else refuses (begin_refusal xs)) ≡
            (b then (eqb (cells_of e) 0 then mended_text no_tables e rest else by_file e rest file) else refuses (begin_refusal xs))
        go true q = accepted (eqb-true (begin_refusal xs) 0 q)
        go false q = refl

  pub whole_program : program file first ps room spans ≡ mended file (xs ++ joined ps)
  whole_program = split (ltb 255 (length (first_line xs)))
      (λ q. long (ltb-true 255 (length (first_line xs)) q))
      (λ q. short (ltb-false 255 (length (first_line xs)) q))
