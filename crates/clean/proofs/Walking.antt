-- The walk over the parts of a list: what was not reported so far leaves the answer to the rest, however that is cut. From the
-- promises of `demands` alone. Assumes nothing.
use mathlib.Core.Path.{◌≡◌, refl, sym, ap, ◌∙◌}
use mathlib.Core.Bool.{true, false}
use mathlib.Core.List.{List, [], ◌∷◌, ◌++◌, append-nil}
use Prim.Native.Nat.{ℕ, ◌+◌, ◌≤◌}
use native.Mathlib.Omega.{arith}
use lib.Dec.{eqb, lit≤}
use lib.ListN.{length, length-append}
use borrow.Author.Tests.{ne_eqb}
use Rattle.standard.specs.Encodings.{Tables}
use Rattle.decoder.specs.Calls.{opening, feeding, finishing}
use Rattle.decoder.specs.declared.Answer.{Answer}
use Rattle.decoder.specs.declared.Decoder.{Decoder}
use Rattle.demands.specs.Histories.{History, noted, start}
use Rattle.demands.specs.Statements.{Piece, joined, cutting, reports, Roomy}
use Rattle.demands.proofs.Theorems.{demand_2}
use Rattle.clean.specs.Checking.{check_refusal, faulty, clean, checking}
use Rattle.clean.specs.Statements.{told}
use Rattle.clean.specs.declared.Checked.{Checked}
use Rattle.clean.proofs.Theorems.{accepted, checks}

-- Some calls led to the decoder d, without a report. The rest, cut anywhere, with room enough: its reports tell the answer.
pub record Walked (t : Tables) (answer : Checked) (rest : List ℕ) (d : Decoder) : Type 0 where
  pub history : History
  pub stands : history.decoder ≡ d
  pub tells : (ps : List Piece) (last : List ℕ) → joined ps ≡ rest → Roomy ps last → answer ≡ told (reports history (cutting t ps last))

-- an opening: all is left
pub walked_none : (e : ℕ) (t : Tables) (xs : List ℕ) → check_refusal e t xs ≡ 0 → Walked t (checking e t xs) xs (opening e 1 0).decoder
unfolding start
walked_none e t xs h = record {
  history = start e 1 0;
  stands = refl;
  tells = λ ps last j r.
      let a = accepted e t xs h in
      (checks e t xs h).by_calls ps last j
      ((demand_2 t e 1 0 a.opens).rooms_suffice ps last a.fit (rw j (omega (arith, a.few))) r);
}

module _ (t : Tables) (answer : Checked) (d : Decoder) (chunk room rest : List ℕ) (w : Walked t answer (chunk ++ rest) d)
    (few : length chunk ≤ 65536) (fits : length chunk + 3 ≤ length room) (a : Answer) (k : a ≡ (feeding d t chunk room).answer) where
  is : (feeding w.history.decoder t chunk room).answer ≡ a
  is = ap (λ (d : Decoder). (feeding d t chunk room).answer) w.stands ∙ sym k

  -- a feed without a report
  pub walked_on : (a.refusal ≡ 11 → ⊥) → Walked t answer rest a.decoder
  unfolding reports cutting joined Roomy
  walked_on n = record {
    history = noted w.history chunk (feeding w.history.decoder t chunk room);
    stands = ap (λ (a : Answer). a.decoder) is;
    tells = λ ps last j r.
        let none : eqb (feeding w.history.decoder t chunk room).answer.refusal 11 ≡ false = rw is (ne_eqb a.refusal 11 n) in
        w.tells (record { chunk = chunk; room = room } ∷ ps) last (rw j) (few, fits, r) ∙ rw none;
  }

  -- a feed with a report; behind it the rest may be one part
  pub walked_fault : length rest ≤ 65536 → a.refusal ≡ 11 → answer ≡ faulty a.place a.line
  unfolding reports cutting joined Roomy
  walked_fault small q =
      let three : List ℕ = 0 ∷ 0 ∷ 0 ∷ [] in
      let last : Piece = record { chunk = rest; room = rest ++ three } in
      let one : eqb (feeding w.history.decoder t chunk room).answer.refusal 11 ≡ true = rw (is, q) in
      w.tells (record { chunk = chunk; room = room } ∷ last ∷ []) three (rw (append-nil rest))
      (few, fits, (small, omega (arith, length-append rest three), lit≤ tt)) ∙ rw one (ap (λ (a : Answer). faulty a.place a.line) is)

-- the finish: nothing is left
module _ (t : Tables) (answer : Checked) (d : Decoder) (room : List ℕ) (w : Walked t answer [] d) (fits : 3 ≤ length room)
    (a : Answer) (k : a ≡ (finishing d t room).answer) where
  end_is : (finishing w.history.decoder t room).answer ≡ a
  end_is = ap (λ (d : Decoder). (finishing d t room).answer) w.stands ∙ sym k

  pub walked_end_fault : a.refusal ≡ 11 → answer ≡ faulty a.place a.line
  unfolding reports cutting joined Roomy
  walked_end_fault q =
      let one : eqb (finishing w.history.decoder t room).answer.refusal 11 ≡ true = rw (end_is, q) in
      w.tells [] room refl fits ∙ rw one (ap (λ (a : Answer). faulty a.place a.line) end_is)

  pub walked_clean : (a.refusal ≡ 11 → ⊥) → answer ≡ clean
  unfolding reports cutting joined Roomy
  walked_clean n =
      let none : eqb (finishing w.history.decoder t room).answer.refusal 11 ≡ false = rw end_is (ne_eqb a.refusal 11 n) in
      w.tells [] room refl fits ∙ rw none
