-- The call with an index beside the writer's call. Assumes nothing.
use mathlib.Core.Path.{◌≡◌, refl, ap, ◌∙◌}
use mathlib.Core.Bool.{Bool, true, false, not}
use mathlib.Core.List.{List, []}
use mathlib.Core.Option.{Option, some, none}
use Prim.Native.Nat.{ℕ, ◌+◌, ◌≤◌}
use native.Mathlib.Omega.{arith}
use lib.Dec.{ltb, eqb}
use lib.ListN.{length}
use borrow.Author.Tests.{eqb-true, lt-ltb, eq-eqb}
use Rattle.standard.specs.Base.{◌then◌else◌, scalars}
use Rattle.standard.specs.Encodings.{Family, traits, second_fits, Tables, lent}
use Rattle.standard.specs.Encodings.{fits as tables_fit}
use Rattle.standard.specs.Search.{Lookup, searching}
use Rattle.standard.specs.Writers.{Writer, writer_of, reader, lent_katakana, writer_fits}
use Rattle.standard.specs.Ones.{One}
use Rattle.standard.proofs.Tests.{choose, and_left}
use Rattle.encoder_spec.specs.Writing.{Fault, Writing, writing}
use Rattle.encoder_spec.specs.Writer.{Outcome, refuse, answer_of, write, write_accepted, one_by, write_by, call_by, writer_call}
use Rattle.encoder_spec.specs.Calls.{Piece, accepted}
use Rattle.encoder_spec.specs.declared.Written.{Written}
use Rattle.encoder_spec.proofs.Calls.{cut_by}
use Rattle.encoder_spec.proofs.Rooms.{room_kept}
use Rattle.reverse_index_spec.specs.ReverseIndex.{True, fits, look_up}
use Rattle.reverse_index_spec.proofs.LookUp.{look_up-true}
use Rattle.reverse_index_spec.proofs.Theorems.{looks_up}
use Rattle.indexed_writing.specs.Call.{indexed_call, indexed_calls}
use Rattle.indexed_writing.specs.Statements.{SameShape, before15, IndexedCall, CutIndexed}
use Rattle.indexed_writing.proofs.Theorems.{alike}

-- A first table that fits is short: its true index has the right length.
few : (f : Family) → (traits f).first ≤ 23940
unfolding traits
few Family.UTF-8 = omega arith
few Family.single-byte = omega arith
few Family.windows-1252 = omega arith
few Family.GB18030 = omega arith
few Family.Big5 = omega arith
few Family.EUC-JP = omega arith
few Family.ISO-2022-JP = omega arith
few Family.Shift-JIS = omega arith
few Family.EUC-KR = omega arith
few Family.Replacement = omega arith
few Family.UTF-16BE = omega arith
few Family.UTF-16LE = omega arith
few Family.x-user-defined = omega arith

first_few : (f : Family) (t : Tables) → tables_fit f t ≡ true → length t.first ≤ 23940
unfolding tables_fit
first_few f t h =
    let e = eqb-true (length t.first) (traits f).first
    (and_left (eqb (length t.first) (traits f).first) (second_fits (traits f).second (length t.second)) h) in
    omega (arith, e, few f)

fit_few : (w : Writer) (t : Tables) → writer_fits w t ≡ true → length t.first ≤ 23940
fit_few w t = choose (λ b. b ≡ true → length t.first ≤ 23940) (lent_katakana w)
    (λ _ f. first_few (reader w) (lent t.first []) (and_left (tables_fit (reader w) (lent t.first [])) (eqb (length t.second) 63) f))
    (λ _ f. first_few (reader w) t f)

module _ (m s : ℕ) (t : Tables) (cs room : List ℕ) where
  -- two writers of single scalars whose writings have one shape are answered alike
  same_answer : {w v : Writing} → SameShape w v → (write w room).answer ≡ (write v room).answer
  same_answer h = λ i. answer_of (h.lengths i) (h.states i) (h.reports i)

  same_accepted : (one one' : ℕ → ℕ → One) → SameShape (writing one m s cs) (writing one' m s cs) →
      (write_accepted one m s cs room).answer ≡ (write_accepted one' m s cs room).answer
  same_accepted one one' h =
      go (ltb 16384 (length cs)) (scalars cs) (ltb (length room) (length w.bytes)) (ltb (length room) (length v.bytes))
      (ap (ltb (length room)) h.lengths)
    where
      w : Writing
      w = writing one m s cs

      v : Writing
      v = writing one' m s cs

      by : Bool → Bool → Bool → Writing → Written
      by a b d x =
          (a then refuse 8 s room else not b then refuse 10 s room else d then refuse 7 s room else write x room).answer

      go : (a b d d' : Bool) → d ≡ d' → by a b d w ≡ by a b d' v
      go true b d d' e = refl
      go false false d d' e = refl
      go false true true true e = refl
      go false true false false e = same_answer h
      go false true true false e = let z : ◌≡◌ {A = ℕ} 0 1 = cc in absurd (omega arith)
      go false true false true e = let z : ◌≡◌ {A = ℕ} 0 1 = cc in absurd (omega arith)

  module _ (index : List ℕ) where
    abbrev right : Bool
    right = fits (length t.first) (length index)

    abbrev look : Lookup
    look = look_up t.first index

    -- by the true index: the search
    same_look : True t.first index → look ≡ searching t.first
    same_look tr = λ i side over c. look_up-true t.first index side over c tr i

    true_fits : True t.first index → length t.first ≤ 23940 → right ≡ true
    unfolding fits
    true_fits tr h =
        rw (lt-ltb (length t.first) 0x100000000 (omega arith), eq-eqb (length index) (length t.first + length t.first) tr.size)

    -- what is written behind 9
    abbrev plainly : Option Writer → Outcome
    plainly o = write_by (searching t.first) true o m s t cs room

    by_true_index : True t.first index → (o : Option Writer) → write_by look right o m s t cs room ≡ plainly o
    by_true_index tr none = refl
    by_true_index tr (some w) = go (writer_fits w t) refl
      where
        go : (b : Bool) → writer_fits w t ≡ b →
            (b then (right then write_accepted (one_by w look t) m s cs room else refuse 15 s room) else refuse 4 s room) ≡
            (b then write_accepted (one_by w (searching t.first) t) m s cs room else refuse 4 s room)
        go true e = rw (true_fits tr (fit_few w t e)) (ap (λ (l : Lookup). write_accepted (one_by w l t) m s cs room) (same_look tr))
        go false e = refl

    by_any_cells : right ≡ true → (o : Option Writer) → (write_by look right o m s t cs room).answer ≡ (plainly o).answer
    by_any_cells r none = refl
    by_any_cells r (some w) = rw r (go (writer_fits w t))
      where
        go : (b : Bool) →
            (b then write_accepted (one_by w look t) m s cs room else refuse 4 s room).answer ≡
            (b then write_accepted (one_by w (searching t.first) t) m s cs room else refuse 4 s room).answer
        go true =
            same_accepted (one_by w look t) (one_by w (searching t.first) t)
            ((alike w look (searching t.first) t.second (looks_up t.first index).alike).shapes m s cs)
        go false = refl

    -- by an index of the wrong length: 9 and 4 come before, and no other refusal
    abbrev Later : Outcome → Type 0
    Later o = before15 o.answer.refusal ≡ false

    later_written : (w : Writing) → Later (write w room)
    later_written w = go w.unwritable
      where
        go : (u : Option Fault) → before15 (answer_of (length w.bytes) w.state u).refusal ≡ false
        go none = refl
        go (some f) = refl

    later : (one : ℕ → ℕ → One) → Later (write_accepted one m s cs room)
    later one =
        choose Later (ltb 16384 (length cs)) (λ _. refl) (λ _.
        choose Later (not (scalars cs)) (λ _. refl) (λ _.
        choose Later (ltb (length room) (length (writing one m s cs).bytes)) (λ _. refl) (λ _. later_written (writing one m s cs))))

    -- 15, where a call has none of the refusals before it
    abbrev or15 : Outcome → Outcome
    or15 o = before15 o.answer.refusal then o else refuse 15 s room

    by_wrong_length : right ≡ false → (o : Option Writer) → write_by look right o m s t cs room ≡ or15 (plainly o)
    by_wrong_length r none = refl
    by_wrong_length r (some w) = rw r (go (writer_fits w t))
      where
        go : (b : Bool) → (b then refuse 15 s room else refuse 4 s room) ≡
            or15 (b then write_accepted (one_by w (searching t.first) t) m s cs room else refuse 4 s room)
        go true = rw (later (one_by w (searching t.first) t))
        go false = refl

    -- behind 2, 3 and 5
    module _ (e : ℕ) where
      abbrev tested : Outcome → Outcome
      tested o = ltb 39 e then refuse 2 s room else ltb 1 m then refuse 3 s room else ltb 2 s then refuse 5 s room else o

      answer_tested : (o o' : Outcome) → o.answer ≡ o'.answer → (tested o).answer ≡ (tested o').answer
      answer_tested o o' h = go (ltb 39 e) (ltb 1 m) (ltb 2 s)
        where
          go : (a b d : Bool) → (a then refuse 2 s room else b then refuse 3 s room else d then refuse 5 s room else o).answer ≡
              (a then refuse 2 s room else b then refuse 3 s room else d then refuse 5 s room else o').answer
          go true b d = refl
          go false true d = refl
          go false false true = refl
          go false false false = h

      or15_tested : (o : Outcome) → tested (or15 o) ≡ or15 (tested o)
      or15_tested o = go (ltb 39 e) (ltb 1 m) (ltb 2 s)
        where
          go : (a b d : Bool) → (a then refuse 2 s room else b then refuse 3 s room else d then refuse 5 s room else or15 o) ≡
              or15 (a then refuse 2 s room else b then refuse 3 s room else d then refuse 5 s room else o)
          go true b d = refl
          go false true d = refl
          go false false true = refl
          go false false false = refl

pub indexed_call_lem : (e m s : ℕ) (t : Tables) (index cs room : List ℕ) → IndexedCall e m s t index cs room
unfolding indexed_call writer_call call_by
indexed_call_lem e m s t index cs room = record {
  by_true = λ tr. ap (tested m s t cs room index e) (by_true_index m s t cs room index tr (writer_of e));
  by_any = λ r.
      answer_tested m s t cs room index e (write_by (look m s t cs room index) (right m s t cs room index) (writer_of e) m s t cs room)
      (plainly m s t cs room index (writer_of e)) (by_any_cells m s t cs room index r (writer_of e));
  wrong_length = λ r.
      ap (tested m s t cs room index e) (by_wrong_length m s t cs room index r (writer_of e)) ∙
      or15_tested m s t cs room index e (plainly m s t cs room index (writer_of e));
  kept = room_kept.by_look_up (look_up t.first index) (fits (length t.first) (length index)) e m s t cs room;
}

-- Calls with the same index, cut in any way.
pub cut_indexed : (w : Writer) (e m : ℕ) (t : Tables) (index : List ℕ) → writer_of e ≡ some w → (s : ℕ) (ps : List Piece) →
    accepted (indexed_calls e m t index) s ps ≡ true → CutIndexed w e m t index s ps
unfolding indexed_call
cut_indexed w e m t index known s ps h =
    cut_by (look_up t.first index) (fits (length t.first) (length index)) w e m t known s ps h
