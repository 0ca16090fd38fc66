-- Accepted calls, cut in any way, leave what one piece is. Assumes nothing.
use mathlib.Core.Path.{◌≡◌, refl, sym, ap, ◌∙◌}
use mathlib.Core.Bool.{Bool, true, false, not, ◌&&◌, ◌||◌}
use mathlib.Core.List.{List, [], ◌∷◌, ◌++◌}
use mathlib.Core.Option.{Option, some, none}
use Prim.Native.Nat.{ℕ}
use native.Mathlib.Omega.{arith}
use lib.Dec.{ltb, eqb}
use lib.ListN.{length, take, drop}
use lib.Seq.{take-append_seam}
use borrow.Author.Tests.{not-false}
use Rattle.standard.specs.Base.{every, is_scalar, scalars}
use Rattle.standard.specs.Encodings.{Tables}
use Rattle.standard.specs.Search.{Lookup, searching}
use Rattle.standard.specs.Writers.{Writer, writer_of, writer_fits}
use Rattle.standard.specs.Ones.{One}
use Rattle.standard.proofs.Tests.{choose, and_both}
use Rattle.encoder_spec.specs.Writing.{Fault, Writing, later, writing}
use Rattle.encoder_spec.specs.Pieces.{follow}
use Rattle.encoder_spec.specs.Writer.{Outcome, refuse, write, one_by, call_by, writer_call}
use Rattle.encoder_spec.specs.Calls.{Piece, Calling, calls_by, calls_of, all_scalars, Account, counted, and_then, account, accepted}
use Rattle.encoder_spec.specs.Calls.{index_of, one_piece, CutBy, CutCalls}
use Rattle.encoder_spec.proofs.Pieces.{cut}

-- A call is refused, or it writes; w is what would be written. A call that writes has tables that fit, and scalars.
pub data Called (fit : Bool) (cs : List ℕ) (w : Writing) (room : List ℕ) (s : ℕ) : Outcome → Type 0 where
  refused : (n : ℕ) → eqb n 11 ≡ false → eqb n 0 ≡ false → Called fit cs w room s (refuse n s room)
  writes : fit ≡ true → scalars cs ≡ true → Called fit cs w room s (write w room)

module _ (look : Lookup) (right : Bool) (e m s : ℕ) (t : Tables) (w : Writer) (cs room : List ℕ) (known : writer_of e ≡ some w) where
  abbrev W : Writing
  W = writing (one_by w look t) m s cs

  abbrev C : Outcome → Type 0
  C = Called (writer_fits w t) cs W room s

  pub called : C (call_by look right e m s t cs room)
  unfolding call_by
  called =
      choose C (ltb 39 e) (λ _. refused 2 refl refl) (λ _.
      choose C (ltb 1 m) (λ _. refused 3 refl refl) (λ _.
      choose C (ltb 2 s) (λ _. refused 5 refl refl) (λ _.
      rw known (choose C (writer_fits w t) (λ f.
      choose C right (λ _.
      choose C (ltb 16384 (length cs)) (λ _. refused 8 refl refl) (λ _.
      choose C (not (scalars cs)) (λ _. refused 10 refl refl) (λ v.
      choose C (ltb (length room) (length W.bytes)) (λ _. refused 7 refl refl) (λ _. writes f (not-false (scalars cs) v)))))
      (λ _. refused 15 refl refl))
      (λ _. refused 4 refl refl)))))

-- one call, and those after it
counted_index : (n : ℕ) (o : Option Fault) → counted n (index_of o) ≡ index_of (later n o)
counted_index n none = refl
counted_index n (some f) = refl

-- A written piece, and the writing after it.
piece : (n : ℕ) (w : Writing) (room : List ℕ) (v : ℕ → Writing) →
    and_then n (write w room) (one_piece (v w.state)) ≡ one_piece (follow n w v)
piece n w room v = go w.unwritable
  where
    front_of : take (length w.bytes) (w.bytes ++ drop (length w.bytes) room) ≡ w.bytes
    front_of = take-append_seam _ _

    part : Option Fault → Writing
    part o = record { bytes = w.bytes; state = w.state; unwritable = o }

    go : (o : Option Fault) → and_then n (write (part o) room) (one_piece (v w.state)) ≡ one_piece (follow n (part o) v)
    go none = λ i. record {
      output = front_of i ++ (v w.state).bytes;
      state = (v w.state).state;
      report = counted_index n (v w.state).unwritable i;
    }
    go (some f) = λ i. record { output = front_of i; state = w.state; report = some f.index }

-- No call up to the first report 11 is refused: this one, and those after it.
abbrev Goes : (ℕ → Bool) → Outcome → Type 0
Goes acc o = eqb o.answer.refusal 11 || (eqb o.answer.refusal 0 && acc o.answer.state) ≡ true

-- the same, where what comes after is known of the calls that are made
step : (n : ℕ) (w : Writing) (room : List ℕ) (v : ℕ → Writing) (acc : ℕ → Bool) (r : ℕ → Account) →
    ((s : ℕ) → acc s ≡ true → r s ≡ one_piece (v s)) → Goes acc (write w room) →
    and_then n (write w room) (r (write w room).answer.state) ≡ one_piece (follow n w v)
step n w room v acc r ih h = go w.unwritable h
  where
    part : Option Fault → Writing
    part o = record { bytes = w.bytes; state = w.state; unwritable = o }

    go : (o : Option Fault) → Goes acc (write (part o) room) →
        and_then n (write (part o) room) (r (write (part o) room).answer.state) ≡ one_piece (follow n (part o) v)
    go none h = ap (and_then n (write (part none) room)) (ih w.state h) ∙ piece n (part none) room v
    go (some f) h = piece n (part (some f)) room v

-- a refused call is none of them
none_refused : {A : Type 0} (acc : ℕ → Bool) (n s : ℕ) (room : List ℕ) → eqb n 11 ≡ false → eqb n 0 ≡ false → Goes acc (refuse n s room) → A
none_refused acc n s room a b h = let f : false ≡ true = rw (a, b) at h in let z : ◌≡◌ {A = ℕ} 0 1 = cc in absurd (omega arith)

module _ (look : Lookup) (right : Bool) (w : Writer) (e m : ℕ) (t : Tables) (known : writer_of e ≡ some w) where
  abbrev call : Calling
  call = calls_by look right e m t

  abbrev one : ℕ → ℕ → One
  one = one_by w look t

  pub as_one_piece : (s : ℕ) (ps : List Piece) → accepted call s ps ≡ true → account call s ps ≡ one_piece (writing one m s (all_scalars ps))
  unfolding account accepted all_scalars writing
  as_one_piece s [] h = refl
  as_one_piece s (p ∷ ps) h =
      go (call s p) (called look right e m s t w p.scalars p.room known) h (λ s' a. as_one_piece s' ps a) ∙
      ap one_piece (sym (cut one m s p.scalars (all_scalars ps)))
    where
      go : (o : Outcome) → Called (writer_fits w t) p.scalars (writing one m s p.scalars) p.room s o →
          Goes (λ s'. accepted call s' ps) o →
          ((s' : ℕ) → accepted call s' ps ≡ true → account call s' ps ≡ one_piece (writing one m s' (all_scalars ps))) →
          and_then (length p.scalars) o (account call o.answer.state ps) ≡
          one_piece (follow (length p.scalars) (writing one m s p.scalars) (λ s'. writing one m s' (all_scalars ps)))
      go o (refused n a b) h ih = none_refused (λ s'. accepted call s' ps) n s p.room a b h
      go o (writes f v) h ih =
          step (length p.scalars) (writing one m s p.scalars) p.room (λ s'. writing one m s' (all_scalars ps))
          (λ s'. accepted call s' ps) (λ s'. account call s' ps) ih h

  pub cut_by : (s : ℕ) (ps : List Piece) → accepted call s ps ≡ true → CutBy call one m s ps
  cut_by s ps h = record {
    as_one_piece = as_one_piece s ps h;
    as_another = λ qs q a. as_one_piece s qs a ∙ ap (λ (cs : List ℕ). one_piece (writing one m s cs)) q ∙ sym (as_one_piece s ps h);
  }

  -- Without a report, all of them are scalars.
  uncounted : (n : ℕ) (o : Option ℕ) → counted n o ≡ none → o ≡ none
  uncounted n none e = refl
  uncounted n (some i) e = let z : ◌≡◌ {A = ℕ} 0 1 = cc in absurd (omega arith)

  every_append : (q : ℕ → Bool) (xs ys : List ℕ) → every q xs ≡ true → every q ys ≡ true → every q (xs ++ ys) ≡ true
  unfolding every
  every_append q [] ys h g = g
  every_append q (x ∷ xs) ys h g = let l = and_both (q x) (every q xs) h in rw l.0 (every_append q xs ys l.1 g)

  -- of the calls that are left
  abbrev Rest : List Piece → Type 0
  Rest ps = (s : ℕ) → accepted call s ps ≡ true → (account call s ps).report ≡ none → scalars (all_scalars ps) ≡ true

  pub all_scalars_lem : (s : ℕ) (ps : List Piece) → accepted call s ps ≡ true → (account call s ps).report ≡ none → scalars (all_scalars ps) ≡ true
  unfolding account accepted all_scalars every
  all_scalars_lem s [] h u = refl
  all_scalars_lem s (p ∷ ps) h u =
      go (call s p) (called look right e m s t w p.scalars p.room known) h u (λ s' a b. all_scalars_lem s' ps a b)
    where
      wrote : (v : Writing) (o : Option Fault) → scalars p.scalars ≡ true →
          Goes (λ s'. accepted call s' ps) (write (record { bytes = v.bytes; state = v.state; unwritable = o }) p.room) →
          (and_then (length p.scalars) (write (record { bytes = v.bytes; state = v.state; unwritable = o }) p.room)
          (account call (write (record { bytes = v.bytes; state = v.state; unwritable = o }) p.room).answer.state ps)).report ≡ none →
          Rest ps → scalars (p.scalars ++ all_scalars ps) ≡ true
      wrote v none c h u ih =
          every_append is_scalar p.scalars (all_scalars ps) c
          (ih v.state h (uncounted (length p.scalars) (account call v.state ps).report u))
      wrote v (some f) c h u ih = let z : ◌≡◌ {A = ℕ} 0 1 = cc in absurd (omega arith)

      go : (o : Outcome) → Called (writer_fits w t) p.scalars (writing one m s p.scalars) p.room s o →
          Goes (λ s'. accepted call s' ps) o → (and_then (length p.scalars) o (account call o.answer.state ps)).report ≡ none →
          Rest ps → scalars (p.scalars ++ all_scalars ps) ≡ true
      go o (refused n a b) h u ih = none_refused (λ s'. accepted call s' ps) n s p.room a b h
      go o (writes f c) h u ih = wrote (writing one m s p.scalars) (writing one m s p.scalars).unwritable c h u ih

-- by a search
pub cut_calls : (w : Writer) (e m : ℕ) (t : Tables) → writer_of e ≡ some w → (s : ℕ) (ps : List Piece) →
    accepted (calls_of e m t) s ps ≡ true → CutCalls w e m t s ps
unfolding writer_call
cut_calls w e m t known s ps h = cut_by (searching t.first) true w e m t known s ps h
