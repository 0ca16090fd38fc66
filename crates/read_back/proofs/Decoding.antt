-- What is written in refusing mode decodes to the scalars' images, from the law of one scalar. Assumes nothing.
use mathlib.Core.Path.{◌≡◌, refl, sym, ap, ◌∙◌}
use mathlib.Core.Bool.{Bool, true, false, not}
use mathlib.Core.List.{List, [], ◌∷◌, ◌++◌, append_assoc, append-nil, map}
use mathlib.Core.Option.{Option, some, none}
use Prim.Native.Nat.{ℕ, ◌≤◌}
use native.Mathlib.Omega.{arith}
use lib.Dec.{eqb, lit≤}
use lib.ListN.{length}
use lib.Seq.{drop-append_seam}
use borrow.Author.Tests.{eqb-true}
use Rattle.standard.specs.Base.{◌then◌else◌, every, is_scalar, scalars}
use Rattle.standard.specs.Encodings.{Family, ISO-2022-JP, Tables, lent, fits}
use Rattle.standard.specs.Machine.{Result, finished, continue, tokens, error, error_with}
use Rattle.standard.specs.Search.{Lookup, Sound}
use Rattle.standard.specs.Sequence.{Shift, text, Next, item, shift, plain}
use Rattle.standard.specs.Next.{next}
use Rattle.standard.specs.Decode.{Item, span, Read, decode, shown, broken}
use Rattle.standard.specs.Encoders.Iso2022Jp.{ASCII, escape}
use Rattle.standard.specs.Writers.{Writer, utf-8, single-byte, windows-1252, gbk, gb18030, big5, euc-jp, iso-2022-jp, shift-jis, euc-kr}
use Rattle.standard.specs.Writers.{x-user-defined, stateless, switching, coding, reader, reader_tables, writer_fits}
use Rattle.standard.specs.Ones.{One, shift_to, finish_bytes, answered, plainly, iso2022_jp_encode, written_in, state_for, encode_one}
use Rattle.standard.specs.Images.{iso_image, image, reader_shift, shifts, front}
use Rattle.standard.proofs.Tests.{choose, and_left, and_right}
use Rattle.standard.proofs.Laws.{Laws}
use Rattle.standard.proofs.FamilyLaws.{keeps, next_laws}
use Rattle.standard.proofs.Walk.{nothing, decode_more, decode_item}
use Rattle.standard.proofs.Items.{shown_append, broken_append}
use Rattle.standard.proofs.Writers.{one_scalar}
use Rattle.standard.proofs.ReadsBackIso.{escape_next_lem, one_scalar_in_state}
use Rattle.encoder_spec.specs.Writing.{Fault, Writing, onward, ahead, writing}
use Rattle.encoder_spec.proofs.Switching.{iso_stays}

-- The bytes bs, from the shift a, are read as the scalars ds without an error and leave the shift b, whatever follows.
pub record Reads (f : Shift → List ℕ → Next) (a : Shift) (bs : List ℕ) (b : Shift) (ds : List ℕ) : Type 0 where
  pub items : List Item
  pub decodes : (ys : List ℕ) → decode f a (bs ++ ys) ≡ front items (decode f b ys)
  pub shows : shown items ≡ ds
  pub whole : broken items ≡ false

-- one sequence; none; and one after another
reads_item : {k : Bool} {f : Shift → List ℕ → Next} → Laws k f → {a b : Shift} (bs ds : List ℕ) →
    ((ys : List ℕ) → f a (bs ++ ys) ≡ item (length bs) b (text ds)) → Reads f a bs b ds
unfolding shown broken
reads_item {k} {f} L {a} bs ds h = record {
  items = span (length bs) (text ds) ∷ [];
  decodes = λ ys. decode_item k f L a (bs ++ ys) (h ys) ∙ rw drop-append_seam;
  shows = append-nil ds;
  whole = refl;
}

module _ {f : Shift → List ℕ → Next} where
  reads_none : (a : Shift) → Reads f a [] a []
  unfolding shown broken
  reads_none a = record { items = []; decodes = λ ys. refl; shows = refl; whole = refl }

  reads_then : {a b c : Shift} {xs ys cs ds : List ℕ} → Reads f a xs b cs → Reads f b ys c ds → Reads f a (xs ++ ys) c (cs ++ ds)
  reads_then {a} {b} {c} {xs} {ys} h g = record {
    items = h.items ++ g.items;
    decodes = λ zs. rw (append_assoc xs ys zs)
        (h.decodes (ys ++ zs) ∙ ap (front h.items) (g.decodes zs) ∙ assoc h.items g.items (decode f c zs));
    shows = shown_append h.items g.items ∙ rw (h.shows, g.shows);
    whole = broken_append h.items g.items ∙ rw (h.whole, g.whole);
  }
    where
      assoc : (is js : List Item) (r : Read) → front is (front js r) ≡ front (is ++ js) r
      assoc is js r = λ i. record { items = sym (append_assoc is js r.items) i; shift = r.shift; rest = r.rest }

-- A writer of single scalars that keeps the law of one scalar in the states that are valid, with the reader's shift at each.
record WriterLaw (f : Shift → List ℕ → Next) (one : ℕ → ℕ → One) (Valid : ℕ → Type 0) (at : ℕ → Shift) (img : ℕ → ℕ) : Type 0 where
  stays : (s c : ℕ) → Valid s → Valid (one s c).state
  reads : (s c : ℕ) → Valid s → is_scalar c ≡ true → (one s c).named ≡ none →
      Reads f (at s) (one s c).bytes (at (one s c).state) (img c ∷ [])

-- where a writing with a scalar in front has no report, neither has the writing
onward_none : (n : ℕ) (bs : List ℕ) (w : Writing) → (onward n bs w).unwritable ≡ none → w.unwritable ≡ none
onward_none n bs w = go w.unwritable
  where
    go : (o : Option Fault) → (onward n bs (record { bytes = []; state = 0; unwritable = o })).unwritable ≡ none → o ≡ none
    go none e = refl
    go (some i) e = let z : ◌≡◌ {A = ℕ} 0 1 = cc in absurd (omega arith)

module _ {f : Shift → List ℕ → Next} {one : ℕ → ℕ → One} {Valid : ℕ → Type 0} {at : ℕ → Shift} {img : ℕ → ℕ}
    (W : WriterLaw f one Valid at img) where
  -- From a valid state, what is written without a report reads as the images, and leaves a valid state.
  reads_all : (s : ℕ) (cs : List ℕ) → Valid s → scalars cs ≡ true → (writing one 1 s cs).unwritable ≡ none →
      Reads f (at s) (writing one 1 s cs).bytes (at (writing one 1 s cs).state) (map img cs) × Valid (writing one 1 s cs).state
  unfolding writing every
  reads_all s [] v h u = (reads_none (at s), v)
  reads_all s (c ∷ cs) v h u =
      go (one s c).named refl u (reads_all (one s c).state cs (W.stays s c v) (and_right (is_scalar c) (scalars cs) h))
    where
      w : Writing
      w = writing one 1 (one s c).state cs

      o : Option ℕ → One
      o n = record { bytes = (one s c).bytes; state = (one s c).state; named = n }

      go : (n : Option ℕ) → (one s c).named ≡ n → (ahead 1 (o n) w).unwritable ≡ none →
          (w.unwritable ≡ none → Reads f (at (one s c).state) w.bytes (at w.state) (map img cs) × Valid w.state) →
          Reads f (at s) (ahead 1 (o n) w).bytes (at (ahead 1 (o n) w).state) (img c ∷ map img cs) × Valid (ahead 1 (o n) w).state
      go none e u ih =
          let r = ih (onward_none 1 (one s c).bytes w u) in
          (reads_then (W.reads s c v (and_left (is_scalar c) (scalars cs) h) e) r.0, r.1)
      go (some n) e u ih = let z : ◌≡◌ {A = ℕ} 0 1 = cc in absurd (omega arith)

no_name : {A : Type 0} {x : ℕ} → some x ≡ none → A
no_name e = let z : ◌≡◌ {A = ℕ} 0 1 = cc in absurd (omega arith)

-- A writer without a state keeps the law in state 0, in the one shift that its reader has.
module _ (w : Writer) (t : Tables) (look : Lookup) (encode : ℕ → Result) (h : fits (reader w) t ≡ true) (S : Sound look t.first)
    (is : coding w look t.second ≡ stateless encode) where
  plain_law : WriterLaw (next t (reader w)) (encode_one (stateless encode)) (λ s. s ≡ 0) (λ s. plain) (image w t.second)
  plain_law = record { stays = λ s c v. same s (encode c) ∙ v; reads = λ s c v i u. by s c i (encode c) refl u }
    where
      same : (s : ℕ) (r : Result) → (plainly s r).state ≡ s
      same s (tokens bs) = refl
      same s (error_with n) = refl
      same s finished = refl
      same s continue = refl
      same s error = refl

      by : (s c : ℕ) → is_scalar c ≡ true → (r : Result) →
          encode c ≡ r → (plainly s r).named ≡ none → Reads (next t (reader w)) plain (plainly s r).bytes plain (image w t.second c ∷ [])
      by s c v (tokens bs) b u =
          reads_item (next_laws t (reader w)) bs (image w t.second c ∷ []) (λ ys. one_scalar w t look encode h S is c bs ys v b)
      by s c v (error_with x) b u = no_name u
      by s c v finished b u = no_name u
      by s c v continue b u = no_name u
      by s c v error b u = no_name u

-- ISO-2022-JP keeps it in its three states.
module _ (t : Tables) (katakana : List ℕ) (look : Lookup) (h : fits ISO-2022-JP t ≡ true) (S : Sound look t.first) where
  abbrev N : Shift → List ℕ → Next
  N = next t ISO-2022-JP

  in_state : (s c : ℕ) (bs : List ℕ) → iso2022_jp_encode look katakana c ≡ tokens bs →
      Reads N (reader_shift s) (shift_to s (written_in s c) ++ bs) (reader_shift (written_in s c)) (iso_image katakana c ∷ [])
  unfolding shown broken
  in_state s c bs e = record {
    items = shifts s (written_in s c) ++ span (length bs) (text (iso_image katakana c ∷ [])) ∷ [];
    decodes = λ ys. one_scalar_in_state t katakana look h S s c bs ys e;
    shows = choose (λ is. shown (is ++ last) ≡ iso_image katakana c ∷ []) (eqb s (written_in s c)) (λ _. refl) (λ _. refl);
    whole = choose (λ is. broken (is ++ last) ≡ false) (eqb s (written_in s c)) (λ _. refl) (λ _. refl);
  }
    where
      last : List Item
      last = span (length bs) (text (iso_image katakana c ∷ [])) ∷ []

  iso_law : WriterLaw N (encode_one (switching look katakana)) (λ s. s ≤ 2) reader_shift (iso_image katakana)
  iso_law = record { stays = iso_stays look katakana; reads = λ s c v i u. by s c (iso2022_jp_encode look katakana c) refl u }
    where
      by : (s c : ℕ) (r : Result) → iso2022_jp_encode look katakana c ≡ r → (answered (shift_to s (state_for s c r)) (state_for s c r) r).named ≡ none →
          Reads N (reader_shift s) (answered (shift_to s (state_for s c r)) (state_for s c r) r).bytes
          (reader_shift (answered (shift_to s (state_for s c r)) (state_for s c r) r).state) (iso_image katakana c ∷ [])
      by s c (tokens bs) e u = in_state s c bs e
      by s c (error_with n) e u = no_name u
      by s c finished e u = no_name u
      by s c continue e u = no_name u
      by s c error e u = no_name u

  -- A finish returns to ASCII, and gives nothing more; the reader then has just shifted, if it did.
  ends : (s : ℕ) → Reads N (reader_shift s) (finish_bytes s) (shift 0 (not (eqb s 0))) []
  ends s = go (eqb s 0) refl
    where
      go : (b : Bool) → eqb s 0 ≡ b → Reads N (reader_shift s) (b then [] else escape ASCII) (shift 0 (not b)) []
      go true e = let q : s ≡ 0 = eqb-true s 0 e in rw q (reads_none plain)
      go false e = reads_item (next_laws t ISO-2022-JP) (escape ASCII) [] (escape_next_lem t (eqb s 2 then 3 else s) 0 (lit≤ tt))

-- What is written from ASCII in refusing mode, through a finish, by any sound look-up.
abbrev WrittenReads : Writer → Tables → Tables → Lookup → Type 0
WrittenReads w t r look = (cs : List ℕ) → scalars cs ≡ true →
    let v = writing (encode_one (coding w look t.second)) 1 0 cs in
    v.unwritable ≡ none →
    Reads (next r (reader w)) plain (v.bytes ++ finish_bytes v.state) (shift 0 (not (eqb v.state 0))) (map (image w t.second) cs)

plain_reads : (w : Writer) (t : Tables) (look : Lookup) (encode : ℕ → Result) → coding w look t.second ≡ stateless encode →
    fits (reader w) t ≡ true → Sound look t.first → WrittenReads w t t look
plain_reads w t look encode e h S cs i u =
    let r = reads_all (plain_law w t look encode h S e) 0 cs refl i (rw e at u) in
    rw (e, r.1, append-nil) r.0

iso_reads : (t : Tables) (look : Lookup) → writer_fits iso-2022-jp t ≡ true → Sound look t.first →
    WrittenReads iso-2022-jp t (lent t.first []) look
iso_reads t look h S cs i u =
    let k = lent t.first [] in
    let f = and_left (fits ISO-2022-JP k) (eqb (length t.second) 63) h in
    let r = reads_all (iso_law k t.second look f S) 0 cs (lit≤ tt) i u in
    rw append-nil at (reads_then r.0 (ends k t.second look f S (writing (encode_one (switching look t.second)) 1 0 cs).state))

pub written_reads : (w : Writer) (t : Tables) (look : Lookup) → writer_fits w t ≡ true → Sound look t.first →
    WrittenReads w t (reader_tables w t) look
written_reads utf-8 t look h S = plain_reads utf-8 t look _ refl h S
written_reads single-byte t look h S = plain_reads single-byte t look _ refl h S
written_reads windows-1252 t look h S = plain_reads windows-1252 t look _ refl h S
written_reads gbk t look h S = plain_reads gbk t look _ refl h S
written_reads gb18030 t look h S = plain_reads gb18030 t look _ refl h S
written_reads big5 t look h S = plain_reads big5 t look _ refl h S
written_reads euc-jp t look h S = plain_reads euc-jp t look _ refl h S
written_reads iso-2022-jp t look h S = iso_reads t look h S
written_reads shift-jis t look h S = plain_reads shift-jis t look _ refl h S
written_reads euc-kr t look h S = plain_reads euc-kr t look _ refl h S
written_reads x-user-defined t look h S = plain_reads x-user-defined t look _ refl h S

-- Nothing written, nothing read, with any tables.
pub none_reads : (t : Tables) (f : Family) → Reads (next t f) plain [] plain []
none_reads t f = reads_none plain

-- What is read so, whatever follows, is read to the end.
pub reads_whole : (t : Tables) (f : Family) {a b : Shift} {bs cs : List ℕ} (R : Reads (next t f) a bs b cs) →
    decode (next t f) a bs ≡ record { items = R.items; shift = b; rest = [] }
reads_whole t f {a} {b} {bs} R = ap (decode (next t f) a) (sym (append-nil bs)) ∙ R.decodes [] ∙
    ap (front R.items) (decode_more (keeps f) (next t f) L b [] (nothing (keeps f) (next t f) L b [] (lit≤ tt))) ∙ rw append-nil
  where
    L : Laws (keeps f) (next t f)
    L = next_laws t f
