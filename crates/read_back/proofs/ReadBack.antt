-- Reading back: what the writer's calls wrote in refusing mode, and the finish, goes through the decoder's calls. Assumes nothing.
use mathlib.Core.Path.{◌≡◌, refl, sym, ap, ◌∙◌}
use mathlib.Core.Bool.{Bool, true, false, not, ◌&&◌, ◌||◌, and-false}
use mathlib.Core.List.{List, [], ◌∷◌, ◌++◌, append-nil, map}
use mathlib.Core.Option.{Option, some, none}
use Prim.Native.Nat.{ℕ, ◌≤◌, ◌<◌}
use native.Mathlib.Omega.{arith}
use lib.Dec.{ltb, eqb}
use lib.ListN.{length}
use lib.Seq.{take-append_seam}
use borrow.Author.Tests.{ltb-true, ltb-false, le-ltb, lt-leb, ne_eqb, not-true}
use Rattle.standard.specs.Base.{every, line_feeds}
use Rattle.standard.specs.Encodings.{family, Tables}
use Rattle.standard.specs.Search.{Lookup, searching, Sound}
use Rattle.standard.specs.Sequence.{Shift, shift, plain}
use Rattle.standard.specs.Next.{next}
use Rattle.standard.specs.Decode.{Item, Read, ending, shown, everything}
use Rattle.standard.specs.Writers.{Writer, writer_of, reader_tables, writer_fits}
use Rattle.standard.specs.Ones.{finish_bytes}
use Rattle.standard.specs.Images.{image, leaves_out}
use Rattle.standard.proofs.Tests.{split, choose, and_both}
use Rattle.standard.proofs.Search.{plain_sound}
use Rattle.standard.proofs.Reading.{no_bytes}
use Rattle.standard.proofs.Writers.{reader_of, own_image}
use Rattle.standard.specs.Choice.{spot, Parsed, lift, read_from, everything_from}
use Rattle.standard.specs.Choice.{reader as reader_at}
use Rattle.standard.proofs.Stages.{read_on_lem}
use Rattle.standard.proofs.Sniffing.{all_read}
use Rattle.decoder.specs.Record.{holding, closed, new_spot}
use Rattle.decoder.specs.Calls.{open_refusal}
use Rattle.demands.specs.Histories.{Call, after, start}
use Rattle.demands.specs.Statements.{Piece, joined, cutting, account, Accepts, AllFeeds}
use Rattle.demands.specs.Whole.{dealt, whole_account}
use Rattle.demands.proofs.Steps.{kept_new}
use Rattle.demands.proofs.Cutting.{cut_is_whole, feeds_give}
use Rattle.encoder_spec.specs.Writing.{Fault, Writing, writing}
use Rattle.encoder_spec.specs.Writer.{Outcome, one_by, writer_call, writer_finish}
use Rattle.encoder_spec.specs.Calls.{Calling, calls_by, all_scalars, written, accepted, index_of, one_piece}
use Rattle.encoder_spec.specs.Calls.{Piece as WriterPiece, Account as WriterAccount, account as writer_account}
use Rattle.encoder_spec.proofs.Calls.{Called, refused, writes, called, as_one_piece, all_scalars_lem}
use Rattle.reverse_index_spec.specs.ReverseIndex.{fits, look_up}
use Rattle.reverse_index_spec.proofs.Theorems.{looks_up}
use Rattle.indexed_writing.specs.Call.{indexed_call}
use Rattle.read_back.specs.Statements.{ReadBack, WrittenBack, ReadsBack}
use Rattle.read_back.proofs.Decoding.{Reads, written_reads, none_reads, reads_whole}

-- What the bytes bs, through a finish from the state s, are to the decoder of a number: they decode to the scalars cs without an error, and
-- nothing is left over.
record Good (e : ℕ) (t : Tables) (s : ℕ) (cs bs : List ℕ) : Type 0 where
  number : e ≤ 39
  read : Reads (next t (family e)) plain bs (shift 0 (not (eqb s 0))) cs

-- a number with a writer
small : (e : ℕ) (w : Writer) → writer_of e ≡ some w → e ≤ 39
unfolding writer_of
small e w h = split (ltb 39 e) (λ l. let far : 39 < e = ltb-true 39 e l in no_writer far) (λ l. ltb-false 39 e l)
  where
    no_writer : 39 < e → e ≤ 39
    no_writer far =
        let z : ◌≡◌ {A = Option Writer} none (some w) = rw (
          ne_eqb e 0 (λ z. omega arith),
          ne_eqb e 21 (λ z. omega arith),
          lt-leb e 28 (omega arith),
          ne_eqb e 29 (λ z. omega arith),
          ne_eqb e 30 (λ z. omega arith),
          ne_eqb e 31 (λ z. omega arith),
          ne_eqb e 32 (λ z. omega arith),
          ne_eqb e 33 (λ z. omega arith),
          ne_eqb e 34 (λ z. omega arith),
          ne_eqb e 35 (λ z. omega arith),
          ne_eqb e 39 (λ z. omega arith),
        ) at h in
        let y : ◌≡◌ {A = ℕ} 0 1 = cc in
        absurd (omega arith)

-- what an accepted finish wrote
finish_wrote : (s : ℕ) (room : List ℕ) → (writer_finish s room).answer.refusal ≡ 0 → written (writer_finish s room) ≡ finish_bytes s
unfolding writer_finish
finish_wrote s room =
    choose Wrote (ltb 2 s) (λ _ e. absurd (omega arith)) (λ _.
    choose Wrote (ltb (length room) (length (finish_bytes s))) (λ _ e. absurd (omega arith)) (λ _ e. take-append_seam _ _))
  where
    Wrote : Outcome → Type 0
    Wrote o = o.answer.refusal ≡ 0 → written o ≡ finish_bytes s

-- A call that is not refused was lent tables that fit.
first_fits : (look : Lookup) (right : Bool) (w : Writer) (e : ℕ) (t : Tables) (p : WriterPiece) (ps : List WriterPiece) →
    writer_of e ≡ some w → accepted (calls_by look right e 1 t) 0 (p ∷ ps) ≡ true → writer_fits w t ≡ true
unfolding accepted
first_fits look right w e t p ps q = go (calls_by look right e 1 t 0 p) (called look right e 1 0 t w p.scalars p.room q)
  where
    go : (o : Outcome) → Called (writer_fits w t) p.scalars (writing (one_by w look t) 1 0 p.scalars) p.room 0 o →
        eqb o.answer.refusal 11 || (eqb o.answer.refusal 0 && accepted (calls_by look right e 1 t) o.answer.state ps) ≡ true →
        writer_fits w t ≡ true
    go o (refused n a b) h = let f : false ≡ true = rw (a, b) at h in let z : ◌≡◌ {A = ℕ} 0 1 = cc in absurd (omega arith)
    go o (writes f c) h = f

unreported : (o : Option Fault) → index_of o ≡ none → o ≡ none
unreported none e = refl
unreported (some f) e = let z : ◌≡◌ {A = ℕ} 0 1 = cc in absurd (omega arith)

-- What the calls and the finish wrote is good, by any sound look-up.
module _ (look : Lookup) (right : Bool) (w : Writer) (e : ℕ) (t : Tables) (S : Sound look t.first) (q : writer_of e ≡ some w) where
  abbrev call : Calling
  call = calls_by look right e 1 t

  calls_good : (ps : List WriterPiece) (room : List ℕ) → accepted call 0 ps ≡ true →
      let a = writer_account call 0 ps in
      a.report ≡ none → (writer_finish a.state room).answer.refusal ≡ 0 →
      Good e (reader_tables w t) a.state (map (image w t.second) (all_scalars ps)) (a.output ++ written (writer_finish a.state room))
  unfolding writer_account all_scalars
  calls_good [] room h u f = record { number = small e w q; read = rw (finish_wrote 0 room f) (none_reads (reader_tables w t) (family e)) }
  calls_good (p ∷ ps) room h u f = record {
    number = small e w q;
    read = rw (finish_wrote (writer_account call 0 (p ∷ ps)).state room f, whole, reader_of e w q)
        (written_reads w t look (first_fits look right w e t p ps q h) S (all_scalars (p ∷ ps))
        (all_scalars_lem look right w e 1 t q 0 (p ∷ ps) h u) (unreported W.unwritable (ap (λ (a : WriterAccount). a.report) (sym whole) ∙ u)));
  }
    where
      W : Writing
      W = writing (one_by w look t) 1 0 (all_scalars (p ∷ ps))

      whole : writer_account call 0 (p ∷ ps) ≡ one_piece W
      whole = as_one_piece look right w e 1 t q 0 (p ∷ ps) h

opens : (e m : ℕ) → e ≤ 39 → m ≤ 1 → open_refusal e m 1 ≡ 0
unfolding open_refusal
opens e m p q = rw (le-ltb 39 e p, le-ltb 1 m q)

-- Such bytes through the decoder's calls.
module _ (e m : ℕ) (t : Tables) (s : ℕ) (cs bs : List ℕ) (m-number : m ≤ 1) (g : Good e t s cs bs) where
  abbrev items : List Item
  items = g.read.items

  abbrev end : Shift
  end = shift 0 (not (eqb s 0))

  new_reads : (xs : List ℕ) → xs ≡ bs → read_from t e (new_spot e 1) xs ≡ lift 0 (record { items = items; shift = end; rest = [] })
  unfolding reader_at
  new_reads xs q = rw (kept_new e, q) (read_on_lem t e (spot 0 plain) bs refl ∙ ap (lift 0) (reads_whole t (family e) g.read))

  fed : (calls : List Call) → AllFeeds t calls → (after (start e m 1) calls).taken ≡ bs →
      ((after (start e m 1) calls).handed ≡ cs) ×
      ((after (start e m 1) calls).decoder ≡ holding e m (length bs) (line_feeds cs) (spot 0 end) [])
  fed calls a q =
      let d = new_reads (after (start e m 1) calls).taken q in
      let f = feeds_give t e m 1 (opens e m g.number m-number) calls a (rw (d, g.read.whole) (and-false (eqb m 1))) in
      let out = f.0 ∙ ap (λ (r : Parsed). shown r.items) d ∙ g.read.shows in
      (out, f.1 ∙ (λ i. holding e m (length (q i)) (line_feeds (out i)) (d i).spot (d i).rest))

  all : everything_from t e (new_spot e 1) bs ≡ items
  unfolding everything reader_at
  all = rw (kept_new e) (all_read t e (spot 0 plain) bs refl ∙
      ap (λ (r : Read). r.items ++ ending t (family e) r.shift r.rest) (reads_whole t (family e) g.read) ∙
      rw (no_bytes t (family e) end, append-nil))

  whole : whole_account t e m 1 bs ≡ record { handed = cs; reports = []; decoder = closed e m 0 (line_feeds cs) }
  unfolding whole_account dealt
  whole = rw (all, g.read.whole, and-false (eqb m 1), g.read.shows)

  finished : (ps : List Piece) (last : List ℕ) → joined ps ≡ bs → Accepts t (start e m 1) ps last →
      account (start e m 1) (cutting t ps last) ≡ record { handed = cs; reports = []; decoder = closed e m 0 (line_feeds cs) }
  finished ps last q a = cut_is_whole t e m 1 (opens e m g.number m-number) ps last a ∙ rw q whole

  back : ReadBack e m t s cs bs
  back = record { fed = fed; finished = finished }

-- Scalars none of which is left out are their own images.
selves : (w : Writer) (second cs : List ℕ) → every (λ c. not (leaves_out w c)) cs ≡ true → map (image w second) cs ≡ cs
unfolding every
selves w second [] h = refl
selves w second (c ∷ cs) h =
    let l = and_both (not (leaves_out w c)) (every (λ c. not (leaves_out w c)) cs) h in
    let e : image w second c ≡ c = own_image w second c (not-true (leaves_out w c) l.0) in
    rw e (ap (◌∷◌ c) (selves w second cs l.1))

by_look : (look : Lookup) (right : Bool) (w : Writer) (e m : ℕ) (t : Tables) → Sound look t.first → m ≤ 1 → writer_of e ≡ some w →
    WrittenBack w e m t (calls_by look right e 1 t)
by_look look right w e m t S h q ps room a u f =
    let cs = all_scalars ps in
    let o = writer_account (calls_by look right e 1 t) 0 ps in
    let bs = o.output ++ written (writer_finish o.state room) in
    let images = back e m (reader_tables w t) o.state (map (image w t.second) cs) bs h (calls_good look right w e t S q ps room a u f) in
    record { as_images = images; as_themselves = λ n. rw (selves w t.second cs n) at images }

pub reads_back : (w : Writer) (e m : ℕ) (t : Tables) → m ≤ 1 → writer_of e ≡ some w → ReadsBack w e m t
unfolding writer_call indexed_call
reads_back w e m t h q = record {
  by_search = by_look (searching t.first) true w e m t (plain_sound t.first) h q;
  by_index = λ index.
      by_look (look_up t.first index) (fits (length t.first) (length index)) w e m t (looks_up t.first index).sound h q;
}
