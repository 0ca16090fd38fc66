-- After the next tab all is well: where separators are kept, a byte below 0x30 ends whatever was started before it. Assumes nothing.
use mathlib.Core.Path.{◌≡◌, refl, sym, ap, ◌∙◌, subst}
use mathlib.Core.Bool.{Bool, true, false}
use mathlib.Core.List.{List, [], ◌∷◌, ◌++◌, append_assoc}
use mathlib.Core.Option.{some}
use Prim.Native.Nat.{ℕ, ◌+◌, ◌<◌}
use native.Mathlib.Omega.{arith}
use lib.Dec.{T, ltb, leb, lit≤}
use lib.ListN.{length, get_or, drop, replicate, length-append}
use lib.Seq.{take_all, drop-length, drop-append-le}
use borrow.Author.Tests.{lt-ltb, leb-true, leb-false}
use Rattle.standard.specs.Base.{◌then◌else◌, Bytes, separators, line_feeds}
use Rattle.standard.specs.Encodings.{fits, Tables, Family, UTF-8, single-byte, windows-1252, GB18030, Big5, EUC-JP, ISO-2022-JP, Shift-JIS, EUC-KR, Replacement, UTF-16BE, UTF-16LE, x-user-defined, family, traits}
use Rattle.standard.specs.Sequence.{Shift, Out, text, error, Next, more, item, plain, cell}
use Rattle.standard.specs.Layouts.{pointer_of, pair_code}
use Rattle.standard.specs.Sequences.Utf8.{utf8}
use Rattle.standard.specs.Sequences.SingleByte.{single_byte}
use Rattle.standard.specs.Sequences.Gb18030.{gb18030, gb18030_range, gb18030_four_code, gb18030_four_pointer}
use Rattle.standard.specs.Sequences.Big5.{big5, big5_pair}
use Rattle.standard.specs.Sequences.EucJp.{euc_jp}
use Rattle.standard.specs.Sequences.ShiftJis.{shift_jis}
use Rattle.standard.specs.Sequences.EucKr.{euc_kr}
use Rattle.standard.specs.Sequences.UserDefined.{user_defined}
use Rattle.standard.specs.Next.{unmarked, next}
use Rattle.standard.specs.Decode.{Read, put, reads, decode, one_error, ending, given, shown, broken, before, everything}
use Rattle.standard.specs.Choice.{reader, Spot, spot, lift, read_from, end_from, rests}
use Rattle.standard.proofs.Every.{bytes_left, bytes_right}
use Rattle.standard.proofs.Laws.{Law}
use Rattle.standard.proofs.FamilyLaws.{keeps, next_laws}
use Rattle.standard.proofs.Fronts.{Front, front_test, front_await, front_item}
use Rattle.standard.proofs.Walk.{stop, at_item, walk, chunks}
use Rattle.standard.proofs.Items.{shown_cons, shown_append}
use Rattle.standard.proofs.Reading.{separators_append}
use Rattle.standard.proofs.Separators.{none_held_lem}
use Rattle.standard.proofs.Whole.{standard_replacing}
use Rattle.standard.proofs.Paused.{so_far_lem}
use Rattle.standard.proofs.Stages.{read_on_lem}
use Rattle.standard.proofs.Sniffing.{all_read}
use Rattle.decoder.specs.Record.{holding, new_spot}
use Rattle.decoder.specs.Valid.{possible, possible_at, unused, valid_rest, valid}
use Rattle.decoder.specs.Calls.{open_refusal, opening, feed_refusal, feeding, finish_refusal, finishing}
use Rattle.demands.specs.Histories.{Call, feed, after, start}
use Rattle.demands.specs.Statements.{Piece, joined, cutting, reports, Account, account, Accepts, AllFeeds}
use Rattle.demands.specs.Whole.{dealt, whole_account}
use Rattle.demands.specs.Fields.{handed_by, Fields, SameLines, one_range, half, DigitsSwallowed}
use Rattle.demands.proofs.Steps.{kept_new}
use Rattle.demands.proofs.Cutting.{feeds_give, cut_is_whole}

-- What a sequence leaves where separators are kept: no shift; and if it gives two scalars, none is a separator.
abbrev Lone : Out → Type 0
Lone error = Unit
Lone (text []) = Unit
Lone (text (c ∷ [])) = Unit
Lone (text (c ∷ d ∷ cs)) = separators (c ∷ d ∷ cs) ≡ []

abbrev Plain : ℕ → Shift → Out → Type 0
Plain w s o = (s ≡ plain) × Lone o

no_mark : (a : Next) → Front Plain a → Front Plain (unmarked false a)
no_mark more h = record { holds = tt }
no_mark (item w s o) h = record { holds = h.holds }

-- by a walk over each definition's text
next_plain : (t : Tables) (f : Family) → T (keeps f) → (xs : List ℕ) → Front Plain (next t f plain xs)
unfolding traits separators next utf8 single_byte gb18030 big5 big5_pair euc_jp shift_jis euc_kr user_defined
next_plain t UTF-8 k xs = no_mark (utf8 xs) (search (front_await, front_test, front_item) depth 20)
next_plain t single-byte k xs = search (front_await, front_test, front_item) depth 20
next_plain t windows-1252 k xs = search (front_await, front_test, front_item) depth 20
next_plain t GB18030 k xs = search (front_await, front_test, front_item) depth 20
next_plain t Big5 k xs = search (front_await, front_test, front_item) depth 20
next_plain t EUC-JP k xs = search (front_await, front_test, front_item) depth 20
next_plain t ISO-2022-JP k xs = absurd k
next_plain t Shift-JIS k xs = search (front_await, front_test, front_item) depth 20
next_plain t EUC-KR k xs = search (front_await, front_test, front_item) depth 20
next_plain t Replacement k xs = absurd k
next_plain t UTF-16BE k xs = absurd k
next_plain t UTF-16LE k xs = absurd k
next_plain t x-user-defined k xs = search (front_await, front_test, front_item) depth 20

-- Bytes that end in a separator b: what a sequence of them gives is b alone, and nothing is left behind it.
module _ (b : ℕ) (h : b < 0x30) where
  seps_last : (ys : List ℕ) → separators (ys ++ b ∷ []) ≡ separators ys ++ b ∷ []
  unfolding separators
  seps_last ys = separators_append ys (b ∷ []) ∙ rw (lt-ltb b 0x30 h)

  not_none : (zs : List ℕ) → [] ≡ zs ++ b ∷ [] → ⊥
  not_none zs e = omega (arith, ap length e, length-append zs (b ∷ []))

  only_one : (c : ℕ) (zs : List ℕ) → c ∷ [] ≡ zs ++ b ∷ [] → c ∷ [] ≡ b ∷ []
  only_one c [] e = e
  only_one c (z ∷ zs) e = absurd (omega (arith, ap length e, length-append zs (b ∷ [])))

  lone_is : (o : Out) (zs : List ℕ) → Lone o → separators (given o) ≡ zs ++ b ∷ [] → given o ≡ b ∷ []
  unfolding separators
  lone_is error zs l e = absurd (not_none zs e)
  lone_is (text []) zs l e = absurd (not_none zs e)
  lone_is (text (c ∷ [])) zs l e = go (ltb c 0x30) e
    where
      go : (u : Bool) → (u then c ∷ [] else []) ≡ zs ++ b ∷ [] → c ∷ [] ≡ b ∷ []
      go true e = only_one c zs e
      go false e = absurd (not_none zs e)
  lone_is (text (c ∷ d ∷ cs)) zs l e = absurd (not_none zs (sym l ∙ e))

  -- Bytes that end in b, all read: no shift and no byte are left, and b is the last scalar.
  record Ended (r : Read) : Type 0 where
    unshifted : r.shift ≡ plain
    all_read : r.rest ≡ []
    ahead : List ℕ
    ends : shown r.items ≡ ahead ++ b ∷ []

  module _ (t : Tables) (f : Family) (k : T (keeps f)) where
    abbrev Ends : Shift → List ℕ → Read → Type 0
    Ends s xs r = s ≡ plain → (xs ≡ [] → r ≡ stop plain []) × ((ys : List ℕ) → xs ≡ ys ++ b ∷ [] → Ended r)

    ends_more : (s : Shift) (xs : List ℕ) → next t f s xs ≡ more → Ends s xs (stop s xs)
    ends_more s xs w p = (
      λ q i. stop (p i) (q i),
      λ ys q. absurd (not_none (separators ys) (sym (none_held_lem t f k s xs w) ∙ ap separators q ∙ seps_last ys)),
    )

    ends_item : (s : Shift) (xs : List ℕ) (w : ℕ) (s' : Shift) (o : Out) (r : Read) →
        next t f s xs ≡ item w s' o → Ends s' (drop w xs) r → Ends s xs (put w o r)
    unfolding shown
    ends_item s xs w s' o r e ih p = (
      λ q. absurd (omega (arith, L.1, L.2, ap length q)),
      λ ys q. go ys q (leb w (length ys)) refl,
    )
      where
        L : Law (keeps f) xs (item w s' o) (next t f s (xs ++ []))
        L = at_item (keeps f) (next t f) (next_laws t f) s xs e []

        F : Front Plain (item w s' o)
        F = subst (Front Plain) (ap (λ (s : Shift). next t f s xs) (sym p) ∙ e) (next_plain t f k xs)

        -- b is behind this sequence, or its last byte
        go : (ys : List ℕ) → xs ≡ ys ++ b ∷ [] → (u : Bool) → leb w (length ys) ≡ u → Ended (put w o r)
        go ys q true c =
            let I = (ih F.holds.0).1 (drop w ys) (ap (drop w) q ∙ drop-append-le w ys (b ∷ []) (leb-true w (length ys) c)) in
            record {
              unshifted = I.unshifted;
              all_read = I.all_read;
              ahead = given o ++ I.ahead;
              ends = shown_cons w o r.items ∙ ap (λ (l : List ℕ). given o ++ l) I.ends ∙
                  sym (append_assoc (given o) I.ahead (b ∷ []));
            }
        go ys q false c =
            let n : w ≡ length xs = omega (arith, L.2, leb-false w (length ys) c, ap length q, length-append ys (b ∷ [])) in
            let I = (ih F.holds.0).0 (ap (λ (n : ℕ). drop n xs) n ∙ drop-length xs) in
            let g : given o ≡ b ∷ [] = lone_is o (separators ys) F.holds.1
            (sym (L.4 k) ∙ ap separators (take_all w xs (omega arith) ∙ q) ∙ seps_last ys) in
            record {
              unshifted = ap (λ (r : Read). r.shift) I;
              all_read = ap (λ (r : Read). r.rest) I;
              ahead = [];
              ends = shown_cons w o r.items ∙ rw (I, g);
            }

    -- what is read of an input up to and with b
    ended : (xs : List ℕ) → Ended (decode (next t f) plain (xs ++ b ∷ []))
    ended xs = (walk (keeps f) (next t f) (next_laws t f) Ends ends_more ends_item plain (xs ++ b ∷ []) refl).1 xs refl

    -- The whole is the part up to and with b, not finished, and then the rest, read afresh.
    parted : (xs ys : List ℕ) → shown (everything t f plain (xs ++ b ∷ ys)) ≡
        shown (decode (next t f) plain (xs ++ b ∷ [])).items ++ shown (everything t f plain ys)
    unfolding everything
    parted xs ys =
        let r = decode (next t f) plain (xs ++ b ∷ []) in
        ap shown (rw (
          ← append_assoc xs (b ∷ []) ys,
          chunks (keeps f) (next t f) (next_laws t f) plain (xs ++ b ∷ []) ys,
          (ended xs).unshifted,
          (ended xs).all_read,
        ) (append_assoc r.items _ _)) ∙
        shown_append r.items (everything t f plain ys)

-- Replacing mode, the mark kept.
module _ (t : Tables) (e : ℕ) (o : open_refusal e 0 1 ≡ 0) where
  -- an accepted cutting hands out all that its bytes give
  handed_all : (ps : List Piece) (last xs : List ℕ) → joined ps ≡ xs → Accepts t (start e 0 1) ps last →
      handed_by t e ps last ≡ shown (everything t (family e) plain xs)
  unfolding whole_account dealt reader
  handed_all ps last xs j a =
      ap (λ (x : Account). x.handed) (cut_is_whole t e 0 1 o ps last a) ∙ rw (kept_new e, j, all_read t e (spot 0 plain) xs refl)

  -- feeds, refused ones among them, hand out what their bytes show, and the decoder stands where reading stands
  fed : (cs : List Call) (xs : List ℕ) → AllFeeds t cs →
      let h = after (start e 0 1) cs in let r = decode (next t (family e)) plain xs in h.taken ≡ xs →
      (h.handed ≡ shown r.items) × (h.decoder ≡ holding e 0 (length xs) (line_feeds h.handed) (spot 0 r.shift) r.rest)
  unfolding reader
  fed cs xs a taken =
      let h = after (start e 0 1) cs in
      let g = feeds_give t e 0 1 o cs a refl in
      let same : read_from t e (new_spot e 1) h.taken ≡ lift 0 (decode (next t (family e)) plain xs) =
      rw (kept_new e, taken) (read_on_lem t e (spot 0 plain) xs refl) in (
        g.0 ∙ (λ i. shown (same i).items),
        g.1 ∙ (λ i. holding e 0 (length (taken i)) (line_feeds h.handed) (same i).spot (same i).rest),
      )

pub fields : (t : Tables) (e : ℕ) → open_refusal e 0 1 ≡ 0 → T (traits (family e)).separators →
    (xs ys : List ℕ) (b : ℕ) → b < 0x30 → Fields t e xs b ys
fields t e o k xs ys b h = record {
  by_calls = λ cs a taken ps qs last last' p q u v.
      handed_all t e o ps last (xs ++ b ∷ ys) p u ∙ parted b h t (family e) k xs ys ∙
      sym (λ i. (fed t e o cs (xs ++ b ∷ []) a taken).0 i ++ handed_all t e o qs last' ys q v i);
  as_new = λ cs a taken.
      let d = ended b h t (family e) k xs in
      let n = line_feeds (after (start e 0 1) cs).handed in
      (fed t e o cs (xs ++ b ∷ []) a taken).1 ∙
      (λ i. holding e 0 (length-append xs (b ∷ []) i) n (spot 0 (d.unshifted i)) (d.all_read i)) ∙
      ap (λ (p : Spot). holding e 0 (length xs + 1) n p []) (sym (kept_new e));
  by_standard = λ p.
      let p' : Bytes ((xs ++ b ∷ []) ++ ys) = subst Bytes (sym (append_assoc xs (b ∷ []) ys)) p in
      rw (
        standard_replacing t (family e) (xs ++ b ∷ ys) p,
        so_far_lem t (family e) (xs ++ b ∷ []) (bytes_left (xs ++ b ∷ []) ys p'),
        standard_replacing t (family e) ys (bytes_right (xs ++ b ∷ []) ys p'),
      ) (ap some (parted b h t (family e) k xs ys));
}

pub same_lines : (t : Tables) (e : ℕ) → open_refusal e 0 1 ≡ 0 → T (traits (family e)).separators →
    (xs xs' ys : List ℕ) → SameLines t e xs xs' ys
same_lines t e o k xs xs' ys = record {
  fronts = λ ps ps' last last' p p' a a'.
      ((line xs).ahead, (line xs').ahead, rest, behind_line_lem ps last xs p a, behind_line_lem ps' last' xs' p' a');
}
  where
    rest : List ℕ
    rest = shown (everything t (family e) plain ys)

    line : (xs : List ℕ) → Ended 0x0A (lit≤ tt) (decode (next t (family e)) plain (xs ++ 0x0A ∷ []))
    line xs = ended 0x0A (lit≤ tt) t (family e) k xs

    behind_line_lem : (ps : List Piece) (last xs : List ℕ) → joined ps ≡ xs ++ 0x0A ∷ ys → Accepts t (start e 0 1) ps last →
        handed_by t e ps last ≡ (line xs).ahead ++ 0x0A ∷ rest
    behind_line_lem ps last xs p a =
        handed_all t e o ps last (xs ++ 0x0A ∷ ys) p a ∙ parted 0x0A (lit≤ tt) t (family e) k xs ys ∙
        ap (λ (l : List ℕ). l ++ rest) (line xs).ends ∙ append_assoc (line xs).ahead (0x0A ∷ []) rest

pub digits_swallowed : DigitsSwallowed
unfolding family traits fits account cutting joined after reports start opening open_refusal feeding feed_refusal finishing finish_refusal
    valid valid_rest unused possible_at possible rests line_feeds read_from end_from reader decode reads ending one_error shown broken before
    next cell gb18030 gb18030_range gb18030_four_code gb18030_four_pointer pointer_of pair_code Accepts AllFeeds
digits_swallowed = record {
  whole = refl;
  part = refl;
  rest = refl;
  not_parted = λ x.
      let all : Piece = record { chunk = half ++ half; room = replicate 7 0 } in
      let one : Piece = record { chunk = half; room = replicate 5 0 } in
      let last : List ℕ = replicate 3 0 in
      let z : ◌≡◌ {A = List ℕ} (0x80 ∷ []) (0xFFFD ∷ []) = x.by_calls (feed half one_range one.room ∷ []) (refl, tt) refl
      (all ∷ []) (one ∷ []) last last refl refl (refl, λ n. refl) (refl, λ n. refl) in
      absurd (omega (arith, ap (λ (l : List ℕ). get_or l 0 0) z));
}
