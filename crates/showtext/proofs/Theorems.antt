-- The promises of specs/Statements.antt. Assumes nothing.
use mathlib.Core.Path.{◌≡◌, refl, sym, ap, ◌∙◌, subst}
use mathlib.Core.Bool.{true, false}
use mathlib.Core.List.{List, [], ◌∷◌, ◌++◌, append_assoc, append-nil}
use Prim.Native.Nat.{ℕ, ◌+◌, ◌≤◌, ◌<◌}
use native.Mathlib.Nat.{zero-add}
use native.Mathlib.Omega.{arith}
use lib.Dec.{ltb, eqb}
use lib.ListN.{length, take, drop, length-append}
use lib.Seq.{take-append_seam, length-take-le}
use borrow.Author.Tests.{lt-ltb, le-ltb, eq-eqb, ne_eqb, ltb-true, ltb-false, eqb-true, eqb-false}
use Rattle.standard.specs.Base.{◌then◌else◌}
use Rattle.standard.specs.Text.{bytes}
use Rattle.standard.specs.Encodings.{family, traits, no_tables, fits}
use Rattle.standard.specs.Indexes.{irregular, count_from, windows1252}
use Rattle.standard.specs.Sequence.{cell}
use Rattle.standard.specs.Sequences.SingleByte.{single_byte}
use Rattle.standard.specs.Next.{next}
use Rattle.standard.specs.Decode.{reads, decode, one_error, ending, shown, everything}
use Rattle.standard.proofs.Tests.{split}
use Rattle.labels_spec.specs.Labels.{table, trimmed, same, among, find, label, name}
use Rattle.labels_spec.specs.Labels.{start as start_of}
use Rattle.labels_spec.specs.declared.Found.{Found}
use Rattle.standard.specs.Choice.{reader}
use Rattle.standard.proofs.Stages.{none_rest}
use Rattle.standard.proofs.Sniffing.{all_read}
use Rattle.decoder.specs.Record.{holding, new_shift, new_spot}
use Rattle.decoder.specs.Calls.{Outcome, open_refusal, opening, feed_refusal, feeding, finishing}
use Rattle.demands.specs.Histories.{Call, History, noted, after, start}
use Rattle.demands.specs.Statements.{Piece, cutting, Account, account, Roomy, Accepts}
use Rattle.demands.specs.Statements.{joined as joined_pieces}
use Rattle.demands.specs.Whole.{dealt, whole_account}
use Rattle.decoder.specs.declared.Decoder.{Decoder}
use Rattle.demands.proofs.Steps.{opened_is, feed_holding}
use Rattle.demands.proofs.Validity.{valid_opening}
use Rattle.demands.proofs.Cutting.{cut_is_whole}
use Rattle.demands.proofs.Rooms.{roomy, room_kept}
use Rattle.program_text.proofs.FirstLine.{line_longer, after_few, line_cut, known_below}
use Rattle.showtext.specs.Output.{first_line, after_line, digits, count, line, refused, scalar_lines, printed}
use Rattle.showtext.specs.Program.{Shown, Leaves, leave, lines_of, beginning, going_on, closing, turning, next_step, text, later, program, by_step}
use Rattle.showtext.specs.Statements.{joined, Small, Filled, Prints}
use Rattle.showtext.proofs.Texts.{scalar_lines-append}
use Rattle.showtext.proofs.Buffers.{feed_few, finish_few, found, opened, fed, on_fed, going_is, at_long, at_unknown, at_refused, at_fed}

-- What a call prints is its text.
text_is : (d : Decoder) (n number : ℕ) (us room out : List ℕ) → text (leave d n number us room out) ≡ us
text_is d n number us room out = take-append_seam us (drop (length us) out)

-- The feeds of further buffers, each with the room that the one before it left, and the room of the finish.
pieces : Decoder → List ℕ → List (List ℕ) → List Piece
pieces d room [] = []
pieces d room (b ∷ bs) = let o = feeding d no_tables b room in record { chunk = b; room = room } ∷ pieces o.answer.decoder o.room bs

last_room : Decoder → List ℕ → List (List ℕ) → List ℕ
last_room d room [] = room
last_room d room (b ∷ bs) = let o = feeding d no_tables b room in last_room o.answer.decoder o.room bs

calls : Decoder → List ℕ → List (List ℕ) → List Call
calls d room bs = cutting no_tables (pieces d room bs) (last_room d room bs)

pieces_joined : (d : Decoder) (room : List ℕ) (bs : List (List ℕ)) → joined_pieces (pieces d room bs) ≡ joined bs
unfolding pieces joined joined_pieces
pieces_joined d room [] = refl
pieces_joined d room (b ∷ bs) = let o = feeding d no_tables b room in ap (λ (l : List ℕ). b ++ l) (pieces_joined o.answer.decoder o.room bs)

pieces_roomy : (d : Decoder) (room : List ℕ) (bs : List (List ℕ)) → 4099 ≤ length room → Small bs → Roomy (pieces d room bs) (last_room d room bs)
unfolding pieces last_room Small Roomy
pieces_roomy d room [] h s = omega arith
pieces_roomy d room (b ∷ bs) h s =
    let o = feeding d no_tables b room in
    (omega (arith, s.0), omega (arith, s.0, h), pieces_roomy o.answer.decoder o.room bs (omega (arith, h, (room_kept d).fed no_tables b room)) s.1)

-- The lines of all scalars, and the last line.
abbrev ended : List ℕ → List ℕ
ended cs = scalar_lines 0 cs ++ line (bytes "end") (count (length cs))

-- The scalars of a call come behind those handed out before it.
module _ (handed : List ℕ) (n : ℕ) (k : n ≡ length handed) (o : Outcome) (few : o.answer.written ≤ length o.room) where
  abbrev now : List ℕ
  now = handed ++ take o.answer.written o.room

  counted : n + o.answer.written ≡ length now
  counted = omega (arith, k, length-append handed (take o.answer.written o.room), length-take-le o.answer.written o.room few)

  behind : (us : List ℕ) → scalar_lines 0 handed ++ (lines_of n o ++ us) ≡ scalar_lines 0 now ++ us
  behind us =
      let cs = take o.answer.written o.room in
      let e : scalar_lines 0 now ≡ scalar_lines 0 handed ++ lines_of n o = scalar_lines-append 0 handed cs ∙ ap (λ (m : ℕ). scalar_lines 0 handed ++ scalar_lines m cs) (zero-add (length handed) ∙ sym k) in
      sym (append_assoc (scalar_lines 0 handed) (lines_of n o) us) ∙ ap (λ (l : List ℕ). l ++ us) (sym e)

-- A further buffer that is not refused.
went_on : (d : Decoder) (n : ℕ) (b room out : List ℕ) → let o = feeding d no_tables b room in
    o.answer.refusal ≡ 0 → going_on d n b room out ≡ leave o.answer.decoder (n + o.answer.written) 0 (lines_of n o) o.room out
went_on d n b room out z = going_is d n b room out ∙ on_fed [] d n b room out z

-- No further buffer is refused.
GoesOn : Leaves → List (List ℕ) → Type 0
GoesOn l [] = Unit
GoesOn l (b ∷ bs) =
    let d = l.shown.decoder in
    ((feeding d no_tables b l.room).answer.refusal ≡ 0) × GoesOn (going_on d l.shown.count b l.room l.out) bs

later_is : (bs : List (List ℕ)) (l : Leaves) (taken handed : List ℕ) → GoesOn l bs → l.shown.count ≡ length handed →
    scalar_lines 0 handed ++ later l bs ≡ ended (after (record { taken = taken; handed = handed; decoder = l.shown.decoder }) (calls l.shown.decoder l.room bs)).handed
unfolding later closing GoesOn calls pieces last_room cutting after
later_is [] l taken handed g k =
    let d = l.shown.decoder in
    let n = l.shown.count in
    let o = finishing d no_tables l.room in
    let few : o.answer.written ≤ length o.room = omega (arith, finish_few d l.room, (room_kept d).finished no_tables l.room) in
    ap (λ (t : List ℕ). scalar_lines 0 handed ++ t) (text_is o.answer.decoder (n + o.answer.written) o.answer.refusal (lines_of n o ++ line (bytes "end") (count (n + o.answer.written))) o.room l.out) ∙
    behind handed n k o few (line (bytes "end") (count (n + o.answer.written))) ∙
    ap (λ (m : ℕ). scalar_lines 0 (now handed n k o few) ++ line (bytes "end") (count m)) (counted handed n k o few)
later_is (b ∷ bs) l taken handed g k =
    let d = l.shown.decoder in
    let n = l.shown.count in
    let o = feeding d no_tables b l.room in
    let few : o.answer.written ≤ length o.room = omega (arith, feed_few d no_tables b l.room, (room_kept d).fed no_tables b l.room) in
    let l' = leave o.answer.decoder (n + o.answer.written) 0 (lines_of n o) o.room l.out in
    let e : going_on d n b l.room l.out ≡ l' = went_on d n b l.room l.out g.0 in
    ap (λ (l : Leaves). scalar_lines 0 handed ++ (text l ++ later l bs)) e ∙
    ap (λ (t : List ℕ). scalar_lines 0 handed ++ (t ++ later l' bs))
    (text_is o.answer.decoder (n + o.answer.written) 0 (lines_of n o) o.room l.out) ∙
    behind handed n k o few (later l' bs) ∙
    later_is bs l' (noted (record { taken = taken; handed = handed; decoder = d }) b o).taken (now handed n k o few)
    (subst (λ (l : Leaves). GoesOn l bs) e g.1) (counted handed n k o few)

-- A feed in replacing mode that is accepted reports nothing.
fed_on : (d : Decoder) (b room : List ℕ) → d.mode ≡ 0 → feed_refusal d no_tables b room ≡ 0 →
    ((feeding d no_tables b room).answer.refusal ≡ 0) × ((feeding d no_tables b room).answer.decoder.mode ≡ 0)
unfolding feeding
fed_on d b room m z = rw (eq-eqb (feed_refusal d no_tables b room) 0 z, m) (refl, refl)

goes_on : (bs : List (List ℕ)) (l : Leaves) (taken handed last : List ℕ) → l.shown.decoder.mode ≡ 0 →
    Accepts no_tables (record { taken = taken; handed = handed; decoder = l.shown.decoder }) (pieces l.shown.decoder l.room bs) last → GoesOn l bs
unfolding GoesOn pieces Accepts
goes_on [] l taken handed last m a = tt
goes_on (b ∷ bs) l taken handed last m a =
    let d = l.shown.decoder in
    let n = l.shown.count in
    let o = feeding d no_tables b l.room in
    let h = noted (record { taken = taken; handed = handed; decoder = d }) b o in
    let ok = fed_on d b l.room m a.0 in
    let l' = leave o.answer.decoder (n + o.answer.written) 0 (lines_of n o) o.room l.out in
    (ok.0, subst (λ (l : Leaves). GoesOn l bs) (sym (went_on d n b l.room l.out ok.0)) (goes_on bs l' h.taken h.handed last ok.1 (a.1 (rw ok.0 refl))))

-- The steps behind a buffer print what comes later.
rest_is : (full : ℕ) (b : List ℕ) (bs : List (List ℕ)) (l : Leaves) (step : ℕ) → eqb step 2 ≡ false → GoesOn l bs → Filled full b bs →
    (ltb (next_step step 0 (length b) full) 3 then by_step full (next_step step 0 (length b) full) l.shown l.room l.out (bs ++ ([] ∷ [])) else []) ≡ later l bs
unfolding later by_step turning GoesOn Filled
rest_is full b [] l step e g f = rw (e, lt-ltb (length b) full f) (append-nil _)
rest_is full b (c ∷ bs) l step e g f =
    let d = l.shown.decoder in
    let n = l.shown.count in
    let l' = going_on d n c l.room l.out in
    let z : l'.shown.refusal ≡ 0 = ap (λ (l : Leaves). l.shown.refusal) (went_on d n c l.room l.out g.0) in
    let behind : ℕ → List ℕ = λ r. ltb (next_step 1 r (length c) full) 3 then by_step full (next_step 1 r (length c) full) l'.shown l'.room l'.out (bs ++ ([] ∷ [])) else [] in
    let k : full ≤ length b = omega (arith, f.0) in
    rw (e, le-ltb (length b) full k) (ap (λ (r : ℕ). text l' ++ behind r) z ∙ ap (λ (t : List ℕ). text l' ++ t) (rest_is full c bs l' 1 refl g.1 f.1))

-- A buffer behind the limit: its line, and nothing more.
past_limit : (d : Decoder) (n : ℕ) (b room out : List ℕ) → feed_refusal d no_tables b room ≡ 14 →
    going_on d n b room out ≡ leave d 0 14 (refused 14) room out
unfolding going_on feeding
past_limit d n b room out z = rw z

too_much : (full : ℕ) (s : Shown) (room out b : List ℕ) (bs : List (List ℕ)) → feed_refusal s.decoder no_tables b room ≡ 14 →
    by_step full 1 s room out (b ∷ bs) ≡ bytes "refused\t14\n"
unfolding by_step turning digits bytes
too_much full s room out b bs z =
    let from : Leaves → List ℕ = λ l. let next = next_step 1 l.shown.refusal (length b) full in
    text l ++ (ltb next 3 then by_step full next l.shown l.room l.out bs else []) in
    ap from (past_limit s.decoder s.count b room out z) ∙ append-nil _ ∙ text_is s.decoder 0 14 (refused 14) room out

-- The first feed, of an encoding that may be opened.
module _ (e : ℕ) (o : open_refusal e 0 0 ≡ 0) (chunk room : List ℕ) where
  abbrev new : Decoder
  new = (opening e 0 0).decoder

  new_is : new ≡ holding e 0 0 0 (new_spot e 0) []
  unfolding start
  new_is = ap (λ (h : History). h.decoder) (opened_is e 0 0 o)

  feed_accepted : feed_refusal new no_tables chunk room ≡ 0 → (feeding new no_tables chunk room).answer.refusal ≡ 0
  feed_accepted z =
      let z' : feed_refusal (holding e 0 0 0 (new_spot e 0) []) no_tables chunk room ≡ 0 = rw new_is at z in
      rw (new_is, feed_holding e 0 0 0 (new_spot e 0) [] no_tables chunk room (none_rest e (new_spot e 0)) z')

  feed_refused : fits (family e) no_tables ≡ false → (feeding new no_tables chunk room).answer.refusal ≡ 4
  unfolding feeding feed_refusal
  feed_refused f = rw new_is (rw (rw new_is at (valid_opening e 0 0), f))

module _ (room out first : List ℕ) (bs : List (List ℕ)) (h : 4099 ≤ length room) (c : length first < 256 → bs ≡ []) (s : Small (first ∷ bs))
    (u : length (after_line (first ++ joined bs)) ≤ 4294967295) where
  abbrev F : Found
  F = found first room out

  abbrev D : Decoder
  D = opened first room out

  abbrev O : Outcome
  O = fed first room out

  -- all that is printed, from what the first buffer leaves
  abbrev whole_from : Leaves → List ℕ
  whole_from l = eqb l.shown.refusal 0 then text l ++ later l bs else text l

  refuses : (d : Decoder) (number : ℕ) (us room' : List ℕ) → beginning first room out ≡ leave d 0 number us room' out → eqb number 0 ≡ false → program room out first bs ≡ us
  unfolding program
  refuses d number us room' e z = ap whole_from e ∙ rw z (text_is d 0 number us room' out)

  long : 255 < length (first_line first) → program room out first bs ≡ printed (first ++ joined bs)
  unfolding printed
  long l = refuses D 1 (refused 1) room (at_long first room out l) refl ∙ sym (rw (lt-ltb 255 (length (first_line (first ++ joined bs))) (omega (arith, l, line_longer first (joined bs)))))

  module _ (few : length (first_line first) ≤ 255) where
    none_behind : length first < 256 → joined bs ≡ []
    unfolding joined
    none_behind l = rw (c l)

    abbrev cut : (first_line (first ++ joined bs) ≡ first_line first) × (after_line (first ++ joined bs) ≡ after_line first ++ joined bs)
    cut = line_cut first (joined bs) none_behind few

    unknown : F.refusal ≡ 1 → program room out first bs ≡ printed (first ++ joined bs)
    unfolding printed
    unknown e = refuses D 1 (refused 1) room (at_unknown first room out few e) refl ∙ sym (rw (cut.0, le-ltb 255 (length (first_line first)) few, eq-eqb F.refusal 1 e))

    module _ (e : F.refusal ≡ 1 → ⊥) where
      opens : open_refusal F.encoding 0 0 ≡ 0
      unfolding open_refusal
      opens = rw (le-ltb 39 F.encoding (known_below (first_line first) e))

      missing : fits (family F.encoding) no_tables ≡ false → program room out first bs ≡ printed (first ++ joined bs)
      unfolding printed
      missing f =
          let four : O.answer.refusal ≡ 4 = feed_refused F.encoding opens (after_line first) room f in
          let z : O.answer.refusal ≡ 0 → ⊥ = λ q. omega (arith, four, q) in
          refuses D O.answer.refusal (refused O.answer.refusal) O.room (at_refused first room out few e z) (ne_eqb O.answer.refusal 0 z) ∙ ap refused four ∙
          sym (rw (cut.0, le-ltb 255 (length (first_line first)) few, ne_eqb F.refusal 1 e, f))

      -- the feeds and the finish
      abbrev ps : List Piece
      ps = record { chunk = after_line first; room = room } ∷ pieces O.answer.decoder O.room bs

      abbrev last : List ℕ
      last = last_room O.answer.decoder O.room bs

      module _ (f : fits (family F.encoding) no_tables ≡ true) where
        -- the bytes of all feeds
        fed_bytes : joined_pieces ps ≡ after_line (first ++ joined bs)
        unfolding joined_pieces
        fed_bytes = ap (λ (ys : List ℕ). after_line first ++ ys) (pieces_joined O.answer.decoder O.room bs) ∙ sym cut.1

        accepts : Accepts no_tables (start F.encoding 0 0) ps last
        unfolding Roomy Small
        accepts = roomy no_tables F.encoding 0 0 opens ps last f (rw fed_bytes u)
            (omega (arith, s.0, after_few first), omega (arith, s.0, h, after_few first), pieces_roomy O.answer.decoder O.room bs (omega (arith, h, (room_kept D).fed no_tables (after_line first) room)) s.1)

        accepted : O.answer.refusal ≡ 0
        unfolding Accepts start
        accepted = feed_accepted F.encoding opens (after_line first) room accepts.0

        abbrev began : Leaves
        began = leave O.answer.decoder O.answer.written 0 (line (bytes "encoding") (name F.encoding) ++ lines_of 0 O)
            O.room out

        goes_on_began : GoesOn began bs
        unfolding Accepts start
        goes_on_began =
            let d : D.mode ≡ 0 = ap (λ (d : Decoder). d.mode) (new_is F.encoding opens (after_line first) room) in
            let n = noted (start F.encoding 0 0) (after_line first) O in
            goes_on bs began n.taken n.handed last (fed_on D (after_line first) room d accepts.0).1 (accepts.1 (rw accepted refl))

        goes_on_listed : GoesOn (beginning first room out) bs
        goes_on_listed = subst (λ (l : Leaves). GoesOn l bs) (sym (at_fed first room out few e accepted)) goes_on_began

        all : List ℕ
        all = shown (everything no_tables (family F.encoding) (new_shift F.encoding 0) (after_line (first ++ joined bs)))

        -- what the calls hand out in all
        handed : (after (start F.encoding 0 0) (cutting no_tables ps last)).handed ≡ all
        unfolding account whole_account dealt all reader
        handed = ap (λ (a : Account). a.handed) (cut_is_whole no_tables F.encoding 0 0 opens ps last accepts) ∙
            ap shown (all_read no_tables F.encoding (new_spot F.encoding 0) (joined_pieces ps) refl) ∙
            ap (λ (xs : List ℕ). shown (everything no_tables (family F.encoding) (new_shift F.encoding 0) xs)) fed_bytes

        -- the lines behind the first
        lines : lines_of 0 O ++ later began bs ≡ ended all
        unfolding start cutting after calls
        lines =
            let few' : O.answer.written ≤ length O.room = omega (arith, feed_few D no_tables (after_line first) room, (room_kept D).fed no_tables (after_line first) room) in
            later_is bs began (noted (start F.encoding 0 0) (after_line first) O).taken
            (take O.answer.written O.room) goes_on_began (sym (length-take-le O.answer.written O.room few')) ∙
            ap ended handed

        listed : program room out first bs ≡ printed (first ++ joined bs)
        unfolding program printed all
        listed =
            let us = line (bytes "encoding") (name F.encoding) in
            ap whole_from (at_fed first room out few e accepted) ∙
            ap (λ (t : List ℕ). t ++ later began bs)
            (text_is O.answer.decoder O.answer.written 0 (us ++ lines_of 0 O) O.room out) ∙
            append_assoc us (lines_of 0 O) (later began bs) ∙ ap (λ (t : List ℕ). us ++ t) lines ∙
            sym (rw (cut.0, le-ltb 255 (length (first_line first)) few, ne_eqb F.refusal 1 e, f))

  abbrev number : Leaves → ℕ
  number l = l.shown.refusal

  -- behind a first buffer that is not refused
  goes_on_all : (beginning first room out).shown.refusal ≡ 0 → GoesOn (beginning first room out) bs
  goes_on_all z = split (ltb 255 (length (first_line first)))
      (λ l. absurd (omega (arith, z, ap number (at_long first room out (ltb-true 255 (length (first_line first)) l)))))
      (λ l. let few = ltb-false 255 (length (first_line first)) l in split (eqb F.refusal 1)
      (λ e. absurd (omega (arith, z, ap number (at_unknown first room out few (eqb-true F.refusal 1 e)))))
      (λ e. let known = eqb-false F.refusal 1 e in split (fits (family F.encoding) no_tables) (goes_on_listed few known)
      (λ f. let four = feed_refused F.encoding (opens few known) (after_line first) room f in
      let w : O.answer.refusal ≡ 0 → ⊥ = λ q. omega (arith, four, q) in
      absurd (omega (arith, z, four, ap number (at_refused first room out few known w))))))

  by_steps : (full : ℕ) (s₀ : Shown) → Filled full first bs → by_step full 0 s₀ room out (first ∷ bs ++ ([] ∷ [])) ≡ program room out first bs
  unfolding by_step turning program
  by_steps full s₀ f =
      let l = beginning first room out in
      split (eqb l.shown.refusal 0)
      (λ z. rw z (ap (λ (t : List ℕ). text l ++ t) (rest_is full first bs l 0 refl (goes_on_all (eqb-true l.shown.refusal 0 z)) f)))
      (λ z. rw z (append-nil (text l)))

  all_cases : program room out first bs ≡ printed (first ++ joined bs)
  all_cases = split (ltb 255 (length (first_line first)))
      (λ l. long (ltb-true 255 (length (first_line first)) l))
      (λ l. let few = ltb-false 255 (length (first_line first)) l in split (eqb F.refusal 1)
      (λ e. unknown few (eqb-true F.refusal 1 e))
      (λ e. let known = eqb-false F.refusal 1 e in split (fits (family F.encoding) no_tables) (listed few known) (missing few known)))

-- Buffers that are filled are small, and the first is long or the whole input.
filled_small : (full : ℕ) (b : List ℕ) (bs : List (List ℕ)) → full ≤ 4096 → Filled full b bs → Small (b ∷ bs)
unfolding Filled Small
filled_small full b [] h f = (omega (arith, h, f), tt)
filled_small full b (c ∷ bs) h f = (omega (arith, h, f.0), filled_small full c bs h f.1)

filled_first : (full : ℕ) (b : List ℕ) (bs : List (List ℕ)) → 256 ≤ full → Filled full b bs → length b < 256 → bs ≡ []
unfolding Filled
filled_first full b [] h f l = refl
filled_first full b (c ∷ bs) h f l = absurd (omega (arith, h, l, f.0))

steps_print : (full : ℕ) (s : Shown) (room out first : List ℕ) (bs : List (List ℕ)) → 4099 ≤ length room → 256 ≤ full → full ≤ 4096 → Filled full first bs →
    length (after_line (first ++ joined bs)) ≤ 4294967295 → by_step full 0 s room out (first ∷ bs ++ ([] ∷ [])) ≡ printed (first ++ joined bs)
steps_print full s room out first bs h low high f u =
    let c = filled_first full first bs low f in
    let small = filled_small full first bs high f in
    by_steps room out first bs h c small u full s f ∙ all_cases room out first bs h c small u

pub prints : Prints
unfolding printed digits scalar_lines first_line after_line bytes name label table start_of trimmed same among find family traits fits everything decode reads ending one_error shown next single_byte cell windows1252 irregular count_from
prints = record { whole = all_cases; steps = steps_print; too_much = too_much; example = refl; missing = refl }
