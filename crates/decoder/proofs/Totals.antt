-- A decoder has handed out no more line feeds than it has read bytes; so the numbers that a call leaves fit 32 bits. Assumes nothing.
use mathlib.Core.Path.{◌≡◌, refl, sym, ap, subst, ◌∙◌}
use mathlib.Core.Bool.{Bool, true, false, ◌&&◌, not}
use mathlib.Core.List.{List, [], ◌∷◌, ◌++◌}
use Prim.Native.Nat.{ℕ, ◌+◌, ◌-◌, ◌*◌, ◌%◌, ◌≤◌}
use native.Mathlib.Omega.{arith}
use lib.Dec.{T, ltb, leb, eqb, lit≤}
use lib.ListN.{length, drop, length-append}
use lib.Seq.{length-take-le}
use borrow.Author.Tests.{ltb-false, leb-true, eqb-true, eqb-false}
use Rattle.std.specs.Prelude.{Result}
use Rattle.standard.specs.Base.{◌then◌else◌, line_feeds}
use Rattle.standard.specs.Encodings.{Family, UTF-8, single-byte, windows-1252, GB18030, Big5, EUC-JP, ISO-2022-JP}
use Rattle.standard.specs.Encodings.{Shift-JIS, EUC-KR, Replacement, UTF-16BE, UTF-16LE, x-user-defined, family, Tables, no_tables}
use Rattle.standard.specs.Sequence.{Shift, text, plain}
use Rattle.standard.specs.Next.{next}
use Rattle.standard.specs.Items.{Item, span, shown, broken, before, widths, reach}
use Rattle.standard.specs.Decode.{decode, ending, everything}
use Rattle.standard.specs.Choice.{Choice, waiting, label, marked, choose, reader, mark_width, rests}
use Rattle.standard.specs.Choice.{Spot, Parsed, lift, chosen, read_from, end_from}
use Rattle.standard.proofs.Tests.{and_left, and_right}
use Rattle.standard.proofs.LineFeeds.{line_feeds-length}
use Rattle.standard.proofs.Bounds.{Bounded, decode_bounded, ending_bounded, everything_bounded, error_small}
use Rattle.standard.proofs.Stages.{Rests, parsing, ended_from}
use Rattle.reading.specs.Reading.{ReadOutcome}
use Rattle.reading.specs.declared.Left.{Left}
use Rattle.reading.specs.declared.Stop.{Stop}
use Rattle.decoder.specs.Record.{spot_of, held_of}
use Rattle.decoder.specs.Valid.{unshifted, marking, paired, replaced, iso_cost, iso_least, escaping, possible, possible_at}
use Rattle.decoder.specs.Calls.{read_on, read_end}
use Rattle.decoder.specs.Code.{record_refusal, Small, Takes}
use Rattle.decoder.specs.declared.Decoder.{Decoder}
use Rattle.decoder.proofs.Parts.{parts}
use Rattle.decoder.proofs.Checks.{record_good, rest_open, handed_by_lem, left_by, chunk_read, chunk_by, end, end_by, end_read, end_is}

-- where a mark is still to be dropped there are no line feeds
flagged : (b : Bool) (c l : ℕ) {x : Bool} → (x ≡ true → l ≤ c) → (b then eqb c 0 && eqb l 0 else x) ≡ true → l ≤ c
flagged true c l h e = omega (arith, eqb-true l 0 (and_right (eqb c 0) (eqb l 0) e))
flagged false c l h e = h e

module _ (s : Shift) (c l : ℕ) where
  unshifted_lines : unshifted s c l ≡ true → l ≤ c
  unshifted_lines e = leb-true l c (and_right (eqb s.state 0 && not s.flag) (leb l c) e)

  marking_lines : marking s c l ≡ true → l ≤ c
  marking_lines e = flagged s.flag c l (leb-true l c) (and_right (eqb s.state 0) _ e)

  paired_lines : paired s c l ≡ true → l ≤ c
  paired_lines e = flagged s.flag c l (λ h. omega (arith, leb-true (2 * l) c h)) (and_right (eqb s.state 0 && eqb (c % 2) 0) _ e)

  replaced_lines : (m : ℕ) → replaced m s c l ≡ true → l ≤ c
  replaced_lines m e = omega (arith, eqb-true l 0 (and_right (eqb s.state 0) (eqb l 0) (and_left (eqb s.state 0 && eqb l 0) _ e)))

  escaping_lines : (m : ℕ) → escaping m s c l ≡ true → l ≤ c
  escaping_lines m e =
      let n = l + iso_cost m s in
      let h = and_left (leb s.state 3 && leb n c) (leb (iso_least s) c) e in
      omega (arith, leb-true n c (and_right (leb s.state 3) (leb n c) h))

  pub possible_lines : (f : Family) (m : ℕ) → possible f m s c l ≡ true → l ≤ c
  unfolding possible
  possible_lines UTF-8 m e = marking_lines e
  possible_lines single-byte m e = unshifted_lines e
  possible_lines windows-1252 m e = unshifted_lines e
  possible_lines GB18030 m e = unshifted_lines e
  possible_lines Big5 m e = unshifted_lines e
  possible_lines EUC-JP m e = unshifted_lines e
  possible_lines ISO-2022-JP m e = escaping_lines m e
  possible_lines Shift-JIS m e = unshifted_lines e
  possible_lines EUC-KR m e = unshifted_lines e
  possible_lines Replacement m e = replaced_lines m e
  possible_lines UTF-16BE m e = paired_lines e
  possible_lines UTF-16LE m e = paired_lines e
  possible_lines x-user-defined m e = unshifted_lines e

-- the same at a spot: a mark only adds bytes
pub possible_at-lines : (e m : ℕ) (p : Spot) (c l : ℕ) → possible_at e m p c l ≡ true → l ≤ c
unfolding possible_at
possible_at-lines e m p c l = go (eqb p.stage 0) (eqb p.stage 1)
  where
    g : ℕ
    g = p.stage

    s : Shift
    s = p.shift

    go : (x y : Bool) →
        (x then possible (family e) m s c l else
        y then eqb s.state 0 && not s.flag && eqb c 0 && eqb l 0 else
        leb g 4 && not s.flag && leb (mark_width g) c && possible (family (reader e g)) m s (c - mark_width g) l) ≡ true → l ≤ c
    go true y h = possible_lines s c l (family e) m h
    go false true h = omega (arith, eqb-true l 0 (and_right (eqb s.state 0 && not s.flag && eqb c 0) (eqb l 0) h))
    go false false h =
        let n = c - mark_width g in
        omega (arith, possible_lines s n l (family (reader e g)) m (and_right (leb g 4 && not s.flag && leb (mark_width g) c) _ h))

-- what is known of a decoder that is not refused
pub record Counted (d : Decoder) : Type 0 where
  pub held : d.held ≤ d.taken
  pub lines : d.lines ≤ d.taken - d.held
  pub bytes : length (held_of d) ≡ d.held
  pub rest : Rests d.encoding (spot_of d) (held_of d)

pub counted : (d : Decoder) → record_refusal d ≡ 0 → Counted d
counted d good =
    let g = record_good d good in
    let P = parts d g.0 in
    let e = d.encoding in
    let p = spot_of d in
    let a = leb d.held d.taken in
    let b = possible_at e d.mode p (d.taken - d.held) d.lines in
    let r = rests e p (held_of d) in
    let whole = sym (rest_open d (eqb-false d.ended 1 g.1)) ∙ P.rest in
    let v = and_left (a && b) r whole in
    record {
      held = leb-true d.held d.taken (and_left a b v);
      lines = possible_at-lines e d.mode p (d.taken - d.held) d.lines (and_right a b v);
      bytes = length-take-le d.held (d.first ∷ d.second ∷ d.third ∷ []) P.held;
      rest = and_right (a && b) r whole;
    }

-- Before an error there are no more line feeds than bytes, and it has a byte of its own: from every spot. An eaten mark only adds bytes.
mark_bounded : (w : ℕ) (is : List Item) → Bounded is → Bounded (span w (text []) ∷ is)
unfolding before reach widths broken
mark_bounded w is b = record { feeds = omega (arith, b.feeds); own_byte = λ q. omega (arith, b.own_byte q) }

nothing_bounded : Bounded []
unfolding before reach broken line_feeds
nothing_bounded = record { feeds = lit≤ tt; own_byte = λ q. absurd (subst T (sym q) tt) }

read_bounded : (t : Tables) (e : ℕ) (p : Spot) (xs : List ℕ) → Bounded (read_from t e p xs).items
unfolding chosen read_from
read_bounded t e p xs = go (eqb p.stage 1)
  where
    choice : (c : Choice) → Bounded (chosen t e xs c).items
    choice waiting = nothing_bounded
    choice label = decode_bounded t (family e) plain xs
    choice (marked w g) = mark_bounded w _ (decode_bounded t (family (reader e g)) plain (drop w xs))

    f : Family
    f = family (reader e p.stage)

    go : (b : Bool) → Bounded (b then chosen t e xs (choose xs) else lift p.stage (decode (next t f) p.shift xs)).items
    go true = choice (choose xs)
    go false = decode_bounded t f p.shift xs

end_bounded : (t : Tables) (e : ℕ) (p : Spot) (xs : List ℕ) → Bounded (end_from t e p xs)
unfolding end_from
end_bounded t e p xs = go (eqb p.stage 1)
  where
    f : Family
    f = family (reader e p.stage)

    go : (b : Bool) → Bounded (b then everything t (family e) plain xs else ending no_tables f p.shift xs)
    go true = everything_bounded t (family e) plain xs
    go false = ending_bounded no_tables f p.shift xs

-- What is read fits the bytes taken: n after the call.
record Within (d : Decoder) (n : ℕ) (is : List Item) : Type 0 where
  bounded : Bounded is
  wide : d.taken - d.held + widths is ≤ n
  few : line_feeds (shown is) ≤ widths is

small_handed : (d : Decoder) → Counted d → (n : ℕ) (x : Parsed) (room : List ℕ) → Within d n x.items → (b : Bool) →
    eqb d.mode 1 && broken x.items ≡ b → Small d n (handed_by_lem x room b).left
unfolding handed_by_lem
small_handed d C n x room W true e =
    let S = error_small x.items W.bounded (d.taken - d.held) d.lines n C.lines W.wide (and_right (eqb d.mode 1) _ e) in
    record { held = C.held; place = omega (arith, S.place_below); line = omega (arith, S.line_within) }
small_handed d C n x room W false e = omega (arith, W.wide, W.few, C.lines)

-- a feed
module _ (d : Decoder) (t : Tables) (chunk room : List ℕ) (good : record_refusal d ≡ 0) where
  -- the bytes taken after it
  abbrev total : ℕ
  total = d.taken + length chunk

  feed_within : Within d total (read_on d t chunk).items
  feed_within =
      let e = d.encoding in
      let C = counted d good in
      let R = parsing t e (spot_of d) (held_of d ++ chunk) in
      let x = read_on d t chunk in
      let l : length (held_of d) + length chunk ≡ length R.used + length x.rest = simp length-append at (ap length R.split) in
      record {
        bounded = read_bounded t e (spot_of d) (held_of d ++ chunk);
        wide = omega (arith, C.held, C.bytes, R.wide, l);
        few = omega (arith, line_feeds-length (shown x.items), R.count, R.wide);
      }

  -- what is read of an accepted feed, or up to an error, fits 32 bits
  takes_handed : total ≤ 4294967295 → (b : Bool) → Takes total (handed_by_lem (read_on d t chunk) room b).left
  unfolding handed_by_lem
  takes_handed n true = n
  takes_handed n false = n

  pub feed_small : d.taken ≤ 4294967295 → {l : Result Left Stop} → l ≡ (chunk_read d t chunk room good).left → Takes total l × Small d total l
  unfolding left_by handed_by_lem
  feed_small h p =
      subst (λ l. Takes total l × Small d total l) (sym (p ∙ ap (λ (y : ReadOutcome). y.left) (chunk_by d t chunk room good h)))
      (go (ltb 65536 (length chunk)) (ltb 4294967295 total) refl (ltb (length room) (length chunk + d.held)))
    where
      report : Bool
      report = eqb d.mode 1 && broken (read_on d t chunk).items

      go : (c f : Bool) → ltb 4294967295 total ≡ f → (r : Bool) →
          let l = (left_by d t chunk room c f r report).left in Takes total l × Small d total l
      go true f e r = (tt, tt)
      go false true e r = (tt, tt)
      go false false e true = (tt, tt)
      go false false e false = (
        takes_handed (ltb-false 4294967295 total e) report,
        small_handed d (counted d good) total (read_on d t chunk) room feed_within report refl,
      )

-- a finish
module _ (d : Decoder) (t : Tables) (room : List ℕ) (good : record_refusal d ≡ 0) where
  end_within : Within d d.taken (read_end d t)
  end_within =
      let C = counted d good in
      let E = ended_from t d.encoding (spot_of d) (held_of d) C.rest in
      record {
        bounded = end_bounded t d.encoding (spot_of d) (held_of d);
        wide = omega (arith, C.held, C.bytes, E.wide);
        few = omega (arith, line_feeds-length (shown (read_end d t)), E.count, E.wide);
      }

  pub finish_small : {l : Result Left Stop} → l ≡ (end_read d t room good).left → Small d d.taken l
  unfolding end_by
  finish_small p =
      subst (Small d d.taken) (sym (p ∙ ap (λ (y : ReadOutcome). y.left) (end_is d t room good))) (go (ltb (length room) d.held))
    where
      report : Bool
      report = eqb d.mode 1 && broken (read_end d t)

      go : (r : Bool) → Small d d.taken (end_by d t room r report).left
      go true = tt
      go false = small_handed d (counted d good) d.taken (end d t room) room end_within report refl
