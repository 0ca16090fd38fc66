-- Every record that passes the test behind refusal 5 is left by some calls: bytes are fed one by one, and a finish ends. Assumes nothing.
use mathlib.Core.Path.{◌≡◌, refl, sym, ap, ◌∙◌, subst}
use mathlib.Core.Bool.{Bool, true, false, ◌&&◌, ◌||◌, and-false}
use mathlib.Core.List.{List, [], ◌∷◌, ◌++◌, append_assoc, append-nil}
use Prim.Native.Nat.{ℕ, zero, suc, ◌+◌, ◌-◌, ◌*◌, ◌/◌, ◌%◌, ◌≤◌, ◌^◌}
use native.Mathlib.Nat.{add-zero, div-add-mod', mod-lt, mul-mod_left}
use native.Mathlib.Omega.{arith}
use lib.Dec.{T, leb, eqb, lit≤, lit<}
use lib.ListN.{length, replicate, length-replicate}
use borrow.Author.Tests.{eq-eqb, eqb-true, leb-true, leb-false, le-ltb}
use Rattle.standard.specs.Base.{every, below, Bytes, line_feeds}
use Rattle.standard.specs.Encodings.{Family, UTF-8, single-byte, windows-1252, GB18030, Big5, EUC-JP, ISO-2022-JP, Shift-JIS, EUC-KR, Replacement, UTF-16BE, UTF-16LE, x-user-defined, family, traits, fits}
use Rattle.standard.specs.Sequence.{plain}
use Rattle.standard.specs.Sequences.Replacement.{replacement}
use Rattle.standard.specs.Next.{next}
use Rattle.standard.specs.Decode.{reads, decode, one_error, ending, everything, shown, broken, before}
use Rattle.standard.specs.Choice.{waiting, choose, reader, Spot, spot, Parsed, read_from, end_from}
use Rattle.standard.proofs.Tests.{split, or_case}
use Rattle.standard.proofs.Every.{bytes_take, bytes_drop}
use Rattle.standard.proofs.Items.{shown_append, broken_append}
use Rattle.standard.proofs.LineFeeds.{line_feeds-append, before_line_feeds}
use Rattle.standard.proofs.Stages.{Rests, rests_few, none_rest, more_rests, wait_rests, chunks_from, then_from, read_rest}
use Rattle.decoder.specs.Record.{spot_of, held_of, holding, closed, new}
use Rattle.decoder.specs.Valid.{iso_cost, iso_least, valid}
use Rattle.decoder.specs.Calls.{open_refusal, opening, Outcome, write, feed_refusal, feeding, finish_refusal, finishing}
use Rattle.demands.specs.Histories.{accepted, Reachable, opened, fed, finished}
use Rattle.demands.specs.Samples.{second_cells, filled}
use Rattle.decoder.specs.declared.Decoder.{Decoder}
use Rattle.decoder.proofs.Parts.{parts}
use Rattle.demands.proofs.Steps.{read_of, end_of, onward, handed_is, feed_holding, finish_holding}
use Rattle.demands.proofs.Shapes.{Shape, Unshifted, Marked, Paired, Replaced, Escaped, shape_of, totals_as, totals_as_lem}
use Rattle.demands.proofs.Shapes.{Comes, in_text, in_state, ComesAt, by_label, choosing, by_mark, waiting_plain}
use Rattle.demands.proofs.Shifts.{quiet_end}
use Rattle.demands.proofs.Validity.{Open, open_holding, open_record, closed_rest, is_holding, is_closed, reachable_valid}
use Rattle.demands.proofs.Ways.{lent, Ways, ways, Opened, way_to}

-- the tables to lend fit, and their cells are numbers of 32 bits
sized : (n c : ℕ) → eqb (length (replicate n c)) n ≡ true
sized n c = eq-eqb (length (replicate n c)) n (length-replicate n c)

pub filled_fits : (c : ℕ) (f : Family) → fits f (filled c f) ≡ true
unfolding fits filled traits
filled_fits c UTF-8 = refl
filled_fits c single-byte = rw (sized 128 c)
filled_fits c windows-1252 = refl
filled_fits c GB18030 = rw (sized 23940 c)
filled_fits c Big5 = rw (sized 19782 c)
filled_fits c EUC-JP = rw (sized 11280 c, sized 8836 c)
filled_fits c ISO-2022-JP = rw (sized 11280 c)
filled_fits c Shift-JIS = rw (sized 11280 c)
filled_fits c EUC-KR = rw (sized 23940 c)
filled_fits c Replacement = refl
filled_fits c UTF-16BE = refl
filled_fits c UTF-16LE = refl
filled_fits c x-user-defined = refl

lent_below : (n : ℕ) → T (below (2 ^ 32) (replicate n 0x3000))
unfolding every
lent_below zero = tt
lent_below (suc n) = lent_below n

lent_cells : (f : Family) → T (below (2 ^ 32) (lent f).first) × T (below (2 ^ 32) (lent f).second)
unfolding filled
lent_cells f = (lent_below (traits f).first, lent_below (second_cells (traits f).second))

-- A call that is accepted leaves its decoder.
left_by-feed : (e : ℕ) (d : Decoder) (chunk room : List ℕ) (o : Outcome) → Reachable d → Bytes chunk →
    feeding d (lent (family e)) chunk room ≡ o → T (accepted o.answer.refusal) → Reachable o.answer.decoder
left_by-feed e d chunk room o r b k a =
    let c = lent_cells (family e) in
    subst (λ (o : Outcome). Reachable o.answer.decoder) k (fed r (lent (family e)) chunk room b c.0 c.1 (rw k a))

left_by-finish : (e : ℕ) (d : Decoder) (room : List ℕ) {o : Outcome} → Reachable d → finishing d (lent (family e)) room ≡ o →
    T (accepted o.answer.refusal) → Reachable o.answer.decoder
left_by-finish e d room r k a =
    let c = lent_cells (family e) in
    subst (λ (o : Outcome). Reachable o.answer.decoder) k (finished r (lent (family e)) room c.0 c.1 (rw k a))

split_sound : (x a b : Bool) → x && (a || b) ≡ false → (x && a ≡ false) × (x && b ≡ false)
split_sound true true b p = absurd (subst T p tt)
split_sound true false b p = (refl, p)
split_sound false a b p = (refl, refl)

module _ (e m : ℕ) where
  -- what is known of a record that calls leave; without more bytes nothing is read
  there : (n l : ℕ) (p : Spot) (xs : List ℕ) → Reachable (holding e m n l p xs) → Open e m n l p xs
  there n l p xs r = open_holding e m n l p xs (reachable_valid r)

  nothing_more : (n l : ℕ) (p : Spot) (xs held : List ℕ) → Reachable (holding e m n l p xs) → Rests e p held →
      read_from (lent (family e)) e p held ≡ record { items = []; spot = p; rest = held }
  nothing_more n l p xs held r w = read_rest (lent (family e)) e p held (waiting_plain e m (there n l p xs r).comes) w

  -- A byte more, and byte after byte, with 4,294,967,295 bytes at most.
  takes : (n l : ℕ) (p : Spot) (xs : List ℕ) (y : ℕ) → Reachable (holding e m n l p xs) → n + 1 ≤ 4294967295 →
      feed_refusal (holding e m n l p xs) (lent (family e)) (y ∷ []) (replicate 4 0) ≡ 0
  unfolding feed_refusal
  takes n l p xs y r h = rw (
    reachable_valid r,
    filled_fits 0x3000 (family e),
    le-ltb 4294967295 (n + 1) h,
    le-ltb 4 (1 + length xs) (omega (arith, rests_few e p xs (there n l p xs r).rests)),
  )

  one_more : (n l : ℕ) (p : Spot) (xs : List ℕ) (y : ℕ) → Reachable (holding e m n l p xs) → n + 1 ≤ 4294967295 → Bytes (y ∷ []) →
      let r = read_of e (lent (family e)) p xs (y ∷ []) in eqb m 1 && broken r.items ≡ false → Reachable (onward e m n l (y ∷ []) r)
  one_more n l p xs y r h b q =
      let R = read_of e (lent (family e)) p xs (y ∷ []) in
      let room : List ℕ = replicate 4 0 in
      left_by-feed e (holding e m n l p xs) (y ∷ []) room
      (write (shown R.items) (onward e m n l (y ∷ []) R) room) r b
      (feed_holding e m n l p xs (lent (family e)) (y ∷ []) room (there n l p xs r).rests (takes n l p xs y r h) ∙ rw q) tt

  byte_by_byte : (ys : List ℕ) (n l : ℕ) (p : Spot) (xs : List ℕ) → Reachable (holding e m n l p xs) →
      n + length ys ≤ 4294967295 → Bytes ys → let r = read_of e (lent (family e)) p xs ys in eqb m 1 && broken r.items ≡ false →
      Reachable (onward e m n l ys r)
  unfolding shown line_feeds
  byte_by_byte [] n l p xs r h b q =
      rw (append-nil xs, nothing_more n l p xs xs r (there n l p xs r).rests, add-zero n, add-zero l) r
  byte_by_byte (y ∷ ys) n l p xs r h b q =
      let t = lent (family e) in
      let R = read_of e t p xs (y ∷ []) in
      let later = read_from t e R.spot (R.rest ++ ys) in
      let all : read_from t e p (xs ++ y ∷ ys) ≡ then_from t e R later =
      rw (← append_assoc xs (y ∷ []) ys) (chunks_from t e p (xs ++ y ∷ []) ys) in
      let all_sound : eqb m 1 && (broken R.items || broken later.items) ≡ false =
      sym (ap (◌&&◌ (eqb m 1)) (ap (λ (r : Parsed). broken r.items) all ∙ broken_append R.items later.items)) ∙ q in
      let sound = split_sound (eqb m 1) (broken R.items) (broken later.items) all_sound in
      let first = one_more n l p xs y r (omega arith) (bytes_take 1 (y ∷ ys) b) sound.0 in
      let rest = byte_by_byte ys (n + 1) (l + line_feeds (shown R.items)) R.spot R.rest first
      (omega arith) (bytes_drop 1 (y ∷ ys) b) sound.1 in
      let count : n + 1 + length ys ≡ n + suc (length ys) = omega arith in
      let feeds : l + line_feeds (shown R.items) + line_feeds (shown later.items) ≡ l + line_feeds (shown (R.items ++ later.items)) =
      rw (shown_append R.items later.items, line_feeds-append (shown R.items) (shown later.items)) (omega arith) in
      subst (λ (r : Parsed). Reachable (onward e m n l (y ∷ ys) r)) (sym all)
      (subst Reachable (λ i. holding e m (count i) (feeds i) later.spot later.rest) rest)

  -- A finish ends a decoder, with no line feed more where the end gives none.
  by_finish : (n l : ℕ) (p : Spot) (held : List ℕ) → Reachable (holding e m n l p held) →
      line_feeds (shown (end_of e (lent (family e)) p held)) ≡ 0 → Reachable (closed e m n l)
  unfolding finish_refusal
  by_finish n l p held r quiet =
      let t = lent (family e) in
      let d = holding e m n l p held in
      let room : List ℕ = replicate 3 0 in
      let is = end_of e t p held in
      let w = (there n l p held r).rests in
      let at-error : l + line_feeds (before is) ≡ l = omega (arith, before_line_feeds is, quiet) in
      let at_end : l + line_feeds (shown is) ≡ l = omega (arith, quiet) in
      handed_is (λ o. finishing d t room ≡ o → Reachable (closed e m n l)) e m (n - length held) n l is (closed e m n) room
      (λ k. subst Reachable (λ i. closed e m n (at-error i)) (left_by-finish e d room r k tt))
      (λ k. subst Reachable (λ i. closed e m n (at_end i)) (left_by-finish e d room r k tt))
      (finish_holding e m n l p held t room w (rw (
        reachable_valid r,
        filled_fits 0x3000 (family e),
        and-false (eqb p.stage 1),
        le-ltb 3 (length held) (rests_few e p held w),
      )))

module _ (e m : ℕ) (a : e ≤ 39) (small : m ≤ 1) where
  new_reached : (rule : ℕ) → rule ≤ 2 → Reachable (new e m rule)
  unfolding opening open_refusal
  new_reached rule r =
      let accepts : open_refusal e m rule ≡ 0 = rw (le-ltb 39 e a, le-ltb 1 m small, le-ltb 2 rule r) in
      rw accepts at (opened e m rule)

  -- From an opening by a way to a spot, and then the bytes held.
  by_way : {p : Spot} {c l : ℕ} → Opened e m c l p → c ≤ 4294967295 → Reachable (holding e m c l p [])
  by_way {p} {c} {l} o h =
      let first : Reachable (holding e m 0 0 o.first []) =
      subst (λ (p : Spot). Reachable (holding e m 0 0 p [])) o.new (new_reached o.rule o.known) in
      let sound : eqb m 1 && broken (read_from (lent (family e)) e o.first o.bytes).items ≡ false = rw o.leads o.sound in
      let count : 0 + length o.bytes ≡ c = omega (arith, o.long) in
      let feeds : 0 + line_feeds (shown o.items) ≡ l = omega (arith, o.feeds) in
      subst Reachable (λ i. holding e m (count i) (feeds i) p [])
      (subst (λ (r : Parsed). Reachable (onward e m 0 0 o.bytes r)) o.leads
      (byte_by_byte e m o.bytes 0 0 o.first [] first (omega (arith, o.long)) o.are sound))

  at_spot_lem : {p : Spot} {c l : ℕ} (held : List ℕ) → ComesAt e m p c l → Rests e p held → c + length held ≤ 4294967295 → Bytes held →
      Reachable (holding e m (c + length held) l p held)
  unfolding broken shown line_feeds
  at_spot_lem {p} {c} {l} held come w h b =
      let r = by_way (way_to e m come) (omega arith) in
      let read = nothing_more e m c l p [] held r w in
      let feeds : l + 0 ≡ l = add-zero l in
      subst Reachable (λ i. holding e m (c + length held) (feeds i) p held)
      (subst (λ (r : Parsed). Reachable (onward e m c l held r)) read
      (byte_by_byte e m held c l p [] r h b (rw read (and-false (eqb m 1)))))

-- A decoder that has ended, by the shape of its test.
module _ (e m n l : ℕ) (a : e ≤ 39) (small : m ≤ 1) (fits : n ≤ 4294967295) where
  -- a finish where the end gives no line feed
  ended_at : {p : Spot} {c : ℕ} (held : List ℕ) → eqb p.stage 1 ≡ false → ComesAt e m p c l → Rests e p held → Bytes held →
      c + length held ≡ n → Reachable (closed e m n l)
  ended_at {p} {c} held g come w b count = by_finish e m n l p held
      (subst Reachable (λ i. holding e m (count i) l p held) (at_spot_lem e m a small held come w (omega (arith, count)) b))
      (quiet_end (lent (family e)) e p held g w)

  -- by the label's encoding, nothing held
  ended_label : (σ : Shape) → shape_of (family e) ≡ σ → Comes m σ plain n l → Reachable (closed e m n l)
  unfolding every
  ended_label σ q come = ended_at [] refl (by_label (subst (λ (σ : Shape). Comes m σ plain n l) (sym q) come))
      (none_rest e (spot 0 plain)) tt (add-zero n)

  -- by UTF-8 behind its mark
  ended_mark : l + 3 ≤ n → Reachable (closed e m n l)
  unfolding reader family every
  ended_mark h = ended_at [] refl (by_mark {g = 2} (lit≤ tt) (lit≤ tt) (omega arith) (omega arith))
      (none_rest e (spot 2 plain)) tt (add-zero n)

  -- UTF-16: behind an odd number of bytes one is held
  ended_pairs : shape_of (family e) ≡ Paired → Ways Paired (family e) m → 2 * l ≤ n → Reachable (closed e m n l)
  unfolding every reader
  ended_pairs σ k h = go (n % 2) refl
    where
      d : n / 2 * 2 + n % 2 ≡ n
      d = div-add-mod' n 2

      go : (x : ℕ) → n % 2 ≡ x → Reachable (closed e m n l)
      go zero q = ended_label Paired σ (in_text {σ = Paired} (q, h))
      go (suc zero) q =
          let half : 2 * l ≤ n / 2 * 2 = omega (arith, d, q) in
          let even : Comes m Paired plain (n / 2 * 2) l = in_text {σ = Paired} (mul-mod_left (n / 2) 2, half) in
          ended_at (0x41 ∷ []) refl (by_label (subst (λ (σ : Shape). Comes m σ plain (n / 2 * 2) l) (sym σ) even))
          (more_rests e (spot 0 plain) (0x41 ∷ []) refl k.1) tt (omega (arith, d, q))
      go (suc (suc x)) q = absurd (omega (arith, mod-lt n {m = 2} (lit< tt), q))

  -- replacement: by a finish while at most two bytes wait for the choice
  ended_waiting : (held : List ℕ) → choose held ≡ waiting → Bytes held → family e ≡ Replacement → length held ≡ n → l ≡ 0 →
      line_feeds (shown (everything (lent Replacement) Replacement plain held)) ≡ 0 → Reachable (closed e m n l)
  unfolding end_from
  ended_waiting held w b f count none quiet =
      let long : 0 + length held ≡ n = omega (arith, count) in
      let rests = wait_rests e (spot 1 plain) held refl w in
      by_finish e m n l (spot 1 plain) held
      (subst Reachable (λ i. holding e m (long i) (sym none i) (spot 1 plain) held)
      (at_spot_lem e m a small held choosing rests (omega (arith, long)) b)) (rw f quiet)

  ended_few : family e ≡ Replacement → l ≡ 0 → n ≤ 2 → Reachable (closed e m n l)
  unfolding choose every everything decode reads next replacement ending one_error shown line_feeds
  ended_few f none h = go n refl h
    where
      go : (x : ℕ) → n ≡ x → x ≤ 2 → Reachable (closed e m n l)
      go zero q h = ended_waiting [] refl tt f (sym q) none refl
      go (suc zero) q h = ended_waiting (0xEF ∷ []) refl tt f (sym q) none refl
      go (suc (suc zero)) q h = ended_waiting (0xEF ∷ 0xBB ∷ []) refl tt f (sym q) none refl
      go (suc (suc (suc x))) q h = absurd (omega arith)

  ended_as : (σ : Shape) → shape_of (family e) ≡ σ → Ways σ (family e) m → totals_as σ n l ≡ true → Reachable (closed e m n l)
  unfolding iso_cost iso_least
  ended_as Unshifted q k p = ended_label Unshifted q (in_text (leb-true l n p))
  ended_as Marked q k p = ended_label Marked q (in_text (leb-true l n p))
  ended_as Paired q k p = or_case (leb (2 * l) n) (leb (l + 3) n) p
      (λ h. ended_pairs q k (leb-true (2 * l) n h)) (λ h. ended_mark (leb-true (l + 3) n h))
  ended_as Replaced q k p = split (leb (l + 3) n) (λ h. ended_mark (leb-true (l + 3) n h))
      (λ h. or_case (eqb l 0) (leb (l + 3) n) p (λ z. ended_few k (eqb-true l 0 z) (omega (arith, leb-false (l + 3) n h, eqb-true l 0 z)))
      (λ z. absurd (subst T (sym z ∙ h) tt)))
  ended_as Escaped q k p =
      let h = leb-true l n p in
      ended_label Escaped q (in_state (record { low = lit≤ tt; cost = omega (arith, h); least = omega arith }))

pub valid_reachable : (d : Decoder) → Bytes (d.first ∷ d.second ∷ d.third ∷ []) → d.taken ≤ 4294967295 → valid d ≡ true → Reachable d
valid_reachable d b h v = split (eqb d.ended 1)
    (λ n. subst Reachable (sym (is_closed d v n)) (ended_as e m d.taken d.lines (parts d v).encoding (parts d v).mode h
    (shape_of (family e)) refl (ways (family e) m) (sym (totals_as_lem (family e) d.taken d.lines) ∙ (closed_rest d v n).totals)))
    (λ n.
    let o = open_record d v n in
    let count : d.taken - length (held_of d) + length (held_of d) ≡ d.taken = omega (arith, o.held) in
    subst Reachable ((λ i. holding e m (count i) d.lines (spot_of d) (held_of d)) ∙ sym (is_holding d v n))
    (at_spot_lem e m (parts d v).encoding (parts d v).mode (held_of d) o.comes o.rests (omega (arith, count))
    (bytes_take d.held (d.first ∷ d.second ∷ d.third ∷ []) b)))
  where
    e : ℕ
    e = d.encoding

    m : ℕ
    m = d.mode
