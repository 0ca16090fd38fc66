-- What holds of every line of a text, by a walk from line to line; the lines joined. Assumes nothing.
use mathlib.Core.Path.{◌≡◌, refl, sym, ap, ◌∙◌}
use mathlib.Core.Logic.{⊎_elim}
use mathlib.Core.Bool.{Bool, true, false}
use mathlib.Core.List.Memᴰ
use mathlib.Core.List.{List, ◌∷◌, ◌++◌, Memᴰ}
use Prim.Native.Nat.{ℕ, zero, suc, ◌+◌, ◌-◌, ◌≤◌, ◌<◌}
use native.Mathlib.Omega.{arith}
use lib.Dec.{ltb, eqb}
use lib.ListN.{length, take, drop, get_or, drop_of_length-le, take-append-drop}
use lib.Seq.{slice, get_or-drop, take-add, drop-drop, drop-cons}
use borrow.Author.Tests.{eqb-true, eqb-false, ltb-true, ltb-false}
use Rattle.standard.specs.Base.{◌then◌else◌, line_feeds}
use Rattle.standard.proofs.LineFeeds.{line_feeds-append}
use Rattle.list_spec.specs.Lines.{LF, CR, before, count, Line, line, lines_of, chars_of}
use Rattle.list_spec.specs.Spans.{end_at, stop_at}
use Rattle.list_spec.specs.Statements.{Rising, closing, joined}
use Rattle.list_spec.proofs.Parts.{slice_front, before_at, count_before, count_to, count_line_feeds}
use Rattle.list_spec.proofs.Turns.{lines_at, lines_end, at_end, inside, end_low, end_high, turn}

-- Where a line lies, and what it has not.
pub record Lies (text : List ℕ) (l : Line) : Type 0 where
  pub below : l.start < length text
  pub order : l.start ≤ l.stop
  pub within : l.stop ≤ length text
  pub counted : l.number ≡ 1 + line_feeds (take l.start text)
  pub behind : 0 < l.start → get_or text (l.start - 1) 0 ≡ LF
  pub no_line_feed : count LF (chars_of text l) ≡ 0
  pub no_carriage_return : l.start < l.stop → l.stop < length text → get_or text l.stop 0 ≡ LF → get_or text (l.stop - 1) 0 ≡ CR → ⊥

-- A line n may begin at the place a: so many line feeds stand before it, the last of them just before it.
record Begins (text : List ℕ) (n a : ℕ) : Type 0 where
  counts : n ≡ 1 + line_feeds (take a text)
  follows : 0 < a → get_or text (a - 1) 0 ≡ LF

module _ (text : List ℕ) where
  -- how a line that begins at a stops
  pub record Stops (a z q : ℕ) : Type 0 where
    pub low : a ≤ z
    pub high : z ≤ q
    pub near : q ≤ z + 1
    pub plain : z ≡ q → q < length text → a < q → get_or text (q - 1) 0 ≡ CR → ⊥
    pub return : z < q → (q < length text) × (get_or text z 0 ≡ CR)

  pub stops : (a q : ℕ) → a ≤ q → q ≤ length text → Stops a (stop_at text a q) q
  unfolding stop_at
  stops a q h g = go (eqb q (length text)) refl (eqb q a) refl (eqb (get_or text (q - 1) 0) CR) refl
    where
      go : (b : Bool) → eqb q (length text) ≡ b → (c : Bool) → eqb q a ≡ c → (d : Bool) → eqb (get_or text (q - 1) 0) CR ≡ d →
          Stops a (b then q else c then q else d then q - 1 else q) q
      go true i c j d k =
          let e : q ≡ length text = eqb-true q (length text) i in
          record { low = h; high = omega arith; near = omega arith; plain = λ _ l _ _. omega arith; return = λ l. absurd (omega arith) }
      go false i true j d k =
          let e : q ≡ a = eqb-true q a j in
          record { low = h; high = omega arith; near = omega arith; plain = λ _ _ l _. omega arith; return = λ l. absurd (omega arith) }
      go false i false j true k =
          let e : q ≡ length text → ⊥ = eqb-false q (length text) i in
          let f : q ≡ a → ⊥ = eqb-false q a j in
          record {
            low = omega (arith, f);
            high = omega arith;
            near = omega arith;
            plain = λ p _ l _. omega arith;
            return = λ l. (omega (arith, e), eqb-true (get_or text (q - 1) 0) CR k);
          }
      go false i false j false k = record {
        low = h;
        high = omega arith;
        near = omega arith;
        plain = λ _ _ _ r. eqb-false (get_or text (q - 1) 0) CR k r;
        return = λ l. absurd (omega arith);
      }

  -- the end of the line from a place on, and its stop
  abbrev pub end : ℕ → ℕ
  end a = end_at text a

  abbrev pub stop : ℕ → ℕ
  stop a = stop_at text a (end a)

  module _ (a : ℕ) (h : a < length text) where
    abbrev q : ℕ
    q = end a

    abbrev z : ℕ
    z = stop a

    abbrev rest : List ℕ
    rest = drop a text

    far : q ≡ a + before LF rest
    far = at_end text a q h refl

    pub low : a ≤ q
    low = end_low text a q h refl

    pub high : q ≤ length text
    high = end_high text a q h refl

    pub ends : Stops a z q
    ends = stops a q low high

    -- the line feed that closes it
    pub closed : q < length text → get_or text q 0 ≡ LF
    closed g =
        ap (λ (i : ℕ). get_or text i 0) far ∙ sym (get_or-drop a text (before LF rest) 0) ∙
        before_at LF rest (omega (arith, far, inside text a q h refl))

    -- and no other in front of it
    pub none_inside : count LF (slice a z text) ≡ 0
    none_inside =
        let e : a + (z - a) ≡ z = omega (arith, ends.low) in
        ap (count LF) (ap (λ (i : ℕ). slice a i text) (sym e) ∙ slice_front a (z - a) text (omega arith)) ∙
        count_before LF rest (z - a) (omega (arith, far, ends.high))

    one_more : q < length text → line_feeds (take (q + 1) text) ≡ line_feeds (take a text) + 1
    one_more g =
        let e : q + 1 ≡ a + suc (before LF rest) = omega (arith, far) in
        ap (λ (i : ℕ). line_feeds (take i text)) e ∙ ap line_feeds (take-add a (suc (before LF rest)) text) ∙
        line_feeds-append (take a text) (take (suc (before LF rest)) rest) ∙
        ap (λ (i : ℕ). line_feeds (take a text) + i) (sym (count_line_feeds (take (suc (before LF rest)) rest)) ∙
        count_to LF rest (omega (arith, far, inside text a q h refl)))

    module _ (n : ℕ) (b : Begins text n a) where
      lies : Lies text (line n a z)
      lies = record {
        below = h;
        order = ends.low;
        within = omega (arith, ends.high, high);
        counted = b.counts;
        behind = b.follows;
        no_line_feed = none_inside;
        no_carriage_return = λ s g f r. go (eqb z q) refl s g f r;
      }
        where
          go : (t : Bool) → eqb z q ≡ t → a < z → z < length text → get_or text z 0 ≡ LF → get_or text (z - 1) 0 ≡ CR → ⊥
          go true t s g f r =
              let e : z ≡ q = eqb-true z q t in
              ends.plain e (omega arith) (omega arith) (ap (λ (i : ℕ). get_or text (i - 1) 0) (sym e) ∙ r)
          go false t s g f r =
              let e : z ≡ q → ⊥ = eqb-false z q t in
              let c : get_or text z 0 ≡ CR = (ends.return (omega (arith, e, ends.high))).1 in
              omega (arith, f, c)

      begins : q + 1 < length text → Begins text (n + 1) (q + 1)
      begins g = record {
        counts = omega (arith, b.counts, one_more (omega arith));
        follows = λ _. let e : q + 1 - 1 ≡ q = omega arith in ap (λ (i : ℕ). get_or text i 0) e ∙ closed (omega arith);
      }

  -- What holds at the end of the text, and of a place if it holds where the next line begins, holds of every place.
  pub by_lines : (P : ℕ → ℕ → Type 0) → ((n a : ℕ) → length text ≤ a → P n a) →
      ((n a : ℕ) → a < length text → P (n + 1) (end a + 1) → P n a) → (k n a : ℕ) → length text ≤ a + k → P n a
  by_lines P last on zero n a g = last n a (omega arith)
  by_lines P last on (suc k) n a g = go (ltb a (length text)) refl (λ g. by_lines P last on k (n + 1) (end a + 1) g)
    where
      go : (t : Bool) → ltb a (length text) ≡ t → (length text ≤ end a + 1 + k → P (n + 1) (end a + 1)) → P n a
      go true t r = let h : a < length text = ltb-true a (length text) t in on n a h (r (omega (arith, low a h)))
      go false t r = last n a (ltb-false a (length text) t)

  -- the line at a place, and the lines behind it
  pub next : (n a : ℕ) → a < length text → lines_at text n a ≡ line n a (stop a) ∷ lines_at text (n + 1) (end a + 1)
  next n a h = turn text a (end a) h refl n (stop a) refl

  lies_from : (k n a : ℕ) → length text ≤ a + k →
      (a < length text → Begins text n a) → (l : Line) → Memᴰ l (lines_at text n a) → Lies text l
  lies_from = by_lines (λ n a. (a < length text → Begins text n a) → (l : Line) → Memᴰ l (lines_at text n a) → Lies text l)
      (λ n a h b l i. absurd (Memᴰ.not-nil (rw (lines_end text n a h) at i)))
      (λ n a h r b l i. ⊎_elim (λ e. rw e (lies a h n (b h))) (r (begins a h n (b h)) l)
      (Memᴰ.cases_cons (rw (next n a h) at i)))

  pub all_lie : (l : Line) → Memᴰ l (lines_of text) → Lies text l
  unfolding line_feeds
  all_lie = lies_from (length text) 1 0 (omega arith) (λ _. record { counts = refl; follows = λ h. absurd (omega arith) })

  -- the order of the lines
  rising_from : (k n a : ℕ) → length text ≤ a + k → (s : ℕ) → s ≤ a → Rising n s (lines_at text n a)
  unfolding Rising
  rising_from = by_lines (λ n a. (s : ℕ) → s ≤ a → Rising n s (lines_at text n a))
      (λ n a h s o. rw (lines_end text n a h) tt)
      (λ n a h r s o. rw (next n a h) (refl, o, (ends a h).low, r (stop a + 1) (omega (arith, (ends a h).high))))

  pub rising : Rising 1 0 (lines_of text)
  rising = rising_from (length text) 1 0 (omega arith) 0 (omega arith)

  -- what closes a line, and what stands behind it
  module _ (a : ℕ) (h : a < length text) where
    feed : end a < length text → drop (end a) text ≡ LF ∷ drop (end a + 1) text
    feed g =
        let e : suc (end a) ≡ end a + 1 = omega arith in
        drop-cons text (end a) 0 g ∙ rw (closed a h g, e)

    closes : closing (drop (stop a) text) ++ drop (end a + 1) text ≡ drop (stop a) text
    unfolding closing
    closes = go (eqb (stop a) (end a)) refl (eqb (end a) (length text)) refl
      where
        go : (b : Bool) → eqb (stop a) (end a) ≡ b → (c : Bool) → eqb (end a) (length text) ≡ c →
            closing (drop (stop a) text) ++ drop (end a + 1) text ≡ drop (stop a) text
        go true b true c =
            let e : end a ≡ length text = eqb-true (end a) (length text) c in
            let f : stop a ≡ end a = eqb-true (stop a) (end a) b in
            rw (drop_of_length-le text {i = stop a} (omega arith), drop_of_length-le text {i = end a + 1} (omega arith))
        go true b false c =
            rw (eqb-true (stop a) (end a) b, feed (omega (arith, high a h, eqb-false (end a) (length text) c)))
        go false b c d =
            let less : stop a < end a = omega (arith, (ends a h).high, eqb-false (stop a) (end a) b) in
            let near : suc (stop a) ≡ end a = omega (arith, (ends a h).near) in
            let cr : drop (stop a) text ≡ CR ∷ LF ∷ drop (end a + 1) text =
            drop-cons text (stop a) 0 (omega (arith, high a h)) ∙
            rw (near, ((ends a h).return less).1, feed ((ends a h).return less).0) in
            rw cr

    piece : slice a (stop a) text ++ (closing (drop (stop a) text) ++ drop (end a + 1) text) ≡ drop a text
    piece =
        let e : a + (stop a - a) ≡ stop a = omega (arith, (ends a h).low) in
        let front : slice a (stop a) text ≡ take (stop a - a) (drop a text) =
        ap (λ (i : ℕ). slice a i text) (sym e) ∙ slice_front a (stop a - a) text (omega arith) in
        let back : drop (stop a) text ≡ drop (stop a - a) (drop a text) =
        sym (drop-drop (stop a - a) a text ∙ ap (λ (i : ℕ). drop i text) e) in
        rw (closes, front, back) (take-append-drop (stop a - a) (drop a text))

  joined_from : (k n a : ℕ) → length text ≤ a + k → joined text (lines_at text n a) ≡ drop a text
  unfolding joined
  joined_from = by_lines (λ n a. joined text (lines_at text n a) ≡ drop a text)
      (λ n a h. rw (lines_end text n a h, drop_of_length-le text h))
      (λ n a h r. ap (joined text) (next n a h) ∙ rw r (piece a h))

  pub joined_whole : joined text (lines_of text) ≡ text
  joined_whole = joined_from (length text) 1 0 (omega arith)
