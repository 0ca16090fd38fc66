-- The line feeds that a run wrote: they stand in its part of the room, and where separators are kept in its part of the chunk. Assumes nothing.
use mathlib.Core.Path.{◌≡◌, refl, sym, ap, ◌∙◌}
use mathlib.Core.Bool.{Bool, true, false}
use mathlib.Core.List.{List, [], ◌∷◌, ◌++◌, append_assoc}
use Prim.Native.Nat.{ℕ, ◌+◌, ◌-◌, ◌≤◌}
use native.Mathlib.Omega.{arith}
use lib.Dec.{T, leb}
use lib.ListN.{length, take, drop, set, length-append, length-drop, take-append-drop}
use lib.Seq.{length-take-le, take_all, take_at, take-append-add, drop_at, drop-append-le, drop-drop}
use borrow.Author.Tests.{leb-true, leb-false}
use Rattle.standard.specs.Base.{line_feeds}
use Rattle.standard.specs.Encodings.{Family, Tables}
use Rattle.standard.specs.Sequence.{Shift, Next}
use Rattle.standard.specs.Next.{next}
use Rattle.standard.specs.Decode.{Item, span, Read, decode, given, shown}
use Rattle.standard.proofs.FamilyLaws.{keeps, next_laws}
use Rattle.standard.proofs.Items.{shown_cons}
use Rattle.standard.proofs.LineFeeds.{line_feeds_lem, line_feeds-append, line_feeds-length}
use Rattle.standard.proofs.Walk.{nothing}
use Rattle.line_feeds.specs.Parts.{part}
use Rattle.line_feeds.proofs.Parts.{none_in}
use Rattle.runs.specs.Run.{patch, puts, Ran, Runs, Ready, Gives}
use Rattle.runs.proofs.Patches.{patch_sets}
use Rattle.runs.proofs.Running.{Going, going_start, going_runs, going_one}

-- scalars written from a place on, where the room keeps its length
part_patch : (room cs : List ℕ) (w : ℕ) → length (patch w cs room) ≡ length room → part (patch w cs room) w (length cs) ≡ cs
part_patch room cs w h = go (leb w (length room)) refl
  where
    empty : (cs : List ℕ) → length cs ≡ 0 → cs ≡ []
    empty [] e = refl
    empty (c ∷ cs) e = absurd (omega arith)

    go : (b : Bool) → leb w (length room) ≡ b → part (patch w cs room) w (length cs) ≡ cs
    go true e =
        let tail = drop (w + length cs) room in
        rw (append_assoc (take w room) cs tail, drop_at (take w room) (cs ++ tail) w (length-take-le w room (leb-true w (length room) e)))
        (take_at cs tail (length cs) refl)
    go false e =
        let tail = drop (w + length cs) room in
        let all : length (take w room ++ cs ++ tail) ≡ length room = h in
        let n : length cs ≡ 0 = omega (
          arith,
          length-append (take w room ++ cs) tail,
          length-append (take w room) cs,
          ap length (take_all w room (omega (arith, leb-false w (length room) e))),
        ) in
        rw n (sym (empty cs n))

-- what a run wrote stands in the room
pub runs_part : {f : Shift → List ℕ → Next} {m from to w w' : ℕ} {chunk room room' : List ℕ} {s s' : Shift} →
    (r : Runs f m chunk from to s s' w w' room room') → part room' w (w' - w) ≡ shown r.ran.items
runs_part {w = w} {w' = w'} {room = room} r =
    let n : w' - w ≡ length (shown r.ran.items) = omega (arith, r.ran.count) in
    rw (n, r.ran.wrote) (part_patch room (shown r.ran.items) w (sym (ap length r.ran.wrote) ∙ r.size))

-- no more line feeds than scalars, where it was so before
pub runs_fewer : {f : Shift → List ℕ → Next} {m from to w w' l k : ℕ} {chunk room room' : List ℕ} {s s' : Shift} →
    Runs f m chunk from to s s' w w' room room' → k ≡ line_feeds (part room' w (w' - w)) → l ≤ w → l + k ≤ w'
runs_fewer r e h = omega (arith, e, ap line_feeds (runs_part r), line_feeds-length (shown r.ran.items), r.ran.count)

pub shown_none : shown [] ≡ []
unfolding shown
shown_none = refl

puts_shown : (is : List Item) (r : Read) → shown (puts is r).items ≡ shown is ++ shown r.items
unfolding puts
puts_shown [] r = rw shown_none
puts_shown (span w o ∷ is) r =
    shown_cons w o (puts is r).items ∙ rw (puts_shown is r, shown_cons w o is) (sym (append_assoc (given o) (shown is) (shown r.items)))

-- Where separators are kept, a run writes the line feeds that it reads.
module _ (t : Tables) (f : Family) (k : T (keeps f)) where
  all_line_feeds : (s : Shift) (xs : List ℕ) → line_feeds (shown (decode (next t f) s xs).items) ≡ line_feeds xs
  all_line_feeds s xs = (line_feeds_lem t t f k s [] xs (nothing (keeps f) (next t f) (next_laws t f) s [] (omega arith))).whole

  ran_line_feeds : {m : ℕ} {s s' : Shift} {xs ys : List ℕ} {w w' : ℕ} {room room' : List ℕ} →
      (a : Ran (next t f) m s s' xs ys w w' room room') → line_feeds (shown a.items) + line_feeds ys ≡ line_feeds xs
  ran_line_feeds {s = s} {s' = s'} {xs = xs} {ys = ys} a =
      let r = decode (next t f) s' ys in
      omega (
        arith,
        all_line_feeds s xs,
        all_line_feeds s' ys,
        ap (λ (r : Read). line_feeds (shown r.items)) a.read,
        ap line_feeds (puts_shown a.items r),
        line_feeds-append (shown a.items) (shown r.items),
      )

  pub runs_line_feeds : {m from to w w' : ℕ} {chunk room room' : List ℕ} {s s' : Shift} →
      (r : Runs (next t f) m chunk from to s s' w w' room room') → line_feeds (part chunk from (to - from)) ≡ line_feeds (part room' w (w' - w))
  runs_line_feeds {from = from} {to = to} {chunk = chunk} r =
      let n : from + (to - from) ≡ to = omega (arith, r.ahead) in
      let e : drop (to - from) (drop from chunk) ≡ drop to chunk = drop-drop (to - from) from chunk ∙ ap (λ (n : ℕ). drop n chunk) n in
      rw (runs_part r) (
      omega (
        arith,
        ran_line_feeds r.ran,
        ap line_feeds (take-append-drop (to - from) (drop from chunk)),
        line_feeds-append (part chunk from (to - from)) (drop (to - from) (drop from chunk)),
        ap line_feeds e,
      )
      )

-- scalars written behind others
part_on : (room cs : List ℕ) (w o : ℕ) → w ≤ o → o + length cs ≤ length room → part (patch o cs room) w (o + length cs - w) ≡ part room w (o - w) ++ cs
part_on room cs w o h l =
    let all = take o room in
    let tail = drop (o + length cs) room in
    let n : length all ≡ o = length-take-le o room (omega arith) in
    let d : length (drop w all) ≡ o - w = length-drop w all ∙ ap (λ (k : ℕ). k - w) n in
    let k : o + length cs - w ≡ length (drop w all) + length cs = omega (arith, d) in
    let behind : drop w (patch o cs room) ≡ drop w all ++ (cs ++ tail) = ap (drop w) (append_assoc all cs tail) ∙ drop-append-le w all (cs ++ tail) (omega (arith, n)) in
    let before : drop w room ≡ drop w all ++ drop o room = ap (drop w) (sym (take-append-drop o room)) ∙ drop-append-le w all (drop o room) (omega (arith, n)) in
    let old : drop w all ≡ part room w (o - w) = sym (ap (take (o - w)) before ∙ take_at (drop w all) (drop o room) (o - w) d) in
    ap (λ (k : ℕ). take k (drop w (patch o cs room))) k ∙
    ap (take (length (drop w all) + length cs)) behind ∙
    take-append-add (drop w all) (cs ++ tail) (length cs) ∙
    (λ i. old i ++ take_at cs tail (length cs) refl i)

-- A run on its way, with the line feeds that it wrote.
pub record Counting (t : Tables) (f : Family) (m : ℕ) (chunk : List ℕ) (from i : ℕ) (s s' : Shift) (w o l : ℕ) (room₀ room : List ℕ) : Type 0 where
  pub going : Going t f m chunk from i s s' w o room₀ room
  pub lines : l ≡ line_feeds (part room w (o - w))

pub counting_start : {t : Tables} {f : Family} {m : ℕ} {chunk : List ℕ} {from : ℕ} {s : Shift} {w : ℕ} {room : List ℕ} → Ready chunk from room w →
    Counting t f m chunk from from s s w w 0 room room
counting_start {w = w} {room = room} h = record { going = going_start h; lines = none_in room w (w - w) (omega arith) }

module _ {t : Tables} {f : Family} {m : ℕ} {chunk : List ℕ} {from i : ℕ} {s s' : Shift} {w o l : ℕ} {room₀ room : List ℕ}
    (C : Counting t f m chunk from i s s' w o l room₀ room) where
  -- no more line feeds than scalars
  pub counting_fewer : l + w ≤ o
  counting_fewer =
      let r = C.going.runs in
      omega (arith, C.lines, ap line_feeds (runs_part r), line_feeds-length (shown r.ran.items), r.ran.count)

  -- scalars written behind
  pub counting_on : {j o' : ℕ} {s'' : Shift} {room' : List ℕ} (cs : List ℕ) {k : ℕ} → Going t f m chunk from j s s'' w o' room₀ room' →
      o' ≡ o + length cs → o + length cs ≤ length room → room' ≡ patch o cs room → k ≡ line_feeds cs → Counting t f m chunk from j s s'' w o' (l + k) room₀ room'
  counting_on {o' = o'} {room' = room'} cs {k} G n h e z =
      let b : w ≤ o = omega (arith, C.going.runs.ran.count) in
      let q : line_feeds (part room' w (o' - w)) ≡ line_feeds (part room w (o - w)) + line_feeds cs =
      rw (n, e) (ap line_feeds (part_on room cs w o b h) ∙ line_feeds-append (part room w (o - w)) cs) in
      record { going = G; lines = omega (arith, C.lines, q) }

  -- another run from there on
  pub counting_runs : {j o' k : ℕ} {s'' : Shift} {room' : List ℕ} (R : Runs (next t f) m chunk i j s' s'' o o' room room') → k ≡ line_feeds (part room' o (o' - o)) →
      Counting t f m chunk from j s s'' w o' (l + k) room₀ room'
  counting_runs R e =
      counting_on (shown R.ran.items) (going_runs C.going R) R.ran.count (omega (arith, R.ran.count, R.space, C.going.here))
      R.ran.wrote (e ∙ ap line_feeds (runs_part R))

  -- one scalar more
  pub counting_one : {n k c : ℕ} {s'' : Shift} → Gives m (next t f s' (drop i chunk)) n s'' c → o + 1 ≤ length room → k ≡ line_feeds (c ∷ []) →
      Counting t f m chunk from (i + n) s s'' w (o + 1) (l + k) room₀ (set room o c)
  counting_one {c = c} g h e = counting_on (c ∷ []) (going_one C.going g) refl h (patch_sets room o (c ∷ []) h) e
