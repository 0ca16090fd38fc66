-- Stretches of ASCII. Assumes nothing.
use mathlib.Core.Path.{◌≡◌, refl, sym, ap, ◌∙◌, subst}
use mathlib.Core.Bool.{false}
use mathlib.Core.List.{List, [], ◌∷◌, ◌++◌}
use Prim.Native.Nat.{ℕ, zero, suc, ◌+◌, ◌≤◌, ◌<◌}
use native.Mathlib.Omega.{arith}
use native.Mathlib.Nat.{add-zero}
use lib.ListN.{length, take, drop, get_or, set, length-drop, length-set, length-append, take-append-drop, get_or-append}
use lib.Seq.{drop-drop, length-take-le, get_or-take, get_or-drop, get_or-append-add, set-get_or, take-add}
use Rattle.standard.specs.Encodings.{Family, Tables}
use Rattle.standard.specs.Sequence.{Shift, text, plain, scalar}
use Rattle.standard.specs.Next.{next}
use Rattle.standard.specs.Decode.{Item, span, put, decode, shown, broken}
use Rattle.standard.proofs.FamilyLaws.{keeps, next_laws}
use Rattle.standard.proofs.Walk.{decode_item}
use Rattle.std.specs.List.{slice_range}
use Rattle.std.proofs.lemmas.List.Edits.{get_or-between, length-between}
use Rattle.runs.specs.Run.{patch, puts, Ran, Ready}
use Rattle.runs.specs.Stretch.{Copied, Begins}
use Rattle.runs.proofs.Patches.{patch_sets, patch_none, patch_patch, patch_over}
use Rattle.runs.proofs.Below.{below_add}
use Rattle.runs.proofs.Fronts.{byte_at}
use Rattle.runs.proofs.Running.{Going, going_runs}

-- nothing copied
pub copied_none : {chunk : List ℕ} {from w : ℕ} {room : List ℕ} → Copied chunk from 0 w room room
copied_none {w = w} {room = room} = record { inside = omega arith; ascii = λ j l. absurd (omega arith); size = refl; wrote = patch_none room w }

-- one byte
pub copied_one : (chunk : List ℕ) (at w : ℕ) (room : List ℕ) → at < length chunk → get_or chunk at 0 < 0x80 → w < length room → Copied chunk at 1 w room (set room w (get_or chunk at 0))
copied_one chunk at w room h b l = record {
  inside = omega arith;
  ascii = λ j q. let z : at ≡ at + j = omega arith in subst (λ (x : ℕ). get_or chunk x 0 < 0x80) z b;
  size = length-set room w (get_or chunk at 0);
  wrote = patch_sets room w (get_or chunk at 0 ∷ []) (omega arith) ∙ ap (λ (cs : List ℕ). patch w cs room) (sym (ap (take 1) (byte_at chunk at h)));
}

-- bytes written after others
wrote_on : (chunk : List ℕ) (from j k w : ℕ) (r : List ℕ) {r' r'' : List ℕ} → from + j ≤ length chunk → w + j ≤ length r →
    r' ≡ patch w (take j (drop from chunk)) r → r'' ≡ patch (w + j) (take k (drop (from + j) chunk)) r' → r'' ≡ patch w (take (j + k) (drop from chunk)) r
wrote_on chunk from j k w r {r'} {r''} inside h a b =
    let us = take j (drop from chunk) in
    let l : length us ≡ j = length-take-le j (drop from chunk) (omega (arith, length-drop from chunk)) in
    let d : drop (from + j) chunk ≡ drop j (drop from chunk) = sym (drop-drop j from chunk) in
    let n : w + j ≡ w + length us = omega (arith, l) in
    let q : patch (w + j) (take k (drop (from + j) chunk)) r' ≡ patch (w + length us) (take k (drop j (drop from chunk))) (patch w us r) =
    λ i. patch (n i) (take k (d i)) (a i) in
    b ∙ q ∙ patch_patch w us (take k (drop j (drop from chunk))) r (omega (arith, l)) ∙ ap (λ (cs : List ℕ). patch w cs r) (sym (take-add j k (drop from chunk)))

-- bytes below 80 after others
low_on : (chunk : List ℕ) (from j k : ℕ) → ((i : ℕ) → i < j → get_or chunk (from + i) 0 < 0x80) →
    ((i : ℕ) → i < k → get_or chunk (from + j + i) 0 < 0x80) → (i : ℕ) → i < j + k → get_or chunk (from + i) 0 < 0x80
low_on chunk from j k a b =
    below_add (λ i. get_or chunk (from + i) 0 < 0x80) j k a (λ i h. let z : from + j + i ≡ from + (j + i) = omega arith in subst (λ (x : ℕ). get_or chunk x 0 < 0x80) z (b i h))

-- one stretch after another
pub copied_on : {chunk : List ℕ} {from j k w : ℕ} {r r' r'' : List ℕ} → from ≤ length chunk → w + j ≤ length r →
    Copied chunk from j w r r' → Copied chunk (from + j) k (w + j) r' r'' → Copied chunk from (j + k) w r r''
copied_on {chunk} {from} {j} {k} {w} {r} h l a b = record {
  inside = omega (arith, a.inside, b.inside);
  ascii = low_on chunk from j k a.ascii b.ascii;
  size = b.size ∙ a.size;
  wrote = wrote_on chunk from j k w r (omega (arith, a.inside)) l a.wrote b.wrote;
}

-- four bytes, one after another
pub copied_four : (chunk : List ℕ) (at w : ℕ) (room : List ℕ) → at + 4 ≤ length chunk → w + 4 ≤ length room →
    ((j : ℕ) → j < 4 → get_or chunk (at + j) 0 < 0x80) →
    let byte : ℕ → ℕ = λ j. get_or chunk (at + j) 0 in
    Copied chunk at 4 w room (set (set (set (set room w (get_or chunk at 0)) (w + 1) (byte 1)) (w + 2) (byte 2)) (w + 3) (byte 3))
copied_four chunk at w room h l low =
    let first : get_or chunk at 0 < 0x80 = rw (add-zero at) at (low 0 (omega arith)) in
    let one = copied_one chunk at w room (omega arith) first (omega arith) in
    let two = more 1 one (omega arith) (omega arith) in
    let three = more 2 two (omega arith) (omega arith) in
    more 3 three (omega arith) (omega arith)
  where
    more : (j : ℕ) {r : List ℕ} → Copied chunk at j w room r → j < 4 → w + j < length r →
        Copied chunk at (j + 1) w room (set r (w + j) (get_or chunk (at + j) 0))
    more j {r} c k q = copied_on (omega arith) (omega arith) c (copied_one chunk (at + j) (w + j) r (omega arith) (low j k) q)

-- the number of bytes, known to be another
pub copied_as : {chunk : List ℕ} {at j k w : ℕ} {r r' : List ℕ} → j ≡ k → Copied chunk at j w r r' → Copied chunk at k w r r'
copied_as e c = rw e at c

-- a stretch copied over a shorter one
pub copied_over : {chunk : List ℕ} {at j k w : ℕ} {r r' r'' : List ℕ} → Copied chunk at k w r' r'' → Copied chunk at j w r r' →
    j ≤ k → w + k ≤ length r → Copied chunk at k w r r''
copied_over {chunk} {at} {j} {k} {w} {r} b a h l =
    let us = take j (drop at chunk) in
    let vs = take k (drop at chunk) in
    let m : length us ≡ j = length-take-le j (drop at chunk) (omega (arith, length-drop at chunk, a.inside)) in
    let n : length vs ≡ k = length-take-le k (drop at chunk) (omega (arith, length-drop at chunk, b.inside)) in
    record {
      inside = b.inside;
      ascii = b.ascii;
      size = b.size ∙ a.size;
      wrote = b.wrote ∙ ap (patch w vs) a.wrote ∙ patch_over w us vs r (omega (arith, m, n)) (omega (arith, n));
    }

-- A byte that is copied stands in the room: stored again it changes nothing.
copied_again : {chunk : List ℕ} {at j k w : ℕ} {r r' : List ℕ} → Copied chunk at k w r r' → j < k → w + k ≤ length r →
    set r' (w + j) (get_or chunk (at + j) 0) ≡ r'
copied_again {chunk} {at} {j} {k} {w} {r} {r'} c h l =
    let us = take k (drop at chunk) in
    let n : length (take w r) ≡ w = length-take-le w r (omega arith) in
    let m : length us ≡ k = length-take-le k (drop at chunk) (omega (arith, length-drop at chunk, c.inside)) in
    let e : length (take w r ++ us) ≡ w + k = length-append (take w r) us ∙ omega (arith, n, m) in
    let a : get_or (take w r ++ us) (w + j) 0 ≡ get_or us j 0 =
    ap (λ (x : ℕ). get_or (take w r ++ us) (x + j) 0) (sym n) ∙ get_or-append-add (take w r) us j 0 in
    let b = get_or-append (take w r ++ us) (drop (w + length us) r) 0 (w + j) (omega (arith, e)) in
    let d : get_or us j 0 ≡ get_or chunk (at + j) 0 = get_or-take k (drop at chunk) j 0 h ∙ get_or-drop at chunk j 0 in
    ap (set r' (w + j)) (sym (ap (λ (x : List ℕ). get_or x (w + j) 0) c.wrote ∙ b ∙ a ∙ d)) ∙ set-get_or r' (w + j) 0

-- the next byte stored behind a stretch, or its last byte again
pub copied_step : (last more : ℕ) {chunk : List ℕ} {at w : ℕ} {r r' : List ℕ} → Copied chunk at (last + 1) w r r' →
    at + last + more < length chunk → w + last + more < length r → more ≤ 1 → (1 ≤ more → get_or chunk (at + (last + more)) 0 < 0x80) →
    Copied chunk at (last + more + 1) w r (set r' (w + (last + more)) (get_or chunk (at + (last + more)) 0))
copied_step last zero c h l m low = rw (add-zero last, copied_again {j = last} c (omega arith) (omega arith)) c
copied_step last (suc zero) {chunk} {at} {w} {r} {r'} c h l m low =
    copied_on (omega arith) (omega arith) c (
    copied_one chunk (at + (last + 1)) (w + (last + 1)) r' (omega arith) (low (omega arith)) (omega (arith, c.size)))
copied_step last (suc (suc n)) c h l m low = absurd (omega arith)

-- a stretch on its way, from a place where a run could begin
pub record Copying (chunk : List ℕ) (from w k : ℕ) (room₀ room : List ℕ) : Type 0 where
  pub copied : Copied chunk from k w room₀ room
  pub began : Ready chunk from room₀ w

pub copying_start : {chunk : List ℕ} {from w : ℕ} {room : List ℕ} → Ready chunk from room w → Copying chunk from w 0 room room
copying_start h = record { copied = copied_none; began = h }

pub copying_on : {chunk : List ℕ} {from w k : ℕ} {room₀ room room' : List ℕ} {j : ℕ} → Copying chunk from w k room₀ room → Copied chunk (from + k) j (w + k) room room' → Copying chunk from w (k + j) room₀ room'
copying_on C c = record { copied = copied_on C.began.begun (omega (arith, C.copied.inside, C.began)) C.copied c; began = C.began }

-- and nothing more
pub copying_stop : {chunk : List ℕ} {from w k : ℕ} {room₀ room room' : List ℕ} {j : ℕ} → Copying chunk from w k room₀ room → Copied chunk (from + k) j (w + k) room room' → j ≡ 0 → Copied chunk from k w room₀ room'
copying_stop {k = k} {j = j} C c e = let z : k + j ≡ k = omega arith in rw z at (copying_on C c).copied

-- a run could begin where it has come to, too
pub copying_ready : {chunk : List ℕ} {from w k : ℕ} {room₀ room : List ℕ} → Copying chunk from w k room₀ room →
    Ready chunk (from + k) room (w + k)
copying_ready C = record {
  begun = omega (arith, C.copied.inside, C.began.begun);
  short = C.began.short;
  fits = omega (arith, C.copied.inside, C.copied.size, C.began);
}

-- what begins where a stretch has come to
pub begins_on : (chunk : List ℕ) (from k : ℕ) {j : ℕ} → Begins chunk (from + k) j → Begins chunk from (k + j)
begins_on chunk from zero {j} b l q = omega (arith, b (omega arith) (rw (add-zero from) q))
begins_on chunk from (suc k) b l q = omega arith

-- Behind k bytes there is one that is not below 80: where the first is below 80, it is among them.
pub begins_end : (chunk : List ℕ) (from k : ℕ) → 0x80 ≤ get_or chunk (from + k) 0 → Begins chunk from k
begins_end chunk from zero h l q = let n = rw (add-zero from) at h in absurd (omega arith)
begins_end chunk from (suc k) h l q = omega arith

-- Each byte of a part is at most a number below 80.
pub part_low : (chunk : List ℕ) (at n : ℕ) {r : ℕ} → at + n ≤ length chunk → let bytes = slice_range chunk at (at + n) in
    ((j : ℕ) → j < length bytes → get_or bytes j 0 ≤ r) → r < 0x80 → (j : ℕ) → j < n → get_or chunk (at + j) 0 < 0x80
part_low chunk at n h each low j q =
    let e = get_or-between chunk at (at + n) j 0 (omega arith) in
    let l = length-between chunk at (at + n) in
    omega (arith, e, each j (omega (arith, l)))

-- each byte as a sequence
singles : List ℕ → List Item
singles [] = []
singles (u ∷ us) = span 1 (text (u ∷ [])) ∷ singles us

shown_singles : (us : List ℕ) → shown (singles us) ≡ us
unfolding shown singles
shown_singles [] = refl
shown_singles (u ∷ us) = ap (◌∷◌ u) (shown_singles us)

broken_singles : (us : List ℕ) → broken (singles us) ≡ false
unfolding broken singles
broken_singles [] = refl
broken_singles (u ∷ us) = broken_singles us

-- Where bytes below 80 stand for themselves, a stretch of them does.
module _ (t : Tables) (f : Family) (m : ℕ) (self : (b : ℕ) (ys : List ℕ) → b < 0x80 → next t f plain (b ∷ ys) ≡ scalar 1 b) where
  read_singles : (us ys : List ℕ) → ((j : ℕ) → j < length us → get_or us j 0 < 0x80) → decode (next t f) plain (us ++ ys) ≡ puts (singles us) (decode (next t f) plain ys)
  unfolding puts singles
  read_singles [] ys h = refl
  read_singles (u ∷ us) ys h =
      decode_item (keeps f) (next t f) (next_laws t f) plain (u ∷ us ++ ys) (self u (us ++ ys) (h 0 (omega arith))) ∙
      ap (put 1 (text (u ∷ []))) (read_singles us ys (λ j l. h (suc j) (omega arith)))

  ran_ascii : (us ys : List ℕ) (w : ℕ) (room : List ℕ) → ((j : ℕ) → j < length us → get_or us j 0 < 0x80) → Ran (next t f) m plain plain (us ++ ys) ys w (w + length us) room (patch w us room)
  ran_ascii us ys w room h = record {
    items = singles us;
    read = read_singles us ys h;
    sound = λ e. broken_singles us;
    count = ap (λ (l : List ℕ). w + length l) (sym (shown_singles us));
    wrote = ap (λ (l : List ℕ). patch w l room) (sym (shown_singles us));
  }

  module _ {chunk : List ℕ} {from i : ℕ} {s : Shift} {w o k : ℕ} {room₀ room room' : List ℕ} (G : Going t f m chunk from i s plain w o room₀ room) (c : Copied chunk i k o room room') where
    stretch : Ran (next t f) m plain plain (drop i chunk) (drop (i + k) chunk) o (o + k) room room'
    stretch =
        let here = length-drop i chunk in
        let l : length (take k (drop i chunk)) ≡ k = length-take-le k (drop i chunk) (omega (arith, here, c.inside)) in
        let low : (j : ℕ) → j < length (take k (drop i chunk)) → get_or (take k (drop i chunk)) j 0 < 0x80 = λ j q. let n : j < k = omega (arith, l) in rw (get_or-take k (drop i chunk) j 0 n, get_or-drop i chunk j 0) (c.ascii j n) in
        let a = ran_ascii (take k (drop i chunk)) (drop k (drop i chunk)) o room low in
        rw (sym c.wrote, take-append-drop k (drop i chunk), drop-drop k i chunk, l) at a

    pub going_copied : Going t f m chunk from (i + k) s plain w (o + k) room₀ room'
    going_copied =
        let here = G.here in
        going_runs G (record { ahead = omega arith; inside = λ z. omega (arith, c.inside); space = omega (arith, c.inside); size = c.size; ran = stretch })
