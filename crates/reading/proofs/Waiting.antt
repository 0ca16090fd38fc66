-- The end of input while the bytes held wait for the choice: the label's encoding reads them, and then comes the end. Assumes nothing.
use mathlib.Core.Path.{◌≡◌, refl, sym, ap, ◌∙◌, subst}
use mathlib.Core.Bool.{Bool, true, false, ◌&&◌}
use mathlib.Core.List.{List, [], ◌∷◌, ◌++◌, append-nil}
use Prim.Native.Nat.{ℕ, ◌+◌, ◌-◌, ◌≤◌}
use native.Mathlib.Omega.{arith}
use native.Mathlib.Nat.{zero-add}
use lib.Dec.{T, eqb}
use lib.ListN.{length, drop, length-append}
use borrow.Author.Tests.{eq-eqb}
use Rattle.std.specs.Prelude.{Result, Ok, Err}
use Rattle.std.specs.Result.{is_ok}
use Rattle.standard.specs.Base.{line_feeds}
use Rattle.standard.specs.Encodings.{Tables, family, no_tables}
use Rattle.standard.specs.Sequence.{Shift, shift, plain}
use Rattle.standard.specs.Next.{next}
use Rattle.standard.specs.Decode.{Item, Read, decode, ending, everything, shown, broken, widths}
use Rattle.standard.specs.Choice.{spot, lift, end_from}
use Rattle.standard.proofs.FamilyLaws.{keeps, next_laws}
use Rattle.standard.proofs.Walk.{at_more}
use Rattle.standard.proofs.Items.{broken_append, before_broken, reach_broken}
use Rattle.standard.proofs.LineFeeds.{line_feeds-length}
use Rattle.standard.proofs.Reading.{reading, ending_any}
use Rattle.runs.specs.Run.{patch}
use Rattle.runs.proofs.Patches.{patch_length}
use Rattle.reading.specs.Reading.{bytes_of, hold, bit, leaves, ReadOutcome, handed, past, behind, ends}
use Rattle.reading.specs.declared.Held.{Held}
use Rattle.reading.specs.declared.Left.{Left}
use Rattle.reading.specs.declared.Stop.{Stop}
use Rattle.reading.proofs.Loop.{held_length}
use Rattle.reading.proofs.Handing.{emit, emit_start, no_mark, emit_join, last, emit_last}

-- at most three bytes, held; and a shift, as numbers
held_again : (xs : List ℕ) → length xs ≤ 3 → bytes_of (hold xs) ≡ xs
held_again [] h = refl
held_again (a ∷ []) h = refl
held_again (a ∷ b ∷ []) h = refl
held_again (a ∷ b ∷ c ∷ []) h = refl
held_again (a ∷ b ∷ c ∷ d ∷ xs) h = absurd (omega arith)

bit_again : (b : Bool) → eqb (bit b) 1 ≡ b
bit_again true = refl
bit_again false = refl

-- What the label's encoding reads of the bytes held.
abbrev read_held : ℕ → Held → Tables → Read
read_held e held t = decode (next t (family e)) plain (bytes_of held)

-- Where the loop has given no report for the bytes held: the end of what is left is the end of all.
pub record Waited (e m : ℕ) (held : Held) (t : Tables) (room : List ℕ) (left : Left) (room' : List ℕ) : Type 0 where
  pub less : left.held.count ≤ held.count
  pub few : left.held.count ≤ 3
  pub fits : left.written + left.held.count ≤ length room'
  pub fewer : left.lines ≤ left.written
  pub outcome : behind m (held.count - left.held.count) left.written left.lines
      (ending no_tables (family e) (shift left.state (eqb left.flag 1)) (bytes_of left.held)) room' ≡ ends e m 1 0 0 held t room

module _ (e m : ℕ) (held : Held) (t : Tables) (room : List ℕ) where
  loop_is : past e m 0 0 0 held 0 t [] room ≡ handed m (lift 0 (read_held e held t)) room
  loop_is = rw (append-nil (bytes_of held)) (no_mark m (lift 0 (read_held e held t)) room)

  -- the items of the end
  abbrev last_items : List Item
  last_items = ending t (family e) (read_held e held t).shift (read_held e held t).rest

  -- a report stays: the end changes nothing before it
  pub wait_report : {left : Result Left Stop} {stop : Stop} {room' : List ℕ} →
      left ≡ (past e m 0 0 0 held 0 t [] room).left → room' ≡ (past e m 0 0 0 held 0 t [] room).room →
      left ≡ Err stop → (left ≡ (ends e m 1 0 0 held t room).left) × (room' ≡ (ends e m 1 0 0 held t room).room)
  unfolding end_from everything
  wait_report p q h =
      let not_all = sym (ap is_ok (p ∙ ap (λ (r : ReadOutcome). r.left) loop_is)) ∙ ap is_ok h in
      let same = loop_is ∙ go (eqb m 1) (broken is) refl refl not_all in
      (p ∙ ap (λ (r : ReadOutcome). r.left) same, q ∙ ap (λ (r : ReadOutcome). r.room) same)
    where
      is : List Item
      is = (read_held e held t).items

      go : (x y : Bool) → eqb m 1 ≡ x → broken is ≡ y → is_ok (handed m (lift 0 (read_held e held t)) room).left ≡ false →
          handed m (lift 0 (read_held e held t)) room ≡ handed m (last (is ++ last_items)) room
      go true true p q h = rw (p, broken_append is last_items, q, before_broken is last_items q, reach_broken is last_items q)
      go true false p q h = let z : true ≡ false = rw (p, q) at h in absurd (subst T z tt)
      go false y p q h = let z : true ≡ false = rw p at h in absurd (subst T z tt)

  sound : is_ok (handed m (lift 0 (read_held e held t)) room).left ≡ true → eqb m 1 && broken (read_held e held t).items ≡ false
  sound h = go (eqb m 1 && broken (read_held e held t).items) refl
    where
      go : (b : Bool) → eqb m 1 && broken (read_held e held t).items ≡ b → eqb m 1 && broken (read_held e held t).items ≡ false
      go true q = let z : false ≡ true = rw q at h in absurd (subst T (sym z) tt)
      go false q = q

  pub waited : {left : Left} {room' : List ℕ} → held.count ≤ 3 → held.count ≤ length room →
      Ok left ≡ (past e m 0 0 0 held 0 t [] room).left → room' ≡ (past e m 0 0 0 held 0 t [] room).room →
      Waited e m held t room left room'
  unfolding end_from everything
  waited {left} {room'} few fits p q =
      let here = p ∙ ap (λ (r : ReadOutcome). r.left) loop_is in
      let unbroken = sound (sym (ap is_ok here)) in
      let ok_is : ◌≡◌ {A = Result Left Stop} (Ok left) (Ok (leaves (length us) (line_feeds us) (spot 0 s) rest)) = here ∙ rw unbroken in
      let left_is : left ≡ leaves (length us) (line_feeds us) (spot 0 s) rest = cc in
      let room-is : room' ≡ us ++ drop (length us) room = q ∙ ap (λ (r : ReadOutcome). r.room) loop_is ∙ rw unbroken in
      rw (left_is, room-is) (go (λ z. rw (eq-eqb m 1 z) at unbroken))
    where
      is : List Item
      is = (read_held e held t).items

      us : List ℕ
      us = shown is

      s : Shift
      s = (read_held e held t).shift

      rest : List ℕ
      rest = (read_held e held t).rest

      go : (m ≡ 1 → broken is ≡ false) →
          Waited e m held t room (leaves (length us) (line_feeds us) (spot 0 s) rest) (us ++ drop (length us) room)
      go unbroken =
          let f = family e in
          let R = reading (keeps f) (next t f) (next_laws t f) plain (bytes_of held) in
          let n : length R.used + length rest ≡ held.count =
          sym (ap length R.split ∙ length-append R.used rest) ∙ held_length held [] few in
          let three : length rest ≤ 3 = (at_more (keeps f) (next t f) (next_laws t f) s rest R.waits).0 in
          let patched : patch 0 us room ≡ us ++ drop (length us) room = rw (zero-add (length us)) in
          let room-length = sym (ap length patched) ∙ patch_length room 0 us (omega (arith, R.count, n)) in
          let wide : 0 + widths is ≡ held.count - length rest = omega (arith, R.wide, n) in
          record {
            less = omega (arith, n);
            few = three;
            fits = omega (arith, room-length, R.count, n);
            fewer = line_feeds-length us;
            outcome = rw (bit_again s.flag, held_again rest three, ending_any no_tables t f s rest) (
                emit_last m (held.count - length rest) (length us) (line_feeds us) last_items (us ++ drop (length us) room) ∙ sym (
                sym (no_mark m (last (is ++ last_items)) room) ∙ emit_start m 0 (last (is ++ last_items)) room ∙
                emit_join m is (last last_items) 0 0 0 room unbroken (omega (arith, R.count, n)) ∙
                (λ i. emit m (last last_items) (wide i) (zero-add (line_feeds us) i) (zero-add (length us) i) (patched i))));
          }
