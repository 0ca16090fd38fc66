use mathlib.Core.Path.{◌≡◌, refl, subst}
use mathlib.Core.List.{List, [], ◌∷◌, ◌++◌}
use Prim.Native.Nat.{ℕ, ◌+◌, ◌≤◌, ◌<◌}
use lib.ListN.{length, get_or}
use Rattle.standard.specs.Machine.{reference}
use Rattle.standard.specs.Ones.{One, shift_to}
use Rattle.reverse_index_spec.specs.ReverseIndex.{look_up}
use Rattle.pair_writers.specs.Pairs.{bytes_of, pair_encode}
use Rattle.encoder.specs.WriterCode.{pair_of, Running}
use Rattle.encoder.proofs.Counting.{Here, running_start, running_end, running_front, running_stop, running_room, running_on, running_room_both, running_both}
use Rattle.encoder.proofs.Counting.{here_bytes, here_reference, here_stop, here_least}
use Rattle.encoder.proofs.Ones.{pair_answered, pair_bytes, pair_named, plain_byte}
use Rattle.encoder.proofs.PairSlots.{ready_stays}
use native.Mathlib.Omega.{arith}
use Rattle.encoder.proofs.pairs.write_by.Goals as goal
use Rattle.encoder.proofs.pairs.write_by.Goals.{After-one_by-one, After-run-r, After-state_for-to, In-loop-i, Start, Then-plain, in-Unwritable-2, in_default}

abbrev one : Start → ℕ → ℕ → One
one c = pair_of c.args.encoding (look_up c.args.table.now c.args.links.now) c.args.second.now

-- a turn's index has a next one
next_fits : (c : In-loop-i) → c.loop-i.i + 1 < 18446744073709551616
next_fits c = omega (arith, c.loop-i-test.true)

pub loop-i-init : goal.loop-i-init
loop-i-init c = (running_start _ _ _ _ _, c.requires.0, refl)

abbrev byte : Then-plain → List ℕ
byte c = get_or c.args.scalars.now c.loop-i.i 0 ∷ []

byte_here : (c : Then-plain) →
    Here (one (goal.at.Then-plain c).Start) c.args.mode c.args.scalars.now c.loop-i.s c.loop-i.i c.loop-i.s (byte c)
byte_here c = here_bytes _ _ _ _ _ c.loop-i-test.true (plain_byte _ _ _ _ _ (c.plain.ensures c.if-plain.true))

byte_room : (c : Then-plain) → let l = c.loop-i in l.o + length (byte c) ≤ length l.room
byte_room c =
    running_room _ _ _ _ _ _ _ _ _ c.loop-i.invariant.0 _ (byte c) (byte_here c) c.requires.1

pub overflow_cast-room : goal.overflow_cast-room
overflow_cast-room c = omega (arith, (c.plain.ensures c.if-plain.true).is_ascii)

pub bounds-room-o : goal.bounds-room-o
bounds-room-o c = omega (arith, byte_room c)

pub overflow_add-o : goal.overflow_add-o
overflow_add-o c = record { fits = omega (arith, byte_room c) }

pub overflow_add-i : goal.overflow_add-i
overflow_add-i c = record { fits = next_fits (goal.at.overflow_add-i c).In-loop-i }

pub loop-i-preserved-then-plain : goal.loop-i-preserved-then-plain
loop-i-preserved-then-plain c =
    let inv = c.loop-i.invariant in
    (running_on _ _ _ _ _ _ _ _ _ inv.0 _ (byte c) (byte_here c) c.requires.1 _ _ refl refl, inv.1, inv.2)

abbrev room-behind : After-run-r → List ℕ
room-behind c = c.run-r.new.room

abbrev Stands : After-run-r → ℕ → Type 0
Stands c i =
    Running (one (goal.at.After-run-r c).Start) c.args.mode c.args.state c.args.scalars.now c.args.room.now (room-behind c) i c.run-r.result.written
    c.loop-i.s

pub run-r-requires : goal.run-r-requires
run-r-requires c =
    (omega (arith, c.loop-i-test.true), c.loop-i.invariant.0.inside)

stands : (c : After-run-r) → Stands c c.run-r.result.index
stands c =
    let inv = c.loop-i.invariant in
    c.run-r.ensures.2 (one (goal.at.After-run-r c).Start) c.args.mode c.args.state c.args.room.now
    (ready_stays c.args.encoding c.loop-i.s _ _ _ _ inv.1) c.requires.1 inv.0

pub loop-i-smaller-then-i-r : goal.loop-i-smaller-then-i-r
loop-i-smaller-then-i-r c =
    omega (arith, c.if-i-r.true, c.run-r.ensures.1)

pub loop-i-preserved-then-i-r : goal.loop-i-preserved-then-i-r
loop-i-preserved-then-i-r c =
    let inv = c.loop-i.invariant in
    (stands (goal.at.loop-i-preserved-then-i-r c).After-run-r, inv.1, inv.2)

still : (c : After-one_by-one) → Stands (goal.at.After-one_by-one c).After-run-r c.loop-i.i
still c =
    let z : c.run-r.result.index ≡ c.loop-i.i = omega (arith, c.if-i-r.false, c.run-r.ensures.0) in
    subst (Stands (goal.at.After-one_by-one c).After-run-r) z (stands (goal.at.After-one_by-one c).After-run-r)

pub one_by-one-requires : goal.one_by-one-requires
one_by-one-requires c =
    (c.loop-i.invariant.1, c.requires.2)

-- the way to the next state, the place where it is written, and what is written of the scalar behind it: its bytes, or a reference
abbrev way : After-state_for-to → List ℕ
way c = shift_to c.loop-i.s c.state_for-to.result

abbrev Writes : After-state_for-to → List ℕ → Type 0
Writes c us =
    Here (one (goal.at.After-state_for-to c).Start) c.args.mode c.args.scalars.now c.loop-i.s c.loop-i.i c.state_for-to.result (way c ++ us)

-- the way has room, whatever comes behind it
way_room : (c : After-state_for-to) →
    c.run-r.result.written + length (way c) ≤ length (room-behind (goal.at.After-state_for-to c).After-run-r)
way_room c =
    let a = c.args in
    let result = pair_encode a.encoding (look_up a.table.now a.links.now) a.second.now (get_or a.scalars.now c.loop-i.i 0) in
    let answer = pair_answered c.one_by-one.result _ _ _ _ _ c.one_by-one.ensures.0 _ c.state_for-to.ensures in
    running_front _ _ _ _ _ _ _ _ _ (still (goal.at.After-state_for-to c).After-one_by-one) (way c)
    (here_least _ _ _ _ _ c.loop-i-test.true (way c) c.state_for-to.result result answer) c.requires.1

pub put-o-requires : goal.put-o-requires
put-o-requires c = way_room (goal.at.put-o-requires c).After-state_for-to

pub returns-in-Unwritable : goal.returns-in-Unwritable
returns-in-Unwritable c =
    let named = pair_named c.one_by-one.result _ _ _ _ _ c.one_by-one.ensures.0 _ c.state_for-to.ensures _ c.in-Unwritable.is in
    running_stop _ _ _ _ _ _ _ _ _ (still (goal.at.returns-in-Unwritable c).After-one_by-one) (here_stop _ _ _ _ _ c.loop-i-test.true named c.if-mode-eq1.true)
    (way_room (goal.at.returns-in-Unwritable c).After-state_for-to) _ _ c.put-o.ensures.0 c.put-o.ensures.1

pub put-o-requires-in-Unwritable-2 : goal.put-o-requires-in-Unwritable-2
put-o-requires-in-Unwritable-2 c =
    let named = pair_named c.one_by-one.result _ _ _ _ _ c.one_by-one.ensures.0 _ c.state_for-to.ensures _ c.in-Unwritable-2.is in
    running_room_both _ _ _ _ _ _ _ _ _ (still (goal.at.put-o-requires-in-Unwritable-2 c).After-one_by-one) _ (way (goal.at.put-o-requires-in-Unwritable-2 c).After-state_for-to) (reference c.in-Unwritable-2.named)
    (here_reference _ _ _ _ _ c.loop-i-test.true named c.if-mode-eq1.false) c.requires.1 _ _ c.put-o.ensures.0 c.put-o.ensures.1

pub put-o-requires-in_default : goal.put-o-requires-in_default
put-o-requires-in_default c =
    let wrote = pair_bytes c.one_by-one.result _ _ _ _ _ c.one_by-one.ensures.0 _ c.state_for-to.ensures c.in_default.not-Unwritable in
    running_room_both _ _ _ _ _ _ _ _ _ (still (goal.at.put-o-requires-in_default c).After-one_by-one) _ (way (goal.at.put-o-requires-in_default c).After-state_for-to) (bytes_of c.one_by-one.result)
    (here_bytes _ _ _ _ _ c.loop-i-test.true wrote) c.requires.1 _ _ c.put-o.ensures.0 c.put-o.ensures.1

-- a reference to the code point that the error names, or bytes
pub loop-i-preserved : goal.loop-i-preserved
loop-i-preserved c = (
  elim c.match-one.branch [
    | in-Unwritable-2 w ↦
        let named = pair_named c.one_by-one.result _ _ _ _ _ c.one_by-one.ensures.0 _ c.state_for-to.ensures _ w.in-Unwritable-2.is in
        rw (w.o-is, w.room-is) (running_both _ _ _ _ _ _ _ _ _ (still (goal.at.loop-i-preserved c).After-one_by-one) _ (way (goal.at.loop-i-preserved c).After-state_for-to) (reference w.in-Unwritable-2.named)
        (here_reference _ _ _ _ _ c.loop-i-test.true named w.if-mode-eq1.false) c.requires.1 _ _ c.put-o.ensures.0 c.put-o.ensures.1
        _ _ w.put-o-in-Unwritable-2.ensures.0 w.put-o-in-Unwritable-2.ensures.1)
    | in_default w ↦
        let wrote = pair_bytes c.one_by-one.result _ _ _ _ _ c.one_by-one.ensures.0 _ c.state_for-to.ensures w.in_default.not-Unwritable in
        rw (w.o-is, w.room-is) (running_both _ _ _ _ _ _ _ _ _ (still (goal.at.loop-i-preserved c).After-one_by-one) _ (way (goal.at.loop-i-preserved c).After-state_for-to) (bytes_of c.one_by-one.result)
        (here_bytes _ _ _ _ _ c.loop-i-test.true wrote) c.requires.1 _ _ c.put-o.ensures.0 c.put-o.ensures.1
        _ _ w.put-o-in_default.ensures.0 w.put-o-in_default.ensures.1)
  ],
  c.one_by-one.ensures.1,
  omega (arith, c.one_by-one.auto, c.loop-i.invariant.2),
)

pub shape_of-slots : goal.shape_of-slots
shape_of-slots c = c.loop-i.invariant.2

pub returns : goal.returns
returns c = running_end _ _ _ _ _ _ _ _ _ c.loop-i.invariant.0 c.loop-i-test.false
