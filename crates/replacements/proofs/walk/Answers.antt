use native.Mathlib.Omega.{arith}
use mathlib.Core.Path.{◌≡◌, sym, ap, ◌∙◌}
use mathlib.Core.List.{List, ◌++◌}
use Prim.Native.Nat.{ℕ, ◌+◌, ◌≤◌}
use lib.Dec.{eqb}
use lib.ListN.{length, drop}
use Rattle.standard.specs.Encodings.{family, lent}
use Rattle.standard.specs.Sequence.{Next, more, shift}
use Rattle.standard.specs.Next.{next}
use Rattle.sequences.specs.Code.{next_of, item_of}
use Rattle.sequences.proofs.Flags.{flag_kept}
use Rattle.reading.specs.Reading.{bytes_of}
use Rattle.reading.proofs.Loop.{all_count}
use Rattle.replacements.proofs.Walking.{start_walking, turn_count, turn_told, turn_shift, turn_rest, turn_width, turn_space, turn_on}
use Rattle.replacements.proofs.walk.Goals as goal
use Rattle.replacements.proofs.walk.Goals.{After-sequence, In_default, In-Some}

abbrev Bytes : After-sequence → List ℕ
Bytes f = bytes_of f.args.held ++ f.args.chunk.now

-- the place lies within the bytes
counted : (f : After-sequence) → f.loop-q.at ≤ f.args.held.count + length f.args.chunk.now
counted f = omega (arith, all_count f.args.held f.args.chunk.now f.loop-q.invariant.1, f.loop-q.invariant.0.inside)

-- what the definition finds at the place
abbrev here : After-sequence → Next
here f = let a = f.args in let at-loop = f.loop-q in
    next (lent a.t1.now a.t2.now) (family a.encoding) (shift at-loop.s (eqb at-loop.f 1)) (drop at-loop.at (Bytes f))

seen : (f : After-sequence) → next_of f.sequence.result ≡ here f
seen f = f.sequence.ensures f.loop-q.invariant.1 f.loop-q.invariant.2 (counted f)

-- no whole sequence
waits : (c : In_default) → here (goal.at.In_default c).After-sequence ≡ more
waits c = sym (seen (goal.at.In_default c).After-sequence) ∙ ap next_of c.in_default.is

-- a whole sequence, which ends within the bytes
found : (c : In-Some) → item_of c.in-Some.q ≡ here (goal.at.In-Some c).After-sequence
found c = ap next_of (sym c.in-Some.is) ∙ seen (goal.at.In-Some c).After-sequence

wide : (c : In-Some) → (1 ≤ c.in-Some.q.width) × (c.loop-q.at + c.in-Some.q.width ≤ c.args.held.count + length c.args.chunk.now)
wide c =
    let w = turn_width _ _ _ _ _ _ _ c.loop-q.invariant.0 c.in-Some.q (found c) in
    (w.0, omega (arith, w.1, all_count c.args.held c.args.chunk.now c.loop-q.invariant.1))

pub loop-q-init : goal.loop-q-init
loop-q-init c =
    let a = c.args in
    let n = all_count a.held a.chunk.now (omega arith) in
    (start_walking _ _ _ _ _ _ _ (omega (arith, n)) (omega (arith, n)), omega arith, omega arith, omega arith)

pub returns-in_default : goal.returns-in_default
returns-in_default c =
    let R = c.loop-q.invariant.0 in
    let e = waits (goal.at.returns-in_default c).In_default in
    record {
      count = turn_count _ _ _ _ _ _ _ R e;
      told = turn_told _ _ _ _ _ _ _ R e;
      leaves = turn_shift _ _ _ _ _ _ _ R e;
      rest = turn_rest _ _ _ _ _ _ _ R e;
      inside = R.inside;
    }

pub overflow_cast-at : goal.overflow_cast-at
overflow_cast-at c = let h = counted (goal.at.overflow_cast-at c).After-sequence in omega (arith, h)

pub overflow_add-from : goal.overflow_add-from
overflow_add-from c = let h = counted (goal.at.overflow_add-from c).After-sequence in omega (arith, h)

pub note-n-requires : goal.note-n-requires
note-n-requires c =
    turn_space _ _ _ _ _ _ _ c.loop-q.invariant.0 c.in-Some.q (found (goal.at.note-n-requires c).In-Some)

pub overflow_add-at : goal.overflow_add-at
overflow_add-at c =
    omega (arith, wide (goal.at.overflow_add-at c).In-Some, counted (goal.at.overflow_add-at c).After-sequence)

pub loop-q-smaller : goal.loop-q-smaller
loop-q-smaller c =
    omega (arith, wide (goal.at.loop-q-smaller c).In-Some, counted (goal.at.loop-q-smaller c).After-sequence)

pub loop-q-preserved : goal.loop-q-preserved
loop-q-preserved c =
    let q = c.in-Some.q in (
      rw (c.from-f.ensures, flag_kept q.shift.flag)
          (turn_on _ _ _ _ _ _ _ c.loop-q.invariant.0 q (found (goal.at.loop-q-preserved c).In-Some) c.note-n.ensures),
      omega arith,
      omega arith,
      omega arith,
    )
