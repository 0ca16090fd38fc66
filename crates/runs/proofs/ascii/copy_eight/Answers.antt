use mathlib.Core.Path.{◌≡◌, ◌∙◌}
use Prim.Native.Nat.{ℕ, ◌+◌, ◌≤◌}
use native.Mathlib.Nat.{add-zero}
use lib.ListN.{length, set, length-set}
use Rattle.runs.specs.Stretch.{Copied}
use Rattle.runs.proofs.Stretches.{copied_one, copied_on, copied_over, part_low}
use native.Mathlib.Omega.{arith}
use Rattle.runs.proofs.ascii.copy_eight.Goals as goal

pub returns-then-joined-ge128 : goal.returns-then-joined-ge128
returns-then-joined-ge128 c = (c.copy_front.ensures.0, c.copy_front.ensures.1, omega arith)

pub copy_four-requires : goal.copy_four-requires
copy_four-requires c =
    let ready = c.requires.0 in (
      record { begun = ready.begun; short = ready.short; fits = simp length-set ready.fits },
      omega arith,
      λ j l. part_low c.args.chunk.now c.args.at 8 c.requires.1 c.joined.ensures c.if-joined-ge128.false j (omega arith),
    )

pub copy_four-requires-2 : goal.copy_four-requires-2
copy_four-requires-2 c =
    let ready = c.requires.0 in
    let size = c.copy_four.ensures.size ∙ length-set c.args.room.now c.args.o _ in
    let behind : (j : ℕ) → c.args.at + 4 + j ≡ c.args.at + (4 + j) = λ j. omega arith in (
      record { begun = omega arith; short = ready.short; fits = omega (arith, ready, size) },
      omega arith,
      λ j l. rw (behind j) (part_low c.args.chunk.now c.args.at 8 c.requires.1 c.joined.ensures c.if-joined-ge128.false (4 + j) (omega arith)),
    )

pub returns : goal.returns
returns c =
    let args = c.args in
    let space : args.o + 4 ≤ length args.room.now = omega (arith, c.requires.0) in
    let low = part_low args.chunk.now args.at 8 c.requires.1 c.joined.ensures c.if-joined-ge128.false in
    let first : Copied args.chunk.now args.at 1 args.o args.room.now (set args.room.now args.o c.from.result) = rw c.from.ensures (copied_one args.chunk.now args.at args.o args.room.now (omega arith) (rw (add-zero args.at) at (low 0 (omega arith))) (omega (arith, space))) in
    let four = copied_over c.copy_four.ensures first (omega arith) space in
    (copied_on (omega arith) space four c.copy_four-2.ensures, λ l q. omega arith, omega arith)
