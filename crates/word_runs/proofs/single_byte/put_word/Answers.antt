use native.Mathlib.Omega.{arith}
use mathlib.Core.Path.{◌∙◌}
use mathlib.Core.List.{◌∷◌, []}
use Prim.Native.Nat.{◌/◌, ◌%◌}
use lib.Seq.{sets}
use lib.ListN.{get_or, length-set}
use Rattle.word_runs.proofs.WordBytes.{parts, two_sets}
use Rattle.word_runs.proofs.single_byte.put_word.Goals as goal

pub overflow_add-both : goal.overflow_add-both
overflow_add-both c =
    let args = c.args in
    let h = c.requires.0 in
    let w = args.word in
    omega (arith, h.small (w % 256) (omega arith), h.small (w / 256) (omega arith), h.upper (w / 256) (omega arith))

pub overflow_cast-room-2 : goal.overflow_cast-room-2
overflow_cast-room-2 c =
    let args = c.args in
    let h = c.requires.0 in
    let w = args.word in
    omega (arith, h.small (w % 256) (omega arith), h.small (w / 256) (omega arith), h.upper (w / 256) (omega arith))

pub bounds-room-o-2 : goal.bounds-room-o-2
bounds-room-o-2 c = simp length-set (omega arith)

pub shape_of-room : goal.shape_of-room
shape_of-room c = simp length-set

pub returns : goal.returns
returns c =
    let args = c.args in
    let h = c.requires.0 in
    let w = args.word in
    let table = args.table.now in
    let p = parts (get_or table (w % 256) 0) (get_or table (w / 256) 0) (get_or args.high.now (w / 256) 0) (h.small (w % 256) (omega arith)) (h.upper (w / 256) (omega arith)) in
    rw (c.from.ensures, c.from-w.ensures) (two_sets args.room.now args.o _ _ ∙ (λ i. sets args.room.now args.o (p.0 i ∷ p.1 i ∷ [])))
