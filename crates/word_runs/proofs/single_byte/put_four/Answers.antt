use native.Mathlib.Omega.{arith}
use mathlib.Core.Path.{refl}
use Prim.Native.Nat.{◌+◌}
use Rattle.word_runs.specs.Units.{values}
use Rattle.word_runs.proofs.WordBytes.{word_more}
use Rattle.runs.proofs.Patches.{patch_none}
use Rattle.word_runs.proofs.single_byte.put_four.Goals as goal

pub put_word-requires : goal.put_word-requires
put_word-requires c =
    let p = c.requires in
    (p.0, omega (arith, p.2))

pub put_word-requires-2 : goal.put_word-requires-2
put_word-requires-2 c =
    let p = c.requires in
    (p.0, omega (arith, p.2))

pub put_word-requires-3 : goal.put_word-requires-3
put_word-requires-3 c =
    let p = c.requires in
    (p.0, omega (arith, p.2))

pub put_word-requires-4 : goal.put_word-requires-4
put_word-requires-4 c =
    let p = c.requires in
    (p.0, omega (arith, p.2))

pub returns : goal.returns
unfolding values
returns c =
    let args = c.args in
    let r0 = args.room.now in
    let o = args.o in
    let j = args.j in
    let table = args.table.now in
    let ws = args.words.now in
    let h = c.requires.2 in
    let w1 = word_more table ws j r0 r0 _ o 0 j o (omega arith) (omega arith) (patch_none r0 o) c.put_word.ensures (omega arith) (omega arith) in
    let w2 = word_more table ws j r0 _ _ o 2 (j + 1) (o + 2) (omega arith) refl w1 c.put_word-2.ensures (omega arith) (omega arith) in
    let w3 = word_more table ws j r0 _ _ o 4 (j + 2) (o + 4) (omega arith) refl w2 c.put_word-3.ensures (omega arith) (omega arith) in
    word_more table ws j r0 _ _ o 6 (j + 3) (o + 6) (omega arith) refl w3 c.put_word-4.ensures (omega arith) (omega arith)
