use native.Mathlib.Omega.{arith}
use mathlib.Core.Path.{refl}
use Prim.Native.Nat.{◌+◌}
use Rattle.word_runs.proofs.WordBytes.{words_more}
use Rattle.word_runs.proofs.single_byte.put_sixteen.Goals as goal

pub put_four-requires : goal.put_four-requires
put_four-requires c =
    let p = c.requires in
    (p.0, omega (arith, p.1), omega (arith, p.2))

pub put_four-requires-2 : goal.put_four-requires-2
put_four-requires-2 c =
    let p = c.requires in
    (p.0, omega (arith, p.1), omega (arith, p.2))

pub put_four-requires-3 : goal.put_four-requires-3
put_four-requires-3 c =
    let p = c.requires in
    (p.0, omega (arith, p.1), omega (arith, p.2))

pub put_four-requires-4 : goal.put_four-requires-4
put_four-requires-4 c =
    let p = c.requires in
    (p.0, omega (arith, p.1), omega (arith, p.2))

pub returns : goal.returns
returns c =
    let args = c.args in
    let r0 = args.room.now in
    let o = args.o in
    let j = args.j in
    let h = c.requires.2 in
    let w2 = words_more args.table.now args.words.now j r0 _ _ o 8 (j + 4) (o + 8) 8 (omega arith) refl c.put_four.ensures c.put_four-2.ensures (omega arith) in
    let w3 = words_more args.table.now args.words.now j r0 _ _ o 16 (j + 8) (o + 16) 8 (omega arith) refl w2 c.put_four-3.ensures (omega arith) in
    words_more args.table.now args.words.now j r0 _ _ o 24 (j + 12) (o + 24) 8 (omega arith) refl w3 c.put_four-4.ensures (omega arith)
