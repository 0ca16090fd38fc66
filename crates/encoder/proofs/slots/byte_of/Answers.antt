-- `slots::byte_of`: ASCII, a slot that holds the scalar, or the search. Assumes nothing.
use Prim.Native.Nat.{◌%◌}
use Rattle.encoder.proofs.Filling.{below_80, by_slot}
use Rattle.reverse_index_spec.specs.ReverseIndex.{look_up}
use Rattle.encoder.proofs.slots.byte_of.Goals as goal

pub returns-then-c-lt128 : goal.returns-then-c-lt128
returns-then-c-lt128 c = below_80 c.args.encoding (look_up c.args.table.now c.args.links.now) c.args.c c.if-c-lt128.true

pub returns-then-s-c : goal.returns-then-s-c
returns-then-s-c c =
    by_slot c.args.encoding (look_up c.args.table.now c.args.links.now) c.args.slots.now c.requires.1 (c.args.c % 2048) c.args.c c.if-s-c.true
