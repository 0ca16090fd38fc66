-- `slots::fill_regular`. The loop's invariant: every slot is right for windows-1252.
use lib.ListN.{length}
use Rattle.encoder.specs.WriterCode.{Slots}
use Rattle.standard.specs.Indexes.{windows1252}
use Rattle.standard.specs.Search.{searching}
use Rattle.standard.specs.Encoders.SingleByte.{single_byte_encode}
use mathlib.Core.Path.{◌≡◌}
use Rattle.encoder.proofs.slots.fill_regular.Given as goal

abbrev pub invariant-loop-c : goal.invariant-loop-c
invariant-loop-c l = (length l.slots ≡ 2048) × Slots (single_byte_encode (searching windows1252)) l.slots
