-- `utf8::count`. The loop's invariant: n bytes are written of the scalars before this one, at most four each, and with those of the rest it is the whole count.
use Rattle.encoder.proofs.Counting.{Counted}
use Rattle.encoder.specs.WriterCode.{plain}
use Rattle.standard.specs.Encoders.Utf8.{utf8_encode}
use Prim.Native.Nat.{◌*◌, ◌≤◌}
use Rattle.encoder.proofs.utf8.count.Given as goal

abbrev pub invariant-loop-c : goal.invariant-loop-c
invariant-loop-c l = (l.n ≤ l.c-index * 4) × Counted (plain utf8_encode) 0 0 l.scalars l.n l.c-index 0
