-- The law of widths: no byte of the input is lost or counted twice. `proofs/Widths.antt` proves it. Assumes nothing.
use Rattle.std.specs.Prelude.{◌≡◌, List, ℕ, ◌+◌, length}
use Rattle.standard.specs.Encodings.{Tables, Family}
use Rattle.standard.specs.Sequence.{Shift}
use Rattle.standard.specs.Next.{next}
use Rattle.standard.specs.Decode.{decode, widths, everything}

pub record Widths : Type 0 where
  -- the widths of the sequences read, and the bytes held, are the bytes
  pub so_far : (t : Tables) (f : Family) (s : Shift) (xs : List ℕ) →
      let r = decode (next t f) s xs in widths r.items + length r.rest ≡ length xs
  -- with what the end of input gives for the bytes held, the widths are the bytes
  pub whole : (t : Tables) (f : Family) (s : Shift) (xs : List ℕ) → widths (everything t f s xs) ≡ length xs
