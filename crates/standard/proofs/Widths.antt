-- The law of widths, from what reading and the end of input say of them.
use mathlib.Core.Path.{◌≡◌, ap}
use mathlib.Core.List.{List}
use Prim.Native.Nat.{ℕ, ◌+◌}
use native.Mathlib.Omega.{arith}
use lib.ListN.{length, length-append}
use Rattle.standard.specs.Encodings.{Tables, Family}
use Rattle.standard.specs.Sequence.{Shift}
use Rattle.standard.specs.Next.{next}
use Rattle.standard.specs.Decode.{decode, widths, ending, everything}
use Rattle.standard.specs.Widths.{Widths}
use Rattle.standard.proofs.FamilyLaws.{keeps, next_laws}
use Rattle.standard.proofs.Items.{widths_append}
use Rattle.standard.proofs.Reading.{reading, ending_is}

decode_widths : (t : Tables) (f : Family) (s : Shift) (xs : List ℕ) →
    let r = decode (next t f) s xs in widths r.items + length r.rest ≡ length xs
decode_widths t f s xs =
    let h = reading (keeps f) (next t f) (next_laws t f) s xs in
    omega (arith, h.wide, ap length h.split, length-append h.used (decode (next t f) s xs).rest)

everything_widths : (t : Tables) (f : Family) (s : Shift) (xs : List ℕ) → widths (everything t f s xs) ≡ length xs
unfolding everything
everything_widths t f s xs =
    let r = decode (next t f) s xs in
    rw (widths_append r.items (ending t f r.shift r.rest), (ending_is t f r.shift r.rest).wide) (decode_widths t f s xs)

pub all_widths : Widths
all_widths = record { so_far = decode_widths; whole = everything_widths }
