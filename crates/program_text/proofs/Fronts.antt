-- A text at the front of a room. Assumes nothing.
use Rattle.std.proofs.Common.{◌≡◌, ◌∙◌, ℕ, ◌+◌, ◌≤◌, List, length, take, drop, zero-add, arith}
use Rattle.std.proofs.Math.Seq.{take-append_seam}
use lib.Seq.{sets-eq}
use Rattle.program_text.specs.Places.{Put}

-- The text that was put at the front of a room.
pub front : {room text after : List ℕ} {n : ℕ} → Put room 0 text n after → length text ≤ length room → take n after ≡ text
front {room} {text} {after} {n} p h =
    let size : n ≡ length text = p.behind ∙ zero-add (length text) in
    let stands = p.stands ∙ sets-eq text room 0 (omega (arith, h)) in
    rw (size, stands) (take-append_seam text (drop (0 + length text) room))
