-- `slots::fill`: x-user-defined has no slots, windows-1252 its irregular cells and then the others, single-byte its table, looked up where an
-- index is lent. Assumes nothing.
use lib.ListN.{length}
use Prim.Native.Nat.{ℕ}
use mathlib.Core.Path.{◌≡◌, ap, ◌∙◌}
use native.Mathlib.Omega.{arith}
use borrow.Author.Rules.{rules}
use Rattle.encoder.proofs.Filling.{slots_as, slots_lent, windows_slots, zero_slots}
use Rattle.encoder.proofs.Scalars.{of_windows_1252, of_single_byte}
use Rattle.reverse_index_spec.specs.ReverseIndex.{look_up}
use Rattle.standard.specs.Indexes.{irregular}
use Rattle.standard.specs.Search.{Lookup}
use Rattle.standard.specs.Encoders.SingleByte.{single_byte_encode}
use Rattle.encoder.specs.WriterCode.{encoder_of}
use lib.ListN.{length-replicate}
use Rattle.encoder.proofs.slots.fill.Goals as goal
use Rattle.encoder.proofs.slots.fill.Goals.{Else-encoding-eq21}

-- an encoding between the two is a single-byte one
single-byte : (c : Else-encoding-eq21) (look : Lookup) (x : ℕ) → single_byte_encode look x ≡ encoder_of c.args.encoding look x
single-byte c look x = of_single_byte _ look x (λ z. omega (arith, c.requires.0.0, z)) c.if-encoding-eq21.false c.if-encoding-gt28.false

pub returns-then-encoding-gt28 : goal.returns-then-encoding-gt28
returns-then-encoding-gt28 c =
    zero_slots c.args.encoding (look_up c.args.table.now c.args.links.now) _ c.requires.1

pub fill_regular-requires : goal.fill_regular-requires
unfolding irregular
fill_regular-requires c =
    (c.fill_table.auto.slots ∙ ap length c.requires.1 ∙ length-replicate {A = ℕ} 2048 0, windows_slots _ c.fill_table.ensures)

pub returns-then-encoding-eq21 : goal.returns-then-encoding-eq21
returns-then-encoding-eq21 c =
    slots_as _ (λ (x : ℕ). of_windows_1252 _ _ x c.if-encoding-eq21.true) c.fill_regular.ensures

pub returns-then-is_empty : goal.returns-then-is_empty
returns-then-is_empty c =
    slots_lent _ _ _ _ (search rules) (slots_as _ (single-byte (goal.at.returns-then-is_empty c).Else-encoding-eq21 _) c.fill_table-then-is_empty.ensures)

pub returns-else-is_empty : goal.returns-else-is_empty
returns-else-is_empty c =
    slots_as _ (single-byte (goal.at.returns-else-is_empty c).Else-encoding-eq21 _) c.fill_looked.ensures
