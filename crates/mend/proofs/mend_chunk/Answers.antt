use mathlib.Core.Path.{ap, ◌∙◌}
use mathlib.Core.List.{List, []}
use Prim.Native.Nat.{ℕ}
use Rattle.standard.specs.Encodings.{lent}
use Rattle.replacements_spec.specs.Calls.{feed_telling}
use Rattle.mend.proofs.Wrote.{feed_told, told_left, handed_left, part_is, more_is, wrote_by}
use Rattle.mend.proofs.mend_chunk.Goals as goal

pub write_step-requires : goal.write_step-requires
write_step-requires c = told_left c.feed-a.ensures (feed_told _ _ _ _ _)

pub returns : goal.returns
returns c =
    let a = c.args in
    let f = c.feed-a in
    let n = c.min-n in
    record {
      wrote = wrote_by (handed_left f.ensures ∙ ap (λ (c : List ℕ). feed_telling a.d (lent a.table.now []) c a.rooms.now.room a.rooms.now.spans)
          (part_is a.d a.chunk.now n.ensures))
          (more_is a.d a.chunk.now n.ensures) c.write_step.ensures.wrote;
      few = c.write_step.ensures.few;
      sized = c.write_step.ensures.sized;
    }
