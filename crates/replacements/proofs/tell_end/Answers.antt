use lib.ListN.{length-take}
use native.Mathlib.Omega.{arith}
use mathlib.Core.Path.{sym}
use mathlib.Core.List.{◌∷◌, []}
use Prim.Native.Nat.{◌-◌}
use lib.Seq.{length-take-le}
use Rattle.standard.specs.Encodings.{lent}
use Rattle.decoder.specs.Calls.{read_end}
use Rattle.replacements.proofs.Adding.{adds_none}
use Rattle.replacements.proofs.Told.{Accepted, finish_accepted, refusing_none, replacing_all, end_waits, end_reads}
use borrow.Author.Rules.{rules}
use Rattle.replacements.proofs.tell_end.Goals as goal
use Rattle.replacements.proofs.tell_end.Goals.{Else-d-eq1}

facts : (c : Else-d-eq1) → Accepted c.args.d
facts c = let a = c.args in let F = c.requires in finish_accepted a.d (lent a.t1.now a.t2.now) F.accepted.0 F.accepted.1

pub returns-then-d-eq1 : goal.returns-then-d-eq1
returns-then-d-eq1 c = let a = c.args in adds_none a.spans.now 0 _ (refusing_none a.d.mode _ _ (omega arith))

pub overflow_sub-from : goal.overflow_sub-from
overflow_sub-from c = let h = facts (goal.at.overflow_sub-from c).Else-d-eq1 in omega (arith, h.held)

pub slice_bounds-tell_waiting-end : goal.slice_bounds-tell_waiting-end
slice_bounds-tell_waiting-end c = let h = facts (goal.at.slice_bounds-tell_waiting-end c).Else-d-eq1 in simp length-take (omega (arith, h.few, c.from-n.ensures))

pub slice_bounds-bytes-end : goal.slice_bounds-bytes-end
slice_bounds-bytes-end c = let h = facts (goal.at.slice_bounds-bytes-end c).Else-d-eq1 in omega (arith, h.few, c.from-n.ensures)

pub tell_waiting-requires : goal.tell_waiting-requires
tell_waiting-requires c =
    let h = facts (goal.at.tell_waiting-requires c).Else-d-eq1 in
    let s = c.requires.space in
    let d = c.args.d in
    let n = length-take-le d.held (d.first ∷ d.second ∷ d.third ∷ []) h.few in
    rw (c.from-n.ensures, c.from.ensures) (omega (arith, n, h.few), omega (arith, n, h.held), omega (arith, n, s))

pub returns-then-d-eq1-2 : goal.returns-then-d-eq1-2
returns-then-d-eq1-2 c =
    let a = c.args in
    rw (
      replacing_all a.d.mode (a.d.taken - a.d.held) (read_end a.d (lent a.t1.now a.t2.now)) (search rules),
      end_waits
          a.d (lent a.t1.now a.t2.now) (omega arith),
    ) (rw (c.from-n.ensures, c.from.ensures) at c.tell_waiting.ensures)

pub slice_bounds-tell_rest-end : goal.slice_bounds-tell_rest-end
slice_bounds-tell_rest-end c = let h = facts (goal.at.slice_bounds-tell_rest-end c).Else-d-eq1 in simp length-take (omega (arith, h.few, c.from-n.ensures))

pub slice_bounds-bytes-end-2 : goal.slice_bounds-bytes-end-2
slice_bounds-bytes-end-2 c = let h = facts (goal.at.slice_bounds-bytes-end-2 c).Else-d-eq1 in omega (arith, h.few, c.from-n.ensures)

pub tell_rest-requires : goal.tell_rest-requires
tell_rest-requires c =
    let h = facts (goal.at.tell_rest-requires c).Else-d-eq1 in
    let s = c.requires.space in
    let d = c.args.d in
    let n = length-take-le d.held (d.first ∷ d.second ∷ d.third ∷ []) h.few in
    rw (c.from-n.ensures, c.from.ensures) (omega (arith, n, h.few), omega (arith, n, h.held), omega (arith, n, s))

pub returns : goal.returns
returns c =
    let a = c.args in
    rw (
      replacing_all a.d.mode (a.d.taken - a.d.held) (read_end a.d (lent a.t1.now a.t2.now)) (search rules),
      end_reads a.d (lent a.t1.now a.t2.now) (search rules),
      sym c.reader-reads.ensures,
    ) (rw (c.from-n.ensures, c.from.ensures) at c.tell_rest.ensures)
