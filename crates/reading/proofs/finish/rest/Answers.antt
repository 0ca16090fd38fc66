use lib.ListN.{length-set}
use mathlib.Core.List.{[], ◌∷◌}
use mathlib.Core.Path.{sym, ap, ◌∙◌}
use Prim.Native.Nat.{ℕ, ◌+◌}
use native.Mathlib.Numerals.{add-one}
use native.Mathlib.Omega.{arith}
use Rattle.std.specs.Prelude.{Ok}
use Rattle.standard.specs.Sequence.{plain}
use Rattle.standard.specs.Choice.{spot}
use Rattle.runs.proofs.Patches.{patch_sets}
use Rattle.reading.specs.Reading.{ReadOutcome, leaves}
use Rattle.reading.proofs.Ends.{end_none, end_report, end_one, end_other, end_iso}
use Rattle.reading.proofs.finish.rest.Goals as goal

pub returns-then-held-eq0 : goal.returns-then-held-eq0
returns-then-held-eq0 c =
    let a = c.args in
    let e = end_none a.encoding a.mode a.at a.written a.lines a.state a.flag a.held a.room.now
    (omega arith) in
    (ap Ok c.ended.ensures ∙ ap (λ (r : ReadOutcome). r.left) (sym e), ap (λ (r : ReadOutcome). r.room) (sym e))

pub returns-then-mode-eq1 : goal.returns-then-mode-eq1
returns-then-mode-eq1 c =
    let a = c.args in
    let e = end_report a.encoding a.mode a.at a.written a.lines a.state a.flag a.held a.room.now
    (omega arith) (omega arith) in
    (ap (λ (r : ReadOutcome). r.left) (sym e), ap (λ (r : ReadOutcome). r.room) (sym e))

pub returns-then-held-eq1 : goal.returns-then-held-eq1
returns-then-held-eq1 c =
    let a = c.args in
    let e = end_one a.encoding a.mode a.at a.written a.lines a.state a.flag a.held a.room.now
    (omega arith) (omega arith) in (
      ap Ok c.ended-then-held-eq1.ensures ∙ ap (λ (r : ReadOutcome). r.left) (sym e),
      patch_sets a.room.now a.written (0xFFFD ∷ []) (omega arith) ∙ ap (λ (r : ReadOutcome). r.room) (sym e),
    )

pub returns-then-encoding-ne33 : goal.returns-then-encoding-ne33
returns-then-encoding-ne33 c =
    let a = c.args in
    let e = end_other a.encoding a.mode a.at a.written a.lines a.state a.flag a.held a.room.now
    (omega arith) (omega arith) (omega arith) in (
      ap Ok c.ended-then-encoding-ne33.ensures ∙ ap (λ (r : ReadOutcome). r.left) (sym e),
      patch_sets a.room.now a.written (0xFFFD ∷ []) (omega arith) ∙ ap (λ (r : ReadOutcome). r.room) (sym e),
    )

pub bounds-room-written-2 : goal.bounds-room-written-2
bounds-room-written-2 c =
    let a = c.args in
    rw (length-set a.room.now a.written 0xFFFD) (omega (arith, c.requires, c.if-encoding-ne33.false))

pub returns : goal.returns
returns c =
    let a = c.args in
    let b = c.last_scalar-last.result in
    let e = end_iso a.encoding a.mode a.at a.written a.lines a.state a.flag a.held a.room.now b
    (omega arith) (omega arith) (omega arith) (omega arith) c.last_scalar-last.ensures in (
      ap Ok c.ended-2.ensures ∙ ap (λ (k : ℕ). Ok (leaves (a.written + 2) (a.lines + k) (spot 0 plain) [])) c.one_scalar-one.ensures ∙
          ap (λ (r : ReadOutcome). r.left) (sym e),
      rw add-one (
          patch_sets a.room.now a.written (0xFFFD ∷ b ∷ []) (omega (arith, c.requires)) ∙
          ap (λ (r : ReadOutcome). r.room) (sym e)),
    )
