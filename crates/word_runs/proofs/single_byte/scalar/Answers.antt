use native.Mathlib.Omega.{arith}
use mathlib.Core.Path.{◌≡◌, sym, ◌∙◌}
use Prim.Native.Nat.{◌%◌}
use lib.Dec.{ltb}
use lib.ListN.{get_or}
use borrow.Author.Tests.{le-ltb, eq-eqb, ne_eqb}
use Rattle.standard.specs.Base.{◌then◌else◌}
use Rattle.word_runs.specs.Bytes.{unmapped}
use Rattle.word_runs.proofs.ByteRuns.{byte_mapped, byte_unmapped, no_scalar}
use Rattle.word_runs.proofs.single_byte.scalar.Goals as goal

pub returns-else-b-lt128 : goal.returns-else-b-lt128
returns-else-b-lt128 c =
    let b = c.args.b in
    let is = rw c.from.ensures at (sym c.mapped.ensures ∙ c.if-mapped.true) in
    let cell = get_or c.args.cells.now (b % 128) 0 in
    let picked : (ltb b 0x80 then b else cell) ≡ cell = rw (le-ltb b 0x80 (omega arith)) in
    (rw c.from.ensures (sym picked ∙ byte_mapped c.args.mode c.args.cells.now b (omega arith) is), no_scalar _ (sym c.mapped.ensures ∙ c.if-mapped.true))

pub returns-then-mode-eq1 : goal.returns-then-mode-eq1
returns-then-mode-eq1 c =
    let is = rw c.from.ensures at (sym c.mapped.ensures ∙ c.if-mapped.false) in
    let none : unmapped c.args.mode ≡ 0x110000 = rw (eq-eqb c.args.mode 1 c.if-mode-eq1.true) in
    sym (byte_unmapped c.args.mode c.args.cells.now c.args.b (omega arith) is (omega arith)) ∙ none

pub returns-else-mode-eq1 : goal.returns-else-mode-eq1
returns-else-mode-eq1 c =
    let is = rw c.from.ensures at (sym c.mapped.ensures ∙ c.if-mapped.false) in
    let some : 0xFFFD ≡ unmapped c.args.mode = rw (ne_eqb c.args.mode 1 c.if-mode-eq1.false) in
    (some ∙ byte_unmapped c.args.mode c.args.cells.now c.args.b (omega arith) is (omega arith), λ e. omega arith)
