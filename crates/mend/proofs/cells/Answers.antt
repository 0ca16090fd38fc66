use Rattle.std.proofs.Common.{arith}
use Rattle.mend.proofs.Begins.{nine, thirty_five, low, middle, high, cells_above, cells_0, cells_21, cells_128, cells_33_34}
use Rattle.mend.proofs.cells.Goals as goal

pub returns-in-36-clause-refusal : goal.returns-in-36-clause-refusal
returns-in-36-clause-refusal c = let z = nine c.args.encoding (omega arith) in (z, omega (arith, z))

pub returns-in-29-to-32-clause-refusal : goal.returns-in-29-to-32-clause-refusal
returns-in-29-to-32-clause-refusal c = let z = thirty_five c.args.encoding (omega arith) in (z, omega (arith, z))

pub returns-in-29-to-32-2-clause-refusal : goal.returns-in-29-to-32-2-clause-refusal
returns-in-29-to-32-2-clause-refusal c = let z = middle c.args.encoding (omega arith) (omega arith) in (z, omega (arith, z))

pub returns-in-33-clause-refusal : goal.returns-in-33-clause-refusal
returns-in-33-clause-refusal c = high c.args.encoding (λ z. omega (arith, z)) (λ z. omega (arith, z)) (omega arith)

pub returns-in-33-clause-cells : goal.returns-in-33-clause-cells
returns-in-33-clause-cells c = (cells_33_34 c.args.encoding (omega arith) (omega arith), omega arith)

pub returns-in-1-to-20-clause-refusal : goal.returns-in-1-to-20-clause-refusal
returns-in-1-to-20-clause-refusal c = low c.args.encoding (omega arith)

pub returns-in-1-to-20-clause-cells : goal.returns-in-1-to-20-clause-cells
returns-in-1-to-20-clause-cells c = (cells_128 c.args.encoding (λ z. omega (arith, z)) (λ z. omega (arith, z)) (omega arith), omega arith)

pub returns-in-1-to-20-2-clause-refusal : goal.returns-in-1-to-20-2-clause-refusal
returns-in-1-to-20-2-clause-refusal c = low c.args.encoding (omega arith)

pub returns-in-1-to-20-2-clause-cells : goal.returns-in-1-to-20-2-clause-cells
returns-in-1-to-20-2-clause-cells c = (cells_128 c.args.encoding (λ z. omega (arith, z)) (λ z. omega (arith, z)) (omega arith), omega arith)

pub returns-in_default-clause-refusal : goal.returns-in_default-clause-refusal
returns-in_default-clause-refusal c = low c.args.encoding (omega arith)

pub returns-in_default-clause-cells : goal.returns-in_default-clause-cells
returns-in_default-clause-cells c = (cells_0 c.args.encoding (omega arith), omega arith)

pub returns-in_default-2-clause-refusal : goal.returns-in_default-2-clause-refusal
returns-in_default-2-clause-refusal c = low c.args.encoding (omega arith)

pub returns-in_default-2-clause-cells : goal.returns-in_default-2-clause-cells
returns-in_default-2-clause-cells c = (cells_21 c.args.encoding (omega arith), omega arith)

pub returns-in_default-3-clause-refusal : goal.returns-in_default-3-clause-refusal
returns-in_default-3-clause-refusal c = high c.args.encoding (λ z. omega (arith, z)) (λ z. omega (arith, z)) (omega arith)

pub returns-in_default-3-clause-cells : goal.returns-in_default-3-clause-cells
returns-in_default-3-clause-cells c = (cells_above c.args.encoding (omega arith), omega arith)
