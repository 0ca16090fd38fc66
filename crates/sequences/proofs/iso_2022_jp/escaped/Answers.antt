use mathlib.Core.Path.{refl}
use native.Mathlib.Omega.{arith}
use Rattle.standard.specs.Sequences.Iso2022Jp.{escaped}
use Rattle.sequences.proofs.Iso2022JpLeaves.{chosen_none, chosen_24_other, chosen_28_other}
use Rattle.sequences.proofs.iso_2022_jp.escaped.Goals as goal

pub returns-in-40-eq66 : goal.returns-in-40-eq66
unfolding escaped
returns-in-40-eq66 c = let arm = c.in-40-eq66 in (rw (arm.is-0, arm.is-1) refl, omega arith)

pub returns-in-40-eq74 : goal.returns-in-40-eq74
unfolding escaped
returns-in-40-eq74 c = let arm = c.in-40-eq74 in (rw (arm.is-0, arm.is-1) refl, omega arith)

pub returns-in-40-eq73 : goal.returns-in-40-eq73
unfolding escaped
returns-in-40-eq73 c = let arm = c.in-40-eq73 in (rw (arm.is-0, arm.is-1) refl, omega arith)

pub returns-in-36-eq64 : goal.returns-in-36-eq64
unfolding escaped
returns-in-36-eq64 c = let arm = c.in-36-eq64 in (rw (arm.is-0, arm.is-1) refl, omega arith)

pub returns-in-36-eq66 : goal.returns-in-36-eq66
unfolding escaped
returns-in-36-eq66 c = let arm = c.in-36-eq66 in (rw (arm.is-0, arm.is-1) refl, omega arith)

pub returns-in_default : goal.returns-in_default
returns-in_default c =
    let other = c.in_default in
    rw other.is-0 (chosen_28_other c.args.d other.is-1.0.0.1 other.is-1.0.1 other.is-1.1)

pub returns-in_default-2 : goal.returns-in_default-2
returns-in_default-2 c =
    let other = c.in_default in
    chosen_24_other c.args.c c.args.d other.is-0 other.is-1.0.1 other.is-1.1

pub returns-in_default-3 : goal.returns-in_default-3
returns-in_default-3 c = chosen_none c.args.c c.args.d c.in_default.is-0.0.1 c.in_default.is-0.1
