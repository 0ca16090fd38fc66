-- `bytes_of`, by the encoding number. Assumes nothing.
use mathlib.Core.Path.{◌∙◌}
use Prim.Native.Nat.{◌≤◌, ◌<◌}
use native.Mathlib.Omega.{arith}
use borrow.Author.Tests.{le-leb, lt-leb, ne_eqb}
use Rattle.pair_writers.proofs.Encoders.{of_gb18030, of_big5, of_euc_jp, of_iso_2022_jp, of_shift_jis, of_euc_kr}
use Rattle.pair_writers.proofs.Filling.{helped}
use Rattle.pair_writers.proofs.bytes_of.Goals as goal

pub returns-in-0-to-30 : goal.returns-in-0-to-30
returns-in-0-to-30 c =
    let l : c.args.encoding ≤ 30 = omega arith in
    λ h g. c.bytes_of-in-0-to-30.ensures (rw (le-leb _ _ l) at (helped _ _ _ _ _ h)) g ∙ of_gb18030 _ _ _ _ l

pub returns-in-31 : goal.returns-in-31
returns-in-31 c = λ h g. c.bytes_of.ensures (rw c.in-31.is at (helped _ _ _ _ _ h)) ∙ of_big5 _ _ _ _ c.in-31.is

pub returns-in-32 : goal.returns-in-32
returns-in-32 c = λ h g. c.bytes_of-in-32.ensures (rw c.in-32.is at (helped _ _ _ _ _ h)) ∙ of_euc_jp _ _ _ _ c.in-32.is

pub returns-in-33 : goal.returns-in-33
returns-in-33 c = λ h g. c.bytes_of-in-33.ensures (rw c.in-33.is at (helped _ _ _ _ _ h)) ∙ of_iso_2022_jp _ _ _ _ c.in-33.is

pub returns-in-34 : goal.returns-in-34
returns-in-34 c = λ h g. c.bytes_of-in-34.ensures (rw c.in-34.is at (helped _ _ _ _ _ h)) ∙ of_shift_jis _ _ _ _ c.in-34.is

pub returns-in_default : goal.returns-in_default
returns-in_default c =
    let n = c.args.encoding in
    let past : 34 < n = omega arith in
    λ h g. c.bytes_of-in_default.ensures
    (rw (lt-leb n 30 (omega arith), ne_eqb n 31 (λ z. omega arith), lt-leb n 33 (omega arith), lt-leb n 34 past, ne_eqb n 34 (λ z. omega arith)) at (helped _ _ _ _ _ h)) ∙
    of_euc_kr _ _ _ _ past
