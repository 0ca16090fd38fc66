-- `big5::bytes_of`, test by test. Assumes nothing.
use mathlib.Core.Path.{sym, ap, ◌∙◌}
use mathlib.Core.Bool.{true, false}
use mathlib.Core.Option.{Option}
use Prim.Native.Nat.{ℕ}
use Rattle.standard.specs.Search.{last}
use Rattle.standard.specs.Encoders.Pairs.{pair_or_error_with}
use Rattle.layouts.specs.Rows.{layout_of}
use Rattle.reverse_index_spec.specs.ReverseIndex.{look_up}
use Rattle.pair_writers.proofs.Encoders.{in_rows, big5_rows, big5_self, big5_pair_lem}
use Rattle.pair_writers.proofs.big5.bytes_of.Goals as goal

pub returns-then-c-lt128 : goal.returns-then-c-lt128
returns-then-c-lt128 c = λ h. big5_self _ _ c.if-c-lt128.true

pub returns-then-by_last : goal.returns-then-by_last
returns-then-by_last c =
    let o = c.before in
    let a = c.args in
    λ h. c.at.ensures (in_rows last (layout_of 31) 0 5023 a.table.now a.links.now a.c (big5_rows a.table.now h.0)
    o.last_outside.result o.last_outside.ensures) ∙
    ap (λ (o : Option ℕ). pair_or_error_with (layout_of 31) o a.c) o.last_outside.ensures ∙
    big5_pair_lem a.c (look_up a.table.now a.links.now) c.if-c-lt128.false true (sym o.if-by_last.true ∙ c.by_last.ensures)

pub returns : goal.returns
returns c =
    let a = c.args in
    λ h. c.pair.ensures (big5_rows a.table.now h.0) h.1 ∙
    big5_pair_lem a.c (look_up a.table.now a.links.now) c.if-c-lt128.false false (sym c.if-by_last.false ∙ c.by_last.ensures)
