use mathlib.Core.Path.{sym, ap, ◌∙◌}
use Prim.Native.Nat.{ℕ}
use lib.Dec.{ltb}
use Rattle.layouts.specs.Rows.{layout_of}
use Rattle.layouts.proofs.Rows.{regular, small, lead_row}
use Rattle.layouts.proofs.leads.Goals as goal

pub returns : goal.returns
returns c =
    let args = c.args in
    ap (λ (k : ℕ). ltb k 32768) c.row.ensures ∙ sym (lead_row (layout_of args.encoding) args.lead 0 (regular args.encoding) (small args.encoding))
