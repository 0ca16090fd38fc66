-- `one_byte::byte_of`, by the encoding number. Assumes nothing.
use mathlib.Core.Path.{◌∙◌}
use native.Mathlib.Omega.{arith}
use Rattle.encoder.proofs.Scalars.{of_windows_1252, of_single_byte, of_user_defined}
use Rattle.reverse_index_spec.specs.ReverseIndex.{look_up}
use Rattle.encoder.proofs.one_byte.byte_of.Goals as goal

pub returns-in-21 : goal.returns-in-21
returns-in-21 c =
    c.windows_1252.ensures ∙ of_windows_1252 c.args.encoding (look_up c.args.table.now c.args.links.now) c.args.c c.in-21.is

pub returns-in-0-to-28 : goal.returns-in-0-to-28
returns-in-0-to-28 c =
    c.byte_of.ensures ∙ of_single_byte c.args.encoding (look_up c.args.table.now c.args.links.now) c.args.c
    (λ z. omega (arith, c.requires.0, z)) (λ z. omega (arith, z)) (omega arith)

pub returns-in_default : goal.returns-in_default
returns-in_default c = c.byte_of-in_default.ensures ∙ of_user_defined c.args.encoding (look_up c.args.table.now c.args.links.now) c.args.c (omega arith)
