-- A layout of the code as one of the layouts. Contracts of functions inside the library cite this. Assumes nothing.
use Rattle.standard.specs.Layouts.{Layout}
use Rattle.layouts.specs.declared.layout.Layout.{Layout as Code}
use Rattle.layouts.specs.Offsets.{offset}

abbrev pub layout : Code → Layout
layout y = record { rows = y.rows; divisor = y.divisor; lead = offset y.lead; trail = offset y.trail }
