-- The samples, by computation. Assumes nothing.
use mathlib.Core.Path.{refl}
use Rattle.standard.specs.Text.{bytes}
use Rattle.list_spec.specs.Lines.{before, count, same, lines_from, name_of, names_of, among}
use Rattle.list_spec.specs.ListCall.{is_known, used_before, fault_in, fault_of, first_fault, kept, cells_of, cells, list_call}
use Rattle.list_spec.specs.Samples.{Samples}

pub samples : Samples
unfolding bytes before count same lines_from name_of names_of among is_known used_before fault_in fault_of first_fault kept cells_of cells list_call
samples = record {
  nothing = refl;
  three = refl;
  two_returns = refl;
  return_at_end = refl;
  passed_over = refl;
  blank = refl;
  no_value = refl;
  no_tab = refl;
  two_tabs = refl;
  unknown = refl;
  empty_name = refl;
  front = refl;
  longer = refl;
  open_name = refl;
  return_in_name = refl;
  used = refl;
  first_line = refl;
  16-before-17 = refl;
  16-before-18 = refl;
  room_exact = refl;
  room_short = refl;
  17-before-7 = refl;
}
