-- The promises of specs/Statements.antt, from those of `demands` and of the list call alone. Assumes nothing.
use mathlib.Core.Path.{◌≡◌, refl, ap}
use mathlib.Core.List.{List}
use mathlib.Core.Option.{Option}
use Prim.Native.Nat.{ℕ}
use Rattle.standard.specs.Encodings.{Tables}
use Rattle.decoder.specs.Calls.{open_refusal}
use Rattle.demands.specs.Histories.{after, start}
use Rattle.demands.specs.Statements.{Account, account}
use Rattle.demands.proofs.Theorems.{demand_2, demand_3}
use Rattle.list_spec.specs.ListCall.{Outcome, list_call}
use Rattle.list_spec.proofs.Theorems.{first_at_fault}
use Rattle.decoded_lists.specs.Statements.{list_of, DecodedList, FaultInBytes}
use Rattle.decoded_lists.proofs.Cuts.{begins}

pub decoded_list : (t : Tables) (e m rule : ℕ) → open_refusal e m rule ≡ 0 → (names room : List ℕ) → DecodedList t e m rule names room
unfolding account
decoded_list t e m rule o names room = record {
  as_standard = λ ps last b a. ap read ((demand_2 t e m rule o).as_standard ps last b a);
  refused_among = λ cs ps last s b a. ap read ((demand_2 t e m rule o).refused_among cs ps last s b a);
  any_cutting = λ ps qs last last' j a a'.
      ap (λ (x : Account). list_call x.handed names room) ((demand_2 t e m rule o).any_cutting ps qs last last' j a a');
}
  where
    read : Option Account → Option Outcome
    read x = list_of x names room

pub fault_in-bytes : (e rule : ℕ) (names room : List ℕ) → FaultInBytes e rule names room
fault_in-bytes e rule names room = record {
  line_of_bytes = λ calls k n.
      let h = after (start e 0 rule) calls in
      let f = (first_at_fault h.handed names room).faulty n in
      (f, begins h ((demand_3 e 0 rule calls).separators_kept refl k) f.line.start _ f.within f.counted f.behind);
}
