-- The code's names are the table's files. Assumes nothing.
use Rattle.std.proofs.Common.{◌≡◌, refl, sym, ap, ◌∙◌, ℕ, List, [], map, length, get_or}
use Rattle.std.proofs.Math.ListN.{get_or-map}
use Rattle.std.proofs.lemmas.List.{length-map}
use Rattle.std.specs.List.{slice_get}
use Prim.Native.String.{String}
use Rattle.standard.specs.Text.{bytes}
use Rattle.labels.specs.Writing.{written}
use Rattle.labels.proofs.Names.{one_of_40}
use Rattle.index_files.specs.Files.{files, name_in, file_name, file_naming}

-- There is a row for each encoding.
rows : length files ≡ 40
unfolding files
rows = refl

-- The table's first names, or the second.
abbrev pub names : ℕ → List (List ℕ)
names which = map (λ (r : String × String). bytes (name_in which r)) files

-- Writing one of them is the call.
module _ (which : ℕ) (none : bytes (name_in which ("", "")) ≡ []) where
  pub named : (ns : List (List ℕ)) (e : ℕ) (room : List ℕ) → ns ≡ names which → written (slice_get ns e) room ≡ file_naming which e room
  unfolding file_naming file_name
  named ns e room p =
      let d : get_or ns e [] ≡ get_or ns e (bytes (name_in which ("", ""))) = ap (λ (l : List ℕ). get_or ns e l) (sym none) in
      let i : get_or ns e [] ≡ file_name which e =
      d ∙ ap (λ (l : List (List ℕ)). get_or l e (bytes (name_in which ("", "")))) p ∙ get_or-map _ files e ("", "") in
      one_of_40 ns e room (ap length p ∙ length-map files _ ∙ rows) ∙ rw i
