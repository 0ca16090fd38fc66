-- The code's names are those of the table of 004. Assumes nothing.
use Rattle.std.proofs.Common.{◌≡◌, ap, ◌∙◌, ℕ, ◌≤◌, List, [], map, length, get_or, arith, Some}
use Rattle.std.proofs.Math.ListN.{get_or-map}
use Rattle.std.proofs.lemmas.List.{length-map}
use Rattle.std.proofs.lemmas.Option.{slice_get_past, slice_get-get_or}
use Rattle.std.specs.List.{slice_get}
use Prim.Native.String.{String}
use lib.Dec.{ltb}
use borrow.Author.Tests.{ltb-true, ltb-false}
use Rattle.standard.specs.Base.{◌then◌else◌}
use Rattle.standard.specs.Text.{bytes}
use Rattle.standard.proofs.Tests.{split}
use Rattle.labels_spec.specs.Labels.{table, name, Naming, unnamed, naming}
use Rattle.labels_spec.specs.declared.Named.{Named}
use Rattle.labels_spec.proofs.Known.{encodings}
use Rattle.labels.specs.Writing.{written}

-- Writing one of 40 names.
pub one_of_40 : (ns : List (List ℕ)) (e : ℕ) (room : List ℕ) → length ns ≡ 40 →
    written (slice_get ns e) room ≡ (ltb 39 e then unnamed 2 room else written (Some (get_or ns e [])) room)
one_of_40 ns e room n = split (ltb 39 e)
    (λ h. let l : length ns ≤ e = omega (arith, n, ltb-true 39 e h) in rw (slice_get_past ns e l, h))
    (λ h. rw (slice_get-get_or ns e [] (omega (arith, n, ltb-false 39 e h)), h))

-- A call by its definition, part by part.
pub by_parts : {n m : Naming} {answer : Named} {after : List ℕ} → n ≡ m → answer ≡ n.answer → after ≡ n.room → (answer ≡ m.answer) × (after ≡ m.room)
by_parts e p q = (p ∙ ap (λ (n : Naming). n.answer) e, q ∙ ap (λ (n : Naming). n.room) e)

-- The names of the table.
abbrev pub names : List (List ℕ)
names = map (λ (r : String × List String). bytes r.0) table

-- Writing one of them is the name call.
pub named : (ns : List (List ℕ)) (e : ℕ) (room : List ℕ) → ns ≡ names → written (slice_get ns e) room ≡ naming e room
unfolding naming name bytes
named ns e room p =
    let i : get_or ns e [] ≡ name e = ap (λ (l : List (List ℕ)). get_or l e []) p ∙ get_or-map _ table e ("", []) in
    one_of_40 ns e room (ap length p ∙ length-map table _ ∙ encodings) ∙ rw i
