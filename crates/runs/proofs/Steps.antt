-- A run on its way: the sequence that the code found. Assumes nothing.
use mathlib.Core.Path.{◌≡◌, sym, ◌∙◌}
use mathlib.Core.List.{List, []}
use Prim.Native.Nat.{ℕ, ◌+◌, ◌≤◌}
use native.Mathlib.Omega.{arith}
use lib.ListN.{length, drop, set, length-drop}
use Rattle.standard.specs.Encodings.{Family, Tables}
use Rattle.standard.specs.Sequence.{Shift, text, item}
use Rattle.standard.specs.Next.{next}
use Rattle.standard.proofs.FamilyLaws.{keeps, next_laws}
use Rattle.standard.proofs.Walk.{at_item}
use Rattle.sequences.specs.Code.{item_of}
use Rattle.sequences.specs.declared.Sequence.{Sequence}
use Rattle.runs.specs.Run.{Gives}
use Rattle.runs.proofs.Running.{Going, going_one, going_silent}

-- a run on its way, and the sequence that the code found there
module _ {t : Tables} {f : Family} {m : ℕ} {chunk : List ℕ} {from i : ℕ} {s s' : Shift} {w o : ℕ} {room₀ room : List ℕ} (G : Going t f m chunk from i s s' w o room₀ room) (q : Sequence) (e : item_of q ≡ next t f s' (drop i chunk)) where
  -- it gives a scalar
  pub found_gives : {s'' : Shift} {c : ℕ} → Gives m (item_of q) q.width s'' c → Going t f m chunk from (i + q.width) s s'' w (o + 1) room₀ (set room o c)
  found_gives g = going_one G (record { out = g.out; is = sym e ∙ g.is; gives = g.gives; allowed = g.allowed })

  -- it gives nothing
  pub found_silent : {s'' : Shift} → item_of q ≡ item q.width s'' (text []) → Going t f m chunk from (i + q.width) s s'' w o room₀ room
  found_silent h = going_silent G (sym e ∙ h)

  -- it has bytes, and they are in the chunk
  pub found_width : (1 ≤ q.width) × (i + q.width ≤ length chunk)
  found_width =
      let law = at_item (keeps f) (next t f) (next_laws t f) s' (drop i chunk) (sym e) [] in
      (law.1, omega (arith, law.2, G.here.begun, length-drop i chunk))
