-- Sequences in a row, each of one scalar and of one width. Assumes nothing.
use mathlib.Core.Path.{◌≡◌, subst}
use mathlib.Core.List.{List}
use Prim.Native.Nat.{ℕ, zero, suc, ◌+◌, ◌≤◌, ◌<◌}
use native.Mathlib.Omega.{arith}
use native.Mathlib.Nat.{add-zero}
use lib.ListN.{length, drop}
use Rattle.standard.specs.Encodings.{Family, Tables}
use Rattle.standard.specs.Sequence.{plain}
use Rattle.standard.specs.Next.{next}
use Rattle.runs.specs.Run.{patch, Gives}
use Rattle.word_runs.specs.Units.{values}
use Rattle.runs.proofs.Patches.{patch_none}
use Rattle.runs.proofs.Running.{Going, going_one}
use Rattle.word_runs.proofs.Values.{values_more}

-- their places, the width, and their scalars
module _ (t : Tables) (f : Family) (m : ℕ) (chunk : List ℕ) (from : ℕ) (at : ℕ → ℕ) (width : ℕ) (follows : (n : ℕ) → at n + width ≡ at (suc n)) (v : ℕ → ℕ) (w o : ℕ) (room₀ room : List ℕ) where
  Reaches : ℕ → Type 0
  Reaches n = Going t f m chunk from (at n) plain plain w (o + n) room₀ (patch o (values v n) room)

  row_none : Going t f m chunk from (at 0) plain plain w o room₀ room → Reaches 0
  unfolding Reaches values
  row_none G =
      let G₀ : Going t f m chunk from (at 0) plain plain w (o + 0) room₀ room = rw (add-zero o) G in
      subst (λ (r : List ℕ). Going t f m chunk from (at 0) plain plain w (o + 0) room₀ r) (patch_none room o) G₀

  row_more : (n : ℕ) → o + n < length room → Gives m (next t f plain (drop (at n) chunk)) width plain (v n) → Reaches n → Reaches (suc n)
  unfolding Reaches
  row_more n l g G =
      let x = going_one G g in
      let d : o + n + 1 ≡ o + suc n = omega arith in
      let z : n + 1 ≡ suc n = omega arith in
      let e = values_more room o v n l in
      let e' = rw z at e in
      rw (follows n, d, e') at x

  row_all : (n : ℕ) → ((j : ℕ) → j < n → Gives m (next t f plain (drop (at j) chunk)) width plain (v j)) → o + n ≤ length room → Reaches 0 → Reaches n
  row_all zero g l G = G
  row_all (suc n) g l G = row_more n (omega arith) (g n (omega arith)) (row_all n (λ j h. g j (omega arith)) (omega arith) G)

  pub going_row : Going t f m chunk from (at 0) plain plain w o room₀ room → (n : ℕ) → ((j : ℕ) → j < n → Gives m (next t f plain (drop (at j) chunk)) width plain (v j)) → o + n ≤ length room →
      Going t f m chunk from (at n) plain plain w (o + n) room₀ (patch o (values v n) room)
  unfolding Reaches
  going_row G n g l = row_all n g l (row_none G)
