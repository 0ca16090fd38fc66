-- Loading a file part by part. Assumes nothing.
use Rattle.std.proofs.Common.{◌≡◌, refl, sym, ap, ◌∙◌, subst, ℕ, ◌≤◌, List, [], ◌∷◌, ◌++◌, length, append-nil}
use borrow.Author.Tests.{le-ltb}
use Rattle.index_loading.specs.Loading.{loading}
use Rattle.index_loading.specs.Steps.{Place, on_byte, on_bytes, on_end, loaded_at, placed, most, Stands, GoesOn}
use Rattle.index_loading.specs.Statements.{fresh, joined, after_parts}
use Rattle.index_loading.specs.declared.Loading.{Loading}
use Rattle.index_loading.proofs.Theorems.{loads}

on_bytes-append : (p : Place) (xs ys : List ℕ) → on_bytes p (xs ++ ys) ≡ on_bytes (on_bytes p xs) ys
unfolding on_bytes
on_bytes-append p [] ys = refl
on_bytes-append p (x ∷ xs) ys = on_bytes-append (on_byte p x) xs ys

module _ (table bytes : List ℕ) {s : Loading} {kept now : List ℕ} (size : 1025 ≤ length kept) (t : Stands (on_bytes (fresh table) bytes) s kept now) where
  stood : placed (most s) kept now ≡ on_bytes (fresh table) bytes
  stood = rw (le-ltb 1025 s.length t.few) t.stands

  -- One part more.
  pub loads_on : (b : List ℕ) {r : Loading} {kept' now' : List ℕ} → GoesOn kept now s (λ p. on_bytes p b) r kept' now' → Stands (on_bytes (fresh table) (bytes ++ b)) r kept' now'
  loads_on b {r} {kept'} {now'} g =
      subst (λ p. Stands p r kept' now') (ap (λ p. on_bytes p b) stood ∙ sym (on_bytes-append (fresh table) bytes b)) (g.goes size)

  -- The end of the file.
  pub loads_end : {r : Loading} {now' : List ℕ} → GoesOn kept now s on_end r kept now' → loading table bytes ≡ record { refusal = r.refusal; table = now' }
  unfolding after_parts joined
  loads_end {r} {now'} g =
      let all : loaded_at (on_end (on_bytes (fresh table) bytes)) ≡ loading table bytes =
      loads.any_parts table (bytes ∷ []) ∙ ap (loading table) (append-nil bytes) in
      sym all ∙ sym (ap loaded_at ((g.goes size).stands ∙ ap on_end stood))
