-- A result by its refusal number. Assumes nothing.
use Rattle.std.proofs.Common.{◌≡◌, sym, ap, subst, ℕ, ◌⊎◌, inl, inr, ⊎_elim, List, Result, Ok, Err, is_ok, arith}
use Rattle.std.proofs.Math.Dec.{eqb}
use borrow.Author.Tests.{eq-eqb, ne_eqb}
use Rattle.mend.specs.Refusals.{number, Numbered}
use Rattle.mend.specs.Files.{Fills, LoadsTable}
use Rattle.mend.specs.declared.Refusal.{Refusal}
use Rattle.mend.specs.declared.Refusal.TheVariants.{Table}

module _ {T : Type 0} where
  -- Nothing is refused with 0.
  pub numbered_ok : (r : Result T Refusal) (n : ℕ) → Numbered r n → is_ok r ≡ eqb n 0
  numbered_ok (Ok x) n h = sym (eq-eqb n 0 h)
  numbered_ok (Err e) n h = sym (ne_eqb n 0 (λ z. omega (arith, h.1)))

  -- The number of a result, or 0.
  abbrev pub refusal_of : Result T Refusal → ℕ
  refusal_of (Ok x) = 0
  refusal_of (Err r) = number r

  pub numbered_is : (r : Result T Refusal) (n : ℕ) → Numbered r n → n ≡ refusal_of r
  numbered_is (Ok x) n h = h
  numbered_is (Err e) n h = h.0

  pub table_of : (r : Result T Refusal) (line table after : List ℕ) → (r ≡ Err Table) ⊎ LoadsTable line table r after →
      (refusal_of r ≡ 4) ⊎ Fills line table (refusal_of r) after
  table_of r line table after = ⊎_elim
      (λ e. inl (ap refusal_of e))
      (λ (l : LoadsTable line table r after). inr (subst (λ n. Fills line table n after) (numbered_is r l.number l.refusal) l.fills))

  pub nonzero : (r : Refusal) (line table after : List ℕ) → (◌≡◌ {A = Result T Refusal} (Err r) (Err Table)) ⊎ LoadsTable {T = T} line table (Err r) after → number r ≡ 0 → ⊥
  nonzero r line table after h z = ⊎_elim
      (λ e. let four : number r ≡ 4 = ap refusal_of e in omega (arith, four, z))
      (λ (l : LoadsTable {T = T} line table (Err r) after). omega (arith, l.refusal.0, l.refusal.1, z)) h
