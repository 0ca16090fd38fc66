-- One byte of a file, and the started line. Assumes nothing.
use mathlib.Core.Path.{◌≡◌, refl, ap, sym, ◌∙◌, subst}
use mathlib.Core.List.{List, [], ◌∷◌}
use Prim.Native.Nat.{ℕ, ◌+◌, ◌≤◌, ◌<◌}
use native.Mathlib.Numerals.{add-one}
use native.Mathlib.Omega.{arith}
use lib.Dec.{lit≤}
use lib.ListN.{length, set, get_or, take, drop}
use lib.Seq.{take-suc-set, length-take-le, drop-cons}
use borrow.Author.Tests.{eq-eqb, ne_eqb, lt-ltb, le-ltb}
use Rattle.index_spec.specs.IndexCall.{index_line}
use Rattle.index_loading.specs.Steps.{Place, close, on_byte, on_bytes, on_end, at, most, placed, told, Stands}
use Rattle.std.specs.declared.result.Result.{Result}
use Rattle.index_loading.specs.declared.Loading.{Loading}

module _ (line table : List ℕ) (n : ℕ) (r : Result ℕ ℕ) (after : List ℕ) (p : told r ≡ at 0 (index_line (take n line) table).answer.refusal)
    (q : after ≡ (index_line (take n line) table).table) where
  pub close_stands : Stands (close (placed (at n 0) line table)) (told r) line after
  close_stands = rw (p, q) (record { few = lit≤ tt; stands = refl })

  pub byte_ends : (b : ℕ) → b ≡ 0x0A → Stands (on_byte (placed (at n 0) line table) b) (told r) line after
  unfolding on_byte
  byte_ends b h = rw (eq-eqb b 0x0A h) close_stands

module _ (n b : ℕ) (line table : List ℕ) (size : 1025 ≤ length line) (few : n ≤ 1025) (h : b ≡ 0x0A → ⊥) where
  count : length (take n line) ≡ n
  count = length-take-le n line (omega (arith, size, few))

  pub byte_kept : (n ≡ 1025 → ⊥) → Stands (on_byte (placed (at n 0) line table) b) (at (n + 1) 0) (set line n b) table
  unfolding on_byte
  byte_kept l = rw (ne_eqb b 0x0A h, lt-ltb (length (take n line)) 1025 (omega (arith, count, few)))
      (record {
        few = omega arith;
        stands = ap (λ (t : List ℕ). record { line = t; table = table; refusal = 0 })
            (ap (λ (k : ℕ). take k (set line n b)) (add-one n) ∙ take-suc-set line n b (omega (arith, size)));
      })

  pub byte_left : n ≡ 1025 → Stands (on_byte (placed (at n 0) line table) b) (at n 0) line table
  unfolding on_byte
  byte_left l = rw (ne_eqb b 0x0A h, le-ltb (length (take n line)) 1025 (omega (arith, count)))
      (record { few = few; stands = refl })

-- behind a line at fault nothing is done
pub stays : (p : Place) (bs : List ℕ) → (p.refusal ≡ 0 → ⊥) → on_bytes p bs ≡ p
unfolding on_bytes on_byte
stays p [] h = refl
stays p (b ∷ bs) h = rw (ne_eqb p.refusal 0 h) (stays p bs h)

-- one byte of the rest
pub one_on : (p : Place) (bs : List ℕ) (i : ℕ) → i < length bs → on_bytes p (drop i bs) ≡ on_bytes (on_byte p (get_or bs i 0)) (drop (i + 1) bs)
unfolding on_bytes
one_on p bs i h = rw (drop-cons bs i 0 h, add-one)

module _ (p : Place) (bs : List ℕ) (i : ℕ) (h : i < length bs) (s : Loading) (line table : List ℕ) (t : Stands (on_byte p (get_or bs i 0)) s line table) where
  pub step_on : on_bytes p (drop i bs) ≡ on_bytes (placed s line table) (drop (i + 1) bs)
  step_on = one_on p bs i h ∙ ap (λ (q : Place). on_bytes q (drop (i + 1) bs)) (sym t.stands)

  pub step_fault : (s.refusal ≡ 0 → ⊥) → on_bytes p (drop i bs) ≡ placed s line table
  step_fault n = step_on ∙ stays (placed s line table) (drop (i + 1) bs) n

end_none : (s : Loading) (line table : List ℕ) → (s.refusal ≡ 0 → ⊥) → on_end (placed s line table) ≡ placed s line table
unfolding on_end
end_none s line table h = rw (ne_eqb s.refusal 0 h)

end_closes : (s : Loading) (line table : List ℕ) → s.refusal ≡ 0 → on_end (placed s line table) ≡ close (placed (at s.length 0) line table)
unfolding on_end
end_closes s line table h = rw (eq-eqb s.refusal 0 h)

-- for the place that the code makes of the one it was handed: bytes, and the end of the file
module _ (s : Loading) (line table : List ℕ) {m : Loading} (e : m ≡ most s) where
  pub loads_stay : (bs : List ℕ) → (m.refusal ≡ 0 → ⊥) → m.length ≤ 1025 → Stands (on_bytes (placed (most s) line table) bs) m line table
  loads_stay bs h k = subst (λ (x : Loading). Stands (on_bytes (placed x line table) bs) m line table) e
      (record { few = k; stands = sym (stays (placed m line table) bs h) })

  pub loads_by : (bs : List ℕ) → m.refusal ≡ 0 → {r : Loading} {line' table' : List ℕ} → Stands (on_bytes (placed (at m.length 0) line table) bs) r line' table' →
      Stands (on_bytes (placed (most s) line table) bs) r line' table'
  loads_by bs h {r} {line'} {table'} k =
      let g : at m.length 0 ≡ m = λ i. record { length = m.length; refusal = sym h i } in
      subst (λ (x : Loading). Stands (on_bytes (placed x line table) bs) r line' table') (g ∙ e) k

  pub end_stays : (m.refusal ≡ 0 → ⊥) → m.length ≤ 1025 → Stands (on_end (placed (most s) line table)) m line table
  end_stays h k = subst (λ (x : Loading). Stands (on_end (placed x line table)) m line table) e
      (rw (end_none m line table h) (record { few = k; stands = refl }))

  pub end_by : m.refusal ≡ 0 → {r : Loading} {after : List ℕ} → Stands (close (placed (at m.length 0) line table)) r line after →
      Stands (on_end (placed (most s) line table)) r line after
  end_by h {r} {after} k = subst (λ (x : Loading). Stands (on_end (placed x line table)) r line after) e (rw (end_closes m line table h) k)
