-- Values written into the room one after another. Assumes nothing.
use mathlib.Core.Path.{◌≡◌, refl, sym, ap, ◌∙◌}
use mathlib.Core.Bool.{Bool, true, false}
use mathlib.Core.List.{List, [], ◌∷◌, ◌++◌, append_assoc, append-nil}
use Prim.Native.Nat.{ℕ, zero, suc, ◌+◌, ◌≤◌, ◌<◌}
use native.Mathlib.Omega.{arith}
use native.Mathlib.Nat.{add-zero}
use lib.Dec.{eqb}
use lib.ListN.{length, get_or, set, length-append, get_or-append}
use lib.Seq.{get_or-append-add}
use borrow.Author.Tests.{eqb-true, eqb-false}
use Rattle.standard.specs.Base.{line_feeds}
use Rattle.standard.proofs.LineFeeds.{line_feeds-append, line_feeds-length}
use Rattle.runs.specs.Run.{patch}
use Rattle.word_runs.specs.Units.{values}
use Rattle.runs.proofs.Patches.{patch_sets, patch_length, patch_patch}

pub values_length : (f : ℕ → ℕ) (n : ℕ) → length (values f n) ≡ n
unfolding values
values_length f zero = refl
values_length f (suc n) = length-append (values f n) (f n ∷ []) ∙ omega (arith, values_length f n)

pub values_same : (f g : ℕ → ℕ) (n : ℕ) → ((k : ℕ) → k < n → f k ≡ g k) → values f n ≡ values g n
unfolding values
values_same f g zero h = refl
values_same f g (suc n) h = rw (values_same f g n (λ k l. h k (omega arith)), h n (omega arith))

pub values_at : (f : ℕ → ℕ) (n k : ℕ) → k < n → get_or (values f n) k 0 ≡ f k
unfolding values
values_at f zero k h = absurd (omega arith)
values_at f (suc n) k h = go (eqb k n) refl (values_at f n k)
  where
    go : (b : Bool) → eqb k n ≡ b → (k < n → get_or (values f n) k 0 ≡ f k) → get_or (values f n ++ (f n ∷ [])) k 0 ≡ f k
    go true e q =
        let p : k ≡ length (values f n) + 0 = omega (arith, eqb-true k n e, values_length f n) in
        ap (λ (j : ℕ). get_or (values f n ++ (f n ∷ [])) j 0) p ∙ get_or-append-add (values f n) (f n ∷ []) 0 0 ∙ ap f (sym (eqb-true k n e))
    go false e q =
        let p : k < n = omega (arith, eqb-false k n e) in
        get_or-append (values f n) (f n ∷ []) 0 k (omega (arith, values_length f n)) ∙ q p

-- some values, and the ones after them
pub values_add : (f : ℕ → ℕ) (k n : ℕ) → values f (k + n) ≡ values f k ++ values (λ (j : ℕ). f (k + j)) n
unfolding values
values_add f k zero = rw (add-zero k, append-nil (values f k))
values_add f k (suc n) =
    let e : k + suc n ≡ suc (k + n) = omega arith in
    ap (values f) e ∙ ap (λ (l : List ℕ). l ++ (f (k + n) ∷ [])) (values_add f k n) ∙ append_assoc (values f k) (values (λ (j : ℕ). f (k + j)) n) (f (k + n) ∷ [])

-- the line feeds of one value more, and of so many
pub values_feeds : (f : ℕ → ℕ) (k : ℕ) → line_feeds (values f (k + 1)) ≡ line_feeds (values f k) + line_feeds (f k ∷ [])
unfolding values
values_feeds f k = let e : k + 1 ≡ suc k = omega arith in rw e (line_feeds-append (values f k) (f k ∷ []))

pub values_fewer : (f : ℕ → ℕ) (k : ℕ) → line_feeds (values f k) ≤ k
values_fewer f k = omega (arith, line_feeds-length (values f k), values_length f k)

module _ (room : List ℕ) (w : ℕ) where
  -- one value more
  pub values_more : (f : ℕ → ℕ) (k : ℕ) → w + k < length room → set (patch w (values f k) room) (w + k) (f k) ≡ patch w (values f (k + 1)) room
  unfolding values
  values_more f k h =
      let l = values_length f k in
      let e : k + 1 ≡ suc k = omega arith in
      let z : w + k ≡ w + length (values f k) = omega arith in
      let p = patch_sets (patch w (values f k) room) (w + k) (f k ∷ []) (omega (arith, patch_length room w (values f k) (omega arith))) in
      p ∙ rw (z, e) (patch_patch w (values f k) (f k ∷ []) room (omega arith))

-- a loop that writes the values: one more
module _ (room₀ room : List ℕ) (w : ℕ) (f : ℕ → ℕ) (k : ℕ) (e : room ≡ patch w (values f k) room₀) (h : w + k < length room₀) where
  pub wrote_more : (v : ℕ) → v ≡ f k → set room (w + k) v ≡ patch w (values f (k + 1)) room₀
  wrote_more v q = rw (e, q) (values_more room₀ w f k h)

-- and one that wrote so many more
pub wrote_on : (room₀ room room' : List ℕ) (w : ℕ) (f g : ℕ → ℕ) (k n : ℕ) → room ≡ patch w (values f k) room₀ → room' ≡ patch (w + k) (values g n) room → ((j : ℕ) → j < n → g j ≡ f (k + j)) → w + k ≤ length room₀ → room' ≡ patch w (values f (k + n)) room₀
wrote_on room₀ room room' w f g k n e p q h =
    let l : w + k ≡ w + length (values f k) = omega (arith, values_length f k) in
    let v : values g n ≡ values (λ (j : ℕ). f (k + j)) n = values_same g (λ (j : ℕ). f (k + j)) n q in
    let s : patch (w + k) (values g n) room ≡ patch (w + length (values f k)) (values (λ (j : ℕ). f (k + j)) n) (patch w (values f k) room₀) = λ i. patch (l i) (v i) (e i) in
    p ∙ s ∙ patch_patch w (values f k) (values (λ (j : ℕ). f (k + j)) n) room₀ (omega (arith, values_length f k)) ∙ ap (λ (cs : List ℕ). patch w cs room₀) (sym (values_add f k n))
