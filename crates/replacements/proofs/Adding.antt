-- Replaced sequences told behind others: none, one, and more behind them. Assumes nothing.
use mathlib.Core.Path.{◌≡◌, refl, sym, ap, ◌∙◌}
use mathlib.Core.List.{List, [], ◌∷◌, ◌++◌, append_assoc}
use Prim.Native.Nat.{ℕ, ◌+◌, ◌*◌, ◌≤◌}
use native.Mathlib.Numerals.{add-one}
use native.Mathlib.Nat.{add-zero}
use native.Mathlib.Omega.{arith}
use lib.ListN.{length, set, take, drop, length-append, take-append-drop}
use lib.Seq.{sets-eq, take_at, length-take-le, drop-append-add, drop-drop}
use Rattle.replacements_spec.specs.Replaced.{Replaced, cells}
use Rattle.replacements_spec.proofs.Spans.{cells_append, cells_length}
use Rattle.replacements.specs.Walks.{at, Adds}

pub adds_none : (spans : List ℕ) (n : ℕ) (rs : List Replaced) → rs ≡ [] → Adds spans n rs n spans
unfolding cells
adds_none spans n rs h = rw h (record {
  count = omega arith;
  told = sym (ap (λ (k : ℕ). take (2 * n) spans ++ drop (2 * k) spans) (add-zero n) ∙ take-append-drop (2 * n) spans);
})

pub adds_one : (spans : List ℕ) (n place width : ℕ) → 2 * n + 2 ≤ length spans →
    Adds spans n (at place width ∷ []) (n + 1) (set (set spans (2 * n) place) (2 * n + 1) width)
unfolding cells
adds_one spans n place width k =
    let e : 2 * n + 2 ≡ 2 * (n + 1) = omega arith in
    record {
      count = refl;
      told = ap (λ (i : ℕ). set (set spans (2 * n) place) i width) (add-one (2 * n)) ∙
          sets-eq (place ∷ width ∷ []) spans (2 * n) (omega arith) ∙ append_assoc (take (2 * n) spans) (place ∷ width ∷ []) _ ∙
          ap (λ (i : ℕ). take (2 * n) spans ++ place ∷ width ∷ drop i spans) e;
    }

-- more behind them
pub adds_more : {spans mid after : List ℕ} {n m k : ℕ} {rs qs : List Replaced} → 2 * m ≤ length spans →
    Adds spans n rs m mid → Adds mid m qs k after → Adds spans n (rs ++ qs) k after
adds_more {spans} {mid} {after} {n} {m} {k} {rs} {qs} h a b =
    let c : length (take (2 * n) spans ++ cells rs) ≡ 2 * m =
    length-append (take (2 * n) spans) (cells rs) ∙
    omega (arith, length-take-le (2 * n) spans (omega (arith, a.count)), cells_length rs, a.count) in
    let mid-is : mid ≡ (take (2 * n) spans ++ cells rs) ++ drop (2 * m) spans =
    a.told ∙ ap (λ (i : ℕ). take (2 * n) spans ++ (cells rs ++ drop (2 * i) spans)) (sym a.count) ∙
    sym (append_assoc (take (2 * n) spans) (cells rs) (drop (2 * m) spans)) in
    let front : take (2 * m) mid ≡ take (2 * n) spans ++ cells rs = ap (take (2 * m)) mid-is ∙ take_at _ _ (2 * m) c in
    let far : 2 * (m + length qs) ≡ length (take (2 * n) spans ++ cells rs) + 2 * length qs = omega (arith, c) in
    let twice : 2 * m + 2 * length qs ≡ 2 * (n + length (rs ++ qs)) = omega (arith, a.count, length-append rs qs) in
    let back : drop (2 * (m + length qs)) mid ≡ drop (2 * (n + length (rs ++ qs))) spans =
    ap (λ (i : ℕ). drop i mid) far ∙ ap (drop (length (take (2 * n) spans ++ cells rs) + 2 * length qs)) mid-is ∙
    drop-append-add (take (2 * n) spans ++ cells rs) (drop (2 * m) spans) (2 * length qs) ∙ drop-drop (2 * length qs) (2 * m) spans ∙
    ap (λ (i : ℕ). drop i spans) twice in
    record {
      count = b.count ∙ omega (arith, a.count, length-append rs qs);
      told = b.told ∙ rw (front, back, cells_append rs qs) (append_assoc (take (2 * n) spans) (cells rs) _ ∙
          ap (λ (l : List ℕ). take (2 * n) spans ++ l) (sym (append_assoc (cells rs) (cells qs) _)));
    }
