-- The table: one computed test over its rows, and the rules that follow from it. Assumes nothing.
use mathlib.Core.Path.{◌≡◌, refl, sym, ap, ◌∙◌, subst}
use mathlib.Core.Bool.{Bool, true, false, ◌&&◌, not}
use mathlib.Core.List.Memᴰ
use mathlib.Core.List.{List, [], ◌∷◌, map, Memᴰ}
use mathlib.Core.Logic.{◌⊎◌, inl, inr}
use mathlib.Core.Option.{Option, some, none}
use Prim.Native.Nat.{ℕ, zero, suc, ◌+◌, ◌≤◌, ◌<◌}
use Prim.Native.Char.{code}
use Prim.Native.String.{String, [] as []ˢ, ◌∷◌ as ◌∷ˢ◌}
use native.Mathlib.Omega.{arith}
use native.Mathlib.Nat.{add-zero, zero-add}
use lib.Dec.{T, eqb}
use lib.ListN.{length, get_or, length-map, get_or-eq_default}
use borrow.Author.Tests.{eqb-true, not-true, eq-eqb}
use Rattle.standard.proofs.Tests.{split, and_both}
use Rattle.standard.specs.Text.{bytes}
use Rattle.labels_spec.specs.Labels.{table, name, fold, start, trimmed, same, among, find}
use Rattle.labels_spec.specs.Statements.{labels, texts, Table}

-- The test `same` says that a list is a text's bytes.
pub same_bytes : (l : List ℕ) (m : String) → same l m ≡ true → l ≡ bytes m
unfolding same bytes
same_bytes [] []ˢ h = refl
same_bytes [] (c ∷ˢ m) h = absurd (subst T (sym h) tt)
same_bytes (b ∷ l) []ˢ h = absurd (subst T (sym h) tt)
same_bytes (b ∷ l) (c ∷ˢ m) h =
    let k : (eqb b (code c) ≡ true) × (same l m ≡ true) = and_both (eqb b (code c)) (same l m) h in
    rw (eqb-true b (code c) k.0, same_bytes l m k.1)

-- It holds of a text's own bytes.
bytes_same : (m : String) → same (bytes m) m ≡ true
unfolding same bytes
bytes_same []ˢ = refl
bytes_same (c ∷ˢ m) = rw (eq-eqb (code c) (code c) refl) (bytes_same m)

-- A label that is found stands in the row.
among_stands : (l : List ℕ) (ms : List String) → among l ms ≡ true → Memᴰ l (map bytes ms)
unfolding among
among_stands l [] h = absurd (subst T (sym h) tt)
among_stands l (m ∷ ms) h = split (same l m)
    (λ g. Memᴰ.head (same_bytes l m g))
    (λ g. Memᴰ.tail (among_stands l ms (rw g at h)))

-- A row of the table by its place.
abbrev pub row_at : List (String × List String) → ℕ → String × List String
row_at rs e = get_or rs e ("", [])

-- What is found as k stands in the row of k.
found_stands : (l : List ℕ) (n : ℕ) (rs : List (String × List String)) (k : ℕ) → find l n rs ≡ some k →
    (e : ℕ) × (k ≡ n + e) × Memᴰ l (map bytes (row_at rs e).1)
unfolding find
found_stands l n [] k h = let z : ◌≡◌ {A = ℕ} 0 1 = cc in absurd (omega arith)
found_stands l n (r ∷ rs) k h = split (among l r.1)
    (λ g. let i : some n ≡ some k = rw g at h in let j : n ≡ k = cc in (0, omega arith, among_stands l r.1 g))
    (λ g. let i : (e : ℕ) × (k ≡ suc n + e) × Memᴰ l (map bytes (row_at rs e).1) = found_stands l (suc n) rs k (rw g at h) in
    (suc i.0, omega (arith, i.1), i.2))

-- The test of each label of a row.
unfoldable pub each_of : (String → Bool) → List String → Bool
each_of p [] = true
each_of p (m ∷ ms) = p m && each_of p ms

-- The test of each label of all rows, the first being number e.
unfoldable pub each : (ℕ → String → Bool) → ℕ → List (String × List String) → Bool
each p e [] = true
each p e (r ∷ rs) = each_of (p e) r.1 && each p (suc e) rs

-- The bytes of a text that passes a test.
pub record Passes (p : String → Bool) (l : List ℕ) : Type 0 where
  pub text : String
  pub is : l ≡ bytes text
  pub passes : p text ≡ true

-- What stands in a row that is tested passes.
row_rule : (p : String → Bool) (l : List ℕ) (ms : List String) → each_of p ms ≡ true → Memᴰ l (map bytes ms) → Passes p l
unfolding each_of
row_rule p l [] h s = absurd (Memᴰ.not-nil s)
row_rule p l (m ∷ ms) h s = pick (row_rule p l ms (and_both (p m) (each_of p ms) h).1) (Memᴰ.cases_cons s)
  where
    pick : (Memᴰ l (map bytes ms) → Passes p l) → (l ≡ bytes m) ⊎ Memᴰ l (map bytes ms) → Passes p l
    pick f (inl q) = record { text = m; is = q; passes = (and_both (p m) (each_of p ms) h).0 }
    pick f (inr q) = f q

-- What stands in a table that is tested passes.
pub each_rule : (p : ℕ → String → Bool) (l : List ℕ) (k : ℕ) (rs : List (String × List String)) (e : ℕ) → each p k rs ≡ true →
    Memᴰ l (map bytes (row_at rs e).1) →
    Passes (p (k + e)) l
unfolding each
each_rule p l k [] e h s = absurd (Memᴰ.not-nil s)
each_rule p l k (r ∷ rs) zero h s = rw (add-zero k) (row_rule (p k) l r.1 (and_both (each_of (p k) r.1) (each p (suc k) rs) h).0 s)
each_rule p l k (r ∷ rs) (suc e) h s =
    let j = each_rule p l (suc k) rs e (and_both (each_of (p k) r.1) (each p (suc k) rs) h).1 s in
    let q : k + suc e ≡ suc k + e = omega arith in rw q j

-- Is it this number?
abbrev pub is_some : ℕ → Option ℕ → Bool
is_some e none = false
is_some e (some k) = eqb k e

-- What `is_some` says.
pub is_some_lem : (e : ℕ) (o : Option ℕ) → is_some e o ≡ true → o ≡ some e
is_some_lem e none h = absurd (subst T (sym h) tt)
is_some_lem e (some k) h = ap some (eqb-true k e h)

-- The test of a label of encoding e: it is its own trimmed and folded form, and is found as e.
good : ℕ → String → Bool
good e m = eqb (start (bytes m)) 0 && (same (trimmed (bytes m)) m && (same (map fold (bytes m)) m && is_some e (find (bytes m) 0 table)))

-- The test of a name: it is its own trimmed form, and folded it is one of the labels.
good_name : String × List String → Bool
good_name r = eqb (start (bytes r.0)) 0 && (same (trimmed (bytes r.0)) r.0 && among (map fold (bytes r.0)) r.1)

-- The test of all names.
names : List (String × List String) → Bool
names [] = true
names (r ∷ rs) = good_name r && names rs

-- The table passes.
tested : each good 0 table ≡ true
unfolding each each_of good table bytes start trimmed same among find
tested = refl

-- So do the names.
names_tested : names table ≡ true
unfolding names good_name table bytes start trimmed same among
names_tested = refl

-- The rule for each label of the table.
pub record Good (e : ℕ) (l : List ℕ) : Type 0 where
  pub begins : start l ≡ 0
  pub plain : trimmed l ≡ l
  pub lower : map fold l ≡ l
  pub found : find l 0 table ≡ some e

-- The rule follows from the test of the label.
good_rule : (e : ℕ) (m : String) → good e m ≡ true → Good e (bytes m)
unfolding good
good_rule e m h =
    let a = and_both (eqb (start (bytes m)) 0) (same (trimmed (bytes m)) m && (same (map fold (bytes m)) m && is_some e (find (bytes m) 0 table))) h in
    let b = and_both (same (trimmed (bytes m)) m) (same (map fold (bytes m)) m && is_some e (find (bytes m) 0 table)) a.1 in
    let c = and_both (same (map fold (bytes m)) m) (is_some e (find (bytes m) 0 table)) b.1 in
    record {
      begins = eqb-true (start (bytes m)) 0 a.0;
      plain = same_bytes (trimmed (bytes m)) m b.0;
      lower = same_bytes (map fold (bytes m)) m c.0;
      found = is_some_lem e (find (bytes m) 0 table) c.1;
    }

-- So it holds of what passes the test.
passes_good : (e : ℕ) (l : List ℕ) → Passes (good e) l → Good e l
passes_good e l i = rw i.is (good_rule e i.text i.passes)

-- Each label of the table is found as its number.
pub stands_good : (e : ℕ) (l : List ℕ) → Memᴰ l (labels e) → Good e l
unfolding labels
stands_good e l s = passes_good e l (rw (zero-add e) at (each_rule good l 0 table e tested s))

-- What is found stands in the table.
pub good_stands : (e : ℕ) (l : List ℕ) → find l 0 table ≡ some e → Memᴰ l (labels e)
unfolding labels
good_stands e l h =
    let i : (k : ℕ) × (e ≡ 0 + k) × Memᴰ l (map bytes (row_at table k).1) = found_stands l 0 table e h in
    let p : e ≡ i.0 = omega (arith, i.1) in rw p i.2

-- The rule for each name.
pub record Named (e : ℕ) : Type 0 where
  pub begins : start (name e) ≡ 0
  pub plain : trimmed (name e) ≡ name e
  pub stands : Memᴰ (map fold (name e)) (labels e)

-- Each row passes the test of its name.
name_rule : (rs : List (String × List String)) (e : ℕ) → names rs ≡ true → e < length rs → good_name (row_at rs e) ≡ true
unfolding names
name_rule [] e h g = absurd (omega arith)
name_rule (r ∷ rs) zero h g = (and_both (good_name r) (names rs) h).0
name_rule (r ∷ rs) (suc e) h g = name_rule rs e (and_both (good_name r) (names rs) h).1 (omega arith)

-- The number of rows.
pub encodings : length table ≡ 40
unfolding table
encodings = refl

-- The rule follows from the test.
pub named : (e : ℕ) → e < 40 → Named e
unfolding name labels good_name
named e g =
    let r = row_at table e in
    let h = name_rule table e names_tested (omega (arith, encodings)) in
    let a = and_both (eqb (start (bytes r.0)) 0) (same (trimmed (bytes r.0)) r.0 && among (map fold (bytes r.0)) r.1) h in
    let b = and_both (same (trimmed (bytes r.0)) r.0) (among (map fold (bytes r.0)) r.1) a.1 in
    record {
      begins = eqb-true (start (bytes r.0)) 0 a.0;
      plain = same_bytes (trimmed (bytes r.0)) r.0 b.0;
      stands = among_stands (map fold (bytes r.0)) r.1 b.1;
    }

-- The test that no label stands twice.
distinct : List String → Bool
distinct [] = true
distinct (m ∷ ms) = not (among (bytes m) ms) && distinct ms

-- The table passes.
all_distinct : distinct (texts table) ≡ true
unfolding distinct texts table bytes among same
all_distinct = refl

-- The number of labels.
count : length (texts table) ≡ 228
unfolding texts table
count = refl

-- A label that is not among others differs from each of them.
apart : (l : List ℕ) (ms : List String) (j : ℕ) → among l ms ≡ false → j < length ms → l ≡ get_or (map bytes ms) j [] → ⊥
unfolding among
apart l [] j h g e = omega arith
apart l (m ∷ ms) zero h g e = let p : same l m ≡ true = rw e (bytes_same m) in let q : true ≡ false = rw p at h in subst T q tt
apart l (m ∷ ms) (suc j) h g e = split (same l m)
    (λ p. let q : true ≡ false = rw p at h in subst T q tt)
    (λ p. apart l ms j (rw p at h) (omega arith) e)

-- Two places with one label are one place.
once : (ms : List String) (i j : ℕ) → distinct ms ≡ true → i < length ms → j < length ms → get_or (map bytes ms) i [] ≡ get_or (map bytes ms) j [] → i ≡ j
unfolding distinct
once [] i j h f g e = absurd (omega arith)
once (m ∷ ms) zero zero h f g e = refl
once (m ∷ ms) zero (suc j) h f g e = absurd (apart (bytes m) ms j (not-true (among (bytes m) ms) (and_both (not (among (bytes m) ms)) (distinct ms) h).0) (omega arith) e)
once (m ∷ ms) (suc i) zero h f g e = absurd (apart (bytes m) ms i (not-true (among (bytes m) ms) (and_both (not (among (bytes m) ms)) (distinct ms) h).0) (omega arith) (sym e))
once (m ∷ ms) (suc i) (suc j) h f g e = ap suc (once ms i j (and_both (not (among (bytes m) ms)) (distinct ms) h).1 (omega arith) (omega arith) e)

-- Above 39 there is no name and no label.
above : (e : ℕ) → 40 ≤ e → (name e ≡ []) × (labels e ≡ [])
unfolding name labels bytes
above e h =
    let p : row_at table e ≡ ("", []) = get_or-eq_default table ("", []) (omega (arith, encodings)) in
    (ap (λ (r : String × List String). bytes r.0) p, ap (λ (r : String × List String). map bytes r.1) p)

-- The statement of the table.
pub the_table : Table
the_table = record {
  encodings = encodings;
  all = length-map (texts table) bytes ∙ count;
  once = λ i j f g e. once (texts table) i j all_distinct (omega (arith, count)) (omega (arith, count)) e;
  plain = λ e l s. let r = stands_good e l s in (r.plain, r.lower);
  named = λ e g. (named e g).stands;
  above = above;
}
