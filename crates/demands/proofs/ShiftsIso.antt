-- What a sequence of ISO-2022-JP leaves behind, and what it costs to come to a shift. Assumes nothing.
use mathlib.Core.Path.{◌≡◌, refl, sym, subst}
use mathlib.Core.Bool.{Bool, true, false, ◌&&◌, ◌||◌}
use mathlib.Core.List.{List, [], ◌∷◌}
use Prim.Native.Nat.{ℕ, zero, suc, ◌+◌, ◌-◌, ◌≤◌, ◌<◌}
use native.Mathlib.Omega.{arith}
use lib.Dec.{leb, eqb, lit≤}
use borrow.Author.Tests.{leb-false, eqb-true, eqb-false, eq-eqb, ne_eqb}
use Rattle.standard.specs.Base.{◌then◌else◌, within, line_feeds}
use Rattle.standard.specs.Encodings.{Tables}
use Rattle.standard.specs.Sequence.{Shift, Out, text, error, item, shift}
use Rattle.standard.specs.Layouts.{leads, trails, pair_code, iso2022_jp_layout}
use Rattle.standard.specs.Sequences.Iso2022Jp.{iso2022_jp, escaped, byte_out, code_out, pair_out, escape_next, lead_next}
use Rattle.standard.specs.Decode.{given}
use Rattle.standard.proofs.Laws.{Real, cell_real, then_real}
use Rattle.standard.proofs.Fronts.{Front, front_test, front_await, front_item}
use Rattle.decoder.specs.Valid.{iso_cost, iso_least}
use Rattle.demands.proofs.Shapes.{Escaping}

-- What lowers the flag in state n: katakana and pairs give no line feed, and a pair that is no error has two bytes.
pub record Lowers (n w : ℕ) (o : Out) : Type 0 where
  pub kana : n ≡ 2 → line_feeds (given o) ≡ 0
  pub pair : n ≡ 3 → line_feeds (given o) ≡ 0
  pub two : n ≡ 3 → (o ≡ error → ⊥) → 2 ≤ w

-- An escape raises the flag, every other sequence lowers it.
pub data Leaves (s : Shift) : ℕ → Shift → Out → Type 0 where
  raises : (n : ℕ) {o : Out} → n ≤ 3 → line_feeds (given o) ≡ 0 → Leaves s 3 (shift n true) o
  lowers : (n : ℕ) {w : ℕ} {o : Out} → n ≡ s.state → Lowers n w o → Leaves s w (shift n false) o

-- no line feeds: above 0A, a code point, half-width katakana, an escape
no_feed : (v : ℕ) → 0x0A < v → line_feeds (v ∷ []) ≡ 0
unfolding line_feeds
no_feed v h = rw (ne_eqb v 0x0A (λ e. omega arith))

code_quiet : (v : ℕ) → Real v → line_feeds (given (code_out v)) ≡ 0
unfolding line_feeds Real
code_quiet v r = go (eqb v 0) refl
  where
    go : (b : Bool) → eqb v 0 ≡ b → line_feeds (given (b then error else text (v ∷ []))) ≡ 0
    go true e = refl
    go false e = no_feed v (omega (arith, r (eqb-false v 0 e)))

kana_quiet : (n b : ℕ) → n ≡ 2 → line_feeds (given (byte_out n b)) ≡ 0
unfolding byte_out line_feeds
kana_quiet n b h = rw (eq-eqb n 2 h) (go (within 0x21 b 0x5F))
  where
    go : (x : Bool) → line_feeds (given (x then text ((0xFF61 - 0x21 + b) ∷ []) else error)) ≡ 0
    go true = no_feed (0xFF61 - 0x21 + b) (omega arith)
    go false = refl

escape_quiet : (b : Bool) → line_feeds (given (b then error else text [])) ≡ 0
unfolding line_feeds
escape_quiet true = refl
escape_quiet false = refl

-- the walk over the definition's text
module _ (s : Shift) where
  fails : (n : ℕ) → n ≡ s.state → Front (Leaves s) (item 1 (shift n false) error)
  unfolding line_feeds
  fails n e = front_item (lowers n e (record { kana = λ _. refl; pair = λ _. refl; two = λ _ z. absurd (z refl) }))

  escape_leaves : (u : ℕ) (us : List ℕ) → Front (Leaves s) (escape_next s u us)
  escape_leaves u us = front_test (eqb u 0x24 || eqb u 0x28)
      (λ _. front_await us (λ v vs. front_test (leb 4 (escaped u v)) (λ _. fails s.state refl)
      (λ q. front_item (raises (escaped u v) (omega (arith, leb-false 4 (escaped u v) q)) (escape_quiet s.flag)))))
      (λ _. fails s.state refl)

  pair_leaves : (jis0208 : List ℕ) (b c : ℕ) → 3 ≡ s.state → Front (Leaves s) (item 2 (shift 3 false) (pair_out jis0208 b c))
  unfolding pair_code
  pair_leaves jis0208 b c e =
      let real = then_real (leads iso2022_jp_layout b && trails iso2022_jp_layout c) _ (cell_real jis0208 _) in
      let quiet = code_quiet (pair_code iso2022_jp_layout jis0208 b c) real in
      front_item (lowers 3 e (record { kana = λ _. quiet; pair = λ _. quiet; two = λ _ _. lit≤ tt }))

  lead_leaves : (jis0208 : List ℕ) (b : ℕ) (zs : List ℕ) → 3 ≡ s.state → Front (Leaves s) (lead_next jis0208 b zs)
  lead_leaves jis0208 b zs e = front_test (leads iso2022_jp_layout b)
      (λ _. front_await zs (λ c us. front_test (eqb c 0x1B) (λ _. fails 3 e) (λ _. pair_leaves jis0208 b c e)))
      (λ _. fails 3 e)

  pub iso_leaves : (t : Tables) (xs : List ℕ) → Front (Leaves s) (iso2022_jp t s xs)
  unfolding iso2022_jp
  iso_leaves t xs = front_await xs (λ b zs.
      front_test (eqb b 0x1B) (λ _. front_await zs escape_leaves) (λ _.
      front_test (eqb s.state 3) (λ q. lead_leaves t.first b zs (sym (eqb-true s.state 3 q))) (λ q.
      let other : s.state ≡ 3 → ⊥ = eqb-false s.state 3 q in
      front_item (lowers s.state refl
      (record { kana = kana_quiet s.state b; pair = λ z. absurd (other z); two = λ z _. absurd (other z) })))))

-- What it costs to come to a shift stays paid: by state, a sequence of w bytes that lowers the flag. An error goes on in replacing mode
-- only.
module _ (m c l : ℕ) (small : m ≤ 1) (w : ℕ) (o : Out) (some : 1 ≤ w) (count : line_feeds (given o) ≤ w) (goes : m ≡ 1 → o ≡ error → ⊥) where
  abbrev Lowered : ℕ → Type 0
  Lowered n = Escaping m (shift n false) (c + w) (l + line_feeds (given o))

  lowered : (n : ℕ) (b : Bool) → Escaping m (shift n b) c l → Lowers n w o → Lowered n
  unfolding iso_cost iso_least
  lowered zero true e h = record { low = e.low; cost = omega (arith, e.cost); least = omega arith }
  lowered zero false e h = record { low = e.low; cost = omega (arith, e.cost); least = omega arith }
  lowered (suc zero) true e h = record { low = e.low; cost = omega (arith, e.cost); least = omega (arith, e.cost) }
  lowered (suc zero) false e h = record { low = e.low; cost = omega (arith, e.cost); least = omega (arith, e.least) }
  lowered (suc (suc zero)) true e h = record { low = e.low; cost = omega (arith, e.cost, h.kana refl); least = omega arith }
  lowered (suc (suc zero)) false e h = record { low = e.low; cost = omega (arith, e.cost, h.kana refl); least = omega arith }
  lowered (suc (suc (suc zero))) true e h = record { low = e.low; cost = go (eqb m 0) refl; least = omega arith }
    where
      go : (x : Bool) → eqb m 0 ≡ x → l + line_feeds (given o) + (x then 4 else 5) ≤ c + w
      go true y = omega (arith, e.cost, h.pair refl)
      go false y =
          let z : m ≡ 0 → ⊥ = eqb-false m 0 y in
          let k : m ≡ 1 = omega arith in
          omega (arith, e.cost, h.pair refl, h.two refl (goes k))
  lowered (suc (suc (suc zero))) false e h = record { low = e.low; cost = omega (arith, e.cost, h.pair refl); least = omega arith }
  lowered (suc (suc (suc (suc n)))) b e h = absurd (omega (arith, e.low))

-- an escape costs its own three bytes
module _ (m c l : ℕ) (small : m ≤ 1) where
  pub iso_step : {s s' : Shift} {w : ℕ} {o : Out} → 1 ≤ w → line_feeds (given o) ≤ w → (m ≡ 1 → o ≡ error → ⊥) →
      Escaping m s c l → Leaves s w s' o → Escaping m s' (c + w) (l + line_feeds (given o))
  unfolding iso_cost iso_least
  iso_step some count goes e (raises n h q) = record { low = h; cost = omega (arith, e.cost, q); least = omega arith }
  iso_step {s} {w = w} {o = o} some count goes e (lowers n q h) =
      lowered m c l small w o some count goes n s.flag (subst (λ (n : ℕ). Escaping m (shift n s.flag) c l) (sym q) e) h

-- In replacing mode no shift costs more.
no_dearer : (m : ℕ) (s : Shift) → iso_cost 0 s ≤ iso_cost m s
unfolding iso_cost
no_dearer m s = go s.flag (eqb s.state 0) (eqb s.state 1) (eqb s.state 2) (eqb m 0)
  where
    cost : (a b c d x : Bool) → ℕ
    cost a b c d x = a then 3 else b then 0 else c then 3 else d then 4 else x then 4 else 5

    go : (a b c d x : Bool) → cost a b c d true ≤ cost a b c d x
    go true b c d x = lit≤ tt
    go false true c d x = lit≤ tt
    go false false true d x = lit≤ tt
    go false false false true x = lit≤ tt
    go false false false false true = lit≤ tt
    go false false false false false = lit≤ tt

pub iso_replacing : (m : ℕ) {s : Shift} {c l : ℕ} → Escaping m s c l → Escaping 0 s c l
iso_replacing m {s} e = record { low = e.low; cost = omega (arith, e.cost, no_dearer m s); least = e.least }
