-- UTF-8, leaf by leaf. Assumes nothing.
use mathlib.Core.Path.{◌≡◌, ap, ◌∙◌}
use mathlib.Core.Bool.{Bool, true, false}
use mathlib.Core.List.{List, ◌∷◌}
use Prim.Native.Nat.{ℕ, ◌+◌, ◌-◌, ◌*◌, ◌≤◌, ◌<◌}
use native.Mathlib.Omega.{arith}
use lib.Dec.{ltb, eqb}
use lib.ListN.{take}
use borrow.Author.Tests.{le-ltb, lt-ltb, ltb-true, ltb-false, ne_eqb}
use Rattle.standard.specs.Base.{◌then◌else◌, within}
use Rattle.standard.specs.Sequence.{Next, more, await, scalar, bad}
use Rattle.standard.specs.Sequences.Utf8.{utf8, utf8_low, utf8_high, follows, utf8_three, utf8_four}
use Rattle.standard.proofs.Tests.{split, within_low}
use Rattle.sequences.specs.Code.{begun}
use Rattle.sequences.specs.declared.utf8.Beginning.TheVariants as is
use Rattle.sequences.proofs.Leaves.{one_more, no_more}

-- what a lead of three, four makes of the bytes after it
abbrev pub Three : (n b c d : ℕ) → List ℕ → Next
Three n b c d xs = await (take (n - 1) (c ∷ d ∷ xs)) (λ c xs. utf8_three b c xs)

abbrev pub Four : (n b c d e : ℕ) → List ℕ → Next
Four n b c d e xs = await (take (n - 1) (c ∷ d ∷ e ∷ xs)) (λ c xs. utf8_four b c xs)

-- the first byte
module _ (n b c d e : ℕ) (xs : List ℕ) where
  pub utf8_ascii : b < 0x80 → utf8 (b ∷ take (n - 1) (c ∷ d ∷ e ∷ xs)) ≡ scalar 1 b
  unfolding utf8
  utf8_ascii g = rw (lt-ltb b 0x80 g)

-- how three or four bytes begin
module _ (n b c d : ℕ) where
  pub begun_first : n < 2 → begun n b c d ≡ is.Short
  unfolding begun
  begun_first h = rw (lt-ltb n 2 h)

  module _ (h : 2 ≤ n) where
    pub begun_second : within (utf8_low b) c (utf8_high b) ≡ false → begun n b c d ≡ is.Wrong 1
    unfolding begun
    begun_second g = rw (le-ltb n 2 h, g)

    module _ (g : within (utf8_low b) c (utf8_high b) ≡ true) where
      pub begun_wait : n < 3 → begun n b c d ≡ is.Short
      unfolding begun
      begun_wait k = rw (le-ltb n 2 h, g, lt-ltb n 3 k)

      pub begun_third : 3 ≤ n → follows d ≡ false → begun n b c d ≡ is.Wrong 2
      unfolding begun
      begun_third k f = rw (le-ltb n 2 h, g, le-ltb n 3 k, f)

      pub begun_right : 3 ≤ n → follows d ≡ true → begun n b c d ≡ is.Right
      unfolding begun
      begun_right k f = rw (le-ltb n 2 h, g, le-ltb n 3 k, f)

-- what three or four bytes give, by how they begin and whatever the third is followed by
abbrev Begun : (n b c d : ℕ) → List ℕ → (ℕ → ℕ → List ℕ → Next) → Next
Begun n b c d xs f =
    await (take (n - 1) (c ∷ d ∷ xs)) (λ c xs. within (utf8_low b) c (utf8_high b) then await xs (λ d xs. follows d then f c d xs else bad 2) else bad 1)

pub record Right (n b c d : ℕ) : Type 0 where
  pub there : 3 ≤ n
  pub second : within (utf8_low b) c (utf8_high b) ≡ true
  pub third : follows d ≡ true

-- by the tests: short, a wrong second byte, short again, a wrong third byte, right
module _ (n b c d : ℕ) {A : Type 0}
    (wait : begun n b c d ≡ is.Short → ((xs : List ℕ) (f : ℕ → ℕ → List ℕ → Next) → Begun n b c d xs f ≡ more) → A)
    (wrong : (w : ℕ) → begun n b c d ≡ is.Wrong w → ((xs : List ℕ) (f : ℕ → ℕ → List ℕ → Next) → Begun n b c d xs f ≡ bad w) → A)
    (right : begun n b c d ≡ is.Right → Right n b c d → A) where
  pub by_begun : A
  by_begun =
      split (ltb n 2) (λ s. let l = ltb-true n 2 s in wait (begun_first n b c d l) (λ xs f. rw (no_more (n - 1) (c ∷ d ∷ xs) (omega arith)))) (λ s.
      let l = ltb-false n 2 s in
      split (within (utf8_low b) c (utf8_high b)) (λ g.
      split (ltb n 3) (λ t. let m = ltb-true n 3 t in wait (begun_wait n b c d l g m) (λ xs f. rw (one_more (n - 1) c (d ∷ xs) (omega arith), g, no_more (n - 1 - 1) (d ∷ xs) (omega arith)))) (λ t.
      let m = ltb-false n 3 t in
      split (follows d) (λ k. right (begun_right n b c d l g m k) (record { there = m; second = g; third = k }))
      (λ k. wrong 2 (begun_third n b c d l g m k) (λ xs f. rw (one_more (n - 1) c (d ∷ xs) (omega arith), g, one_more (n - 1 - 1) d xs (omega arith), k)))))
      (λ g. wrong 1 (begun_second n b c d l g) (λ xs f. rw (one_more (n - 1) c (d ∷ xs) (omega arith), g))))

module _ (n b c d : ℕ) where
  -- where they go no further
  stopped_short : begun n b c d ≡ is.Short → (xs : List ℕ) (f : ℕ → ℕ → List ℕ → Next) → Begun n b c d xs f ≡ more
  stopped_short h xs f = by_begun n b c d (λ z g. g xs f) (λ w z g. absurd cc) (λ z r. absurd cc)

  stopped_wrong : (w : ℕ) → begun n b c d ≡ is.Wrong w → (xs : List ℕ) (f : ℕ → ℕ → List ℕ → Next) → Begun n b c d xs f ≡ bad w
  stopped_wrong w h xs f = by_begun n b c d (λ z g. absurd cc) (λ v z g. let q : v ≡ w = cc in g xs f ∙ ap bad q) (λ z r. absurd cc)

  pub right : begun n b c d ≡ is.Right → Right n b c d
  right h = by_begun n b c d (λ z g. absurd cc) (λ w z g. absurd cc) (λ z r. r)

  module _ (xs : List ℕ) where
    after_three : ℕ → ℕ → List ℕ → Next
    after_three c d xs = scalar 3 ((b - 0xE0) * 4096 + (c - 0x80) * 64 + (d - 0x80))

    pub three_short : begun n b c d ≡ is.Short → Three n b c d xs ≡ more
    unfolding after_three
    three_short h = stopped_short h xs after_three

    pub three_wrong : (w : ℕ) → begun n b c d ≡ is.Wrong w → Three n b c d xs ≡ bad w
    unfolding after_three
    three_wrong w h = stopped_wrong w h xs after_three

    module _ (x : ℕ) where
      after_four : ℕ → ℕ → List ℕ → Next
      after_four c d xs = await xs (λ e xs. follows e then scalar 4 ((b - 0xF0) * 262144 + (c - 0x80) * 4096 + (d - 0x80) * 64 + (e - 0x80)) else bad 3)

      pub four_short : begun n b c d ≡ is.Short → Four n b c d x xs ≡ more
      unfolding after_four
      four_short h = stopped_short h (x ∷ xs) after_four

      pub four_wrong : (w : ℕ) → begun n b c d ≡ is.Wrong w → Four n b c d x xs ≡ bad w
      unfolding after_four
      four_wrong w h = stopped_wrong w h (x ∷ xs) after_four

-- the last byte
module _ (n b c d : ℕ) (r : Right n b c d) (xs : List ℕ) where
  pub three_good : Three n b c d xs ≡ scalar 3 ((b - 0xE0) * 4096 + (c - 0x80) * 64 + (d - 0x80))
  three_good = let l = r.there in rw (one_more (n - 1) c (d ∷ xs) (omega arith), r.second, one_more (n - 1 - 1) d xs (omega arith), r.third)

  module _ (e : ℕ) where
    four_third : Four n b c d e xs ≡ await (take (n - 3) (e ∷ xs)) (λ e xs. follows e then scalar 4 ((b - 0xF0) * 262144 + (c - 0x80) * 4096 + (d - 0x80) * 64 + (e - 0x80)) else bad 3)
    four_third =
        let l = r.there in
        let z : n - 3 ≡ n - 1 - 1 - 1 = omega arith in
        rw (one_more (n - 1) c (d ∷ e ∷ xs) (omega arith), r.second, one_more (n - 1 - 1) d (e ∷ xs) (omega arith), r.third, z)

    pub four_wait : n < 4 → Four n b c d e xs ≡ more
    four_wait h = four_third ∙ rw (no_more (n - 3) (e ∷ xs) (omega arith))

    pub four_bad : 4 ≤ n → follows e ≡ false → Four n b c d e xs ≡ bad 3
    four_bad h g = four_third ∙ rw (one_more (n - 3) e xs (omega arith), g)

    pub four_good : 4 ≤ n → follows e ≡ true → Four n b c d e xs ≡ scalar 4 ((b - 0xF0) * 262144 + (c - 0x80) * 4096 + (d - 0x80) * 64 + (e - 0x80))
    four_good h g = four_third ∙ rw (one_more (n - 3) e xs (omega arith), g)

-- the range of the second byte
module _ (b : ℕ) where
  pub low_e0 : b ≡ 0xE0 → utf8_low b ≡ 0xA0
  unfolding utf8_low
  low_e0 h = rw h

  pub low_f0 : b ≡ 0xF0 → utf8_low b ≡ 0x90
  unfolding utf8_low
  low_f0 h = rw h

  pub low_other : (b ≡ 0xE0 → ⊥) → (b ≡ 0xF0 → ⊥) → utf8_low b ≡ 0x80
  unfolding utf8_low
  low_other h g = rw (ne_eqb b 0xE0 h, ne_eqb b 0xF0 g)

  pub high_ed : b ≡ 0xED → utf8_high b ≡ 0x9F
  unfolding utf8_high
  high_ed h = rw h

  pub high_f4 : b ≡ 0xF4 → utf8_high b ≡ 0x8F
  unfolding utf8_high
  high_f4 h = rw h

  pub high_other : (b ≡ 0xED → ⊥) → (b ≡ 0xF4 → ⊥) → utf8_high b ≡ 0xBF
  unfolding utf8_high
  high_other h g = rw (ne_eqb b 0xED h, ne_eqb b 0xF4 g)

  pub low_least : 0x80 ≤ utf8_low b
  unfolding utf8_low
  low_least = split (eqb b 0xE0) (λ h. rw h (omega arith)) (λ h. split (eqb b 0xF0) (λ g. rw (h, g) (omega arith)) (λ g. rw (h, g) (omega arith)))

-- the second byte, where the code has its range
pub second_range : {r : Bool} (l h b c : ℕ) → l ≡ utf8_low b → h ≡ utf8_high b → r ≡ within l c h → r ≡ within (utf8_low b) c (utf8_high b)
second_range l h b c p q e = e ∙ rw (p, q)

pub second_least : (b c : ℕ) → within (utf8_low b) c (utf8_high b) ≡ true → 0x80 ≤ c
second_least b c e = omega (arith, low_least b, within_low (utf8_low b) c (utf8_high b) e)
