-- A list cut behind one of its line feeds, and a list with the same separators cut there, too. Assumes nothing.
use mathlib.Core.Path.{◌≡◌, refl, sym, ap, ◌∙◌}
use mathlib.Core.Bool.{Bool, true, false}
use mathlib.Core.List.{List, [], ◌∷◌, ◌++◌}
use Prim.Native.Nat.{ℕ, zero, suc, ◌+◌, ◌-◌, ◌<◌}
use native.Mathlib.Omega.{arith}
use lib.Dec.{ltb}
use lib.ListN.{length, get_or, take, drop, length-append, take-append-drop}
use lib.Seq.{take-suc, append_snoc}
use Rattle.standard.specs.Base.{◌then◌else◌, separators, line_feeds}
use Rattle.standard.proofs.Reading.{separators_append}
use Rattle.standard.proofs.LineFeeds.{same_separators}
use Rattle.demands.specs.Histories.{History}
use Rattle.decoded_lists.specs.Statements.{BeginsInBytes}

-- The list xs cut behind the line feed at k, which stands between the separators before and behind.
record Cut (xs before behind : List ℕ) : Type 0 where
  k : ℕ
  there : k < length xs
  feed : get_or xs k 0 ≡ 0x0A
  front : separators (take (suc k) xs) ≡ before ++ 0x0A ∷ []
  back : separators (drop (suc k) xs) ≡ behind

cut : (xs before behind : List ℕ) → separators xs ≡ before ++ 0x0A ∷ behind → Cut xs before behind
unfolding separators
cut [] before behind h = absurd (omega (arith, ap length h, length-append before (0x0A ∷ behind)))
cut (x ∷ xs) before behind h = go (ltb x 0x30) refl before h (λ bs g. cut xs bs behind g)
  where
    go : (b : Bool) → ltb x 0x30 ≡ b → (bs : List ℕ) → (b then x ∷ separators xs else separators xs) ≡ bs ++ 0x0A ∷ behind →
        ((bs : List ℕ) → separators xs ≡ bs ++ 0x0A ∷ behind → Cut xs bs behind) → Cut (x ∷ xs) bs behind
    go false e bs h r =
        let c = r bs h in
        record { k = suc c.k; there = omega (arith, c.there); feed = c.feed; front = simp e c.front; back = c.back }
    go true e [] h r =
        let p : x ≡ 0x0A = cc in
        let q : separators xs ≡ behind = cc in
        record { k = 0; there = omega arith; feed = p; front = simp e (ap (λ (y : ℕ). y ∷ []) p); back = q }
    go true e (b ∷ bs) h r =
        let p : x ≡ b = cc in
        let q : separators xs ≡ bs ++ 0x0A ∷ behind = cc in
        let c = r bs q in
        record {
          k = suc c.k;
          there = omega (arith, c.there);
          feed = c.feed;
          front = simp e (rw (p, c.front));
          back = c.back;
        }

-- The line that begins at a place of the characters begins at a place of the bytes.
pub begins : (h : History) → separators h.handed ≡ separators h.taken → (at n : ℕ) → at < length h.handed →
    n ≡ 1 + line_feeds (take at h.handed) → (0 < at → get_or h.handed (at - 1) 0 ≡ 0x0A) → BeginsInBytes h at n
unfolding separators
begins h s zero n w c f = record {
  place = 0;
  within = omega arith;
  counted = c;
  behind = λ z. absurd (omega arith);
  same_before = refl;
  same_behind = sym s;
}
begins h s (suc i) n w c f = record {
  place = suc t.k;
  within = omega (arith, t.there);
  counted = c ∙ ap (λ (j : ℕ). 1 + j) (same_separators (take (suc i) ys) (take (suc t.k) h.taken) (sym before));
  behind = λ _. let z : suc t.k - 1 ≡ t.k = omega arith in ap (λ (j : ℕ). get_or h.taken j 0) z ∙ t.feed;
  same_before = before;
  same_behind = t.back;
}
  where
    ys : List ℕ
    ys = h.handed

    feed : get_or ys i 0 ≡ 0x0A
    feed = let z : suc i - 1 ≡ i = omega arith in ap (λ (j : ℕ). get_or ys j 0) (sym z) ∙ f (omega arith)

    front : separators (take (suc i) ys) ≡ separators (take i ys) ++ 0x0A ∷ []
    front =
        ap separators (take-suc ys i 0 (omega arith) ∙ ap (λ (y : ℕ). take i ys ++ y ∷ []) feed) ∙
        separators_append (take i ys) (0x0A ∷ [])

    parts : separators h.taken ≡ separators (take i ys) ++ 0x0A ∷ separators (drop (suc i) ys)
    parts =
        sym s ∙ ap separators (sym (take-append-drop (suc i) ys)) ∙ separators_append (take (suc i) ys) (drop (suc i) ys) ∙
        ap (λ (l : List ℕ). l ++ separators (drop (suc i) ys)) front ∙
        append_snoc (separators (take i ys)) 0x0A (separators (drop (suc i) ys))

    t : Cut h.taken (separators (take i ys)) (separators (drop (suc i) ys))
    t = cut h.taken (separators (take i ys)) (separators (drop (suc i) ys)) parts

    before : separators (take (suc t.k) h.taken) ≡ separators (take (suc i) ys)
    before = t.front ∙ sym front
