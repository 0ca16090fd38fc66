-- What the code tells from an encoding number, by its tests. Assumes nothing.
use mathlib.Core.Path.{◌≡◌, sym, ◌∙◌}
use mathlib.Core.Bool.{Bool, true, false, ◌||◌, or-false}
use Prim.Native.Nat.{ℕ, ◌+◌, ◌-◌, ◌*◌, ◌/◌, ◌≤◌, ◌<◌}
use native.Mathlib.Nat.{div-add-mod', mod-lt}
use native.Mathlib.Omega.{arith}
use lib.Dec.{leb, eqb, lit≤}
use borrow.Author.Tests.{leb-true, leb-false, eqb-true, eqb-false, le-leb, lt-leb, ne_eqb}
use Rattle.standard.specs.Base.{◌then◌else◌}
use Rattle.standard.specs.Encodings.{family, traits}
use Rattle.standard.specs.Sequence.{Shift}
use Rattle.standard.proofs.Tests.{split}
use Rattle.standard.proofs.Families.{by_family}
use Rattle.decoder.specs.Valid.{unshifted, marking, paired, replaced, escaping, possible, ended_totals}
use Rattle.decoder.specs.Code.{utf16, most_lines}

-- a number with the test of most encodings
record Plain (e : ℕ) : Type 0 where
  n0 : eqb e 0 ≡ false
  n33 : eqb e 33 ≡ false
  n36 : eqb e 36 ≡ false
  n37_38 : utf16 e ≡ false

plain_low : (e : ℕ) → 1 ≤ e → e ≤ 30 → Plain e
plain_low e l u = record {
  n0 = ne_eqb e 0 (λ z. omega arith);
  n33 = ne_eqb e 33 (λ z. omega arith);
  n36 = ne_eqb e 36 (λ z. omega arith);
  n37_38 = rw (ne_eqb e 37 (λ z. omega arith), ne_eqb e 38 (λ z. omega arith));
}

plain_high : (e : ℕ) → 39 ≤ e → Plain e
plain_high e l = record {
  n0 = ne_eqb e 0 (λ z. omega arith);
  n33 = ne_eqb e 33 (λ z. omega arith);
  n36 = ne_eqb e 36 (λ z. omega arith);
  n37_38 = rw (ne_eqb e 37 (λ z. omega arith), ne_eqb e 38 (λ z. omega arith));
}

-- whether rule "drop" applies
abbrev drops : ℕ → Bool
drops e = eqb e 0 then true else utf16 e

drops_plain : (e : ℕ) → Plain e → false ≡ drops e
drops_plain e p = rw (p.n0, p.n37_38)

pub marked_is : (e : ℕ) → (traits (family e)).mark ≡ drops e
unfolding traits
marked_is e = by_family (λ f. (traits f).mark ≡ drops e) e (record {
  c0 = λ h. rw h;
  c21 = λ h. rw h;
  c1_28 = λ a b n. drops_plain e (plain_low e a (omega arith));
  c29_30 = λ a b. drops_plain e (plain_low e (omega arith) b);
  c31 = λ h. rw h;
  c32 = λ h. rw h;
  c33 = λ h. rw h;
  c34 = λ h. rw h;
  c35 = λ h. rw h;
  c36 = λ h. rw h;
  c37 = λ h. rw h;
  c38 = λ h. rw h;
  c39 = λ a. drops_plain e (plain_high e a);
})

-- the shifts that are possible
abbrev poss : ℕ → ℕ → Shift → ℕ → ℕ → Bool
poss e m s c l =
    eqb e 0 then marking s c l else
    eqb e 33 then escaping m s c l else
    eqb e 36 then replaced m s c l else
    utf16 e then paired s c l else unshifted s c l

poss_plain : (e m : ℕ) (s : Shift) (c l : ℕ) → Plain e → unshifted s c l ≡ poss e m s c l
poss_plain e m s c l p = rw (p.n0, p.n33, p.n36, p.n37_38)

pub possible_is : (e m : ℕ) (s : Shift) (c l : ℕ) → possible (family e) m s c l ≡ poss e m s c l
unfolding possible
possible_is e m s c l = by_family (λ f. possible f m s c l ≡ poss e m s c l) e (record {
  c0 = λ h. rw h;
  c21 = λ h. rw h;
  c1_28 = λ a b n. poss_plain e m s c l (plain_low e a (omega arith));
  c29_30 = λ a b. poss_plain e m s c l (plain_low e (omega arith) b);
  c31 = λ h. rw h;
  c32 = λ h. rw h;
  c33 = λ h. rw h;
  c34 = λ h. rw h;
  c35 = λ h. rw h;
  c36 = λ h. rw h;
  c37 = λ h. rw h;
  c38 = λ h. rw h;
  c39 = λ a. poss_plain e m s c l (plain_high e a);
})

two : 0 < 2
two = lit≤ tt

-- Two bytes for a line feed: by half of the bytes.
pub half : (n l : ℕ) → leb l (n / 2) ≡ leb (2 * l) n
half n l = split (leb l (n / 2))
    (λ h. h ∙ sym (le-leb (2 * l) n (omega (arith, leb-true l (n / 2) h, div-add-mod' n 2))))
    (λ h. h ∙ sym (lt-leb (2 * l) n (omega (arith, leb-false l (n / 2) h, div-add-mod' n 2, mod-lt n two))))

-- The totals of a decoder that has ended: no more line feeds than the label's encoding gives, or three bytes more than line feeds.
abbrev totals : ℕ → ℕ → ℕ → Bool
totals e n l = leb l (most_lines e n) || leb (l + 3) n

-- UTF-8 behind its mark adds nothing where a line feed takes a byte
no_more : (n l : ℕ) → leb l n ≡ leb l n || leb (l + 3) n
no_more n l = split (leb (l + 3) n)
    (λ h. rw (le-leb l n (omega (arith, leb-true (l + 3) n h))))
    (λ h. rw (h, or-false (leb l n)))

none_at_most : (l : ℕ) → leb l 0 ≡ eqb l 0
none_at_most l = split (eqb l 0)
    (λ h. le-leb l 0 (omega (arith, eqb-true l 0 h)) ∙ sym h)
    (λ h. lt-leb l 0 (omega (arith, eqb-false l 0 h)) ∙ sym h)

totals_plain : (e n l : ℕ) → Plain e → leb l n ≡ totals e n l
unfolding most_lines
totals_plain e n l p = rw (p.n36, p.n37_38) (no_more n l)

pub totals_is : (e n l : ℕ) → ended_totals (family e) n l ≡ totals e n l
unfolding ended_totals most_lines
totals_is e n l = by_family (λ f. ended_totals f n l ≡ totals e n l) e (record {
  c0 = λ h. rw h (no_more n l);
  c21 = λ h. rw h (no_more n l);
  c1_28 = λ a b x. totals_plain e n l (plain_low e a (omega arith));
  c29_30 = λ a b. totals_plain e n l (plain_low e (omega arith) b);
  c31 = λ h. rw h (no_more n l);
  c32 = λ h. rw h (no_more n l);
  c33 = λ h. rw h (no_more n l);
  c34 = λ h. rw h (no_more n l);
  c35 = λ h. rw h (no_more n l);
  c36 = λ h. rw (h, none_at_most l);
  c37 = λ h. rw (h, half n l);
  c38 = λ h. rw (h, half n l);
  c39 = λ a. totals_plain e n l (plain_high e a);
})

-- three bytes more than line feeds
pub behind_mark_lem : (n l : ℕ) → 3 ≤ n → leb l (n - 3) ≡ leb (l + 3) n
behind_mark_lem n l h = split (leb (l + 3) n)
    (λ e. le-leb l (n - 3) (omega (arith, leb-true (l + 3) n e)) ∙ sym e)
    (λ e. lt-leb l (n - 3) (omega (arith, leb-false (l + 3) n e)) ∙ sym e)
