-- Big5, leaf by leaf. Assumes nothing.
use mathlib.Core.Path.{◌≡◌, sym, ap, ◌∙◌}
use mathlib.Core.Bool.{true, false}
use mathlib.Core.List.{List, [], ◌∷◌}
use Prim.Native.Nat.{ℕ, zero, suc, ◌+◌, ◌-◌, ◌≤◌, ◌<◌}
use native.Mathlib.Omega.{arith}
use lib.Dec.{eqb, lit≤}
use lib.ListN.{take, drop, get_or}
use borrow.Author.Tests.{le-ltb, lt-ltb, ne_eqb}
use Rattle.standard.specs.Encodings.{Tables}
use Rattle.standard.specs.Layouts.{leads, trails, pointer_of, pair_code, big5_layout}
use Rattle.standard.specs.Sequence.{Next, more, await, item, plain, scalar, bad, pair}
use Rattle.standard.specs.Sequences.Big5.{big5, big5_pair, big5_trail}
use Rattle.standard.proofs.Layouts.{pair_led}
use Rattle.standard.proofs.Tests.{split, not_ascii}
use Rattle.layouts.specs.Rows.{no_cell, place, row, column}
use Rattle.layouts.proofs.Rows.{by_row}
use Rattle.std.specs.Prelude.{Some, None}
use Rattle.std.proofs.lemmas.Option.{none-some, same_Some}
use Rattle.sequences.specs.Code.{out_of, pairs, two_in}
use Rattle.sequences.specs.declared.Out.{Out as CodeOut}
use Rattle.sequences.proofs.Leaves.{one_more, no_more}

module _ (t : Tables) (n b c : ℕ) (xs : List ℕ) where
  pub big5_ascii : b < 0x80 → big5 t (b ∷ take (n - 1) (c ∷ xs)) ≡ scalar 1 b
  unfolding big5
  big5_ascii h = rw (lt-ltb b 0x80 h)

  pub big5_bad : 0x80 ≤ b → leads big5_layout b ≡ false → big5 t (b ∷ take (n - 1) (c ∷ xs)) ≡ bad 1
  unfolding big5
  big5_bad h g = rw (le-ltb b 0x80 h, g)

pub big5_led : (t : Tables) (b : ℕ) (xs : List ℕ) → leads big5_layout b ≡ true → big5 t (b ∷ xs) ≡ await xs (λ c xs. big5_trail t.first b c)
unfolding big5
big5_led t b xs g = rw (not_ascii 0x81 b 0xFE (lit≤ tt) g, g)

module _ (t : Tables) (n b c : ℕ) (xs : List ℕ) (g : leads big5_layout b ≡ true) where
  pub big5_wait : n < 2 → big5 t (b ∷ take (n - 1) (c ∷ xs)) ≡ more
  big5_wait k = big5_led t b (take (n - 1) (c ∷ xs)) g ∙ rw (no_more (n - 1) (c ∷ xs) (omega arith))

  pub big5_pair_lem : 2 ≤ n → big5 t (b ∷ take (n - 1) (c ∷ xs)) ≡ big5_trail t.first b c
  big5_pair_lem k = big5_led t b (take (n - 1) (c ∷ xs)) g ∙ rw (one_more (n - 1) c xs (omega arith))

-- the two scalars of a pointer, in their place in the definitions
module _ (b c p : ℕ) (o : Next) (e : p ≡ pointer_of big5_layout b c) where
  pub pair_two : (w : CodeOut) → two_in pairs p ≡ Some w → big5_pair b c o ≡ item 2 plain (out_of w)
  unfolding big5_pair
  pair_two w r = rw (← e)
      (split (eqb p 1133) (λ f. rw f (rest w (rw f at r))) (λ f.
      split (eqb p 1135) (λ g. rw (f, g) (rest w (rw (f, g) at r))) (λ g.
      split (eqb p 1164) (λ h. rw (f, g, h) (rest w (rw (f, g, h) at r))) (λ h.
      split (eqb p 1166) (λ k. rw (f, g, h, k) (rest w (rw (f, g, h, k) at r))) (λ k.
      absurd (none-some w (rw (f, g, h, k) at r)))))))
    where
      rest : {v : CodeOut} (w : CodeOut) → Some v ≡ Some w → item 2 plain (out_of v) ≡ item 2 plain (out_of w)
      rest {v} w h = ap (λ (x : CodeOut). item 2 plain (out_of x)) (same_Some v w h)

  pub pair_none : two_in pairs p ≡ None → big5_pair b c o ≡ o
  unfolding big5_pair
  pair_none r = rw (← e)
      (split (eqb p 1133) (λ f. absurd (none-some _ (sym (rw f at r)))) (λ f.
      split (eqb p 1135) (λ g. absurd (none-some _ (sym (rw (f, g) at r)))) (λ g.
      split (eqb p 1164) (λ h. absurd (none-some _ (sym (rw (f, g, h) at r)))) (λ h.
      split (eqb p 1166) (λ k. absurd (none-some _ (sym (rw (f, g, h, k) at r)))) (λ k. rw (f, g, h, k))))))

-- no pointer past the cells gives two
none_past : (p : ℕ) → no_cell ≤ p → two_in pairs p ≡ None
none_past p h = rw (ne_eqb p 1133 (λ z. omega arith), ne_eqb p 1135 (λ z. omega arith), ne_eqb p 1164 (λ z. omega arith), ne_eqb p 1166 (λ z. omega arith))

-- a lead and a trail byte, by the row and the column
module _ (t : List ℕ) (b c p : ℕ) (l : leads big5_layout b ≡ true) (e : p ≡ row big5_layout b + column big5_layout c) where
  past : trails big5_layout c ≡ false → no_cell ≤ p
  unfolding place
  past f = let z : column big5_layout c ≡ no_cell = rw f in omega (arith, e, z)

  pub trail_two : (w : CodeOut) → two_in pairs p ≡ Some w → big5_trail t b c ≡ item 2 plain (out_of w)
  trail_two w h = split (trails big5_layout c)
      (λ g. rw g (pair_two b c p _ (e ∙ by_row big5_layout b c l g) w h))
      (λ g. absurd (none-some w (sym (none_past p (past g)) ∙ h)))

  pub trail_none : two_in pairs p ≡ None → big5_trail t b c ≡ pair c (pair_code big5_layout t b c)
  trail_none h = split (trails big5_layout c)
      (λ g. rw (pair_led big5_layout t b c l, g) (pair_none b c p _ (e ∙ by_row big5_layout b c l g) h))
      (λ g. rw (pair_led big5_layout t b c l, g))

-- a row that has another pointer is passed
pub rows_passed : (i p q : ℕ) → i < 4 → q ≡ get_or (get_or pairs i []) 0 0 → (p ≡ q → ⊥) → two_in (drop (i + 1) pairs) p ≡ two_in (drop i pairs) p
rows_passed zero p q h e n = rw (ne_eqb p 1133 (λ z. n (z ∙ sym e)))
rows_passed (suc zero) p q h e n = rw (ne_eqb p 1135 (λ z. n (z ∙ sym e)))
rows_passed (suc (suc zero)) p q h e n = rw (ne_eqb p 1164 (λ z. n (z ∙ sym e)))
rows_passed (suc (suc (suc zero))) p q h e n = rw (ne_eqb p 1166 (λ z. n (z ∙ sym e)))
rows_passed (suc (suc (suc (suc i)))) p q h e n = absurd (omega arith)
