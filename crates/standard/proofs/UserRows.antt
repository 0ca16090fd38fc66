-- The code point of a pair of Shift_JIS: private in the user rows, by the index elsewhere. Assumes nothing.
use mathlib.Core.Path.{◌≡◌, refl}
use mathlib.Core.Bool.{Bool, true, false}
use mathlib.Core.List.{List}
use Prim.Native.Nat.{ℕ, ◌+◌, ◌-◌, ◌≤◌, ◌<◌}
use native.Mathlib.Omega.{arith}
use lib.Dec.{ltb}
use borrow.Author.Tests.{ltb-true, ltb-false, le-ltb}
use Rattle.standard.specs.Base.{◌then◌else◌, within}
use Rattle.standard.specs.Layouts.{number, trails, pointer_of, pair_code, shift_jis_layout}
use Rattle.standard.specs.Sequences.ShiftJis.{user_rows, shift_jis_code}
use Rattle.standard.proofs.Layouts.{ranges_under, number_below, pair_under, shift_jis-regular}
use Rattle.standard.proofs.Tests.{split, and_both, under, above, out_above}

module _ (index : List ℕ) (b c : ℕ) where
  -- what holds of the private code points and of those by the index
  pub shift_jis-either : (P : ℕ → Type 0) → ((p : ℕ) → within 8836 p 10715 ≡ true → P (0xE000 - 8836 + p)) → P (pair_code shift_jis_layout index b c) → P (shift_jis_code index b c)
  unfolding shift_jis_code
  shift_jis-either P h g = go (user_rows b c) refl
    where
      go : (t : Bool) → user_rows b c ≡ t → P (t then 0xE000 - 8836 + pointer_of shift_jis_layout b c else pair_code shift_jis_layout index b c)
      go true e = h (pointer_of shift_jis_layout b c) (and_both (trails shift_jis_layout c) (within 8836 (pointer_of shift_jis_layout b c) 10715) e).1
      go false e = g

  pub shift_jis-private : trails shift_jis_layout c ≡ true → within 8836 (pointer_of shift_jis_layout b c) 10715 ≡ true → shift_jis_code index b c ≡ 0xE000 - 8836 + pointer_of shift_jis_layout b c
  unfolding shift_jis_code
  shift_jis-private t h = rw (t, h)

  pub shift_jis-indexed : (trails shift_jis_layout c ≡ true → within 8836 (pointer_of shift_jis_layout b c) 10715 ≡ false) → shift_jis_code index b c ≡ pair_code shift_jis_layout index b c
  unfolding shift_jis_code
  shift_jis-indexed h = split (trails shift_jis_layout c) (λ t. rw (t, h t)) (λ t. rw t)

  -- no byte below 40 is a trail
  pub shift_jis-under : c < 0x40 → shift_jis_code index b c ≡ 0
  unfolding shift_jis_code
  shift_jis-under h =
      let t : trails shift_jis_layout c ≡ false = ranges_under shift_jis_layout.trail shift_jis_layout.divisor c shift_jis-regular.columns h in
      rw t (pair_under shift_jis_layout index b c shift_jis-regular h)

  -- the user rows have the leads F0 to F9
  pub shift_jis-other : within 0xF0 b 0xF9 ≡ false → shift_jis_code index b c ≡ pair_code shift_jis_layout index b c
  unfolding pointer_of
  shift_jis-other f = shift_jis-indexed (λ t.
      let n = number_below shift_jis_layout.trail shift_jis_layout.divisor c shift_jis-regular.columns t in
      split (ltb b 0xF0)
      (λ e.
      let k = ltb-true b 0xF0 e in
      let l : number shift_jis_layout.lead b ≤ 46 = split (ltb b 0xA0) (λ g. let m = ltb-true b 0xA0 g in rw g (omega arith)) (λ g. rw g (omega arith)) in
      under 8836 (pointer_of shift_jis_layout b c) 10715 (omega arith))
      (λ e.
      let k = out_above 0xF0 b 0xF9 f (ltb-false b 0xF0 e) in
      let l : 57 ≤ number shift_jis_layout.lead b = rw (le-ltb b 0xA0 (omega arith)) (omega arith) in
      above 8836 (pointer_of shift_jis_layout b c) 10715 (omega arith)))
