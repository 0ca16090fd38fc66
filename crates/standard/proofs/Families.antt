-- The family of an encoding number: by what the code tells of the number, by cases, and the sequence at the front. Assumes nothing.
use mathlib.Core.Path.{◌≡◌, refl}
use mathlib.Core.Bool.{Bool, true, false}
use mathlib.Core.List.{List, []}
use Prim.Native.Nat.{ℕ, ◌≤◌, ◌<◌}
use native.Mathlib.Omega.{arith}
use lib.Dec.{leb, eqb}
use borrow.Author.Tests.{eqb-true, eqb-false, leb-true, leb-false, le-leb, lt-leb, ne_eqb}
use Rattle.standard.specs.Base.{◌then◌else◌}
use Rattle.standard.specs.Encodings.{Family, UTF-8, single-byte, windows-1252, GB18030, Big5, EUC-JP, ISO-2022-JP, Shift-JIS, EUC-KR, Replacement, UTF-16BE, UTF-16LE, x-user-defined, family, Tables, lent}
use Rattle.standard.specs.Indexes.{windows1252}
use Rattle.standard.specs.Sequence.{Shift}
use Rattle.standard.specs.Next.{next, unmarked}
use Rattle.standard.specs.Sequences.Utf8.{utf8}
use Rattle.standard.specs.Sequences.SingleByte.{single_byte}
use Rattle.standard.specs.Sequences.Gb18030.{gb18030}
use Rattle.standard.specs.Sequences.Big5.{big5}
use Rattle.standard.specs.Sequences.EucJp.{euc_jp}
use Rattle.standard.specs.Sequences.Iso2022Jp.{iso2022_jp}
use Rattle.standard.specs.Sequences.ShiftJis.{shift_jis}
use Rattle.standard.specs.Sequences.EucKr.{euc_kr}
use Rattle.standard.specs.Sequences.Replacement.{replacement}
use Rattle.standard.specs.Sequences.Utf16.{utf16}
use Rattle.standard.specs.Sequences.UserDefined.{user_defined}

pub beyond : (n e : ℕ) → n ≤ e → (e ≡ n → ⊥) → n < e
beyond n e h k = omega arith

-- past the numbers 31 to 36
pub past_36 : (e : ℕ) → 30 < e → (e ≡ 31 → ⊥) → (e ≡ 32 → ⊥) → (e ≡ 33 → ⊥) → (e ≡ 34 → ⊥) → (e ≡ 35 → ⊥) → (e ≡ 36 → ⊥) → 36 < e
past_36 e l n31 n32 n33 n34 n35 n36 = beyond 36 e (beyond 35 e (beyond 34 e (beyond 33 e (beyond 32 e (beyond 31 e l n31) n32) n33) n34) n35) n36

module _ (e : ℕ) where
  pub family_utf8 : e ≡ 0 → family e ≡ UTF-8
  unfolding family
  family_utf8 h = rw h

  pub family_windows_1252 : e ≡ 21 → family e ≡ windows-1252
  unfolding family
  family_windows_1252 h = rw h

  pub family_single_byte : (e ≡ 0 → ⊥) → (e ≡ 21 → ⊥) → e ≤ 28 → family e ≡ single-byte
  unfolding family
  family_single_byte n m h = rw (ne_eqb e 0 n, ne_eqb e 21 m, le-leb e 28 h)

  pub family_gb18030 : 28 < e → e ≤ 30 → family e ≡ GB18030
  unfolding family
  family_gb18030 l h = rw (ne_eqb e 0 (λ z. omega arith), ne_eqb e 21 (λ z. omega arith), lt-leb e 28 l, le-leb e 30 h)

  pub family_big5 : e ≡ 31 → family e ≡ Big5
  unfolding family
  family_big5 h = rw h

  pub family_euc_jp : e ≡ 32 → family e ≡ EUC-JP
  unfolding family
  family_euc_jp h = rw h

  pub family_iso_2022_jp : e ≡ 33 → family e ≡ ISO-2022-JP
  unfolding family
  family_iso_2022_jp h = rw h

  pub family_shift_jis : e ≡ 34 → family e ≡ Shift-JIS
  unfolding family
  family_shift_jis h = rw h

  pub family_euc_kr : e ≡ 35 → family e ≡ EUC-KR
  unfolding family
  family_euc_kr h = rw h

  pub family_replacement : e ≡ 36 → family e ≡ Replacement
  unfolding family
  family_replacement h = rw h

  pub family_utf_16be : e ≡ 37 → family e ≡ UTF-16BE
  unfolding family
  family_utf_16be h = rw h

  pub family_utf_16le : e ≡ 38 → family e ≡ UTF-16LE
  unfolding family
  family_utf_16le h = rw h

  pub family_user_defined : 38 < e → family e ≡ x-user-defined
  unfolding family
  family_user_defined l = rw (
    ne_eqb e 0 (λ z. omega arith),
    ne_eqb e 21 (λ z. omega arith),
    lt-leb e 28 (omega arith),
    lt-leb e 30 (omega arith),
    ne_eqb e 31 (λ z. omega arith),
    ne_eqb e 32 (λ z. omega arith),
    ne_eqb e 33 (λ z. omega arith),
    ne_eqb e 34 (λ z. omega arith),
    ne_eqb e 35 (λ z. omega arith),
    ne_eqb e 36 (λ z. omega arith),
    ne_eqb e 37 (λ z. omega arith),
    ne_eqb e 38 (λ z. omega arith),
  )

-- by the family of a number, with what is known of the number
pub record Cases (e : ℕ) (P : Family → Type 0) : Type 0 where
  pub c0 : e ≡ 0 → P UTF-8
  pub c21 : e ≡ 21 → P windows-1252
  pub c1_28 : 1 ≤ e → e ≤ 28 → (e ≡ 21 → ⊥) → P single-byte
  pub c29_30 : 29 ≤ e → e ≤ 30 → P GB18030
  pub c31 : e ≡ 31 → P Big5
  pub c32 : e ≡ 32 → P EUC-JP
  pub c33 : e ≡ 33 → P ISO-2022-JP
  pub c34 : e ≡ 34 → P Shift-JIS
  pub c35 : e ≡ 35 → P EUC-KR
  pub c36 : e ≡ 36 → P Replacement
  pub c37 : e ≡ 37 → P UTF-16BE
  pub c38 : e ≡ 38 → P UTF-16LE
  pub c39 : 39 ≤ e → P x-user-defined

module _ (P : Family → Type 0) where
  pick : (t : Bool) {f g : Family} → (t ≡ true → P f) → (t ≡ false → P g) → P (t then f else g)
  pick true h k = h refl
  pick false h k = k refl

  pub by_family : (e : ℕ) → Cases e P → P (family e)
  unfolding family
  by_family e c =
      pick (eqb e 0) (λ h. c.c0 (eqb-true e 0 h)) (λ h0.
      let n0 : e ≡ 0 → ⊥ = eqb-false e 0 h0 in
      pick (eqb e 21) (λ h. c.c21 (eqb-true e 21 h)) (λ h21.
      pick (leb e 28) (λ h. c.c1_28 (omega arith) (leb-true e 28 h) (eqb-false e 21 h21)) (λ h28.
      let l28 : 28 < e = leb-false e 28 h28 in
      pick (leb e 30) (λ h. c.c29_30 (omega arith) (leb-true e 30 h)) (λ h30.
      let l30 : 30 < e = leb-false e 30 h30 in
      pick (eqb e 31) (λ h. c.c31 (eqb-true e 31 h)) (λ h31.
      let l31 : 31 < e = beyond 31 e l30 (eqb-false e 31 h31) in
      pick (eqb e 32) (λ h. c.c32 (eqb-true e 32 h)) (λ h32.
      let l32 : 32 < e = beyond 32 e l31 (eqb-false e 32 h32) in
      pick (eqb e 33) (λ h. c.c33 (eqb-true e 33 h)) (λ h33.
      let l33 : 33 < e = beyond 33 e l32 (eqb-false e 33 h33) in
      pick (eqb e 34) (λ h. c.c34 (eqb-true e 34 h)) (λ h34.
      let l34 : 34 < e = beyond 34 e l33 (eqb-false e 34 h34) in
      pick (eqb e 35) (λ h. c.c35 (eqb-true e 35 h)) (λ h35.
      let l35 : 35 < e = beyond 35 e l34 (eqb-false e 35 h35) in
      pick (eqb e 36) (λ h. c.c36 (eqb-true e 36 h)) (λ h36.
      let l36 : 36 < e = beyond 36 e l35 (eqb-false e 36 h36) in
      pick (eqb e 37) (λ h. c.c37 (eqb-true e 37 h)) (λ h37.
      let l37 : 37 < e = beyond 37 e l36 (eqb-false e 37 h37) in
      pick (eqb e 38) (λ h. c.c38 (eqb-true e 38 h)) (λ h38.
      let l38 : 38 < e = beyond 38 e l37 (eqb-false e 38 h38) in
      c.c39 l38))))))))))))

-- the sequence at the front, by the number
module _ (t1 t2 : List ℕ) (e : ℕ) (s : Shift) (xs : List ℕ) where
  pub is_utf8 : e ≡ 0 → next (lent t1 t2) (family e) s xs ≡ unmarked s.flag (utf8 xs)
  unfolding next
  is_utf8 h = rw (family_utf8 e h)

  pub is_windows_1252 : e ≡ 21 → next (lent t1 t2) (family e) s xs ≡ single_byte windows1252 xs
  unfolding next
  is_windows_1252 h = rw (family_windows_1252 e h)

  pub is_single_byte : (e ≡ 0 → ⊥) → (e ≡ 21 → ⊥) → e ≤ 28 → next (lent t1 t2) (family e) s xs ≡ single_byte t1 xs
  unfolding next
  is_single_byte n m h = rw (family_single_byte e n m h)

  pub is_gb18030 : 28 < e → e ≤ 30 → next (lent t1 t2) (family e) s xs ≡ gb18030 (lent t1 t2) xs
  unfolding next
  is_gb18030 l h = rw (family_gb18030 e l h)

  pub is_big5 : e ≡ 31 → next (lent t1 t2) (family e) s xs ≡ big5 (lent t1 []) xs
  unfolding next big5
  is_big5 h = rw (family_big5 e h)

  pub is_euc_jp : e ≡ 32 → next (lent t1 t2) (family e) s xs ≡ euc_jp (lent t1 t2) xs
  unfolding next
  is_euc_jp h = rw (family_euc_jp e h)

  pub is_iso_2022_jp : e ≡ 33 → next (lent t1 t2) (family e) s xs ≡ iso2022_jp (lent t1 t2) s xs
  unfolding next
  is_iso_2022_jp h = rw (family_iso_2022_jp e h)

  pub is_shift_jis : e ≡ 34 → next (lent t1 t2) (family e) s xs ≡ shift_jis (lent t1 []) xs
  unfolding next shift_jis
  is_shift_jis h = rw (family_shift_jis e h)

  pub is_euc_kr : e ≡ 35 → next (lent t1 t2) (family e) s xs ≡ euc_kr (lent t1 []) xs
  unfolding next euc_kr
  is_euc_kr h = rw (family_euc_kr e h)

  pub is_replacement : e ≡ 36 → next (lent t1 t2) (family e) s xs ≡ replacement s xs
  unfolding next
  is_replacement h = rw (family_replacement e h)

  pub is_utf_16 : 36 < e → e ≤ 38 → next (lent t1 t2) (family e) s xs ≡ unmarked s.flag (utf16 (eqb e 37) xs)
  unfolding next
  is_utf_16 l h = go (eqb e 37) refl
    where
      go : (b : Bool) → eqb e 37 ≡ b → next (lent t1 t2) (family e) s xs ≡ unmarked s.flag (utf16 b xs)
      go true k = rw (family_utf_16be e (eqb-true e 37 k))
      go false k = let n : e ≡ 37 → ⊥ = eqb-false e 37 k in rw (family_utf_16le e (omega arith))

  pub is_user_defined : 38 < e → next (lent t1 t2) (family e) s xs ≡ user_defined xs
  unfolding next
  is_user_defined l = rw (family_user_defined e l)

pub by_33 : (t : Tables) (s : Shift) (xs : List ℕ) → next t (family 33) s xs ≡ next t ISO-2022-JP s xs
by_33 t s xs = rw (family_iso_2022_jp 33 refl)
