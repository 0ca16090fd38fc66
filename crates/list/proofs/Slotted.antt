-- Looking a name up in the slots, and the marks. Assumes nothing.
use Rattle.std.proofs.Common.{◌≡◌, refl, sym, ap, ◌∙◌, ℕ, zero, suc, ◌+◌, ◌-◌, ◌*◌, ◌/◌, ◌%◌, ◌^◌, ◌<◌, ◌≤◌, Bool, true, false, not, true≢false, List, [], ◌∷◌, ◌++◌, length, take, drop, get_or, Option, Some, None, arith, fold}
use Rattle.std.proofs.lemmas.List.{take_rest}
use Rattle.std.specs.Cmp.Lexicographic.{pointwise}
use Rattle.std.proofs.lemmas.Nat.{mul-mod_first}
use native.Mathlib.Nat.{mul_comm, mul-lt-mul_of_pos_left, div-lt_iff_lt-mul}
use lib.Dec.{lit<, ltb, eqb}
use borrow.Author.Tests.{eq-eqb, ne_eqb, ltb-true, eqb-true}
use Rattle.standard.specs.Base.{◌then◌else◌}
use Rattle.list_spec.specs.Lines.{LF, same, on_first, names_of, among}
use Rattle.list_spec.proofs.Parts.{same_true}
use Rattle.list.specs.Slots.{hash_from, starts_at, slot_of, is_first, name_at, look_from, look_of}
use Rattle.list.proofs.Characters.{same_is}

-- the hash as the code folds it
abbrev pub hash_step : ℕ → ℕ → ℕ
hash_step h c = ((h + c) % 2 ^ 32) * 1327217885 % 2 ^ 32

pub hash_fold : (h : ℕ) (l : List ℕ) → fold hash_step h l ≡ hash_from h l
unfolding hash_from
hash_fold h [] = refl
hash_fold h (c ∷ cs) =
    ap (λ (i : ℕ). fold hash_step i cs) (mul-mod_first (h + c) 1327217885 4294967296) ∙ hash_fold ((h + c) * 1327217885 % 4294967296) cs

-- a hash times the number of slots fits 64 bits, and its upper part is a slot
pub hash_slot : (h n : ℕ) → h < 4294967296 → 0 < n → h * n / 4294967296 < n
hash_slot h n k g = (div-lt_iff_lt-mul (lit< tt)).1 (rw (mul_comm h n) (mul-lt-mul_of_pos_left k g))

-- the known name at a place, test by test
module _ (names : List ℕ) (p : ℕ) (x : List ℕ) where
  pub starts_below : true ≡ starts_at names p → p < length names
  unfolding starts_at
  starts_below h = go (ltb p (length names)) refl h
    where
      go : (b : Bool) → ltb p (length names) ≡ b →
          true ≡ (not b then false else eqb p 0 then true else eqb (get_or names (p - 1) 0) LF) → p < length names
      go true e h = ltb-true p (length names) e
      go false e h = absurd (true≢false h)

  pub name_off : false ≡ starts_at names p → false ≡ name_at names p x
  unfolding name_at
  name_off h = simp (sym h)

  module _ (h : true ≡ starts_at names p) where
    abbrev there : List (List ℕ)
    there = names_of (take (length names - p) (drop p names))

    from : name_at names p x ≡ is_first x there
    unfolding name_at
    from = simp (sym h) (ap (λ (l : List ℕ). is_first x (names_of l)) (sym (take_rest names p)))

    pub name_first : (y : List ℕ) (ys : List (List ℕ)) → there ≡ y ∷ ys → pointwise eqb y x ≡ name_at names p x
    unfolding is_first
    name_first y ys e = same_is y x ∙ sym (from ∙ ap (is_first x) e)

    pub name_none : there ≡ [] → false ≡ name_at names p x
    unfolding is_first
    name_none e = sym (from ∙ ap (is_first x) e)

-- the turns of a look, in n slots, of which i have been looked at
module _ (slots names x : List ℕ) (n : ℕ) (w : length slots ≡ n) where
  pub look_start : (j : ℕ) → j ≡ slot_of n x → look_from slots names x (n - 0) j ≡ look_of slots names x
  unfolding look_of
  look_start j e = let z : n - 0 ≡ n = omega arith in rw (e, z, w)

  module _ (i j : ℕ) (h : i < n) where
    less : n - i ≡ suc (n - (i + 1))
    less = omega arith

    pub look_empty : get_or slots j 0 ≡ 0 → look_from slots names x (n - i) j ≡ None
    unfolding look_from
    look_empty g = ap (λ (k : ℕ). look_from slots names x k j) less ∙ simp (eq-eqb (get_or slots j 0) 0 g)

    module _ (g : get_or slots j 0 ≡ 0 → ⊥) where
      pub look_found : true ≡ name_at names (get_or slots j 0 - 1) x → look_from slots names x (n - i) j ≡ Some j
      unfolding look_from
      look_found t = ap (λ (k : ℕ). look_from slots names x k j) less ∙ simp (ne_eqb (get_or slots j 0) 0 g, sym t)

      pub look_on : false ≡ name_at names (get_or slots j 0 - 1) x →
          look_from slots names x (n - i) j ≡ look_from slots names x (n - (i + 1)) ((j + 1) % n)
      unfolding look_from
      look_on t = ap (λ (k : ℕ). look_from slots names x k j) less ∙ simp (ne_eqb (get_or slots j 0) 0 g, sym t, w)

  pub look_none : (i j : ℕ) → n ≤ i → look_from slots names x (n - i) j ≡ None
  unfolding look_from
  look_none i j h = let z : n - i ≡ 0 = omega arith in rw z

-- a slot that is found holds the name
module _ (slots names x : List ℕ) where
  look_hit : (n j i : ℕ) → look_from slots names x n j ≡ Some i → name_at names (get_or slots i 0 - 1) x ≡ true
  unfolding look_from
  look_hit zero j i h = absurd (cc)
  look_hit (suc n) j i h = go (eqb (get_or slots j 0) 0) (name_at names (get_or slots j 0 - 1) x) refl h (look_hit n ((j + 1) % length slots) i)
    where
      further : Option ℕ
      further = look_from slots names x n ((j + 1) % length slots)

      go : (b c : Bool) → name_at names (get_or slots j 0 - 1) x ≡ c → (b then None else c then Some j else further) ≡ Some i →
          (further ≡ Some i → name_at names (get_or slots i 0 - 1) x ≡ true) → name_at names (get_or slots i 0 - 1) x ≡ true
      go true c e h r = absurd (cc)
      go false true e h r = let z : j ≡ i = cc in rw z at e
      go false false e h r = r h

  pub found_name : (i : ℕ) → look_of slots names x ≡ Some i → name_at names (get_or slots i 0 - 1) x ≡ true
  unfolding look_of
  found_name i h = look_hit (length slots) (slot_of (length slots) x) i h

-- what stands at a place of the names
record Stands (names : List ℕ) (p : ℕ) (x : List ℕ) : Type 0 where
  below : p < length names
  starts : (eqb p 0 then true else eqb (get_or names (p - 1) 0) LF) ≡ true
  is : is_first x (names_of (drop p names)) ≡ true

stands : (names : List ℕ) (p : ℕ) (x : List ℕ) → name_at names p x ≡ true → Stands names p x
unfolding name_at starts_at
stands names p x = go (ltb p (length names)) refl (eqb p 0 then true else eqb (get_or names (p - 1) 0) LF) refl
  where
    go : (a : Bool) → ltb p (length names) ≡ a → (b : Bool) → (eqb p 0 then true else eqb (get_or names (p - 1) 0) LF) ≡ b →
        ((not a then false else b) then is_first x (names_of (drop p names)) else false) ≡ true → Stands names p x
    go true e true f h = record { below = ltb-true p (length names) e; starts = f; is = h }
    go true e false f h = absurd (true≢false (sym h))
    go false e b f h = absurd (true≢false (sym h))

first_among : (x : List ℕ) (ys : List (List ℕ)) → is_first x ys ≡ true → among x ys ≡ true
unfolding is_first among
first_among x [] h = absurd (true≢false (sym h))
first_among x (y ∷ ys) h = simp h

first_one : (x y : List ℕ) (zs : List (List ℕ)) → is_first x zs ≡ true → is_first y zs ≡ true → x ≡ y
unfolding is_first
first_one x y [] h g = absurd (true≢false (sym h))
first_one x y (z ∷ zs) h g = sym (same_true z x h) ∙ same_true z y g

-- behind a line feed the names go on, and another name is in front of them
behind : (l : List ℕ) (p : ℕ) → p < length l → get_or l p 0 ≡ LF →
    (y : List ℕ) × (ys : List (List ℕ)) × (names_of l ≡ (y ∷ ys) ++ names_of (drop (suc p) l))
unfolding names_of
behind [] p h g = absurd (omega arith)
behind (c ∷ cs) zero h g = ([], [], simp (eq-eqb c LF g))
behind (c ∷ cs) (suc p) h g = go (eqb c LF) (behind cs p (omega arith) g)
  where
    go : (b : Bool) → (y : List ℕ) × (ys : List (List ℕ)) × (names_of cs ≡ (y ∷ ys) ++ names_of (drop (suc p) cs)) →
        (y : List ℕ) × (ys : List (List ℕ)) ×
        ((b then [] ∷ names_of cs else on_first c (names_of cs)) ≡ (y ∷ ys) ++ names_of (drop (suc p) cs))
    go true r = ([], r.0 ∷ r.1, ap (λ (l : List (List ℕ)). [] ∷ l) r.2)
    go false r = (c ∷ r.0, r.1, ap (on_first c) r.2)

among_later : (x : List ℕ) (ys zs : List (List ℕ)) → among x zs ≡ true → among x (ys ++ zs) ≡ true
unfolding among
among_later x [] zs h = h
among_later x (y ∷ ys) zs h = go (same y x) (among_later x ys zs h)
  where
    go : (b : Bool) → among x (ys ++ zs) ≡ true → (b then true else among x (ys ++ zs)) ≡ true
    go true r = refl
    go false r = r

-- what stands there is known
module _ (names : List ℕ) (p : ℕ) (x : List ℕ) (s : Stands names p x) where
  stands_known : among x (names_of names) ≡ true
  stands_known = go p refl (eqb p 0) refl s.starts
    where
      at : (k : ℕ) → p ≡ k → among x (names_of (drop k names)) ≡ true
      at k e = rw (sym e) (first_among x (names_of (drop p names)) s.is)

      go : (k : ℕ) → p ≡ k → (b : Bool) → eqb p 0 ≡ b → (b then true else eqb (get_or names (p - 1) 0) LF) ≡ true →
          among x (names_of names) ≡ true
      go zero e b f h = at zero e
      go (suc k) e true f h = absurd (omega (arith, eqb-true p 0 f))
      go (suc k) e false f h =
          let z : p - 1 ≡ k = omega arith in
          let w : get_or names k 0 ≡ LF = ap (λ (i : ℕ). get_or names i 0) (sym z) ∙ eqb-true (get_or names (p - 1) 0) LF h in
          let r = behind names k (omega (arith, s.below)) w in
          rw r.2 (among_later x (r.0 ∷ r.1) (names_of (drop (suc k) names)) (at (suc k) e))

module _ (slots names : List ℕ) (i : ℕ) where
  pub found_known : (x : List ℕ) → look_of slots names x ≡ Some i → among x (names_of names) ≡ true
  found_known x h = stands_known names _ x (stands names _ x (found_name slots names x i h))

  -- two names at one slot are one
  pub one_slot : (x y : List ℕ) → look_of slots names x ≡ Some i → look_of slots names y ≡ Some i → x ≡ y
  one_slot x y h g = first_one x y _ (stands names _ x (found_name slots names x i h)).is (stands names _ y (found_name slots names y i g)).is
