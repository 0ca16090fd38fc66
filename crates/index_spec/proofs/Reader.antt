-- The reader of index lines reads exactly the grammar. Assumes nothing.
use mathlib.Core.Path.{◌≡◌, refl, sym, ap, ◌∙◌, subst}
use mathlib.Core.Bool.{Bool, true, false, ◌&&◌, not}
use mathlib.Core.List.{List, [], ◌∷◌, ◌++◌}
use Prim.Native.Nat.{ℕ, zero, suc, ◌≤◌}
use native.Mathlib.Omega.{arith}
use lib.Dec.{T, leb, eqb}
use lib.ListN.{length, drop, replicate}
use borrow.Author.Tests.{leb-true, eqb-true, ne_eqb, not-true}
use Rattle.standard.specs.Base.{within, every, mapped}
use Rattle.standard.proofs.Tests.{split, and_both}
use Rattle.index_spec.specs.IndexLine.{decimal, hexadecimal, value, ending, NoEntry, empty, comment, Entry}
use Rattle.index_spec.specs.IndexRead.{Read, no_entry, bad, entry, front, behind, space, marked, fits, read_parts, read_code, read_pointer, is_no_entry, read}
use Rattle.index_spec.specs.Statements.{Reads}

-- The front passes the test.
front_every : (p : ℕ → Bool) (xs : List ℕ) → every p (front p xs) ≡ true
unfolding every front
front_every p [] = refl
front_every p (b ∷ bs) = split (p b) (λ h. rw (h, h) (front_every p bs)) (λ h. rw h)

-- The front and what stands behind it are the list.
front_behind : (p : ℕ → Bool) (xs : List ℕ) → front p xs ++ behind p xs ≡ xs
unfolding front behind
front_behind p [] = refl
front_behind p (b ∷ bs) = split (p b) (λ h. rw h (ap (λ l. b ∷ l) (front_behind p bs))) (λ h. rw h)

-- Does the list not go on with bytes that pass the test?
stops : (ℕ → Bool) → List ℕ → Bool
stops p [] = true
stops p (b ∷ bs) = not (p b)

module _ (p : ℕ → Bool) where
  -- `front` gives the bytes that pass.
  front_of : (xs ys : List ℕ) → every p xs ≡ true → stops p ys ≡ true → front p (xs ++ ys) ≡ xs
  unfolding every front stops
  front_of [] [] h g = refl
  front_of [] (y ∷ ys) h g = rw (not-true (p y) g)
  front_of (x ∷ xs) ys h g =
      let k : (p x ≡ true) × (every p xs ≡ true) = and_both (p x) (every p xs) h in
      rw k.0 (ap (λ l. x ∷ l) (front_of xs ys k.1 g))

  -- `behind` gives the list behind them.
  behind_of : (xs ys : List ℕ) → every p xs ≡ true → stops p ys ≡ true → behind p (xs ++ ys) ≡ ys
  unfolding every behind stops
  behind_of [] [] h g = refl
  behind_of [] (y ∷ ys) h g = rw (not-true (p y) g)
  behind_of (x ∷ xs) ys h g =
      let k : (p x ≡ true) × (every p xs ≡ true) = and_both (p x) (every p xs) h in
      rw k.0 (behind_of xs ys k.1 g)

-- Bytes that are all spaces are 20 so many times.
all_spaces : (xs : List ℕ) → every space xs ≡ true → xs ≡ replicate (length xs) 0x20
unfolding every
all_spaces [] h = refl
all_spaces (x ∷ xs) h =
    let k : (space x ≡ true) × (every space xs ≡ true) = and_both (space x) (every space xs) h in
    rw (eqb-true x 0x20 k.0) (ap (λ l. 0x20 ∷ l) (all_spaces xs k.1))

-- So many times 20 are all spaces.
spaces_all : (n : ℕ) → every space (replicate n 0x20) ≡ true
unfolding every
spaces_all zero = refl
spaces_all (suc n) = spaces_all n

-- A tab and `0x` in front.
is_marked : (xs : List ℕ) → marked xs ≡ true → xs ≡ 0x09 ∷ 0x30 ∷ 0x78 ∷ drop 3 xs
is_marked [] h = absurd (subst T (sym h) tt)
is_marked (a ∷ []) h = absurd (subst T (sym (and_both (eqb a 0x09) false h).1) tt)
is_marked (a ∷ b ∷ []) h = absurd (subst T (sym (and_both (eqb b 0x30) false (and_both (eqb a 0x09) (eqb b 0x30 && false) h).1).1) tt)
is_marked (a ∷ b ∷ c ∷ xs) h =
    let i = and_both (eqb a 0x09) (eqb b 0x30 && eqb c 0x78) h in
    let j = and_both (eqb b 0x30) (eqb c 0x78) i.1 in
    rw (eqb-true a 0x09 i.0, eqb-true b 0x30 j.0, eqb-true c 0x78 j.1)

-- What the reader asks of the parts.
record Fits (ds xs hs rest : List ℕ) : Type 0 where
  one_to_seven : within 1 (length ds) 7 ≡ true
  mark : marked xs ≡ true
  four_to_six : within 4 (length hs) 6 ≡ true
  closes : ending rest ≡ true
  is_mapped : mapped (value 16 0 hs) ≡ true

-- The test holds, so do its parts.
fits_parts : (ds xs hs rest : List ℕ) → fits ds xs hs rest ≡ true → Fits ds xs hs rest
unfolding fits
fits_parts ds xs hs rest h =
    let i = and_both (within 1 (length ds) 7) (marked xs && (within 4 (length hs) 6 && (ending rest && mapped (value 16 0 hs)))) h in
    let j = and_both (marked xs) (within 4 (length hs) 6 && (ending rest && mapped (value 16 0 hs))) i.1 in
    let k = and_both (within 4 (length hs) 6) (ending rest && mapped (value 16 0 hs)) j.1 in
    let l = and_both (ending rest) (mapped (value 16 0 hs)) k.1 in
    record { one_to_seven = i.0; mark = j.0; four_to_six = k.0; closes = l.0; is_mapped = l.1 }

-- The parts hold, so does the test.
parts_fit : (ds xs hs rest : List ℕ) → Fits ds xs hs rest → fits ds xs hs rest ≡ true
unfolding fits
parts_fit ds xs hs rest f = rw (f.one_to_seven, f.mark, f.four_to_six, f.closes) f.is_mapped

-- Parts that read as an entry pass the test, and their values are its numbers.
parts_entry : (ds xs hs rest : List ℕ) (p c : ℕ) → read_parts ds xs hs rest ≡ entry p c → Fits ds xs hs rest × (value 10 0 ds ≡ p) × (value 16 0 hs ≡ c)
parts_entry ds xs hs rest p c h = split (fits ds xs hs rest)
    (λ g. let i : entry (value 10 0 ds) (value 16 0 hs) ≡ entry p c = rw g at h in (fits_parts ds xs hs rest g, cc, cc))
    (λ g. let i : bad ≡ entry p c = rw g at h in let z : ◌≡◌ {A = ℕ} 0 1 = cc in absurd (omega arith))

-- A line whose digits, behind its spaces, read as an entry.
pointer_entry : (line : List ℕ) (p c : ℕ) → read_pointer (behind space line) ≡ entry p c → Entry line p c
pointer_entry line p c h = record {
  spaces = length (front space line);
  pointer = ds;
  code = hs;
  rest = rest;
  parts = whole;
  decimals = front_every decimal inner;
  one_to_seven = read_as.0.one_to_seven;
  hexadecimals = front_every hexadecimal (drop 3 xs);
  four_to_six = read_as.0.four_to_six;
  closes = read_as.0.closes;
  pointer_value = read_as.1;
  code_value = read_as.2;
  is_mapped = rw read_as.2 at read_as.0.is_mapped;
}
  where
    inner : List ℕ
    inner = behind space line

    ds : List ℕ
    ds = front decimal inner

    xs : List ℕ
    xs = behind decimal inner

    hs : List ℕ
    hs = front hexadecimal (drop 3 xs)

    rest : List ℕ
    rest = behind hexadecimal (drop 3 xs)

    read_as : Fits ds xs hs rest × (value 10 0 ds ≡ p) × (value 16 0 hs ≡ c)
    read_as = parts_entry ds xs hs rest p c h

    whole : line ≡ replicate (length (front space line)) 0x20 ++ (ds ++ (0x09 ∷ 0x30 ∷ 0x78 ∷ (hs ++ rest)))
    whole =
        sym (front_behind space line) ∙ ap (λ l. l ++ inner) (all_spaces (front space line) (front_every space line)) ∙
        ap (λ l. replicate (length (front space line)) 0x20 ++ l) (sym (front_behind decimal inner) ∙
        ap (λ l. ds ++ l) (is_marked xs read_as.0.mark ∙ ap (λ (l : List ℕ). 0x09 ∷ 0x30 ∷ 0x78 ∷ l) (sym (front_behind hexadecimal (drop 3 xs)))))

-- A line that reads as an entry is one.
to_entry : (line : List ℕ) (p c : ℕ) → read line ≡ entry p c → Entry line p c
unfolding read
to_entry line p c h = split (is_no_entry line)
    (λ g. let i : no_entry ≡ entry p c = rw g at h in let z : ◌≡◌ {A = ℕ} 0 1 = cc in absurd (omega arith))
    (λ g. pointer_entry line p c (rw g at h))

-- An entry's first digit is neither a space nor `#`.
starts_digit : (ds ys : List ℕ) → every decimal ds ≡ true → within 1 (length ds) 7 ≡ true → (stops space (ds ++ ys) ≡ true) × (is_no_entry (ds ++ ys) ≡ false)
unfolding every stops
starts_digit [] ys h g = absurd (subst T (sym g) tt)
starts_digit (d ∷ ds) ys h g =
    let i = and_both (decimal d) (every decimal ds) h in
    let j : 0x30 ≤ d = leb-true 0x30 d (and_both (leb 0x30 d) (leb d 0x39) i.0).0 in
    (rw (ne_eqb d 0x20 (omega arith)), ne_eqb d 0x23 (omega arith))

-- Nor does a line that begins with spaces start with `#`.
front_entry : (n : ℕ) (ys : List ℕ) → is_no_entry ys ≡ false → is_no_entry (replicate n 0x20 ++ ys) ≡ false
front_entry zero ys h = h
front_entry (suc n) ys h = refl

-- The ending does not go on with hexadecimal digits.
stops_hex : (rest : List ℕ) → ending rest ≡ true → stops hexadecimal rest ≡ true
unfolding stops
stops_hex [] h = refl
stops_hex (b ∷ bs) h = rw (eqb-true b 0x09 h)

-- A tab does not go on with decimal digits.
stops_decimal : (ys : List ℕ) → stops decimal (0x09 ∷ ys) ≡ true
unfolding stops
stops_decimal ys = refl

module _ (line : List ℕ) (p c : ℕ) (e : Entry line p c) where
  -- What stands behind the pointer.
  tail : List ℕ
  tail = 0x09 ∷ 0x30 ∷ 0x78 ∷ (e.code ++ e.rest)

  -- The parts of an entry pass the test.
  fit : Fits e.pointer tail e.code e.rest
  unfolding tail
  fit = record {
    one_to_seven = e.one_to_seven;
    mark = refl;
    four_to_six = e.four_to_six;
    closes = e.closes;
    is_mapped = rw e.code_value e.is_mapped;
  }

  -- They read as the entry.
  parts_read : read_parts e.pointer tail e.code e.rest ≡ entry p c
  parts_read = rw (parts_fit e.pointer tail e.code e.rest fit, e.pointer_value, e.code_value)

  -- They are found behind the pointer's digits.
  code_read : read_code e.pointer tail ≡ entry p c
  unfolding tail
  code_read =
      let f = front_of hexadecimal e.code e.rest e.hexadecimals (stops_hex e.rest e.closes) in
      let b = behind_of hexadecimal e.code e.rest e.hexadecimals (stops_hex e.rest e.closes) in
      rw (f, b) parts_read

  -- They are found behind the spaces.
  pointer_read : read_pointer (e.pointer ++ tail) ≡ entry p c
  unfolding tail
  pointer_read =
      let f = front_of decimal e.pointer tail e.decimals (stops_decimal (0x30 ∷ 0x78 ∷ (e.code ++ e.rest))) in
      let b = behind_of decimal e.pointer tail e.decimals (stops_decimal (0x30 ∷ 0x78 ∷ (e.code ++ e.rest))) in
      rw (f, b) code_read

  -- So the line reads as the entry.
  from_entry : read line ≡ entry p c
  unfolding read tail
  from_entry =
      let d = starts_digit e.pointer tail e.decimals e.one_to_seven in
      let g = front_entry e.spaces (e.pointer ++ tail) d.1 in
      let b = behind_of space (replicate e.spaces 0x20) (e.pointer ++ tail) (spaces_all e.spaces) d.0 in
      rw e.parts (rw (g, b) pointer_read)

-- The test for no entry.
is_no_entry_lem : (line : List ℕ) → is_no_entry line ≡ true → NoEntry line
is_no_entry_lem [] h = empty
is_no_entry_lem (b ∷ bs) h = rw (eqb-true b 0x23 h) (comment bs)

-- Parts are an entry or bad.
parts_not : {A : Type 0} (ds xs hs rest : List ℕ) → read_parts ds xs hs rest ≡ no_entry → A
parts_not ds xs hs rest h = split (fits ds xs hs rest)
    (λ g. let i : entry (value 10 0 ds) (value 16 0 hs) ≡ no_entry = rw g at h in let z : ◌≡◌ {A = ℕ} 0 1 = cc in absurd (omega arith))
    (λ g. let i : bad ≡ no_entry = rw g at h in let z : ◌≡◌ {A = ℕ} 0 1 = cc in absurd (omega arith))

-- What reads as no entry is none.
to_no_entry : (line : List ℕ) → read line ≡ no_entry → NoEntry line
unfolding read
to_no_entry line h = split (is_no_entry line) (is_no_entry_lem line) (λ g. parts_not _ _ _ _ (rw g at h))

-- A line without entry reads so.
from_no_entry : (line : List ℕ) → NoEntry line → read line ≡ no_entry
unfolding read
from_no_entry line empty = refl
from_no_entry line (comment bs) = refl

-- A bad line is not one without entry.
differ : {A : Type 0} (r : Read) → r ≡ bad → r ≡ no_entry → A
differ r p q = let z : ◌≡◌ {A = ℕ} 0 1 = cc in absurd (omega arith)

-- A bad line is not an entry.
differ_entry : {A : Type 0} (r : Read) (p c : ℕ) → r ≡ bad → r ≡ entry p c → A
differ_entry r p c h g = let z : ◌≡◌ {A = ℕ} 0 1 = cc in absurd (omega arith)

-- A line that is neither reads as bad.
to_bad : (line : List ℕ) → (NoEntry line → ⊥) → ((p c : ℕ) → Entry line p c → ⊥) → read line ≡ bad
to_bad line f g = pick (read line) refl
  where
    pick : (r : Read) → read line ≡ r → read line ≡ bad
    pick no_entry h = absurd (f (to_no_entry line h))
    pick bad h = h
    pick (entry p c) h = absurd (g p c (to_entry line p c h))

-- The reader and the grammar agree.
pub reads : (line : List ℕ) → Reads line
reads line = record {
  entries = λ p c. (to_entry line p c, from_entry line p c);
  no_entries = (to_no_entry line, from_no_entry line);
  others = (
    λ h. (λ n. differ (read line) h (from_no_entry line n), λ p c e. differ_entry (read line) p c h (from_entry line p c e)),
    λ h. to_bad line h.0 h.1,
  );
}
