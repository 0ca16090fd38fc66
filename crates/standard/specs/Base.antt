-- What all definitions share: tests over numbers and lists, bytes, and scalars. Assumes nothing.
use Rattle.std.specs.Prelude.{Bool, true, false, ◌&&◌, not, List, [], ◌∷◌, ℕ, suc, T, ltb, leb, eqb}

infixr 20 ◌then◌else◌
-- if .. then .. else
abbrev pub ◌then◌else◌ {ℓ} : {A : Type ℓ} → Bool → A → A → A
true then a else b = a
false then a else b = b

-- low to high, inclusive
abbrev pub within : ℕ → ℕ → ℕ → Bool
within low n high = leb low n && leb n high

-- Does the test hold of every element?
unfoldable pub every : (ℕ → Bool) → List ℕ → Bool
every p [] = true
every p (x ∷ xs) = p x && every p xs

-- each number is below n
abbrev pub below : ℕ → List ℕ → Bool
below n xs = every (λ x. ltb x n) xs

-- a list of bytes
abbrev pub Bytes : List ℕ → Type 0
Bytes xs = T (below 256 xs)

-- The numbers below 0x30, in order: demand 3 compares those of the bytes taken and of the characters handed out.
unfoldable pub separators : List ℕ → List ℕ
separators [] = []
separators (x ∷ xs) = ltb x 0x30 then x ∷ separators xs else separators xs

-- How many line feeds there are, among bytes or characters.
unfoldable pub line_feeds : List ℕ → ℕ
line_feeds [] = 0
line_feeds (x ∷ xs) = eqb x 0x0A then suc (line_feeds xs) else line_feeds xs

-- Document 01, "What the reader covers": a scalar is a number 0 to 0x10FFFF outside 0xD800 to 0xDFFF.
abbrev pub is_scalar : ℕ → Bool
is_scalar c = leb c 0x10FFFF && not (within 0xD800 c 0xDFFF)

abbrev pub scalars : List ℕ → Bool
scalars cs = every is_scalar cs

-- "Tables the caller lends": a cell that is not a scalar of at least 0x80 counts as unmapped.
abbrev pub mapped : ℕ → Bool
mapped c = leb 0x80 c && is_scalar c
