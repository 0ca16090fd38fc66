-- Reads into the rest of a buffer, one after the other: what they took of a known input stands at its front. Assumes nothing.
use Rattle.std.proofs.Common.{◌≡◌, ℕ, ◌+◌, ◌≤◌, List, ◌++◌, length, take, length-take-le, sym, subst, ap, ◌∙◌, Option}
use Rattle.std.proofs.KnownBytes.{Consumes-trans}
use Rattle.std.specs.Io.KnownBytes.{Consumes}
use Rattle.std.proofs.lemmas.List.{take-append-le}
use Rattle.std.proofs.Math.Seq.{take-append-add}
use borrow.Rule.Slice.PartMut.{put_mid, post_of}

-- the first bytes behind a read into the rest
take_read : (n k m : ℕ) (xs ys : List ℕ) → n ≤ length xs → m ≤ length ys → take (n + m) (put_mid n k xs ys) ≡ take n xs ++ take m ys
take_read n k m xs ys h f =
    let e : n + m ≡ length (take n xs) + m = ap (λ j. j + m) (sym (length-take-le n xs h)) in
    ap (λ j. take j (put_mid n k xs ys)) e ∙ take-append-add (take n xs) (ys ++ post_of n k xs) m ∙
    ap (λ l. take n xs ++ l) (take-append-le m ys (post_of n k xs) f)

module _ (old now new : Option (List ℕ)) (n k : ℕ) (xs ys : List ℕ) (h : n ≤ length xs) (c : Consumes old now (take n xs)) where
  -- a read of m bytes more
  pub read_more : (m : ℕ) → m ≤ length ys → Consumes now new (take m ys) → Consumes old new (take (n + m) (put_mid n k xs ys))
  read_more m f d = subst (Consumes old new) (sym (take_read n k m xs ys h f)) (Consumes-trans old now new (take n xs) (take m ys) c d)
