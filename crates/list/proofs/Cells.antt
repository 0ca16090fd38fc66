-- The room: the cells of a line, and a turn of the writing. Assumes nothing.
use Rattle.std.proofs.Common.{◌≡◌, refl, sym, ap, ◌∙◌, ℕ, ◌+◌, ◌<◌, ◌≤◌, List, [], ◌∷◌, ◌++◌, append_assoc, length, take, drop, arith, length-append, length-take, length-drop}
use borrow.Rule.Slice.PartMut.{put_mid}
use lib.ListN.{take-append-drop}
use lib.Seq.{length-take-le, take_at, drop_at, drop-drop}
use borrow.Author.Tests.{lt-ltb, le-ltb}
use Rattle.list_spec.specs.Lines.{TAB, before, Line}
use Rattle.list_spec.specs.ListCall.{cells_of, kept, cells}
use Rattle.list_spec.proofs.Parts.{before_le}
use Rattle.list_spec.proofs.Turns.{lines_at, lines_end}
use Rattle.list.specs.Walking.{line_with, InText, line_cells, put}

-- where the tab stands, behind the name
pub name_length : (chars name : List ℕ) → name ≡ take (before TAB chars) chars → length name ≡ before TAB chars
name_length chars name e = omega (arith, ap length e, length-take (before TAB chars) chars, before_le TAB chars)

-- the cells of a line of the text
pub cells_are : (text : List ℕ) (n a : ℕ) (chars : List ℕ) → InText text (line_with n a chars) chars →
    line_cells n a chars ≡ cells_of text (line_with n a chars)
unfolding cells_of
cells_are text n a chars s = rw (sym s.are)

-- cells at o, and more of them behind, are all of them
module _ (room : List ℕ) (o : ℕ) (p rest : List ℕ) (h : o + length (p ++ rest) ≤ length room) where
  front_length : length (take o room ++ p) ≡ o + length p
  front_length =
      length-append (take o room) p ∙ ap (λ (i : ℕ). i + length p) (length-take-le o room (omega (arith, length-append p rest)))

  parted : put room o p ≡ (take o room ++ p) ++ drop (o + length p) room
  parted = sym (append_assoc (take o room) p (drop (o + length p) room))

  front : take (o + length p) (put room o p) ≡ take o room ++ p
  front = rw parted (take_at (take o room ++ p) (drop (o + length p) room) (o + length p) front_length)

  back : drop (o + length p + length rest) (put room o p) ≡ drop (o + length (p ++ rest)) room
  back =
      let z : o + length p + length rest ≡ o + length (p ++ rest) = omega (arith, length-append p rest) in
      let d : drop (o + length p) (put room o p) ≡ drop (o + length p) room =
      rw parted (drop_at (take o room ++ p) (drop (o + length p) room) (o + length p) front_length) in
      sym (drop-drop (length rest) (o + length p) (put room o p)) ∙ ap (λ (l : List ℕ). drop (length rest) l) d ∙
      drop-drop (length rest) (o + length p) room ∙ ap (λ (i : ℕ). drop i room) z

  put_put : put (put room o p) (o + length p) rest ≡ put room o (p ++ rest)
  put_put =
      let far = drop (o + length (p ++ rest)) room in
      rw (front, back) (append_assoc (take o room) p (rest ++ far) ∙ ap (λ (l : List ℕ). take o room ++ l) (sym (append_assoc p rest far)))

-- The options before the lines ls stand in the room, up to o; with those of ls it is the room r.
pub record Writes (text room : List ℕ) (ls : List Line) (o : ℕ) (r : List ℕ) : Type 0 where
  pub fits : o + length (cells text (kept ls)) ≤ length room
  pub same : put room o (cells text (kept ls)) ≡ r

module _ (text room : List ℕ) (l : Line) (ls : List Line) (o : ℕ) (r : List ℕ) (w : Writes text room (l ∷ ls) o r) where
  pub writes_empty : l.stop ≤ l.start → Writes text room ls o r
  unfolding kept
  writes_empty h = record { fits = simp (le-ltb l.start l.stop h) at w.fits; same = simp (le-ltb l.start l.stop h) at w.same }

  module _ (h : l.start < l.stop) where
    both : cells text (kept (l ∷ ls)) ≡ cells_of text l ++ cells text (kept ls)
    unfolding kept cells
    both = simp (lt-ltb l.start l.stop h)

    five : length (cells_of text l) ≡ 5
    unfolding cells_of
    five = refl

    sum : length (cells text (kept (l ∷ ls))) ≡ 5 + length (cells text (kept ls))
    sum = omega (arith, ap length both, length-append (cells_of text l) (cells text (kept ls)), five)

    pub writes_fit : o + 5 ≤ length room
    writes_fit = omega (arith, sum, w.fits)

    -- after the cells are written to the part of the room from o on
    pub writes_on : (k : ℕ) (out : List ℕ) → k ≡ 5 → out ≡ cells_of text l → Writes text (put_mid o k room out) ls (o + 5) r
    writes_on k out z d =
        let wide : k ≡ length (cells_of text l) = omega (arith, five) in
        let is : put_mid o k room out ≡ put room o (cells_of text l) = rw (d, drop-drop k o room, wide) in
        let to : o + 5 ≡ o + length (cells_of text l) = omega (arith, five) in
        let long : length (put room o (cells_of text l)) ≡ length room = put_length in
        record {
          fits = omega (arith, ap length is, long, sum, w.fits);
          same = rw (is, to) (put_put room o (cells_of text l) (cells text (kept ls)) (omega (arith, w.fits, ap length both)) ∙
              ap (put room o) (sym both) ∙ w.same);
        }
      where
        put_length : length (put room o (cells_of text l)) ≡ length room
        put_length = simp (length-append, length-drop) (omega (arith, length-take-le o room (omega (arith, writes_fit)), five, writes_fit))

-- no line is left
pub writes_none : (text room : List ℕ) (n a o : ℕ) (r : List ℕ) → length text ≤ a → Writes text room (lines_at text n a) o r → room ≡ r
unfolding kept cells
writes_none text room n a o r h w =
    let e : cells text (kept (lines_at text n a)) ≡ [] = ap (λ (ls : List Line). cells text (kept ls)) (lines_end text n a h) in
    let z : o + 0 ≡ o = omega arith in
    sym (take-append-drop o room) ∙ ap (λ (i : ℕ). take o room ++ drop i room) (sym z) ∙ ap (put room o) (sym e) ∙ w.same
