-- Before the first error there are no more line feeds than bytes, and the error has a byte of its own: so place and line of an error fit
-- where the bytes taken fit. Assumes nothing.
use mathlib.Core.Path.{◌≡◌, refl, sym, ap, ◌∙◌, subst}
use mathlib.Core.Bool.{Bool, true, false, ◌||◌}
use mathlib.Core.List.{List, [], ◌∷◌, ◌++◌}
use Prim.Native.Nat.{ℕ, ◌+◌, ◌≤◌}
use native.Mathlib.Omega.{arith}
use lib.Dec.{T, lit≤}
use lib.ListN.{length}
use Rattle.standard.specs.Base.{line_feeds}
use Rattle.standard.specs.Encodings.{Tables, Family}
use Rattle.standard.specs.Sequence.{Shift, Out, text, error}
use Rattle.standard.specs.Next.{next}
use Rattle.standard.specs.Decode.{Item, span, decode, ending, given, shown, broken, before, widths, reach, everything}
use Rattle.standard.proofs.FamilyLaws.{keeps, next_laws}
use Rattle.standard.proofs.Walk.{at_item, walk}
use Rattle.standard.proofs.Items.{broken_append, before_append, before_broken, reach_append, reach_broken, widths_append}
use Rattle.standard.proofs.Reading.{reading, ending_is, no_bytes}
use Rattle.standard.proofs.LineFeeds.{line_feeds-append, line_feeds-length}
use Rattle.standard.proofs.Places.{stuck_end}

pub record Bounded (is : List Item) : Type 0 where
  pub feeds : line_feeds (before is) ≤ reach is
  pub own_byte : broken is ≡ true → reach is + 1 ≤ widths is

none_bounded : Bounded []
unfolding before reach line_feeds broken
none_bounded = record { feeds = lit≤ tt; own_byte = λ b. absurd (subst T (sym b) tt) }

put_bounded : (w : ℕ) (o : Out) (is : List Item) → 1 ≤ w → length (given o) ≤ w → Bounded is → Bounded (span w o ∷ is)
unfolding before reach widths broken line_feeds
put_bounded w (text cs) is h k b = record {
  feeds = rw (line_feeds-append cs (before is)) (omega (arith, line_feeds-length cs, b.feeds));
  own_byte = λ q. omega (arith, b.own_byte q);
}
put_bounded w error is h k b = record { feeds = lit≤ tt; own_byte = λ q. omega arith }

append_bounded : (is js : List Item) → Bounded is → Bounded js → line_feeds (shown is) ≤ widths is → Bounded (is ++ js)
append_bounded is js p q u = go (broken is) refl
  where
    go : (b : Bool) → broken is ≡ b → Bounded (is ++ js)
    go true e = record {
      feeds = rw (before_broken is js e, reach_broken is js e) p.feeds;
      own_byte = λ y. rw (reach_broken is js e) (omega (arith, p.own_byte e, widths_append is js));
    }
    go false e = record {
      feeds = rw (before_append is js e, reach_append is js e, line_feeds-append (shown is) (before js)) (omega (arith, q.feeds, u));
      own_byte = λ y.
          let c : broken js ≡ true = sym (ap (λ (b : Bool). b || broken js) e) ∙ sym (broken_append is js) ∙ y in
          rw (reach_append is js e) (omega (arith, q.own_byte c, widths_append is js));
    }

module _ (t : Tables) (f : Family) where
  pub decode_bounded : (s : Shift) (xs : List ℕ) → Bounded (decode (next t f) s xs).items
  decode_bounded = walk (keeps f) (next t f) (next_laws t f) (λ s xs r. Bounded r.items) (λ s xs e. none_bounded)
      (λ s xs w s' o r e ih. let l = at_item (keeps f) (next t f) (next_laws t f) s xs e [] in put_bounded w o r.items l.1 l.3 ih)

  pub ending_bounded : (s : Shift) (xs : List ℕ) → Bounded (ending t f s xs)
  unfolding line_feeds
  ending_bounded s [] = rw (no_bytes t f s) none_bounded
  ending_bounded s (b ∷ xs) =
      let S = stuck_end t f s b xs in
      record { feeds = rw S.silent (omega arith); own_byte = λ q. omega (arith, S.at_once, (ending_is t f s (b ∷ xs)).wide) }

  pub everything_bounded : (s : Shift) (xs : List ℕ) → Bounded (everything t f s xs)
  unfolding everything
  everything_bounded s xs =
      let r = decode (next t f) s xs in
      let R = reading (keeps f) (next t f) (next_laws t f) s xs in
      append_bounded r.items (ending t f r.shift r.rest) (decode_bounded s xs) (ending_bounded r.shift r.rest)
      (omega (arith, line_feeds-length (shown r.items), R.count, R.wide))

-- Place and line of an error, with c bytes and l line feeds before the items, and n bytes in all.
pub record Small (place line n : ℕ) : Type 0 where
  pub place_below : place + 1 ≤ n
  pub line_within : line ≤ n

pub error_small : (is : List Item) → Bounded is → (c l n : ℕ) → l ≤ c → c + widths is ≤ n → broken is ≡ true →
    Small (c + reach is) (1 + (l + line_feeds (before is))) n
error_small is b c l n h k q = record { place_below = omega (arith, b.own_byte q); line_within = omega (arith, b.feeds, b.own_byte q) }
