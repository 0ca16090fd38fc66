-- The theorems of specs/Statements.antt. Assumes nothing.
use mathlib.Core.Path.{◌≡◌, refl, sym, ap, ◌∙◌, subst}
use mathlib.Core.Logic.{◌↔◌}
use mathlib.Core.Bool.{Bool, true, false}
use mathlib.Core.List.{List, [], ◌∷◌}
use Prim.Native.Nat.{ℕ, ◌+◌}
use native.Mathlib.Omega.{arith}
use native.Mathlib.Nat.{zero-add}
use lib.Dec.{lit≤}
use lib.ListN.{length, length-append}
use Rattle.standard.specs.Base.{line_feeds}
use Rattle.standard.specs.Encodings.{Tables}
use Rattle.standard.specs.Items.{Item, broken, before, widths, reach}
use Rattle.standard.specs.Choice.{Spot, everything_from, read_from, end_from}
use Rattle.standard.proofs.Items.{widths_append}
use Rattle.standard.proofs.Stages.{none_rest, parsing, ended_from}
use Rattle.decoder.specs.Record.{new_spot}
use Rattle.decoder.specs.Calls.{open_refusal}
use Rattle.decoder.specs.declared.Decoder.{Decoder}
use Rattle.demands.specs.Histories.{History, start}
use Rattle.demands.specs.Statements.{cutting, reports, Account, account}
use Rattle.demands.specs.Statements.{Piece as Feed, joined as joined_feeds, Accepts as AcceptsFeeds}
use Rattle.demands.specs.Whole.{dealt, whole_account}
use Rattle.demands.proofs.Cutting.{cut_is_whole}
use Rattle.demands.proofs.Steps.{opened_is}
use Rattle.replacements_spec.specs.Replaced.{Replaced, replaced, cells}
use Rattle.replacements_spec.specs.Statements.{Piece, joined, told_by, Accepts, items_of, replaced_in, Tells}
use Rattle.replacements_spec.proofs.Spans.{sound_none, broken_first, all_wide}
use Rattle.replacements_spec.proofs.Shares.{owned, rising}
use Rattle.replacements_spec.proofs.Telling.{told_from}

-- the widths of a whole input's items are its bytes
pub whole_wide : (t : Tables) (e : ℕ) (p : Spot) (xs : List ℕ) → widths (everything_from t e p xs) ≡ length xs
unfolding everything_from
whole_wide t e p xs =
    let r = read_from t e p xs in
    let R = parsing t e p xs in
    widths_append r.items (end_from t e r.spot r.rest) ∙
    rw (R.wide, (ended_from t e r.spot r.rest R.waits).wide) (sym (ap length R.split ∙ length-append R.used r.rest))

-- the empty list is no other
no_cons : {A : Type 0} {x : A} {xs : List A} → ◌≡◌ {A = List A} [] (x ∷ xs) → ⊥
no_cons h = let z : ◌≡◌ {A = ℕ} 0 1 = cc in omega arith

first_place : List Replaced → ℕ
first_place [] = 0
first_place (r ∷ rs) = r.place

module _ (t : Tables) (e rule : ℕ) (o : open_refusal e 0 rule ≡ 0) where
  cuts : (ps : List Piece) (room spans : List ℕ) → Accepts t (start e 0 rule).decoder ps room spans →
      told_by t (start e 0 rule).decoder ps room spans ≡ cells (replaced_in t e rule (joined ps))
  cuts ps room spans a =
      let k = ap (λ (h : History). h.decoder) (opened_is e 0 rule o) in
      ap (λ (d : Decoder). told_by t d ps room spans) k ∙
      told_from e t ps room spans 0 0 (new_spot e rule) [] (lit≤ tt) (none_rest e (new_spot e rule))
      (subst (λ (d : Decoder). Accepts t d ps room spans) k a)

  -- both modes open
  refusing_opens : open_refusal e 1 rule ≡ 0
  unfolding open_refusal
  refusing_opens = o

  module _ (ps : List Feed) (last : List ℕ) (a : AcceptsFeeds t (start e 1 rule) ps last) where
    abbrev is : List Item
    is = items_of t e rule (joined_feeds ps)

    -- what refusing mode reports, by the items
    reported : reports (start e 1 rule) (cutting t ps last) ≡ (dealt e 1 0 is []).reports
    unfolding account whole_account
    reported = ap (λ (a : Account). a.reports) (cut_is_whole t e 1 rule refusing_opens ps last a)

    sound_reports : broken is ≡ false → (dealt e 1 0 is []).reports ≡ []
    unfolding dealt
    sound_reports h = rw h

    broken_reports : broken is ≡ true →
        (dealt e 1 0 is []).reports ≡ record { handed = length (before is); place = reach is; line = 1 + line_feeds (before is) } ∷ []
    unfolding dealt
    broken_reports h = rw (h, zero-add (reach is))

    none : (b : Bool) → broken is ≡ b → (replaced 0 is ≡ []) ↔ (reports (start e 1 rule) (cutting t ps last) ≡ [])
    none true h =
        let f = broken_first 0 is h in
        let q = reported ∙ broken_reports h in
        (λ r. absurd (no_cons (sym r ∙ f.2)), λ r. absurd (no_cons (sym r ∙ q)))
    none false h = (λ r. reported ∙ sound_reports h, λ r. sound_none 0 is h)

    first : (b : Bool) → broken is ≡ b → (r : Replaced) (rs : List Replaced) → replaced 0 is ≡ r ∷ rs →
        (handed : ℕ) × (line : ℕ) ×
        (reports (start e 1 rule) (cutting t ps last) ≡ record { handed = handed; place = r.place; line = line } ∷ [])
    unfolding first_place
    first true h r rs q =
        let f = broken_first 0 is h in
        let same : r.place ≡ reach is = ap (λ (l : List Replaced). first_place l) (sym q ∙ f.2) ∙ f.3 ∙ zero-add (reach is) in
        (length (before is), 1 + line_feeds (before is), rw same (reported ∙ broken_reports h))
    first false h r rs q = absurd (no_cons (sym (sound_none 0 is h) ∙ q))

  pub tells : Tells t e rule
  tells = record {
    any_cutting = cuts;
    each_byte = λ xs i h. owned i (items_of t e rule xs) (omega (arith, whole_wide t e (new_spot e rule) xs));
    rising = λ xs. rising 0 (length xs) (items_of t e rule xs) (all_wide t e (new_spot e rule) xs) (omega (arith, whole_wide t e (new_spot e rule) xs));
    none_right = λ ps last a. none ps last a (broken (is ps last a)) refl;
    first_place = λ ps last a. first ps last a (broken (is ps last a)) refl;
  }
