-- The promises of specs/Statements.antt, from those of `demands` alone. Assumes nothing.
use mathlib.Core.Path.{◌≡◌, refl, sym, ap, ◌∙◌}
use mathlib.Core.Bool.{Bool, true, false, not}
use mathlib.Core.List.{List, [], ◌∷◌, append-nil}
use mathlib.Core.Option.{Option, some, none}
use Prim.Native.Nat.{ℕ, ◌+◌, ◌≤◌}
use native.Mathlib.Omega.{arith}
use lib.Dec.{ltb}
use lib.ListN.{length}
use borrow.Author.Tests.{ltb-false}
use Rattle.standard.specs.Base.{◌then◌else◌, Bytes, line_feeds}
use Rattle.standard.specs.Encodings.{family, Tables, fits}
use Rattle.standard.specs.Items.{Item, shown, broken, before, reach}
use Rattle.standard.specs.Decode.{everything}
use Rattle.standard.specs.Machine.{fatal, Ran}
use Rattle.standard.specs.Standard.{standard, is_error, drop_mark, standard_place}
use Rattle.standard.specs.Choice.{reader}
use Rattle.standard.proofs.LineFeeds.{mark_line_feeds}
use Rattle.standard.proofs.Sniffing.{all_read}
use Rattle.decoder.specs.Record.{new_shift, new_spot}
use Rattle.decoder.specs.Calls.{open_refusal}
use Rattle.demands.specs.Histories.{start}
use Rattle.demands.specs.Statements.{Account, Piece, joined, cutting, Accepts, Roomy, drops, account_of, standard_account}
use Rattle.demands.specs.Statements.{account, reports}
use Rattle.demands.specs.Whole.{stopped, completed, dealt, whole_account}
use Rattle.demands.proofs.Cutting.{cut_is_whole}
use Rattle.demands.proofs.Theorems.{demand_2, whole_is_standard}
use Rattle.clean.specs.Checking.{check_refusal, clean, faulty, checking}
use Rattle.clean.specs.Statements.{told, told_by, Checks}
use Rattle.clean.specs.declared.Checked.{Checked}

-- What an accepted check has tested.
pub record Accepted (e : ℕ) (t : Tables) (xs : List ℕ) : Type 0 where
  pub opens : open_refusal e 1 0 ≡ 0
  pub fit : fits (family e) t ≡ true
  pub few : length xs ≤ 65536

pub accepted : (e : ℕ) (t : Tables) (xs : List ℕ) → check_refusal e t xs ≡ 0 → Accepted e t xs
unfolding check_refusal open_refusal
accepted e t xs h = go (ltb 39 e) (fits (family e) t) (ltb 65536 (length xs)) refl refl refl h
  where
    go : (a b c : Bool) → ltb 39 e ≡ a → fits (family e) t ≡ b → ltb 65536 (length xs) ≡ c →
        ◌≡◌ {A = ℕ} (a then 2 else not b then 4 else c then 8 else 0) 0 → Accepted e t xs
    go true b c p q r h = absurd (omega arith)
    go false false c p q r h = absurd (omega arith)
    go false true true p q r h = absurd (omega arith)
    go false true false p q r h = record { opens = rw p; fit = q; few = ltb-false 65536 (length xs) r }

-- the answer is what the reports of the whole tell
by_whole : (e : ℕ) (t : Tables) (xs : List ℕ) → check_refusal e t xs ≡ 0 → checking e t xs ≡ told (whole_account t e 1 0 xs).reports
unfolding checking whole_account dealt reader
by_whole e t xs h = rw (h, all_read t e (new_spot e 0) xs refl) (go (broken is))
  where
    is : List Item
    is = everything t (family e) (new_shift e 0) xs

    go : (b : Bool) → (b then faulty (reach is) (1 + line_feeds (before is)) else clean) ≡
        told (b then stopped e 1 (0 + reach is) (before is) else completed e 1 (shown is)).reports
    go true = let z : reach is ≡ 0 + reach is = omega arith in ap (λ (n : ℕ). faulty n (1 + line_feeds (before is))) z
    go false = refl

-- what the account by 000's machine tells, with the mark dropped or not: a mark is no line feed
told_standard : (e : ℕ) (mark : Bool) (place : ℕ) (x : Option Ran) (a : Account) → account_of e 1 mark place x ≡ some a →
    some (told a.reports) ≡ told_by place x
told_standard e mark place none a h = let z : ◌≡◌ {A = ℕ} 0 1 = cc in absurd (omega arith)
told_standard e mark place (some r) a h = ap reported (sym h) ∙ go (is_error r.result) mark
  where
    reported : Option Account → Option Checked
    reported none = none
    reported (some a) = some (told a.reports)

    go : (b m : Bool) →
        let out = m then drop_mark r.output else r.output in
        some (told (b then record { handed = length out; place = place; line = 1 + line_feeds out } ∷ [] else [])) ≡
        some (b then faulty place (1 + line_feeds r.output) else clean)
    go true true = rw (mark_line_feeds r.output)
    go true false = refl
    go false m = refl

pub checks : (e : ℕ) (t : Tables) (xs : List ℕ) → check_refusal e t xs ≡ 0 → Checks e t xs
unfolding account joined Roomy standard_account
checks e t xs h = record { by_calls = calls; one_feed = one; by_standard = machine }
  where
    a : Accepted e t xs
    a = accepted e t xs h

    calls : (ps : List Piece) (last : List ℕ) → joined ps ≡ xs → Accepts t (start e 1 0) ps last →
        checking e t xs ≡ told (reports (start e 1 0) (cutting t ps last))
    calls ps last j p = by_whole e t xs h ∙
        ap (λ (a : Account). told a.reports) (ap (whole_account t e 1 0) (sym j) ∙ sym (cut_is_whole t e 1 0 a.opens ps last p))

    one : (room last : List ℕ) → length xs + 3 ≤ length room → 3 ≤ length last →
        Accepts t (start e 1 0) (record { chunk = xs; room = room } ∷ []) last
    one room last r l = (demand_2 t e 1 0 a.opens).rooms_suffice (record { chunk = xs; room = room } ∷ []) last a.fit
        (rw (append-nil xs) (omega (arith, a.few))) (a.few, r, l)

    machine : Bytes xs → some (checking e t xs) ≡ told_by (standard_place t (family e) xs) (standard t (family e) fatal xs)
    machine b =
        let place = standard_place t (family e) xs in
        let all = standard t (family e) fatal xs in
        let none : 0 + place ≡ place = omega arith in
        ap some (by_whole e t xs h) ∙
        told_standard e (drops e 0) (0 + place) all (whole_account t e 1 0 xs) (whole_is_standard t e 1 0 xs b) ∙
        ap (λ (n : ℕ). told_by n all) none
