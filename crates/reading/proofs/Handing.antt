-- What is still to be handed out, from a place on. Assumes nothing.
use mathlib.Core.Path.{◌≡◌, refl, sym, ap, ◌∙◌, subst}
use mathlib.Core.Bool.{Bool, true, false, ◌&&◌, and-false}
use mathlib.Core.List.{List, [], ◌∷◌, ◌++◌, append-nil}
use Prim.Native.Nat.{ℕ, ◌+◌, ◌≤◌}
use native.Mathlib.Omega.{arith}
use native.Mathlib.Nat.{add-zero, zero-add}
use lib.Dec.{T, eqb}
use lib.ListN.{length, take, drop, length-append, take-append-drop}
use borrow.Author.Tests.{ne_eqb, eq-eqb}
use Rattle.std.specs.Prelude.{Result, Ok, Err}
use Rattle.standard.specs.Base.{◌then◌else◌, line_feeds}
use Rattle.standard.specs.Sequence.{Out, text, error, plain}
use Rattle.standard.specs.Decode.{Item, span, Read, given, shown, broken, before, widths, reach}
use Rattle.standard.specs.Choice.{Spot, spot, Parsed, lift, eaten}
use Rattle.standard.proofs.Items.{shown_cons}
use Rattle.standard.proofs.LineFeeds.{line_feeds-append}
use Rattle.runs.specs.Run.{patch, puts}
use Rattle.runs.proofs.Patches.{patch_none, patch_length, patch_patch}
use Rattle.runs.proofs.Counting.{shown_none}
use Rattle.reading.specs.Reading.{leaves, ReadOutcome, reported, wrote, handed, behind}
use Rattle.reading.specs.declared.Left.{Left}
use Rattle.reading.specs.declared.Stop.{Stop}
use Rattle.reading.specs.declared.Stop.TheVariants.{Report}

-- what is answered after w scalars with k line feeds: what is left, and a report
abbrev goes_on : Spot → List ℕ → ℕ → ℕ → Result Left Stop
goes_on p xs w k = Ok (leaves w k p xs)

abbrev reports : ℕ → ℕ → ℕ → Result Left Stop
reports place w k = Err (Report w k place)

-- What is still to be handed out, where `at` bytes are read, and w scalars with l line feeds are written.
abbrev written : (ℕ → ℕ → Result Left Stop) → ℕ → ℕ → List ℕ → List ℕ → ReadOutcome
written left l w cs room = record { left = left (w + length cs) (l + line_feeds cs); room = patch w cs room }

unfoldable pub emit : ℕ → Parsed → ℕ → ℕ → ℕ → List ℕ → ReadOutcome
emit m r at l w room =
    eqb m 1 && broken r.items then written (reports (at + reach r.items)) l w (before r.items) room else
    written (goes_on r.spot r.rest) l w (shown r.items) room

-- from the start, behind a mark of k bytes
pub emit_start : (m k : ℕ) (r : Parsed) (room : List ℕ) → handed m (eaten k r) room ≡ emit m r k 0 0 room
unfolding emit broken before shown reach
emit_start m k r room = go (eqb m 1 && broken r.items)
  where
    same : (left : ℕ → ℕ → Result Left Stop) (cs : List ℕ) →
        ◌≡◌ {A = ReadOutcome} (record { left = left (length cs) (line_feeds cs); room = cs ++ drop (length cs) room }) (written left 0 0 cs room)
    same left cs = rw (zero-add (length cs), zero-add (line_feeds cs))

    go : (b : Bool) →
        (b then reported (k + reach r.items) (before r.items) room else wrote (shown r.items) r.spot r.rest room) ≡
        (b then written (reports (k + reach r.items)) 0 0 (before r.items) room else
        written (goes_on r.spot r.rest) 0 0 (shown r.items) room)
    go true = same (reports (k + reach r.items)) (before r.items)
    go false = same (goes_on r.spot r.rest) (shown r.items)

-- a mark of no bytes
pub no_mark : (m : ℕ) (r : Parsed) (room : List ℕ) → handed m (eaten 0 r) room ≡ handed m r room
unfolding broken before shown reach
no_mark m r room = rw (zero-add (reach r.items))

-- at the end: nothing more is written
pub emit_stop : (m : ℕ) (p : Spot) (xs : List ℕ) (at l w : ℕ) (room : List ℕ) →
    emit m (record { items = []; spot = p; rest = xs }) at l w room ≡ record { left = Ok (leaves w l p xs); room = room }
unfolding emit broken shown line_feeds
emit_stop m p xs at l w room = rw (and-false (eqb m 1), add-zero w, add-zero l, append-nil (take w room), take-append-drop w room)

-- some items, and then what is read behind them
abbrev pub join : List Item → Parsed → Parsed
join is r = record { items = is ++ r.items; spot = r.spot; rest = r.rest }

joins : (g : ℕ) (is : List Item) (r : Read) → lift g (puts is r) ≡ join is (lift g r)
unfolding puts
joins g [] r = refl
joins g (span w o ∷ is) r = ap (join (span w o ∷ [])) (joins g is r)

-- an error in refusing mode: the report
pub emit_report : (m k : ℕ) (r : Parsed) (at l w : ℕ) (room : List ℕ) → m ≡ 1 →
    emit m (join (span k error ∷ []) r) at l w room ≡ record { left = Err (Report w l at); room = room }
unfolding emit broken before reach line_feeds
emit_report m k r at l w room h =
    rw (eq-eqb m 1 h, add-zero w, add-zero l, add-zero at, append-nil (take w room), take-append-drop w room)

-- any other sequence: its scalars are written, and the rest from there on
written_put : (left : ℕ → ℕ → Result Left Stop) (l w : ℕ) (us vs room : List ℕ) → w + length us ≤ length room →
    written left l w (us ++ vs) room ≡ written left (l + line_feeds us) (w + length us) vs (patch w us room)
written_put left l w us vs room h =
    let z : w + length (us ++ vs) ≡ w + length us + length vs = omega (arith, length-append us vs) in
    let y : l + line_feeds (us ++ vs) ≡ l + line_feeds us + line_feeds vs = omega (arith, line_feeds-append us vs) in
    λ i. record { left = left (z i) (y i); room = sym (patch_patch w us vs room h) i }

pub emit_put : (m k : ℕ) (o : Out) (r : Parsed) (at l w : ℕ) (room : List ℕ) →
    (m ≡ 1 → o ≡ error → ⊥) → w + length (given o) ≤ length room →
    emit m (join (span k o ∷ []) r) at l w room ≡
    emit m r (at + k) (l + line_feeds (given o)) (w + length (given o)) (patch w (given o) room)
unfolding emit broken before shown reach
emit_put m k (text cs) r at l w room n h = go (eqb m 1 && broken r.items)
  where
    go : (b : Bool) →
        (b then written (reports (at + (k + reach r.items))) l w (cs ++ before r.items) room else
        written (goes_on r.spot r.rest) l w (cs ++ shown r.items) room) ≡
        (b then written (reports (at + k + reach r.items)) (l + line_feeds cs) (w + length cs) (before r.items) (patch w cs room) else
        written (goes_on r.spot r.rest) (l + line_feeds cs) (w + length cs) (shown r.items) (patch w cs room))
    go true =
        let p : at + (k + reach r.items) ≡ at + k + reach r.items = omega arith in
        rw p (written_put (reports (at + k + reach r.items)) l w cs (before r.items) room h)
    go false = written_put (goes_on r.spot r.rest) l w cs (shown r.items) room h
emit_put m k error r at l w room n h =
    rw (ne_eqb m 1 (λ z. n z refl)) (written_put (goes_on r.spot r.rest) l w (0xFFFD ∷ []) (shown r.items) room h)

sound_cons : (m k : ℕ) (o : Out) (is : List Item) → (m ≡ 1 → broken (span k o ∷ is) ≡ false) →
    (m ≡ 1 → o ≡ error → ⊥) × (m ≡ 1 → broken is ≡ false)
unfolding broken
sound_cons m k (text cs) is h = (λ e q. let z : ◌≡◌ {A = ℕ} 0 1 = cc in absurd (omega arith), h)
sound_cons m k error is h = (λ e q. subst T (h e) tt, λ e. absurd (subst T (h e) tt))

-- the same for some sequences at once
pub emit_join : (m : ℕ) (is : List Item) (r : Parsed) (at l w : ℕ) (room : List ℕ) →
    (m ≡ 1 → broken is ≡ false) → w + length (shown is) ≤ length room →
    emit m (join is r) at l w room ≡ emit m r (at + widths is) (l + line_feeds (shown is)) (w + length (shown is)) (patch w (shown is) room)
unfolding widths line_feeds
emit_join m [] r at l w room n h =
    rw shown_none (λ i. emit m r (sym (add-zero at) i) (sym (add-zero l) i) (sym (add-zero w) i) (patch_none room w i))
emit_join m (span n o ∷ is) r at l w room sound h =
    let k = sound_cons m n o is sound in
    let joined = shown_cons n o is in
    let c : length (shown (span n o ∷ is)) ≡ length (given o) + length (shown is) = ap length joined ∙ length-append (given o) (shown is) in
    let here : w + length (given o) ≤ length room = omega (arith, h, c) in
    let x : at + n + widths is ≡ at + (n + widths is) = omega arith in
    let y : l + line_feeds (given o) + line_feeds (shown is) ≡ l + line_feeds (shown (span n o ∷ is)) =
    omega (arith, ap line_feeds joined, line_feeds-append (given o) (shown is)) in
    let z : w + length (given o) + length (shown is) ≡ w + length (shown (span n o ∷ is)) = omega (arith, c) in
    let p : patch (w + length (given o)) (shown is) (patch w (given o) room) ≡ patch w (shown (span n o ∷ is)) room =
    patch_patch w (given o) (shown is) room here ∙ ap (λ (cs : List ℕ). patch w cs room) (sym joined) in
    emit_put m n o (join is r) at l w room k.0 here ∙
    emit_join m is r (at + n) (l + line_feeds (given o)) (w + length (given o)) (patch w (given o) room) k.1
    (omega (arith, h, c, patch_length room w (given o) here)) ∙
    (λ i. emit m r (x i) (y i) (z i) (p i))

-- as a run reads them
pub emit_puts : (m g : ℕ) (is : List Item) (r : Read) (at l w : ℕ) (room : List ℕ) →
    (m ≡ 1 → broken is ≡ false) → w + length (shown is) ≤ length room →
    emit m (lift g (puts is r)) at l w room ≡
    emit m (lift g r) (at + widths is) (l + line_feeds (shown is)) (w + length (shown is)) (patch w (shown is) room)
emit_puts m g is r at l w room n h = ap (λ (r : Parsed). emit m r at l w room) (joins g is r) ∙ emit_join m is (lift g r) at l w room n h

-- the last items, with nothing behind them
abbrev pub last : List Item → Parsed
last is = record { items = is; spot = spot 0 plain; rest = [] }

pub emit_last : (m at w l : ℕ) (is : List Item) (room : List ℕ) → behind m at w l is room ≡ emit m (last is) at l w room
unfolding emit
emit_last m at w l is room = refl
