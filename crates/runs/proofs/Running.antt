-- A run, sequence by sequence. Assumes nothing.
use mathlib.Core.Path.{◌≡◌, refl, sym, ap, ◌∙◌, subst}
use mathlib.Core.Bool.{false}
use mathlib.Core.List.{List, [], ◌∷◌, ◌++◌, append-nil}
use Prim.Native.Nat.{ℕ, ◌+◌, ◌-◌, ◌≤◌}
use native.Mathlib.Omega.{arith}
use native.Mathlib.Nat.{add-zero}
use lib.ListN.{length, drop, set, length-append, length-drop}
use lib.Seq.{drop-drop}
use Rattle.standard.specs.Encodings.{Family, Tables}
use Rattle.standard.specs.Sequence.{Shift, Out, text, error, Next, item, plain, scalar}
use Rattle.standard.specs.Next.{next}
use Rattle.standard.specs.Decode.{Item, span, Read, put, decode, given, shown, broken, widths}
use Rattle.standard.proofs.FamilyLaws.{keeps, next_laws}
use Rattle.standard.proofs.Walk.{at_item, decode_item}
use Rattle.standard.proofs.Items.{shown_append, broken_append}
use Rattle.standard.proofs.Widths.{all_widths}
use Rattle.runs.specs.Run.{patch, puts, Ran, Runs, Gives, Ready}
use Rattle.runs.proofs.Patches.{patch_sets, patch_none, patch_length, patch_patch}

puts_append : (is js : List Item) (r : Read) → puts (is ++ js) r ≡ puts is (puts js r)
unfolding puts
puts_append [] js r = refl
puts_append (span w o ∷ is) js r = ap (put w o) (puts_append is js r)

puts_one : (w : ℕ) (o : Out) (r : Read) → put w o r ≡ puts (span w o ∷ []) r
unfolding puts
puts_one w o r = refl

shown_one : (k : ℕ) (o : Out) → shown (span k o ∷ []) ≡ given o
unfolding shown
shown_one k (text cs) = append-nil cs
shown_one k error = refl

broken_one : (m k : ℕ) (o : Out) → (m ≡ 1 → o ≡ error → ⊥) → m ≡ 1 → broken (span k o ∷ []) ≡ false
unfolding broken
broken_one m k (text cs) h e = refl
broken_one m k error h e = absurd (h e refl)

module _ (t : Tables) (f : Family) (m : ℕ) where
  -- nothing read
  pub ran_none : (s : Shift) (xs : List ℕ) (w : ℕ) (room : List ℕ) → Ran (next t f) m s s xs xs w w room room
  unfolding puts shown broken
  ran_none s xs w room = record { items = []; read = refl; sound = λ e. refl; count = sym (add-zero w); wrote = patch_none room w }

  -- one sequence
  pub ran_one : (s : Shift) (xs : List ℕ) {k : ℕ} {s' : Shift} (o : Out) → next t f s xs ≡ item k s' o → (m ≡ 1 → o ≡ error → ⊥) → (w : ℕ) (room : List ℕ) →
      Ran (next t f) m s s' xs (drop k xs) w (w + length (given o)) room (patch w (given o) room)
  ran_one s xs {k} {s'} o h n w room = record {
    items = span k o ∷ [];
    read = decode_item (keeps f) (next t f) (next_laws t f) s xs h ∙ puts_one k o (decode (next t f) s' (drop k xs));
    sound = broken_one m k o n;
    count = ap (λ (l : List ℕ). w + length l) (sym (shown_one k o));
    wrote = ap (λ (l : List ℕ). patch w l room) (sym (shown_one k o));
  }

  -- one after another
  pub ran_on : {s s' s'' : Shift} {xs ys zs : List ℕ} {w w' w'' : ℕ} {r r' r'' : List ℕ} → (a : Ran (next t f) m s s' xs ys w w' r r') → Ran (next t f) m s' s'' ys zs w' w'' r' r'' →
      w + length (shown a.items) ≤ length r → Ran (next t f) m s s'' xs zs w w'' r r''
  ran_on {w = w} {r = r} a b h = record {
    items = a.items ++ b.items;
    read = a.read ∙ ap (puts a.items) b.read ∙ sym (puts_append a.items b.items _);
    sound = λ e. broken_append a.items b.items ∙ rw (a.sound e) (b.sound e);
    count = b.count ∙ omega (arith, a.count, ap length (shown_append a.items b.items), length-append (shown a.items) (shown b.items));
    wrote = b.wrote ∙ rw (a.wrote, a.count, shown_append a.items b.items) (patch_patch w (shown a.items) (shown b.items) r h);
  }

-- A run on its way, from a place where it could begin to one where another can.
pub record Going (t : Tables) (f : Family) (m : ℕ) (chunk : List ℕ) (from i : ℕ) (s s' : Shift) (w o : ℕ) (room₀ room : List ℕ) : Type 0 where
  pub runs : Runs (next t f) m chunk from i s s' w o room₀ room
  pub began : Ready chunk from room₀ w
  pub here : Ready chunk i room o

pub runs_none : (t : Tables) (f : Family) {m : ℕ} {chunk : List ℕ} {from : ℕ} {s : Shift} {w : ℕ} {room : List ℕ} → Runs (next t f) m chunk from from s s w w room room
runs_none t f {m} {chunk} {from} {s} {w} {room} =
    record { ahead = omega arith; inside = λ h. h; space = omega arith; size = refl; ran = ran_none t f m s (drop from chunk) w room }

pub going_start : {t : Tables} {f : Family} {m : ℕ} {chunk : List ℕ} {from : ℕ} {s : Shift} {w : ℕ} {room : List ℕ} → Ready chunk from room w → Going t f m chunk from from s s w w room room
going_start {t} {f} h = record { runs = runs_none t f; began = h; here = h }

module _ {t : Tables} {f : Family} {m : ℕ} {chunk : List ℕ} {from i : ℕ} {s s' : Shift} {w o : ℕ} {room₀ room : List ℕ} (G : Going t f m chunk from i s s' w o room₀ room) where
  -- what has been written is in the room
  written : w + length (shown G.runs.ran.items) ≤ length room₀
  written = omega (arith, G.runs.ran.count, G.here.fits, G.runs.size)

  -- another run from there on
  pub going_runs : {j o' : ℕ} {s'' : Shift} {room' : List ℕ} → Runs (next t f) m chunk i j s' s'' o o' room room' → Going t f m chunk from j s s'' w o' room₀ room'
  going_runs R = record {
    runs = record {
      ahead = omega (arith, G.runs.ahead, R.ahead);
      inside = λ z. R.inside G.here.begun;
      space = omega (arith, G.runs.space, R.space);
      size = R.size ∙ G.runs.size;
      ran = ran_on t f m G.runs.ran R.ran written;
    };
    began = G.began;
    here = record { begun = R.inside G.here.begun; short = G.here.short; fits = omega (arith, G.here.fits, R.space, R.size) };
  }

  -- one sequence more
  pub going_item : {k : ℕ} {s'' : Shift} (out : Out) → next t f s' (drop i chunk) ≡ item k s'' out → (m ≡ 1 → out ≡ error → ⊥) →
      Going t f m chunk from (i + k) s s'' w (o + length (given out)) room₀ (patch o (given out) room)
  going_item {k} {s''} out h n =
      let law = at_item (keeps f) (next t f) (next_laws t f) s' (drop i chunk) h [] in
      let left : k ≤ length chunk - i = omega (arith, law.2, length-drop i chunk) in
      let one = ran_one t f m s' (drop i chunk) out h n o room in
      going_runs (record {
        ahead = omega arith;
        inside = λ z. omega (arith, left);
        space = omega (arith, law.3, left);
        size = patch_length room o (given out) (omega (arith, G.here, law.3, left));
        ran = rw (drop-drop k i chunk) at one;
      })

  -- one scalar more
  pub going_one : {k : ℕ} {s'' : Shift} {c : ℕ} → Gives m (next t f s' (drop i chunk)) k s'' c → Going t f m chunk from (i + k) s s'' w (o + 1) room₀ (set room o c)
  going_one {k} {s''} {c} g =
      let law = at_item (keeps f) (next t f) (next_laws t f) s' (drop i chunk) g.is [] in
      let left : 1 ≤ length chunk - i = omega (arith, law.1, law.2, length-drop i chunk) in
      rw (patch_sets room o (c ∷ []) (omega (arith, G.here, left))) (rw g.gives at (going_item g.out g.is g.allowed))

  -- a sequence that gives nothing
  pub going_silent : {k : ℕ} {s'' : Shift} → next t f s' (drop i chunk) ≡ item k s'' (text []) → Going t f m chunk from (i + k) s s'' w o room₀ room
  going_silent {k} {s''} h =
      let g = going_item (text []) h (λ a b. let z : ◌≡◌ {A = ℕ} 0 1 = cc in absurd (omega arith)) in
      subst (λ (x : ℕ). Going t f m chunk from (i + k) s s'' w x room₀ room) (add-zero o)
      (subst (λ (r : List ℕ). Going t f m chunk from (i + k) s s'' w (o + 0) room₀ r) (sym (patch_none room o)) g)

-- a sequence that gives a scalar by its text
pub gives_scalar : (m : ℕ) {a : Next} {k c : ℕ} → a ≡ scalar k c → Gives m a k plain c
gives_scalar m {a} {k} {c} h = record { out = text (c ∷ []); is = h; gives = refl; allowed = λ e q. differs q }
  where
    differs : text (c ∷ []) ≡ error → ⊥
    differs q = let z : ◌≡◌ {A = ℕ} 0 1 = cc in absurd (omega arith)

-- The widths of what a run read are its bytes.
puts_widths : (is : List Item) (r : Read) → widths (puts is r).items ≡ widths is + widths r.items
unfolding puts widths
puts_widths [] r = omega arith
puts_widths (span w o ∷ is) r = rw (puts_widths is r) (omega arith)

puts_rest : (is : List Item) (r : Read) → (puts is r).rest ≡ r.rest
unfolding puts
puts_rest [] r = refl
puts_rest (span w o ∷ is) r = puts_rest is r

pub ran_widths : (t : Tables) (f : Family) (m : ℕ) {s s' : Shift} {xs ys : List ℕ} {w w' : ℕ} {room room' : List ℕ} →
    (a : Ran (next t f) m s s' xs ys w w' room room') → widths a.items + length ys ≡ length xs
ran_widths t f m {s} {s'} {xs} {ys} a =
    let r = decode (next t f) s' ys in
    omega (
      arith,
      all_widths.so_far t f s xs,
      all_widths.so_far t f s' ys,
      ap (λ (r : Read). widths r.items) a.read,
      puts_widths a.items r,
      ap (λ (r : Read). length r.rest) a.read,
      ap length (puts_rest a.items r),
    )
