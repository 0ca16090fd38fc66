-- The feed loop: the bytes held and then the chunk, and what one turn does. Assumes nothing.
use mathlib.Core.Path.{◌≡◌, refl, sym, ap, ◌∙◌, subst}
use mathlib.Core.Bool.{true, false, ◌&&◌}
use mathlib.Core.List.{List, [], ◌∷◌, ◌++◌}
use Prim.Native.Nat.{ℕ, ◌+◌, ◌-◌, ◌≤◌, ◌<◌}
use native.Mathlib.Omega.{arith}
use native.Mathlib.Nat.{add-zero}
use lib.Dec.{T, eqb}
use lib.ListN.{length, drop, get_or, get_or-append, length-append, length-drop}
use lib.Seq.{length-take-le, get_or-take, get_or-drop, get_or-append-add, drop-drop, drop_at}
use borrow.Author.Tests.{eqb-true}
use Rattle.standard.specs.Base.{line_feeds}
use Rattle.standard.specs.Encodings.{family, lent}
use Rattle.standard.specs.Sequence.{Shift, Out, text, error, Next, more, shift}
use Rattle.standard.specs.Next.{next}
use Rattle.standard.specs.Decode.{Read, put, decode, given, widths}
use Rattle.standard.specs.Choice.{spot, Parsed, lift}
use Rattle.standard.proofs.Tests.{and_left, and_right}
use Rattle.standard.proofs.LineFeeds.{line_feeds-length}
use Rattle.standard.proofs.Laws.{Laws, Law}
use Rattle.standard.proofs.FamilyLaws.{keeps, next_laws}
use Rattle.standard.proofs.Walk.{at_item, at_more, nothing, decode_more, decode_item}
use Rattle.std.specs.Int.{from_bool}
use Rattle.std.specs.Prelude.{Ok, Err}
use Rattle.sequences.specs.Code.{out_of, shift_of, item_of, is_error}
use Rattle.sequences.proofs.Flags.{flag_kept}
use Rattle.sequences.specs.declared.Sequence.{Sequence}
use Rattle.runs.specs.Run.{patch, puts, Runs}
use Rattle.line_feeds.specs.Parts.{part}
use Rattle.runs.proofs.Patches.{patch_length}
use Rattle.runs.proofs.Running.{ran_widths}
use Rattle.runs.proofs.Counting.{runs_part, runs_fewer}
use Rattle.reading.specs.Reading.{bytes_of, bit, leaves, ReadOutcome, past}
use Rattle.reading.specs.declared.Held.{Held}
use Rattle.reading.specs.declared.Left.{Left}
use Rattle.reading.specs.declared.Stop.TheVariants.{Report}
use Rattle.reading.proofs.Handing.{emit, emit_start, emit_stop, emit_report, emit_put, emit_puts}

-- the bytes held and then the chunk
module _ (held : Held) (chunk : List ℕ) (h : held.count ≤ 3) where
  pub held_length : length (bytes_of held) ≡ held.count
  held_length = length-take-le held.count (held.first ∷ held.second ∷ held.third ∷ []) h

  pub byte_held : (i : ℕ) → i < held.count → get_or (bytes_of held ++ chunk) i 0 ≡ get_or (held.first ∷ held.second ∷ held.third ∷ []) i 0
  byte_held i g =
      get_or-append (bytes_of held) chunk 0 i (omega (arith, held_length)) ∙
      get_or-take held.count (held.first ∷ held.second ∷ held.third ∷ []) i 0 g

  pub byte_chunk : (i : ℕ) → held.count ≤ i → get_or (bytes_of held ++ chunk) i 0 ≡ get_or chunk (i - held.count) 0
  byte_chunk i g =
      let e : i ≡ length (bytes_of held) + (i - held.count) = omega (arith, held_length) in
      ap (λ (k : ℕ). get_or (bytes_of held ++ chunk) k 0) e ∙ get_or-append-add (bytes_of held) chunk (i - held.count) 0

  pub all_count : length (bytes_of held ++ chunk) ≡ held.count + length chunk
  all_count = length-append (bytes_of held) chunk ∙ ap (λ (k : ℕ). k + length chunk) held_length

  pub left_count : (at : ℕ) → length (drop at (bytes_of held ++ chunk)) ≡ held.count + length chunk - at
  left_count at = length-drop at (bytes_of held ++ chunk) ∙ ap (λ (k : ℕ). k - at) all_count

pub third_is : (a b c i : ℕ) → i < 3 → (i ≡ 0 → ⊥) → (i ≡ 1 → ⊥) → get_or (a ∷ b ∷ c ∷ []) i 0 ≡ c
third_is a b c i h g k = let e : i ≡ 2 = omega arith in rw e

-- How the loop was called.
pub record Args : Type 0 where
  pub encoding : ℕ
  pub mode : ℕ
  pub stage : ℕ
  pub held : Held
  pub chunk : List ℕ
  pub first : List ℕ
  pub second : List ℕ
  pub mark : ℕ
  pub state : ℕ
  pub flag : ℕ

-- the sequence at a front, the bytes held and then the chunk, how many they are, and what is to be left
abbrev pub next_in : Args → Shift → List ℕ → Next
next_in a = next (lent a.first a.second) (family a.encoding)

abbrev pub bytes_in : Args → List ℕ
bytes_in a = bytes_of a.held ++ a.chunk

abbrev pub count_in : Args → ℕ
count_in a = a.held.count + length a.chunk

abbrev pub wanted : Args → List ℕ → ReadOutcome
wanted a room =
    past a.encoding a.mode a.stage a.state a.flag a.held a.mark (lent a.first a.second) a.chunk room

-- what is still read from a shift and a place on
abbrev pub read_in : Args → Shift → ℕ → Parsed
read_in a s at = lift a.stage (decode (next_in a) s (drop at (bytes_in a)))

-- the laws of the encoding that reads
laws : (a : Args) → Laws (keeps (family a.encoding)) (next_in a)
laws a = next_laws (lent a.first a.second) (family a.encoding)

-- What holds at the loop's head: what is wanted is what is still to be handed out, from here on.
pub record Running (a : Args) (room₀ room : List ℕ) (at state flag w l : ℕ) : Type 0 where
  pub few : a.held.count ≤ 3
  pub short : length a.chunk ≤ 65536
  pub place : at ≤ count_in a
  pub space : count_in a - at + w ≤ length room
  pub size : length room ≡ length room₀
  pub fewer : l ≤ w
  pub outcome : wanted a room₀ ≡ emit a.mode (read_in a (shift state (eqb flag 1)) at) at l w room

pub start_running : (a : Args) (room : List ℕ) → a.held.count ≤ 3 → length a.chunk ≤ 65536 →
    length a.chunk + a.held.count ≤ length room → a.mark ≤ count_in a → Running a room room a.mark a.state a.flag 0 0
start_running a room h l r k = record {
  few = h;
  short = l;
  place = omega arith;
  space = omega arith;
  size = refl;
  fewer = omega arith;
  outcome = emit_start a.mode a.mark (read_in a (shift a.state (eqb a.flag 1)) a.mark) room;
}

-- at most three bytes behind a place, as bytes held
pub leaves_is : (held : Held) (chunk : List ℕ) (at stage state flag w l : ℕ) → held.count ≤ 3 →
    (kept have b0 b1 b2 : ℕ) → kept ≡ bit (eqb flag 1) → have ≡ held.count + length chunk - at →
    b0 ≡ get_or (bytes_of held ++ chunk) at 0 → b1 ≡ get_or (bytes_of held ++ chunk) (at + 1) 0 → b2 ≡ get_or (bytes_of held ++ chunk) (at + 2) 0 →
    ◌≡◌ {A = Left}
    (record {
      written = w;
      lines = l;
      stage = stage;
      state = state;
      flag = kept;
      held = record { count = have; first = b0; second = b1; third = b2 };
    })
    (leaves w l (spot stage (shift state (eqb flag 1))) (drop at (bytes_of held ++ chunk)))
leaves_is held chunk at stage state flag w l h kept have b0 b1 b2 k c p0 p1 p2 =
    let xs = bytes_of held ++ chunk in
    let n : have ≡ length (drop at xs) = c ∙ sym (left_count held chunk h at) in
    let f0 = p0 ∙ ap (λ (k : ℕ). get_or xs k 0) (sym (add-zero at)) ∙ sym (get_or-drop at xs 0 0) in
    let f1 = p1 ∙ sym (get_or-drop at xs 1 0) in
    let f2 = p2 ∙ sym (get_or-drop at xs 2 0) in
    λ i. record {
      written = w;
      lines = l;
      stage = stage;
      state = state;
      flag = k i;
      held = record { count = n i; first = f0 i; second = f1 i; third = f2 i };
    }

-- One turn, with what was found at the place.
module _ {a : Args} {room₀ room : List ℕ} {at state flag w l : ℕ} (R : Running a room₀ room at state flag w l) where
  abbrev s : Shift
  s = shift state (eqb flag 1)

  abbrev left_over : List ℕ
  left_over = drop at (bytes_in a)

  left : length left_over ≡ count_in a - at
  left = left_count a.held a.chunk R.few at

  -- no whole sequence
  module _ (waits : next_in a s left_over ≡ more) where
    pub turn_few : count_in a - at ≤ 3
    turn_few = omega (arith, left, (at_more (keeps (family a.encoding)) (next_in a) (laws a) s left_over waits).0)

    pub turn_more : wanted a room₀ ≡ record { left = Ok (leaves w l (spot a.stage s) left_over); room = room }
    turn_more = R.outcome ∙ rw (decode_more (keeps (family a.encoding)) (next_in a) (laws a) s left_over waits)
        (emit_stop a.mode (spot a.stage s) left_over at l w room)

  -- a sequence
  module _ (q : Sequence) (here : item_of q ≡ next_in a s left_over) where
    law : Law (keeps (family a.encoding)) left_over (item_of q) (next_in a s (left_over ++ []))
    law = at_item (keeps (family a.encoding)) (next_in a) (laws a) s left_over (sym here) []

    pub turn_width : (1 ≤ q.width) × (q.width ≤ count_in a - at)
    turn_width = (law.1, omega (arith, left, law.2))

    pub turn_space : w + length (given (out_of q.out)) ≤ length room
    turn_space = omega (arith, left, law.2, law.3, R.space)

    read : decode (next_in a) s left_over ≡
        put q.width (out_of q.out) (decode (next_in a) (shift_of q.shift) (drop q.width left_over))
    read = decode_item (keeps (family a.encoding)) (next_in a) (laws a) s left_over (sym here)

    pub turn_report : a.mode ≡ 1 → out_of q.out ≡ error → wanted a room₀ ≡ record { left = Err (Report w l at); room = room }
    turn_report m k = R.outcome ∙ rw (read, k) (emit_report a.mode q.width _ at l w room m)

    -- the sum of line feeds stays below that of scalars
    pub turn_fewer : l + line_feeds (given (out_of q.out)) ≤ w + length (given (out_of q.out))
    turn_fewer = omega (arith, R.fewer, line_feeds-length (given (out_of q.out)))

    -- the place after it stays small
    pub turn_at : at + q.width ≤ 65539
    turn_at = omega (arith, R.few, R.short, R.place, turn_width.1)

    pub turn_on : (byte : ℕ) → byte ≡ from_bool q.shift.flag → (a.mode ≡ 1 → out_of q.out ≡ error → ⊥) →
        Running a room₀ (patch w (given (out_of q.out)) room) (at + q.width) q.shift.state byte
        (w + length (given (out_of q.out))) (l + line_feeds (given (out_of q.out)))
    turn_on byte e k = record {
      few = R.few;
      short = R.short;
      place = omega (arith, turn_width.1, R.place);
      space = omega (arith, patch_length room w (given (out_of q.out)) turn_space, law.3, turn_width.1, R.space, R.place);
      size = patch_length room w (given (out_of q.out)) turn_space ∙ R.size;
      fewer = turn_fewer;
      outcome = R.outcome ∙ rw read (emit_put a.mode q.width (out_of q.out) _ at l w room k turn_space ∙
          rw (drop-drop q.width at (bytes_in a), e, flag_kept q.shift.flag) refl);
    }

-- No byte is left.
pub turn_done : {a : Args} {room₀ room : List ℕ} {at state flag w l : ℕ} → Running a room₀ room at state flag w l → count_in a ≤ at →
    wanted a room₀ ≡ record { left = Ok (leaves w l (spot a.stage (shift state (eqb flag 1))) (drop at (bytes_in a))); room = room }
turn_done {a} {room₀} {room} {at} {state} {flag} {w} {l} R h =
    let s = shift state (eqb flag 1) in
    let z : length (drop at (bytes_in a)) ≤ 0 = omega (arith, left_count a.held a.chunk R.few at) in
    let none = nothing (keeps (family a.encoding)) (next_in a) (laws a) s (drop at (bytes_in a)) z in
    R.outcome ∙ rw (decode_more (keeps (family a.encoding)) (next_in a) (laws a) s (drop at (bytes_in a)) none)
    (emit_stop a.mode (spot a.stage s) (drop at (bytes_in a)) at l w room)

-- A list of no numbers; and no byte at all is there.
none_left : (xs : List ℕ) → length xs ≤ 0 → xs ≡ []
none_left [] h = refl
none_left (x ∷ xs) h = absurd (omega arith)

pub turn_none : {a : Args} {room₀ room : List ℕ} {at state flag w l : ℕ} → Running a room₀ room at state flag w l → count_in a ≤ at →
    wanted a room₀ ≡ record { left = Ok (leaves w l (spot a.stage (shift state (eqb flag 1))) []); room = room }
turn_none {a} {room₀} {room} {at} {state} {flag} {w} {l} R h =
    let z : length (drop at (bytes_in a)) ≤ 0 = omega (arith, left_count a.held a.chunk R.few at) in
    turn_done R h ∙ rw (none_left (drop at (bytes_in a)) z)

pub stops_no : (m : ℕ) (o : Out) → eqb m 1 && is_error o ≡ false → m ≡ 1 → o ≡ error → ⊥
stops_no m o h p q = let k : true ≡ false = rw (p, q) at h in subst T k tt

-- an error that ends the reading
pub stops_yes : (m : ℕ) (o : Out) → eqb m 1 && is_error o ≡ true → (m ≡ 1) × (o ≡ error)
stops_yes m o h = (eqb-true m 1 (and_left (eqb m 1) (is_error o) h), told o (and_right (eqb m 1) (is_error o) h))
  where
    told : (o : Out) → is_error o ≡ true → o ≡ error
    told (text cs) k = absurd (subst T (sym k) tt)
    told error k = refl

-- From a place of the chunk to a place of the bytes held and then the chunk.
module _ (held : Held) (chunk : List ℕ) (few : held.count ≤ 3) where
  in_chunk : (k : ℕ) → drop (held.count + k) (bytes_of held ++ chunk) ≡ drop k chunk
  in_chunk k = sym (drop-drop k held.count (bytes_of held ++ chunk)) ∙
      ap (drop k) (drop_at (bytes_of held) chunk held.count (held_length held chunk few))

  pub held_runs : {f : Shift → List ℕ → Next} {m at k w w' : ℕ} {s s' : Shift} {room room' : List ℕ} → held.count ≤ at →
      Runs f m chunk (at - held.count) k s s' w w' room room' → Runs f m (bytes_of held ++ chunk) at (held.count + k) s s' w w' room room'
  held_runs {f} {m} {at} {k} {w} {w'} {s} {s'} {room} {room'} h r =
      let n = all_count held chunk few in
      let z : held.count + (at - held.count) ≡ at = omega arith in
      let from : drop at (bytes_of held ++ chunk) ≡ drop (at - held.count) chunk =
      ap (λ (n : ℕ). drop n (bytes_of held ++ chunk)) (sym z) ∙ in_chunk (at - held.count) in
      record {
        ahead = omega (arith, r.ahead);
        inside = λ l. let i = r.inside (omega (arith, n)) in omega (arith, n);
        space = omega (arith, n, r.space, r.ahead);
        size = r.size;
        ran = rw (from, in_chunk k) r.ran;
      }

-- A run with k line feeds carries what holds at the loop's head.
pub carried : {a : Args} {room₀ room room' : List ℕ} {at at' state state' flag flag' w w' l k : ℕ} →
    Running a room₀ room at state flag w l →
    Runs (next_in a) a.mode (bytes_in a) at at' (shift state (eqb flag 1)) (shift state' (eqb flag' 1)) w w' room room' →
    k ≡ line_feeds (part room' w (w' - w)) → Running a room₀ room' at' state' flag' w' (l + k)
carried {a} {room₀} {room} {room'} {at} {at'} {state} {state'} {flag} {flag'} {w} {w'} {l} {k} R r e =
    let n = all_count a.held a.chunk R.few in
    let to : at' ≤ count_in a = let i = r.inside (omega (arith, n, R.place)) in omega (arith, n) in
    let wide : at + widths r.ran.items ≡ at' =
    omega (
      arith,
      ran_widths (lent a.first a.second) (family a.encoding) a.mode r.ran,
      left_count a.held a.chunk R.few at,
      left_count a.held a.chunk R.few at',
      r.ahead,
      to,
    ) in
    let rest = decode (next_in a) (shift state' (eqb flag' 1)) (drop at' (bytes_in a)) in
    let on : emit a.mode (lift a.stage (puts r.ran.items rest)) at l w room ≡
    emit a.mode (lift a.stage rest) at' (l + k) w' room' =
    emit_puts a.mode a.stage r.ran.items rest at l w room r.ran.sound (omega (arith, r.ran.count, r.space, n, R.space)) ∙
    rw (r.ran.count, r.ran.wrote, wide, e, runs_part r) refl in
    record {
      few = R.few;
      short = R.short;
      place = to;
      space = omega (arith, r.space, r.size, n, R.space);
      size = r.size ∙ R.size;
      fewer = runs_fewer r e R.fewer;
      outcome = R.outcome ∙ ap (λ (x : Read). emit a.mode (lift a.stage x) at l w room) r.ran.read ∙ on;
    }
