-- The loops over the scalars: what is counted, what is written, and what is left. Assumes nothing.
use mathlib.Core.Path.{◌≡◌, refl, sym, ap, ◌∙◌}
use mathlib.Core.Bool.{Bool, true, false, not, ◌&&◌, and-true, and-false}
use mathlib.Core.List.{List, [], ◌∷◌, ◌++◌, append_assoc}
use mathlib.Core.Option.{Option, some, none}
use Rattle.std.specs.Prelude.{Some, None}
use Prim.Native.Nat.{ℕ, zero, suc, ◌+◌, ◌*◌, ◌≤◌, ◌<◌}
use native.Mathlib.Numerals.{add-one}
use native.Mathlib.Omega.{arith}
use mir.Val.{bool_byte}
use lib.Dec.{leb, eqb}
use lib.ListN.{length, take, drop, get_or, length-append, drop_of_length-le}
use lib.Seq.{sets, sets-eq, length-sets, length-take-le, take_at, drop_at, drop-drop, drop-cons}
use borrow.Author.Tests.{leb-true, eq-eqb, ne_eqb}
use Rattle.standard.specs.Base.{◌then◌else◌, within, every, is_scalar, scalars}
use Rattle.standard.specs.Machine.{Result, tokens, error_with, reference}
use Rattle.standard.proofs.Tests.{split, and_left, and_right}
use Rattle.standard.specs.Ones.{One, wrote, cannot, answered, plainly}
use Rattle.encoder_spec.specs.Writing.{Fault, Writing, later, onward, ahead, writing}
use Rattle.encoder_spec.specs.Writer.{Outcome, answer_of, write}
use Rattle.encoder.specs.WriterCode.{given, plain, Space, Running, Wrote}
use Rattle.encoder.proofs.Rooms.{sets_append}
use Rattle.encoder_spec.specs.declared.Written.{Written}

-- what holds of every element holds at each place
every_at : (p : ℕ → Bool) (xs : List ℕ) (i : ℕ) → every p xs ≡ true → i < length xs → p (get_or xs i 0) ≡ true
unfolding every
every_at p [] i h g = absurd (omega arith)
every_at p (x ∷ xs) zero h g = and_left (p x) (every p xs) h
every_at p (x ∷ xs) (suc i) h g = every_at p xs i (and_right (p x) (every p xs) h) (omega arith)

pub scalar_at : (cs : List ℕ) (i : ℕ) → scalars cs ≡ true → i < length cs → get_or cs i 0 ≤ 0x10FFFF
scalar_at cs i h g = leb-true (get_or cs i 0) 0x10FFFF (and_left (leb (get_or cs i 0) 0x10FFFF) (not (within 0xD800 (get_or cs i 0) 0xDFFF)) (every_at is_scalar cs i h g))

-- Writing that stops after some bytes: all are written, or a scalar is unwritable.
abbrev pub stopped : List ℕ → ℕ → Option Fault → Writing
stopped es s u = record { bytes = es; state = s; unwritable = u }

abbrev fault : ℕ → ℕ → Fault
fault i n = record { index = i; code_point = n }

onward_none : (w : Writing) → onward 0 [] w ≡ w
onward_none w = λ k. record { bytes = w.bytes; state = w.state; unwritable = go w.unwritable k }
  where
    go : (u : Option Fault) → later 0 u ≡ u
    go none = refl
    go (some f) = let z : 0 + f.index ≡ f.index = omega arith in ap (λ (i : ℕ). some (fault i f.code_point)) z

onward_onward : (i : ℕ) (bs us : List ℕ) (w : Writing) → onward i bs (onward 1 us w) ≡ onward (i + 1) (bs ++ us) w
onward_onward i bs us w = λ k. record { bytes = sym (append_assoc bs us w.bytes) k; state = w.state; unwritable = go w.unwritable k }
  where
    go : (u : Option Fault) → later i (later 1 u) ≡ later (i + 1) u
    go none = refl
    go (some f) = let z : i + (1 + f.index) ≡ i + 1 + f.index = omega arith in ap (λ (j : ℕ). some (fault j f.code_point)) z

-- a room after stores: its front, and the rest of it
module _ (room : List ℕ) (o : ℕ) (us : List ℕ) (h : o + length us ≤ length room) where
  whole_length : length (take o room ++ us) ≡ o + length us
  whole_length = length-append (take o room) us ∙ rw (length-take-le o room (omega arith))

  front_of : take (o + length us) (sets room o us) ≡ take o room ++ us
  front_of = rw (sets-eq us room o h) (take_at (take o room ++ us) (drop (o + length us) room) (o + length us) whole_length)

  rest_of : drop (o + length us) (sets room o us) ≡ drop (o + length us) room
  rest_of = rw (sets-eq us room o h) (drop_at (take o room ++ us) (drop (o + length us) room) (o + length us) whole_length)

-- Over any writer of single scalars, in a mode.
module _ (one : ℕ → ℕ → One) (m : ℕ) where
  -- the first scalar: its bytes, a reference, or the end
  module _ (s c : ℕ) (cs : List ℕ) where
    by_one : {o : One} → one s c ≡ o → writing one m s (c ∷ cs) ≡ ahead m o (writing one m o.state cs)
    unfolding writing
    by_one e = ap (λ (o : One). ahead m o (writing one m o.state cs)) e

    pub first_bytes : {us : List ℕ} {t : ℕ} → one s c ≡ wrote us t → writing one m s (c ∷ cs) ≡ onward 1 us (writing one m t cs)
    first_bytes e = by_one e

    pub first_reference : {es : List ℕ} {n t : ℕ} → one s c ≡ cannot es n t → (m ≡ 1 → ⊥) →
        writing one m s (c ∷ cs) ≡ onward 1 (es ++ reference n) (writing one m t cs)
    first_reference e k = by_one e ∙ rw (ne_eqb m 1 k)

    pub first_stop : {es : List ℕ} {n t : ℕ} → one s c ≡ cannot es n t → m ≡ 1 → writing one m s (c ∷ cs) ≡ stopped es t (some (fault 0 n))
    first_stop e h = by_one e ∙ rw (eq-eqb m 1 h)

    -- the bytes in front of an answer are written, whatever it is
    pub first_least : (es : List ℕ) (t : ℕ) (r : Result) → one s c ≡ answered es t r → length es ≤ length (writing one m s (c ∷ cs)).bytes
    first_least es t r e = rw (by_one e) (go r (writing one m (answered es t r).state cs))
      where
        by_mode : (b : Bool) (n : ℕ) (w : Writing) →
            length es ≤ length (b then stopped es t (some (fault 0 n)) else onward 1 (es ++ reference n) w).bytes
        by_mode true n w = omega arith
        by_mode false n w = omega (arith, length-append (es ++ reference n) w.bytes, length-append es (reference n))

        go : (r : Result) (w : Writing) → length es ≤ length (ahead m (answered es t r) w).bytes
        go (tokens us) w = omega (arith, length-append (es ++ us) w.bytes, length-append es us)
        go (error_with n) w = by_mode (eqb m 1) n w
        go Result.finished w = by_mode (eqb m 1) 0 w
        go Result.continue w = by_mode (eqb m 1) 0 w
        go Result.error w = by_mode (eqb m 1) 0 w

  -- The scalar at a place.
  module _ (cs : List ℕ) where
    front : (s i : ℕ) → i < length cs → writing one m s (drop i cs) ≡ writing one m s (get_or cs i 0 ∷ drop (i + 1) cs)
    front s i h = rw (add-one, drop-cons cs i 0 h)

    at_end : (s i : ℕ) → length cs ≤ i → writing one m s (drop i cs) ≡ stopped [] s none
    unfolding writing
    at_end s i h = rw (drop_of_length-le cs h)

    -- these bytes are written of the scalar at i in state s, which leaves state t
    abbrev pub Here : ℕ → ℕ → ℕ → List ℕ → Type 0
    Here s i t us = writing one m s (drop i cs) ≡ onward 1 us (writing one m t (drop (i + 1) cs))

    -- or it is unwritable, and writing stops after these
    abbrev pub Stops : ℕ → ℕ → ℕ → List ℕ → ℕ → Type 0
    Stops s i t es n = writing one m s (drop i cs) ≡ stopped es t (some (fault 0 n))

    module _ (s i : ℕ) (h : i < length cs) where
      pub here_bytes : {us : List ℕ} {t : ℕ} → one s (get_or cs i 0) ≡ wrote us t → Here s i t us
      here_bytes e = front s i h ∙ first_bytes s (get_or cs i 0) (drop (i + 1) cs) e

      pub here_reference : {es : List ℕ} {n t : ℕ} → one s (get_or cs i 0) ≡ cannot es n t → (m ≡ 1 → ⊥) → Here s i t (es ++ reference n)
      here_reference e k = front s i h ∙ first_reference s (get_or cs i 0) (drop (i + 1) cs) e k

      pub here_stop : {es : List ℕ} {n t : ℕ} → one s (get_or cs i 0) ≡ cannot es n t → m ≡ 1 → Stops s i t es n
      here_stop e k = front s i h ∙ first_stop s (get_or cs i 0) (drop (i + 1) cs) e k

      pub here_least : (es : List ℕ) (t : ℕ) (r : Result) → one s (get_or cs i 0) ≡ answered es t r →
          length es ≤ length (writing one m s (drop i cs)).bytes
      here_least es t r e = rw (front s i h) (first_least s (get_or cs i 0) (drop (i + 1) cs) es t r e)

  -- A loop over the scalars, begun in a state.
  module _ (s₀ : ℕ) (cs : List ℕ) where
    -- Counting: n bytes before the scalar at i, in state s.
    pub record Counted (n i s : ℕ) : Type 0 where
      pub bound : n ≤ i * 4294967310
      pub same : n + length (writing one m s (drop i cs)).bytes ≡ length (writing one m s₀ cs).bytes

    pub counted_start : Counted 0 0 s₀
    counted_start = record { bound = omega arith; same = omega arith }

    module _ (n i s : ℕ) (k : Counted n i s) where
      pub counted_stop : {es : List ℕ} {t : ℕ} {u : Option Fault} → writing one m s (drop i cs) ≡ stopped es t u →
          (r : ℕ) → r ≡ length es → n + r ≡ length (writing one m s₀ cs).bytes
      counted_stop e r p = omega (arith, k.same, ap (λ (w : Writing). length w.bytes) e, p)

      -- where nothing stands in front
      pub counted_here : {t : ℕ} {u : Option Fault} → writing one m s (drop i cs) ≡ stopped [] t u → n ≡ length (writing one m s₀ cs).bytes
      counted_here e = omega (arith, counted_stop e 0 refl)

      pub counted_end : length cs ≤ i → n ≡ length (writing one m s₀ cs).bytes
      counted_end h = counted_here (at_end cs s i h)

      pub counted_on : (t : ℕ) (us : List ℕ) → Here cs s i t us → (r : ℕ) → r ≡ length us → r ≤ 4294967310 → Counted (n + r) (i + 1) t
      counted_on t us e r p q = record {
        bound = omega (arith, k.bound);
        same = omega (arith, k.same, ap (λ (w : Writing). length w.bytes) e, length-append us (writing one m t (drop (i + 1) cs)).bytes, p);
      }

      -- bytes in front of others, counted one after the other
      pub counted_both : (t : ℕ) (es us : List ℕ) → Here cs s i t (es ++ us) → (r q : ℕ) → r ≡ length es → q ≡ length us → r + q ≤ 4294967310 →
          Counted (n + r + q) (i + 1) t
      counted_both t es us e r q x y l =
          let z : n + r + q ≡ n + (r + q) = omega arith in
          rw z (counted_on t (es ++ us) e (r + q) (omega (arith, length-append es us, x, y)) l)

    -- Writing: the start, and on from a scalar.
    pub running_start : (room : List ℕ) → Running one m s₀ cs room room 0 0 s₀
    running_start room = record { inside = omega arith; size = refl; same = sym (onward_none (writing one m s₀ cs)); rest = refl }

    module _ (room₀ room : List ℕ) (i o s : ℕ) (k : Running one m s₀ cs room₀ room i o s) where
      -- what is written here stays in the room
      least : Space (writing one m s₀ cs) room₀ → o + length (writing one m s (drop i cs)).bytes ≤ length room
      least l = omega (
        arith,
        l,
        k.size,
        ap (λ (w : Writing). length w.bytes) k.same,
        length-append (take o room) (writing one m s (drop i cs)).bytes,
        length-take-le o room k.inside,
      )

      -- some bytes in front of what is written here
      pub running_front : (es : List ℕ) → length es ≤ length (writing one m s (drop i cs)).bytes → Space (writing one m s₀ cs) room₀ →
          o + length es ≤ length room
      running_front es h l = omega (arith, h, least l)

      -- all is written after these bytes
      done : {es : List ℕ} {t : ℕ} {u : Option Fault} → writing one m s (drop i cs) ≡ stopped es t u → o + length es ≤ length room →
          write (writing one m s₀ cs) room₀ ≡ record { answer = answer_of (o + length es) t (later i u); room = sets room o es }
      done {es} {t} {u} e h =
          let w : writing one m s₀ cs ≡ record { bytes = take o room ++ es; state = t; unwritable = later i u } =
          k.same ∙ ap (onward i (take o room)) e in
          let l : length (take o room ++ es) ≡ o + length es = whole_length room o es h in
          let rest : drop (o + length es) room₀ ≡ drop (o + length es) room =
          sym (drop-drop (length es) o room₀) ∙ ap (drop (length es)) (sym k.rest) ∙ drop-drop (length es) o room in
          ap (λ (w : Writing). write w room₀) w ∙ rw (l, rest, sets-eq es room o h)

      parts : {a : Written} {after : List ℕ} → write (writing one m s₀ cs) room₀ ≡ record { answer = a; room = after } →
          Wrote (writing one m s₀ cs) room₀ a after
      parts e = record { answers = ap (λ (w : Outcome). w.answer) (sym e); leaves = ap (λ (w : Outcome). w.room) (sym e) }

      pub running_end : length cs ≤ i → Wrote (writing one m s₀ cs) room₀ (answer_of o s none) room
      running_end h =
          let z : o + 0 ≡ o = omega arith in
          parts (rw z at (done (at_end cs s i h) (omega (arith, k.inside))))

      pub running_stop : {es : List ℕ} {t n : ℕ} → Stops cs s i t es n → o + length es ≤ length room →
          (r : ℕ) (after : List ℕ) → r ≡ o + length es → after ≡ sets room o es →
          Wrote (writing one m s₀ cs) room₀ (record { written = r; index = i; refusal = 11; state = t }) after
      running_stop e h r after p q = let z : i + 0 ≡ i = omega arith in rw (p, q) (parts (rw z at (done e h)))

      -- where nothing stands in front
      pub running_here : {t n : ℕ} → Stops cs s i t [] n →
          Wrote (writing one m s₀ cs) room₀ (record { written = o; index = i; refusal = 11; state = t }) room
      running_here e = let z : o + 0 ≡ o = omega arith in running_stop e (omega (arith, k.inside)) o room (sym z) refl

      module _ (t : ℕ) (us : List ℕ) (e : Here cs s i t us) (l : Space (writing one m s₀ cs) room₀) where
        onto : writing one m s₀ cs ≡ onward (i + 1) (take o room ++ us) (writing one m t (drop (i + 1) cs))
        onto = k.same ∙ ap (onward i (take o room)) e ∙ onward_onward i (take o room) us (writing one m t (drop (i + 1) cs))

        pub running_room : o + length us ≤ length room
        running_room = omega (
          arith,
          l,
          k.size,
          ap (λ (w : Writing). length w.bytes) onto,
          length-append (take o room ++ us) (writing one m t (drop (i + 1) cs)).bytes,
          length-append (take o room) us,
          length-take-le o room k.inside,
        )

        pub running_on : (r : ℕ) (after : List ℕ) → r ≡ o + length us → after ≡ sets room o us → Running one m s₀ cs room₀ after (i + 1) r t
        running_on r after p q = rw (p, q) (record {
          inside = omega (arith, running_room, length-sets room o us);
          size = length-sets room o us ∙ k.size;
          same = onto ∙ ap (λ (xs : List ℕ). onward (i + 1) xs (writing one m t (drop (i + 1) cs))) (sym (front_of room o us running_room));
          rest =
              rest_of room o us running_room ∙ sym (drop-drop (length us) o room) ∙ ap (drop (length us)) k.rest ∙
              drop-drop (length us) o room₀;
        })

      -- bytes in front of others, written one after the other
      module _ (t : ℕ) (es us : List ℕ) (e : Here cs s i t (es ++ us)) (l : Space (writing one m s₀ cs) room₀) where
        pub running_room_both : (r : ℕ) (after : List ℕ) → r ≡ o + length es → after ≡ sets room o es → r + length us ≤ length after
        running_room_both r after p q =
            omega (arith, running_room t (es ++ us) e l, length-append es us, p, ap length q, length-sets room o es)

        pub running_both : (r : ℕ) (after : List ℕ) → r ≡ o + length es → after ≡ sets room o es →
            (r' : ℕ) (after' : List ℕ) → r' ≡ r + length us → after' ≡ sets after r us → Running one m s₀ cs room₀ after' (i + 1) r' t
        running_both r after p q r' after' p' q' =
            running_on t (es ++ us) e l r' after' (omega (arith, length-append es us, p, p'))
            (q' ∙ rw (p, q) (sym (sets_append room o es us)))

-- An encoder without variables, by what it answers for a scalar.
module _ (encode : ℕ → Result) (c : ℕ) where
  pub told_bytes : {us : List ℕ} → encode c ≡ tokens us → plain encode 0 c ≡ wrote us 0
  told_bytes e = ap (plainly 0) e

  pub told_error : {n : ℕ} → encode c ≡ error_with n → plain encode 0 c ≡ cannot [] n 0
  told_error e = ap (plainly 0) e

  -- by the byte that the code finds, or none
  pub told_byte : (b : ℕ) → given c (Some b) ≡ encode c → plain encode 0 c ≡ wrote (b ∷ []) 0
  told_byte b e = told_bytes (sym e)

  pub told_none : given c None ≡ encode c → plain encode 0 c ≡ cannot [] c 0
  told_none e = told_error (sym e)

-- Are all of them scalars? The others are counted: n before the number at i.
module _ (cs : List ℕ) (n i : ℕ) where
  pub all_end : length cs ≤ i → eqb n 0 && scalars (drop i cs) ≡ scalars cs → eqb n 0 ≡ scalars cs
  unfolding every
  all_end h e = sym (and-true (eqb n 0)) ∙ rw (drop_of_length-le cs h) at e

  pub all_on : i < length cs → (r : ℕ) → r ≡ bool_byte (not (is_scalar (get_or cs i 0))) → eqb (n + r) 0 && scalars (drop (i + 1) cs) ≡ eqb n 0 && scalars (drop i cs)
  unfolding every
  all_on h r e = rw (e, add-one, drop-cons cs i 0 h) (split (is_scalar (get_or cs i 0))
      (λ t. let z : n + 0 ≡ n = omega arith in rw (t, z))
      (λ t. rw (t, ne_eqb (n + 1) 0 (λ z. omega arith), and-false (eqb n 0))))

-- a test counts for one at most
pub one_more : (b : Bool) (r : ℕ) → r ≡ bool_byte b → r ≤ 1
one_more true r e = omega (arith, e)
one_more false r e = omega (arith, e)
