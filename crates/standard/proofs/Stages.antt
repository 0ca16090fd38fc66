-- Reading from a spot keeps the laws of reading from a shift: the choice changes nothing behind it. Assumes nothing.
use mathlib.Core.Path.{◌≡◌, refl, sym, ap, ◌∙◌, subst}
use mathlib.Core.Bool.{Bool, true, false}
use mathlib.Core.List.{List, [], ◌∷◌, ◌++◌, append_assoc}
use Prim.Native.Nat.{ℕ, zero, suc, ◌≤◌}
use native.Mathlib.Omega.{arith}
use lib.Dec.{T, eqb, lit≤}
use lib.ListN.{length, take, drop, length-append, take-append-drop}
use lib.Seq.{length-take-le, drop-append-le}
use borrow.Author.Tests.{eqb-true, eqb-false, ne_eqb}
use Rattle.standard.specs.Base.{◌then◌else◌, separators}
use Rattle.standard.specs.Encodings.{Tables, Family, family, no_tables}
use Rattle.standard.specs.Sequence.{Shift, Next, more, item, plain}
use Rattle.standard.specs.Next.{next}
use Rattle.standard.specs.Decode.{Item, decode, ending, shown, widths, everything}
use Rattle.standard.proofs.Laws.{none0, none1, none2, none3}
use Rattle.standard.proofs.FamilyLaws.{keeps, next_laws}
use Rattle.standard.proofs.Walk.{at_more, chunks, decode_more}
use Rattle.standard.proofs.AnyTables.{Place, tables_meet, more_any}
use Rattle.standard.proofs.Items.{shown_append, widths_append}
use Rattle.standard.proofs.Reading.{separators_append, reading, ending_is, empty}
use Rattle.standard.specs.Choice.{Choice, waiting, label, marked, mark2, mark3, mark_ef, choose, reader, mark_width}
use Rattle.standard.specs.Choice.{Spot, spot, Parsed, lift, eaten, chosen, read_from, end_from, everything_from}
use Rattle.standard.specs.Choice.{is_more, is_waiting, rests}

-- What a choice says of the bytes xs, where b is the choice for more bytes.
abbrev Chosen : List ℕ → Choice → Choice → Type 0
Chosen xs waiting b = (length xs ≤ 2) × (separators xs ≡ [])
Chosen xs label b = b ≡ label
Chosen xs (marked w g) b = (b ≡ marked w g) × (w ≤ length xs) × (w ≡ mark_width g) × (2 ≤ g) × (g ≤ 4) × (separators (take w xs) ≡ [])

record Chooses (xs : List ℕ) (a b : Choice) : Type 0 where
  law : Chosen xs a b

byte_is : {n : ℕ} (x : ℕ) → eqb x n ≡ true → 0x30 ≤ n → 0x30 ≤ x
byte_is {n} x e h = omega (arith, eqb-true x n e)

second_law : (a c g : ℕ) → 0x30 ≤ a → 0x30 ≤ c → 2 ≡ mark_width g → 2 ≤ g → g ≤ 4 → (xs ys : List ℕ) →
    Chooses (a ∷ xs) (mark2 c g xs) (mark2 c g (xs ++ ys))
second_law a c g h k p q r [] ys = record { law = (lit≤ tt, none1 h) }
second_law a c g h k p q r (b ∷ xs) ys = go (eqb b c) refl
  where
    go : (t : Bool) → eqb b c ≡ t → Chooses (a ∷ b ∷ xs) (t then marked 2 g else label) (t then marked 2 g else label)
    go true e = record { law = (refl, omega arith, p, q, r, none2 h (byte_is b e k)) }
    go false e = record { law = refl }

third_law : (a b : ℕ) → 0x30 ≤ a → 0x30 ≤ b → (xs ys : List ℕ) → Chooses (a ∷ b ∷ xs) (mark3 xs) (mark3 (xs ++ ys))
third_law a b h k [] ys = record { law = (lit≤ tt, none2 h k) }
third_law a b h k (c ∷ xs) ys = go (eqb c 0xBF) refl
  where
    go : (t : Bool) → eqb c 0xBF ≡ t → Chooses (a ∷ b ∷ c ∷ xs) (t then marked 3 2 else label) (t then marked 3 2 else label)
    go true e = record { law = (refl, omega arith, refl, lit≤ tt, lit≤ tt, none3 h k (byte_is c e (lit≤ tt))) }
    go false e = record { law = refl }

ef_law : (a : ℕ) → 0x30 ≤ a → (xs ys : List ℕ) → Chooses (a ∷ xs) (mark_ef xs) (mark_ef (xs ++ ys))
ef_law a h [] ys = record { law = (lit≤ tt, none1 h) }
ef_law a h (b ∷ xs) ys = go (eqb b 0xBB) refl
  where
    go : (t : Bool) → eqb b 0xBB ≡ t → Chooses (a ∷ b ∷ xs) (t then mark3 xs else label) (t then mark3 (xs ++ ys) else label)
    go true e = third_law a b h (byte_is b e (lit≤ tt)) xs ys
    go false e = record { law = refl }

choose_law : (xs ys : List ℕ) → Chooses xs (choose xs) (choose (xs ++ ys))
unfolding choose
choose_law [] ys = record { law = (lit≤ tt, none0) }
choose_law (a ∷ xs) ys = go (eqb a 0xEF) (eqb a 0xFE) (eqb a 0xFF) refl refl refl
  where
    go : (x y z : Bool) → eqb a 0xEF ≡ x → eqb a 0xFE ≡ y → eqb a 0xFF ≡ z →
        Chooses (a ∷ xs) (x then mark_ef xs else y then mark2 0xFF 3 xs else z then mark2 0xFE 4 xs else label)
        (x then mark_ef (xs ++ ys) else y then mark2 0xFF 3 (xs ++ ys) else z then mark2 0xFE 4 (xs ++ ys) else label)
    go true y z p q r = ef_law a (byte_is a p (lit≤ tt)) xs ys
    go false true z p q r = second_law a 0xFF 3 (byte_is a q (lit≤ tt)) (lit≤ tt) refl (lit≤ tt) (lit≤ tt) xs ys
    go false false true p q r = second_law a 0xFE 4 (byte_is a r (lit≤ tt)) (lit≤ tt) refl (lit≤ tt) (lit≤ tt) xs ys
    go false false false p q r = record { law = refl }

pub at_label : (xs ys : List ℕ) → choose xs ≡ label → choose (xs ++ ys) ≡ label
at_label xs ys e = rw e at (choose_law xs ys).law

-- what is known of a mark
pub record Mark (xs : List ℕ) (w g : ℕ) : Type 0 where
  pub there : w ≤ length xs
  pub width : w ≡ mark_width g
  pub low : 2 ≤ g
  pub high : g ≤ 4
  pub quiet : separators (take w xs) ≡ []

pub at_mark : (xs : List ℕ) {w g : ℕ} → choose xs ≡ marked w g → Mark xs w g
at_mark xs {w} {g} e =
    let l : Chosen xs (marked w g) (choose (xs ++ [])) = rw e at (choose_law xs []).law in
    record { there = l.1; width = l.2; low = l.3; high = l.4; quiet = l.5 }

pub more_mark : (xs ys : List ℕ) {w g : ℕ} → choose xs ≡ marked w g → choose (xs ++ ys) ≡ marked w g
more_mark xs ys {w} {g} e = let l : Chosen xs (marked w g) (choose (xs ++ ys)) = rw e at (choose_law xs ys).law in l.0

pub at_wait : (xs : List ℕ) → choose xs ≡ waiting → (length xs ≤ 2) × (separators xs ≡ [])
at_wait xs e = let l : Chosen xs waiting (choose (xs ++ [])) = rw e at (choose_law xs []).law in l

pub not_one : (g : ℕ) → 2 ≤ g → eqb g 1 ≡ false
not_one zero h = absurd (omega arith)
not_one (suc zero) h = absurd (omega arith)
not_one (suc (suc g)) h = eqb_no g
  where
    eqb_no : (g : ℕ) → eqb (suc (suc g)) 1 ≡ false
    eqb_no g = ne_eqb (suc (suc g)) 1 (λ e. omega arith)

-- Where bytes rest: they wait for the choice, or start a sequence.
abbrev pub Rests : ℕ → Spot → List ℕ → Type 0
Rests e p xs = rests e p xs ≡ true

is_waiting_lem : (c : Choice) → is_waiting c ≡ true → c ≡ waiting
is_waiting_lem waiting h = refl
is_waiting_lem label h = absurd (subst T (sym h) tt)
is_waiting_lem (marked w g) h = absurd (subst T (sym h) tt)

is_more_lem : (a : Next) → is_more a ≡ true → a ≡ more
is_more_lem more h = refl
is_more_lem (item w s o) h = absurd (subst T (sym h) tt)

pub rest_wait : (e : ℕ) (p : Spot) (xs : List ℕ) → eqb p.stage 1 ≡ true → Rests e p xs → choose xs ≡ waiting
unfolding rests
rest_wait e p xs g r = is_waiting_lem (choose xs) (rw g at r)

pub rest_more : (e : ℕ) (p : Spot) (xs : List ℕ) → eqb p.stage 1 ≡ false → Rests e p xs →
    next no_tables (family (reader e p.stage)) p.shift xs ≡ more
unfolding rests
rest_more e p xs g r = is_more_lem (next no_tables (family (reader e p.stage)) p.shift xs) (rw g at r)

pub wait_rests : (e : ℕ) (p : Spot) (xs : List ℕ) → eqb p.stage 1 ≡ true → choose xs ≡ waiting → Rests e p xs
unfolding rests
wait_rests e p xs g h = rw (g, h)

pub more_rests : (e : ℕ) (p : Spot) (xs : List ℕ) → eqb p.stage 1 ≡ false →
    next no_tables (family (reader e p.stage)) p.shift xs ≡ more → Rests e p xs
unfolding rests
more_rests e p xs g h = rw (g, h)

pub rests_few : (e : ℕ) (p : Spot) (xs : List ℕ) → Rests e p xs → length xs ≤ 3
rests_few e p xs r = go (eqb p.stage 1) refl
  where
    go : (b : Bool) → eqb p.stage 1 ≡ b → length xs ≤ 3
    go true g = omega (arith, (at_wait xs (rest_wait e p xs g r)).0)
    go false g = let f = family (reader e p.stage) in
        (at_more (keeps f) (next no_tables f) (next_laws no_tables f) p.shift xs (rest_more e p xs g r)).0

pub none_rest : (e : ℕ) (p : Spot) → Rests e p []
unfolding rests choose
none_rest e p = go (eqb p.stage 1)
  where
    go : (b : Bool) → (b then is_waiting (choose []) else is_more (next no_tables (family (reader e p.stage)) p.shift [])) ≡ true
    go true = refl
    go false = rw (empty no_tables (family (reader e p.stage)) p.shift)

module _ (t : Tables) (e : ℕ) where
  -- the cases of reading
  pub read_on_lem : (p : Spot) (xs : List ℕ) → eqb p.stage 1 ≡ false →
      read_from t e p xs ≡ lift p.stage (decode (next t (family (reader e p.stage))) p.shift xs)
  unfolding read_from
  read_on_lem p xs g = rw g

  pub read_choice : (p : Spot) (xs : List ℕ) → eqb p.stage 1 ≡ true → read_from t e p xs ≡ chosen t e xs (choose xs)
  unfolding read_from
  read_choice p xs g = rw g

  abbrev pub then_from : Parsed → Parsed → Parsed
  then_from r q = record { items = r.items ++ q.items; spot = q.spot; rest = q.rest }

  -- (A) Chunk independence.
  plain_chunks : (g : ℕ) → eqb g 1 ≡ false → (s : Shift) (xs ys : List ℕ) → let r = lift g (decode (next t (family (reader e g))) s xs) in
      lift g (decode (next t (family (reader e g))) s (xs ++ ys)) ≡ then_from r (read_from t e r.spot (r.rest ++ ys))
  plain_chunks g q s xs ys =
      let f = family (reader e g) in
      let r = decode (next t f) s xs in
      ap (lift g) (chunks (keeps f) (next t f) (next_laws t f) s xs ys) ∙
      ap (then_from (lift g r)) (sym (read_on_lem (spot g r.shift) (r.rest ++ ys) q))

  pub chunks_from : (p : Spot) (xs ys : List ℕ) → read_from t e p (xs ++ ys) ≡ then_from (read_from t e p xs)
      (read_from t e (read_from t e p xs).spot ((read_from t e p xs).rest ++ ys))
  unfolding chosen reader
  chunks_from p xs ys = go (eqb p.stage 1) refl
    where
      by : (r : Parsed) → read_from t e p xs ≡ r → read_from t e p (xs ++ ys) ≡ then_from r (read_from t e r.spot (r.rest ++ ys)) →
          read_from t e p (xs ++ ys) ≡ then_from (read_from t e p xs) (read_from t e (read_from t e p xs).spot ((read_from t e p xs).rest ++ ys))
      by r q h = h ∙ sym (ap (λ (r : Parsed). then_from r (read_from t e r.spot (r.rest ++ ys))) q)

      choice : eqb p.stage 1 ≡ true → (c : Choice) → choose xs ≡ c →
          read_from t e p (xs ++ ys) ≡ then_from (read_from t e p xs) (read_from t e (read_from t e p xs).spot ((read_from t e p xs).rest ++ ys))
      choice g waiting q = by (chosen t e xs waiting) (read_choice p xs g ∙ ap (chosen t e xs) q)
          (read_choice p (xs ++ ys) g ∙ sym (read_choice (spot 1 plain) (xs ++ ys) refl))
      choice g label q = by (chosen t e xs label) (read_choice p xs g ∙ ap (chosen t e xs) q)
          (read_choice p (xs ++ ys) g ∙ ap (chosen t e (xs ++ ys)) (at_label xs ys q) ∙ plain_chunks 0 refl plain xs ys)
      choice g (marked w h) q = by (chosen t e xs (marked w h)) (read_choice p xs g ∙ ap (chosen t e xs) q)
          (read_choice p (xs ++ ys) g ∙ ap (chosen t e (xs ++ ys)) (more_mark xs ys q) ∙
          rw (drop-append-le w xs ys (at_mark xs q).there)
          (ap (eaten w) (plain_chunks h (not_one h (at_mark xs q).low) plain (drop w xs) ys)))

      go : (b : Bool) → eqb p.stage 1 ≡ b → read_from t e p (xs ++ ys) ≡ then_from (read_from t e p xs)
          (read_from t e (read_from t e p xs).spot ((read_from t e p xs).rest ++ ys))
      go true g = choice g (choose xs) refl
      go false g = by (lift p.stage (decode (next t (family (reader e p.stage))) p.shift xs)) (read_on_lem p xs g)
          (read_on_lem p (xs ++ ys) g ∙ plain_chunks p.stage g p.shift xs ys)

-- What reading from a spot reads.
pub record Parsing (e : ℕ) (xs : List ℕ) (r : Parsed) : Type 0 where
  pub used : List ℕ
  pub split : xs ≡ used ++ r.rest
  pub wide : widths r.items ≡ length used
  pub count : length (shown r.items) ≤ length used
  pub kept : T (keeps (family (reader e r.spot.stage))) → separators (shown r.items) ≡ separators used
  pub waits : Rests e r.spot r.rest

module _ (t : Tables) (e : ℕ) where
  lifted : (g : ℕ) → eqb g 1 ≡ false → (s : Shift) (xs : List ℕ) → Parsing e xs (lift g (decode (next t (family (reader e g))) s xs))
  lifted g q s xs =
      let f = family (reader e g) in
      let R = reading (keeps f) (next t f) (next_laws t f) s xs in
      let r = decode (next t f) s xs in
      record {
        used = R.used;
        split = R.split;
        wide = R.wide;
        count = R.count;
        kept = R.kept;
        waits =
            more_rests e (spot g r.shift) r.rest q (more_any t no_tables f r.shift r.rest R.waits);
      }

  behind : (xs : List ℕ) (w : ℕ) (r : Parsed) → w ≤ length xs → separators (take w xs) ≡ [] → Parsing e (drop w xs) r →
      Parsing e xs (eaten w r)
  unfolding widths shown
  behind xs w r h q R = record {
    used = take w xs ++ R.used;
    split = sym (take-append-drop w xs) ∙ ap (λ (ys : List ℕ). take w xs ++ ys) R.split ∙
        sym (append_assoc (take w xs) R.used r.rest);
    wide = rw (length-append (take w xs) R.used, length-take-le w xs h, R.wide);
    count = simp length-append (omega (arith, R.count));
    kept = λ k. R.kept k ∙ sym (separators_append (take w xs) R.used ∙ ap (λ (l : List ℕ). l ++ separators R.used) q);
    waits = R.waits;
  }

  pub parsing : (p : Spot) (xs : List ℕ) → Parsing e xs (read_from t e p xs)
  unfolding chosen reader widths shown
  parsing p xs = go (eqb p.stage 1) refl
    where
      choice : (c : Choice) → choose xs ≡ c → Parsing e xs (chosen t e xs c)
      choice waiting q = record {
        used = [];
        split = refl;
        wide = refl;
        count = lit≤ tt;
        kept = λ k. refl;
        waits =
            wait_rests e (spot 1 plain) xs refl q;
      }
      choice label q = lifted 0 refl plain xs
      choice (marked w h) q = let M = at_mark xs q in
          behind xs w (lift h (decode (next t (family (reader e h))) plain (drop w xs))) M.there M.quiet
          (lifted h (not_one h M.low) plain (drop w xs))

      go : (b : Bool) → eqb p.stage 1 ≡ b → Parsing e xs (read_from t e p xs)
      go true g = rw (read_choice t e p xs g) (choice (choose xs) refl)
      go false g = rw (read_on_lem t e p xs g) (lifted p.stage g p.shift xs)

-- Where reading stands does not depend on the tables.
pub record Standing : Type 0 where
  pub spot : Spot
  pub rest : List ℕ

abbrev pub standing : Parsed → Standing
standing r = record { spot = r.spot; rest = r.rest }

pub meet_from : (t t' : Tables) (e : ℕ) (p : Spot) (xs : List ℕ) → standing (read_from t e p xs) ≡ standing (read_from t' e p xs)
unfolding chosen reader
meet_from t t' e p xs = go (eqb p.stage 1) refl
  where
    same : (g : ℕ) (s : Shift) (ys : List ℕ) → standing (lift g (decode (next t (family (reader e g))) s ys)) ≡ standing
        (lift g (decode (next t' (family (reader e g))) s ys))
    same g s ys = ap (λ (p : Place). record { spot = spot g p.shift; rest = p.rest }) (tables_meet t t' (family (reader e g)) s ys)

    choice : (c : Choice) → standing (chosen t e xs c) ≡ standing (chosen t' e xs c)
    choice waiting = refl
    choice label = same 0 plain xs
    choice (marked w h) = same h plain (drop w xs)

    go : (b : Bool) → eqb p.stage 1 ≡ b → standing (read_from t e p xs) ≡ standing (read_from t' e p xs)
    go true g = rw (read_choice t e p xs g, read_choice t' e p xs g) (choice (choose xs))
    go false g = rw (read_on_lem t e p xs g, read_on_lem t' e p xs g) (same p.stage p.shift xs)

-- bytes that rest are not read
pub read_rest : (t : Tables) (e : ℕ) (p : Spot) (xs : List ℕ) → (eqb p.stage 1 ≡ true → p ≡ spot 1 plain) → Rests e p xs →
    read_from t e p xs ≡ record { items = []; spot = p; rest = xs }
unfolding chosen
read_rest t e p xs u r = go (eqb p.stage 1) refl
  where
    go : (b : Bool) → eqb p.stage 1 ≡ b → read_from t e p xs ≡ record { items = []; spot = p; rest = xs }
    go true g = read_choice t e p xs g ∙ ap (chosen t e xs) (rest_wait e p xs g r) ∙
        (λ i. record { items = []; spot = sym (u g) i; rest = xs })
    go false g = let f = family (reader e p.stage) in read_on_lem t e p xs g ∙
        ap (lift p.stage) (decode_more (keeps f) (next t f) (next_laws t f) p.shift xs
        (more_any no_tables t f p.shift xs (rest_more e p xs g r)))

-- The end of input, for bytes that rest.
pub record Ended (e : ℕ) (p : Spot) (xs : List ℕ) (is : List Item) : Type 0 where
  pub wide : widths is ≡ length xs
  pub count : length (shown is) ≤ length xs
  pub kept : T (keeps (family (reader e p.stage))) → separators (shown is) ≡ []

all_wide : (t : Tables) (f : Family) (xs : List ℕ) → widths (everything t f plain xs) ≡ length xs
unfolding everything
all_wide t f xs =
    let r = decode (next t f) plain xs in
    let R = reading (keeps f) (next t f) (next_laws t f) plain xs in
    omega (
      arith,
      widths_append r.items (ending t f r.shift r.rest),
      R.wide,
      (ending_is t f r.shift r.rest).wide,
      ap length R.split,
      length-append R.used r.rest,
    )

all_count : (t : Tables) (f : Family) (xs : List ℕ) → length (shown (everything t f plain xs)) ≤ length xs
unfolding everything
all_count t f xs =
    let r = decode (next t f) plain xs in
    let R = reading (keeps f) (next t f) (next_laws t f) plain xs in
    rw (shown_append r.items (ending t f r.shift r.rest))
    (simp length-append (omega (
      arith,
      R.count,
      (ending_is t f r.shift r.rest).count,
      ap length R.split,
      length-append R.used r.rest,
    )))

-- and the same separators, as none are held
all_kept : (t : Tables) (f : Family) (xs : List ℕ) → T (keeps f) → separators (shown (everything t f plain xs)) ≡ separators xs
unfolding everything
all_kept t f xs k =
    let r = decode (next t f) plain xs in
    let R = reading (keeps f) (next t f) (next_laws t f) plain xs in
    let none = (at_more (keeps f) (next t f) (next_laws t f) r.shift r.rest R.waits).1 k in
    ap separators (shown_append r.items (ending t f r.shift r.rest)) ∙
    separators_append (shown r.items) (shown (ending t f r.shift r.rest)) ∙
    rw (R.kept k, (ending_is t f r.shift r.rest).kept k)
    (sym (ap separators R.split ∙ separators_append R.used r.rest ∙ ap (λ (l : List ℕ). separators R.used ++ l) none))

pub ended_from : (t : Tables) (e : ℕ) (p : Spot) (xs : List ℕ) → Rests e p xs → Ended e p xs (end_from t e p xs)
unfolding end_from reader
ended_from t e p xs r = go (eqb p.stage 1) refl
  where
    go : (b : Bool) → eqb p.stage 1 ≡ b → Ended e p xs
        (b then everything t (family e) plain xs else ending no_tables (family (reader e p.stage)) p.shift xs)
    go true g =
        let one : p.stage ≡ 1 = eqb-true p.stage 1 g in
        record {
          wide = all_wide t (family e) xs;
          count = all_count t (family e) xs;
          kept = λ k. all_kept t (family e) xs (subst (λ (g : ℕ). T (keeps (family (reader e g)))) one k) ∙
              (at_wait xs (rest_wait e p xs g r)).1;
        }
    go false g = let E = ending_is no_tables (family (reader e p.stage)) p.shift xs in
        record { wide = E.wide; count = E.count; kept = E.kept }

-- no separator is held where separators are kept
pub held_clear : (e : ℕ) (p : Spot) (xs : List ℕ) → Rests e p xs → T (keeps (family (reader e p.stage))) → separators xs ≡ []
held_clear e p xs r k = go (eqb p.stage 1) refl
  where
    go : (b : Bool) → eqb p.stage 1 ≡ b → separators xs ≡ []
    go true g = (at_wait xs (rest_wait e p xs g r)).1
    go false g = let f = family (reader e p.stage) in
        (at_more (keeps f) (next no_tables f) (next_laws no_tables f) p.shift xs (rest_more e p xs g r)).1 k

-- Everything, cut in two.
pub all_cut : (t : Tables) (e : ℕ) (p : Spot) (xs ys : List ℕ) → let r = read_from t e p xs in
    everything_from t e p (xs ++ ys) ≡ r.items ++ everything_from t e r.spot (r.rest ++ ys)
unfolding everything_from
all_cut t e p xs ys = rw (chunks_from t e p xs ys) (append_assoc (read_from t e p xs).items _ _)

-- The stage once left is not come to again, and once chosen stays.
pub stage_stays : (t : Tables) (e : ℕ) (p : Spot) (xs : List ℕ) → eqb p.stage 1 ≡ false → (read_from t e p xs).spot.stage ≡ p.stage
stage_stays t e p xs g = ap (λ (r : Parsed). r.spot.stage) (read_on_lem t e p xs g)

pub stage_one : (t : Tables) (e : ℕ) (p : Spot) (xs : List ℕ) → (read_from t e p xs).spot.stage ≡ 1 → (read_from t e p xs).rest ≡ xs
unfolding chosen
stage_one t e p xs h = go (eqb p.stage 1) refl
  where
    choice : (c : Choice) → choose xs ≡ c → (chosen t e xs c).spot.stage ≡ 1 → (chosen t e xs c).rest ≡ xs
    choice waiting q k = refl
    choice label q k = absurd (omega arith)
    choice (marked w g) q k = absurd (omega (arith, (at_mark xs q).low))

    go : (b : Bool) → eqb p.stage 1 ≡ b → (read_from t e p xs).rest ≡ xs
    go true g = rw (read_choice t e p xs g) (choice (choose xs) refl (rw (read_choice t e p xs g) at h))
    go false g = absurd (eqb-false p.stage 1 g (sym (stage_stays t e p xs g) ∙ h))

-- everything that rests, at the end
pub all_rest : (t : Tables) (e : ℕ) (p : Spot) (xs : List ℕ) → Rests e p xs → everything_from t e p xs ≡ end_from t e p xs
unfolding everything_from chosen end_from
all_rest t e p xs r = go (eqb p.stage 1) refl
  where
    go : (b : Bool) → eqb p.stage 1 ≡ b → everything_from t e p xs ≡ end_from t e p xs
    go true g = rw (read_choice t e p xs g, rest_wait e p xs g r, g)
    go false g = rw (read_rest t e p xs (λ y. absurd (subst T (sym y ∙ g) tt)) r)

-- no more scalars than bytes, whatever is held
pub end_count : (t : Tables) (e : ℕ) (p : Spot) (xs : List ℕ) → length (shown (end_from t e p xs)) ≤ length xs
unfolding end_from
end_count t e p xs = go (eqb p.stage 1)
  where
    go : (b : Bool) → length (shown (b then everything t (family e) plain xs else
        ending no_tables (family (reader e p.stage)) p.shift xs)) ≤ length xs
    go true = all_count t (family e) xs
    go false = (ending_is no_tables (family (reader e p.stage)) p.shift xs).count

-- before the choice there is no shift
pub read_canonical : (t : Tables) (e : ℕ) (p : Spot) (xs : List ℕ) → eqb (read_from t e p xs).spot.stage 1 ≡ true →
    (read_from t e p xs).spot ≡ spot 1 plain
unfolding chosen
read_canonical t e p xs h = go (eqb p.stage 1) refl
  where
    choice : (c : Choice) → choose xs ≡ c → eqb (chosen t e xs c).spot.stage 1 ≡ true → (chosen t e xs c).spot ≡ spot 1 plain
    choice waiting q k = refl
    choice label q k = absurd (subst T (sym k) tt)
    choice (marked w g) q k = absurd (subst T (sym k ∙ not_one g (at_mark xs q).low) tt)

    go : (b : Bool) → eqb p.stage 1 ≡ b → (read_from t e p xs).spot ≡ spot 1 plain
    go true g = rw (read_choice t e p xs g) (choice (choose xs) refl (rw (read_choice t e p xs g) at h))
    go false g = absurd (subst T (sym h ∙ ap (λ (n : ℕ). eqb n 1) (stage_stays t e p xs g) ∙ g) tt)
