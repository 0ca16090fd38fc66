-- The single-byte encodings, byte by byte and by a table. Assumes nothing.
use mathlib.Core.Path.{◌≡◌, refl, sym, ap, subst, ◌∙◌}
use mathlib.Core.Bool.{Bool, true, false}
use mathlib.Core.List.{List, [], ◌∷◌}
use Prim.Native.Nat.{ℕ, ◌+◌, ◌-◌, ◌%◌, ◌≤◌, ◌<◌}
use native.Mathlib.Omega.{arith}
use native.Mathlib.Nat.{add-zero}
use lib.Dec.{T, ltb, eqb}
use lib.ListN.{length, drop, get_or, set, length-set}
use lib.Seq.{get_or-set_same, get_or-set_other}
use borrow.Author.Tests.{eqb-true, eqb-false, ltb-true, ltb-false, lt-ltb, le-ltb, eq-eqb, ne_eqb}
use Rattle.standard.specs.Base.{◌then◌else◌, mapped, line_feeds}
use Rattle.standard.specs.Encodings.{Family, Tables, lent, single-byte, windows-1252}
use Rattle.standard.specs.Indexes.{irregular, windows1252}
use Rattle.standard.specs.Sequence.{plain, cell}
use Rattle.standard.specs.Next.{next}
use Rattle.standard.specs.Sequences.SingleByte.{single_byte}
use Rattle.standard.proofs.Tests.{split}
use Rattle.standard.proofs.FamilyLaws.{keeps}
use Rattle.line_feeds.specs.Parts.{part}
use Rattle.line_feeds.proofs.Parts.{none_in}
use Rattle.index.proofs.Cells.{cell_mapped, cell_unmapped}
use Rattle.sequences.proofs.SingleByteLeaves.{single_ascii, single_cell}
use Rattle.sequences.proofs.Windows1252Leaves.{windows_irregular, windows_itself}
use Rattle.runs.specs.Run.{patch, placed, Gives, Ready, Runs}
use Rattle.runs.specs.Counts.{counted, Counts}
use Rattle.runs.specs.declared.Place.{Place}
use Rattle.runs.specs.declared.Counted.{Counted}
use Rattle.runs.proofs.Counting.{runs_line_feeds}
use Rattle.word_runs.specs.Units.{values}
use Rattle.word_runs.specs.Bytes.{unmapped, byte_scalar, windows_scalar, Through}
use Rattle.runs.proofs.Fronts.{byte_at}
use Rattle.runs.proofs.Running.{Going, going_start, going_one, gives_scalar, runs_none}
use Rattle.runs.proofs.Scalars.{gives_same, gives_bad}
use Rattle.runs.proofs.Below.{below_add}
use Rattle.runs.proofs.Patches.{patch_none, patch_length}
use Rattle.word_runs.proofs.Values.{values_same, values_length, wrote_more, wrote_on}
use Rattle.word_runs.proofs.Rows.{going_row}

-- only the first byte tells
first_tells : (t : List ℕ) (b : ℕ) (xs : List ℕ) → single_byte t (b ∷ xs) ≡ single_byte t (b ∷ [])
unfolding single_byte
first_tells t b xs = refl

-- a byte that gives its scalar
pub byte_gives : (m : ℕ) (cells : List ℕ) (b : ℕ) (xs : List ℕ) → (m ≡ 1 → byte_scalar m cells b ≡ 0x110000 → ⊥) → Gives m (single_byte cells (b ∷ xs)) 1 plain (byte_scalar m cells b)
byte_gives m cells b xs n = gives_same (first_tells cells b xs) (go (ltb b 0x80) (eqb (cell cells (b - 0x80)) 0) refl refl)
  where
    go : (p q : Bool) → ltb b 0x80 ≡ p → eqb (cell cells (b - 0x80)) 0 ≡ q → Gives m (single_byte cells (b ∷ [])) 1 plain (byte_scalar m cells b)
    go true q e d = rw e (gives_scalar m (single_ascii cells b [] (ltb-true b 0x80 e)))
    go false true e d =
        let k : m ≡ 1 → ⊥ = λ z. n z (rw (e, d, eq-eqb m 1 z)) in
        rw (e, d, ne_eqb m 1 k) (gives_same (single_cell cells b [] (ltb-false b 0x80 e) ∙ rw d) (gives_bad m refl k))
    go false false e d = rw (e, d) (gives_scalar m (single_cell cells b [] (ltb-false b 0x80 e) ∙ rw d))

pub windows_gives : (m b : ℕ) (xs : List ℕ) → b < 256 → Gives m (single_byte windows1252 (b ∷ xs)) 1 plain (windows_scalar b)
windows_gives m b xs h = gives_same (first_tells windows1252 b xs) (go (ltb b 0x80) (ltb b 0xA0) refl refl)
  where
    go : (p q : Bool) → ltb b 0x80 ≡ p → ltb b 0xA0 ≡ q → Gives m (single_byte windows1252 (b ∷ [])) 1 plain (windows_scalar b)
    go true q e d = rw e (gives_scalar m (single_ascii windows1252 b [] (ltb-true b 0x80 e)))
    go false true e d = rw (e, d) (gives_scalar m (windows_irregular b [] (ltb-false b 0x80 e) (ltb-true b 0xA0 d)))
    go false false e d = rw (e, d) (gives_scalar m (windows_itself b [] (ltb-false b 0xA0 d) h))

-- what holds below a number, and of it
pub below_one : (P : ℕ → Type 0) (k : ℕ) → ((j : ℕ) → j < k → P j) → P k → (j : ℕ) → j < k + 1 → P j
below_one P k a p j l = split (eqb j k) (λ t. subst P (sym (eqb-true j k t)) p) (λ t. let z = eqb-false j k t in a j (omega arith))

-- a table whose cells are its places, but so many from 128 on
pub record Replaced (g : ℕ → ℕ) (k : ℕ) (table : List ℕ) : Type 0 where
  pub long : length table ≡ 256
  pub below : (j : ℕ) → j < 128 → get_or table j 0 ≡ j
  pub done : (j : ℕ) → j < k → get_or table (j + 128) 0 ≡ g j
  pub behind : (j : ℕ) → k ≤ j → j < 128 → get_or table (j + 128) 0 ≡ j + 128

module _ (g : ℕ → ℕ) (table : List ℕ) where
  pub replaced_none : length table ≡ 256 → ((j : ℕ) → j < 256 → get_or table j 0 ≡ j) → Replaced g 0 table
  replaced_none l p = record { long = l; below = λ j h. p j (omega arith); done = λ j h. absurd (omega arith); behind = λ j h h'. p (j + 128) (omega arith) }

  module _ (k : ℕ) (R : Replaced g k table) where
    pub replaced_more : (v : ℕ) → k < 128 → v ≡ g k → Replaced g (k + 1) (set table (k + 128) v)
    replaced_more v h e = record {
      long = length-set table (k + 128) v ∙ R.long;
      below = λ j l. get_or-set_other table (k + 128) j v 0 (λ z. omega arith) ∙ R.below j l;
      done = λ j l. split (eqb j k)
          (λ t. let z = eqb-true j k t in rw z (get_or-set_same table (k + 128) v 0 (omega (arith, R.long)) ∙ e))
          (λ t. let z = eqb-false j k t in get_or-set_other table (k + 128) (j + 128) v 0 (λ y. z (omega arith)) ∙ R.done j (omega arith));
      behind = λ j l l'. get_or-set_other table (k + 128) (j + 128) v 0 (λ z. omega arith) ∙ R.behind j (omega arith) l';
    }

    pub replaced_all : (f : ℕ → ℕ) → ((j : ℕ) → j < 128 → j ≡ f j) → ((j : ℕ) → j < k → g j ≡ f (j + 128)) → ((j : ℕ) → k ≤ j → j < 128 → j + 128 ≡ f (j + 128)) → (j : ℕ) → j < 256 → get_or table j 0 ≡ f j
    replaced_all f low high rest j l = split (ltb j 128)
        (λ t. let h = ltb-true j 128 t in R.below j h ∙ low j h)
        (λ t.
        let h = ltb-false j 128 t in
        let z : j - 128 + 128 ≡ j = omega arith in
        subst (λ (i : ℕ). get_or table i 0 ≡ f i) z (split (ltb (j - 128) k)
        (λ s. let q = ltb-true (j - 128) k s in R.done (j - 128) q ∙ high (j - 128) q)
        (λ s. let q = ltb-false (j - 128) k s in R.behind (j - 128) q (omega arith) ∙ rest (j - 128) q (omega arith))))

-- none yet; one byte more; and as many bytes more as another part has
module _ (v : ℕ → ℕ) {chunk : List ℕ} {from w : ℕ} {room : List ℕ} where
  pub through_none : Through v chunk from 0 w room room
  unfolding values
  through_none = record { bytes = λ j l. absurd (omega arith); wrote = patch_none room w }

  module _ {k : ℕ} {room₁ : List ℕ} (p : Through v chunk from k w room room₁) where
    pub through_length : w + k ≤ length room → length room₁ ≡ length room
    through_length h =
        let n = values_length (λ (j : ℕ). v (get_or chunk (from + j) 0)) k in
        ap length p.wrote ∙ patch_length room w (values (λ (j : ℕ). v (get_or chunk (from + j) 0)) k) (omega arith)

    pub through_more : (c : ℕ) → w + k < length room → get_or chunk (from + k) 0 < 256 → c ≡ v (get_or chunk (from + k) 0) → Through v chunk from (k + 1) w room (set room₁ (w + k) c)
    through_more c h l e = record {
      bytes = below_one (λ (j : ℕ). get_or chunk (from + j) 0 < 256) k p.bytes l;
      wrote = wrote_more room room₁ w (λ (j : ℕ). v (get_or chunk (from + j) 0)) k p.wrote h c e;
    }

    pub through_on : {n i o : ℕ} {room₂ : List ℕ} → i ≡ from + k → o ≡ w + k → w + k ≤ length room → Through v chunk i n o room₁ room₂ → Through v chunk from (k + n) w room room₂
    through_on {n} {i} {o} {room₂} ei eo h q =
        let q' = rw (ei, eo) at q in
        let on : (j : ℕ) → from + k + j ≡ from + (k + j) = λ j. omega arith in
        record {
          bytes = below_add (λ (j : ℕ). get_or chunk (from + j) 0 < 256) k n p.bytes (λ j l. subst (λ (x : ℕ). get_or chunk x 0 < 256) (on j) (q'.bytes j l));
          wrote = wrote_on room room₁ room₂ w (λ (j : ℕ). v (get_or chunk (from + j) 0)) (λ (j : ℕ). v (get_or chunk (from + k + j) 0)) k n p.wrote q'.wrote (λ j l. ap (λ (x : ℕ). v (get_or chunk x 0)) (on j)) h;
        }

-- Each byte through v: a run to the end, where v is what a byte gives.
pub run_through : (t : Tables) (f : Family) (m : ℕ) (v : ℕ → ℕ) {chunk : List ℕ} {from w : ℕ} {room room₁ : List ℕ} → Ready chunk from room w → Through v chunk from (length chunk - from) w room room₁ →
    ((j : ℕ) → j < length chunk - from → Gives m (next t f plain (drop (from + j) chunk)) 1 plain (v (get_or chunk (from + j) 0))) →
    Runs (next t f) m chunk from (from + (length chunk - from)) plain plain w (w + (length chunk - from)) room room₁
run_through t f m v {chunk} {from} {w} {room} h p g =
    let G : Going t f m chunk from (from + 0) plain plain w w room room = rw (add-zero from) (going_start h) in
    rw p.wrote (going_row t f m chunk from (λ (j : ℕ). from + j) 1 (λ j. omega arith) (λ (j : ℕ). v (get_or chunk (from + j) 0)) w w room room G (length chunk - from) g h.fits).runs

-- with its line feeds, where separators are kept; and a run that reads nothing
pub counts_through : (t : Tables) (f : Family) (m : ℕ) (v : ℕ → ℕ) → T (keeps f) → {chunk : List ℕ} {from w l : ℕ} {room room₁ : List ℕ} → Ready chunk from room w →
    Through v chunk from (length chunk - from) w room room₁ → l ≡ line_feeds (part chunk from (length chunk - from)) →
    ((j : ℕ) → j < length chunk - from → Gives m (next t f plain (drop (from + j) chunk)) 1 plain (v (get_or chunk (from + j) 0))) →
    Counts t f m chunk (placed from w 0 0) (counted (placed (from + (length chunk - from)) (w + (length chunk - from)) 0 0) l) room room₁
counts_through t f m v k {chunk} {from} h p e g =
    let R = run_through t f m v h p g in
    let z : length chunk - from ≡ from + (length chunk - from) - from = omega arith in
    record { run = R; lines = e ∙ ap (λ (n : ℕ). line_feeds (part chunk from n)) z ∙ runs_line_feeds t f k R }

pub counts_none : (t : Tables) (f : Family) (m : ℕ) {chunk : List ℕ} {p : Place} {r : Counted} {room : List ℕ} → r ≡ counted p 0 → Counts t f m chunk p r room room
counts_none t f m {p = p} {room = room} e =
    rw e (record { run = runs_none t f; lines = none_in room p.written (p.written - p.written) (omega arith) })

-- bytes through a table that holds the scalar of each
pub looked_up_lem : (f : ℕ → ℕ) (table chunk : List ℕ) (from n w : ℕ) (room room₁ : List ℕ) → ((b : ℕ) → b < 256 → get_or table b 0 ≡ f b) →
    Through (λ (b : ℕ). get_or table b 0) chunk from n w room room₁ → Through f chunk from n w room room₁
looked_up_lem f table chunk from n w room room₁ p q =
    let same = values_same (λ (j : ℕ). get_or table (get_or chunk (from + j) 0) 0) (λ (j : ℕ). f (get_or chunk (from + j) 0)) n (λ j l. p (get_or chunk (from + j) 0) (q.bytes j l)) in
    record { bytes = q.bytes; wrote = q.wrote ∙ ap (λ (l : List ℕ). patch w l room) same }

-- the byte at a place
pub single_at : (t1 t2 : List ℕ) (m : ℕ) (chunk : List ℕ) (i : ℕ) → i < length chunk → (m ≡ 1 → byte_scalar m t1 (get_or chunk i 0) ≡ 0x110000 → ⊥) →
    Gives m (next (lent t1 t2) single-byte plain (drop i chunk)) 1 plain (byte_scalar m t1 (get_or chunk i 0))
unfolding next
single_at t1 t2 m chunk i h n = rw (byte_at chunk i h) (byte_gives m t1 (get_or chunk i 0) (drop (i + 1) chunk) n)

pub windows_at : (t : Tables) (m : ℕ) (chunk : List ℕ) (i : ℕ) → i < length chunk → get_or chunk i 0 < 256 → Gives m (next t windows-1252 plain (drop i chunk)) 1 plain (windows_scalar (get_or chunk i 0))
unfolding next
windows_at t m chunk i h l = rw (byte_at chunk i h) (windows_gives m (get_or chunk i 0) (drop (i + 1) chunk) l)

-- a mapped cell is a scalar
pub no_scalar : (c : ℕ) → mapped c ≡ true → c ≡ 0x110000 → ⊥
no_scalar c m e = let no : false ≡ true = rw e at m in cc

-- the scalar of a byte, by the cell that its lower seven bits name
module _ (m : ℕ) (cells : List ℕ) (b : ℕ) where
  pub byte_ascii : b < 0x80 → b ≡ byte_scalar m cells b
  byte_ascii h = rw (lt-ltb b 0x80 h)

  module _ (l : b < 256) where
    pub byte_mapped : mapped (get_or cells (b % 128) 0) ≡ true → (ltb b 0x80 then b else get_or cells (b % 128) 0) ≡ byte_scalar m cells b
    byte_mapped e = go (ltb b 0x80) refl
      where
        some : (c : ℕ) → mapped c ≡ true → c ≡ 0 → ⊥
        some c p z =
            let q : false ≡ true = rw z at p in
            let y : ◌≡◌ {A = ℕ} 0 1 = cc in
            omega arith

        go : (p : Bool) → ltb b 0x80 ≡ p → (ltb b 0x80 then b else get_or cells (b % 128) 0) ≡ byte_scalar m cells b
        go true q = rw q
        go false q =
            let h = ltb-false b 0x80 q in
            let z : b % 128 ≡ b - 0x80 = omega arith in
            let e' = rw z at e in
            rw (q, z, cell_mapped cells (b - 0x80) e', ne_eqb (get_or cells (b - 0x80) 0) 0 (some (get_or cells (b - 0x80) 0) e'))

    pub byte_unmapped : mapped (get_or cells (b % 128) 0) ≡ false → 0x80 ≤ b → unmapped m ≡ byte_scalar m cells b
    byte_unmapped e h =
        let z : b % 128 ≡ b - 0x80 = omega arith in
        let e' = rw z at e in
        rw (le-ltb b 0x80 h, cell_unmapped cells (b - 0x80) e')

-- and of a byte above 7F, by its cell
pub byte_upper : (m : ℕ) (cells : List ℕ) (k : ℕ) → k < 128 → (mapped (get_or cells k 0) then get_or cells k 0 else unmapped m) ≡ byte_scalar m cells (k + 128)
byte_upper m cells k h = go (mapped (get_or cells k 0)) refl
  where
    z : (k + 128) % 128 ≡ k
    z = omega arith

    go : (p : Bool) → mapped (get_or cells k 0) ≡ p → (mapped (get_or cells k 0) then get_or cells k 0 else unmapped m) ≡ byte_scalar m cells (k + 128)
    go true e =
        let e' : mapped (get_or cells ((k + 128) % 128) 0) ≡ true = rw z e in
        let same : get_or cells k 0 ≡ (ltb (k + 128) 0x80 then k + 128 else get_or cells ((k + 128) % 128) 0) = rw (le-ltb (k + 128) 0x80 (omega arith), z) in
        rw e (same ∙ byte_mapped m cells (k + 128) (omega arith) e')
    go false e =
        let e' : mapped (get_or cells ((k + 128) % 128) 0) ≡ false = rw z e in
        rw e (byte_unmapped m cells (k + 128) (omega arith) e' (omega arith))

-- the same in windows-1252
module _ (b : ℕ) where
  pub windows_ascii : b < 0x80 → b ≡ windows_scalar b
  windows_ascii h = rw (lt-ltb b 0x80 h)

  pub windows_cell : (cells : List ℕ) → cells ≡ irregular → 0x80 ≤ b → b < 0xA0 → get_or cells (b % 32) 0 ≡ windows_scalar b
  windows_cell cells e h l =
      let z : b % 32 ≡ b - 0x80 = omega arith in
      rw (le-ltb b 0x80 h, lt-ltb b 0xA0 l, e, z)

  pub windows_same : 0xA0 ≤ b → b ≡ windows_scalar b
  windows_same h = rw (le-ltb b 0x80 (omega arith), le-ltb b 0xA0 h)

pub windows_upper : (cells : List ℕ) → cells ≡ irregular → (k : ℕ) → k < 32 → get_or cells k 0 ≡ windows_scalar (k + 128)
windows_upper cells e k h =
    let z : (k + 128) % 32 ≡ k = omega arith in
    let same : get_or cells k 0 ≡ get_or cells ((k + 128) % 32) 0 = rw z in
    same ∙ windows_cell (k + 128) cells e (omega arith) (omega arith)

pub irregular_length : length irregular ≡ 32
unfolding irregular
irregular_length = refl

-- one byte more
pub single_step : (t1 t2 : List ℕ) (m : ℕ) (chunk : List ℕ) (from i w o : ℕ) (room₀ room : List ℕ) → Going (lent t1 t2) single-byte m chunk from i plain plain w o room₀ room → (c : ℕ) →
    c ≡ byte_scalar m t1 (get_or chunk i 0) → (c ≡ 0x110000 → ⊥) → i < length chunk → Going (lent t1 t2) single-byte m chunk from (i + 1) plain plain w (o + 1) room₀ (set room o c)
single_step t1 t2 m chunk from i w o room₀ room G c e n h =
    rw e (going_one G (single_at t1 t2 m chunk i h (λ y z. n (e ∙ z))))
