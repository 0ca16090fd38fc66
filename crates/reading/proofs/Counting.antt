-- Which encodings keep separators, and the ASCII in front of a run in those. Assumes nothing.
use mathlib.Core.Path.{◌≡◌, refl, sym, ap, ◌∙◌, subst}
use mathlib.Core.Bool.{Bool, true, false}
use mathlib.Core.List.{List, ◌∷◌}
use Prim.Native.Nat.{ℕ, ◌+◌, ◌-◌, ◌<◌}
use native.Mathlib.Omega.{arith}
use lib.Dec.{T, ltb, eqb}
use borrow.Author.Tests.{lt-ltb, le-ltb, le-leb, ne_eqb}
use Rattle.standard.specs.Base.{◌then◌else◌, line_feeds}
use Rattle.standard.specs.Encodings.{Family, UTF-8, single-byte, windows-1252, GB18030, Big5, EUC-JP, ISO-2022-JP, Shift-JIS, EUC-KR, Replacement, UTF-16BE, UTF-16LE, x-user-defined, family, Tables, traits}
use Rattle.standard.specs.Sequence.{Shift, plain, scalar}
use Rattle.standard.specs.Sequences.Utf8.{utf8}
use Rattle.standard.specs.Sequences.SingleByte.{single_byte}
use Rattle.standard.specs.Sequences.Gb18030.{gb18030}
use Rattle.standard.specs.Sequences.Big5.{big5}
use Rattle.standard.specs.Sequences.EucJp.{euc_jp}
use Rattle.standard.specs.Sequences.ShiftJis.{shift_jis}
use Rattle.standard.specs.Sequences.EucKr.{euc_kr}
use Rattle.standard.specs.Sequences.UserDefined.{user_defined}
use Rattle.standard.specs.Next.{next}
use Rattle.standard.proofs.Families.{by_family}
use Rattle.standard.proofs.FamilyLaws.{keeps}
use Rattle.line_feeds.specs.Parts.{part}
use Rattle.runs.specs.Run.{Ready, shift_at, placed, Runs, Run}
use Rattle.runs.specs.declared.Place.{Place}
use Rattle.runs.specs.declared.Counted.{Counted}
use Rattle.runs.specs.Counts.{counted, Counts}
use Rattle.runs.specs.Stretch.{Copied}
use Rattle.runs.proofs.Running.{going_start, going_runs}
use Rattle.runs.proofs.Stretches.{going_copied}
use Rattle.runs.proofs.Counting.{Counting, counting_runs, runs_line_feeds}

-- does the encoding of a number keep separators?
pub keeps_is : (e : ℕ) → (eqb e 33 then false else ltb e 36 then true else ltb 38 e) ≡ keeps (family e)
unfolding traits
keeps_is e = by_family (λ f. (eqb e 33 then false else ltb e 36 then true else ltb 38 e) ≡ keeps f) e (record {
  c0 = λ h. rw h;
  c21 = λ h. rw h;
  c1_28 = λ l u n. small (omega arith) (omega arith);
  c29_30 = λ l u. small (omega arith) (omega arith);
  c31 = λ h. rw h;
  c32 = λ h. rw h;
  c33 = λ h. rw h;
  c34 = λ h. rw h;
  c35 = λ h. rw h;
  c36 = λ h. rw h;
  c37 = λ h. rw h;
  c38 = λ h. rw h;
  c39 = λ l. rw (ne_eqb e 33 (λ z. omega arith), le-ltb e 36 (omega arith), lt-ltb 38 e (omega arith));
})
  where
    small : (e ≡ 33 → ⊥) → e < 36 → (eqb e 33 then false else ltb e 36 then true else ltb 38 e) ≡ true
    small n l = rw (ne_eqb e 33 n, lt-ltb e 36 l)

-- where separators are kept, a byte below 80 stands for itself
self : (t : Tables) (f : Family) → T (keeps f) → (b : ℕ) (ys : List ℕ) → b < 0x80 → next t f plain (b ∷ ys) ≡ scalar 1 b
unfolding traits next utf8 single_byte gb18030 big5 euc_jp shift_jis euc_kr user_defined
self t UTF-8 k b ys h = rw (lt-ltb b 0x80 h)
self t single-byte k b ys h = rw (lt-ltb b 0x80 h)
self t windows-1252 k b ys h = rw (lt-ltb b 0x80 h)
self t GB18030 k b ys h = rw (lt-ltb b 0x80 h)
self t Big5 k b ys h = rw (lt-ltb b 0x80 h)
self t EUC-JP k b ys h = rw (lt-ltb b 0x80 h)
self t ISO-2022-JP k b ys h = absurd k
self t Shift-JIS k b ys h = rw (le-leb b 0x80 (omega arith))
self t EUC-KR k b ys h = rw (lt-ltb b 0x80 h)
self t Replacement k b ys h = absurd k
self t UTF-16BE k b ys h = absurd k
self t UTF-16LE k b ys h = absurd k
self t x-user-defined k b ys h = rw (lt-ltb b 0x80 h)

-- a run of ASCII alone
pub counts_ascii : (t : Tables) (f : Family) (m : ℕ) → T (keeps f) → {chunk : List ℕ} {p : Place} {n l : ℕ} {room room' : List ℕ} →
    p.state ≡ 0 → p.flag ≡ 0 → Ready chunk p.at room p.written → Copied chunk p.at n p.written room room' → l ≡ line_feeds (part chunk p.at n) →
    Counts t f m chunk p (counted (placed (p.at + n) (p.written + n) 0 0) l) room room'
counts_ascii t f m k {chunk} {p} {n} zero-state zero_flag h c e =
    let G = going_copied t f m (self t f k) (going_start {m = m} {s = plain} h) c in
    let z : n ≡ p.at + n - p.at = omega arith in
    record {
      run = rw (zero-state, zero_flag) G.runs;
      lines = e ∙ ap (λ (n : ℕ). line_feeds (part chunk p.at n)) z ∙ runs_line_feeds t f k G.runs;
    }

-- the line feeds of a run, where they were counted
pub fed : (t : Tables) (f : Family) {m : ℕ} {chunk : List ℕ} {i j k : ℕ} {s s' : Shift} {o o' : ℕ} {room room' : List ℕ} →
    Runs (next t f) m chunk i j s s' o o' room room' →
    k ≡ (keeps f then line_feeds (part chunk i (j - i)) else line_feeds (part room' o (o' - o))) → k ≡ line_feeds (part room' o (o' - o))
fed t f {chunk = chunk} {i = i} {j = j} {k = k} {o = o} {o' = o'} {room' = room'} R e = go (keeps f) refl e
  where
    go : (b : Bool) → keeps f ≡ b → k ≡ (b then line_feeds (part chunk i (j - i)) else line_feeds (part room' o (o' - o))) → k ≡ line_feeds (part room' o (o' - o))
    go true q e = e ∙ runs_line_feeds t f (subst T (sym q) tt) R
    go false q e = e

-- a run behind another
module _ {t : Tables} {f : Family} {m : ℕ} {chunk : List ℕ} (p : Place) (a : Counted) (r : Place) {k : ℕ} {room room' room'' : List ℕ}
    (h : Ready chunk p.at room p.written) (A : Counts t f m chunk p a room room')
    (R : Run t f m chunk (placed a.at a.written a.state a.flag) r room' room'')
    (e : k ≡ line_feeds (part room'' a.written (r.written - a.written))) where
  pub both : Counting t f m chunk p.at r.at (shift_at p) (shift_at r) p.written r.written (a.lines + k) room room''
  both = counting_runs (record { going = record { runs = A.run; began = h; here = (going_runs (going_start h) A.run).here }; lines = A.lines }) R e
