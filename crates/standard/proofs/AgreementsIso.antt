-- The handler of ISO-2022-JP agrees with its sequences. Assumes nothing.
use mathlib.Core.Path.{◌≡◌, refl, sym, ap}
use mathlib.Core.Bool.{Bool, true, false, not, ◌&&◌, ◌||◌}
use mathlib.Core.List.{List, [], ◌∷◌}
use mathlib.Core.Option.{Option, some, none}
use Prim.Native.Nat.{ℕ, ◌+◌, ◌-◌, ◌*◌}
use native.Mathlib.Omega.{arith}
use lib.Dec.{leb, eqb, lit≤}
use borrow.Author.Tests.{leb-true, leb-false, eqb-true, lt-leb, le-leb}
use Rattle.standard.specs.Base.{◌then◌else◌, within, every, Bytes}
use Rattle.standard.specs.Encodings.{Tables, ISO-2022-JP}
use Rattle.standard.specs.Indexes.{index_code_point}
use Rattle.standard.specs.Machine.{Token, token, end_of-stream, finished, continue, tokens, Step, return, stream}
use Rattle.standard.specs.Machine.{error as failed}
use Rattle.standard.specs.Handlers.{or_error, State, ASCII, Roman, katakana, lead_byte, trail_byte, escape_start, escape, Iso2022JpVariables, escape_state, after_escape, iso2022_jp_at, held_iso2022_jp, decoder}
use Rattle.standard.specs.Sequence.{Shift, text, error, Next, more, item, shift, cell}
use Rattle.standard.specs.Layouts.{leads, trails, pointer_of, iso2022_jp_layout}
use Rattle.standard.specs.Sequences.Iso2022Jp.{iso2022_jp, escaped, byte_out, code_out, escape_end, trail_next}
use Rattle.standard.specs.Next.{next}
use Rattle.standard.specs.Decode.{Item, span, decode, reads, last_out, iso_end, ending}
use Rattle.standard.proofs.Layouts.{pair_led}
use Rattle.standard.proofs.Tests.{or_case}
use Rattle.standard.proofs.FamilyLaws.{keeps, next_laws}
use Rattle.standard.proofs.Reading.{empty as next-empty}
use Rattle.standard.proofs.Simulation.{Sim, Steps, EndSteps, again, Agreement, total, total_more, sim_test, sim_more, sim_item}
use Rattle.standard.proofs.AgreementsLeaves.{nullable, index_null}

-- The four output states, as 000 names them and as the sequences number them.
data Output : Type 0 where
  ascii roman kana double : Output

abbrev state_of : Output → State
state_of ascii = ASCII
state_of roman = Roman
state_of kana = katakana
state_of double = lead_byte

abbrev number : Output → ℕ
number ascii = 0
number roman = 1
number kana = 2
number double = 3

abbrev iso : State → State → ℕ → Bool → Iso2022JpVariables
iso q o l f = record { state = q; output_state = o; lead = l; output = f }

data Iso2022JpAt : Shift → List ℕ → Iso2022JpVariables → Type 0 where
  iso0 : (q : Output) (l : ℕ) (f : Bool) → Iso2022JpAt (shift (number q) f) [] (iso (state_of q) (state_of q) l f)
  esc1 : (q : Output) (l : ℕ) (f : Bool) → Iso2022JpAt (shift (number q) f) (0x1B ∷ []) (iso escape_start (state_of q) l f)
  esc2 : (q : Output) (c : ℕ) (f : Bool) → eqb c 0x24 || eqb c 0x28 ≡ true → Iso2022JpAt (shift (number q) f) (0x1B ∷ c ∷ []) (iso escape (state_of q) c f)
  trail : (b : ℕ) (f : Bool) → eqb b 0x1B ≡ false → within 0x21 b 0x7E ≡ true → Iso2022JpAt (shift 3 f) (b ∷ []) (iso trail_byte lead_byte b false)

high_not : (x : ℕ) → leb x 0x7F ≡ not (leb 0x80 x)
high_not x = go (leb 0x80 x) refl
  where
    go : (t : Bool) → leb 0x80 x ≡ t → leb x 0x7F ≡ not t
    go true e = lt-leb x 0x7F (leb-true 0x80 x e)
    go false e = le-leb x 0x7F (omega (arith, leb-false 0x80 x e))

module _ (t : Tables) where
  abbrev sequences : Shift → List ℕ → Next
  sequences = next t ISO-2022-JP

  abbrev handler : Iso2022JpVariables → Token → Step Iso2022JpVariables
  handler v = iso2022_jp_at t v.state v

  waits : (s : Shift) → next t ISO-2022-JP s [] ≡ more
  waits = next-empty t ISO-2022-JP

  -- a byte that stands for itself, or an error
  itself : (s : Shift) (x : ℕ) (n : ℕ) (w : Iso2022JpVariables) → Iso2022JpAt (shift n false) [] w → (a b c : Bool) →
      Sim Iso2022JpAt sequences s (x ∷ []) (item 1 (shift n false) (a || b || c then error else text (x ∷ []))) (not a && not (b || c) then return (tokens (x ∷ [])) w else return failed w)
  unfolding stream
  itself s x n w i true b c = sim_item waits 1 i refl
  itself s x n w i false true c = sim_item waits 1 i refl
  itself s x n w i false false true = sim_item waits 1 i refl
  itself s x n w i false false false = sim_item waits 1 i refl

  -- In Roman 000 tests 5C and 7E first, the sequences last.
  at_roman : (l : ℕ) (f : Bool) (x : ℕ) (a b : Bool) → eqb x 0x5C ≡ a → eqb x 0x7E ≡ b → Sim Iso2022JpAt sequences (shift 1 f) (x ∷ [])
      (item 1 (shift 1 false) (leb 0x80 x || eqb x 0x0E || eqb x 0x0F then error else a then text (0xA5 ∷ []) else b then text (0x203E ∷ []) else text (x ∷ [])))
      (a then return (tokens (0xA5 ∷ [])) (iso Roman Roman l false) else b then return (tokens (0x203E ∷ [])) (iso Roman Roman l false) else
      not (leb 0x80 x) && not (eqb x 0x0E || eqb x 0x0F) then return (tokens (x ∷ [])) (iso Roman Roman l false) else return failed (iso Roman Roman l false))
  unfolding stream
  at_roman l f x true b p q = rw (eqb-true x 0x5C p) (sim_item waits 1 (iso0 roman l false) refl)
  at_roman l f x false true p q = rw (eqb-true x 0x7E q) (sim_item waits 1 (iso0 roman l false) refl)
  at_roman l f x false false p q = itself (shift 1 f) x 1 (iso Roman Roman l false) (iso0 roman l false) (leb 0x80 x) (eqb x 0x0E) (eqb x 0x0F)

  at_kana : (l : ℕ) (f : Bool) (x : ℕ) (a : Bool) → Sim Iso2022JpAt sequences (shift 2 f) (x ∷ []) (item 1 (shift 2 false) (a then text ((0xFF61 - 0x21 + x) ∷ []) else error))
      (a then return (tokens ((0xFF61 - 0x21 + x) ∷ [])) (iso katakana katakana l false) else return failed (iso katakana katakana l false))
  unfolding stream
  at_kana l f x true = sim_item waits 1 (iso0 kana l false) refl
  at_kana l f x false = sim_item waits 1 (iso0 kana l false) refl

  -- a byte with nothing held
  alone : (q : Output) (l : ℕ) (f : Bool) (x : ℕ) (u : Bool) → eqb x 0x1B ≡ u →
      Sim Iso2022JpAt sequences (shift (number q) f) (x ∷ []) (next t ISO-2022-JP (shift (number q) f) (x ∷ [])) (handler (iso (state_of q) (state_of q) l f) (token x))
  unfolding next iso2022_jp iso2022_jp_at byte_out stream
  alone ascii l f x true e = rw (eqb-true x 0x1B e) (sim_more (esc1 ascii l f))
  alone ascii l f x false e = rw (e, high_not x) (itself (shift 0 f) x 0 (iso ASCII ASCII l false) (iso0 ascii l false) (leb 0x80 x) (eqb x 0x0E) (eqb x 0x0F))
  alone roman l f x true e = rw (eqb-true x 0x1B e) (sim_more (esc1 roman l f))
  alone roman l f x false e = rw (e, high_not x) (at_roman l f x (eqb x 0x5C) (eqb x 0x7E) refl refl)
  alone kana l f x true e = rw (eqb-true x 0x1B e) (sim_more (esc1 kana l f))
  alone kana l f x false e = rw e (at_kana l f x (within 0x21 x 0x5F))
  alone double l f x true e = rw (eqb-true x 0x1B e) (sim_more (esc1 double l f))
  alone double l f x false e = rw e (sim_test (within 0x21 x 0x7E) (λ p. sim_more (trail x f e p)) (λ _. sim_item waits 1 (iso0 double l false) refl))

  -- a whole escape, or none
  chosen : (q q' : Output) (c x : ℕ) (f : Bool) → Sim Iso2022JpAt sequences (shift (number q) f) (0x1B ∷ c ∷ x ∷ []) (item 3 (shift (number q') true) (f then error else text []))
      (return (f then failed else continue) (iso (state_of q') (state_of q') 0 true))
  unfolding stream
  chosen q q' c x true = sim_item waits 3 (iso0 q' 0 true) refl
  chosen q q' c x false = sim_item waits 3 (iso0 q' 0 true) refl

  whole_escape : (q : Output) (c x : ℕ) (f : Bool) →
      Sim Iso2022JpAt sequences (shift (number q) f) (0x1B ∷ c ∷ x ∷ []) (escape_end (shift (number q) f) c x) (after_escape (escape_state c x) (iso escape (state_of q) c f) (token c ∷ token x ∷ []))
  unfolding escaped stream
  whole_escape q c x f = go (eqb c 0x28 && eqb x 0x42) (eqb c 0x28 && eqb x 0x4A) (eqb c 0x28 && eqb x 0x49) (eqb c 0x24 && (eqb x 0x40 || eqb x 0x42))
    where
      choice : {A : Type 0} → Bool → Bool → Bool → Bool → A → A → A → A → A → A
      choice a b d e w x y z other = a then w else b then x else d then y else e then z else other

      go : (a b d e : Bool) → Sim Iso2022JpAt sequences (shift (number q) f) (0x1B ∷ c ∷ x ∷ [])
          (leb 4 (choice a b d e 0 1 2 3 4) then item 1 (shift (number q) false) error else item 3 (shift (choice a b d e 0 1 2 3 4) true) (f then error else text []))
          (after_escape (choice a b d e (some ASCII) (some Roman) (some katakana) (some lead_byte) none) (iso escape (state_of q) c f) (token c ∷ token x ∷ []))
      go true b d e = chosen q ascii c x f
      go false true d e = chosen q roman c x f
      go false false true e = chosen q kana c x f
      go false false false true = chosen q double c x f
      go false false false false = sim_item waits 1 (iso0 q 0 false) refl

  -- a trail byte
  point : (b x c : ℕ) (f : Bool) (cp : Option ℕ) → cp ≡ nullable c → Sim Iso2022JpAt sequences (shift 3 f) (b ∷ x ∷ []) (item 2 (shift 3 false) (code_out c)) (or_error cp (iso lead_byte lead_byte b false))
  unfolding stream
  point b x c f cp e = rw e (go (eqb c 0))
    where
      go : (u : Bool) → Sim Iso2022JpAt sequences (shift 3 f) (b ∷ x ∷ []) (item 2 (shift 3 false) (u then error else text (c ∷ []))) (or_error (u then none else some c) (iso lead_byte lead_byte b false))
      go true = sim_item waits 2 (iso0 double b false) refl
      go false = sim_item waits 2 (iso0 double b false) refl

  at_trail : (b x : ℕ) (f : Bool) → leads iso2022_jp_layout b ≡ true → Sim Iso2022JpAt sequences (shift 3 f) (b ∷ x ∷ []) (trail_next t.first b x) (handler (iso trail_byte lead_byte b false) (token x))
  unfolding stream next iso2022_jp iso2022_jp_at pointer_of
  at_trail b x f r = rw (pair_led iso2022_jp_layout t.first b x r) (sim_test (eqb x 0x1B)
      (λ e. record { agree = (refl, record { held = 0x1B ∷ []; back = []; split = rw (eqb-true x 0x1B e); put_back = refl; stands = esc1 double b false; waits = refl }) })
      (λ _. go (trails iso2022_jp_layout x)))
    where
      p : ℕ
      p = (b - 0x21) * 94 + (x - 0x21)

      w : Iso2022JpVariables
      w = iso lead_byte lead_byte b false

      go : (u : Bool) → Sim Iso2022JpAt sequences (shift 3 f) (b ∷ x ∷ []) (item 2 (shift 3 false) (code_out (u then cell t.first p else 0))) (u then or_error (index_code_point t.first p) w else return failed w)
      go true = point b x (cell t.first p) f (index_code_point t.first p) (index_null t.first p)
      go false = sim_item waits 2 (iso0 double b false) refl

  iso_2022_jp_sim : Steps Iso2022JpAt sequences handler
  unfolding next iso2022_jp iso2022_jp_at stream
  iso_2022_jp_sim s held v (iso0 q l f) x h = alone q l f x (eqb x 0x1B) refl
  iso_2022_jp_sim s held v (esc1 q l f) x h = sim_test (eqb x 0x24 || eqb x 0x28) (λ e. sim_more (esc2 q x f e)) (λ _. sim_item waits 1 (iso0 q l false) refl)
  iso_2022_jp_sim s held v (esc2 q c f p) x h = rw p (whole_escape q c x f)
  iso_2022_jp_sim s held v (trail b f p r) x h = rw (p, r) (at_trail b x f r)

  iso_2022_jp_on_end : (s : Shift) (v : Iso2022JpVariables) → Iso2022JpAt s [] v → (handler v end_of-stream).result ≡ finished
  unfolding iso2022_jp_at
  iso_2022_jp_on_end s v (iso0 ascii l f) = refl
  iso_2022_jp_on_end s v (iso0 roman l f) = refl
  iso_2022_jp_on_end s v (iso0 kana l f) = refl
  iso_2022_jp_on_end s v (iso0 double l f) = refl

  -- the byte after 1B, at the end of input
  after_escape_lem : (q : Output) (c : ℕ) (f : Bool) → eqb c 0x24 || eqb c 0x28 ≡ true →
      span 1 (last_out (next t ISO-2022-JP (shift (number q) f) (c ∷ []))) ∷ [] ≡ total sequences (ending t ISO-2022-JP) (shift (number q) false) (c ∷ [])
  unfolding total decode reads next iso2022_jp byte_out ending iso_end
  after_escape_lem q c f p = or_case (eqb c 0x24) (eqb c 0x28) p (λ e. rw (eqb-true c 0x24 e) (dollar q)) (λ e. rw (eqb-true c 0x28 e) (bracket q))
    where
      dollar : (q : Output) → span 1 (last_out (next t ISO-2022-JP (shift (number q) f) (0x24 ∷ []))) ∷ [] ≡ total sequences (ending t ISO-2022-JP) (shift (number q) false) (0x24 ∷ [])
      dollar ascii = refl
      dollar roman = refl
      dollar kana = refl
      dollar double = refl

      bracket : (q : Output) → span 1 (last_out (next t ISO-2022-JP (shift (number q) f) (0x28 ∷ []))) ∷ [] ≡ total sequences (ending t ISO-2022-JP) (shift (number q) false) (0x28 ∷ [])
      bracket ascii = refl
      bracket roman = refl
      bracket kana = refl
      bracket double = refl

  nothing_left : (s : Shift) → [] ≡ total sequences (ending t ISO-2022-JP) s []
  unfolding ending iso_end
  nothing_left s = sym (total_more (keeps ISO-2022-JP) sequences (next_laws t ISO-2022-JP) (ending t ISO-2022-JP) s [] (waits s))

  small : (c : ℕ) → eqb c 0x24 || eqb c 0x28 ≡ true → Bytes (c ∷ [])
  unfolding every
  small c p = or_case (eqb c 0x24) (eqb c 0x28) p (λ e. rw (eqb-true c 0x24 e) tt) (λ e. rw (eqb-true c 0x28 e) tt)

  iso_2022_jp_end : EndSteps Iso2022JpAt sequences handler (ending t ISO-2022-JP)
  unfolding iso2022_jp_at ending iso_end stream every
  iso_2022_jp_end s x held v (esc1 q l f) = again (shift (number q) false) [] refl refl (iso0 q l false) (lit≤ tt) tt (ap (λ (is : List Item). span 1 error ∷ is) (nothing_left (shift (number q) false)))
  iso_2022_jp_end s x held v (esc2 q c f p) = again (shift (number q) false) (c ∷ []) refl refl (iso0 q 0 false) (lit≤ tt) (small c p) (ap (λ (is : List Item). span 1 error ∷ is) (after_escape_lem q c f p))
  iso_2022_jp_end s x held v (trail b f p r) = again (shift 3 false) [] refl refl (iso0 double b false) (lit≤ tt) tt (ap (λ (is : List Item). span 1 error ∷ is) (nothing_left (shift 3 false)))

  iso_2022_jp_held : (s : Shift) (held : List ℕ) (v : Iso2022JpVariables) → Iso2022JpAt s held v → held_iso2022_jp v.state v.lead ≡ held
  iso_2022_jp_held s l v (iso0 ascii x f) = refl
  iso_2022_jp_held s l v (iso0 roman x f) = refl
  iso_2022_jp_held s l v (iso0 kana x f) = refl
  iso_2022_jp_held s l v (iso0 double x f) = refl
  iso_2022_jp_held s l v (esc1 q x f) = refl
  iso_2022_jp_held s l v (esc2 q c f p) = refl
  iso_2022_jp_held s l v (trail b f p q) = refl

  pub iso_2022_jp_agrees : Agreement (decoder t ISO-2022-JP) (next t ISO-2022-JP) (ending t ISO-2022-JP)
  unfolding ending iso_end
  iso_2022_jp_agrees = record { At = Iso2022JpAt; starts = iso0 ascii 0 false; holds = iso_2022_jp_held; on_byte = iso_2022_jp_sim; on_end = iso_2022_jp_on_end; none_held = λ s. refl; on_end_held = iso_2022_jp_end }
