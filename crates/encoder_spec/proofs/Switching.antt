-- ISO-2022-JP: what its handler does with a scalar in a state is what the bytes of one scalar say. Assumes nothing.
use mathlib.Core.Path.{◌≡◌, refl}
use mathlib.Core.Bool.{Bool, true, false, not, ◌&&◌, ◌||◌}
use mathlib.Core.List.{List, [], ◌∷◌, ◌++◌, append-nil}
use mathlib.Core.Option.{Option, some, none}
use Prim.Native.Nat.{ℕ, zero, suc, ◌≤◌, ◌<◌}
use native.Mathlib.Omega.{arith}
use lib.Dec.{eqb, lit≤}
use borrow.Author.Tests.{ltb-true, lt-ltb, eqb-true, ne_eqb}
use Rattle.standard.specs.Base.{◌then◌else◌}
use Rattle.standard.specs.Machine.{Token, token, Result, finished, tokens, error_with, Step, return, Mode}
use Rattle.standard.specs.Handlers.{ascii}
use Rattle.standard.specs.Layouts.{two_bytes, iso2022_jp_layout}
use Rattle.standard.specs.Search.{first, Lookup}
use Rattle.standard.specs.Encoders.Pairs.{pair_or_error_with}
use Rattle.standard.specs.Encoders.EucJp.{jis0208_over}
use Rattle.standard.specs.Encoders.Iso2022Jp.{State, ASCII, Roman, jis0208, state_of, is_jis0208, escape, switch, control, roman_lacks}
use Rattle.standard.specs.Encoders.Iso2022Jp.{changed, changed_pointer, changed_name, by_pointer, iso2022_jp_handler}
use Rattle.standard.specs.Writers.{switching}
use Rattle.standard.specs.Ones.{finish_bytes, shift_to, answered, changed_pair, iso2022_jp_encode, written_in, state_for, encode_one}
use Rattle.standard.proofs.Tests.{choose, or_case}
use Rattle.standard.proofs.ReadsBackIso.{written_small}
use Rattle.encoder_spec.proofs.Running.{Runs, runs_more, runs_tokens, runs_finished}
use Rattle.encoder_spec.proofs.Running.{Does, writes, refuses, shifts_writes, shifts_refuses, Follows}

control_ascii : (c : ℕ) → control c ≡ true → ascii c ≡ true
control_ascii c h = lt-ltb c 0x80 (or_case (eqb c 0x0E || eqb c 0x0F) (eqb c 0x1B) h
    (λ e. or_case (eqb c 0x0E) (eqb c 0x0F) e (λ g. omega (arith, eqb-true c 0x0E g)) (λ g. omega (arith, eqb-true c 0x0F g)))
    (λ e. omega (arith, eqb-true c 0x1B e)))

-- the state stays one of the three
stays_small : (s c : ℕ) (r : Result) → s ≤ 2 → state_for s c r ≤ 2
stays_small s c (tokens bs) l = written_small s c
stays_small s c (error_with n) l = choose (λ n. n ≤ 2) (eqb s 2) (λ _. lit≤ tt) (λ _. l)
stays_small s c finished l = l
stays_small s c Result.continue l = l
stays_small s c Result.error l = l

keeps_state : (es : List ℕ) (s : ℕ) (r : Result) → (answered es s r).state ≡ s
keeps_state es s (tokens bs) = refl
keeps_state es s (error_with n) = refl
keeps_state es s finished = refl
keeps_state es s Result.continue = refl
keeps_state es s Result.error = refl

module _ (look : Lookup) (katakana : List ℕ) where
  abbrev H : State → Token → Step State
  H = iso2022_jp_handler look katakana

  -- What the handler does with a class of scalars in a state.
  module _ (c : ℕ) where
    -- a control
    control_direct : (v : State) → is_jis0208 v ≡ false → control c ≡ true → H v (token c) ≡ return (error_with 0xFFFD) v
    unfolding iso2022_jp_handler
    control_direct v j h = rw (j, h)

    -- ASCII
    ascii_direct : control c ≡ false → ascii c ≡ true → H ASCII (token c) ≡ return (tokens (c ∷ [])) ASCII
    unfolding iso2022_jp_handler
    ascii_direct h a = rw (h, a)

    roman_direct : control c ≡ false → ascii c ≡ true → roman_lacks c ≡ false → H Roman (token c) ≡ return (tokens (c ∷ [])) Roman
    unfolding iso2022_jp_handler
    roman_direct h a n = rw (h, a, n)

    ascii_from_two : ascii c ≡ true → H jis0208 (token c) ≡ switch ASCII (token c)
    unfolding iso2022_jp_handler
    ascii_from_two a = rw a

    ascii_from_roman : control c ≡ false → ascii c ≡ true → roman_lacks c ≡ true → H Roman (token c) ≡ switch ASCII (token c)
    unfolding iso2022_jp_handler
    ascii_from_roman h a n =
        let l : c < 0x80 = ltb-true c 0x80 a in
        rw (h, a, n, ne_eqb c 0xA5 (λ z. omega arith), ne_eqb c 0x203E (λ z. omega arith))

    -- all others go by their pointer
    others : control c ≡ false → ascii c ≡ false → eqb c 0xA5 ≡ false → eqb c 0x203E ≡ false → (v : State) →
        H v (token c) ≡ by_pointer v c (changed_name (changed katakana c) c) (changed_pointer look (changed katakana c))
    unfolding iso2022_jp_handler
    others h a y o ASCII = rw (h, a, y, o)
    others h a y o Roman = rw (h, a, y, o)
    others h a y o jis0208 = rw (a, y, o)

    -- What is answered for the scalar in the state s, written in the state s', is what the handler does.
    abbrev DoesIn : ℕ → ℕ → Result → Type 0
    DoesIn s s' r = Does H (state_of s) c (state_of s') (answered (shift_to s s') s' r).bytes (answered (shift_to s s') s' r).named

    abbrev Doing : ℕ → Result → Type 0
    Doing s r = DoesIn s (state_for s c r) r

    by_name : {n : ℕ} → ((v : State) → H v (token c) ≡ by_pointer v c n none) → (s : ℕ) → s ≤ 2 → Doing s (error_with n)
    by_name {n} h zero l = refuses n (h ASCII)
    by_name {n} h (suc zero) l = refuses n (h Roman)
    by_name {n} h (suc (suc zero)) l = shifts_refuses (escape ASCII) n (h jis0208) (h ASCII)
    by_name h (suc (suc (suc s))) l = absurd (omega arith)

    by_bytes : (n p : ℕ) → ((v : State) → H v (token c) ≡ by_pointer v c n (some p)) → (s : ℕ) → s ≤ 2 →
        DoesIn s 2 (tokens (two_bytes iso2022_jp_layout p))
    by_bytes n p h zero l = shifts_writes (escape jis0208) (two_bytes iso2022_jp_layout p) (h ASCII) (h jis0208)
    by_bytes n p h (suc zero) l = shifts_writes (escape jis0208) (two_bytes iso2022_jp_layout p) (h Roman) (h jis0208)
    by_bytes n p h (suc (suc zero)) l = writes (two_bytes iso2022_jp_layout p) (h jis0208)
    by_bytes n p h (suc (suc (suc s))) l = absurd (omega arith)

    does_changed : (s : ℕ) → s ≤ 2 → written_in s c ≡ 2 → (o : Option ℕ) →
        ((v : State) → H v (token c) ≡ by_pointer v c (changed_name o c) (changed_pointer look o)) → Doing s (changed_pair look o c)
    does_changed s l two none h = by_name h s l
    does_changed s l two (some d) h = go (look first jis0208_over d) h
      where
        go : (p : Option ℕ) → ((v : State) → H v (token c) ≡ by_pointer v c d p) → Doing s (pair_or_error_with iso2022_jp_layout p d)
        go none h = by_name h s l
        go (some p) h = rw two (by_bytes d p h s l)

    does_control : (s : ℕ) → s ≤ 2 → control c ≡ true → Doing s (error_with 0xFFFD)
    does_control zero l h = refuses 0xFFFD (control_direct ASCII refl h)
    does_control (suc zero) l h = refuses 0xFFFD (control_direct Roman refl h)
    does_control (suc (suc zero)) l h =
        shifts_refuses (escape ASCII) 0xFFFD (ascii_from_two (control_ascii c h)) (control_direct ASCII refl h)
    does_control (suc (suc (suc s))) l h = absurd (omega arith)

    does_ascii : (s : ℕ) → s ≤ 2 → control c ≡ false → ascii c ≡ true →
        DoesIn s (eqb s 1 && not (roman_lacks c) then 1 else 0) (tokens (c ∷ []))
    does_ascii zero l h a = writes (c ∷ []) (ascii_direct h a)
    does_ascii (suc zero) l h a = go (roman_lacks c) refl
      where
        go : (b : Bool) → roman_lacks c ≡ b → DoesIn 1 (not b then 1 else 0) (tokens (c ∷ []))
        go true e = shifts_writes (escape ASCII) (c ∷ []) (ascii_from_roman h a e) (ascii_direct h a)
        go false e = writes (c ∷ []) (roman_direct h a e)
    does_ascii (suc (suc zero)) l h a = shifts_writes (escape ASCII) (c ∷ []) (ascii_from_two a) (ascii_direct h a)
    does_ascii (suc (suc (suc s))) l h a = absurd (omega arith)

  does_yen : (s : ℕ) → s ≤ 2 → Doing 0xA5 s (tokens (0x5C ∷ []))
  unfolding iso2022_jp_handler
  does_yen zero l = shifts_writes (escape Roman) (0x5C ∷ []) refl refl
  does_yen (suc zero) l = writes (0x5C ∷ []) refl
  does_yen (suc (suc zero)) l = shifts_writes (escape Roman) (0x5C ∷ []) refl refl
  does_yen (suc (suc (suc s))) l = absurd (omega arith)

  does_overline : (s : ℕ) → s ≤ 2 → Doing 0x203E s (tokens (0x7E ∷ []))
  unfolding iso2022_jp_handler
  does_overline zero l = shifts_writes (escape Roman) (0x7E ∷ []) refl refl
  does_overline (suc zero) l = writes (0x7E ∷ []) refl
  does_overline (suc (suc zero)) l = shifts_writes (escape Roman) (0x7E ∷ []) refl refl
  does_overline (suc (suc (suc s))) l = absurd (omega arith)

  iso_does : (s c : ℕ) → s ≤ 2 → Doing c s (iso2022_jp_encode look katakana c)
  unfolding iso2022_jp_encode
  iso_does s c l =
      choose (Doing c s) (control c) (λ h. does_control c s l h) (λ h.
      choose (Doing c s) (ascii c) (λ a. rw a (does_ascii c s l h a)) (λ a.
      choose (Doing c s) (eqb c 0xA5) (λ y. let q : c ≡ 0xA5 = eqb-true c 0xA5 y in rw q (does_yen s l)) (λ y.
      choose (Doing c s) (eqb c 0x203E) (λ o. let q : c ≡ 0x203E = eqb-true c 0x203E o in rw q (does_overline s l)) (λ o.
      does_changed c s l (rw (a, y, o)) (changed katakana c) (others c h a y o)))))

  iso_ends : (m : Mode) (s : ℕ) (out : List ℕ) → s ≤ 2 → Runs H m 2 (state_of s) [] out (record { result = finished; output = out ++ finish_bytes s })
  unfolding iso2022_jp_handler
  iso_ends m zero out l = rw (append-nil out) (runs_more (lit≤ tt) (runs_finished refl))
  iso_ends m (suc zero) out l = runs_tokens refl (runs_finished refl)
  iso_ends m (suc (suc zero)) out l = runs_tokens refl (runs_finished refl)
  iso_ends m (suc (suc (suc s))) out l = absurd (omega arith)

  pub iso_stays : (s c : ℕ) → s ≤ 2 → (encode_one (switching look katakana) s c).state ≤ 2
  iso_stays s c l =
      let r = iso2022_jp_encode look katakana c in
      rw (keeps_state (shift_to s (state_for s c r)) (state_for s c r) r) (stays_small s c r l)

  pub iso_follows : Follows H state_of (λ s. s ≤ 2) (encode_one (switching look katakana))
  iso_follows = record {
    stays = iso_stays;
    does = λ s c v.
        let r = iso2022_jp_encode look katakana c in
        rw (keeps_state (shift_to s (state_for s c r)) (state_for s c r) r) (iso_does s c v);
    ends = iso_ends;
  }
