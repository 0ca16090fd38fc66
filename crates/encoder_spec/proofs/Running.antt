-- 000's `run` of an encoder, token by token, and that it is the writing: for any handler that does with each scalar what a writer of
-- single scalars says. Assumes nothing.
use mathlib.Core.Path.{◌≡◌, sym, ap, ◌∙◌}
use mathlib.Core.List.{List, [], ◌∷◌, ◌++◌, append_assoc, append-nil}
use mathlib.Core.Option.{Option, some, none}
use Prim.Native.Nat.{ℕ, zero, suc, ◌+◌, ◌*◌, ◌≤◌}
use native.Mathlib.Omega.{arith}
use lib.ListN.{length}
use Rattle.standard.specs.Machine.{Token, token, finished, continue, tokens, error, error_with, Step, return, prepend}
use Rattle.standard.specs.Machine.{stream, read, rest, Mode, fatal, html, reference, Processed, deliver, Ran, run}
use Rattle.standard.specs.Ones.{One, finish_bytes}
use Rattle.encoder_spec.specs.Writing.{Fault, Writing, onward, ahead, writing}
use Rattle.encoder_spec.specs.Statements.{ran}

-- `run` answers r, with this much fuel or more.
pub record Runs {S : Type 0} (h : S → Token → Step S) (m : Mode) (n : ℕ) (v : S) (input : List Token) (out : List ℕ) (r : Ran) :
    Type 0 where
  pub by : (k : ℕ) → n ≤ k → run h m k v input out ≡ some r

module _ {S : Type 0} (h : S → Token → Step S) (m : Mode) where
  turn : ℕ → Processed S → Option Ran
  turn k p = elim p.result [
    | finished ↦ some (record { result = finished; output = p.output })
    | continue ↦ run h m k p.variables p.input p.output
    | tokens ts ↦ some (record { result = tokens ts; output = p.output })
    | error ↦ some (record { result = error; output = p.output })
    | error_with c ↦ some (record { result = error_with c; output = p.output })
  ]

  turns : (k : ℕ) (v : S) (input : List Token) (out : List ℕ) {d : Step S} → h v (read input) ≡ d →
      run h m (suc k) v input out ≡ turn k (deliver m d.result d.variables (d.prepended ++ rest input) out)
  unfolding run turn
  turns k v input out e = ap (λ (d : Step S). turn k (deliver m d.result d.variables (d.prepended ++ rest input) out)) e

module _ {S : Type 0} {h : S → Token → Step S} {v : S} {input : List Token} {out : List ℕ} where
  -- with fuel for one token more
  one_more : {m : Mode} {n : ℕ} {r : Ran} → ((k : ℕ) → n ≤ k → run h m (suc k) v input out ≡ some r) → Runs h m (suc n) v input out r
  one_more {m} {n} {r} f = record { by = go }
    where
      go : (k : ℕ) → suc n ≤ k → run h m k v input out ≡ some r
      go zero l = absurd (omega arith)
      go (suc k) l = f k (omega arith)

  pub runs_more : {m : Mode} {n n' : ℕ} {r : Ran} → n ≤ n' → Runs h m n v input out r → Runs h m n' v input out r
  runs_more q R = record { by = λ k l. R.by k (omega arith) }

module _ {S : Type 0} {h : S → Token → Step S} {v v' : S} {input : List Token} {out : List ℕ} where
  -- a token that gives bytes, and may be prepended again; the end; an error in mode "fatal", and in mode "html"
  pub runs_tokens : {m : Mode} {n : ℕ} {ts : List Token} {bs : List ℕ} {r : Ran} →
      h v (read input) ≡ record { result = tokens bs; variables = v'; prepended = ts } →
      Runs h m n v' (ts ++ rest input) (out ++ bs) r → Runs h m (suc n) v input out r
  unfolding turn deliver
  runs_tokens {m} e R = one_more (λ k l. turns h m k v input out e ∙ R.by k l)

  pub runs_finished : {m : Mode} → h v (read input) ≡ return finished v' →
      Runs h m 1 v input out (record { result = finished; output = out })
  unfolding turn deliver
  runs_finished {m} e = one_more (λ k l. turns h m k v input out e)

  runs_error : {c : ℕ} → h v (read input) ≡ return (error_with c) v' →
      Runs h fatal 1 v input out (record { result = error_with c; output = out })
  unfolding turn deliver
  runs_error e = one_more (λ k l. turns h fatal k v input out e)

  runs_reference : {n c : ℕ} {r : Ran} → h v (read input) ≡ return (error_with c) v' →
      Runs h html n v' (rest input) (out ++ reference c) r → Runs h html (suc n) v input out r
  unfolding turn deliver
  runs_reference e R = one_more (λ k l. turns h html k v input out e ∙ R.by k l)

-- In v the handler answers the scalar c with these bytes or with an error that names a code point, and leaves v': at once, or with an
-- escape sequence first, the scalar being prepended.
pub data Does {S : Type 0} (h : S → Token → Step S) (v : S) (c : ℕ) : S → List ℕ → Option ℕ → Type 0 where
  writes : {v' : S} (bs : List ℕ) → h v (token c) ≡ return (tokens bs) v' → Does h v c v' bs none
  refuses : {v' : S} (n : ℕ) → h v (token c) ≡ return (error_with n) v' → Does h v c v' [] (some n)
  shifts_writes : {v₁ v' : S} (es bs : List ℕ) → h v (token c) ≡ prepend (token c ∷ []) (return (tokens es) v₁) →
      h v₁ (token c) ≡ return (tokens bs) v' → Does h v c v' (es ++ bs) none
  shifts_refuses : {v₁ v' : S} (es : List ℕ) (n : ℕ) → h v (token c) ≡ prepend (token c ∷ []) (return (tokens es) v₁) →
      h v₁ (token c) ≡ return (error_with n) v' → Does h v c v' es (some n)

module _ {S : Type 0} {h : S → Token → Step S} {input : List Token} {out : List ℕ} where
  -- a scalar that is written; one that is not, in each mode
  does_write : {m : Mode} {n c : ℕ} {v v' : S} {bs : List ℕ} {r : Ran} → Does h v c v' bs none → Runs h m n v' input (out ++ bs) r →
      Runs h m (suc (suc n)) v (token c ∷ input) out r
  does_write (writes bs e) R = runs_more (omega arith) (runs_tokens e R)
  does_write (shifts_writes es bs e g) R = runs_tokens e (runs_tokens g (rw (append_assoc out es bs) R))

  does_stop : {c x : ℕ} {v v' : S} {bs : List ℕ} → Does h v c v' bs (some x) →
      Runs h fatal 2 v (token c ∷ input) out (record { result = error_with x; output = out ++ bs })
  does_stop (refuses n e) = rw (append-nil out) (runs_more (omega arith) (runs_error e))
  does_stop (shifts_refuses es n e g) = runs_tokens e (runs_error g)

  does_refer : {n c x : ℕ} {v v' : S} {bs : List ℕ} {r : Ran} → Does h v c v' bs (some x) →
      Runs h html n v' input (out ++ (bs ++ reference x)) r → Runs h html (suc (suc n)) v (token c ∷ input) out r
  does_refer (refuses n e) R = runs_more (omega arith) (runs_reference e R)
  does_refer (shifts_refuses es n e g) R = runs_tokens e (runs_reference g (rw (append_assoc out es (reference n)) R))

-- What a handler and a writer of single scalars must keep to each other in the states that are valid, `at` being the variables in a state.
pub record Follows {S : Type 0} (h : S → Token → Step S) (at : ℕ → S) (Valid : ℕ → Type 0) (one : ℕ → ℕ → One) : Type 0 where
  pub stays : (s c : ℕ) → Valid s → Valid (one s c).state
  pub does : (s c : ℕ) → Valid s → Does h (at s) c (at (one s c).state) (one s c).bytes (one s c).named
  pub ends : (m : Mode) (s : ℕ) (out : List ℕ) → Valid s →
      Runs h m 2 (at s) [] out (record { result = finished; output = out ++ finish_bytes s })

-- The two modes, as 000's and as the writer's numbers.
pub data Same : Mode → ℕ → Type 0 where
  refusing : Same fatal 1
  references : Same html 0

abbrev behind : List ℕ → Ran → Ran
behind out r = record { result = r.result; output = out ++ r.output }

-- bytes in front
further : (out bs : List ℕ) (w : Writing) → behind (out ++ bs) (ran w) ≡ behind out (ran (onward 1 bs w))
further out bs w = go w.unwritable
  where
    go : (o : Option Fault) → behind (out ++ bs) (ran (record { bytes = w.bytes; state = w.state; unwritable = o })) ≡
        behind out (ran (onward 1 bs (record { bytes = w.bytes; state = w.state; unwritable = o })))
    go none =
        let last = append_assoc out bs (w.bytes ++ finish_bytes w.state) in
        let ends = ap (λ (l : List ℕ). out ++ l) (sym (append_assoc bs w.bytes (finish_bytes w.state))) in
        λ i. record { result = finished; output = (last ∙ ends) i }
    go (some f) = λ i. record { result = error_with f.code_point; output = append_assoc out bs w.bytes i }

-- One scalar in front, where the others run as they should.
in_front : {S : Type 0} {h : S → Token → Step S} {m : Mode} {k : ℕ} → Same m k → {v v' : S} (n s c : ℕ) (bs out : List ℕ)
    (input : List Token) (w : Writing) (x : Option ℕ) → Does h v c v' bs x →
    ((out : List ℕ) → Runs h m n v' input out (behind out (ran w))) →
    Runs h m (suc (suc n)) v (token c ∷ input) out (behind out (ran (ahead k (record { bytes = bs; state = s; named = x }) w)))
in_front M n s c bs out input w none D ih = does_write D (rw (further out bs w) at (ih (out ++ bs)))
in_front refusing n s c bs out input w (some x) D ih = runs_more (omega arith) (does_stop D)
in_front references n s c bs out input w (some x) D ih =
    does_refer D (rw (further out (bs ++ reference x) w) at (ih (out ++ (bs ++ reference x))))

-- two tokens for a scalar, two for the end
fuel : ℕ → ℕ
fuel zero = 2
fuel (suc n) = suc (suc (fuel n))

fuel_small : (n : ℕ) → fuel n ≤ 2 * n + 2
unfolding fuel
fuel_small zero = omega arith
fuel_small (suc n) = omega (arith, fuel_small n)

module _ {S : Type 0} {h : S → Token → Step S} {at : ℕ → S} {Valid : ℕ → Type 0} {one : ℕ → ℕ → One} (F : Follows h at Valid one) where
  runs_all : {m : Mode} {k : ℕ} → Same m k → (s : ℕ) (cs out : List ℕ) → Valid s →
      Runs h m (fuel (length cs)) (at s) (stream cs) out (behind out (ran (writing one k s cs)))
  unfolding writing stream fuel
  runs_all {m} M s [] out v = F.ends m s out v
  runs_all {m} {k} M s (c ∷ cs) out v =
      in_front M (fuel (length cs)) (one s c).state c (one s c).bytes out (stream cs)
      (writing one k (one s c).state cs) (one s c).named
      (F.does s c v) (λ out. runs_all M (one s c).state cs out (F.stays s c v))

  pub runs_standard : {m : Mode} {k : ℕ} → Same m k → (s : ℕ) (cs : List ℕ) → Valid s →
      run h m (2 * length cs + 2) (at s) (stream cs) [] ≡ some (ran (writing one k s cs))
  runs_standard M s cs v = (runs_all M s cs [] v).by (2 * length cs + 2) (fuel_small (length cs))
