-- 000's decoder on a whole input, before the end of the input with the bytes that document 01 says are held, and on fronts of the input.
-- Assumes nothing.
use Rattle.std.specs.Prelude.{Bool, true, false, not, List, [], ◌∷◌, ℕ, zero, suc, ◌+◌, ◌*◌, eqb, length, take}
use Rattle.std.proofs.Math.Option.{Option, some, none}
use Rattle.standard.specs.Base.{◌then◌else◌}
use Rattle.standard.specs.Encodings.{Tables, Family}
use Rattle.standard.specs.Machine.{Token, Result, finished, continue, tokens, error, error_with, Step, Mode, replacement, fatal, process, Ran, run, stream}
use Rattle.standard.specs.Handlers.{decoder}

-- A new decoder run on the whole input: 000's `run`. The fuel is enough, since the theorems equate this with `some`.
unfoldable pub standard : Tables → Family → Mode → List ℕ → Option Ran
standard t f m xs = run (decoder t f).handler m (5 * length xs + 1) (decoder t f).new (stream xs) []

-- Did `run` return an error?
abbrev pub is_error : Result → Bool
is_error finished = false
is_error continue = false
is_error (tokens ts) = false
is_error error = true
is_error (error_with c) = true

-- 01, rule "drop": the first scalar is dropped if it is U+FEFF.
abbrev pub drop_mark : List ℕ → List ℕ
drop_mark [] = []
drop_mark (c ∷ cs) = eqb c 0xFEFF then cs else c ∷ cs

-- What a decoder has put out so far, and the bytes that it holds.
pub record SoFar : Type 0 where
  pub output : List ℕ
  pub held : List ℕ

-- `run` in mode "replacement", stopped where the stream is empty instead of reading end-of-stream.
unfoldable pub pause : {S : Type 0} → (S → Token → Step S) → (S → List ℕ) → ℕ → S → List Token → List ℕ → Option SoFar
pause handler held zero v input output = none
pause handler held (suc fuel) v [] output = some (record { output = output; held = held v })
pause handler held (suc fuel) v (x ∷ input) output =
    let p = process handler replacement x v input output in
    elim p.result [
      | finished ↦ some (record { output = p.output; held = held p.variables })
      | continue ↦ pause handler held fuel p.variables p.input p.output
      | tokens ts ↦ some (record { output = p.output; held = held p.variables })
      | error ↦ some (record { output = p.output; held = held p.variables })
      | error_with c ↦ some (record { output = p.output; held = held p.variables })
    ]

unfoldable pub standard_so_far : Tables → Family → List ℕ → Option SoFar
standard_so_far t f xs = pause (decoder t f).handler (decoder t f).held (5 * length xs + 1) (decoder t f).new (stream xs) []

-- 02, the place of an error: the length of the longest front that `run` reads in mode "fatal" without an error.
-- Bytes held at the end of a front are an error.
abbrev pub comes_through : Option Ran → Bool
comes_through none = false
comes_through (some r) = not (is_error r.result)

-- the length of the longest front of xs, of at most n elements, that passes a test
unfoldable pub longest : (List ℕ → Bool) → List ℕ → ℕ → ℕ
longest p xs zero = 0
longest p xs (suc n) = p (take (suc n) xs) then suc n else longest p xs n

unfoldable pub standard_place : Tables → Family → List ℕ → ℕ
standard_place t f xs = longest (λ ys. comes_through (standard t f fatal ys)) xs (length xs)
