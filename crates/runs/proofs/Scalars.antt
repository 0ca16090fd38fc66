-- A sequence that gives one scalar, by what it gives. Assumes nothing.
use mathlib.Core.Path.{◌≡◌, refl, ◌∙◌}
use mathlib.Core.List.{[]}
use Prim.Native.Nat.{ℕ}
use Rattle.std.specs.Prelude.{Option, Some, None, IfSome}
use Rattle.standard.specs.Sequence.{Shift, Next, text, error, item, plain, bad}
use Rattle.sequences.specs.Code.{item_of, next_of}
use Rattle.sequences.specs.declared.Out.TheVariants.{Nothing}
use Rattle.sequences.specs.declared.Sequence.{Sequence}
use Rattle.runs.specs.Run.{left, Gives}

-- what the sequence is, where there is one
pub item_there : (r : Option Sequence) (n : Next) → next_of r ≡ n → IfSome r (λ q. item_of q ≡ n)
item_there None n h = tt
item_there (Some q) n h = h

-- a sequence that gives nothing
pub silent_item : (q : Sequence) → q.out ≡ Nothing → item_of q ≡ item q.width (left q) (text [])
silent_item q h = rw h

-- an error, which is replaced
pub gives_bad : (m : ℕ) {a : Next} {k : ℕ} → a ≡ bad k → (m ≡ 1 → ⊥) → Gives m a k plain 0xFFFD
gives_bad m e h = record { out = error; is = e; gives = refl; allowed = λ z o. h z }

-- the same sequence by other words
pub gives_same : {m : ℕ} {a a' : Next} {k : ℕ} {s : Shift} {c : ℕ} → a ≡ a' → Gives m a' k s c → Gives m a k s c
gives_same e g = record { out = g.out; is = e ∙ g.is; gives = g.gives; allowed = g.allowed }
