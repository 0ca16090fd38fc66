-- What is written is what 000's `run` gives. Assumes nothing.
use mathlib.Core.Path.{◌≡◌, refl, ap}
use mathlib.Core.Bool.{true}
use mathlib.Core.List.{List, append-nil}
use mathlib.Core.Option.{some}
use Prim.Native.Nat.{ℕ}
use lib.Dec.{lit≤}
use borrow.Author.Tests.{eqb-true, leb-true}
use Rattle.standard.specs.Machine.{Result, return, Mode}
use Rattle.standard.specs.Search.{Lookup}
use Rattle.standard.specs.Writers.{Writer, Coding, coding, has_state, encode_handler, encoder, standard_encode}
use Rattle.standard.specs.Ones.{plainly, encode_one}
use Rattle.encoder_spec.specs.Writing.{writing}
use Rattle.encoder_spec.specs.Statements.{ran, WritingIsStandard}
use Rattle.encoder_spec.proofs.Encoders.{Answer, bytes, fault, Answers, answering, switches, answers}
use Rattle.encoder_spec.proofs.Running.{Does, writes, refuses, Follows, runs_more, runs_finished, Same, refusing, references, runs_standard}
use Rattle.encoder_spec.proofs.Switching.{iso_follows}

module _ (encode : ℕ → Result) (A : (c : ℕ) → Answer (encode c)) where
  does_plainly : (s c : ℕ) {r : Result} → encode c ≡ r → Answer r →
      Does (encode_handler encode) tt c tt (plainly s r).bytes (plainly s r).named
  unfolding encode_handler
  does_plainly s c e (bytes bs) = writes bs (ap (λ (r : Result). return r tt) e)
  does_plainly s c e (fault n) = refuses n (ap (λ (r : Result). return r tt) e)

  stays_zero : (s : ℕ) {r : Result} → Answer r → s ≡ 0 → (plainly s r).state ≡ 0
  stays_zero s (bytes bs) z = z
  stays_zero s (fault n) z = z

  follows : Follows (encode_handler encode) (λ s. tt) (λ s. s ≡ 0) (λ s c. plainly s (encode c))
  unfolding encode_handler
  follows = record {
    stays = λ s c z. stays_zero s (A c) z;
    does = λ s c z. does_plainly s c refl (A c);
    ends = λ m s out z. rw (z, append-nil out) (runs_more (lit≤ tt) (runs_finished refl));
  }

runs_as_written : (y : Coding) → Answers y → {m : Mode} {k : ℕ} → Same m k → (s : ℕ) (cs : List ℕ) → has_state y s ≡ true →
    standard_encode (encoder y) m s cs ≡ some (ran (writing (encode_one y) k s cs))
unfolding standard_encode
runs_as_written y (answering {encode} A) M s cs h = runs_standard (follows encode A) M s cs (eqb-true s 0 h)
runs_as_written y (switches look katakana) M s cs h = runs_standard (iso_follows look katakana) M s cs (leb-true s 2 h)

pub writing_is_standard : (w : Writer) (look : Lookup) (second : List ℕ) (s : ℕ) (cs : List ℕ) → has_state (coding w look second) s ≡ true →
    WritingIsStandard w look second s cs
writing_is_standard w look second s cs h = record {
  refusing = runs_as_written (coding w look second) (answers w look second) refusing s cs h;
  html_mode = runs_as_written (coding w look second) (answers w look second) references s cs h;
}
