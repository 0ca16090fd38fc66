use Rattle.std.proofs.Common.{◌≡◌, arith, length-set}
use Rattle.std.proofs.Math.Logic.{◌⊎◌, inl, inr, ⊎_elim}
use Rattle.program_text.proofs.Texts.{same, made_more, made_all}
use Rattle.program_text.proofs.lines.put_digits.Goals as goal
use Rattle.program_text.proofs.lines.put_digits.Goals.{then-loop-start-test+else-left-gt0, else-loop-start-test}

pub loop-start-preserved : goal.loop-start-preserved
loop-start-preserved g c =
    let l = c.loop-start in
    let more : l.owed ≡ 0 → l.left ≡ 0 → ⊥ = λ e f. ⊎_elim (λ p. omega arith) (λ p. omega arith) c.if-left-gt0.either in
    record {
      sized = simp length-set l.invariant.sized;
      within = omega arith;
      made = made_more _ _ l.text l.start l.owed l.left l.invariant.made _ _ (omega arith) (omega arith) more c.saturating_sub-owed.ensures c.digit.ensures;
    }

pub returns : goal.returns
returns g c =
    let l = c.loop-start in
    let end : (l.start ≡ 0) ⊎ ((l.owed ≡ 0) × (l.left ≡ 0)) = elim c.loop-start-test.branch [
      | then-loop-start-test+else-left-gt0 w ↦ inr (omega arith, omega arith)
      | else-loop-start-test w ↦ inl (omega arith)
    ] in
    same (made_all _ _ l.text l.start l.owed l.left l.invariant.made end) c.put_bytes.ensures
