use Rattle.std.proofs.Common.{◌+◌, ◌≡◌, ◌≤◌, ◌<◌, ℕ, Bool, true, false, ◌&&◌, ltb, refl, arith}
use mir.Val.{bool_byte}
use borrow.Author.Tests.{ltb-true}
use Rattle.standard.proofs.Tests.{split}
use Rattle.runs.proofs.Stretches.{copied_none, copied_one, copied_step}
use Rattle.runs.proofs.ascii.copy_front.Goals as goal

-- What is added to `last`: 1 while each byte is below 80, and then 0.
told : (low : Bool) (b n : ℕ) → n ≡ bool_byte (low && ltb b 0x80) → (n ≤ 1) × (1 ≤ n → (low ≡ true) × (b < 0x80)) × (low && ltb b 0x80 ≡ true → 1 ≤ n)
told false b n e = (omega arith, λ h. absurd (omega arith), λ t. absurd (cc))
told true b n e = split (ltb b 0x80)
    (λ t. let one : n ≡ 1 = rw t at e in (omega arith, λ h. (refl, ltb-true b 0x80 t), λ u. omega arith))
    (λ f. let none : n ≡ 0 = rw f at e in (omega arith, λ h. absurd (omega arith), λ u. absurd (cc)))

pub returns-then-chunk-at-ge128 : goal.returns-then-chunk-at-ge128
returns-then-chunk-at-ge128 c = (copied_none, λ l q. absurd (omega arith), omega arith)

pub returns-then-chunk-at-ge128-2 : goal.returns-then-chunk-at-ge128-2
returns-then-chunk-at-ge128-2 c =
    let args = c.args in
    (rw c.from.ensures (copied_one args.chunk.now args.at args.o args.room.now (omega arith) c.if-chunk-at-ge128.false (omega arith)), λ l q. omega arith, omega arith)

pub loop-k-init : goal.loop-k-init
loop-k-init c =
    let args = c.args in
    let one = copied_one args.chunk.now args.at args.o args.room.now (omega arith) c.if-chunk-at-ge128.false (omega arith) in
    record { copied = rw c.from.ensures one; ready = c.requires.0; inside = c.requires.1; behind = omega arith; low = λ t. refl }

pub loop-k-preserved : goal.loop-k-preserved
loop-k-preserved c =
    let at = c.loop-k in
    let inv = at.invariant in
    let more = told at.low _ c.from-last.result c.from-last.ensures in
    let next : 1 ≤ c.from-last.result → at.last + c.from-last.result ≡ at.k = λ h. omega (arith, inv.low (more.1 h).0, more.0) in
    record {
      copied = rw c.from-in-loop-k.ensures (copied_step at.last c.from-last.result inv.copied (omega (arith, more.0)) (omega (arith, more.0, inv.ready.fits)) more.0 (λ h. rw (next h) (more.1 h).1));
      ready = inv.ready;
      inside = inv.inside;
      behind = omega (arith, more.0);
      low = λ t. omega (arith, next (more.2 t));
    }

pub returns : goal.returns
returns c = (c.loop-k.invariant.copied, λ l q. omega arith, omega arith)
