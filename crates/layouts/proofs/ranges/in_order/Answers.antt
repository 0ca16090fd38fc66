use Rattle.std.proofs.Common.{rules, tests, arith, ◌≡◌, ℕ, ◌+◌, ◌-◌, ◌/◌, ◌≤◌, ◌∙◌, length, get_or, refl}
use Rattle.std.specs.List.{range_with_len}
use Rattle.std.proofs.lemmas.Iterator.{cases_from_all, YieldsList-from_range}
use Rattle.std.proofs.lemmas.List.FromFn.{get_or-range_with_len, length-range_with_len}
use Rattle.layouts.specs.Ranges.{number}
use Rattle.layouts.proofs.ranges.in_order.Goals as goal

-- each pair but the first is not below the one in front of it
pub returns-then-ranges-le65536 : goal.returns-then-ranges-le65536
returns-then-ranges-le65536 c = λ e.
    let back = c.args.back in
    let ranges = c.args.ranges.now in
    let n = length ranges / 2 in
    let InOrder : ℕ → Type 0 = λ j. number back ranges (j - 1) ≤ number back ranges j in
    let told = cases_from_all {v = λ (x : ℕ). x} {all = range_with_len 1 (n - 1)} _ _ _ InOrder (λ j. Unit {0})
    c.all.ensures.ran (YieldsList-from_range 1 n (n - 1) refl refl) (λ x q k. search (rules, tests)) (λ x q k. tt) in
    let all = rw e at told in
    record {
      short = omega arith;
      order = λ k h.
          let at : get_or (range_with_len 1 (n - 1)) k 0 ≡ k + 1 = get_or-range_with_len 1 (n - 1) k 0 (omega arith) ∙ omega arith in
          let back_one : k + 1 - 1 ≡ k = omega arith in
          rw (at, back_one) at (all k 0 (omega arith) (omega (arith, length-range_with_len 1 (n - 1))));
    }
