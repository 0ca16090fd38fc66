use mathlib.Core.Path.{◌≡◌, refl, sym, ap, ◌∙◌}
use mathlib.Core.List.{List, [], ◌++◌}
use Prim.Native.Nat.{ℕ, ◌+◌, ◌≤◌}
use native.Mathlib.Omega.{arith}
use Rattle.std.proofs.Common.{rules}
use lib.ListN.{length, length-append}
use Rattle.std.specs.Slice.Iter.{chunks_rest}
use Rattle.std.proofs.lemmas.List.{nil_from_length}
use Rattle.std.proofs.lemmas.Result.{err_from_is_err_and}
use Rattle.standard.specs.Encodings.{Tables, lent}
use Rattle.clean.specs.Checking.{checking}
use Rattle.clean.specs.declared.Checked.{Checked}
use Rattle.clean.proofs.Theorems.{accepted}
use Rattle.clean.proofs.Walking.{Walked, walked_none, walked_on, walked_fault, walked_end_fault, walked_clean}
use Rattle.clean.proofs.walk.Goals as goal
use Rattle.clean.proofs.walk.Goals.{After-feed-fed, After-finish-last, At-loop-part}

-- what is lent, and the answer
abbrev tables : At-loop-part → Tables
tables c = lent c.args.t1.now c.args.t2.now

abbrev answer : At-loop-part → Checked
answer c = checking c.args.encoding (tables c) c.args.bytes.now

-- the part that is fed, and what is left behind it
abbrev rest : After-feed-fed → List ℕ
rest f = chunks_rest f.next.new.self

walked : (f : After-feed-fed) → Walked (tables (goal.at.After-feed-fed f).At-loop-part) (answer (goal.at.After-feed-fed f).At-loop-part) (f.in-Some.part.now ++ rest f) f.loop-part.decoder
walked f = rw f.in-Some.ensures.steps.1.0 at f.loop-part.invariant.4

few : (f : After-feed-fed) → length f.in-Some.part.now ≤ 65536
few f = omega (arith, f.in-Some.ensures.steps.1.1)

fits : (f : After-feed-fed) → length f.in-Some.part.now + 3 ≤ length f.loop-part.room
fits f = omega (arith, f.in-Some.ensures.steps.1.1)

less : (f : After-feed-fed) → length (rest f) ≤ 65536
less f = omega (arith, ap length f.in-Some.ensures.steps.1.0, length-append {A = ℕ})

-- at the finish nothing is left
done : (f : After-finish-last) → Walked (tables (goal.at.After-finish-last f).At-loop-part) (answer (goal.at.After-finish-last f).At-loop-part) [] f.loop-part.decoder
done f = rw (nil_from_length (chunks_rest f.loop-part.part-iterator) f.in-None.ensures.steps.1.0) at f.loop-part.invariant.4

enough : (f : After-finish-last) → 3 ≤ length f.loop-part.room
enough f = omega (arith, f.loop-part.invariant)

pub loop-part-init : goal.loop-part-init
loop-part-init c =
    let t = lent c.args.t1.now c.args.t2.now in
    let xs = c.args.bytes.now in
    let all : chunks_rest c.into_iter-part-iterator.result ≡ xs = ap chunks_rest c.into_iter-part-iterator.ensures.into_iter_gives ∙ c.chunks-part-items.ensures.rest in (
      rw all (accepted c.args.encoding t xs c.requires.0).few,
      refl,
      c.requires.1,
      search rules,
      rw (all, c.open.ensures) (walked_none c.args.encoding t xs c.requires.0),
    )

pub returns-in_err-decoder : goal.returns-in_err-decoder
returns-in_err-decoder c =
    let p = err_from_is_err_and c.from_residual.result c.from_residual.ensures.1 in
    let f = (goal.at.returns-in_err-decoder c).After-feed-fed in
    rw (p.1, p.2, c.in_err-decoder.ensures.1)
    (sym (walked_fault (tables (goal.at.After-feed-fed f).At-loop-part) (answer (goal.at.After-feed-fed f).At-loop-part) c.loop-part.decoder c.in-Some.part.now c.loop-part.room (rest f)
    (walked f) (few f) (fits f) c.feed-fed.result c.feed-fed.ensures.0 (less f) c.in_err-decoder.ensures.0))

pub loop-part-preserved : goal.loop-part-preserved
loop-part-preserved c = (
  less (goal.at.loop-part-preserved c).After-feed-fed,
  c.feed-fed.auto.room ∙ c.loop-part.invariant.1,
  c.loop-part.invariant.2,
  c.in-Some.ensures.steps.0 ∙ c.loop-part.invariant.3,
  let f = (goal.at.loop-part-preserved c).After-feed-fed in
      rw c.in_ok-decoder.ensures.1
      (walked_on (tables (goal.at.After-feed-fed f).At-loop-part) (answer (goal.at.After-feed-fed f).At-loop-part) c.loop-part.decoder c.in-Some.part.now c.loop-part.room (rest f)
      (walked f) (few f) (fits f) c.feed-fed.result c.feed-fed.ensures.0 c.in_ok-decoder.ensures.0),
)

pub returns-in_err-passed : goal.returns-in_err-passed
returns-in_err-passed c =
    let p = err_from_is_err_and c.from_residual-in_err-passed.result c.from_residual-in_err-passed.ensures.1 in
    let f = (goal.at.returns-in_err-passed c).After-finish-last in
    rw (p.1, p.2, c.in_err-passed.ensures.1)
    (sym (walked_end_fault (tables (goal.at.After-finish-last f).At-loop-part) (answer (goal.at.After-finish-last f).At-loop-part) c.loop-part.decoder c.loop-part.room (done f) (enough f)
    c.finish-last.result c.finish-last.ensures.0 c.in_err-passed.ensures.0))

pub returns : goal.returns
returns c =
    sym (walked_clean (tables (goal.at.returns c).At-loop-part) (answer (goal.at.returns c).At-loop-part) c.loop-part.decoder c.loop-part.room (done (goal.at.returns c).After-finish-last) (enough (goal.at.returns c).After-finish-last)
    c.finish-last.result c.finish-last.ensures.0 c.in_ok-passed.ensures.0)
