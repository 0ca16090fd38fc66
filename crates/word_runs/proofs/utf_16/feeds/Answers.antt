use native.Mathlib.Omega.{arith}
use mathlib.Core.Path.{◌≡◌, refl, ap, ◌∙◌}
use mathlib.Core.List.{[], ◌∷◌}
use Prim.Native.Nat.{ℕ, ◌+◌}
use lib.ListN.{length, get_or}
use Rattle.standard.specs.Base.{line_feeds}
use Rattle.word_runs.specs.Units.{values, oriented}
use Rattle.word_runs.proofs.Values.{values_feeds, values_fewer}
use Rattle.word_runs.proofs.utf_16.feeds.Goals as goal

abbrev unit : goal.After-one-count → ℕ → ℕ
unit c j = oriented c.args.be (get_or c.args.words.now j 0)

-- the line feeds with those of a unit more
more : (c : goal.After-one-count) → c.loop-word.count + c.one-count.result ≡ line_feeds (values (unit c) (c.loop-word.word-index + 1))
more c =
    let is : c.one-count.result ≡ line_feeds (unit c c.loop-word.word-index ∷ []) = c.one-count.ensures ∙ ap (λ (u : ℕ). line_feeds (u ∷ [])) c.oriented.ensures in
    omega (arith, is, values_feeds (unit c) c.loop-word.word-index, c.loop-word.invariant)

pub loop-word-init : goal.loop-word-init
unfolding values line_feeds
loop-word-init c = refl

pub overflow_add-count : goal.overflow_add-count
overflow_add-count c = omega (arith, more c, values_fewer (unit c) (c.loop-word.word-index + 1))

pub loop-word-preserved : goal.loop-word-preserved
loop-word-preserved c = more c

pub returns : goal.returns
returns c =
    let units : ℕ → ℕ = λ j. oriented c.args.be (get_or c.args.words.now j 0) in
    let at-loop = c.loop-word in
    let all : at-loop.word-index ≡ length c.args.words.now = omega arith in
    (at-loop.invariant ∙ ap (λ (n : ℕ). line_feeds (values units n)) all, omega (arith, at-loop.invariant, values_fewer units at-loop.word-index))
