use mathlib.Core.Path.{◌≡◌, ap, ◌∙◌}
use Prim.Native.Nat.{ℕ, ◌+◌}
use borrow.Author.Rules.{rules}
use Rattle.std.specs.Prelude.{Option, option_map}
use Rattle.index.proofs.Search.{position_behind}
use Rattle.index.proofs.find.Goals as goal

pub returns : goal.returns
returns c =
    let passed = c.passed_over-passed in
    let behind : c.map.result ≡ option_map (λ (i : ℕ). passed.result + i) c.find_each.result = search rules in
    behind ∙ ap (λ (o : Option ℕ). option_map (λ (i : ℕ). passed.result + i) o) c.find_each.ensures ∙
    position_behind _ _ _ passed.ensures.within passed.ensures.lacks
