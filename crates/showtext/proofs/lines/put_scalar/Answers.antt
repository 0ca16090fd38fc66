use mathlib.Core.Path.{◌∙◌}
use Rattle.showtext.proofs.Texts.{put_scalar}
use Rattle.program_text.proofs.Numbers.{count_few, hexadecimal_few}
use Prim.Native.Nat.{◌+◌, ◌≤◌}
use lib.ListN.{length, length-set}
use native.Mathlib.Omega.{arith}
use Rattle.showtext.proofs.lines.put_scalar.Goals as goal
use Rattle.showtext.proofs.lines.put_scalar.Goals.{After-put_count-tab}

-- behind the count twelve bytes are left
left : (c : After-put_count-tab) → c.put_count-tab.result + 12 ≤ length c.put_count-tab.new.out
left c = omega (arith, count_few c.args.n, c.requires, (c.put_count-tab.ensures.put (omega arith)).behind, c.put_count-tab.auto.out)

pub bounds-out-tab : goal.bounds-out-tab
bounds-out-tab c = omega (arith, left (goal.at.bounds-out-tab c).After-put_count-tab)

pub overflow_add-out : goal.overflow_add-out
overflow_add-out c = record { fits = omega (arith, left (goal.at.overflow_add-out c).After-put_count-tab, c.put_count-tab.auto.out) }

pub bounds-out-tab-2 : goal.bounds-out-tab-2
bounds-out-tab-2 c = simp length-set (omega (arith, left (goal.at.bounds-out-tab-2 c).After-put_count-tab))

pub overflow_add-out-2 : goal.overflow_add-out-2
overflow_add-out-2 c = record { fits = omega (arith, left (goal.at.overflow_add-out-2 c).After-put_count-tab, c.put_count-tab.auto.out) }

pub bounds-out-tab-3 : goal.bounds-out-tab-3
bounds-out-tab-3 c = simp length-set (omega (arith, left (goal.at.bounds-out-tab-3 c).After-put_count-tab))

pub overflow_add-tab : goal.overflow_add-tab
overflow_add-tab c = record { fits = omega (arith, left (goal.at.overflow_add-tab c).After-put_count-tab, c.put_count-tab.auto.out) }

pub bounds-out-end : goal.bounds-out-end
bounds-out-end c =
    let args = c.args in
    let at-put-hexadecimal = c.put_hexadecimal-end in
    omega (arith, left (goal.at.bounds-out-end c).After-put_count-tab, hexadecimal_few args.c, (at-put-hexadecimal.ensures.put (simp length-set (omega (arith, left (goal.at.bounds-out-end c).After-put_count-tab)))).behind, simp length-set at at-put-hexadecimal.auto.out)

pub overflow_add-result : goal.overflow_add-result
overflow_add-result c =
    let args = c.args in
    let at-put-count = c.put_count-tab in
    record { fits = omega (arith, left (goal.at.overflow_add-result c).After-put_count-tab, hexadecimal_few args.c, at-put-count.auto.out, (c.put_hexadecimal-end.ensures.put (simp length-set (omega (arith, left (goal.at.overflow_add-result c).After-put_count-tab)))).behind) }

pub shape_of-out : goal.shape_of-out
shape_of-out c =
    let at-put-count = c.put_count-tab in
    let at-put-hexadecimal = c.put_hexadecimal-end in
    simp length-set (simp length-set at at-put-hexadecimal.auto.out ∙ at-put-count.auto.out)

pub returns : goal.returns
returns c =
    let args = c.args in
    let at-put-count = c.put_count-tab in
    let at-put-hexadecimal = c.put_hexadecimal-end in
    put_scalar args.out.now args.at args.n args.c ((at-put-count.ensures.put (omega arith))) ((at-put-hexadecimal.ensures.put (simp length-set (omega (arith, left (goal.at.returns c).After-put_count-tab)))))
