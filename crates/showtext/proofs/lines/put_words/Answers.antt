use Rattle.showtext.proofs.Texts.{put_line}
use lib.ListN.{length-set}
use mathlib.Core.Path.{◌∙◌}
use native.Mathlib.Omega.{arith}
use Rattle.showtext.proofs.lines.put_words.Goals as goal

pub bounds-out-tab : goal.bounds-out-tab
bounds-out-tab c =
    let at_pre = c.requires in
    let at-put-bytes = c.put_bytes-tab in
    omega (arith, at_pre, (at-put-bytes.ensures.put (omega (arith, at_pre))).behind, at-put-bytes.auto.out)

pub overflow_add-tab : goal.overflow_add-tab
overflow_add-tab c =
    let at_pre = c.requires in
    let at-put-bytes = c.put_bytes-tab in
    record { fits = omega (arith, at_pre, (at-put-bytes.ensures.put (omega (arith, at_pre))).behind) }

pub bounds-out-end : goal.bounds-out-end
bounds-out-end c =
    let at_pre = c.requires in
    let at-put-bytes = c.put_bytes-tab in
    let at-put-bytes2 = c.put_bytes-end in
    omega (arith, at_pre, (at-put-bytes.ensures.put (omega (arith, at_pre))).behind, at-put-bytes.auto.out, (at-put-bytes2.ensures.put (simp length-set (omega (arith, at_pre, (at-put-bytes.ensures.put (omega (arith, at_pre))).behind, at-put-bytes.auto.out)))).behind, simp length-set at at-put-bytes2.auto.out)

pub overflow_add-result : goal.overflow_add-result
overflow_add-result c =
    let at_pre = c.requires in
    let at-put-bytes = c.put_bytes-tab in
    let at-put-bytes2 = c.put_bytes-end in
    record { fits = omega (arith, at_pre, (at-put-bytes.ensures.put (omega (arith, at_pre))).behind, (at-put-bytes2.ensures.put (simp length-set (omega (arith, at_pre, (at-put-bytes.ensures.put (omega (arith, at_pre))).behind, at-put-bytes.auto.out)))).behind) }

pub shape_of-out : goal.shape_of-out
shape_of-out c =
    let at-put-bytes = c.put_bytes-tab in
    let at-put-bytes2 = c.put_bytes-end in
    simp length-set (simp length-set at at-put-bytes2.auto.out ∙ at-put-bytes.auto.out)

pub returns : goal.returns
returns c =
    let args = c.args in
    let at_pre = c.requires in
    let at-put-bytes = c.put_bytes-tab in
    let at-put-bytes2 = c.put_bytes-end in
    put_line args.out.now args.at args.first.now args.second.now ((at-put-bytes.ensures.put (omega (arith, at_pre)))) ((at-put-bytes2.ensures.put (simp length-set (omega (arith, at_pre, (at-put-bytes.ensures.put (omega (arith, at_pre))).behind, at-put-bytes.auto.out)))))
