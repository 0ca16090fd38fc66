use mathlib.Core.Path.{sym, ap, ◌∙◌}
use mathlib.Core.List.{◌++◌}
use native.Mathlib.Omega.{arith}
use Rattle.reading.specs.Reading.{bytes_of, chosen_of, behind_mark}
use Rattle.reading.proofs.Choosing.{choose_at}
use Rattle.reading.proofs.Loop.{all_count}
use Rattle.reading.proofs.feed.at_choice.Goals as goal

pub returns-in-Waits : goal.returns-in-Waits
returns-in-Waits c =
    let a = c.args in
    let xs = bytes_of a.held ++ a.chunk.now in
    let found = ap chosen_of (choose_at xs (sym (all_count a.held a.chunk.now (omega arith)))
    c.byte_at-first.ensures c.byte_at-second.ensures c.byte_at-third.ensures) in
    ap (behind_mark a.encoding) (c.in-Waits.ensures ∙ found)

pub returns-in-Label : goal.returns-in-Label
returns-in-Label c =
    let a = c.args in
    let xs = bytes_of a.held ++ a.chunk.now in
    let found = ap chosen_of (choose_at xs (sym (all_count a.held a.chunk.now (omega arith)))
    c.byte_at-first.ensures c.byte_at-second.ensures c.byte_at-third.ensures) in
    ap (behind_mark a.encoding) (c.in-Label.ensures ∙ found)

pub returns-in-Marked : goal.returns-in-Marked
returns-in-Marked c =
    let a = c.args in
    let xs = bytes_of a.held ++ a.chunk.now in
    let found = ap chosen_of (choose_at xs (sym (all_count a.held a.chunk.now (omega arith)))
    c.byte_at-first.ensures c.byte_at-second.ensures c.byte_at-third.ensures) in
    rw c.reader-reads.ensures (ap (behind_mark a.encoding) (c.in-Marked.ensures ∙ found))
