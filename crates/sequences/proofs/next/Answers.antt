use Rattle.sequences.specs.Code.{front}
use mathlib.Core.Path.{◌≡◌, sym, ap, ◌∙◌}
use mathlib.Core.List.{List, [], ◌∷◌}
use Prim.Native.Nat.{ℕ, ◌-◌}
use lib.Dec.{eqb}
use lib.ListN.{take}
use Rattle.standard.specs.Encodings.{lent}
use Rattle.standard.specs.Encodings.{family}
use Rattle.standard.specs.Sequence.{Shift, shift}
use Rattle.standard.specs.Next.{next, unmarked}
use Rattle.standard.proofs.Reading.{empty}
use Rattle.standard.proofs.Families.{is_utf8, is_windows_1252, is_single_byte, is_gb18030, is_big5, is_euc_jp, is_iso_2022_jp, is_shift_jis, is_euc_kr, is_replacement, is_utf_16, is_user_defined}
use Rattle.sequences.proofs.Leaves.{front_some, front_none}
use native.Mathlib.Omega.{arith}
use Rattle.sequences.proofs.next.Goals as goal
use Rattle.sequences.proofs.next.Goals.{Else-have-eq0}

-- the shift before the bytes, and the bytes
abbrev shifted : Else-have-eq0 → Shift
shifted o = let args = o.args in shift args.state (eqb args.flag 1)

abbrev bytes : Else-have-eq0 → List ℕ
bytes o = let args = o.args in args.b0 ∷ take (args.have - 1) (args.b1 ∷ args.b2 ∷ args.b3 ∷ [])

some : (o : Else-have-eq0) →
    let args = o.args in
    next (lent args.t1.now args.t2.now) (family args.encoding) (shifted o) (front args.have args.b0 args.b1 args.b2 args.b3) ≡
    next (lent args.t1.now args.t2.now) (family args.encoding) (shifted o) (bytes o)
some o =
    let args = o.args in
    ap (next (lent args.t1.now args.t2.now) (family args.encoding) (shifted o)) (front_some args.have args.b0 args.b1 args.b2 args.b3 o.if-have-eq0.false)

pub returns-then-have-eq0 : goal.returns-then-have-eq0
returns-then-have-eq0 c =
    let args = c.args in
    sym (ap (next (lent args.t1.now args.t2.now) (family args.encoding) (shift args.state (eqb args.flag 1))) (front_none args.have args.b0 args.b1 args.b2 args.b3 (omega arith)) ∙ empty (lent args.t1.now args.t2.now) (family args.encoding) (shift args.state (eqb args.flag 1)))

pub returns-then-encoding-eq0 : goal.returns-then-encoding-eq0
returns-then-encoding-eq0 c =
    let o = c.before.before.before.before in
    let args = o.args in
    c.drop_mark.ensures ∙ ap (unmarked (eqb args.flag 1)) (c.utf8-q.ensures []) ∙ sym (some (goal.at.returns-then-encoding-eq0 c).Else-have-eq0 ∙ is_utf8 args.t1.now args.t2.now args.encoding (shifted (goal.at.returns-then-encoding-eq0 c).Else-have-eq0) (bytes (goal.at.returns-then-encoding-eq0 c).Else-have-eq0) (omega arith))

pub returns-then-encoding-eq21 : goal.returns-then-encoding-eq21
returns-then-encoding-eq21 c =
    let o = c.before.before.before.before in
    let args = o.args in
    c.windows_1252-q.ensures (take (args.have - 1) (args.b1 ∷ args.b2 ∷ args.b3 ∷ [])) ∙ sym (some (goal.at.returns-then-encoding-eq21 c).Else-have-eq0 ∙ is_windows_1252 args.t1.now args.t2.now args.encoding (shifted (goal.at.returns-then-encoding-eq21 c).Else-have-eq0) (bytes (goal.at.returns-then-encoding-eq21 c).Else-have-eq0) (omega arith))

pub returns-then-encoding-le28 : goal.returns-then-encoding-le28
returns-then-encoding-le28 c =
    let o = c.before.before.before.before in
    let args = o.args in
    c.single_byte-q.ensures (take (args.have - 1) (args.b1 ∷ args.b2 ∷ args.b3 ∷ [])) ∙ sym (some (goal.at.returns-then-encoding-le28 c).Else-have-eq0 ∙ is_single_byte args.t1.now args.t2.now args.encoding (shifted (goal.at.returns-then-encoding-le28 c).Else-have-eq0) (bytes (goal.at.returns-then-encoding-le28 c).Else-have-eq0) c.if-encoding-eq0.false c.if-encoding-eq21.false (omega arith))

pub returns-then-encoding-le30 : goal.returns-then-encoding-le30
returns-then-encoding-le30 c =
    let o = c.before.before.before.before in
    let args = o.args in
    c.gb18030-q.ensures [] ∙ sym (some (goal.at.returns-then-encoding-le30 c).Else-have-eq0 ∙ is_gb18030 args.t1.now args.t2.now args.encoding (shifted (goal.at.returns-then-encoding-le30 c).Else-have-eq0) (bytes (goal.at.returns-then-encoding-le30 c).Else-have-eq0) (omega arith) (omega arith))

pub returns-then-encoding-le31 : goal.returns-then-encoding-le31
returns-then-encoding-le31 c =
    let o = c.before.before.before.before.before in
    let args = o.args in
    c.big5-q.ensures (args.b2 ∷ args.b3 ∷ []) ∙ sym (some (goal.at.returns-then-encoding-le31 c).Else-have-eq0 ∙ is_big5 args.t1.now args.t2.now args.encoding (shifted (goal.at.returns-then-encoding-le31 c).Else-have-eq0) (bytes (goal.at.returns-then-encoding-le31 c).Else-have-eq0) (omega arith))

pub returns-then-encoding-le32 : goal.returns-then-encoding-le32
returns-then-encoding-le32 c =
    let o = c.before.before.before.before.before in
    let args = o.args in
    c.euc_jp-q.ensures (args.b3 ∷ []) ∙ sym (some (goal.at.returns-then-encoding-le32 c).Else-have-eq0 ∙ is_euc_jp args.t1.now args.t2.now args.encoding (shifted (goal.at.returns-then-encoding-le32 c).Else-have-eq0) (bytes (goal.at.returns-then-encoding-le32 c).Else-have-eq0) (omega arith))

pub returns-then-encoding-le33 : goal.returns-then-encoding-le33
returns-then-encoding-le33 c =
    let o = c.before.before.before.before.before in
    let args = o.args in
    c.iso_2022_jp-q.ensures args.t2.now (args.b3 ∷ []) ∙ sym (some (goal.at.returns-then-encoding-le33 c).Else-have-eq0 ∙ is_iso_2022_jp args.t1.now args.t2.now args.encoding (shifted (goal.at.returns-then-encoding-le33 c).Else-have-eq0) (bytes (goal.at.returns-then-encoding-le33 c).Else-have-eq0) (omega arith))

pub returns-then-encoding-le34 : goal.returns-then-encoding-le34
returns-then-encoding-le34 c =
    let o = c.before.before.before.before.before in
    let args = o.args in
    c.shift_jis-q.ensures (args.b2 ∷ args.b3 ∷ []) ∙ sym (some (goal.at.returns-then-encoding-le34 c).Else-have-eq0 ∙ is_shift_jis args.t1.now args.t2.now args.encoding (shifted (goal.at.returns-then-encoding-le34 c).Else-have-eq0) (bytes (goal.at.returns-then-encoding-le34 c).Else-have-eq0) (omega arith))

pub returns-then-encoding-le35 : goal.returns-then-encoding-le35
returns-then-encoding-le35 c =
    let o = c.before.before.before.before.before in
    let args = o.args in
    c.euc_kr-q.ensures (args.b2 ∷ args.b3 ∷ []) ∙ sym (some (goal.at.returns-then-encoding-le35 c).Else-have-eq0 ∙ is_euc_kr args.t1.now args.t2.now args.encoding (shifted (goal.at.returns-then-encoding-le35 c).Else-have-eq0) (bytes (goal.at.returns-then-encoding-le35 c).Else-have-eq0) (omega arith))

pub returns-then-encoding-le36 : goal.returns-then-encoding-le36
returns-then-encoding-le36 c =
    let o = c.before.before.before.before.before.before in
    let args = o.args in
    c.replacement-q.ensures args.state args.b0 (take (args.have - 1) (args.b1 ∷ args.b2 ∷ args.b3 ∷ [])) ∙ sym (some (goal.at.returns-then-encoding-le36 c).Else-have-eq0 ∙ is_replacement args.t1.now args.t2.now args.encoding (shifted (goal.at.returns-then-encoding-le36 c).Else-have-eq0) (bytes (goal.at.returns-then-encoding-le36 c).Else-have-eq0) (omega arith))

pub returns-then-encoding-le38 : goal.returns-then-encoding-le38
returns-then-encoding-le38 c =
    let o = c.before.before.before.before.before.before.before.before in
    let args = o.args in
    c.drop_mark-then-encoding-le38.ensures ∙ ap (unmarked (eqb args.flag 1)) (c.utf_16-q.ensures []) ∙ sym (some (goal.at.returns-then-encoding-le38 c).Else-have-eq0 ∙ is_utf_16 args.t1.now args.t2.now args.encoding (shifted (goal.at.returns-then-encoding-le38 c).Else-have-eq0) (bytes (goal.at.returns-then-encoding-le38 c).Else-have-eq0) (omega arith) (omega arith))

pub returns : goal.returns
returns c =
    let o = c.before.before.before.before.before.before.before in
    let args = o.args in
    c.user_defined.ensures (take (args.have - 1) (args.b1 ∷ args.b2 ∷ args.b3 ∷ [])) ∙ sym (some (goal.at.returns c).Else-have-eq0 ∙ is_user_defined args.t1.now args.t2.now args.encoding (shifted (goal.at.returns c).Else-have-eq0) (bytes (goal.at.returns c).Else-have-eq0) (omega arith))
