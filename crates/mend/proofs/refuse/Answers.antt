use Rattle.std.proofs.Common.{List, ℕ, OnOk, ◌≡◌, ◌≤◌, length, take, length-take-le, sym, subst, arith}
use Rattle.std.specs.Io.KnownBytes.{Appends}
use Rattle.standard.specs.Text.{bytes}
use Rattle.program_text.specs.Lines.{refused}
use Rattle.program_text.proofs.Texts.{number_few}
use Rattle.mend.specs.Refusals.{number}
use Rattle.program_text.proofs.Fronts.{front}
use Rattle.mend.proofs.refuse.Given.{Over}
use Rattle.mend.proofs.refuse.Goals as goal
use Rattle.mend.proofs.refuse.Goals.{After-put_number-n}

-- the line stands in its room
few : (g : Over) (c : After-put_number-n g) → c.put_number-n.result ≤ length c.put_number-n.new.out
unfolding bytes
few g c =
    let p = c.put_number-n in
    omega (arith, (p.ensures.put (omega (arith, c.requires))).behind, c.requires, number_few (bytes "refused") c.from.result, p.auto.out)

pub slice_bounds-write_all-end : goal.slice_bounds-write_all-end
slice_bounds-write_all-end g c = few g (goal.at.slice_bounds-write_all-end g c).After-put_number-n

pub slice_bounds-write_all-end-2 : goal.slice_bounds-write_all-end-2
slice_bounds-write_all-end-2 g c = sym (length-take-le _ _ (few g (goal.at.slice_bounds-write_all-end-2 g c).After-put_number-n))

pub returns : goal.returns
unfolding bytes
returns g c =
    let p = c.put_number-n in
    let all = few g (goal.at.returns g c).After-put_number-n in
    let n : c.from.result ≡ number c.args.refusal = c.from.ensures in
    let put = p.ensures.put (omega (arith, c.requires)) in
    let size : length (refused c.from.result) ≤ length c.args.report.now = omega (arith, c.requires, number_few (bytes "refused") c.from.result) in
    let text : take p.result p.new.out ≡ refused (number c.args.refusal) = rw n at (front put size) in
    subst (λ (t : List ℕ). OnOk c.write_all.result (Appends (g.W.Write.contents c.args.to.now) (g.W.Write.contents c.write_all.new.self) t)) text c.write_all.ensures.bytes
