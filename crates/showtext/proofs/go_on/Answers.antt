use Rattle.showtext.proofs.Buffers.{fed_fits, left_refused, left_fed}
use Rattle.showtext.proofs.Texts.{nothing}
use Rattle.showtext.specs.Program.{going_on}
use Rattle.showtext.specs.Code.{feeding_on}
use mathlib.Core.List.{[]}
use native.Mathlib.Omega.{arith}
use Rattle.std.proofs.lemmas.Result.{err_from_is_err_and}
use Rattle.showtext.proofs.go_on.Goals as goal

pub returns-in_err-fed : goal.returns-in_err-fed
unfolding going_on feeding_on
returns-in_err-fed c =
    let a = c.args in
    let r = c.in_err-fed.ensures.refused in
    let p = err_from_is_err_and c.from_residual.result c.from_residual.ensures.1 in
    rw (p.1, p.2) (left_refused [] a.decoder a.count a.chunk.now a.room.now a.out.now _ r.0 r.1)

pub show-requires : goal.show-requires
show-requires c =
    let a = c.args in
    let pre = c.requires in
    let fits = fed_fits a.decoder a.chunk.now a.room.now c.in_ok-fed.ensures.fed.0 c.in_ok-fed.ensures.room in
    (fits.1, omega (arith, fits.0, pre.0), omega (arith, fits.0, pre.1))

pub returns : goal.returns
unfolding going_on feeding_on
returns c =
    let a = c.args in
    let f = c.in_ok-fed.ensures in
    left_fed [] a.decoder a.count a.chunk.now a.room.now a.out.now (omega arith) c.requires.0
    f.fed.0 f.room f.fed.1 nothing c.show.ensures
