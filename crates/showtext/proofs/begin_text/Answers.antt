use Rattle.showtext.proofs.Buffers.{fed_fits, encoding_few, left_refused, left_fed}
use Rattle.showtext.specs.Code.{heading}
use native.Mathlib.Omega.{arith}
use Rattle.std.proofs.lemmas.Result.{err_from_is_err_and}
use Rattle.showtext.proofs.begin_text.Goals as goal

pub returns-in_err-first : goal.returns-in_err-first
returns-in_err-first c =
    let a = c.args in
    let r = c.in_err-first.ensures.refused in
    let p = err_from_is_err_and c.from_residual.result c.from_residual.ensures.1 in
    rw (p.1, p.2) (left_refused (heading a.encoding) a.decoder 0 a.chunk.now a.room.now a.out.now _ r.0 r.1)

pub show-requires : goal.show-requires
show-requires c =
    let a = c.args in
    let pre = c.requires in
    let fits = fed_fits a.decoder a.chunk.now a.room.now c.in_ok-first.ensures.fed.0 c.in_ok-first.ensures.room in (
      fits.1,
      omega (arith, fits.0, pre, c.put_encoding-at.ensures.behind, encoding_few a.encoding, c.put_encoding-at.auto.out),
      omega (arith, fits.0, pre),
    )

pub returns : goal.returns
returns c =
    let a = c.args in
    let f = c.in_ok-first.ensures in
    left_fed (heading a.encoding) a.decoder 0 a.chunk.now a.room.now a.out.now (encoding_few a.encoding) c.requires
    f.fed.0 f.room f.fed.1 c.put_encoding-at.ensures c.show.ensures
