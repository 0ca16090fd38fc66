use Rattle.showtext.proofs.Named.{part_few, part_is}
use Rattle.showtext.proofs.Texts.{same}
use Rattle.showtext.specs.Output.{line}
use Rattle.standard.specs.Text.{bytes}
use lib.ListN.{length-take, replicate}
use Rattle.std.proofs.Common.{length-take-le}
use mathlib.Core.Path.{ap, sym}
use native.Mathlib.Omega.{arith}
use Rattle.showtext.proofs.lines.put_encoding.Goals as goal

pub slice_bounds-name-end-2 : goal.slice_bounds-name-end-2
slice_bounds-name-end-2 c =
    let n = c.name-named in
    omega (arith, part_few c.args.encoding (replicate 20 0) (omega arith) _ _ n.ensures.0 n.ensures.1, n.auto.room)

pub slice_bounds-put_words-end-2 : goal.slice_bounds-put_words-end-2
slice_bounds-put_words-end-2 c =
    let n = c.name-named in
    sym (length-take-le _ _ (omega (arith, part_few c.args.encoding (replicate 20 0) (omega arith) _ _ n.ensures.0 n.ensures.1, n.auto.room)))

pub put_words-requires : goal.put_words-requires
put_words-requires c =
    let n = c.name-named in
    simp length-take (omega (arith, part_few c.args.encoding (replicate 20 0) (omega arith) _ _ n.ensures.0 n.ensures.1, c.requires))

pub returns : goal.returns
unfolding bytes
returns c =
    let n = c.name-named in
    same (ap (line (bytes "encoding")) (part_is c.args.encoding (replicate 20 0) (omega arith) _ _ n.ensures.0 n.ensures.1)) c.put_words.ensures
