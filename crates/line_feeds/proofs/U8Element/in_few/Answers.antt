use Rattle.std.proofs.Common.{rules, ◌≡◌, cond, eqb, sum_by}
use Rattle.std.proofs.lemmas.List.{map-id}
use Rattle.line_feeds.proofs.Elements.{counted}
use Rattle.line_feeds.proofs.U8Element.in_few.Goals as goal

pub returns : goal.returns
returns c =
    let h : c.sum.result ≡ sum_by (λ x. cond (eqb x 0x0A) 1 0) c.args.bytes.now = search rules in
    rw (map-id, counted) h
