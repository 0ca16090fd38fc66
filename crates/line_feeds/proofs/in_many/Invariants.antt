use Rattle.std.proofs.Common.{◌≡◌, ◌+◌, ◌*◌, ◌≤◌, map, length, drop}
use Rattle.std.specs.Slice.Iter.{chunks_exact_rest, chunks_exact_size}
use Rattle.standard.specs.Base.{line_feeds}
use Rattle.line_feeds.proofs.in_many.Given as goal

-- The invariant: `count` and the line feeds among what the blocks have left are all; so many blocks are behind.
abbrev pub invariant-loop-block : goal.invariant-loop-block
invariant-loop-block g l =
    let number = g.T.Element.number in
    let left = chunks_exact_rest l.block-iterator in
    record {
      size : chunks_exact_size l.block-iterator ≡ g.T.Element.BLOCK;
      place : left ≡ drop (length l.yielded * g.T.Element.BLOCK) l.elements;
      inside : length l.yielded * g.T.Element.BLOCK ≤ length l.elements;
      all : l.count + line_feeds (map number left) ≡ line_feeds (map number l.elements);
    }
