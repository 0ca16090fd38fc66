-- `walk`. The loop's invariant: the definition's walk from here on, with the links that are left, gives the answer; a first hit ends the walk;
-- the index's length. Assumes nothing.
use Rattle.std.proofs.Common.{◌≡◌, ◌+◌, ◌-◌, length, None}
use Rattle.standard.specs.Search.{pass_over}
use Rattle.reverse_index_spec.specs.ReverseIndex.{hit, walk}
use Rattle.reverse_index.specs.Code.{link_of, side_of}
use Rattle.reverse_index.specs.declared.walks.Side.TheVariants.{First}
use Rattle.reverse_index.proofs.Turns.{walk_of}
use Rattle.reverse_index.proofs.walks.walk.Given as goal

abbrev pub invariant-loop-turn : goal.invariant-loop-turn
invariant-loop-turn l = record {
  same : walk_of (hit (pass_over l.low l.high) l.table l.c) l.index (length l.table) (side_of l.side) (64 - l._turn) l.link (link_of l.found) ≡
      walk l.table l.index (side_of l.side) (pass_over l.low l.high) l.c;
  first : l.side ≡ First → l.found ≡ None;
  size : length l.index ≡ length l.table + length l.table;
}
