-- The test of a record, part by part. Assumes nothing.
use mathlib.Core.Path.{◌≡◌}
use mathlib.Core.Bool.{true, ◌&&◌}
use Prim.Native.Nat.{◌≤◌}
use lib.Dec.{leb}
use borrow.Author.Tests.{le-leb, leb-true}
use Rattle.standard.proofs.Tests.{and_left, and_right}
use Rattle.decoder.specs.Valid.{unused, valid_rest, valid}
use Rattle.decoder.specs.declared.Decoder.{Decoder}

-- the test from its parts, and the parts from the test
pub record Parts (d : Decoder) : Type 0 where
  pub encoding : d.encoding ≤ 39
  pub mode : d.mode ≤ 1
  pub flag : d.flag ≤ 1
  pub held : d.held ≤ 3
  pub ended : d.ended ≤ 1
  pub unused : unused d ≡ true
  pub rest : valid_rest d ≡ true

pub to_valid : (d : Decoder) → Parts d → valid d ≡ true
unfolding valid
to_valid d p = rw (
  le-leb d.encoding 39 p.encoding,
  le-leb d.mode 1 p.mode,
  le-leb d.flag 1 p.flag,
  le-leb d.held 3 p.held,
  le-leb d.ended 1 p.ended,
  p.unused,
) p.rest

pub parts : (d : Decoder) → valid d ≡ true → Parts d
unfolding valid
parts d v =
    let a = leb d.encoding 39 in
    let b = leb d.mode 1 in
    let c = leb d.flag 1 in
    let h = leb d.held 3 in
    let n = leb d.ended 1 in
    let v6 = and_left (a && b && c && h && n && unused d) (valid_rest d) v in
    let v5 = and_left (a && b && c && h && n) (unused d) v6 in
    let v4 = and_left (a && b && c && h) n v5 in
    let v3 = and_left (a && b && c) h v4 in
    let v2 = and_left (a && b) c v3 in
    record {
      encoding = leb-true d.encoding 39 (and_left a b v2);
      mode = leb-true d.mode 1 (and_right a b v2);
      flag = leb-true d.flag 1 (and_right (a && b) c v3);
      held = leb-true d.held 3 (and_right (a && b && c) h v4);
      ended = leb-true d.ended 1 (and_right (a && b && c && h) n v5);
      unused = and_right (a && b && c && h && n) (unused d) v6;
      rest = and_right (a && b && c && h && n && unused d) (valid_rest d) v;
    }
