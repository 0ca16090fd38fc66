use mathlib.Core.Path.{◌≡◌, sym, ap, ◌∙◌}
use mathlib.Core.List.{◌∷◌}
use borrow.Author.Rules.{rules}
use native.Mathlib.Omega.{arith}
use Prim.Native.Nat.{◌+◌}
use lib.ListN.{drop, get_or}
use Rattle.standard.specs.Encodings.{Family, family, lent}
use Rattle.standard.specs.Sequence.{Next, plain, scalar}
use Rattle.standard.specs.Next.{next}
use Rattle.standard.proofs.Families.{family_gb18030}
use Rattle.runs.proofs.Fronts.{two_at}
use Rattle.runs.proofs.Running.{going_start, going_one, gives_scalar}
use Rattle.runs.proofs.Scalars.{gives_bad, gives_same}
use Rattle.runs.proofs.Steps.{found_gives, found_width}
use Rattle.runs.proofs.Stretches.{going_copied}
use Rattle.pair_runs.proofs.Pairing.{bad_pair, self_pairs}
use Rattle.pair_runs.proofs.pairs.items.Goals as goal
use Rattle.pair_runs.proofs.pairs.items.Goals.{In-loop-i}

-- the sequence at the place of a turn
abbrev here : (g : _) → In-loop-i g → Next
here g c =
    let args = c.args in
    next (lent args.t1.now args.t2.now) (family args.encoding) plain (drop c.loop-i.i args.chunk.now)

-- by its first two bytes
by_two : (g : _) (c : In-loop-i g) →
    let args = c.args in
    let i = c.loop-i.i in
    here g c ≡ next (lent args.t1.now args.t2.now) (family args.encoding) plain (get_or args.chunk.now i 0 ∷ get_or args.chunk.now (i + 1) 0 ∷ drop (i + 2) args.chunk.now)
by_two g c =
    let args = c.args in
    let loop = c.loop-i in
    ap (next (lent args.t1.now args.t2.now) (family args.encoding) plain) (two_at args.chunk.now loop.i (omega (arith, c.loop-i-test.true, loop.invariant.0.here)))

pub loop-i-init : goal.loop-i-init
loop-i-init g c = (going_start c.requires.5, search rules, omega arith)

pub loop-i-preserved-then-trail-ge128 : goal.loop-i-preserved-then-trail-ge128
loop-i-preserved-then-trail-ge128 g c =
    let args = c.args in
    let loop = c.loop-i in
    let i = loop.i in
    let rest = get_or args.chunk.now (i + 1) 0 ∷ drop (i + 2) args.chunk.now in
    let self = self_pairs args.t1.now args.t2.now args.encoding c.requires.1 (get_or args.chunk.now i 0) rest (omega arith) in
    let here-is = by_two g (goal.at.loop-i-preserved-then-trail-ge128 g c).In-loop-i ∙ self ∙ ap (scalar 1) (sym c.wide.ensures) in
    (going_one loop.invariant.0 (gives_scalar args.mode here-is), loop.invariant.1, loop.invariant.2)

pub loop-i-smaller-then-lead-lt128 : goal.loop-i-smaller-then-lead-lt128
loop-i-smaller-then-lead-lt128 g c =
    omega (arith, c.copy_ascii-k.ensures.0.inside, c.copy_ascii-k.ensures.1 c.loop-i.invariant.0.here (omega arith) (omega arith))

pub loop-i-preserved-then-lead-lt128 : goal.loop-i-preserved-then-lead-lt128
loop-i-preserved-then-lead-lt128 g c =
    let args = c.args in
    let inv = c.loop-i.invariant in
    let self = self_pairs args.t1.now args.t2.now args.encoding c.requires.1 in
    (going_copied (lent args.t1.now args.t2.now) (family args.encoding) args.mode self inv.0 c.copy_ascii-k.ensures.0, inv.1, inv.2)

pub loop-i-preserved-in-Some : goal.loop-i-preserved-in-Some
loop-i-preserved-in-Some g c =
    let args = c.args in
    let loop = c.loop-i in
    let pair = c.in-Some.ensures args.t2.now (drop (loop.i + 2) args.chunk.now) in
    (going_one loop.invariant.0 (gives_scalar args.mode (by_two g (goal.at.loop-i-preserved-in-Some g c).In-loop-i ∙ pair)), loop.invariant.1, loop.invariant.2)

pub four_at-requires : goal.four_at-requires
four_at-requires g c = (omega arith, (c.requires.0, c.loop-i.invariant.0.here.begun, λ q. (c.requires.4 q).1))

pub loop-i-preserved-in-Some-four_at : goal.loop-i-preserved-in-Some-four_at
loop-i-preserved-in-Some-four_at g c =
    let args = c.args in
    let pre = c.requires in
    let loop = c.loop-i in
    let found = c.in-Some-four_at.ensures.scalar in
    let gb = ap (λ (x : Family). next (lent args.t1.now args.t2.now) x plain (drop loop.i args.chunk.now)) (family_gb18030 args.encoding pre.1.low (pre.4 found.0).0) in
    (going_one loop.invariant.0 (gives_scalar args.mode (gb ∙ found.2 args.t1.now)), c.four_at.ensures.size, loop.invariant.2)

pub loop-i-preserved-in-Some-single : goal.loop-i-preserved-in-Some-single
loop-i-preserved-in-Some-single g c =
    let args = c.args in
    let loop = c.loop-i in
    let single = c.in-Some-single.ensures args.t1.now args.t2.now (get_or args.chunk.now (loop.i + 1) 0 ∷ drop (loop.i + 2) args.chunk.now) in
    (going_one loop.invariant.0 (gives_same (by_two g (goal.at.loop-i-preserved-in-Some-single g c).In-loop-i) single), c.four_at.ensures.size, loop.invariant.2)

-- a pair that is an error, of one byte or of two
pub loop-i-preserved-in-Some-bad_width : goal.loop-i-preserved-in-Some-bad_width
loop-i-preserved-in-Some-bad_width g c =
    let args = c.args in
    let loop = c.loop-i in
    let i = loop.i in
    let bad = c.in-Some-bad_width.ensures in
    let wrong = gives_bad args.mode (by_two g (goal.at.loop-i-preserved-in-Some-bad_width g c).In-loop-i ∙
    bad_pair args.t1.now args.t2.now args.encoding c.requires.1 c.requires.2 (get_or args.chunk.now i 0) (get_or args.chunk.now (i + 1) 0)
    c.in-Some-bad_width.width c.in_default.ensures bad.1 bad.2 bad.3 (drop (i + 2) args.chunk.now)) bad.0 in
    (going_one loop.invariant.0 wrong, c.four_at.ensures.size, loop.invariant.2)

pub offset_bounds-room-o-in-loop-i : goal.offset_bounds-room-o-in-loop-i
offset_bounds-room-o-in-loop-i g c =
    let loop = c.loop-i in
    omega (arith, c.loop-i-test.true, loop.invariant.0.here, loop.invariant.0.runs.size, loop.invariant.2)

pub bounds-room-o-in-loop-i : goal.bounds-room-o-in-loop-i
bounds-room-o-in-loop-i g c =
    let loop = c.loop-i in
    omega (arith, c.loop-i-test.true, loop.invariant.0.here)

pub overflow_add-o-in-loop-i : goal.overflow_add-o-in-loop-i
overflow_add-o-in-loop-i g c =
    let loop = c.loop-i in
    omega (arith, c.loop-i-test.true, loop.invariant.0.here, loop.invariant.0.runs.size, loop.invariant.2)

pub overflow_add-i-in-loop-i : goal.overflow_add-i-in-loop-i
overflow_add-i-in-loop-i g c =
    let loop = c.loop-i in
    omega (arith, loop.invariant.0.here, found_width loop.invariant.0 c.in-Some-next_at.q c.in-Some-next_at.ensures)

pub loop-i-smaller : goal.loop-i-smaller
loop-i-smaller g c =
    let loop = c.loop-i in
    omega (arith, found_width loop.invariant.0 c.in-Some-next_at.q c.in-Some-next_at.ensures)

pub loop-i-preserved : goal.loop-i-preserved
loop-i-preserved g c =
    let loop = c.loop-i in
    (found_gives loop.invariant.0 c.in-Some-next_at.q c.in-Some-next_at.ensures c.in-Some-plain_scalar_of.ensures, c.four_at.ensures.size, loop.invariant.2)
