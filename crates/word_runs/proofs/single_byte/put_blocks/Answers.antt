use Rattle.std.proofs.Common.{rules, arith, ◌≡◌, ℕ, ◌+◌, ◌-◌, ◌*◌, ◌/◌, ◌∙◌, false, length, get_or, refl, ap}
use Rattle.line_feeds.proofs.Parts.{Counted, none_yet, part_more, at_most}
use Rattle.word_runs.specs.Units.{values, unit_at}
use Rattle.word_runs.proofs.ByteRuns.{through_none, through_on}
use Rattle.word_runs.proofs.WordBytes.{words_through}
use Rattle.word_runs.proofs.single_byte.put_blocks.Goals as goal

-- the line feeds with those of the block
block : (c : goal.After-block_feeds-lines) →
    Counted c.args.chunk.now c.args.from (c.loop-t.t * 384 + 384) (c.loop-t.lines + c.block_feeds-lines.result)
block c = part_more (c.args.from + c.loop-t.t * 384) 384 refl c.loop-t.invariant.feeds c.block_feeds-lines.ensures

pub loop-t-init : goal.loop-t-init
loop-t-init c = record { size = refl; words = search rules; halves = c.halves.ensures; wrote = through_none (λ (b : ℕ). get_or c.args.table.now b 0); feeds = none_yet }

pub read_words-requires : goal.read_words-requires
read_words-requires c = omega (arith, c.loop-t.invariant.words)

pub block_feeds-lines-requires : goal.block_feeds-lines-requires
block_feeds-lines-requires c = omega arith

pub overflow_add-lines : goal.overflow_add-lines
overflow_add-lines c = omega (arith, at_most (block c))

pub put_words-requires : goal.put_words-requires
put_words-requires c = (c.loop-t.invariant.halves, omega (arith, c.loop-t.invariant.size))

pub loop-t-preserved : goal.loop-t-preserved
loop-t-preserved c =
    let args = c.args in
    let inv = c.loop-t.invariant in
    let k = c.loop-t.t * 384 in
    let made = c.read_words.ensures in
    let e = made.1 ∙ ap (values (unit_at false args.chunk.now (args.from + k))) inv.words in
    let turn = words_through args.table.now args.chunk.now _ (args.from + k) 192 (args.place + k) _ _ e (λ j l. made.0 j (omega (arith, inv.words))) c.put_words.ensures in
    let wrote = through_on (λ (b : ℕ). get_or args.table.now b 0) inv.wrote refl refl (omega arith) turn in
    let all : k + 384 ≡ (c.loop-t.t + 1) * 384 = omega arith in
    record { size = omega (arith, inv.size); words = omega (arith, inv.words); halves = inv.halves; wrote = rw all at wrote; feeds = rw all at (part_more (args.from + k) 384 refl inv.feeds c.block_feeds-lines.ensures) }

pub returns : goal.returns
returns c =
    let inv = c.loop-t.invariant in
    let all : c.loop-t.t ≡ (length c.args.chunk.now - c.args.from) / 384 = omega arith in
    (omega arith, rw all at inv.wrote, rw all at inv.feeds.is)
