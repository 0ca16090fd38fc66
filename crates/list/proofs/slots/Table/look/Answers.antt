use Rattle.std.proofs.Common.{sym, ◌∙◌, rules}
use Rattle.list.proofs.Slotted.{look_start, look_empty, look_found, look_on, look_none}
use Rattle.list.proofs.slots.Table.look.Goals as goal

pub slots-init : goal.slots-init
slots-init g c =
    let t = c.args.self.now in record {
      below = search rules;
      same = look_start t.slots t.names.now c.args.name.now g.row.N t.whole.0 c.slot_of-slot.result c.slot_of-slot.ensures.0;
    }

pub returns-then-value-eq0 : goal.returns-then-value-eq0
returns-then-value-eq0 g c =
    let t = c.args.self.now in (
      sym (look_empty t.slots t.names.now c.args.name.now g.row.N t.whole.0 c.slots.counter c.slots.slot c.slots-test.true c.if-value-eq0.true) ∙
          c.slots.invariant.same,
      tt,
    )

pub returns-then-name_at : goal.returns-then-name_at
returns-then-name_at g c =
    let t = c.args.self.now in (
      sym (look_found t.slots t.names.now c.args.name.now g.row.N t.whole.0 c.slots.counter c.slots.slot c.slots-test.true c.if-value-eq0.false c.if-name_at.ensures) ∙
          c.slots.invariant.same,
      c.slots.invariant.below,
    )

pub slots-preserved : goal.slots-preserved
slots-preserved g c =
    let t = c.args.self.now in record {
      below = search rules;
      same = sym (look_on t.slots t.names.now c.args.name.now g.row.N t.whole.0 c.slots.counter c.slots.slot c.slots-test.true c.if-value-eq0.false c.if-name_at.ensures) ∙
          c.slots.invariant.same;
    }

pub returns : goal.returns
returns g c =
    let t = c.args.self.now in (
      sym (look_none t.slots t.names.now c.args.name.now g.row.N t.whole.0 c.slots.counter c.slots.slot c.slots-test.false) ∙
          c.slots.invariant.same,
      tt,
    )
