use Rattle.std.proofs.Common.{◌≡◌, ap, ◌∙◌, ℕ, ◌*◌, ◌/◌, rules, tests, arith}
use Rattle.std.proofs.lemmas.Iterator.{YieldsList-from_slice}
use Rattle.std.proofs.lemmas.Iterator.Consumers.{fold_from_yields_List}
use Rattle.list.specs.Slots.{hash_from, slot_of}
use Rattle.list.proofs.Slotted.{hash_step, hash_fold, hash_slot}
use Rattle.list.proofs.slots.Table.slot_of.Goals as goal

pub returns : goal.returns
unfolding slot_of
returns g c =
    let name = c.args.name.now in
    let e : c.fold-hash.result ≡ hash_from 0 name =
    fold_from_yields_List _ hash_step 0 c.fold-hash.result c.fold-hash.ensures.ran (YieldsList-from_slice name c.iter.ensures.rest)
    (λ a x b q k. search (rules, tests)) ∙ hash_fold 0 name in
    (ap (λ (h : ℕ). h * g.row.N / 4294967296) e, hash_slot c.fold-hash.result g.row.N (omega arith) c.args.self.now.sized.0)
