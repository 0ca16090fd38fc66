use Rattle.std.proofs.Common.{◌≡◌, ap, ◌∷◌, length, take, drop, ◌-◌, arith}
use Rattle.list_spec.specs.Lines.{names_of}
use Rattle.list.proofs.Known.{names_none, names_turn}
use Rattle.list.proofs.names.NamesIterator.next.Goals as goal
use Rattle.list.proofs.names.NamesIterator.next.Goals.{After-split_at}

turn : (c : After-split_at) → let back = c.split_at.result.1.now in
    names_of c.args.self.now.0.now ≡ c.split_at.result.0.now ∷ names_of (take (length back - 1) (drop 1 back))
turn c =
    names_turn c.args.self.now.0.now c.in_ok-end.end c.in_ok-end.ensures.0 c.in_ok-end.ensures.1 _ _ c.split_at.ensures.front c.split_at.ensures.back

pub returns-in_err-end-clause-steps : goal.returns-in_err-end-clause-steps
returns-in_err-end-clause-steps c = let none = names_none c.args.self.now.0.now c.in_err-end.ensures in rw c.from_residual.ensures (none, none)

pub returns-clause-steps : goal.returns-clause-steps
returns-clause-steps c = turn (goal.at.returns-clause-steps c).After-split_at

pub returns-clause-goes : goal.returns-clause-goes
returns-clause-goes c =
    let t = ap length (turn (goal.at.returns-clause-goes c).After-split_at) in
    record { on = λ _. (tt, tt, omega (arith, t)); keeps = tt; rests = λ _. tt }
