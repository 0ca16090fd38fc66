-- The call's answer and room, by what judging gave. Assumes nothing.
use Rattle.std.proofs.Common.{◌≡◌, refl, ap, ◌∙◌, ℕ, ◌+◌, ◌/◌, ◌<◌, ◌≤◌, List, ◌++◌, length, drop, arith}
use Rattle.list_spec.specs.ListCall.{Fault, fault, fault_of_list, options_of, cells, Outcome, listed, list_call}
use Rattle.list_spec.specs.declared.Listed.{Listed}
use Rattle.list_spec.proofs.Theorems.{at_fault, no_room, handed_out, fits}
use Rattle.list.specs.Walking.{put}

module _ (text names room : List ℕ) where
  -- the answer a, and the room r afterwards
  abbrev Answered : Listed → List ℕ → Type 0
  Answered a r = (a ≡ (list_call text names room).answer) × (r ≡ (list_call text names room).room)

  answered : (a : Listed) (r : List ℕ) (o : Outcome) → list_call text names room ≡ o → a ≡ o.answer → r ≡ o.room → Answered a r
  answered a r o e p q = rw e (p, q)

  pub answered_fault : (r n : ℕ) → 0 < r → fault_of_list text names ≡ fault r n → Answered (listed 0 n r) room
  answered_fault r n h e =
      let a : (fault_of_list text names).refusal ≡ r = ap (λ (f : Fault). f.refusal) e in
      answered (listed 0 n r) room _ (at_fault text names room (λ z. omega arith)) (rw e) refl

  module _ (e : fault_of_list text names ≡ fault 0 0) (k : ℕ) (many : k ≡ length (options_of text)) where
    none : (fault_of_list text names).refusal ≡ 0
    none = ap (λ (f : Fault). f.refusal) e

    pub answered_small : length room / 5 < k → Answered (listed 0 0 7) room
    answered_small h = answered (listed 0 0 7) room _ (no_room text names room none (omega arith)) refl refl

    module _ (h : k ≤ length room / 5) where
      pub room_fits : length (cells text (options_of text)) ≤ length room
      room_fits = fits text names room (omega arith)

      pub answered_good : (after : List ℕ) → after ≡ put room 0 (cells text (options_of text)) → Answered (listed k 0 0) after
      answered_good after d =
          let out = cells text (options_of text) in
          let z : 0 + length out ≡ length out = omega arith in
          answered (listed k 0 0) after _ (handed_out text names room none (omega arith)) (ap (λ (i : ℕ). listed i 0 0) many)
          (d ∙ ap (λ (i : ℕ). out ++ drop i room) z)
