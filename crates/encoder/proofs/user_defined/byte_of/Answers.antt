-- `user_defined::byte_of`, by its ranges. Assumes nothing.
use native.Mathlib.Omega.{arith}
use Rattle.encoder.proofs.Scalars.{user_one, user_byte, user_none}
use Rattle.encoder.proofs.user_defined.byte_of.Goals as goal

pub returns-in-0-to-127 : goal.returns-in-0-to-127
returns-in-0-to-127 c = user_one _ (omega arith)

pub returns-in-63360-to-63487 : goal.returns-in-63360-to-63487
returns-in-63360-to-63487 c = user_byte _ (omega arith) (omega arith)

pub returns-in_default : goal.returns-in_default
returns-in_default c = user_none _ (omega arith) (λ l h. omega arith)

pub returns-in_default-2 : goal.returns-in_default-2
returns-in_default-2 c = user_none _ (omega arith) (λ l h. omega arith)
