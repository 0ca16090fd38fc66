-- What is proved of the call: it answers as opening, feeds and a finish in refusing mode do, and as 000's machine. Assumes nothing.
use Rattle.std.specs.Prelude.{◌≡◌, List, [], ◌∷◌, ℕ, ◌+◌, ◌≤◌, length}
use Rattle.std.proofs.Math.Option.{Option, some, none}
use Rattle.standard.specs.Base.{◌then◌else◌, Bytes, line_feeds}
use Rattle.standard.specs.Encodings.{family, Tables}
use Rattle.standard.specs.Machine.{fatal, Ran}
use Rattle.standard.specs.Standard.{standard, is_error, standard_place}
use Rattle.demands.specs.Histories.{start}
use Rattle.demands.specs.Statements.{Report, reports, Piece, joined, cutting, Accepts}
use Rattle.clean.specs.Checking.{checking, clean, faulty}
use Rattle.clean.specs.declared.Checked.{Checked}

-- The answer that the reports 11 of some calls give: none is clean, and else the first one's place and line.
abbrev pub told : List Report → Checked
told [] = clean
told (r ∷ rs) = faulty r.place r.line

-- The answer by 000's `run` in mode "fatal": an error is behind the longest front that it reads without one, in the line that its
-- output has come to.
abbrev pub told_by : ℕ → Option Ran → Option Checked
told_by place none = none
told_by place (some r) = some (is_error r.result then faulty place (1 + line_feeds r.output) else clean)

-- Of a call that is not refused. Mode 1 is refusing, rule 0 is drop.
pub record Checks (e : ℕ) (t : Tables) (xs : List ℕ) : Type 0 where
  -- opening, accepted feeds of the bytes, cut anywhere, and a finish
  pub by_calls : (ps : List Piece) (last : List ℕ) → joined ps ≡ xs → Accepts t (start e 1 0) ps last →
      checking e t xs ≡ told (reports (start e 1 0) (cutting t ps last))
  -- one feed of all bytes, with room enough, is such a cutting
  pub one_feed : (room last : List ℕ) → length xs + 3 ≤ length room → 3 ≤ length last →
      Accepts t (start e 1 0) (record { chunk = xs; room = room } ∷ []) last
  -- 000's machine
  pub by_standard : Bytes xs → some (checking e t xs) ≡ told_by (standard_place t (family e) xs) (standard t (family e) fatal xs)
