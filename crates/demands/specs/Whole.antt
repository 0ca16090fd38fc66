-- The account of a whole input, however long, by its sequences. Assumes nothing.
use Rattle.std.specs.Prelude.{◌&&◌, List, [], ◌∷◌, ◌++◌, ℕ, ◌+◌, eqb, length}
use Rattle.standard.specs.Base.{◌then◌else◌, line_feeds}
use Rattle.standard.specs.Encodings.{Tables}
use Rattle.standard.specs.Items.{Item, shown, broken, before, reach}
use Rattle.standard.specs.Choice.{everything_from}
use Rattle.decoder.specs.Record.{closed, new_spot}
use Rattle.demands.specs.Statements.{Report, Account}

-- An account that an error stops at a place, and one that is complete, with `out` handed out.
abbrev pub stopped : ℕ → ℕ → ℕ → List ℕ → Account
stopped e m place out =
    let here : Report = record { handed = length out; place = place; line = 1 + line_feeds out } in
    record { handed = out; reports = here ∷ []; decoder = closed e m 0 (line_feeds out) }

abbrev pub completed : ℕ → ℕ → List ℕ → Account
completed e m out = record { handed = out; reports = []; decoder = closed e m 0 (line_feeds out) }

-- What the sequences give, handed out behind `out` in mode m; n bytes stand before them.
unfoldable pub dealt : ℕ → ℕ → ℕ → List Item → List ℕ → Account
dealt e m n is out =
    eqb m 1 && broken is then stopped e m (n + reach is) (out ++ before is) else
    completed e m (out ++ shown is)

unfoldable pub whole_account : Tables → ℕ → ℕ → ℕ → List ℕ → Account
whole_account t e m rule xs = dealt e m 0 (everything_from t e (new_spot e rule) xs) []
