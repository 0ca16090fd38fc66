-- 000, 13.1.2: the encoder of EUC-KR, with the numbers of 000's steps. Assumes nothing.
use Rattle.std.specs.Prelude.{[], ◌∷◌, ℕ}
use Rattle.standard.specs.Base.{◌then◌else◌}
use Rattle.standard.specs.Machine.{Result, tokens}
use Rattle.standard.specs.Handlers.{ascii}
use Rattle.standard.specs.Layouts.{euc_kr_layout}
use Rattle.standard.specs.Search.{none_over, first, Lookup}
use Rattle.standard.specs.Encoders.Pairs.{pair_or_error_with}

-- `index`: the look-up in index EUC-KR
unfoldable pub euc_kr_encode : Lookup → ℕ → Result
euc_kr_encode index c =
    ascii c then tokens (c ∷ []) else  -- 2
    pair_or_error_with euc_kr_layout (index first none_over c) c  -- 3 to 7
