-- The encodings with pairs. Contracts of functions inside the library cite this. Assumes nothing.
use Rattle.std.specs.Prelude.{◌≡◌, ℕ, ◌≤◌}

-- their numbers: GBK, gb18030, Big5, EUC-JP, Shift_JIS and EUC-KR
pub record Paired (encoding : ℕ) : Type 0 where
  pub low : 29 ≤ encoding
  pub high : encoding ≤ 35
  pub other : encoding ≡ 33 → ⊥
