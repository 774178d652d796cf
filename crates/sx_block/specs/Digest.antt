-- What a digest is.
use Rattle.std.specs.Prelude.{◌≡◌, ℕ, List, length}
use Rattle.sx_bytes.specs.Field.{AreBytes}

-- a list of 32 bytes
pub record IsDigest (digest : List ℕ) : Type 0 where
  pub whole : length digest ≡ 32
  pub bytes : AreBytes digest
