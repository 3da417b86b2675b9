-- Words of the laws: what a reader has read.
use Rattle.std.specs.Prelude.{◌≡◌, ℕ, ◌++◌, List, [], length, Result, Ok}
use Rattle.cache_store.specs.declared.storage.ReadStep.{ReadStep}
use Rattle.cache_store.specs.declared.storage.ReadStep.TheVariants.{Bytes}
use Rattle.cache_store.specs.declared.storage.StoreFault.{StoreFault}

-- the bytes that a step of reading gives
abbrev pub given : Result ReadStep StoreFault → List ℕ
given (Ok (Bytes bytes)) = bytes
given _ = []

-- a reader at that place has read a beginning of the bytes
pub record HasRead (read : List ℕ) (n : ℕ) (bytes : List ℕ) : Type 0 where
  pub rest : List ℕ
  pub split : bytes ≡ read ++ rest
  pub place : n ≡ length read
