-- Permits and read locks.
use Rattle.std.specs.Prelude.{Bool, true, false}
use Rattle.cache_lock.specs.declared.tokens.Locked.{Locked}
use Rattle.cache_lock.specs.declared.tokens.Locked.TheVariants.{Write, Read}

abbrev pub is_permit : Locked → Bool
is_permit (Write permit) = true
is_permit (Read reader) = false
