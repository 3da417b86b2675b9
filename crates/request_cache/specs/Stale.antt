-- For how long a stale response may be served.
use Rattle.std.specs.Prelude.{Bool, false, Option, Some, None}
use Rattle.cache_words.specs.Time.{MomentValue}
use Rattle.cache_heads.specs.declared.meta.CacheMeta.{CacheMeta}
use Rattle.cache_heads.specs.Fresh.{serves_stale}

abbrev pub serves_on_error : Option CacheMeta → MomentValue → Bool
serves_on_error None moment = false
serves_on_error (Some meta) moment = serves_stale meta.internal.fresh_until meta.internal.stale_if_error_sec moment

abbrev pub serves_while_updating : Option CacheMeta → MomentValue → Bool
serves_while_updating None moment = false
serves_while_updating (Some meta) moment = serves_stale meta.internal.fresh_until meta.internal.stale_while_revalidate_sec moment
