-- What a request ends as, where a `&mut` to its reader or its writer is returned.
use Rattle.std.specs.Prelude.{Option, Some}
use Rattle.std.specs.Borrow.{Lends, LendsIf, Fml, RattleType, MutBor}
use Rattle.cache_store.specs.declared.storage.handlers.Contents as contents
use Rattle.cache_store.specs.declared.storage.store.Storage as storage
use Rattle.cache_store.specs.declared.storage.handlers.HandleHit as hit
use Rattle.cache_store.specs.declared.storage.handlers.HandleMiss as miss
use Rattle.request_cache.specs.Request.{Request}
use Rattle.request_cache.specs.contracts.request.HttpCache.{the_row}

module _ (S H M N : RattleType) (st : storage.Ghosts S.Denot H.Denot M.Denot N.Denot) (c : contents.Ghosts S.Denot) (h : hit.Ghosts H.Denot S.Denot) (m : miss.Ghosts M.Denot S.Denot) (s : MutBor (Request H.Denot M.Denot)) where
  -- once the borrow r ends, the request has the reader last written through r
  abbrev pub lends_hit : MutBor H.Denot → Fml
  lends_hit r = Lends (the_row S H M N st c h m) H s r (λ w. record s.now { reader = Some w })

  -- the same where r is a reference, and at `None` the request stays as it is
  abbrev pub lends_reader : Option (MutBor H.Denot) → Fml
  lends_reader r = LendsIf (the_row S H M N st c h m) H s r (λ w. record s.now { reader = Some w }) s.now

  -- the same of its writer
  abbrev pub lends_writer : Option (MutBor M.Denot) → Fml
  lends_writer r = LendsIf (the_row S H M N st c h m) M s r (λ w. record s.now { writer = Some w }) s.now
