-- Metas as bytes, each in two halves: its moments and numbers, and its head.
use Rattle.std.specs.Prelude.{◌≡◌, List, ℕ, Result, Ok}
use Rattle.cache_words.specs.declared.pack.fault.PackFault.{PackFault}
use Rattle.cache_words.specs.Reading.{◌>>=◌}
use Rattle.head_metas.specs.Head.{BeginsWithHead, IsCountable, IsHead, plain_head}
use Rattle.head_metas.specs.HeadReading.{head_at}
use Rattle.head_metas.specs.Internal.{BeginsWithMeta, IsMeta, IsWritable}
use Rattle.head_metas.specs.InternalReading.{meta_at, value_of}
use Rattle.cache_heads.specs.declared.meta.CacheMeta.{CacheMeta}

-- each half begins with its part of the meta; what a body has outside is in neither, so it's 0 in what is read
abbrev pub BeginWithMeta : List ℕ → List ℕ → CacheMeta → Type 0
BeginWithMeta internal header m = BeginsWithMeta internal m.internal × BeginsWithHead header m.header × (m.external ≡ 0)

-- reading both halves, with the first fault
abbrev pub cache_meta_at : List ℕ → List ℕ → Result CacheMeta PackFault
cache_meta_at internal header = do
  m ← value_of (meta_at internal)
  h ← value_of (head_at header)
  Ok (record { internal = m; header = h; external = 0 })

-- a meta that can be written: no moment is before 1970, and the counts of its head fit the forms. The other parts hold
-- of each meta in memory
pub record CanBeWritten (m : CacheMeta) : Type 0 where
  pub internal : IsMeta m.internal
  pub moments : IsWritable m.internal
  pub header : IsHead m.header
  pub counted : IsCountable m.header.headers

-- the same meta with no value marked as sensitive, and with nothing outside
abbrev pub plain_meta : CacheMeta → CacheMeta
plain_meta m = record { internal = m.internal; header = plain_head m.header; external = 0 }
