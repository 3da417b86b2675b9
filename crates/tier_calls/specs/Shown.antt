-- What is lent.
use Rattle.std.specs.Prelude.{◌≡◌, ◌^◌, ◌-◌, ℕ, ℤ, pos, negsuc, List, [], ◌∷◌, length, Option, Some, None, MatchOption, is_some, unwrap_or}
use Rattle.cache_words.specs.Time.{MomentValue}
use Rattle.cache_entries.specs.declared.entry.CacheEntryKey.{CacheEntryKey}
use Rattle.cache_entries.specs.Entry.{key_of, id_of}
use Rattle.cache_words.specs.declared.key.CompactCacheKey.{CompactCacheKey}
use Rattle.cache_heads.specs.declared.meta.CacheMeta.{CacheMeta}
use Rattle.head_metas.specs.declared.versions.InternalMetaV2.{InternalMetaV2}
use Rattle.head_lines.specs.declared.header.ResponseHeader.{ResponseHeader}
use Rattle.head_packed.specs.HeadText.{head_text, line_feeds}
use Rattle.tier_calls.specs.Told.{flag}
use Rattle.tier_calls.specs.declared.keeps.Keep.{Keep}
use Rattle.tier_calls.specs.declared.structs.EntryShown.{EntryShown}
use Rattle.tier_calls.specs.declared.structs.HeadShown.{HeadShown}
use Rattle.tier_calls.specs.declared.structs.Lent.{Lent}
use Rattle.tier_calls.specs.declared.structs.MomentWords.{MomentWords}

-- 0 before 1970
abbrev pub seconds_since : ℤ → ℕ
seconds_since (pos n) = n
seconds_since (negsuc n) = 0

abbrev pub words_of_moment : MomentValue → MomentWords
words_of_moment t = record { seconds = seconds_since t.seconds; nanoseconds = t.nanoseconds }

-- a head is lent: its status, what is kept beside it, what its body has outside, and as many bytes as its lines have, of which each ends with one line feed
pub record IsHeadOf (header : ResponseHeader) (internal : InternalMetaV2) (outside length_told : ℕ) (out : HeadShown) : Type 0 where
  pub status : out.status ≡ header.status
  pub lines : out.lines ≡ line_feeds (head_text header)
  pub fresh_until : out.fresh_until ≡ words_of_moment internal.fresh_until
  pub created : out.created ≡ words_of_moment internal.created
  pub updated : out.updated ≡ words_of_moment internal.updated
  pub provenance : out.provenance ≡ words_of_moment (unwrap_or internal.provenance internal.created)
  pub stale_while_revalidate : out.stale_while_revalidate ≡ internal.stale_while_revalidate_sec
  pub stale_if_error : out.stale_if_error ≡ internal.stale_if_error_sec
  pub external : out.external ≡ outside
  pub block : out.block.len ≡ length (head_text header)
  pub body_len : out.body_len ≡ length_told

abbrev pub no_moment : MomentWords
no_moment = record { seconds = 0; nanoseconds = 0 }

-- no head is lent
pub record IsNoHead (out : HeadShown) : Type 0 where
  pub status : out.status ≡ 0
  pub lines : out.lines ≡ 0
  pub fresh_until : out.fresh_until ≡ no_moment
  pub created : out.created ≡ no_moment
  pub updated : out.updated ≡ no_moment
  pub provenance : out.provenance ≡ no_moment
  pub stale_while_revalidate : out.stale_while_revalidate ≡ 0
  pub stale_if_error : out.stale_if_error ≡ 0
  pub external : out.external ≡ 0
  pub block : out.block.len ≡ 0
  pub body_len : out.body_len ≡ 0

-- the bytes, if there are some
abbrev pub bytes_or_none : Option (List ℕ) → List ℕ
bytes_or_none None = []
bytes_or_none (Some bytes) = bytes

-- an entry is lent
pub record IsEntryOf (e : CacheEntryKey) (outside : ℕ) (out : EntryShown) : Type 0 where
  pub status : out.status ≡ 49
  pub foreign : out.foreign ≡ flag (is_some (id_of e))
  pub primary : out.primary.len ≡ length (key_of e).primary
  pub variance : out.variance.len ≡ length (bytes_or_none (key_of e).variance)
  pub tag : out.tag.len ≡ length (key_of e).user_tag
  pub external : out.external ≡ outside

-- there is no such entry
pub record IsNoEntry (out : EntryShown) : Type 0 where
  pub status : out.status ≡ 22
  pub foreign : out.foreign ≡ 0
  pub primary : out.primary.len ≡ 0
  pub variance : out.variance.len ≡ 0
  pub tag : out.tag.len ≡ 0
  pub external : out.external ≡ 0

abbrev pub IsEntryShown : Option CacheEntryKey → ℕ → EntryShown → Type 0
IsEntryShown o outside out = MatchOption o (IsNoEntry out) (λ e. IsEntryOf e outside out)

-- a length that is told; all bits set of one that isn't known
abbrev pub told_len : Option ℕ → ℕ
told_len o = unwrap_or o (2 ^ 64 - 1)

-- nothing is kept
abbrev pub keeps_nothing : Keep
keeps_nothing = record { body = None; head = None }
