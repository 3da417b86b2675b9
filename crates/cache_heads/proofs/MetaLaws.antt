-- Metas that are written are read again, and halves begin with one meta at most.
use Rattle.std.proofs.Common.{◌≡◌, ℕ, List, ◌++◌, Ok, refl, sym, ap, ap₂, ◌∙◌}
use Rattle.head_lines.specs.declared.header.ResponseHeader.{ResponseHeader}
use Rattle.head_metas.specs.declared.versions.InternalMetaV2.{InternalMetaV2}
use Rattle.head_metas.specs.Head.{written_head}
use Rattle.head_metas.specs.Internal.{written_meta}
use Rattle.head_metas.proofs.HeadLaws.{one_head}
use Rattle.head_metas.proofs.HeadWriting as head
use Rattle.head_metas.proofs.InternalLaws as internal
use Rattle.head_metas.proofs.InternalWriting as internal_text
use Rattle.cache_heads.specs.declared.meta.CacheMeta.{CacheMeta}
use Rattle.cache_heads.specs.MetaBytes.{BeginWithMeta, CanBeWritten, cache_meta_at, plain_meta}

pub meta_begins : (m : CacheMeta) (a b : List ℕ) → CanBeWritten m → BeginWithMeta (written_meta m.internal ++ a) (written_head m.header ++ b) (plain_meta m)
meta_begins m a b is = (
  (internal_text.written_long m.internal a is.internal is.moments, written_meta m.internal, a, internal_text.written_spelled m.internal is.internal is.moments, refl),
  (written_head m.header, b, head.written_spelled m.header is.header is.counted, refl),
  refl,
)

pub meta_again : (m : CacheMeta) (a b : List ℕ) → CanBeWritten m
    → cache_meta_at (written_meta m.internal ++ a) (written_head m.header ++ b) ≡ Ok (plain_meta m)
meta_again m a b is =
    rw (internal_text.written_again m.internal a is.internal is.moments, head.written_again m.header b is.header is.counted) refl

abbrev pub made : InternalMetaV2 → ResponseHeader → CacheMeta
made i h = record { internal = i; header = h; external = 0 }

-- one with nothing outside is made of its two halves
pub is_made : (m : CacheMeta) → m.external ≡ 0 → m ≡ made m.internal m.header
is_made m none = ap (λ (n : ℕ). record m { external = n }) none

pub one_meta : (v w : CacheMeta) (a b : List ℕ) → BeginWithMeta a b v → BeginWithMeta a b w → v ≡ w
one_meta v w a b s t =
    let x = s.0 in
    let y = t.0 in
    let p = s.1 in
    let q = t.1 in
    let internals = internal.one_meta v.internal w.internal x.1 y.1 x.2 y.2 x.3 y.3 (sym x.4 ∙ y.4) in
    let heads = one_head v.header w.header p.0 q.0 p.1 q.1 p.2 q.2 (sym p.3 ∙ q.3) in
    is_made v s.2 ∙ (ap₂ made internals.0 heads.0 ∙ sym (is_made w t.2))
