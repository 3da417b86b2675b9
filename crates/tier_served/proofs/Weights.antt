-- Which responses are stored, that their metas can be written, and what their bodies weigh.
use Rattle.std.proofs.Common.{◌≡◌, ℕ, Bool, true, false, cond, not, T, List, Option, Some, None, refl, ap, sym, ◌∙◌, subst}
use Rattle.std.specs.Prelude.{◌||◌, option_map, IfSome, codes, Result, Ok, Err, IfOk}
use Rattle.std.specs.Int.Signed.{lt_z_no}
use Rattle.cache_words.specs.Time.{MomentValue}
use Rattle.head_metas.specs.Internal.{IsSinceEpoch, IsWritable}
use Rattle.head_directives.specs.Written.{Written}
use Rattle.head_directives.specs.Control.{named, lines_under}
use Rattle.head_lines.specs.declared.header.ResponseHeader.{ResponseHeader}
use Rattle.cache_heads.specs.FreshUntil.{fresh_until_by}
use Rattle.cache_heads.specs.Meta.{new_meta}
use Rattle.cache_heads.specs.Stale.{revalidate_window, error_window}
use Rattle.cache_heads.specs.Verdict.{kept_header, kept_until}
use Rattle.cache_heads.specs.declared.meta.CacheMeta.{CacheMeta}
use Rattle.head_parse.specs.Response.{Reading, IsReading, Gives}
use Rattle.head_parse.specs.declared.response.Parsed.{Parsed}
use Rattle.head_parse.specs.declared.response.Parsed.TheVariants.{Complete}
use Rattle.head_parse.specs.declared.response.Response.{Response}
use Rattle.tier_model.specs.Response.{Judged, kept, not_kept, too_early, not_read, is_before_epoch, judged_by, judged, whole_with, whole_by, whole_of}
use Rattle.tier_model.specs.Rows.{weight_for}
use Rattle.tier_served.specs.Known.{kept_meta, stored_weight}

-- ---- metas that are kept can be written

abbrev pub CanBeWritten : Option CacheMeta → Type 0
CanBeWritten meta = IfSome meta (λ m. IsWritable m.internal)

since : (t : MomentValue) → is_before_epoch t ≡ false → IsSinceEpoch t
since t e = lt_z_no (subst T (sym (ap not e)) tt)

neither : (a b : Bool) → (a || b) ≡ false → (a ≡ false) × (b ≡ false)
neither false b e = (refl, e)
neither true b e = absurd cc

module _ (t : MomentValue) where
  by_until : (until : Option MomentValue) (ds : Option (List Written)) (header : ResponseHeader) → CanBeWritten (kept_meta (judged_by t (kept_until until t ds header 0 0)))
  by_until None ds header = tt
  by_until (Some until) ds header = by_test (is_before_epoch t || is_before_epoch until) refl
    where
      meta : CacheMeta
      meta = new_meta until t (revalidate_window ds 0) (error_window ds 0) (kept_header header ds)

      by_test : (v : Bool) → (is_before_epoch t || is_before_epoch until) ≡ v → CanBeWritten (kept_meta (cond v too_early (kept meta)))
      by_test true e = tt
      by_test false e =
          let both = neither (is_before_epoch t) (is_before_epoch until) e in
          record { fresh_until = since until both.1; created = since t both.0; updated = since t both.0; epoch_override = tt; provenance = since t both.0 }

  kept-written : (header : ResponseHeader) → CanBeWritten (kept_meta (judged t header))
  kept-written header =
      let lines = lines_under (codes "cache-control") header.headers in
      by_until (fresh_until_by t (named lines) (lines_under (codes "expires") header.headers) false None) (named lines) header

  pub can-write : (header : ResponseHeader) (o : Option CacheMeta) (meta : CacheMeta) → o ≡ kept_meta (judged t header) → o ≡ Some meta → IsWritable meta.internal
  can-write header o meta is some = subst CanBeWritten (sym is ∙ some) (kept-written header)

-- ---- what bodies weigh

-- what a body weighs with the meta with which it is kept
abbrev pub kept_weight : List ℕ → Option CacheMeta → Option ℕ
kept_weight bytes meta = option_map (λ m. weight_for (record { bytes = bytes; meta = m })) meta

-- a whole body is stored where its head is kept
weight-is : (bytes : List ℕ) (j : Judged) → stored_weight (whole_with bytes j) ≡ kept_weight bytes (kept_meta j)
weight-is bytes (kept meta) = refl
weight-is bytes (not_kept reason) = refl
weight-is bytes too_early = refl
weight-is bytes not_read = refl

pub weighed : (bytes : List ℕ) (j : Judged) (o meta : Option CacheMeta) → o ≡ kept_meta j → o ≡ meta → kept_weight bytes meta ≡ stored_weight (whole_with bytes j)
weighed bytes j o meta is some = ap (kept_weight bytes) (sym some ∙ is) ∙ sym (weight-is bytes j)

-- what is stored of a whole response
pub stored-is : {E : Type 0} (bytes : List ℕ) (t : MomentValue) (p : Parsed) (whole : Response) (r : Result (Option ℕ) E) → Gives bytes p → p ≡ Complete whole
    → IfOk r (λ n. n ≡ stored_weight (whole_with whole.body (judged t whole.header))) → IfOk r (λ n. (x : Reading) × IsReading bytes x × (n ≡ stored_weight (whole_of t x)))
stored-is bytes t p whole (Ok n) g is here = (g.0, g.1, here ∙ ap (λ (x : Parsed). stored_weight (whole_by t x)) (sym is ∙ g.2))
stored-is bytes t p whole (Err e) g is here = tt
