use Rattle.std.proofs.Common.{◌≡◌, ◌∙◌, ℕ, ap, sym, Option, Some, None, option_map}
use Rattle.std.specs.Option.{unwrap_or, option_and_then}
use Rattle.cache_words.specs.Time.{MomentValue, DurationValue, span_of}
use Rattle.head_directives.specs.Lifetime.{lifetime}
use Rattle.cache_heads.specs.FreshUntil.{lasts_to}
use Rattle.cache_heads.proofs.filters.by_lines.moment_by_directives.Goals as goal

lasts_so_long : (now : MomentValue) (found : Option ℕ) (d : DurationValue) → Some d ≡ option_map span_of found → lasts_to now d ≡ option_and_then (λ s. lasts_to now (span_of s)) found
lasts_so_long now None d h = cc
lasts_so_long now (Some s) d h = ap (λ (o : Option DurationValue). lasts_to now (unwrap_or o d)) h

pub returns : goal.returns
returns c = λ ds known.
    c.lasts_to.ensures ∙ lasts_so_long c.args.now (lifetime ds) c.in_ok-fresh_duration.field-0 (sym c.in_ok-fresh_duration.was ∙ c.fresh_duration.ensures ds known)
