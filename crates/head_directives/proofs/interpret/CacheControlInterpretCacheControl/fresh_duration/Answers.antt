use Rattle.std.proofs.Common.{sym, ap, ◌∙◌}
use Rattle.std.specs.Prelude.{Some, codes}
use Rattle.std.specs.Result.{result_ok}
use Rattle.head_directives.specs.Keeps.{is_alone, value_under}
use Rattle.head_directives.specs.Control.{directives_of}
use Rattle.head_directives.proofs.Lifetimes.{fresh_by_max_age}
use Rattle.head_directives.proofs.interpret.CacheControlInterpretCacheControl.fresh_duration.Goals as goal

pub returns-in-Ok-None : goal.returns-in-Ok-None
returns-in-Ok-None c =
    let ds = directives_of c.args.self.now in
    c.whole.ensures
    ∙ fresh_by_max_age (is_alone (codes "no-cache") ds) (value_under (codes "s-maxage") ds) (value_under (codes "max-age") ds) (result_ok c.max_age.result) (sym c.no_cache.ensures ∙ c.if-no_cache.false) (ap Some (sym c.in-Ok-None.field-0-is) ∙ c.in-Ok-None.ensures.value) c.max_age.ensures.value
