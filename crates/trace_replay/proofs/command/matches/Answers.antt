use Rattle.std.proofs.Common.{◌≡◌, [], map, ap, subst, ◌∙◌, ⊎_elim}
use Rattle.clap.specs.Kinds.{HasKind}
use Rattle.clap.specs.Faults.{fault_of, is_simple_and_free}
use Rattle.clap.specs.Simple.{HasMatchesOf}
use Rattle.trace_replay.proofs.OptionLemmas.{app_is_free}
use Rattle.trace_replay.proofs.command.matches.Goals as goal

pub returns-in-Ok-try_get_matches_from-clause-ok : goal.returns-in-Ok-try_get_matches_from-clause-ok
returns-in-Ok-try_get_matches_from-clause-ok g c =
    subst (λ a. HasMatchesOf a (map g.S.AsStr.text c.args.words.now) c.in-Ok-try_get_matches_from.matches) c.in-Ok.ensures c.in-Ok-try_get_matches_from.ensures.matches

pub returns-in-Ok-try_get_matches_from-clause-faultless : goal.returns-in-Ok-try_get_matches_from-clause-faultless
returns-in-Ok-try_get_matches_from-clause-faultless g c =
    subst (λ a. fault_of a (map g.S.AsStr.text c.args.words.now) ≡ []) c.in-Ok.ensures
    (c.in-Ok-try_get_matches_from.ensures.kinds (ap is_simple_and_free c.in-Ok.ensures ∙ app_is_free))

pub returns : goal.returns
returns g c =
    let kinds = subst (λ a. HasKind (fault_of a (map g.S.AsStr.text c.args.words.now)) c.in-Err.error) c.in-Ok.ensures
    (c.in-Err.ensures.kinds (ap is_simple_and_free c.in-Ok.ensures ∙ app_is_free)) in
    record {
      ok = tt;
      faultless = tt;
      err = ⊎_elim (λ memory. absurd (c.in_default-kind.not-OutOfMemory (c.kind.ensures ∙ memory))) (λ among. among) kinds;
    }
