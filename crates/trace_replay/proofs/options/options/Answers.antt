use Rattle.std.proofs.Common.{◌∙◌, map, codes, Some}
use Rattle.std.proofs.lemmas.Result.{IfOk-weaker, IfErr-weaker}
use Rattle.trace_replay.proofs.OptionLemmas.{given_by_words, shards_by_words, first_value-words, named_by_words}
use Rattle.trace_replay.proofs.options.options.Goals as goal

pub returns-clause-limit : goal.returns-clause-limit
returns-clause-limit g c =
    let words = map g.S.AsStr.text c.args.words.now in
    IfOk-weaker c.options_in.result _ _ (λ o given. given_by_words (codes "limit") c.in_ok-matches.matches words (Some o.limit) c.in_ok-matches.ensures.ok given) c.options_in.ensures.limit

pub returns-clause-watermark : goal.returns-clause-watermark
returns-clause-watermark g c =
    let words = map g.S.AsStr.text c.args.words.now in
    IfOk-weaker c.options_in.result _ _ (λ o given. given_by_words (codes "watermark") c.in_ok-matches.matches words o.watermark c.in_ok-matches.ensures.ok given) c.options_in.ensures.watermark

pub returns-clause-shards : goal.returns-clause-shards
returns-clause-shards g c =
    let words = map g.S.AsStr.text c.args.words.now in
    IfOk-weaker c.options_in.result _ _ (λ o given. shards_by_words c.in_ok-matches.matches words o.shards c.in_ok-matches.ensures.ok given) c.options_in.ensures.shards

pub returns-clause-seed : goal.returns-clause-seed
returns-clause-seed g c =
    let words = map g.S.AsStr.text c.args.words.now in
    IfOk-weaker c.options_in.result _ _ (λ o given. (given.0, given_by_words (codes "seed") c.in_ok-matches.matches words given.0 c.in_ok-matches.ensures.ok given.1, given.2)) c.options_in.ensures.seed

pub returns-clause-age : goal.returns-clause-age
returns-clause-age g c =
    let words = map g.S.AsStr.text c.args.words.now in
    IfOk-weaker c.options_in.result _ _ (λ o given. (given.0, given_by_words (codes "age") c.in_ok-matches.matches words given.0 c.in_ok-matches.ensures.ok given.1, given.2)) c.options_in.ensures.age

pub returns-clause-wait : goal.returns-clause-wait
returns-clause-wait g c =
    let words = map g.S.AsStr.text c.args.words.now in
    IfOk-weaker c.options_in.result _ _ (λ o given. given_by_words (codes "wait") c.in_ok-matches.matches words o.wait c.in_ok-matches.ensures.ok given) c.options_in.ensures.wait

pub returns-clause-recency : goal.returns-clause-recency
returns-clause-recency g c =
    let words = map g.S.AsStr.text c.args.words.now in
    IfOk-weaker c.options_in.result _ _ (λ o given. given ∙ first_value-words (codes "recency") c.in_ok-matches.matches words c.in_ok-matches.ensures.ok) c.options_in.ensures.recency

pub returns-clause-named : goal.returns-clause-named
returns-clause-named g c =
    let words = map g.S.AsStr.text c.args.words.now in
    IfOk-weaker c.options_in.result _ _ (λ o named. named_by_words c.in_ok-matches.matches words c.in_ok-matches.ensures.ok named) c.options_in.ensures.named

pub returns-clause-refused : goal.returns-clause-refused
returns-clause-refused g c =
    let words = map g.S.AsStr.text c.args.words.now in
    IfErr-weaker c.options_in.result _ _ (λ error refused. refused words c.in_ok-matches.ensures.ok c.in_ok-matches.ensures.faultless) c.options_in.ensures.refused
