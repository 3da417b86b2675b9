use Rattle.std.proofs.Common.{◌∷◌, [], codes, refl, Some}
use Rattle.std.proofs.lemmas.Result.{err_from_is_err_and}
use Rattle.trace_replay.specs.declared.options.OptionName.TheVariants.{Limit, Watermark, Shards, Seed, Age, Wait, Recency}
use Rattle.trace_replay.proofs.OptionLemmas.{given_by_words, none_by_words, fault_by_words, shards_by_words, shards_fault_by_words, directory_fault_by_words}
use Rattle.trace_replay.proofs.options.options_in.Goals as goal

pub returns-in_default-clause-refused : goal.returns-in_default-clause-refused
returns-in_default-clause-refused c = λ words h free. (free, none_by_words (codes "limit") c.args.matches.now words c.in_ok-limit.field-0 h c.in_ok-limit.ensures c.in_default.not-Some)

pub returns-in_err-limit-clause-refused : goal.returns-in_err-limit-clause-refused
returns-in_err-limit-clause-refused c =
    let at_exit = err_from_is_err_and c.from_residual.result c.from_residual.ensures.1 in
    rw (at_exit.1, at_exit.2) (λ words h free.
    (fault_by_words Limit c.args.matches.now words c.in_err-limit.field-0.0 free h
    (λ wrong. record { before = []; after = Watermark ∷ Shards ∷ Seed ∷ Age ∷ Wait ∷ Recency ∷ []; place = refl; right = tt; wrong = wrong }) c.in_err-limit.ensures))

pub returns-in_err-watermark-clause-refused : goal.returns-in_err-watermark-clause-refused
returns-in_err-watermark-clause-refused c =
    let at_exit = err_from_is_err_and c.from_residual-in_err-watermark.result c.from_residual-in_err-watermark.ensures.1 in
    rw (at_exit.1, at_exit.2) (λ words h free.
    let limit = given_by_words (codes "limit") c.args.matches.now words (Some c.in-Some.limit) h (rw c.in-Some.is at c.in_ok-limit.ensures) in
    (fault_by_words Watermark c.args.matches.now words c.in_err-watermark.field-0.0 free h
    (λ wrong. record { before = Limit ∷ []; after = Shards ∷ Seed ∷ Age ∷ Wait ∷ Recency ∷ []; place = refl; right = ((c.in-Some.limit, limit), tt); wrong = wrong }) c.in_err-watermark.ensures))

pub returns-in_err-shards-clause-refused : goal.returns-in_err-shards-clause-refused
returns-in_err-shards-clause-refused c =
    let at_exit = err_from_is_err_and c.from_residual-in_err-shards.result c.from_residual-in_err-shards.ensures.1 in
    rw (at_exit.1, at_exit.2) (λ words h free.
    let limit = given_by_words (codes "limit") c.args.matches.now words (Some c.in-Some.limit) h (rw c.in-Some.is at c.in_ok-limit.ensures) in
    let watermark = given_by_words (codes "watermark") c.args.matches.now words c.in_ok-watermark.watermark h c.in_ok-watermark.ensures in
    (shards_fault_by_words c.args.matches.now words c.in_err-shards.field-0.0 free h
    (λ wrong. record { before = Limit ∷ Watermark ∷ []; after = Seed ∷ Age ∷ Wait ∷ Recency ∷ []; place = refl; right = ((c.in-Some.limit, limit), ((c.in_ok-watermark.watermark, watermark), tt)); wrong = wrong }) c.in_err-shards.ensures))

pub returns-in_err-seed-clause-refused : goal.returns-in_err-seed-clause-refused
returns-in_err-seed-clause-refused c =
    let at_exit = err_from_is_err_and c.from_residual-in_err-seed.result c.from_residual-in_err-seed.ensures.1 in
    rw (at_exit.1, at_exit.2) (λ words h free.
    let limit = given_by_words (codes "limit") c.args.matches.now words (Some c.in-Some.limit) h (rw c.in-Some.is at c.in_ok-limit.ensures) in
    let watermark = given_by_words (codes "watermark") c.args.matches.now words c.in_ok-watermark.watermark h c.in_ok-watermark.ensures in
    let shards = shards_by_words c.args.matches.now words c.in_ok-shards.shards h c.in_ok-shards.ensures in
    (fault_by_words Seed c.args.matches.now words c.in_err-seed.field-0.0 free h
    (λ wrong. record { before = Limit ∷ Watermark ∷ Shards ∷ []; after = Age ∷ Wait ∷ Recency ∷ []; place = refl; right = ((c.in-Some.limit, limit), ((c.in_ok-watermark.watermark, watermark), ((c.in_ok-shards.shards, shards), tt))); wrong = wrong }) c.in_err-seed.ensures))

pub returns-in_err-age-clause-refused : goal.returns-in_err-age-clause-refused
returns-in_err-age-clause-refused c =
    let at_exit = err_from_is_err_and c.from_residual-in_err-age.result c.from_residual-in_err-age.ensures.1 in
    rw (at_exit.1, at_exit.2) (λ words h free.
    let limit = given_by_words (codes "limit") c.args.matches.now words (Some c.in-Some.limit) h (rw c.in-Some.is at c.in_ok-limit.ensures) in
    let watermark = given_by_words (codes "watermark") c.args.matches.now words c.in_ok-watermark.watermark h c.in_ok-watermark.ensures in
    let shards = shards_by_words c.args.matches.now words c.in_ok-shards.shards h c.in_ok-shards.ensures in
    let seed = given_by_words (codes "seed") c.args.matches.now words c.in_ok-seed.seed h c.in_ok-seed.ensures in
    (fault_by_words Age c.args.matches.now words c.in_err-age.field-0.0 free h
    (λ wrong. record { before = Limit ∷ Watermark ∷ Shards ∷ Seed ∷ []; after = Wait ∷ Recency ∷ []; place = refl; right = ((c.in-Some.limit, limit), ((c.in_ok-watermark.watermark, watermark), ((c.in_ok-shards.shards, shards), ((c.in_ok-seed.seed, seed), tt)))); wrong = wrong }) c.in_err-age.ensures))

pub returns-in_err-wait-clause-refused : goal.returns-in_err-wait-clause-refused
returns-in_err-wait-clause-refused c =
    let at_exit = err_from_is_err_and c.from_residual-in_err-wait.result c.from_residual-in_err-wait.ensures.1 in
    rw (at_exit.1, at_exit.2) (λ words h free.
    let limit = given_by_words (codes "limit") c.args.matches.now words (Some c.in-Some.limit) h (rw c.in-Some.is at c.in_ok-limit.ensures) in
    let watermark = given_by_words (codes "watermark") c.args.matches.now words c.in_ok-watermark.watermark h c.in_ok-watermark.ensures in
    let shards = shards_by_words c.args.matches.now words c.in_ok-shards.shards h c.in_ok-shards.ensures in
    let seed = given_by_words (codes "seed") c.args.matches.now words c.in_ok-seed.seed h c.in_ok-seed.ensures in
    let age = given_by_words (codes "age") c.args.matches.now words c.in_ok-age.age h c.in_ok-age.ensures in
    (fault_by_words Wait c.args.matches.now words c.in_err-wait.field-0.0 free h
    (λ wrong. record { before = Limit ∷ Watermark ∷ Shards ∷ Seed ∷ Age ∷ []; after = Recency ∷ []; place = refl; right = ((c.in-Some.limit, limit), ((c.in_ok-watermark.watermark, watermark), ((c.in_ok-shards.shards, shards), ((c.in_ok-seed.seed, seed), ((c.in_ok-age.age, age), tt))))); wrong = wrong }) c.in_err-wait.ensures))

pub returns-in_err-recency-clause-refused : goal.returns-in_err-recency-clause-refused
returns-in_err-recency-clause-refused c =
    let at_exit = err_from_is_err_and c.from_residual-in_err-recency.result c.from_residual-in_err-recency.ensures.1 in
    rw (at_exit.1, at_exit.2) (λ words h free.
    let limit = given_by_words (codes "limit") c.args.matches.now words (Some c.in-Some.limit) h (rw c.in-Some.is at c.in_ok-limit.ensures) in
    let watermark = given_by_words (codes "watermark") c.args.matches.now words c.in_ok-watermark.watermark h c.in_ok-watermark.ensures in
    let shards = shards_by_words c.args.matches.now words c.in_ok-shards.shards h c.in_ok-shards.ensures in
    let seed = given_by_words (codes "seed") c.args.matches.now words c.in_ok-seed.seed h c.in_ok-seed.ensures in
    let age = given_by_words (codes "age") c.args.matches.now words c.in_ok-age.age h c.in_ok-age.ensures in
    let wait = given_by_words (codes "wait") c.args.matches.now words c.in_ok-wait.wait h c.in_ok-wait.ensures in
    (directory_fault_by_words c.args.matches.now words c.in_err-recency.field-0.0 free h
    (λ wrong. record {
      before = Limit ∷ Watermark ∷ Shards ∷ Seed ∷ Age ∷ Wait ∷ [];
      after = [];
      place = refl;
      right = ((c.in-Some.limit, limit), ((c.in_ok-watermark.watermark, watermark), ((c.in_ok-shards.shards, shards), ((c.in_ok-seed.seed, seed), ((c.in_ok-age.age, age), ((c.in_ok-wait.wait, wait), tt))))));
      wrong = wrong;
    }) c.in_err-recency.ensures))
