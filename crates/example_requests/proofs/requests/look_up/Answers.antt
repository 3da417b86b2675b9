use Rattle.std.proofs.Common.{◌∙◌, ap}
use Rattle.std.specs.Prelude.{option_map}
use Rattle.store_memory.specs.Readings.{reader_of}
use Rattle.cache_store.specs.Answers.{look_up as shown}
use Rattle.request_cache.specs.Request.{stored_at}
use Rattle.example_requests.proofs.FoundLaws.{phase-found, reader-found}
use Rattle.example_requests.proofs.requests.look_up.Goals as goal

pub returns-clause-phase : goal.returns-clause-phase
returns-clause-phase c =
    let look = rw c.in-Some.is at c.in_ok-meta.ensures.look in
    ap (λ r. r.phase) c.in_ok-cache_found.ensures.found.request
    ∙ phase-found reader_of _ _ c.in-Some.meta c.in-Some.hit c.args.moment (shown (stored_at c.args.request.now.key) c.args.cache.now.store.store) c.args.request.now.valid_after c.status_at-status.result
    c.requires.valid_after c.status_at-status.ensures _ look.0

pub returns-clause-reader : goal.returns-clause-reader
returns-clause-reader c =
    let look = rw c.in-Some.is at c.in_ok-meta.ensures.look in
    ap (λ r. option_map reader_of r.reader) c.in_ok-cache_found.ensures.found.request
    ∙ reader-found reader_of _ _ c.in-Some.meta c.in-Some.hit c.args.moment (shown (stored_at c.args.request.now.key) c.args.cache.now.store.store) c.args.request.now.valid_after c.status_at-status.result
    c.requires.valid_after c.status_at-status.ensures look.0
