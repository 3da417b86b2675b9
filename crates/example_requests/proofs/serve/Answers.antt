use Rattle.std.proofs.Common.{◌∙◌}
use Rattle.cache_store.specs.Answers.{look_up as shown}
use Rattle.request_cache.specs.Request.{stored_at}
use Rattle.example_requests.proofs.ServedLaws.{begins}
use Rattle.example_requests.proofs.serve.Goals as goal

pub write-requires : goal.write-requires
write-requires c =
    let look = shown (stored_at c.args.request.now.key) c.args.cache.now.store.store in
    record {
      phase = begins c.args.moment look c.look_up.new.request.phase c.in_ok-look_up.ensures.phase (λ h. c.in_default.not-Hit (c.phase.ensures ∙ h));
      writer = c.look_up.ensures.writer;
    }
