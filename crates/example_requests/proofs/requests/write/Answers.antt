use Rattle.std.proofs.Common.{◌∙◌, ap}
use Rattle.request_puts.specs.Response.{joined}
use Rattle.example_requests.proofs.WriteLaws.{begins-empty, begins-writer, meta-set, of-some, length-told}
use Rattle.example_requests.proofs.requests.write.Goals as goal

pub returns-in-Ok-Some-clause-length : goal.returns-in-Ok-Some-clause-length
returns-in-Ok-Some-clause-length g c =
    let b = of-some _ c.set_cache_meta.new.self.meta _ (ap (λ r. r.meta) c.set_cache_meta.ensures ∙ meta-set _ c.args.request.now) c.in_ok-set_miss_handler.ensures.begun in
    length-told _ (λ h. h) _ _ c.in-Ok-Some.finished _ _ b.miss c.set_miss_handler.new.self.writer c.write_pieces.new.request.writer _ (joined c.args.pieces.now) c.set_miss_handler.new.parts.store
    (begins-writer _ _ _ _ _ _ _ _ b) c.in_ok-write_pieces.ensures.writer (begins-empty _ _ _ _ _ _ _ _ b) c.in_ok-write_pieces.ensures.bytes (rw c.in-Ok-Some.field-0-is at c.in-Ok-Some.ensures.finished)
