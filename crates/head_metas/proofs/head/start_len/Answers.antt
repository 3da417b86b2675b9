use Rattle.std.proofs.Common.{ℕ, length, ◌∙◌, sym, ap}
use Rattle.http_header.proofs.CountLemmas.{length-pairs}
use Rattle.cache_words.specs.Forms.{shortest, arrays}
use Rattle.head_metas.proofs.head.start_len.Goals as goal

pub returns : goal.returns
returns c = c.array_len.ensures ∙ ap (λ (n : ℕ). length (shortest arrays n)) (c.len.ensures.value ∙ sym (length-pairs c.args.headers.now))
