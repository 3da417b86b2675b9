use Rattle.std.proofs.Common.{◌≡◌, ◌++◌, ◌<◌, ◌^◌, ℕ, List, length, flat_map, ◌∙◌, sym, ap, arith, append_assoc}
use Rattle.http_header.specs.HeaderMap.{pairs}
use Rattle.http_header.proofs.CountLemmas.{length-pairs}
use Rattle.cache_words.specs.Forms.{shortest, arrays}
use Rattle.head_metas.specs.Head.{line_of}
use Rattle.head_metas.proofs.head.put_lines.Goals as goal

pub returns-in-Ok-clause-ok : goal.returns-in-Ok-clause-ok
returns-in-Ok-clause-ok c =
    let out = c.args.out.now.items in
    let all = pairs c.args.headers.now in
    let count : c.len-2.result ≡ length all = c.len-2.ensures.value ∙ sym (length-pairs c.args.headers.now) in
    c.in-Ok.ensures.ok ∙ ap (λ (x : List ℕ). x ++ flat_map line_of all) c.in_ok-put_array.ensures.ok
    ∙ ap (λ (n : ℕ). (out ++ shortest arrays n) ++ flat_map line_of all) count
    ∙ append_assoc out (shortest arrays (length all)) (flat_map line_of all)

pub returns-in-Ok-clause-counted : goal.returns-in-Ok-clause-counted
returns-in-Ok-clause-counted c =
    let lines : length (pairs c.args.headers.now) < 2 ^ 32 = omega (arith, c.if-len.false, c.len.ensures.value, length-pairs c.args.headers.now) in
    record { lines = lines; values = c.in-Ok.ensures.counted }
