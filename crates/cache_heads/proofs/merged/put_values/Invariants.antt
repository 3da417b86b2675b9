use Rattle.std.proofs.Common.{◌≡◌, List, ◌∷◌, ◌++◌}
use Rattle.http_header.specs.declared.value.HeaderValue.{HeaderValue}
use Rattle.http_header.specs.HeaderMap.{update, get_all}
use Rattle.http_header.specs.Token.{lowercase}
use Rattle.cache_heads.proofs.merged.put_values.Given as goal

-- the values that were put, and those to come, are what was sent
abbrev pub invariant-loop-value : goal.invariant-loop-value
invariant-loop-value l =
    (first : HeaderValue) × (done : List HeaderValue) × (l.headers ≡ update l.fn.headers (lowercase l.name) (λ _. first ∷ done)) × (get_all l.sent (lowercase l.name) ≡ first ∷ done ++ l.value-iterator)
