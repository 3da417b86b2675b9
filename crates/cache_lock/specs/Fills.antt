-- Fills that a reader can't use.
use Rattle.std.specs.Prelude.{ℕ, Bool, nat_eq, List, Option, find}
use Rattle.std.specs.List.{list_any}
use Rattle.cache_lock.specs.declared.fills.UnusableFill.{UnusableFill}

-- its token is published
abbrev pub is_published : List ℕ → UnusableFill → Bool
is_published tokens fill = list_any (λ t. nat_eq t fill.token) tokens

-- the first whose token is published
abbrev pub fill_among : List ℕ → List UnusableFill → Option UnusableFill
fill_among tokens fills = find (is_published tokens) fills
