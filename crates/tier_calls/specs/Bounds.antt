-- How many bytes a body may have, with those that it has outside.
use Rattle.std.specs.Prelude.{◌≡◌, ◌⊎◌, ℕ, ◌+◌, ◌==◌, ◌&&◌, if◌then◌else◌, nat_lt, Bool, true, false, List, [], ◌∷◌, length, Option, Some, None, option_map, option_and_then, unwrap_or}
use Rattle.cache_heads.specs.declared.given.GivenMeta.{GivenMeta}
use Rattle.tier_model.specs.Sizes.{write_size}
use Rattle.tier_calls.specs.Answers.{IsRefused}
use Rattle.tier_calls.specs.Tiers.{state_of}
use Rattle.tier_calls.specs.declared.held.TierHandle.{TierHandle}
use Rattle.tier_calls.specs.declared.structs.CallAnswer.{CallAnswer}

-- what is said to be outside
abbrev pub outside : Option GivenMeta → ℕ
outside given = unwrap_or (option_map (λ g. g.external) given) 0

-- how many bytes stand behind a line end, where they begin with one
abbrev pub behind_line_end : List ℕ → Option ℕ
behind_line_end [] = None
behind_line_end (b ∷ []) = if b == 10 then Some 0 else None
behind_line_end (b ∷ c ∷ rest) = if b == 10 then Some (length rest + 1) else if b == 13 && c == 10 then Some (length rest) else None

-- how many bytes stand behind the first empty line, which ends a head (RFC 9112, 2.1)
abbrev pub behind_head : List ℕ → ℕ
behind_head [] = 0
behind_head (b ∷ rest) = if b == 10 then unwrap_or (behind_line_end rest) (behind_head rest) else behind_head rest

-- the body of a response: what comes behind its head, and what it has outside
abbrev pub size_of_put : List ℕ → List ℕ → Option GivenMeta → ℕ
size_of_put head body given = behind_head head + length body + outside given

-- with so many bytes more the body of the request's write would pass the bound
abbrev pub is_too_large : TierHandle → ℕ → ℕ → Bool
is_too_large h id more = unwrap_or (option_map (λ size. nat_lt h.most (size + more)) (option_and_then (λ s. write_size s id) (state_of h.tier))) false

-- a body of so many bytes is refused where they are more than a body may have: the tier takes no event. Else it goes on
abbrev pub IsWithin : TierHandle → ℕ → (CallAnswer → TierHandle → Type 0) → CallAnswer → TierHandle → Type 0
IsWithin h size goes_on out h' = ((nat_lt h.most size ≡ true) × IsRefused 24 h out h') ⊎ ((nat_lt h.most size ≡ false) × goes_on out h')
