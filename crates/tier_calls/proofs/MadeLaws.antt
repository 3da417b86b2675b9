-- A tier is made by options in their ranges alone.
use Rattle.std.proofs.Common.{◌≡◌, ℕ, List, [], ◌∷◌, sym, ap, ◌∙◌, subst, inl, inr, Some, ◌⊎◌}
use Rattle.std.specs.Prelude.{◌↔◌}
use Rattle.tier_model.specs.Histories.{empty_opening}
use Rattle.tier_model.specs.Past.{HasPast}
use Rattle.tier_model.specs.State.{Settings, State, empty_state}
use Rattle.tier_calls.specs.Made.{AreOptions, settings_of}
use Rattle.tier_calls.specs.Tiers.{IsCount, made_with, state_of, status_of}
use Rattle.tier_calls.specs.declared.shards.Settings.{Settings as Given}
use Rattle.tier_calls.specs.declared.shards.Shards.{Shards}
use Rattle.tier_calls.specs.declared.shards.Shards.TheVariants.{NoMemory, NoSuchCount, One, Four, Sixteen}
use Rattle.tier_calls.specs.declared.structs.Options.{Options}

abbrev zeros : List ℕ
zeros = 0 ∷ 0 ∷ 0 ∷ 0 ∷ []

none_has_no_shard : IsCount 0 → ⊥
none_has_no_shard (inl e) = cc
none_has_no_shard (inr (inl e)) = cc
none_has_no_shard (inr (inr e)) = cc

no_state : (t : Shards) → status_of t ≡ 20 → (s : State) → state_of t ≡ Some s → ⊥
no_state NoMemory is s e = cc
no_state NoSuchCount is s e = cc
no_state (One t) is s e = cc
no_state (Four t) is s e = cc
no_state (Sixteen t) is s e = cc

abbrev AreShards : Options → ℕ → Type 0
AreShards o n = ((o.reserved ≡ zeros) × (n ≡ o.shards)) ⊎ (¬ (o.reserved ≡ zeros) × (n ≡ 0))

pub refused-of : (o : Options) (tier : Shards) (n : ℕ) → AreShards o n → ((status_of tier ≡ 20) ↔ ¬ (IsCount n)) → (status_of tier ≡ 20) ↔ ¬ (AreOptions o)
refused-of o tier n (inl (zero, e)) count =
    (λ is are. count.0 is (subst IsCount (sym e) are.0), λ none. count.1 (λ is. none (subst IsCount e is, zero)))
refused-of o tier n (inr (other, e)) count = (λ is are. other are.1, λ none. count.1 (λ is. none_has_no_shard (subst IsCount e is)))

abbrev IsEmpty : Settings → State → Type 0
IsEmpty set s = (s ≡ empty_state set) × HasPast (empty_opening set) s []

pub empty-of : (o : Options) (tier : Shards) (n : ℕ) (set : Given) → AreShards o n → ((m : ℕ) → made_with m set ≡ settings_of m o) → ((status_of tier ≡ 20) ↔ ¬ (IsCount n))
    → ((s : State) → state_of tier ≡ Some s → IsEmpty (made_with n set) s) → (s : State) → state_of tier ≡ Some s → IsEmpty (settings_of o.shards o) s
empty-of o tier n set (inl (zero, e)) made count empty s is = subst (λ (x : Settings). IsEmpty x s) (made n ∙ ap (λ (m : ℕ). settings_of m o) e) (empty s is)
empty-of o tier n set (inr (other, e)) made count empty s is = absurd (no_state tier (count.1 (λ c. none_has_no_shard (subst IsCount e c))) s is)
