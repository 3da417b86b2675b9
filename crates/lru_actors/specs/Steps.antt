-- What the steps change of the state, each by itself.
use Rattle.std.specs.Prelude.{◌≡◌, ℕ, ◌<◌, List, ◌∷◌, ◌++◌, [], length, slice_set}
use Rattle.lru_core.specs.Cores.{Core, shard_of, with_shard}
use Rattle.lru_actors.specs.declared.message.Message.{Message}
use Rattle.lru_actors.specs.Messages.{hash_of, after}
use Rattle.lru_actors.specs.Worlds.{State, queue_of}

-- the shard of a message's hash is changed by the message
abbrev pub applied : {K : Type 0} → ℕ → Core K → Message K → Core K
applied n core m = with_shard n core (hash_of m) (after m (shard_of n core (hash_of m)))

-- the message waits after those of shard i
abbrev pub IsSent : {K : Type 0} → State K → ℕ → Message K → State K → Type 0
IsSent old i m new = new ≡ record old { queues = slice_set old.queues i (queue_of old i ++ m ∷ []) }

-- the message was the first that waited for shard i
abbrev pub IsTaken : {K : Type 0} → State K → ℕ → Message K → State K → Type 0
IsTaken {K} old i m new =
    (rest : List (Message K)) × (i < length old.queues) × (queue_of old i ≡ m ∷ rest) × (new.queues ≡ slice_set old.queues i rest) × (new.dispatch ≡ old.dispatch)
