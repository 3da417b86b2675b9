-- Actors of shards: what a history of steps leaves of the shards' lists, of their queues of messages, and of the list of evicted
-- pairs that wait for their callbacks.
use Rattle.std.specs.Prelude.{◌≡◌, ℕ, ◌==◌, ◌%◌, ◌<◌, true, false, List, [], ◌∷◌, ◌++◌, filter, slice_index_or, Result, Ok, Err}
use Rattle.lru_core.specs.Cores.{Core, shard_of, with_shard, shard_bound, is_over, IsStep}
use Rattle.lru_actors.specs.declared.message.Message.{Message}
use Rattle.lru_actors.specs.declared.event.Event.{Event}
use Rattle.lru_actors.specs.declared.event.Event.TheVariants.{Send, Act, Evict, CallBack}
use Rattle.lru_actors.specs.declared.event.Outcome.{Outcome}
use Rattle.lru_actors.specs.declared.event.Outcome.TheVariants.{Sent, Applied, Evicted, Called, Nothing}
use Rattle.lru_actors.specs.declared.event.StepFault.{StepFault}
use Rattle.lru_actors.specs.declared.event.StepFault.TheVariants.{Unsent, Refused, NoRoom}
use Rattle.lru_actors.specs.Messages.{hash_of, lost, after, IsReason}

-- what one step did
pub data Turn (K : Type 0) : Type 0 where
  -- a message was sent to the shard of its hash
  sends : Message K → Turn K
  -- the actor of that shard took it, and changed the list by it
  consumes : Message K → Turn K
  -- the actor took it, and the shard refused it
  refuses : Message K → Turn K
  -- by these two words that pair was evicted
  evicts : ℕ → ℕ → K × ℕ → Turn K
  -- the callback of that pair was made
  calls : K × ℕ → Turn K
  -- nothing was there to be done, or it was refused
  rests : Turn K

-- the turns so far, the latest first
abbrev pub History : Type 0 → Type 0
History K = List (Turn K)

-- the messages that were sent, the first first
abbrev pub sent : {K : Type 0} → History K → List (Message K)
sent [] = []
sent (sends m ∷ before) = sent before ++ m ∷ []
sent (_ ∷ before) = sent before

-- those that actors took, the first first
abbrev pub taken : {K : Type 0} → History K → List (Message K)
taken [] = []
taken (consumes m ∷ before) = taken before ++ m ∷ []
taken (refuses m ∷ before) = taken before ++ m ∷ []
taken (_ ∷ before) = taken before

-- the pairs that were evicted, the first first
abbrev pub evicted : {K : Type 0} → History K → List (K × ℕ)
evicted [] = []
evicted (evicts a b pair ∷ before) = evicted before ++ pair ∷ []
evicted (_ ∷ before) = evicted before

-- those whose callbacks were made, the first first
abbrev pub called : {K : Type 0} → History K → List (K × ℕ)
called [] = []
called (calls pair ∷ before) = called before ++ pair ∷ []
called (_ ∷ before) = called before

-- of messages, those to shard i of n
abbrev pub to_shard : {K : Type 0} → ℕ → ℕ → List (Message K) → List (Message K)
to_shard n i messages = filter (λ m. hash_of m % n == i) messages

-- A consumed message changes the list of its shard. An eviction takes the last row of the shard that its words pick, while a
-- limit is passed. No other turn changes a list.
abbrev pub Turns : {K : Type 0} → ℕ → Core K → Turn K → Core K → Type 0
Turns n old (consumes m) new = new ≡ with_shard n old (hash_of m) (after m (shard_of n old (hash_of m)))
Turns n old (evicts a b pair) new = IsStep n old a b pair new
Turns n old _ new = new ≡ old

-- the lists of n shards that were `first` are `last` after a history
abbrev pub Leads : {K : Type 0} → ℕ → Core K → History K → Core K → Type 0
Leads n first [] last = last ≡ first
Leads {K} n first (t ∷ before) last = (mid : Core K) × Leads n first before mid × Turns n mid t last

-- the shards' lists, the messages that wait for each shard, and the evicted pairs that wait for their callbacks
pub record State (K : Type 0) : Type 0 where
  pub core : Core K
  pub queues : List (List (Message K))
  pub dispatch : List (K × ℕ)

-- the messages that wait for shard i
abbrev pub queue_of : {K : Type 0} → State K → ℕ → List (Message K)
queue_of w i = slice_index_or w.queues i []

-- What a history leaves of n shards whose lists were `first`: the lists that it leads to; for each shard the messages that were sent
-- to it, without those that its actor took, which are the first; the evicted pairs, without those whose callbacks were made, which
-- are the first.
pub record IsWorld {K : Type 0} (n : ℕ) (first : Core K) (h : History K) (w : State K) : Type 0 where
  pub lists : Leads n first h w.core
  pub queues : (i : ℕ) → i < n → to_shard n i (sent h) ≡ to_shard n i (taken h) ++ queue_of w i
  pub dispatch : evicted h ≡ called h ++ w.dispatch

-- what a step of n shards that were `old` reports of its turn
abbrev pub Tells : {K : Type 0} → ℕ → State K → Event K → Result (Outcome K) (StepFault K) → Turn K → Type 0
Tells n old (Send m) (Ok (Sent i)) t = (i ≡ hash_of m % n) × (t ≡ sends m)
Tells n old (Send m) (Err (Unsent back)) t = (back ≡ m) × (t ≡ rests)
Tells {K} n old (Act i) (Ok Applied) t = (m : Message K) × (hash_of m % n ≡ i) × (t ≡ consumes m)
Tells n old (Act i) (Err (Refused fault)) t =
    let m = lost fault in (hash_of m % n ≡ i) × (t ≡ refuses m) × IsReason m (shard_bound n) (shard_of n old.core (hash_of m)) fault
Tells n old (Act i) (Ok Nothing) t = (queue_of old i ≡ []) × (t ≡ rests)
Tells {K} n old (Evict a b) (Ok Evicted) t = (pair : K × ℕ) × (t ≡ evicts a b pair)
Tells n old (Evict a b) (Err NoRoom) t = (is_over old.core ≡ true) × (t ≡ rests)
Tells n old (Evict a b) (Ok Nothing) t = (is_over old.core ≡ false) × (t ≡ rests)
Tells n old CallBack (Ok (Called k w)) t = t ≡ calls (k, w)
Tells n old CallBack (Ok Nothing) t = (old.dispatch ≡ []) × (t ≡ rests)
Tells n old _ _ t = ⊥
