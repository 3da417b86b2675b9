-- A history with one turn more.
use Rattle.std.proofs.Common.{◌≡◌, ℕ, ◌%◌, ◌<◌, [], ◌∷◌, ◌++◌, length, replicate, sym, refl, ap, ◌∙◌}
use Rattle.std.specs.Prelude.{slice_index_or}
use Rattle.std.proofs.lemmas.List.{append_assoc, get_or-replicate}
use Rattle.lru_core.specs.Cores.{Core, IsStep}
use Rattle.lru_actors.specs.declared.message.Message.{Message}
use Rattle.lru_actors.specs.Messages.{hash_of}
use Rattle.lru_actors.specs.Worlds.{History, State, IsWorld, queue_of, to_shard, sent, taken, called, sends, consumes, refuses, evicts, calls, rests}
use Rattle.lru_actors.specs.Steps.{applied, IsSent, IsTaken}
use Rattle.lru_actors.proofs.Queues.{is_to_shard, sent_to, taken_from}

module _ {K : Type 0} where
  pub world_begins : (n : ℕ) (w : State K) → w.queues ≡ replicate n [] → w.dispatch ≡ [] → IsWorld n w.core [] w
  world_begins n w q d = record { lists = refl; queues = λ i l. sym (ap (λ l. slice_index_or l i []) q ∙ get_or-replicate n i [] [] l); dispatch = rw d refl }

  pub world_sends : (n : ℕ) (first : Core K) (h : History K) (old new : State K) (i : ℕ) (m : Message K) → length old.queues ≡ n → i ≡ hash_of m % n → i < n → IsSent old i m new
      → IsWorld n first h old → IsWorld n first (sends m ∷ h) new
  world_sends n first h old new i m len at l e w = record {
    lists = (old.core, w.lists, ap (λ s. s.core) e);
    queues = λ j b. rw (ap (λ s. s.queues) e) (sent_to n i j old.queues (sent h) (taken h) m (rw len l) (sym at) (w.queues j b));
    dispatch = rw (ap (λ s. s.dispatch) e) w.dispatch;
  }

  -- the hash of a message that waits for shard i
  pub waits_there : (n : ℕ) (first : Core K) (h : History K) (old new : State K) (i : ℕ) (m : Message K) → length old.queues ≡ n → IsTaken old i m new → IsWorld n first h old → hash_of m % n ≡ i
  waits_there n first h old new i m len t w =
      is_to_shard n i (sent h) (to_shard n i (taken h)) m t.0 (w.queues i (rw (← len) t.1) ∙ ap (λ q. to_shard n i (taken h) ++ q) t.2)

  left_queues : (n : ℕ) (first : Core K) (h : History K) (old new : State K) (i : ℕ) (m : Message K) → length old.queues ≡ n → IsTaken old i m new → IsWorld n first h old
      → (j : ℕ) → j < n → to_shard n j (sent h) ≡ to_shard n j (taken h ++ m ∷ []) ++ queue_of new j
  left_queues n first h old new i m len t w j b = rw t.3 (taken_from n i j old.queues (sent h) (taken h) t.0 m t.1 (waits_there n first h old new i m len t w) t.2 (w.queues j b))

  pub world_consumes : (n : ℕ) (first : Core K) (h : History K) (old new : State K) (i : ℕ) (m : Message K) → length old.queues ≡ n → IsTaken old i m new → new.core ≡ applied n old.core m
      → IsWorld n first h old → IsWorld n first (consumes m ∷ h) new
  world_consumes n first h old new i m len t c w =
      record { lists = (old.core, w.lists, c); queues = left_queues n first h old new i m len t w; dispatch = rw t.4 w.dispatch }

  pub world_refuses : (n : ℕ) (first : Core K) (h : History K) (old new : State K) (i : ℕ) (m : Message K) → length old.queues ≡ n → IsTaken old i m new → new.core ≡ old.core
      → IsWorld n first h old → IsWorld n first (refuses m ∷ h) new
  world_refuses n first h old new i m len t c w =
      record { lists = (old.core, w.lists, c); queues = left_queues n first h old new i m len t w; dispatch = rw t.4 w.dispatch }

  pub world_evicts : (n : ℕ) (first : Core K) (h : History K) (old new : State K) (a b : ℕ) (pair : K × ℕ) → IsStep n old.core a b pair new.core → new.dispatch ≡ old.dispatch ++ pair ∷ []
      → new.queues ≡ old.queues → IsWorld n first h old → IsWorld n first (evicts a b pair ∷ h) new
  world_evicts n first h old new a b pair s d q w = record {
    lists = (old.core, w.lists, s);
    queues = λ j l. rw q (w.queues j l);
    dispatch = rw d (ap (λ l. l ++ pair ∷ []) w.dispatch ∙ append_assoc (called h) old.dispatch (pair ∷ []));
  }

  pub world_calls : (n : ℕ) (first : Core K) (h : History K) (old new : State K) (pair : K × ℕ) → new.core ≡ old.core → new.queues ≡ old.queues → old.dispatch ≡ pair ∷ new.dispatch
      → IsWorld n first h old → IsWorld n first (calls pair ∷ h) new
  world_calls n first h old new pair c q d w = record {
    lists = (old.core, w.lists, c);
    queues = λ j l. rw q (w.queues j l);
    dispatch = w.dispatch ∙ (ap (λ l. called h ++ l) d ∙ sym (append_assoc (called h) (pair ∷ []) new.dispatch));
  }

  pub world_rests : (n : ℕ) (first : Core K) (h : History K) (old new : State K) → new ≡ old → IsWorld n first h old → IsWorld n first (rests ∷ h) new
  world_rests n first h old new e w = rw e (record { lists = (old.core, w.lists, refl); queues = w.queues; dispatch = w.dispatch })
