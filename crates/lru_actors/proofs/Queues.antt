-- Messages to one shard, and its queue among the others.
use Rattle.std.proofs.Common.{◌≡◌, ◌≢◌, ℕ, cond, ◌%◌, ◌==◌, ◌<◌, inl, inr, List, [], ◌∷◌, ◌++◌, length, Option, Some, None, IfSome, IfNone, MatchOption, sym, refl, ap, ◌∙◌}
use Rattle.std.specs.Prelude.{slice_set, slice_index_or}
use Rattle.std.proofs.lemmas.Bool.{cases_eq, eq-eqb, ne_eqb}
use Rattle.std.proofs.lemmas.List.{append_assoc, append-nil, get_or-set_same, get_or-set_other, get_or_default, set-get_or}
use Rattle.std.proofs.lemmas.List.Elements.{filter-append}
use Rattle.lru_core.specs.Cores.{Core}
use Rattle.lru_actors.specs.declared.message.Message.{Message}
use Rattle.lru_actors.specs.Messages.{hash_of}
use Rattle.lru_actors.specs.Worlds.{State, to_shard}
use Rattle.lru_actors.specs.Steps.{IsTaken}

module _ {K : Type 0} where
  -- one message more to shard i, and the same to another
  pub one_more : (n i : ℕ) (ms : List (Message K)) (m : Message K) → hash_of m % n ≡ i → to_shard n i (ms ++ m ∷ []) ≡ to_shard n i ms ++ m ∷ []
  one_more n i ms m e =
      filter-append (λ m. hash_of m % n == i) ms (m ∷ []) ∙ ap (λ b. to_shard n i ms ++ cond b (m ∷ []) []) (eq-eqb (hash_of m % n) i e)

  pub no_more : (n i : ℕ) (ms : List (Message K)) (m : Message K) → hash_of m % n ≢ i → to_shard n i (ms ++ m ∷ []) ≡ to_shard n i ms
  no_more n i ms m d =
      filter-append (λ m. hash_of m % n == i) ms (m ∷ []) ∙ (ap (λ b. to_shard n i ms ++ cond b (m ∷ []) []) (ne_eqb (hash_of m % n) i d) ∙ append-nil (to_shard n i ms))

  -- what stands among the messages to shard i is one of them
  pub is_to_shard : (n i : ℕ) (ms before : List (Message K)) (m : Message K) (rest : List (Message K)) → to_shard n i ms ≡ before ++ m ∷ rest → hash_of m % n ≡ i
  is_to_shard n i [] [] m rest e = absurd (cc e)
  is_to_shard n i [] (b ∷ before) m rest e = absurd (cc e)
  is_to_shard n i (x ∷ ms) before m rest e = elim (cases_eq (hash_of x % n) i) [
    | inr d ↦ is_to_shard n i ms before m rest (rw (ne_eqb (hash_of x % n) i d) at e)
    | inl s ↦ (let f : x ∷ to_shard n i ms ≡ before ++ m ∷ rest = rw (eq-eqb (hash_of x % n) i s) at e in
        elim before as (λ l. x ∷ to_shard n i ms ≡ l ++ m ∷ rest → hash_of m % n ≡ i) [
          | [] ↦ λ g. let h : x ≡ m = cc g in ap (λ y. hash_of y % n) (sym h) ∙ s
          | b ∷ l ↦ λ g. is_to_shard n i ms l m rest (cc g)
        ] f)
  ]

  -- a message goes to the end of its queue: what was sent is what was taken and what waits
  pub sent_to : (n i j : ℕ) (qs : List (List (Message K))) (all got : List (Message K)) (m : Message K) → i < length qs → hash_of m % n ≡ i
      → to_shard n j all ≡ to_shard n j got ++ slice_index_or qs j []
      → to_shard n j (all ++ m ∷ []) ≡ to_shard n j got ++ slice_index_or (slice_set qs i (slice_index_or qs i [] ++ m ∷ [])) j []
  sent_to n i j qs all got m l e h = elim (cases_eq (hash_of m % n) j) [
    | inl s ↦ (let k : i ≡ j = sym e ∙ s in
        let p : to_shard n i all ≡ to_shard n i got ++ slice_index_or qs i [] = rw (← k) at h in
        rw (← k) (one_more n i all m e ∙ (ap (λ ms. ms ++ m ∷ []) p ∙ (append_assoc (to_shard n i got) (slice_index_or qs i []) (m ∷ [])
        ∙ ap (λ q. to_shard n i got ++ q) (sym (get_or-set_same qs i (slice_index_or qs i [] ++ m ∷ []) [] l))))))
    | inr d ↦ no_more n j all m d ∙ (h ∙ ap (λ q. to_shard n j got ++ q) (sym (get_or-set_other qs i j (slice_index_or qs i [] ++ m ∷ []) [] (λ k. d (e ∙ sym k)))))
  ]

  -- the first message of its queue is taken
  pub taken_from : (n i j : ℕ) (qs : List (List (Message K))) (all got rest : List (Message K)) (m : Message K) → i < length qs → hash_of m % n ≡ i
      → slice_index_or qs i [] ≡ m ∷ rest → to_shard n j all ≡ to_shard n j got ++ slice_index_or qs j []
      → to_shard n j all ≡ to_shard n j (got ++ m ∷ []) ++ slice_index_or (slice_set qs i rest) j []
  taken_from n i j qs all got rest m l e f h = elim (cases_eq (hash_of m % n) j) [
    | inl s ↦ (let k : i ≡ j = sym e ∙ s in
        let p : to_shard n i all ≡ to_shard n i got ++ slice_index_or qs i [] = rw (← k) at h in
        rw (← k) (p ∙ (ap (λ q. to_shard n i got ++ q) f ∙ (sym (append_assoc (to_shard n i got) (m ∷ []) rest)
        ∙ (ap (λ ms. ms ++ rest) (sym (one_more n i got m e)) ∙ ap (λ q. to_shard n i (got ++ m ∷ []) ++ q) (sym (get_or-set_same qs i rest [] l)))))))
    | inr d ↦ h ∙ (ap (λ ms. ms ++ slice_index_or qs j []) (sym (no_more n j got m d)) ∙ ap (λ q. to_shard n j (got ++ m ∷ []) ++ q) (sym (get_or-set_other qs i j rest [] (λ k. d (e ∙ sym k)))))
  ]

  -- the queue of shard i, as it is read
  queue_read : (qs : List (List (Message K))) (i : ℕ) (q : List (Message K)) → i < length qs → q ≡ slice_index_or qs i q → slice_index_or qs i [] ≡ q
  queue_read qs i q l e = get_or_default qs i [] q l ∙ sym e

  -- what is taken from it, if there is something
  pub take_some : (qs : List (List (Message K))) (i : ℕ) (q new : List (Message K)) (o : Option (Message K)) (core : Core K) (dispatch : List (K × ℕ)) → i < length qs → q ≡ slice_index_or qs i q
      → MatchOption o ((q ≡ []) × (new ≡ [])) (λ m. q ≡ m ∷ new)
      → IfSome o (λ m. IsTaken (record { core = core; queues = qs; dispatch = dispatch }) i m (record { core = core; queues = slice_set qs i new; dispatch = dispatch }) × (core ≡ core))
  take_some qs i q new None core dispatch l e f = tt
  take_some qs i q new (Some m) core dispatch l e f = ((new, l, queue_read qs i q l e ∙ f, refl, refl), refl)

  pub take_none : (qs : List (List (Message K))) (i : ℕ) (q new : List (Message K)) (o : Option (Message K)) (core : Core K) (dispatch : List (K × ℕ)) → i < length qs → q ≡ slice_index_or qs i q
      → MatchOption o ((q ≡ []) × (new ≡ [])) (λ m. q ≡ m ∷ new)
      → IfNone o ((slice_index_or qs i [] ≡ []) × (◌≡◌ {A = State K} (record { core = core; queues = slice_set qs i new; dispatch = dispatch }) (record { core = core; queues = qs; dispatch = dispatch })))
  take_none qs i q new (Some m) core dispatch l e f = tt
  take_none qs i q new None core dispatch l e f =
      let r : slice_index_or qs i [] ≡ [] = queue_read qs i q l e ∙ f.0 in
      (r, ap (λ s. record { core = core; queues = s; dispatch = dispatch }) (ap (λ x. slice_set qs i x) (f.1 ∙ sym r) ∙ set-get_or qs i []))
