-- What a gateway does at its tier: each call there is one of the tier's own events, and what that refuses is an outcome.
use Rattle.std.specs.Prelude.{◌≡◌, ◌≢◌, ◌^◌, ◌&&◌, ℕ, nat_lt, Bool, true, false, List, [], ◌∷◌, map, if◌then◌else◌, is_ok, IfOk, Option, Some, None, option_map, Result, Ok, Err}
use Rattle.std.specs.declared.alloc.AllocError.{AllocError}
use Rattle.std.specs.FinMap.{get}
use Rattle.rand_core.specs.Stream.{Stream}
use Rattle.cache_words.specs.Time.{MomentValue}
use Rattle.cache_words.specs.Key.{CacheKeyValue, combined}
use Rattle.cache_words.specs.CompactKey.{compact_view}
use Rattle.cache_entries.specs.declared.entry.CacheEntryKey.{CacheEntryKey}
use Rattle.cache_entries.specs.Entry.{key_of}
use Rattle.tier_model.specs.declared.event.Action.{Action}
use Rattle.tier_model.specs.declared.event.Action.TheVariants.{LookUp}
use Rattle.tier_model.specs.declared.event.Answer.{Answer}
use Rattle.tier_model.specs.declared.event.Answer.TheVariants.{Purged, Dropped, Finished}
use Rattle.tier_model.specs.declared.event.TierFault.{TierFault}
use Rattle.tier_model.specs.declared.event.TierFault.TheVariants.{Memory, WrongPhase}
use Rattle.tier_model.specs.Calls.{Outcome, evicted_by}
use Rattle.tier_model.specs.State.{State}
use Rattle.tier_model.specs.Keys.{stored_key_of}
use Rattle.tier_single.specs.declared.found.FoundMeta.{FoundMeta}
use Rattle.tier_single.specs.declared.found.Hit.{Hit}
use Rattle.tier_single.specs.GivesUp.{last_moment}
use Rattle.tier_single.specs.Hits.{at_moment, answer_found, body_in, meta_of, FindsHead, HitTakes, IsHitOf}
use Rattle.tier_single.specs.Takes.{Takes}
use Rattle.cache_changes.specs.Changes.{StoredKey}
use Rattle.cache_heads.specs.declared.meta.CacheMeta.{CacheMeta}
use Rattle.cache_heads.specs.declared.given.GivenMeta.{GivenMeta}
use Rattle.cache_heads.specs.Meta.{new_given}
use Rattle.rules_ffi_arguments.specs.declared.shapes.MetaShape.{MetaShape}
use Rattle.gateway_rules.specs.declared.stored.Stored.{Stored}
use Rattle.gateway_rules.specs.Moments.{of_tier}
use Rattle.gateway_state.specs.declared.state.Gateway.{Gateway}
use Rattle.gateway_exchanges.specs.declared.outs.Out.{Out}
use Rattle.gateway_exchanges.specs.Replies.{reply_of, with_evicted}
use Rattle.gateway_exchanges.specs.Found.{stored_by}

-- ==== keys

-- the key that a digest stands for
abbrev pub key_with : List ℕ → CacheKeyValue
key_with digest = record { primary = []; primary_bin_override = Some digest; variance = None; user_tag = [] }

abbrev pub digest_of : CacheEntryKey → List ℕ
digest_of entry = combined (compact_view (key_of entry))

abbrev pub digests_of : List CacheEntryKey → List (List ℕ)
digests_of entries = map digest_of entries

-- ==== outcomes

abbrev pub answer_in : {A : Type 0} → Result A TierFault → Option A
answer_in (Ok a) = Some a
answer_in (Err f) = None

abbrev pub is_purged : Outcome → Bool
is_purged (Ok (Purged there)) = there
is_purged _ = false

-- a body was stored
abbrev pub is_stored : Outcome → Bool
is_stored (Ok (Finished length evicted)) = true
is_stored _ = false

abbrev pub is_memory_fault : Outcome → Bool
is_memory_fault (Err (Memory done)) = true
is_memory_fault _ = false

-- ==== calls

-- the tier took that at a moment, by the words from s to rest
abbrev pub TakesAt : MomentValue → Action → Stream → Stream → State → Outcome → State → Type 0
TakesAt t action s rest old outcome new = Takes old s (at_moment t action ∷ []) (outcome ∷ []) new rest

-- it took that, of any moment alike, and drew no word
abbrev pub TakesAnytime : Action → State → Outcome → State → Type 0
TakesAnytime action old outcome new = (t : MomentValue) (s : Stream) → Takes old s (at_moment t action ∷ []) (outcome ∷ []) new s

-- what went for room is told, where there is memory for that
abbrev pub TellsEvicted : Outcome → Bool → Out → Out → Type 0
TellsEvicted outcome ok old new = reply_of new ≡ (if ok then with_evicted (digests_of (evicted_by outcome)) (reply_of old) else reply_of old)

-- the tier took a call with an outcome, and the result shows that; nothing else of the gateway changed
pub record IsAnswered {A : Type 0} (took : State → Outcome → State → Type 0) (shown : Outcome → A) (old new : Gateway) (before after : Out) (result : Result A AllocError) : Type 0 where
  pub outcome : Outcome
  pub taken : took old.tier outcome new.tier
  pub answer : IfOk result (λ a. a ≡ shown outcome)
  pub evicted : TellsEvicted outcome (is_ok result) before after

-- nothing was done, for want of memory
abbrev pub IsUndone : {A : Type 0} → Gateway → Gateway → Out → Out → Result A AllocError → Type 0
IsUndone old new before after result = (is_ok result ≡ false) × (new ≡ old) × (after ≡ before)

-- ==== what is whole under a key

-- the finished body of a stored key, with its meta
abbrev pub finished_at : StoredKey → State → Option (CacheMeta × List ℕ)
finished_at key s = option_map (λ n. (n.body.meta, n.body.bytes)) (get s.shelf.bodies key)

-- the head as the rules look at it, and the body
abbrev pub whole_by : CacheMeta → List ℕ → Stored × List ℕ
whole_by meta bytes = (stored_by (record { head = meta.header; internal = meta.internal; external = meta.external }), bytes)

abbrev pub peeked : List ℕ → Gateway → Option (Stored × List ℕ)
peeked key g = option_map (λ f. whole_by f.0 f.1) (finished_at (stored_key_of (key_with key)) g.tier)

-- ==== looks

-- a whole and fresh body, with its head as the rules look at it
abbrev pub hit_shown : Result (Option Hit) TierFault → Option (Stored × List ℕ)
hit_shown (Ok (Some hit)) = Some (stored_by hit.meta, hit.body)
hit_shown _ = None

-- what a look-up answers, with the head of what it found
abbrev pub found_shown : Result (Answer × Option FoundMeta) TierFault → Option (Answer × Option Stored)
found_shown (Ok found) = Some (found.0, option_map stored_by found.1)
found_shown (Err f) = None

abbrev pub outcome_of : {A : Type 0} → Result A TierFault → Outcome
outcome_of (Ok a) = Ok Dropped
outcome_of (Err f) = Err f

-- the tier was asked for a hit, of a request of no number that is open, and the answer shows that
pub record IsHit (t : MomentValue) (key : List ℕ) (old new : Gateway) (before after : Out) (answer : Result (Option (Stored × List ℕ)) AllocError) : Type 0 where
  pub came : Result (Option Hit) TierFault
  pub taken : (id : ℕ) (s : Stream) → get old.tier.requests id ≡ None → HitTakes old.tier s t id (key_with key) came new.tier
  pub hit : IfOk came (λ hit. IsHitOf old.tier t (stored_key_of (key_with key)) (option_map body_in hit))
  pub shown : IfOk answer (λ a. a ≡ hit_shown came)
  pub evicted : TellsEvicted (outcome_of came) (is_ok answer) before after

-- a request looked up: as if nothing were fresh, where that is asked, and else at a moment
pub record IsLook (t : MomentValue) (x : ℕ) (past : Bool) (old new : Gateway) (before after : Out) (answer : Result (Option (Answer × Option Stored)) AllocError) : Type 0 where
  pub came : Result (Answer × Option FoundMeta) TierFault
  pub locked : past ≡ true → option_map (λ q. q.asks) (get old.tier.requests x) ≡ Some true → (came ≡ Err WrongPhase) × (new.tier ≡ old.tier)
  pub taken_past : past ≡ true → option_map (λ q. q.asks) (get old.tier.requests x) ≢ Some true
      → (s : Stream) → Takes old.tier s (at_moment last_moment (LookUp x) ∷ []) (answer_found came ∷ []) new.tier s
  pub taken : past ≡ false → (s : Stream) → Takes old.tier s (at_moment t (LookUp x) ∷ []) (answer_found came ∷ []) new.tier s
  pub head : IfOk came (λ r. FindsHead old.tier x (option_map meta_of r.1))
  pub shown : IfOk answer (λ a. a ≡ found_shown came)
  pub evicted : TellsEvicted (outcome_of came) (is_ok answer) before after

-- ==== what a tier is told of a response

-- windows of 32 bits, and fewer than 2^62 bytes elsewhere
abbrev pub given_by : MetaShape → Option GivenMeta
given_by m =
    if nat_lt m.stale_while_revalidate (2 ^ 32) && nat_lt m.stale_if_error (2 ^ 32) && nat_lt m.external (2 ^ 62)
    then Some (record (new_given (of_tier m.fresh_until) (of_tier m.created) m.stale_while_revalidate m.stale_if_error) {
      updated = of_tier m.updated;
      provenance = of_tier m.provenance;
      external = m.external;
    })
    else None
