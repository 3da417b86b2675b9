-- What distinguishes events and notes.
use Rattle.std.specs.Prelude.{ℕ, Bool, true, false, List, Option, Some, None}
use Rattle.cache_heads.specs.Reasons.{reason_name}
use Rattle.cache_heads.specs.declared.reason.NoCacheReason.{NoCacheReason}
use Rattle.cache_heads.specs.declared.reason.NoCacheReason.TheVariants.{Custom}
use Rattle.cache_words.specs.Key.{CacheKeyValue, primary_hash}
use Rattle.tier_model.specs.declared.event.Action.{Action}
use Rattle.tier_model.specs.declared.event.Action.TheVariants.{Open, LookUp, Poll, Begin, Revalidate, Piece, Finish, Read, Drop, Purge, Put}
use Rattle.tier_model.specs.declared.event.Event.{Event}
use Rattle.tier_recorded.specs.declared.note.AnswerNote.TheVariants.{Opened}
use Rattle.tier_recorded.specs.declared.note.Note.{Note}
use Rattle.tier_recorded.specs.declared.note.Note.TheVariants.{Answered, Uncacheable}

-- a key with its hash in full: all of it that a cache can see
abbrev pub seen_key : CacheKeyValue → CacheKeyValue
seen_key k = record k { primary_bin_override = Some (primary_hash k.primary_bin_override k.primary) }

abbrev pub seen_action : Action → Action
seen_action (Open id key asks) = Open id (seen_key key) asks
seen_action (LookUp id) = LookUp id
seen_action (Poll id) = Poll id
seen_action (Begin id head given) = Begin id head given
seen_action (Revalidate id head given) = Revalidate id head given
seen_action (Piece id bytes last) = Piece id bytes last
seen_action (Finish id) = Finish id
seen_action (Read id) = Read id
seen_action (Drop id) = Drop id
seen_action (Purge key) = Purge (seen_key key)
seen_action (Put key pieces given) = Put (seen_key key) pieces given

-- an event with its key's hash in full
abbrev pub seen : Event → Event
seen e = record e { action = seen_action e.action }

abbrev pub is_custom : NoCacheReason → Bool
is_custom (Custom text) = true
is_custom _ = false

-- a reason by its name, and whether it is the user's own
abbrev pub seen_reason : NoCacheReason → List ℕ × Bool
seen_reason reason = (reason_name reason, is_custom reason)

-- a note with its reason apart, if it has one
abbrev pub seen_note : Note → Note × Option (List ℕ × Bool)
seen_note (Uncacheable reason) = (Answered Opened, Some (seen_reason reason))
seen_note note = (note, None)
