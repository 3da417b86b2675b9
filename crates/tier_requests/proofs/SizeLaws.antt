-- How large a write has become, and how long a body is that wasn't read, as the plain record has it.
use Rattle.std.proofs.Common.{◌≡◌, ◌+◌, ℕ, refl, ap, sym, ◌∙◌, Some, None, Option, List, length}
use Rattle.std.specs.Prelude.{option_map, option_and_then}
use Rattle.cache_heads.specs.declared.meta.CacheMeta.{CacheMeta}
use Rattle.cache_changes.specs.Store.{Flying, flying_at}
use Rattle.cache_store.specs.StoreState.{StoreState}
use Rattle.cache_store.specs.Readers.{StreamHit}
use Rattle.store_memory.specs.declared.handlers.MemHitHandler.TheVariants.{Complete, Partial}
use Rattle.store_memory.specs.declared.handlers.MemHitHandler.{MemHitHandler}
use Rattle.store_memory.specs.Hits.{WholeHit}
use Rattle.tier_model.specs.Shelf.{InFlight}
use Rattle.tier_model.specs.Sizes.{flight_size, unread_len}
use Rattle.tier_requests.specs.Plain.{reader_in}
use Rattle.tier_requests.specs.Shelves.{flight_of, shelf_of}
use Rattle.tier_requests.proofs.FlightLaws.{flight-at}

abbrev stored_size : Flying CacheMeta → ℕ
stored_size f = length f.stored.bytes + f.stored.meta.external

abbrev size_in_flight : InFlight → ℕ
size_in_flight f = length f.bytes + f.meta.external

by_flight : (f : Option (Flying CacheMeta)) → option_map stored_size f ≡ option_map size_in_flight (option_map flight_of f)
by_flight None = refl
by_flight (Some f) = refl

size-at : (n : ℕ) (h : StoreState) → option_map stored_size (flying_at n h.store) ≡ flight_size (shelf_of h) n
size-at n h = by_flight (flying_at n h.store) ∙ ap (option_map size_in_flight) (sym (flight-at n h.store.flying))

-- of the write of a request, if it has one
pub size-of : (w : Option ℕ) (n : ℕ) (h : StoreState) (r : Option ℕ) → w ≡ Some n → r ≡ option_map stored_size (flying_at n h.store) → r ≡ option_and_then (flight_size (shelf_of h)) w
size-of w n h r there is = is ∙ size-at n h ∙ ap (option_and_then (flight_size (shelf_of h))) (sym there)

pub size-none : (w : Option ℕ) (h : StoreState) → w ≡ None → None ≡ option_and_then (flight_size (shelf_of h)) w
size-none w h none = ap (option_and_then (flight_size (shelf_of h))) (sym none)

-- ---- what was found

no-reader : (bytes : Option (List ℕ)) → None ≡ unread_len (reader_in bytes None)
no-reader None = refl
no-reader (Some bytes) = refl

whole-len : (bytes : Option (List ℕ)) (w : WholeHit) → option_map (λ b. length b) bytes ≡ unread_len (reader_in bytes (Some (Complete w)))
whole-len None w = refl
whole-len (Some bytes) w = refl

pub len-none : (bytes : Option (List ℕ)) (hit : Option MemHitHandler) → hit ≡ None → None ≡ unread_len (reader_in bytes hit)
len-none bytes hit none = no-reader bytes ∙ ap (λ (x : Option MemHitHandler). unread_len (reader_in bytes x)) (sym none)

pub len-of : (bytes : Option (List ℕ)) (hit : Option MemHitHandler) (w : WholeHit) (r : Option ℕ) → hit ≡ Some (Complete w) → r ≡ option_map (λ b. length b) bytes → r ≡ unread_len (reader_in bytes hit)
len-of bytes hit w r there is = is ∙ whole-len bytes w ∙ ap (λ (x : Option MemHitHandler). unread_len (reader_in bytes x)) (sym there)

pub len-stream : (bytes : Option (List ℕ)) (hit : Option MemHitHandler) (s : StreamHit) → hit ≡ Some (Partial s) → None ≡ unread_len (reader_in bytes hit)
len-stream bytes hit s there = ap (λ (x : Option MemHitHandler). unread_len (reader_in bytes x)) (sym there)
