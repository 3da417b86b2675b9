-- Whether all came of what a request reads, as the plain record has it.
use Rattle.std.proofs.Common.{◌≡◌, ℕ, refl, ap, sym, ◌∙◌, Bool, true, cond, Some, None, Option, List, [], ◌∷◌}
use Rattle.std.specs.Prelude.{is_some, option_map, option_and_then}
use Rattle.cache_heads.specs.declared.meta.CacheMeta.{CacheMeta}
use Rattle.cache_changes.specs.Store.{Flying, flying_at}
use Rattle.cache_store.specs.StoreState.{Reading, StoreState}
use Rattle.cache_store.specs.Readers as readers
use Rattle.cache_store.specs.Readers.{StreamHit, reading_at, whole_past}
use Rattle.store_memory.specs.declared.handlers.MemHitHandler.TheVariants.{Complete, Partial}
use Rattle.store_memory.specs.declared.handlers.MemHitHandler.{MemHitHandler}
use Rattle.store_memory.specs.Hits.{WholeHit}
use Rattle.tier_model.specs.Answers.{whole_read}
use Rattle.tier_model.specs.Shelf as shelf
use Rattle.tier_model.specs.Shelf.{Shelf}
use Rattle.tier_model.specs.State.{streaming}
use Rattle.tier_requests.specs.Shelves.{flight_of, readers_of, shelf_of}
use Rattle.tier_requests.specs.Plain.{reader_in}
use Rattle.tier_requests.proofs.FlightLaws.{flight-at}
use Rattle.tier_requests.proofs.ReadingLaws.{reading-found}
use Rattle.tier_requests.proofs.ShelfLaws.{readable-same}

-- where no reader is left
whole-none : (bytes : Option (List ℕ)) (s : Shelf) → whole_read (reader_in bytes None) s ≡ cond (is_some bytes) (Some true) None
whole-none None s = refl
whole-none (Some bytes) s = refl

-- a body
whole-body : (bytes : Option (List ℕ)) (w : WholeHit) (s : Shelf) → whole_read (reader_in bytes (Some (Complete w))) s ≡ cond (is_some bytes) None (Some true)
whole-body None w s = refl
whole-body (Some bytes) w s = refl

-- of a write all came in the store where all came on the shelf
whole-same : (n : ℕ) (h : StoreState) → shelf.is_whole n (shelf_of h) ≡ readers.is_whole n h
whole-same n h = rw (flight-at n h.store.flying, reading-found n h.readings) (by_flight (flying_at n h.store) (reading_at n h.readings))
  where
    by_flight : (f : Option (Flying CacheMeta)) (r : Option Reading) → shelf.whole_of (option_map flight_of f) (option_map readers_of r) ≡ readers.whole_of f r
    by_flight (Some f) r = refl
    by_flight None None = refl
    by_flight None (Some r) = refl

at-end : (place : ℕ) (p : Option (List ℕ × Bool)) → readers.is_at_end (readers.past_place place p) ≡ shelf.is_at_end (shelf.past_place place p)
at-end place None = refl
at-end place (Some p) = by_rest (shelf.past_place place (Some p)).0 p.1
  where
    by_rest : (xs : List ℕ) (over : Bool) → readers.is_at_end (xs, over) ≡ shelf.is_at_end (xs, over)
    by_rest [] over = refl
    by_rest (x ∷ xs) over = refl

-- a write as it comes
whole-stream : (n place : ℕ) (h : StoreState) → whole_past n place h ≡ whole_read (streaming n place) (shelf_of h)
whole-stream n place h =
    ap (λ (t : Bool). cond t (Some (readers.is_whole n h)) None) (at-end place (readers.readable n h) ∙ ap (λ (p : Option (List ℕ × Bool)). shelf.is_at_end (shelf.past_place place p)) (sym (readable-same n h)))
    ∙ ap (λ (v : Bool). cond (shelf.is_at_end (shelf.past_place place (shelf.readable n (shelf_of h)))) (Some v) None) (sym (whole-same n h))

-- what is told of a request with that reader
abbrev pub Tells : Option (List ℕ) → Option MemHitHandler → StoreState → Option Bool → Type 0
Tells bytes hit h told = told ≡ whole_read (reader_in bytes hit) (shelf_of h)

pub tells-none : (bytes : Option (List ℕ)) (hit : Option MemHitHandler) (h : StoreState) (told : Option Bool) → hit ≡ None → told ≡ cond (is_some bytes) (Some true) None → Tells bytes hit h told
tells-none bytes hit h told none is = is ∙ sym (whole-none bytes (shelf_of h)) ∙ ap (λ (x : Option MemHitHandler). whole_read (reader_in bytes x) (shelf_of h)) (sym none)

pub tells-body : (bytes : Option (List ℕ)) (hit : Option MemHitHandler) (w : WholeHit) (h : StoreState) (told : Option Bool) → hit ≡ Some (Complete w) → told ≡ cond (is_some bytes) None (Some true) → Tells bytes hit h told
tells-body bytes hit w h told there is = is ∙ sym (whole-body bytes w (shelf_of h)) ∙ ap (λ (x : Option MemHitHandler). whole_read (reader_in bytes x) (shelf_of h)) (sym there)

pub tells-stream : (bytes : Option (List ℕ)) (hit : Option MemHitHandler) (s : StreamHit) (h : StoreState) (told : Option Bool) → hit ≡ Some (Partial s) → told ≡ whole_past s.number s.place h → Tells bytes hit h told
tells-stream bytes hit s h told there is = is ∙ whole-stream s.number s.place h ∙ ap (λ (x : Option MemHitHandler). whole_read (reader_in bytes x) (shelf_of h)) (sym there)
