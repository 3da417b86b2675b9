-- A request's own steps, as the plain record has them.
use Rattle.std.proofs.Common.{◌≡◌, ◌≢◌, ℕ, refl, ap, sym, ◌∙◌, Bool, true, false, cond, Some, None, Option, List, [], ◌∷◌, ◌++◌, subst}
use Rattle.std.specs.Prelude.{option_map, Result, Ok, Err, OnOk, OnErr, MatchResult}
use Rattle.std.proofs.lemmas.List.{append-nil}
use Rattle.cache_heads.specs.declared.meta.CacheMeta.{CacheMeta}
use Rattle.cache_words.specs.Time.{DurationValue}
use Rattle.cache_changes.specs.Store as store
use Rattle.cache_changes.specs.Store.{Flying}
use Rattle.cache_store.specs.declared.storage.ReadStep.{ReadStep}
use Rattle.cache_store.specs.declared.storage.ReadStep.TheVariants as step
use Rattle.cache_store.specs.declared.storage.StoreFault.{StoreFault}
use Rattle.cache_store.specs.declared.storage.StoreFault.TheVariants as fault
use Rattle.cache_store.specs.Answers.{WriteAnswer, after_write}
use Rattle.cache_store.specs.StoreState.{StoreState}
use Rattle.cache_store.specs.Readers as readers
use Rattle.cache_store.specs.Readers.{StreamHit, PartsReader}
use Rattle.store_memory.specs.declared.handlers.MemHitHandler.{MemHitHandler}
use Rattle.store_memory.specs.declared.handlers.MemHitHandler.TheVariants.{Complete, Partial}
use Rattle.store_memory.specs.Hits as hits
use Rattle.store_memory.specs.Hits.{WholeHit, moved}
use Rattle.store_memory.specs.Readings as readings
use Rattle.request_store.specs.Spends.{Spends}
use Rattle.tier_model.specs.Answers.{next_of}
use Rattle.tier_model.specs.Calls.{Outcome}
use Rattle.tier_model.specs.Checks.{has_reader}
use Rattle.tier_model.specs.Shelf.{InFlight, Shelf, has_number, on_flying, flying_at, readable, past_place}
use Rattle.tier_model.specs.State.{Reader, streaming, Request}
use Rattle.tier_model.specs.After.{pieced, read_on}
use Rattle.tier_requests.specs.Faults.{out_of_memory}
use Rattle.tier_requests.specs.Shelves.{flight_of, shelf_of}
use Rattle.tier_requests.specs.Plain.{Driven, plain_of, reader_in}
use Rattle.tier_requests.specs.Rows.{ReadAnswer}
use Rattle.tier_requests.specs.Steps.{WriteStep, answer_for, read_whole, read_without}
use Rattle.tier_requests.proofs.FlightLaws.{flight-at}
use Rattle.tier_requests.proofs.ShelfLaws.{shelf-written, readable-same}
use Rattle.tier_requests.proofs.StepLaws.{next-step}

-- ---- bytes of a write

-- whether a write has ended, if it is in flight
pub ended-at : (n : ℕ) (h : StoreState) → option_map (λ f. f.ended) (flying_at n (shelf_of h).flying) ≡ option_map (λ f. f.ended) (store.flying_at n h.store)
ended-at n h = ap (option_map (λ f. f.ended)) (flight-at n h.store.flying) ∙ by_flight (store.flying_at n h.store)
  where
    by_flight : (o : Option (Flying CacheMeta)) → option_map (λ f. f.ended) (option_map flight_of o) ≡ option_map (λ f. f.ended) o
    by_flight None = refl
    by_flight (Some f) = refl

-- no bytes change nothing
unchanged : (n : ℕ) (fs : List InFlight) → on_flying n (λ f. record f { bytes = f.bytes ++ [] }) fs ≡ fs
unchanged n [] = refl
unchanged n (f ∷ fs) =
    ap (λ (x : InFlight). x ∷ on_flying n (λ f. record f { bytes = f.bytes ++ [] }) fs) (by_test (has_number n f))
    ∙ ap (λ (xs : List InFlight). f ∷ xs) (unchanged n fs)
  where
    by_test : (t : Bool) → cond t (record f { bytes = f.bytes ++ [] }) f ≡ f
    by_test true = ap (λ (bytes : List ℕ). record f { bytes = bytes }) (append-nil f.bytes)
    by_test false = refl

pub pieced-nothing : (n : ℕ) (s : Shelf) → pieced [] false n s ≡ s
pieced-nothing n s = ap (λ (fs : List InFlight). record s { flying = fs }) (unchanged n s.flying)

-- bytes that were written, or refused
module _ (n : ℕ) (bytes : List ℕ) (last : Bool) (h0 h : StoreState) where
  abbrev Flown : Option Bool
  Flown = option_map (λ f. f.ended) (store.flying_at n h0.store)

  abbrev Shown : Option Bool
  Shown = option_map (λ f. f.ended) (flying_at n (shelf_of h0).flying)

  abbrev Step : Option Bool → Result (Unit {0}) StoreFault → Type 0
  Step o r = WriteStep o bytes last n (shelf_of h0) r (shelf_of h)

  as_shown : (r : Result (Unit {0}) StoreFault) → Step Flown r → Step Shown r
  as_shown r = subst (λ (o : Option Bool). Step o r) (sym (ended-at n h0))

  by_written : (o : Option Bool) (r : Result (Unit {0}) StoreFault) → WriteAnswer o r → OnOk r (h ≡ record h0 { store = after_write n bytes last h0.store }) → OnErr r (h ≡ h0) → Step o r
  by_written None r a ok err = (a, ap shelf_of (subst (λ (x : Result (Unit {0}) StoreFault). OnErr x (h ≡ h0)) a err))
  by_written (Some true) r a ok err = (a, ap shelf_of (subst (λ (x : Result (Unit {0}) StoreFault). OnErr x (h ≡ h0)) a err))
  by_written (Some false) (Ok v) a ok err = shelf-written n bytes last h0 h ok
  by_written (Some false) (Err f) a ok err = (a, ap shelf_of err)

  pub step-written : (r : Result (Unit {0}) StoreFault) → WriteAnswer Flown r → OnOk r (h ≡ record h0 { store = after_write n bytes last h0.store }) → OnErr r (h ≡ h0) → Step Shown r
  step-written r a ok err = as_shown r (by_written Flown r a ok err)

  -- where the bytes had no memory: the write is there and may go on, as no bytes were taken
  by_tried : (o : Option Bool) (v : Unit {0}) → WriteAnswer {X = Unit {0}} o (Ok v) → h ≡ record h0 { store = after_write n [] false h0.store } → Step o (Err fault.Memory)
  by_tried None v a e = absurd cc
  by_tried (Some true) v a e = absurd cc
  by_tried (Some false) v a e = (refl, shelf-written n [] false h0 h e ∙ pieced-nothing n (shelf_of h0))

  pub step-tried : (v : Unit {0}) → WriteAnswer {X = Unit {0}} Flown (Ok v) → h ≡ record h0 { store = after_write n [] false h0.store } → Step Shown (Err fault.Memory)
  step-tried v a e = as_shown (Err fault.Memory) (by_tried Flown v a e)

  by_refused : (o : Option Bool) (f : StoreFault) → WriteAnswer {X = Unit {0}} o (Err f) → h ≡ h0 → Step o (Err f)
  by_refused None f a e = (a, ap shelf_of e)
  by_refused (Some true) f a e = (a, ap shelf_of e)
  by_refused (Some false) f a e = (a, ap shelf_of e)

  pub step-refused : (f : StoreFault) → WriteAnswer {X = Unit {0}} Flown (Err f) → h ≡ h0 → Step Shown (Err f)
  step-refused f a e = as_shown (Err f) (by_refused Flown f a e)

-- ---- readers

-- a reader that was there, or wasn't
pub spends-some : (o : Option MemHitHandler) (hit : MemHitHandler) (h0 h : StoreState) → o ≡ Some hit → PartsReader (readings.reader_of hit) h0 h → Spends readings.reader_of o h0 h
spends-some o hit h0 h is e = subst (λ (x : Option MemHitHandler). Spends readings.reader_of x h0 h) (sym is) e

pub spends-none : (o : Option MemHitHandler) (h0 h : StoreState) → o ≡ None → h ≡ h0 → Spends readings.reader_of o h0 h
spends-none o h0 h is e = subst (λ (x : Option MemHitHandler). Spends readings.reader_of x h0 h) (sym is) e

-- ---- reads

-- what is read of a write as it comes
module _ (q : Request) (s : StreamHit) (h : StoreState) where
  abbrev Next : Option (List ℕ × Bool) → Result ReadStep StoreFault → Type 0
  Next p r =
      MatchResult (answer_for r) (λ a. (a ≡ next_of (past_place s.place p)) × (streaming s.number (moved s r).place ≡ read_on a (streaming s.number s.place)))
      (λ f. (f ≡ out_of_memory) × ((past_place s.place p).0 ≢ []) × (moved s r ≡ s))

  abbrev Streamed : Result ReadStep StoreFault → Type 0
  Streamed r = ReadAnswer true (record q { reader = streaming s.number s.place }) (shelf_of h) (answer_for r) (record q { reader = streaming (moved s r).number (moved s r).place })

  by_next : (r : Result ReadStep StoreFault) → Next (readable s.number (shelf_of h)) r → Streamed r
  by_next (Ok (step.Bytes bytes)) a = (a.0, ap (λ (x : Reader). record q { reader = x }) a.1)
  by_next (Ok step.Pending) a = (a.0, ap (λ (x : Reader). record q { reader = x }) a.1)
  by_next (Ok step.End) a = (a.0, ap (λ (x : Reader). record q { reader = x }) a.1)
  by_next (Err f) a = (a.0, a.1, refl)

  streamed : (r : Result ReadStep StoreFault) → hits.ReadAnswer (readers.readable s.number h) s.place r → Streamed r
  streamed r e =
      by_next r (subst (λ (p : Option (List ℕ × Bool)). Next p r) (sym (readable-same s.number h)) (next-step s.number s.place (readers.readable s.number h) r e).answer)

abbrev pub Reads : Request → Reader → StoreState → Outcome → Reader → Type 0
Reads q old h a new = ReadAnswer (has_reader old) (record q { reader = old }) (shelf_of h) a (record q { reader = new })

-- where no reader is left
pub reads-none : (q : Request) (bytes : Option (List ℕ)) (h : StoreState) → Reads q (reader_in bytes None) h (read_without bytes) (reader_in bytes None)
reads-none q None h = (refl, refl)
reads-none q (Some bytes) h = (refl, refl)

-- a body, whose reader goes
pub reads-whole : (q : Request) (bytes : Option (List ℕ)) (w : WholeHit) (h : StoreState) → Reads q (reader_in bytes (Some (Complete w))) h (Ok (read_whole bytes)) (reader_in (Some []) None)
reads-whole q None w h = (refl, refl)
reads-whole q (Some bytes) w h = (refl, refl)

-- a write as it comes
pub reads-stream : (q : Request) (bytes : Option (List ℕ)) (s new : StreamHit) (h : StoreState) (r : Result ReadStep StoreFault) (a : Outcome) → hits.ReadAnswer (readers.readable s.number h) s.place r
    → new ≡ moved s r → a ≡ answer_for r → Reads q (reader_in bytes (Some (Partial s))) h a (reader_in bytes (Some (Partial new)))
reads-stream q bytes s new h r a e after told =
    subst (λ (x : Outcome). Reads q (streaming s.number s.place) h x (streaming new.number new.place)) (sym told)
    (subst (λ (x : StreamHit). Reads q (streaming s.number s.place) h (answer_for r) (streaming x.number x.place)) (sym after) (streamed q s h r e))

-- and the request is put together again with what is left of its reader
pub read-put : (r put : Driven) (asks : Bool) (wait : Option DurationValue) (gave : Bool) (k : ℕ) (share : Option CacheMeta) (bytes left : Option (List ℕ)) (q : Request) (hit next : Option MemHitHandler) (h : StoreState) (a : Outcome)
    → plain_of r asks wait gave k share bytes ≡ q → r.reader ≡ hit → put ≡ record r { reader = next } → Reads q (reader_in bytes hit) h a (reader_in left next)
    → ReadAnswer (has_reader q.reader) q (shelf_of h) a (plain_of put asks wait gave k share left)
read-put r put asks wait gave k share bytes left q hit next h a is there back e =
    subst (λ (x : Request). ReadAnswer (has_reader q.reader) q (shelf_of h) a x) (sym after)
    (subst (λ (x : Reader). ReadAnswer (has_reader x) (record q { reader = x }) (shelf_of h) a (record q { reader = reader_in left next })) (sym before) e)
  where
    before : q.reader ≡ reader_in bytes hit
    before = ap (λ (x : Request). x.reader) (sym is) ∙ ap (reader_in bytes) there

    after : plain_of put asks wait gave k share left ≡ record q { reader = reader_in left next }
    after = ap (λ (x : Driven). plain_of x asks wait gave k share left) back ∙ ap (λ (x : Request). record x { reader = reader_in left next }) is
