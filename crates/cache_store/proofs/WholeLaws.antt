-- A write that begins under a number that no write in flight has: what is held once it has its bytes, is stored, or is given up.
use Rattle.std.proofs.Common.{arith, ◌≡◌, ℕ, refl, ap, sym, ◌∙◌, true, false, subst, cond, [], ◌∷◌, ◌++◌, inl, inr}
use Rattle.std.specs.Prelude.{◌==◌, ◌+◌, Bool, List, Option, Some, None, option_map, is_some, IfSome, Ok, Err, find, not, ◌&&◌}
use Rattle.std.proofs.lemmas.Bool.Decides.{nat_tests}
use Rattle.cache_heads.specs.declared.meta.CacheMeta.{CacheMeta}
use Rattle.cache_entries.specs.declared.entry.CacheEntryId.{CacheEntryId}
use Rattle.cache_entries.specs.SameEntry.{same_bytes-tells}
use Rattle.cache_entries.specs.Keys.{same_bytes}
use Rattle.cache_changes.specs.Changes.{StoredKey, Write, begins, finishes, is_key}
use Rattle.cache_changes.specs.Store.{Stored, Flying, Store, has_number, flying_at, flies_for, body_at, begun, with_bytes, ended, on_flying, landed, with_body, after}
use Rattle.cache_store.specs.declared.storage.MissFinishType.{MissFinishType}
use Rattle.cache_store.specs.declared.storage.store.MissFault.TheVariants.{Memory, WriteRemoved}
use Rattle.cache_store.specs.declared.storage.StoreFault.{StoreFault}
use Rattle.cache_store.specs.declared.storage.StoreFault.TheVariants as store_fault
use Rattle.cache_store.specs.Agree.{Agree}
use Rattle.cache_store.specs.Answers.{WriteAnswer, after_write, alive_key, left, left_behind, IsFinished, Look, in_flight, look_of, look_up, streamed, streamed_of}
use Rattle.cache_store.specs.StoreState.{StoreState, left_with}
use Rattle.cache_store.specs.Ids.{IsGiven}
use Rattle.cache_store.specs.Looks.{asked}
use Rattle.cache_store.specs.Misses.{IsBegun, BeginAnswer, MissAnswer}
use Rattle.cache_store.specs.Wholes.{Stores, IsWriteFault, with_whole, whole_of}

own-number : (n : ℕ) → (n == n) ≡ true
own-number n = grind (arith, nat_tests)

-- the last of writes in flight, where none before it has its number
module _ {M : Type 0} where
  on-last : (n : ℕ) (change : Flying M → Flying M) (fs : List (Flying M)) (f : Flying M) → find (has_number n) fs ≡ None → has_number n f ≡ true → on_flying n change (fs ++ f ∷ []) ≡ fs ++ change f ∷ []
  on-last n change [] f none own = rw own refl
  on-last n change (x ∷ xs) f none own = by_test (has_number n x) none (λ h. on-last n change xs f h own)
    where
      by_test : (v : Bool) → cond v (Some x) (find (has_number n) xs) ≡ None → (find (has_number n) xs ≡ None → on_flying n change (xs ++ f ∷ []) ≡ xs ++ change f ∷ [])
          → cond v (change x) x ∷ on_flying n change (xs ++ f ∷ []) ≡ x ∷ xs ++ change f ∷ []
      by_test true h ih = absurd cc
      by_test false h ih = ap (λ (l : List (Flying M)). x ∷ l) (ih h)

  find-last : (n : ℕ) (fs : List (Flying M)) (f : Flying M) → find (has_number n) fs ≡ None → has_number n f ≡ true → find (has_number n) (fs ++ f ∷ []) ≡ Some f
  find-last n [] f none own = rw own refl
  find-last n (x ∷ xs) f none own = by_test (has_number n x) none (λ h. find-last n xs f h own)
    where
      by_test : (v : Bool) → cond v (Some x) (find (has_number n) xs) ≡ None → (find (has_number n) xs ≡ None → find (has_number n) (xs ++ f ∷ []) ≡ Some f)
          → cond v (Some x) (find (has_number n) (xs ++ f ∷ [])) ≡ Some f
      by_test true h ih = absurd cc
      by_test false h ih = ih h

  -- one that has a property, or one before it that has it, is found
  find-some : (p : Flying M → Bool) (fs : List (Flying M)) (f : Flying M) → p f ≡ true → is_some (find p (fs ++ f ∷ [])) ≡ true
  find-some p [] f own = rw own refl
  find-some p (x ∷ xs) f own = by_test (p x) (find-some p xs f own)
    where
      by_test : (v : Bool) → is_some (find p (xs ++ f ∷ [])) ≡ true → is_some (cond v (Some x) (find p (xs ++ f ∷ []))) ≡ true
      by_test true h = refl
      by_test false h = h

  landed-last : (n : ℕ) (fs : List (Flying M)) (f : Flying M) → find (has_number n) fs ≡ None → has_number n f ≡ true → landed n (fs ++ f ∷ []) ≡ fs
  landed-last n [] f none own = rw own refl
  landed-last n (x ∷ xs) f none own = by_test (has_number n x) none (λ h. landed-last n xs f h own)
    where
      by_test : (v : Bool) → cond v (Some x) (find (has_number n) xs) ≡ None → (find (has_number n) xs ≡ None → landed n (xs ++ f ∷ []) ≡ xs)
          → cond (not v) (x ∷ landed n (xs ++ f ∷ [])) (landed n (xs ++ f ∷ [])) ≡ x ∷ xs
      by_test true h ih = absurd cc
      by_test false h ih = ap (λ (l : List (Flying M)). x ∷ l) (ih h)

  -- a write with all its bytes
  abbrev whole : Write M → List ℕ → Flying M
  whole w bytes = ended (with_bytes bytes (begun w))

  wrote : (w : Write M) (bytes : List ℕ) (s : Store M) → flying_at w.number s ≡ None → after_write w.number bytes true (after (begins w) s) ≡ record s { flying = s.flying ++ whole w bytes ∷ [] }
  wrote w bytes s none = λ i. record s {
    flying =
        (ap (on_flying w.number ended) (on-last w.number (with_bytes bytes) s.flying (begun w) none (own-number w.number))
        ∙ on-last w.number ended s.flying (with_bytes bytes (begun w)) none (own-number w.number)) i;
  }

-- one write more is in flight, under the next number
abbrev with_flight : Flying CacheMeta → StoreState → StoreState
with_flight f h = record h { store = record h.store { flying = h.store.flying ++ f ∷ [] }; next = h.next + 1 }

-- it is given up
leave-last : (f : Flying CacheMeta) (h : StoreState) → flying_at h.next h.store ≡ None → has_number h.next f ≡ true
    → left h.next (with_flight f h) ≡ record h { next = h.next + 1; readings = left_with h.next f.stored.bytes f.ended h.readings }
leave-last f h none own = λ i. record h {
  store = record h.store { flying = landed-last h.next h.store.flying f none own i };
  next = h.next + 1;
  readings = left_behind false h.next (find-last h.next h.store.flying f none own i) h.readings;
}

-- it is finished
finish-last : (key : StoredKey) (meta : CacheMeta) (bytes : List ℕ) (h : StoreState) → flying_at h.next h.store ≡ None
    → (let w : Write CacheMeta = record { number = h.next; key = key; meta = meta } in after (finishes w) (with_flight (whole w bytes) h).store ≡ with_whole key meta bytes h)
finish-last key meta bytes h none =
    let w : Write CacheMeta = record { number = h.next; key = key; meta = meta } in
    λ i. record h.store {
      bodies = with_body (option_map (λ f. f.stored) (find-last h.next h.store.flying (whole w bytes) none (own-number h.next) i)) h.store.bodies;
      flying = landed-last h.next h.store.flying (whole w bytes) none (own-number h.next) i;
    }

-- a write that began is what its number shows
pub own-read : (k : StoredKey) (meta : CacheMeta) (n : ℕ) (old new : StoreState) → IsBegun k meta n old new
    → streamed k n new.store ≡ Some (in_flight (record { write = record { number = n; key = k; meta = meta }; meta = meta; bytes = [] }))
own-read k meta n old new b =
    let w : Write CacheMeta = record { number = old.next; key = k; meta = meta } in
    ap (λ (h : StoreState). streamed k n h.store) b.begun
    ∙ ap (λ (m : ℕ). streamed_of k (find (has_number m) (old.store.flying ++ begun w ∷ []))) b.number
    ∙ ap (streamed_of k) (find-last old.next old.store.flying (begun w) (subst (λ (m : ℕ). flying_at m old.store ≡ None) b.number b.fresh) (own-number old.next))
    ∙ flies (same_bytes k k) (same_bytes-tells.itself k)
    ∙ ap (λ (m : ℕ). Some (in_flight (record { write = record { number = m; key = k; meta = meta }; meta = meta; bytes = [] }))) (sym b.number)
  where
    flies : (v : Bool) → v ≡ true → cond (v && true) (Some (in_flight (record { write = record { number = old.next; key = k; meta = meta }; meta = meta; bytes = [] }))) None
        ≡ Some (in_flight (record { write = record { number = old.next; key = k; meta = meta }; meta = meta; bytes = [] }))
    flies true t = refl
    flies false t = absurd cc

shown-some : (o : Option (Flying CacheMeta)) (body : Option (Stored CacheMeta)) → is_some o ≡ true → is_some (look_of o body) ≡ true
shown-some None body e = absurd cc
shown-some (Some f) body e = refl

-- a look-up that names it by its number, or names none, finds something
pub own-asked : (k : StoredKey) (meta : CacheMeta) (n : ℕ) (named : Option ℕ) (old new : StoreState) → IsBegun k meta n old new → IfSome named (λ m. m ≡ n)
    → is_some (asked true k named new.store) ≡ true
own-asked k meta n None old new b e =
    let w : Write CacheMeta = record { number = old.next; key = k; meta = meta } in
    ap (λ (h : StoreState). is_some (look_up k h.store)) b.begun
    ∙ shown-some (find (flies_for k) (old.store.flying ++ begun w ∷ [])) (body_at k old.store) (find-some (flies_for k) old.store.flying (begun w) (flies (same_bytes k k) (same_bytes-tells.itself k)))
  where
    flies : (v : Bool) → v ≡ true → (v && true) ≡ true
    flies true t = refl
    flies false t = absurd cc
own-asked k meta n (Some m) old new b e = ap (λ (i : ℕ). is_some (streamed k i new.store)) e ∙ ap (λ (o : Option Look). is_some o) (own-read k meta n old new b)

begun-by : {H : Type 0} (number : H → ℕ) (spent : Bool) (key : StoredKey) (meta : CacheMeta) (h : H) (old new : StoreState) → BeginAnswer number spent key meta old (Ok h) new → (spent ≡ false) × IsBegun key meta (number h) old new
begun-by number true key meta h old new a = absurd cc
begun-by number false key meta h old new a = (refl, a)

-- where none begins, the refusal says why no body is stored
pub not-begun : {H : Type 0} (number : H → ℕ) (spent : Bool) (key : StoredKey) (meta : CacheMeta) (h0 h1 : StoreState) (f : StoreFault) → BeginAnswer number spent key meta h0 (Err f) h1 → IsWriteFault spent meta f h0 h1
not-begun number true key meta h0 h1 f a =
    let was = a.0 in
    let spent : f ≡ store_fault.WriteNumbersSpent = cc in
    subst (λ (f : StoreFault). IsWriteFault true meta f h0 h1) (sym spent) (refl, a.1)
not-begun number false key meta h0 h1 f a = elim a.0 [
  | inl moment ↦ subst (λ (f : StoreFault). IsWriteFault false meta f h0 h1) (sym moment.0) (refl, moment.1, a.1)
  | inr memory ↦ subst (λ (f : StoreFault). IsWriteFault false meta f h0 h1) (sym memory.0) (refl, memory.1, inl a.1)
]

-- a write that began and is given up at once is as one that memory ran out for
pub left-begun : {H : Type 0} (number : H → ℕ) (spent : Bool) (key : StoredKey) (meta : CacheMeta) (m : H) (h0 h1 h2 : StoreState) → BeginAnswer number spent key meta h0 (Ok m) h1 → h2 ≡ left (number m) h1
    → IsWriteFault spent meta store_fault.Memory h0 h2
left-begun number spent key meta m h0 h1 h2 a l =
    let began = begun-by number spent key meta m h0 h1 a in
    let b = began.1 in (
      began.0,
      b.written,
      inr ([], false, began.0, l ∙ ap (λ (n : ℕ). left n h1) b.number ∙ ap (left h0.next) b.begun ∙ leave-last (begun (record { number = h0.next; key = key; meta = meta })) h0 (subst (λ (n : ℕ). flying_at n h0.store ≡ None) b.number b.fresh) (own-number h0.next)),
    )

module _ {H : Type 0} (number : H → ℕ) (told : Stored CacheMeta → MissFinishType) (spent : Bool) (key : StoredKey) (meta : CacheMeta) (bytes : List ℕ) (m m2 : H) (h0 h1 h2 h3 : StoreState) where
  abbrev first : Flying CacheMeta
  first = begun (record { number = h0.next; key = key; meta = meta })

  abbrev full : Flying CacheMeta
  full = whole (record { number = h0.next; key = key; meta = meta }) bytes

  -- the writer that began, with its bytes
  pub record IsFilled : Type 0 where
    pub began : BeginAnswer number spent key meta h0 (Ok m) h1
    pub same : number m2 ≡ number m
    pub filled : h2 ≡ record h1 { store = after_write (number m) bytes true h1.store }

  at-first : BeginAnswer number spent key meta h0 (Ok m) h1 → flying_at h0.next h0.store ≡ None
  at-first a = let b = (begun-by number spent key meta m h0 h1 a).1 in subst (λ (n : ℕ). flying_at n h0.store ≡ None) b.number b.fresh

  in-flight : IsFilled → h2 ≡ with_flight full h0
  in-flight f =
      let b = (begun-by number spent key meta m h0 h1 f.began).1 in
      f.filled ∙ ap (λ (n : ℕ). record h1 { store = after_write n bytes true h1.store }) b.number
      ∙ ap (λ (h : StoreState). record h { store = after_write h0.next bytes true h.store }) b.begun
      ∙ (λ i. record h0 { store = wrote (record { number = h0.next; key = key; meta = meta }) bytes h0.store (at-first f.began) i; next = h0.next + 1 })

  -- before it has its bytes, it is refused for memory alone
  pub write-refused : (a : BeginAnswer number spent key meta h0 (Ok m) h1) (fault : StoreFault)
      → WriteAnswer {X = Unit {0}} (option_map (λ f. f.ended) (flying_at (number m) h1.store)) (Err fault) → fault ≡ store_fault.Memory
  write-refused a f answer =
      let b = (begun-by number spent key meta m h0 h1 a).1 in
      let there : option_map (λ f. f.ended) (flying_at (number m) h1.store) ≡ Some false =
      ap (λ (n : ℕ). option_map (λ f. f.ended) (flying_at n h1.store)) b.number
      ∙ ap (λ (h : StoreState). option_map (λ f. f.ended) (flying_at h0.next h.store)) b.begun
      ∙ ap (option_map (λ f. f.ended)) (find-last h0.next h0.store.flying first (at-first a) (own-number h0.next)) in
      subst (λ (o : Option Bool). WriteAnswer {X = Unit {0}} o (Err f)) there answer

  -- and leaves nothing
  pub given-up : (f : StoreFault) (a : BeginAnswer number spent key meta h0 (Ok m) h1) → WriteAnswer {X = Unit {0}} (option_map (λ f. f.ended) (flying_at (number m) h1.store)) (Err f)
      → number m2 ≡ number m → h2 ≡ h1 → h3 ≡ left (number m2) h2 → IsWriteFault spent meta f h0 h3
  given-up f a answer same e l =
      subst (λ (f : StoreFault). IsWriteFault spent meta f h0 h3) (sym (write-refused a f answer))
      (left-begun number spent key meta m h0 h1 h3 a (l ∙ ap (λ (n : ℕ). left n h2) same ∙ ap (left (number m)) e))

  flies : IsFilled → flying_at (number m2) h2.store ≡ Some full
  flies f =
      let b = (begun-by number spent key meta m h0 h1 f.began).1 in
      ap (λ (n : ℕ). flying_at n h2.store) (f.same ∙ b.number) ∙ ap (λ (h : StoreState). flying_at h0.next h.store) (in-flight f)
      ∙ find-last h0.next h0.store.flying full (at-first f.began) (own-number h0.next)

  finished-by : (o : Option StoredKey) (n : ℕ) (finish : MissFinishType) → MissAnswer number told o n h2 (Ok finish) h3 → (x : Stored CacheMeta) × (finish ≡ told x) × IsFinished n x h2 h3
  finished-by None n finish a = absurd cc
  finished-by (Some k) n finish a = a

  not-removed : (o : Option StoredKey) (n : ℕ) → o ≡ Some key → MissAnswer number told o n h2 (Err WriteRemoved) h3 → ⊥
  not-removed None n t a = absurd cc
  not-removed (Some k) n t a = a.0

  handed-by : (o : Option StoredKey) (n : ℕ) (h : H) → MissAnswer number told o n h2 (Err (Memory h)) h3 → (number h ≡ n) × (h3 ≡ h2)
  handed-by None n h a = absurd cc
  handed-by (Some k) n h a = a

  pub stores : IsFilled → (finish : MissFinishType) → MissAnswer number told (alive_key (flying_at (number m2) h2.store)) (number m2) h2 (Ok finish) h3 → Stores spent key meta bytes h0 h3
  stores f finish a =
      let b = begun-by number spent key meta m h0 h1 f.began in
      let end = (finished-by (alive_key (flying_at (number m2) h2.store)) (number m2) finish a).2 in
      let w : Write CacheMeta = record { number = h0.next; key = key; meta = meta } in
      record {
        numbered = b.0;
        written = b.1.written;
        store =
            subst (λ (s : Store CacheMeta). Agree h3.store s) (ap (λ (h : StoreState). after (finishes w) h.store) (in-flight f) ∙ finish-last key meta bytes h0 (at-first f.began))
            (end.store w (sym (f.same ∙ b.1.number)));
        next = end.next ∙ ap (λ (h : StoreState). h.next) (in-flight f);
        readings =
            end.readings ∙ ap (λ (o : Option (Flying CacheMeta)). left_behind true (number m2) o h2.readings) (flies f)
            ∙ ap (λ (n : ℕ). left_with n bytes true h2.readings) (f.same ∙ b.1.number) ∙ ap (λ (h : StoreState). left_with h0.next bytes true h.readings) (in-flight f);
      }

  -- what is reported of it
  pub told-of : IsFilled → (finish : MissFinishType) → MissAnswer number told (alive_key (flying_at (number m2) h2.store)) (number m2) h2 (Ok finish) h3 → finish ≡ told (whole_of key meta bytes h0)
  told-of f finish a =
      let end = finished-by (alive_key (flying_at (number m2) h2.store)) (number m2) finish a in
      let one : Some end.0 ≡ Some full.stored = sym end.2.shown ∙ ap (option_map (λ (x : Flying CacheMeta). x.stored)) (flies f) in
      let same : end.0 ≡ full.stored = cc in
      end.1 ∙ ap told same

  pub of-key : IsFilled → alive_key (flying_at (number m2) h2.store) ≡ Some key
  of-key f = ap alive_key (flies f)

  pub never-removed : IsFilled → MissAnswer number told (alive_key (flying_at (number m2) h2.store)) (number m2) h2 (Err WriteRemoved) h3 → ⊥
  never-removed f a = not-removed (alive_key (flying_at (number m2) h2.store)) (number m2) (of-key f) a

  pub handed-back : IsFilled → (h : H) (h4 : StoreState) → MissAnswer number told (alive_key (flying_at (number m2) h2.store)) (number m2) h2 (Err (Memory h)) h3 → h4 ≡ left (number h) h3
      → IsWriteFault spent meta store_fault.Memory h0 h4
  handed-back f h h4 a l =
      let begun = begun-by number spent key meta m h0 h1 f.began in
      let b = begun.1 in
      let back = handed-by (alive_key (flying_at (number m2) h2.store)) (number m2) h a in
      (begun.0, b.written, inr (bytes, true, begun.0, l ∙ ap (λ (n : ℕ). left n h3) (back.0 ∙ f.same ∙ b.number) ∙ ap (left h0.next) (back.1 ∙ in-flight f) ∙ leave-last full h0 (at-first f.began) (own-number h0.next)))

-- the id of the key's write is the key's
pub given-to : (key : StoredKey) (o : Option StoredKey) (i j : Option CacheEntryId) (was mid now : StoredKey → Option CacheEntryId) → o ≡ Some key → i ≡ j → mid ≡ was → IsGiven o j mid now
    → IsGiven (Some key) i was now
given-to key o i j was mid now e f h g = record {
  given = λ k t. g.given k (e ∙ t) ∙ sym f;
  others = λ k t. g.others k (subst (λ (x : Option StoredKey). is_key k x ≡ false) (sym e) t) ∙ ap (λ (s : StoredKey → Option CacheEntryId). s k) h;
}
