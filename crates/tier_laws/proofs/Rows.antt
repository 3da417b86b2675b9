-- What the row of an event may change; and what lands, as far as it came, is within that.
use Rattle.std.proofs.Common.{◌≡◌, ℕ, refl, ap, sym, ◌∙◌, true, false, cond, [], ◌∷◌, ◌||◌, length, inl, inr}
use Rattle.std.specs.Prelude.{Bool, List, Option, Some, None, Ok, Err, IfSome, is_some, map, find}
use Rattle.std.specs.Option.{option_or}
use Rattle.std.proofs.lemmas.Bool.{eqb-true}
use Rattle.cache_entries.specs.declared.entry.CacheEntryKey.{CacheEntryKey}
use Rattle.cache_entries.specs.declared.rows.Tracked.{Tracked}
use Rattle.cache_changes.specs.Bound.{is_entry_of}
use Rattle.cache_changes.specs.Changes.{StoredKey, stored_key}
use Rattle.cache_changes.proofs.RowLaws.{find-passes}
use Rattle.tier_model.specs.declared.event.Action.{Action}
use Rattle.tier_model.specs.declared.event.Answer.{Answer}
use Rattle.tier_model.specs.declared.event.Answer.TheVariants as answer
use Rattle.tier_model.specs.declared.event.Done.{Done}
use Rattle.tier_model.specs.declared.event.TierFault.{TierFault}
use Rattle.tier_model.specs.declared.event.TierFault.TheVariants as fault
use Rattle.tier_model.specs.Keys.{Entry, alone}
use Rattle.tier_model.specs.Calls.{Outcome, extended, nothing_done, done_of, evicted_before, evicted_by, is_revalidation}
use Rattle.tier_model.specs.State.{Settings}
use Rattle.tier_model.specs.Answers.{stored_alone}
use Rattle.tier_promise.specs.Promise.{Write, Change, Changes, lands, puts, takes, has_number, flying, body_of, rows, bytes_of}
use Rattle.tier_promise.specs.Promise.{Entering, nothing, a_use, a_body, a_renewal, HowFar, whole_way, cut, kept_out, KeepsOut, StaysOut, SomeRanOut, ComesSo, Needs, Request, EventRow, told}
use Rattle.tier_promise.specs.Promise.{lands_whole, done_so, told_so}
use Rattle.tier_laws.specs.Keys.{is_purge, replaces, gives_permit}
use Rattle.tier_laws.specs.Others.{lists}
use Rattle.tier_laws.proofs.Owners.{owner, Scope}
use Rattle.tier_laws.proofs.Turns.{InTurn, takes_any, both-false, any-listed, any-left, in-turn-both, owner-kept, listed-in-turn, own-goes, HoldsOf, holds-kept}

-- what a call of a key may change, by its action and its outcome
abbrev pub scope_of : Option StoredKey → Action → Outcome → Scope
scope_of k a o = record { key = k; gone = evicted_by o; gives = gives_permit o; replaces = replaces a o; confirms = is_revalidation a }

-- what a request has is its key's
pub record IsHeld (q : Request) (c : Changes) : Type 0 where
  pub write : IfSome q.write (λ w. (owner w.number c ≡ Some (stored_key q.entry)) × (w.entry ≡ q.entry))
  pub hold : HoldsOf (stored_key q.entry) q.hold c

-- where no entry of the key is listed, its body has so many bytes
abbrev pub HasStored : Option StoredKey → ℕ → List CacheEntryKey → Changes → Type 0
HasStored k size es c = (j : StoredKey) → k ≡ Some j → lists j es ≡ false → (w : Write) × (body_of j c ≡ Some w) × (length (bytes_of w.number c) ≡ size)

-- a row that comes of an action of a key, after those changes
pub record IsOwn (k : Option StoredKey) (a : Action) (row : EventRow) (c : Changes) : Type 0 where
  pub turn : InTurn (scope_of k a row.outcome) row.changes c
  pub listed : (j : StoredKey) → lists j (evicted_by row.outcome) ≡ true → takes_any j row.changes ≡ true
  pub finished : (size : ℕ) (es : List CacheEntryKey) → row.outcome ≡ Ok (answer.Finished size es) → HasStored k size es (extended c row.changes)
  pub request : IfSome row.request (λ q. IsHeld q (extended c row.changes))

pub write-kept : (e : Entry) (o : Option Write) (xs : List Change) (c : Changes) → IfSome o (λ w. (owner w.number c ≡ Some (stored_key e)) × (w.entry ≡ e))
    → IfSome o (λ w. (owner w.number (extended c xs) ≡ Some (stored_key e)) × (w.entry ≡ e))
write-kept e None xs c i = tt
write-kept e (Some w) xs c i = (owner-kept w.number (stored_key e) xs c i.0, i.1)

pub held-kept : (q : Request) (xs : List Change) (c : Changes) → IsHeld q c → IsHeld q (extended c xs)
held-kept q xs c i = record { write = write-kept q.entry q.write xs c i.write; hold = holds-kept (stored_key q.entry) q.hold xs c i.hold }

-- ---- how far a call came

-- what is stored of a key was replaced, where its entry was kept out
kept-stored : (s : Settings) (e : CacheEntryKey) (w : ℕ) (f : TierFault) (all : List Tracked) → KeepsOut s e w stored_alone f all → (done_of f).stored ≡ true
kept-stored s e w (fault.TooHeavy told) all k = ap (λ (d : Done). d.stored) k.0
kept-stored s e w (fault.TooLong told) all k = ap (λ (d : Done). d.stored) k.0
kept-stored s e w (fault.NumbersSpent told) all k = ap (λ (d : Done). d.stored) k.0
kept-stored s e w (fault.Memory told) all k = ap (λ (d : Done). d.stored) k.0
kept-stored s e w _ all k = absurd k

pub true-last : (v : Bool) → (v || true) ≡ true
true-last true = refl
true-last false = refl

module _ (k : StoredKey) (a : Action) where
  replaced-so : (f : TierFault) → (done_of f).stored ≡ true → replaces a (Err f) ≡ true
  replaced-so f so = ap (λ (v : Bool). is_purge a || v) so ∙ true-last (is_purge a)

  -- a write that lands, with its entry, as far as it came
  module _ (s : Settings) (c : Changes) (w : Write) (weight size : ℕ) (mine : owner w.number c ≡ Some k) (key : k ≡ stored_key w.entry) where
    abbrev landed : HowFar → Scope
    landed far = scope_of (Some k) a (told_so (λ es. answer.Finished size es) far)

    own-key : (x : Scope) → x.key ≡ Some k → x.key ≡ Some (stored_key w.entry)
    own-key x e = e ∙ ap (λ (j : StoredKey). Some j) key

    pub lands-so : (far : HowFar) (e : CacheEntryKey) (before : Changes) → ComesSo s (a_body e weight) far before → InTurn (landed far) (done_so w (lands_whole w weight) far) c
    lands-so (whole_way es) e before so =
        (((k, mine, refl), true-last (is_purge a)), (tt, listed-in-turn (landed (whole_way es)) es (puts (alone w.entry) weight ∷ lands w.number true ∷ c) (λ j others. others)))
    lands-so (cut es) e before so =
        let d : Changes = puts (alone w.entry) weight ∷ lands w.number true ∷ c in
        let own = own-goes (landed (cut es)) w.entry (extended d (map takes es)) (own-key (landed (cut es)) refl) (true-last (is_purge a)) in
        (((k, mine, refl), true-last (is_purge a)), (tt, in-turn-both (landed (cut es)) (map takes es) (takes (alone w.entry) ∷ []) d (listed-in-turn (landed (cut es)) es d (λ j others. others)) (own, tt)))
    lands-so (kept_out f) e before so =
        ((k, mine, refl), (own-goes (landed (kept_out f)) w.entry (lands w.number false ∷ c) (own-key (landed (kept_out f)) refl) (replaced-so f (kept-stored s e weight f (rows before) so)), tt))

-- what kept an entry out listed nothing
kept-none : (s : Settings) (e : CacheEntryKey) (w : ℕ) (done : Done) (f : TierFault) (all : List Tracked) → evicted_before done ≡ [] → KeepsOut s e w done f all → evicted_by (Err f) ≡ []
kept-none s e w done (fault.TooHeavy told) all none k = ap evicted_before k.0 ∙ none
kept-none s e w done (fault.TooLong told) all none k = ap evicted_before k.0 ∙ none
kept-none s e w done (fault.NumbersSpent told) all none k = ap evicted_before k.0 ∙ none
kept-none s e w done (fault.Memory told) all none k = ap evicted_before k.0 ∙ none
kept-none s e w done _ all none k = absurd k

-- what ran out listed nothing
pub ran-none : (s : Settings) (used : ℕ) (needs : Needs) (o : Outcome) (c : Changes) → SomeRanOut s used needs o c → evicted_by o ≡ []
ran-none s used needs o c p = elim p [
  | inl memory ↦ ap evicted_by memory.0
  | inr rest ↦ elim rest [
    | inl number ↦ ap evicted_by number.0
    | inr room ↦ ap evicted_by room.1 ∙ stays needs.entering room.0 room.2
  ]
]
  where
    stays : (x : Entering) (f : TierFault) → StaysOut s x f (rows c) → evicted_by (Err f) ≡ []
    stays (a_use e w) f k = kept-none s e w nothing_done f (rows c) refl k.1
    stays (a_renewal e w) f k = kept-none s e w nothing_done f (rows c) refl k
    stays nothing f k = absurd k
    stays (a_body e w) f k = absurd k

-- and answered nothing
pub ran-err : (s : Settings) (used : ℕ) (needs : Needs) (o : Outcome) (c : Changes) → SomeRanOut s used needs o c → (a : Answer) → o ≡ Ok a → ⊥
ran-err s used needs o c p a e = elim p [
  | inl memory ↦ let no = sym e ∙ memory.0 in absurd cc
  | inr rest ↦ elim rest [
    | inl number ↦ let no = sym e ∙ number.0 in absurd cc
    | inr room ↦ let no = sym e ∙ room.1 in absurd cc
  ]
]

-- what a landing listed went
pub lands-listed : (j : StoredKey) (w : Write) (weight size : ℕ) (far : HowFar) (e : CacheEntryKey) (s : Settings) (before : Changes) → ComesSo s (a_body e weight) far before
    → lists j (evicted_by (told_so (λ es. answer.Finished size es) far)) ≡ true → takes_any j (done_so w (lands_whole w weight) far) ≡ true
lands-listed j w weight size (whole_way es) e s before so l = any-listed j es l
lands-listed j w weight size (cut es) e s before so l = any-left j (map takes es) (takes (alone w.entry) ∷ []) (any-listed j es l)
lands-listed j w weight size (kept_out f) e s before so l = let none : false ≡ true = sym (ap (lists j) (kept-none s e weight stored_alone f (rows before) refl so)) ∙ l in absurd cc

-- other entries go
others-go : (j : StoredKey) (es : List CacheEntryKey) (c : Changes) → lists j es ≡ false → body_of j (extended c (map takes es)) ≡ body_of j c
others-go j [] c none = refl
others-go j (e ∷ es) c none =
    let both = both-false (is_entry_of j e) (lists j es) none in
    others-go j es (takes e ∷ c) both.1 ∙ ap (λ (v : Bool). cond v None (body_of j c)) both.0

dry-goes : (n : ℕ) (es : List CacheEntryKey) (c : Changes) → bytes_of n (extended c (map takes es)) ≡ bytes_of n c
dry-goes n [] c = refl
dry-goes n (e ∷ es) c = dry-goes n es (takes e ∷ c)

-- what lands is the body
landed-body : (j : StoredKey) (n : ℕ) (c : Changes) → is_some (find (has_number n) (flying j c)) ≡ true → (v : Write) × (body_of j (lands n true ∷ c) ≡ Some v) × (v.number ≡ n)
landed-body j n c there = by_found (find (has_number n) (flying j c)) refl there
  where
    by_found : (v : Option Write) → find (has_number n) (flying j c) ≡ v → is_some v ≡ true → (u : Write) × (option_or v (body_of j c) ≡ Some u) × (u.number ≡ n)
    by_found None is there = absurd cc
    by_found (Some v) is there = (v, refl, sym (eqb-true n v.number (find-passes (has_number n) (flying j c) v is)))

module _ (j : StoredKey) (w : Write) (weight size : ℕ) (c : Changes) (sized : length (bytes_of w.number c) ≡ size) (there : is_some (find (has_number w.number) (flying j c)) ≡ true) where
  pub finished-so : (far : HowFar) (told : ℕ) (es : List CacheEntryKey) → told_so (λ gone. answer.Finished size gone) far ≡ Ok (answer.Finished told es) → lists j es ≡ false
      → (v : Write) × (body_of j (extended c (done_so w (lands_whole w weight) far)) ≡ Some v) × (length (bytes_of v.number (extended c (done_so w (lands_whole w weight) far))) ≡ told)
  finished-so (whole_way gone) told es e none =
      let d : Changes = puts (alone w.entry) weight ∷ lands w.number true ∷ c in
      let same : gone ≡ es = cc in
      let said : size ≡ told = cc in
      let v = landed-body j w.number c there in (
        v.0,
        others-go j gone d (ap (lists j) same ∙ none) ∙ v.1,
        ap (λ (bytes : List ℕ). length bytes) (dry-goes (v.0).number gone d ∙ ap (λ (n : ℕ). bytes_of n c) v.2) ∙ sized ∙ said,
      )
  finished-so (cut gone) told es e none = absurd cc
  finished-so (kept_out f) told es e none = absurd cc
