-- What a state says of an open request and of its write.
use Rattle.std.proofs.Common.{◌≡◌, ℕ, ◌≤◌, refl, ap, sym, ◌∙◌, true, false, subst, cond, [], ◌∷◌, ◌++◌, arith}
use Rattle.std.specs.Prelude.{Bool, List, Option, Some, None, option_map, Ok, not, find, ◌↔◌}
use Rattle.cache_heads.specs.Merged.{with_provenance_of}
use Rattle.cache_words.specs.Time.{MomentValue}
use Rattle.cache_changes.specs.Changes.{stored_key, Write, Change, Changes, uses}
use Rattle.cache_changes.specs.Writes.{bytes_of, has_ended, meta_of, IsOrderly, IsInFlight, IsAlive, body_now}
use Rattle.cache_changes.specs.Store.{Stored, store_of, has_number as held_number}
use Rattle.cache_changes.proofs.BodyLaws.{body_now-of}
use Rattle.cache_changes.proofs.FlightLaws.{flight, flying_of, flying_at-is}
use Rattle.cache_changes.proofs.StateLaws.{flying-tells}
use Rattle.cache_changes.proofs.WriteLaws.{life-flies}
use Rattle.cache_entries.specs.declared.entry.CacheEntryKey.{CacheEntryKey}
use Rattle.cache_entries.specs.Entry.{key_of}
use Rattle.cache_evict.specs.Managed.{Managed}
use Rattle.tier_model.specs.declared.state.Body.{Body}
use Rattle.tier_model.specs.declared.event.Action.{Action}
use Rattle.tier_model.specs.declared.event.Answer.{Answer}
use Rattle.tier_model.specs.declared.event.Done.{Done}
use Rattle.tier_model.specs.declared.event.TierFault.{TierFault}
use Rattle.tier_model.specs.declared.event.TierFault.TheVariants.{TooHeavy, TooLong, NumbersSpent, Memory}
use Rattle.tier_model.specs.Keys.{Entry, alone}
use Rattle.tier_model.specs.Calls.{Call, History, extended, done_of, judged_of, writes_after, opened_for}
use Rattle.tier_model.specs.Histories.{Kept, Opening, writes_begun, hit_changes, write_begun, begun_by, write_held, seen_by, finished_of, changes_of}
use Rattle.tier_model.specs.Response.{kept}
use Rattle.tier_model.specs.Rows.{Numbered, Bodies, weight_for}
use Rattle.cache_heads.specs.declared.meta.CacheMeta.{CacheMeta}
use Rattle.tier_model.specs.Shelf.{InFlight, Shelf, has_number, flying_at, absent, in_flight, finished, look_by}
use Rattle.tier_model.specs.State.{Seen, Request, State, shards_of}
use Rattle.tier_model.specs.Past.{plain, plain_seen}
use Rattle.tier_model.specs.Checks.{refusal, unless, unless_open}
use Rattle.tier_model.specs.Answers.{IsKeptOut, body_under, flight_of, finishing}
use Rattle.tier_model.specs.After.{meta_for}
use Rattle.tier_model.specs.Step.{IsAnswer, AllowsBy, BeginsWrite}
use Rattle.tier_model.proofs.WriteLaws.{WritesFit, IsWriteOf}
use Rattle.tier_model.proofs.FlightLaws.{find-plain}
use Rattle.tier_model.proofs.ChangeLaws.{Leaves}
use Rattle.tier_model.proofs.ShownLaws.{Shows}
use Rattle.tier_model.proofs.BoundLaws.{Keeps}

-- what a state holds after a history
abbrev pub Holds : Opening → State → History → Type 0
Holds start s h = Keeps (shards_of s) (writes_begun start h) s.shelf.bodies s.shelf.flying s.managed (changes_of start h)

-- what is held after one call more, by whether a write began in it
abbrev pub HoldsNext : State → ℕ → Bool → State → Changes Kept → Type 0
HoldsNext s n began new changes = Keeps (shards_of s) (writes_after n began) new.shelf.bodies new.shelf.flying new.managed changes

pub no-fewer : (n : ℕ) (began : Bool) → n ≤ writes_after n began
no-fewer n true = omega arith
no-fewer n false = omega arith

-- a write began of what is reported
pub begun-told : (s : State) (may told v : Bool) → BeginsWrite s may told v → told ≡ true → v ≡ true
begun-told s may told true x e = refl
begun-told s may told false x e = cc

pub extended-append : (past : Changes Kept) (xs ys : List (Change Kept)) → extended past (xs ++ ys) ≡ extended (extended past xs) ys
extended-append past [] ys = refl
extended-append past (x ∷ xs) ys = extended-append (x ∷ past) xs ys

-- what was done before an entry was kept out
pub kept_out-done : (s : State) (e : CacheEntryKey) (w : ℕ) (done : Done) (f : TierFault) → IsKeptOut s e w done f → done_of f ≡ done
kept_out-done s e w done (TooHeavy told) p = p.0
kept_out-done s e w done (TooLong told) p = p.0
kept_out-done s e w done (NumbersSpent told) p = p.0
kept_out-done s e w done (Memory told) p = p.0
kept_out-done s e w done _ p = absurd p

-- ---- what is found

pub look_finished : (o : Option InFlight) (p : Option Numbered) (b : Numbered) → look_by o p ≡ finished b → (o ≡ None) × (p ≡ Some b)
look_finished (Some f) p b e = absurd cc
look_finished None (Some c) b e = (refl, let same : c ≡ b = cc in ap (λ (x : Numbered). Some x) same)
look_finished None None b e = absurd cc

pub look_flight : (o : Option InFlight) (p : Option Numbered) (f : InFlight) → look_by o p ≡ in_flight f → o ≡ Some f
look_flight (Some g) p f e = let same : g ≡ f = cc in ap (λ (x : InFlight). Some x) same
look_flight None (Some c) f e = absurd cc
look_flight None None f e = absurd cc

pub look_absent : (o : Option InFlight) (p : Option Numbered) → look_by o p ≡ absent → (o ≡ None) × (p ≡ None)
look_absent (Some f) p e = absurd cc
look_absent None (Some c) e = absurd cc
look_absent None None e = (refl, refl)

abbrev use_of : Entry → Body → List (Change Kept)
use_of e b = uses (alone e) (weight_for b) ∷ []

-- what a hit changes: its entry is used
pub hit_uses : (e : Entry) (b : Numbered) (changes : Changes Kept) → IsOrderly changes → Shows (stored_key e) b changes
    → hit_changes e (body_now (stored_key e) changes) changes ≡ uses (alone e) (weight_for b.body) ∷ []
hit_uses e b changes o x =
    ap (λ (w : Option (Write Kept)). hit_changes e w changes) (body_now-of (stored_key e) changes x.write o x.body) ∙ ap (λ (p : Body). use_of e p) x.tells

-- ---- a write in flight in a state

pub record FlightAt (w : Write Kept) (fs : List InFlight) (changes : Changes Kept) : Type 0 where
  pub flight : InFlight
  pub at : flying_at w.number fs ≡ Some flight
  pub bytes : flight.bytes ≡ bytes_of w.number changes
  pub meta : flight.meta ≡ (meta_of w changes).meta
  pub ended : flight.ended ≡ has_ended w.number changes
  pub alive : (flight.removed ≡ false) ↔ IsAlive w changes

pub flight-at : (N n : ℕ) (bodies : Bodies) (fs : List InFlight) (m : Managed) (changes : Changes Kept) → Leaves N n bodies fs m changes → (w : Write Kept) → IsInFlight w changes
    → FlightAt w fs changes
flight-at N n bodies fs m changes l w flies =
    let known = life-flies w changes l.orderly flies in
    let there = flying_at-is w.number changes l.orderly ∙ ap (flying_of changes) known.1 in
    let tells = flying-tells w.number changes (flight w known.0 changes) l.orderly there in
    record {
      flight = plain (flight w known.0 changes);
      at = ap (find (has_number w.number)) l.flights ∙ find-plain (held_number w.number) (has_number w.number) (store_of changes).flying (λ f. refl) ∙ ap (option_map plain) there;
      bytes = refl;
      meta = refl;
      ended = refl;
      alive = tells.1.alive;
    }

-- ---- what a state says of an open request

pub record IsOpen (start : Opening) (id : ℕ) (q : Request) (h : History) : Type 0 where
  pub key : opened_for id h ≡ Some (key_of q.entry)
  pub entry : q.entry ≡ alone (key_of q.entry)
  pub seen : q.seen ≡ option_map plain_seen (seen_by start id h)
  pub write : q.write ≡ option_map (λ w. w.number) (write_held start id h)

-- the meta of what it has seen
pub seen_alone : (o : Option Seen) (x : Option (Stored Kept)) → o ≡ option_map plain_seen x → option_map (λ y. y.meta) o ≡ option_map (λ y. y.meta.meta) x
seen_alone o x e = ap (option_map (λ (y : Seen). y.meta)) e ∙ twice x
  where
    twice : (x : Option (Stored Kept)) → option_map (λ (y : Seen). y.meta) (option_map plain_seen x) ≡ option_map (λ y. y.meta.meta) x
    twice None = refl
    twice (Some y) = refl

-- the write that it begins
pub begun-is : (start : Opening) (id : ℕ) (q : Request) (h : History) (c : Call) → IsOpen start id q h → (meta : CacheMeta) → judged_of c ≡ Some (kept meta)
    → begun_by start id c h ≡ Some (record { number = writes_begun start h; key = stored_key (key_of q.entry); meta = record { entry = alone (key_of q.entry); meta = meta_for q meta } })
begun-is start id q h c opens meta is =
    ap (λ (e : Option Entry). write_begun (writes_begun start h) e (seen_by start id h) (judged_of c)) opens.key
    ∙ ap (write_begun (writes_begun start h) (Some (key_of q.entry)) (seen_by start id h)) is
    ∙ ap (λ (o : Option CacheMeta). Some (record { number = writes_begun start h; key = stored_key (key_of q.entry); meta = record { entry = alone (key_of q.entry); meta = with_provenance_of o meta } }))
    (sym (seen_alone q.seen (seen_by start id h) opens.seen))

-- the write of a request that has one
pub record Written (start : Opening) (id : ℕ) (q : Request) (h : History) : Type 0 where
  pub write : Write Kept
  pub held : write_held start id h ≡ Some write
  pub number : q.write ≡ Some write.number
  pub flies : IsInFlight write (changes_of start h)
  pub of_key : write.key ≡ stored_key (key_of q.entry)
  pub of_entry : write.meta.entry ≡ q.entry

number_some : (o : Option (Write Kept)) (n : ℕ) → option_map (λ w. w.number) o ≡ Some n → (w : Write Kept) × (o ≡ Some w)
number_some None n e = absurd cc
number_some (Some w) n e = (w, refl)

number_none : (o : Option (Write Kept)) → option_map (λ w. w.number) o ≡ None → o ≡ None
number_none None e = refl
number_none (Some w) e = absurd cc

pub the-write : (start : Opening) (id : ℕ) (q : Request) (h : History) → IsOpen start id q h → WritesFit start h → (n : ℕ) → q.write ≡ Some n → Written start id q h
the-write start id q h opens fits n e =
    let w = number_some (write_held start id h) n (sym opens.write ∙ e) in
    let is : IsWriteOf start w.0 (Some (key_of q.entry)) (changes_of start h) = subst (λ (o : Option Entry). IsWriteOf start w.0 o (changes_of start h)) opens.key (fits.each id w.0 w.1) in
    record { write = w.0; held = w.1; number = opens.write ∙ ap (option_map (λ v. v.number)) w.1; flies = is.0; of_key = is.1; of_entry = is.2 ∙ sym opens.entry }

pub no-write : (start : Opening) (id : ℕ) (q : Request) (h : History) → IsOpen start id q h → q.write ≡ None → write_held start id h ≡ None
no-write start id q h opens e = number_none (write_held start id h) (sym opens.write ∙ e)

-- the body that a finish finishes is that of its write, where it is alive
pub finishing-is : (start : Opening) (id : ℕ) (q : Request) (h : History) (shelf : Shelf) (x : Written start id q h) (f : FlightAt x.write shelf.flying (changes_of start h))
    → finishing q shelf ≡ cond f.flight.removed None (Some (finished_of (changes_of start h) x.write))
finishing-is start id q h shelf x f =
    ap (λ (n : Option ℕ). body_under q.entry (flight_of n shelf)) x.number ∙ ap (body_under q.entry) f.at
    ∙ ap (λ (e : CacheEntryKey). cond f.flight.removed None (Some (record { entry = key_of e; body = record { bytes = f.flight.bytes; meta = f.flight.meta } }))) (sym x.of_entry)
    ∙ ap (λ (bytes : List ℕ). cond f.flight.removed None (Some (record { entry = key_of x.write.meta.entry; body = record { bytes = bytes; meta = f.flight.meta } }))) f.bytes
    ∙ ap (λ (meta : CacheMeta). cond f.flight.removed None (Some (record { entry = key_of x.write.meta.entry; body = record { bytes = bytes_of x.write.number (changes_of start h); meta = meta } }))) f.meta

-- an open request of a check that passed
pub passed : (o : Option Request) (check : Request → Option TierFault) → unless_open o check ≡ None → (q : Request) × (o ≡ Some q) × (check q ≡ None)
passed None check e = absurd cc
passed (Some q) check e = (q, refl, e)

pub test_passed : (v : Bool) (f : TierFault) → unless v f ≡ None → v ≡ true
test_passed true f e = refl
test_passed false f e = absurd cc

pub not_false : (v : Bool) → not v ≡ true → v ≡ false
not_false true e = absurd cc
not_false false e = refl

-- no check failed where there is an answer
pub unrefused : (s : State) (o : Option TierFault) (t : MomentValue) (action : Action) (c : Call) (a : Answer) → refusal s action ≡ o → AllowsBy o s t action c (Ok a)
    → (refusal s action ≡ None) × IsAnswer s t action c a
unrefused s (Some g) t action c a e p = absurd cc
unrefused s None t action c a e p = (e, p)
