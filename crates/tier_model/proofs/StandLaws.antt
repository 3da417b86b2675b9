-- The state after a lawful history stands for it.
use Rattle.std.proofs.Common.{◌≡◌, ℕ, ◌<◌, refl, ap, sym, ◌∙◌, subst, [], ◌∷◌, arith}
use Rattle.std.specs.Prelude.{◌≤◌, List, Option, Some, None, Ok, Err, is_some, not, IfSome, map}
use Rattle.std.specs.FinMap.{get, get-empty, empty, entries, len-entries, len-empty}
use Rattle.std.specs.Cmp.Lexicographic.{slice_cmp}
use Rattle.std.specs.Ordering.{nat_cmp}
use Rattle.cache_words.specs.Time.{MomentValue}
use Rattle.cache_entries.specs.declared.rows.Tracked.{Tracked}
use Rattle.cache_entries.specs.Rows.{AreDistinct}
use Rattle.cache_changes.specs.Changes.{Write, Changes, admits}
use Rattle.cache_changes.specs.Writes.{IsOrderly, IsBody}
use Rattle.cache_changes.specs.Uses.{AreShardsOf, admissions}
use Rattle.cache_changes.specs.Bound.{TracksBodies, AreWithin}
use Rattle.cache_changes.proofs.UseLaws.{rows_of-admissions}
use Rattle.cache_evict.specs.Managed.{Managed, fresh}
use Rattle.tier_model.specs.declared.event.Action.{Action}
use Rattle.tier_model.specs.declared.event.Action.TheVariants.{Open, Drop}
use Rattle.tier_model.specs.declared.event.Answer.{Answer}
use Rattle.tier_model.specs.declared.event.TierFault.{TierFault}
use Rattle.tier_model.specs.declared.event.TierFault.TheVariants.{IdInUse}
use Rattle.tier_model.specs.Calls.{Call, History, Outcome, writes_after}
use Rattle.tier_model.specs.Histories.{Kept, Opening, counts, writes_begun, changes_of}
use Rattle.tier_model.specs.State.{Request, State, shards_of}
use Rattle.tier_model.specs.Shelf.{Readers}
use Rattle.tier_model.specs.Checks.{refusal, unless}
use Rattle.tier_model.specs.Step.{IsAnswer, AllowsBy, Allows}
use Rattle.tier_model.specs.After.{after}
use Rattle.tier_model.specs.Past.{in_shards, loaded_of, state_of, IsLawful, streams, streamers}
use Rattle.tier_model.proofs.RowSteps.{IsMade, in_shards-are}
use Rattle.tier_model.proofs.ChangeLaws.{Leaves, leaves-later, unbound}
use Rattle.tier_model.proofs.ShownLaws.{is_held}
use Rattle.tier_model.proofs.StepLaws.{made-after}
use Rattle.tier_model.proofs.BoundLaws.{Keeps}
use Rattle.tier_model.proofs.CallLaws.{Inside, call_at}
use Rattle.tier_model.proofs.WriteLaws.{WritesFit, IsPlain, WritesFit-after}
use Rattle.tier_model.proofs.OpenLaws.{Holds, IsOpen, unrefused}
use Rattle.tier_model.proofs.EventLaws.{Holds-after}
use Rattle.tier_model.proofs.OwnLaws.{OpenFits-after}
use Rattle.tier_model.proofs.OwnTurns.{OpenFits}
use Rattle.tier_model.proofs.ReaderLaws.{CountFits}
use Rattle.tier_model.proofs.StreamLaws.{Counted}
use Rattle.tier_model.proofs.StreamEvents.{Counted-after}
use Rattle.tier_model.proofs.ReadLaws.{ReadsFit}
use Rattle.tier_model.proofs.ReadEvents.{ReadsFit-after}
use Rattle.std.proofs.lemmas.List.{nil_from_length}
use Rattle.std.specs.List.{sum_by}
use Rattle.tier_model.proofs.CountLaws.{Tallies}
use Rattle.tier_model.proofs.ReportLaws.{Tallies-after}

none_past : (mark : Option ℕ) → IfSome mark (λ b. 0 ≤ b)
none_past None = tt
none_past (Some bound) = omega arith

-- where no body is held no write is one
none_held : (N n : ℕ) (m : Managed) (changes : Changes Kept) → Leaves N n empty [] m changes → (w : Write Kept) → IsBody w.key w changes → ⊥
none_held N n m changes l w i =
    let x = is_held N n empty [] m changes l w.key w i in
    let there : None ≡ Some x.0 = sym (get-empty (slice_cmp nat_cmp) w.key) ∙ x.1 in
    absurd cc

none_within : (N n : ℕ) (m : Managed) (changes : Changes Kept) → Leaves N n empty [] m changes → AreWithin counts m.limit m.watermark changes
none_within N n m changes l [] d all = (omega arith, none_past m.watermark)
none_within N n m changes l (w ∷ ws) d all = absurd (none_held N n m changes l w all.0)

-- an order of use that was loaded, in other shards
abbrev in_shards_of : (N : ℕ) (m : Managed) (rows : List Tracked) → Managed
in_shards_of N m rows = record m { shards = in_shards N rows }

loaded : (N : ℕ) (m : Managed) (rows : List Tracked) → 0 < N → AreDistinct rows → Leaves N 0 empty [] (in_shards_of N m rows) (admissions rows)
loaded N m [] pos d =
    record { orderly = tt; below = tt; flights = refl; bodies = λ k. get-empty (slice_cmp nat_cmp) k; some = pos; rows = in_shards-are N []; lawful = tt; tracks = tt; settled = refl }
loaded N m (r ∷ rows) pos d =
    let l : Leaves N 0 empty [] (in_shards_of N m rows) (admissions rows) = loaded N m rows pos d.1 in
    record {
      orderly = (tt, l.orderly);
      below = (tt, l.below);
      flights = l.flights;
      bodies = l.bodies;
      some = pos;
      rows = subst (λ (x : List Tracked). AreShardsOf N (in_shards N (r ∷ rows)) x) (sym (rows_of-admissions Kept (r ∷ rows) d)) (in_shards-are N (r ∷ rows));
      lawful = l.lawful;
      tracks = (unbound (admits r.entry r.weight) (admissions rows) l.settled, λ w t i. absurd (none_held N 0 (in_shards_of N m rows) (admissions rows) l w i), l.tracks);
      settled = refl;
    }

made-loaded : (start : Opening) → IsMade start.settings (loaded_of start)
made-loaded start = record { shards = (in_shards-are start.settings.shards start.loaded).count; limit = refl; watermark = refl }

opened : (start : Opening) → 0 < start.settings.shards → AreDistinct start.loaded → Holds start (state_of start []) []
opened start pos d =
    let N : ℕ = start.settings.shards in
    let none : Leaves N 0 empty [] (loaded_of start) (admissions start.loaded) = loaded N (fresh N start.settings.limit start.settings.watermark) start.loaded pos d in
    let l : Leaves N start.first empty [] (loaded_of start) (admissions start.loaded) = leaves-later N 0 start.first empty [] (loaded_of start) (admissions start.loaded) (omega arith) none in
    subst (λ (n : ℕ). Keeps n start.first empty [] (loaded_of start) (admissions start.loaded)) (sym (made-loaded start).shards)
    (record { leaves = l; within = none_within N start.first (loaded_of start) (admissions start.loaded) l })

-- no request is open
no_request : (start : Opening) (id : ℕ) → OpenFits start id (get (state_of start []).requests id) []
no_request start id = subst (λ (o : Option Request). OpenFits start id o []) (sym (get-empty nat_cmp id)) refl

-- what a state is to the history after it
pub record Stands (start : Opening) (s : State) (h : History) : Type 0 where
  pub made : IsMade start.settings s.managed
  pub holds : Holds start s h
  pub opens : (id : ℕ) → OpenFits start id (get s.requests id) h
  pub writes : WritesFit start h
  pub count : s.shelf.writes ≡ writes_begun start h
  pub tallies : Tallies s h
  pub counted : Counted s (changes_of start h)
  pub reads : (id : ℕ) → ReadsFit start id (get s.requests id) h

module _ (start : Opening) (s : State) (h : History) (past : Stands start s h) where
  was_closed : (o : Option Request) → unless (not (is_some o)) IdInUse ≡ None → o ≡ None
  was_closed None e = refl
  was_closed (Some q) e = absurd cc

  -- a request is opened where none is open, and dropped for good
  plain_answer : (t : MomentValue) (action : Action) (c : Call) (a : Answer) → refusal s action ≡ None → IsAnswer s t action c a → IsPlain start action (Ok a) h
  plain_answer t (Open r key asks) c a n p = subst (λ (o : Option Request). OpenFits start r o h) (was_closed (get s.requests r) n) (past.opens r)
  plain_answer t (Drop r) c a n p = p
  plain_answer t _ c a n p = tt

  plain_fault : (action : Action) (f : TierFault) → IsPlain start action (Err f) h
  plain_fault (Open r key asks) f = tt
  plain_fault (Drop r) f = tt
  plain_fault _ f = tt

  is-plain : (c : Call) → Allows s c → IsPlain start c.event.action c.outcome h
  is-plain c p = by_outcome c.outcome p.outcome
    where
      i : Inside
      i = record { reading = c.reading; began = c.began; asked = c.asked }

      by_outcome : (o : Outcome) → AllowsBy (refusal s c.event.action) s c.event.moment c.event.action (call_at c.event.moment c.event.action i o) o → IsPlain start c.event.action o h
      by_outcome (Ok a) p =
          let q = unrefused s (refusal s c.event.action) c.event.moment c.event.action (call_at c.event.moment c.event.action i (Ok a)) a refl p in
          plain_answer c.event.moment c.event.action (call_at c.event.moment c.event.action i (Ok a)) a q.0 q.1
      by_outcome (Err f) p = plain_fault c.event.action f

  pub opened_request : (r : ℕ) (q : Request) → get s.requests r ≡ Some q → IsOpen start r q h
  opened_request r q e = (subst (λ (o : Option Request). OpenFits start r o h) e (past.opens r)).0

  Holds-next : (c : Call) → Allows s c → Holds start (after s c) (c ∷ h)
  Holds-next c p = kept (shards_of (after s c)) shards (Holds-after start s h past.holds past.count opened_request past.writes c p)
    where
      shards : shards_of (after s c) ≡ shards_of s
      shards = (made-after s c (record { shards = shards_of s; limit = s.managed.limit; watermark = s.managed.watermark; age = start.settings.age; wait = s.wait }) (record { shards = refl; limit = refl; watermark = refl })).shards

      kept : (n : ℕ) → n ≡ shards_of s → Keeps (shards_of s) (writes_begun start (c ∷ h)) (after s c).shelf.bodies (after s c).shelf.flying (after s c).managed (changes_of start (c ∷ h))
          → Keeps n (writes_begun start (c ∷ h)) (after s c).shelf.bodies (after s c).shelf.flying (after s c).managed (changes_of start (c ∷ h))
      kept n e l = subst (λ (x : ℕ). Keeps x (writes_begun start (c ∷ h)) (after s c).shelf.bodies (after s c).shelf.flying (after s c).managed (changes_of start (c ∷ h))) (sym e) l

-- nothing is streamed
none_streams : (n : ℕ) → streamers n (empty {X = Request} {R = nat_cmp}) ≡ 0
none_streams n = ap (λ (l : List (ℕ × Request)). sum_by (streams n) (map (λ e. e.1) l)) (nil_from_length (entries (empty {X = Request} {R = nat_cmp})) (sym (len-entries (empty {X = Request} {R = nat_cmp})) ∙ len-empty nat_cmp Request))

-- the state after a lawful history stands for it
pub Stands-lawful : (start : Opening) (h : History) → IsLawful start h → Stands start (state_of start h) h
Stands-lawful start [] l = record {
  made = made-loaded start;
  holds = opened start l.0 l.1;
  opens = no_request start;
  writes = record { each = λ id w e. absurd cc; apart = λ i j v w e f same. absurd cc };
  count = refl;
  tallies = record { found = omega arith; absent = omega arith; evicted = omega arith };
  counted = λ n. subst (λ (o : Option Readers). CountFits n o (streamers n (state_of start []).requests) (changes_of start [])) (sym (get-empty nat_cmp n)) (none_streams n);
  reads = λ id. subst (λ (o : Option Request). ReadsFit start id o []) (sym (get-empty nat_cmp id)) tt;
}
Stands-lawful start (c ∷ h) l =
    let past : Stands start (state_of start h) h = Stands-lawful start h l.1 in
    record {
      made = made-after (state_of start h) c start.settings past.made;
      holds = Holds-next start (state_of start h) h past c l.0;
      opens = OpenFits-after start (state_of start h) c h past.holds past.count past.writes past.opens l.0;
      writes = WritesFit-after start c.event.moment (record { reading = c.reading; began = c.began; asked = c.asked }) h past.writes past.holds.leaves.below c.event.action c.outcome (is-plain start (state_of start h) h past c l.0);
      count = ap (λ (n : ℕ). writes_after n c.began) past.count;
      tallies = Tallies-after (state_of start h) c h l.0 past.tallies;
      counted = Counted-after start (state_of start h) h past.holds (opened_request start (state_of start h) h past) past.writes past.counted past.count c l.0 (Holds-next start (state_of start h) h past c l.0).leaves.orderly;
      reads = ReadsFit-after start (state_of start h) h past.holds past.count (opened_request start (state_of start h) h past) past.counted past.reads c l.0;
    }

pub IsOrderly-lawful : (start : Opening) (h : History) → IsLawful start h → IsOrderly (changes_of start h)
IsOrderly-lawful start h l = (Stands-lawful start h l).holds.leaves.orderly

pub TracksBodies-lawful : (start : Opening) (h : History) → IsLawful start h → TracksBodies counts (changes_of start h)
TracksBodies-lawful start h l = (Stands-lawful start h l).holds.leaves.tracks
