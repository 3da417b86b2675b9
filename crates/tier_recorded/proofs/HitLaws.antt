-- The calls of a hit.
use Rattle.std.proofs.Common.{◌≡◌, ℕ, ◌+◌, ◌≤◌, ◌++◌, List, [], ◌∷◌, length, set, Bool, true, false, Some, None, Option, Ok, Err, refl, ap, sym, subst, cond, ◌∙◌, arith}
use Rattle.std.specs.Prelude.{Result}
use Rattle.std.proofs.lemmas.List.{append-nil, append_assoc, set-get_or}
use Rattle.rand_core.specs.Stream.{Stream}
use Rattle.cache_words.specs.Time.{MomentValue}
use Rattle.cache_words.specs.Key.{CacheKeyValue}
use Rattle.tier_model.specs.declared.event.Action.TheVariants.{Open, LookUp, Read, Drop}
use Rattle.tier_model.specs.declared.event.Answer.TheVariants.{Opened, Found, Bytes, Dropped}
use Rattle.tier_model.specs.declared.event.Event.{Event}
use Rattle.tier_model.specs.declared.event.LockGiven.TheVariants as given
use Rattle.tier_model.specs.declared.event.TierFault.{TierFault}
use Rattle.tier_model.specs.declared.event.TierFault.TheVariants.{NoRecord}
use Rattle.tier_model.specs.Calls.{Call, Outcome, AreCallsOf}
use Rattle.tier_model.specs.State.{State}
use Rattle.tier_model.specs.Past.{AreTaken}
use Rattle.tier_model.specs.After.{after}
use Rattle.tier_promise.specs.Promise.{Whether}
use Rattle.tier_single.specs.declared.found.Hit.{Hit}
use Rattle.tier_single.specs.Draws.{AreAllDrawn}
use Rattle.tier_single.specs.Hits.{is_of_open, at_moment, MatchHit, HitTakes}
use Rattle.tier_single.specs.Takes.{Takes}
use Rattle.tier_single.proofs.RunLaws.{Takes-none, Takes-step}
use Rattle.tier_recorded.specs.declared.history.CallerRecord.{CallerRecord}
use Rattle.tier_recorded.specs.declared.history.Record.{Record}
use Rattle.tier_recorded.specs.declared.history.Seat.{Seat}
use Rattle.tier_recorded.specs.declared.hits.HitNotes.{HitNotes}
use Rattle.tier_recorded.specs.Histories.{owns}
use Rattle.tier_recorded.specs.Hits.{MatchMade, fault_notes, hit_calls, hit_events, hit_notes, kept_all, kept_all_own, last_turn, made_all}
use Rattle.tier_recorded.specs.Recorded.{RecordedState, AppendsAll, KeepsAll, records_by}
use Rattle.tier_recorded.specs.Seats.{IsTurn, stranger}
use Rattle.tier_recorded.proofs.ToldLaws.{told}

-- what comes of a hit's calls
abbrev pub outcomes_made : Result (Option Hit) TierFault → List Outcome
outcomes_made (Ok (Some h)) = Ok Opened ∷ Ok (Found true true given.None) ∷ Ok (Bytes h.body) ∷ Ok Dropped ∷ []
outcomes_made (Ok None) = []
outcomes_made (Err f) = cond (is_of_open f) (Err f ∷ []) (Ok Opened ∷ Err f ∷ Ok Dropped ∷ [])

pub made-told : (o : Result (Option Hit) TierFault) (P Q : Type 0) → (o ≡ Err NoRecord → ⊥) → Q → MatchMade o P Q
made-told (Ok r) P Q told q = q
made-told (Err NoRecord) P Q told q = absurd (told refl)
made-told (Err _) P Q told q = q

pub most-calls : (o : Result (Option Hit) TierFault) → hit_calls o ≤ 4
most-calls (Ok (Some h)) = omega arith
most-calls (Ok None) = omega arith
most-calls (Err f) = by_fault (is_of_open f)
  where
    by_fault : (v : Bool) → cond v 1 3 ≤ 4
    by_fault true = omega arith
    by_fault false = omega arith

-- ---- numbers

pub made-calls : (o : Result (Option Hit) TierFault) → made_all (hit_notes o) ≡ hit_calls o
made-calls (Ok (Some h)) = refl
made-calls (Ok None) = refl
made-calls (Err f) = by_fault (is_of_open f)
  where
    by_fault : (v : Bool) → made_all (fault_notes v f) ≡ cond v 1 3
    by_fault true = refl
    by_fault false = refl

pub last-turn : (turn : ℕ) (o : Result (Option Hit) TierFault) → last_turn turn (hit_notes o) ≡ turn + hit_calls o
last-turn turn (Ok (Some h)) = omega arith
last-turn turn (Ok None) = omega arith
last-turn turn (Err f) = by_fault (is_of_open f)
  where
    by_fault : (v : Bool) → last_turn turn (fault_notes v f) ≡ turn + cond v 1 3
    by_fault true = omega arith
    by_fault false = omega arith

-- ---- four pieces behind a list

four : {A : Type 0} (l a b c d : List A) → l ++ a ++ b ++ c ++ d ≡ l ++ (a ++ (b ++ (c ++ d)))
four l a b c d = append_assoc (l ++ a ++ b) c d ∙ append_assoc (l ++ a) b (c ++ d) ∙ append_assoc l a (b ++ (c ++ d))

module _ (t : MomentValue) (id : ℕ) (key : CacheKeyValue) where
  -- the events of a hit's calls
  abbrev pub events_made : Result (Option Hit) TierFault → List Event
  events_made (Ok (Some h)) = at_moment t (Open id key false) ∷ at_moment t (LookUp id) ∷ at_moment t (Read id) ∷ at_moment t (Drop id) ∷ []
  events_made (Ok None) = []
  events_made (Err f) = cond (is_of_open f) (at_moment t (Open id key false) ∷ []) (at_moment t (Open id key false) ∷ at_moment t (LookUp id) ∷ at_moment t (Drop id) ∷ [])

  -- they were taken
  pub takes-hit : (old : State) (s : Stream) (o : Result (Option Hit) TierFault) (new : State) → HitTakes old s t id key o new → Takes old s (events_made o) (outcomes_made o) new s
  takes-hit old s (Ok (Some h)) new takes = takes
  takes-hit old s (Ok None) new same = subst (λ (x : State). Takes old s [] [] x s) (sym same) (Takes-none old s)
  takes-hit old s (Err f) new takes = by_fault (is_of_open f) takes
    where
      by_fault : (v : Bool) → Whether v (Takes old s (at_moment t (Open id key false) ∷ []) (Err f ∷ []) new s)
          (Takes old s (at_moment t (Open id key false) ∷ at_moment t (LookUp id) ∷ at_moment t (Drop id) ∷ []) (Ok Opened ∷ Err f ∷ Ok Dropped ∷ []) new s)
          → Takes old s (cond v (at_moment t (Open id key false) ∷ []) (at_moment t (Open id key false) ∷ at_moment t (LookUp id) ∷ at_moment t (Drop id) ∷ []))
          (cond v (Err f ∷ []) (Ok Opened ∷ Err f ∷ Ok Dropped ∷ [])) new s
      by_fault true takes = takes
      by_fault false takes = takes

  -- what holds of them, and of none where there were none
  pub match-hit : (o : Result (Option Hit) TierFault) (P : List Event → List Outcome → Type 0) (Q : Type 0) → P (events_made o) (outcomes_made o) → (P [] [] → Q) → MatchHit t id key o P Q
  match-hit (Ok (Some h)) P Q p q = p
  match-hit (Ok None) P Q p q = q p
  match-hit (Err f) P Q p q = by_fault (is_of_open f) p
    where
      by_fault : (v : Bool)
          → P (cond v (at_moment t (Open id key false) ∷ []) (at_moment t (Open id key false) ∷ at_moment t (LookUp id) ∷ at_moment t (Drop id) ∷ [])) (cond v (Err f ∷ []) (Ok Opened ∷ Err f ∷ Ok Dropped ∷ []))
          → Whether v (P (at_moment t (Open id key false) ∷ []) (Err f ∷ [])) (P (at_moment t (Open id key false) ∷ at_moment t (LookUp id) ∷ at_moment t (Drop id) ∷ []) (Ok Opened ∷ Err f ∷ Ok Dropped ∷ []))
      by_fault true p = p
      by_fault false p = p

  pub calls-hit : (o : Result (Option Hit) TierFault) → length (events_made o) ≡ hit_calls o
  calls-hit (Ok (Some h)) = refl
  calls-hit (Ok None) = refl
  calls-hit (Err f) = by_fault (is_of_open f)
    where
      by_fault : (v : Bool) → length (cond v (at_moment t (Open id key false) ∷ []) (at_moment t (Open id key false) ∷ at_moment t (LookUp id) ∷ at_moment t (Drop id) ∷ [])) ≡ cond v 1 3
      by_fault true = refl
      by_fault false = refl

  pub owns-hit : (o : Result (Option Hit) TierFault) → length (owns (events_made o) (outcomes_made o)) ≡ hit_calls o
  owns-hit (Ok (Some h)) = refl
  owns-hit (Ok None) = refl
  owns-hit (Err f) = by_fault (is_of_open f)
    where
      by_fault : (v : Bool)
          → length (owns (cond v (at_moment t (Open id key false) ∷ []) (at_moment t (Open id key false) ∷ at_moment t (LookUp id) ∷ at_moment t (Drop id) ∷ [])) (cond v (Err f ∷ []) (Ok Opened ∷ Err f ∷ Ok Dropped ∷ [])))
          ≡ cond v 1 3
      by_fault true = refl
      by_fault false = refl

  -- their records in a history, and in a pass
  pub kept-hit : (h : List Record) (c turn : ℕ) (o : Result (Option Hit) TierFault) → kept_all h c turn (hit_events t id key) (hit_notes o) ≡ h ++ records_by c turn (owns (events_made o) (outcomes_made o))
  kept-hit h c turn (Ok (Some x)) = four h _ _ _ _
  kept-hit h c turn (Ok None) = four h [] [] [] []
  kept-hit h c turn (Err f) = by_fault (is_of_open f)
    where
      by_fault : (v : Bool) → kept_all h c turn (hit_events t id key) (fault_notes v f)
          ≡ h ++ records_by c turn
          (owns (cond v (at_moment t (Open id key false) ∷ []) (at_moment t (Open id key false) ∷ at_moment t (LookUp id) ∷ at_moment t (Drop id) ∷ [])) (cond v (Err f ∷ []) (Ok Opened ∷ Err f ∷ Ok Dropped ∷ [])))
      by_fault true = four h _ [] [] []
      by_fault false = four h _ _ [] _

  pub kept_own-hit : (l : List CallerRecord) (o : Result (Option Hit) TierFault) → kept_all_own l (hit_events t id key) (hit_notes o) ≡ l ++ owns (events_made o) (outcomes_made o)
  kept_own-hit l (Ok (Some x)) = four l _ _ _ _
  kept_own-hit l (Ok None) = four l [] [] [] []
  kept_own-hit l (Err f) = by_fault (is_of_open f)
    where
      by_fault : (v : Bool) → kept_all_own l (hit_events t id key) (fault_notes v f)
          ≡ l ++ owns (cond v (at_moment t (Open id key false) ∷ []) (at_moment t (Open id key false) ∷ at_moment t (LookUp id) ∷ at_moment t (Drop id) ∷ [])) (cond v (Err f ∷ []) (Ok Opened ∷ Err f ∷ Ok Dropped ∷ []))
      by_fault true = four l _ [] [] []
      by_fault false = four l _ _ [] _

  -- the tier and the history after them
  pub recorded-hit : {R : Type 0} (old new : RecordedState R) (s : Stream) (c turn : ℕ) (o : Result (Option Hit) TierFault) → HitTakes old.tier s t id key o new.tier → IsTurn old.seats c turn
      → new ≡ record old {
        tier = new.tier;
        history = old.history ++ records_by c turn (owns (events_made o) (outcomes_made o));
        seats = set old.seats c (record { records = turn + hit_calls o; is_gathered = false });
        room = new.room;
      }
      → old.room ≤ new.room + hit_calls o
      → MatchHit t id key o (λ (es : List Event) (os : List Outcome). AppendsAll old s c turn es os new s) (KeepsAll old new)
  recorded-hit {R} old new s c turn (Ok (Some h)) takes is same room = record {
    takes = takes;
    history = ap (λ (x : RecordedState R). x.history) same;
    is_turn = is;
    seats = ap (λ (x : RecordedState R). x.seats) same;
    opening = ap (λ (x : RecordedState R). x.opening) same;
    gathered = ap (λ (x : RecordedState R). x.gathered) same;
    room = room;
  }
  recorded-hit {R} old new s c turn (Ok None) takes is same room =
      let none : turn + 0 ≡ turn = omega arith in
      let seats : set old.seats c (record { records = turn + 0; is_gathered = false }) ≡ old.seats =
      ap (λ (n : ℕ). set old.seats c (record { records = n; is_gathered = false })) none ∙ ap (λ (x : Seat). set old.seats c x) (sym is.1) ∙ set-get_or old.seats c stranger
      in
      record {
        same = same ∙ (λ i. record old { tier = takes i; history = append-nil old.history i; seats = seats i; room = new.room });
        room = omega (arith, room);
      }
  recorded-hit {R} old new s c turn (Err f) takes is same room = by_fault (is_of_open f) takes same room
    where
      by_fault : (v : Bool) → Whether v (Takes old.tier s (at_moment t (Open id key false) ∷ []) (Err f ∷ []) new.tier s)
          (Takes old.tier s (at_moment t (Open id key false) ∷ at_moment t (LookUp id) ∷ at_moment t (Drop id) ∷ []) (Ok Opened ∷ Err f ∷ Ok Dropped ∷ []) new.tier s)
          → new ≡ record old {
            tier = new.tier;
            history =
                old.history ++ records_by c turn
                (owns (cond v (at_moment t (Open id key false) ∷ []) (at_moment t (Open id key false) ∷ at_moment t (LookUp id) ∷ at_moment t (Drop id) ∷ []))
                (cond v (Err f ∷ []) (Ok Opened ∷ Err f ∷ Ok Dropped ∷ [])));
            seats = set old.seats c (record { records = turn + cond v 1 3; is_gathered = false });
            room = new.room;
          }
          → old.room ≤ new.room + cond v 1 3
          → Whether v (AppendsAll old s c turn (at_moment t (Open id key false) ∷ []) (Err f ∷ []) new s)
          (AppendsAll old s c turn (at_moment t (Open id key false) ∷ at_moment t (LookUp id) ∷ at_moment t (Drop id) ∷ []) (Ok Opened ∷ Err f ∷ Ok Dropped ∷ []) new s)
      by_fault true takes same room = record {
        takes = takes;
        history = ap (λ (x : RecordedState R). x.history) same;
        is_turn = is;
        seats = ap (λ (x : RecordedState R). x.seats) same;
        opening = ap (λ (x : RecordedState R). x.opening) same;
        gathered = ap (λ (x : RecordedState R). x.gathered) same;
        room = room;
      }
      by_fault false takes same room = record {
        takes = takes;
        history = ap (λ (x : RecordedState R). x.history) same;
        is_turn = is;
        seats = ap (λ (x : RecordedState R). x.seats) same;
        opening = ap (λ (x : RecordedState R). x.opening) same;
        gathered = ap (λ (x : RecordedState R). x.gathered) same;
        room = room;
      }

  -- no tier answers that it has no record
  told-hit : (old new : State) (s : Stream) → HitTakes old s t id key (Err NoRecord) new → ⊥
  told-hit old new s takes = by_calls takes.calls takes.are_of takes.taken takes.drawn
    where
      by_calls : (calls : List Call)
          → AreCallsOf (at_moment t (Open id key false) ∷ at_moment t (LookUp id) ∷ at_moment t (Drop id) ∷ []) (Ok Opened ∷ Err NoRecord ∷ Ok Dropped ∷ []) calls → AreTaken old calls new → AreAllDrawn old calls s s → ⊥
      by_calls (a ∷ b ∷ calls) are taken drawn =
          told (after old a) drawn.0 (at_moment t (LookUp id)) (Err NoRecord) (after (after old a) b) drawn.2.0
          (Takes-step (after old a) drawn.0 (at_moment t (LookUp id)) (Err NoRecord) (after (after old a) b) drawn.2.0 (b, are.2.0, are.2.1, taken.1.0, refl, drawn.2.1)) refl
      by_calls [] are taken drawn = absurd are
      by_calls (a ∷ []) are taken drawn = absurd are.2

  pub not-unrecorded : (old new : State) (s : Stream) (o : Result (Option Hit) TierFault) → HitTakes old s t id key o new → o ≡ Err NoRecord → ⊥
  not-unrecorded old new s o takes is = told-hit old new s (subst (λ (x : Result (Option Hit) TierFault). HitTakes old s t id key x new) is takes)

  pub made-hit : (old new : State) (s : Stream) (o : Result (Option Hit) TierFault) (P Q : Type 0) → HitTakes old s t id key o new → Q → MatchMade o P Q
  made-hit old new s o P Q takes q = made-told o P Q (not-unrecorded old new s o takes) q
