-- What a request is told at the end of what it reads: it has all bytes of a write, no more comes, and whether all of it came.
use Rattle.std.proofs.Common.{◌≡◌, ℕ, ◌+◌, refl, ap, sym, ◌∙◌, true, false, subst, cond, [], ◌∷◌, ◌++◌, ◌==◌, arith, inl, inr}
use Rattle.std.specs.Prelude.{◌≢◌, ◌↔◌, ◌||◌, ◌&&◌, Bool, List, Option, Some, None, is_some, option_and_then, find, Ok, MatchOption}
use Rattle.std.specs.FinMap.{get}
use Rattle.std.proofs.lemmas.Bool.{eqb-true}
use Rattle.cache_words.specs.Time.{MomentValue}
use Rattle.cache_changes.specs.Changes.{StoredKey, stored_key, Write, Changes, finishes}
use Rattle.cache_changes.specs.Writes.{bytes_of, has_ended, IsAliveInFlight, IsOrderly, IsBody}
use Rattle.cache_changes.proofs.WriteLaws.{Life, life, same_number}
use Rattle.cache_changes.proofs.BodyLaws.{flight_life, body_now-has, body_now-of, one_life}
use Rattle.cache_entries.specs.Entry.{key_of}
use Rattle.cache_lock.specs.State.{LockState, after_all}
use Rattle.tier_model.specs.declared.event.Action.{Action}
use Rattle.tier_model.specs.declared.event.Action.TheVariants.{LookUp, Read}
use Rattle.tier_model.specs.declared.event.Answer.TheVariants.{Found, End}
use Rattle.tier_model.specs.declared.event.LockGiven.{LockGiven}
use Rattle.tier_model.specs.declared.event.TierFault.TheVariants.{WrongPhase}
use Rattle.tier_model.specs.Keys.{Entry}
use Rattle.tier_model.specs.Calls.{Call, History, Outcome, writes_after, opened_for, is_hit, bytes_read}
use Rattle.tier_model.specs.Histories.{Kept, Opening, writes_begun, changes_of, HasHit}
use Rattle.tier_model.specs.Reads.{has_finished, IsWhole, IsOver, HasReadOut}
use Rattle.tier_model.specs.Rows.{Numbered}
use Rattle.tier_model.specs.Shelf.{Shelf, flies_for, Look, absent, in_flight, finished, readable, past_place, is_at_end, is_whole}
use Rattle.tier_model.specs.State.{Reader, closed, unread, spent, streaming, Request, State, shards_of}
use Rattle.tier_model.specs.Checks.{refusal, unless, has_reader}
use Rattle.tier_model.specs.Answers.{key_for, look_for, lock_given, look_answer, next_by, read_answer, whole_read, whole_told}
use Rattle.tier_model.specs.Step.{UseFits, AllowsBy}
use Rattle.tier_model.specs.After.{by_request, with_request, with_counts, read_on, lock_changes, after}
use Rattle.tier_model.specs.Past.{state_of, IsLawful, HasToRead, IsRequestOf, HasPast}
use Rattle.tier_model.proofs.CallLaws.{Inside, call_at, changes_at, itself, at-insert}
use Rattle.tier_model.proofs.ShownLaws.{none_in_flight}
use Rattle.tier_model.proofs.OpenLaws.{look_finished, passed, test_passed, unrefused}
use Rattle.tier_model.proofs.WholeLaws.{all_came, whole-came}
use Rattle.tier_model.proofs.ReaderLaws.{evolves}
use Rattle.tier_model.proofs.ReadLaws.{ahead}
use Rattle.tier_model.proofs.StandLaws.{opened_request, Stands-lawful, IsOrderly-lawful}
use Rattle.tier_model.proofs.Carried.{stands-past}

-- ---- at the end

pub told-at-end : (r : Reader) (shelf : Shelf) → (is_some (whole_read r shelf) ≡ true) ↔ ((r ≢ closed) × (read_answer r shelf ≡ End))
told-at-end closed shelf = (λ e. absurd cc, λ e. absurd (e.0 refl))
told-at-end (unread bytes) shelf = (λ e. absurd cc, λ e. let not_end = e.1 in absurd cc)
told-at-end spent shelf = (λ e. (λ same. absurd cc, refl), λ e. refl)
told-at-end (streaming n place) shelf = by_ahead (past_place place (readable n shelf)).0 (past_place place (readable n shelf)).1
  where
    by_ahead : (more : List ℕ) (over : Bool) → (is_some (cond (is_at_end (more, over)) (Some (is_whole n shelf)) None) ≡ true) ↔ ((streaming n place ≢ closed) × (next_by more over ≡ End))
    by_ahead [] true = (λ e. (λ same. absurd cc, refl), λ e. refl)
    by_ahead [] false = (λ e. absurd cc, λ e. let not_end = e.1 in absurd cc)
    by_ahead (b ∷ more) over = (λ e. absurd cc, λ e. let not_end = e.1 in absurd cc)

at_end : (more : List ℕ) (over all : Bool) (b : Bool) → cond (is_at_end (more, over)) (Some all) None ≡ Some b → (more ≡ []) × (over ≡ true) × (all ≡ b)
at_end [] true all b e = (refl, refl, cc)
at_end [] false all b e = absurd cc
at_end (x ∷ more) over all b e = absurd cc

append_nothing : (xs : List ℕ) → xs ++ [] ≡ xs
append_nothing [] = refl
append_nothing (x ∷ xs) = ap (λ (ys : List ℕ). x ∷ ys) (append_nothing xs)

-- ---- a write after its flight

-- it is in flight no more, and what came of it stays
pub record Landed (n : ℕ) (old new : Changes Kept) : Type 0 where
  pub now : Life Kept
  pub known : life n new ≡ Some now
  pub down : now.flies ≡ false
  pub bytes : bytes_of n new ≡ bytes_of n old
  pub came : all_came n new ≡ all_came n old

module _ (start : Opening) where
  lawful_before : (since before : History) → IsLawful start (since ++ before) → IsLawful start before
  lawful_before [] before l = l
  lawful_before (c ∷ since) before l = lawful_before since before l.1

  stays_landed : (n : ℕ) (since before : History) (x : Life Kept) → IsLawful start (since ++ before) → life n (changes_of start before) ≡ Some x → x.flies ≡ false
      → Landed n (changes_of start before) (changes_of start (since ++ before))
  stays_landed n [] before x l e f = record { now = x; known = e; down = f; bytes = refl; came = refl }
  stays_landed n (c ∷ since) before x l e f =
      let h : History = since ++ before in
      let rest = stays_landed n since before x l.1 e f in
      let step = evolves n (changes_at start c.event.action c.outcome c h (changes_of start h)) (changes_of start h) rest.now (IsOrderly-lawful start (c ∷ h) l) rest.known in
      let z = step.landed rest.down in
      record { now = step.now; known = step.known; down = z.0; bytes = z.1 ∙ rest.bytes; came = z.2 ∙ rest.came }

  -- no more comes to it
  over_landed : (n : ℕ) (changes : Changes Kept) (x : Life Kept) → IsOrderly changes → life n changes ≡ Some x → x.flies ≡ false → IsOver n changes
  over_landed n changes x o e f = inr (λ flying.
      let known = flight_life n changes o flying in
      let same = one_life x (record { write = known.0; flies = true; alive = known.1 }) (sym e ∙ known.2) in
      let flies : x.flies ≡ true = ap (λ (y : Life Kept). y.flies) same in
      absurd cc)

  finished_since : (w : Write Kept) (since before : Changes Kept) → has_finished w.number (since ++ finishes w ∷ before) ≡ true
  finished_since w [] before = ap (λ v. cond v true (has_finished w.number before)) (same_number w.number)
  finished_since w (finishes v ∷ since) before = by_test (v.number == w.number) (finished_since w since before)
    where
      by_test : (t : Bool) → has_finished w.number (since ++ finishes w ∷ before) ≡ true → cond t true (has_finished w.number (since ++ finishes w ∷ before)) ≡ true
      by_test true e = refl
      by_test false e = e
  finished_since w (_ ∷ since) before = finished_since w since before

  -- all of a body came
  body_came : (k : StoredKey) (w : Write Kept) (changes : Changes Kept) → IsBody k w changes → all_came w.number changes ≡ true
  body_came k w changes b =
      ap (λ v. has_ended w.number changes || v) (ap (has_finished w.number) b.split ∙ finished_since w b.since b.before) ∙ or_true (has_ended w.number changes)
    where
      or_true : (a : Bool) → (a || true) ≡ true
      or_true true = refl
      or_true false = refl

  -- ---- a hit

  both_true : (a b : Bool) → (a && b) ≡ true → (a ≡ true) × (b ≡ true)
  both_true true b e = (refl, e)
  both_true false b e = absurd cc

  found_whole : (t : MomentValue) (given : LockGiven) (l : Look) (fresh : Bool) (lock : LockGiven) → Found fresh true lock ≡ look_answer t given l → (b : Numbered) × (l ≡ finished b)
  found_whole t given absent fresh lock e = absurd cc
  found_whole t given (in_flight f) fresh lock e = let partly : true ≡ false = cc in absurd cc
  found_whole t given (finished b) fresh lock e = (b, refl)

  -- a request finds a body
  pub record FindsBody (s : State) (id : ℕ) : Type 0 where
    pub request : Request
    pub at : get s.requests id ≡ Some request
    pub body : Numbered
    pub finds : look_for request s.shelf ≡ finished body

  look_finds : (s : State) (id k : ℕ) (t : MomentValue) (o : Option Request) (fresh complete : Bool) (lock : LockGiven) → get s.requests k ≡ o → (k == id) ≡ true → complete ≡ true
      → MatchOption o ⊥ (λ q. (Found fresh complete lock ≡ look_answer t (lock_given t q (look_for q s.shelf) s.lock) (look_for q s.shelf)) × UseFits s q (look_for q s.shelf)) → FindsBody s id
  look_finds s id k t None fresh complete lock at same whole p = absurd p
  look_finds s id k t (Some q) fresh complete lock at same whole p =
      let x = found_whole t (lock_given t q (look_for q s.shelf) s.lock) (look_for q s.shelf) fresh lock (ap (λ (v : Bool). Found fresh v lock) (sym whole) ∙ p.0) in
      record { request = q; at = ap (get s.requests) (sym (eqb-true k id same)) ∙ at; body = x.0; finds = x.1 }

  hit_finds : (s : State) (id : ℕ) (t : MomentValue) (i : Inside) (action : Action) (o : Outcome) → is_hit id action o ≡ true
      → AllowsBy (refusal s action) s t action (call_at t action i o) o → FindsBody s id
  hit_finds s id t i (LookUp k) (Ok (Found fresh complete lock)) e p =
      let both = both_true (k == id) complete e in
      let row = unrefused s (refusal s (LookUp k)) t (LookUp k) (call_at t (LookUp k) i (Ok (Found fresh complete lock))) (Found fresh complete lock) refl p in
      look_finds s id k t (get s.requests k) fresh complete lock refl both.0 both.1 row.1
  hit_finds s id t i _ _ e p = absurd cc

  -- what a hit shows is a body
  hit_body : (id : ℕ) (w : Write Kept) (since h : History) (hit : HasHit start id w since h) → IsLawful start (hit.call ∷ hit.before) → IsBody (stored_key hit.entry) w (changes_of start hit.before)
  hit_body id w since h hit l =
      let s : State = state_of start hit.before in
      let past = Stands-lawful start hit.before l.1 in
      let i : Inside = record { reading = hit.call.reading; began = hit.call.began; asked = hit.call.asked } in
      let found = hit_finds s id hit.call.event.moment i hit.call.event.action hit.call.outcome hit.hit l.0.outcome in
      let k : StoredKey = key_for found.request in
      let none = look_finished (find (flies_for k) s.shelf.flying) (get s.shelf.bodies k) found.body found.finds in
      let opens = opened_request start s hit.before past id found.request found.at in
      let entry : hit.entry ≡ key_of found.request.entry = let both = sym hit.of_entry ∙ opens.key in cc in
      elim hit.shows [
        | inl first ↦ absurd (none_in_flight (shards_of s) (writes_begun start hit.before) s.shelf.bodies s.shelf.flying s.managed (changes_of start hit.before) past.holds.leaves k none.0 w
            (subst (λ (e : Entry). IsAliveInFlight (stored_key e) w (changes_of start hit.before)) entry first.flying))
        | inr body ↦ body.1
      ]

  -- and its write is in flight no more, then and later
  hit_landed : (id : ℕ) (w : Write Kept) (since h : History) → IsLawful start h → (hit : HasHit start id w since h)
      → Landed w.number (changes_of start hit.before) (changes_of start h) × (all_came w.number (changes_of start hit.before) ≡ true)
  hit_landed id w since h l hit =
      let all : IsLawful start (since ++ hit.call ∷ hit.before) = subst (IsLawful start) hit.split l in
      let then : IsLawful start (hit.call ∷ hit.before) = lawful_before since (hit.call ∷ hit.before) all in
      let changes : Changes Kept = changes_of start hit.before in
      let k : StoredKey = stored_key hit.entry in
      let o : IsOrderly changes = IsOrderly-lawful start hit.before then.1 in
      let body = hit_body id w since h hit then in
      let has = body_now-has k changes w o (body_now-of k changes w o body) in
      let a = stays_landed w.number (hit.call ∷ []) hit.before (record { write = w; flies = false; alive = true }) then has.lives refl in
      let b = stays_landed w.number since (hit.call ∷ hit.before) a.now all a.known a.down in
      let whole : Landed w.number changes (changes_of start (since ++ hit.call ∷ hit.before)) =
      record { now = b.now; known = b.known; down = b.down; bytes = b.bytes ∙ a.bytes; came = b.came ∙ a.came } in
      (subst (λ (past : History). Landed w.number changes (changes_of start past)) (sym hit.split) whole, body_came k w changes body)

  -- ---- what is told

  told_of_body : (id : ℕ) (all : Bool) (h : History) → IsLawful start h → true ≡ all → HasToRead start id spent h → HasReadOut start id all h
  told_of_body id all h l e fits =
      let land = hit_landed id fits.0 fits.1 h l fits.2 in
      record {
        write = fits.0;
        since = fits.1;
        reader = inl fits.2;
        bytes = fits.3 ∙ sym land.0.bytes;
        over = over_landed fits.0.number (changes_of start h) land.0.now (IsOrderly-lawful start h l) land.0.known land.0.down;
        whole = (λ t. (whole-came fits.0.number (changes_of start h)).0 (land.0.came ∙ land.1), λ w. sym e);
      }

  told_as_it_comes : (s : State) (h : History) (id n place : ℕ) (q : Request) (all : Bool) → HasPast start s h → get s.requests id ≡ Some q → q.reader ≡ streaming n place
      → whole_read (streaming n place) s.shelf ≡ Some all → HasToRead start id (streaming n place) h → HasReadOut start id all h
  told_as_it_comes s h id n place q all p at is e fits =
      let past = stands-past start s h p in
      let changes : Changes Kept = changes_of start h in
      let x = p.matches.reading id n place q at is in
      let there = ahead start s h past.holds past.count (opened_request start s h past) past.counted id n place fits x in
      let z = at_end fits.5.0 x.0 (is_whole n s.shelf) all (ap (λ (y : List ℕ × Bool). cond (is_at_end y) (Some (is_whole n s.shelf)) None) (sym there) ∙ e) in
      let number : n ≡ fits.0.number = sym fits.3 in
      record {
        write = fits.0;
        since = fits.1;
        reader = inr fits.2;
        bytes = sym (append_nothing (bytes_read id fits.1)) ∙ ap (λ (more : List ℕ). bytes_read id fits.1 ++ more) (sym z.0) ∙ sym fits.5.1 ∙ ap (λ (m : ℕ). bytes_of m changes) number;
        over = subst (λ (m : ℕ). IsOver m changes) number (x.2.0 z.1);
        whole = (λ t. subst (λ (m : ℕ). IsWhole m changes) number (x.3.0 (z.2 ∙ t)), λ w. sym z.2 ∙ x.3.1 (subst (λ (m : ℕ). IsWhole m changes) fits.3 w));
      }

pub HasReadOut-told : (start : Opening) (s : State) (h : History) (id : ℕ) (all : Bool) → HasPast start s h → whole_told s id ≡ Some all → HasReadOut start id all h
HasReadOut-told start s h id all p e = by_request (get s.requests id) refl (p.matches.requests id) e
  where
    by_reader : (q : Request) (r : Reader) → get s.requests id ≡ Some q → q.reader ≡ r → HasToRead start id r h → whole_read r s.shelf ≡ Some all → HasReadOut start id all h
    by_reader q closed at is fits e = absurd cc
    by_reader q (unread bytes) at is fits e = absurd cc
    by_reader q spent at is fits e = told_of_body start id all h p.lawful (let same : true ≡ all = cc in same) fits
    by_reader q (streaming n place) at is fits e = told_as_it_comes start s h id n place q all p at is e fits

    by_request : (o : Option Request) → get s.requests id ≡ o → MatchOption o (opened_for id h ≡ None) (λ q. IsRequestOf start id q h)
        → option_and_then (λ q. whole_read q.reader s.shelf) o ≡ Some all → HasReadOut start id all h
    by_request None at m e = absurd cc
    by_request (Some q) at m e = by_reader q q.reader at refl m.reader e

-- ---- after a read that was answered the end

-- the reader after it is told
end_told : (r : Reader) (shelf : Shelf) (n : ℕ) → has_reader r ≡ true → End ≡ read_answer r shelf → is_some (whole_read (read_on End r) (record shelf { writes = n })) ≡ true
end_told closed shelf n there e = absurd cc
end_told (unread bytes) shelf n there e = absurd cc
end_told spent shelf n there e = refl
end_told (streaming m place) shelf n there e =
    subst (λ (k : ℕ). is_some (whole_read (streaming m k) shelf) ≡ true) (let same : place ≡ place + 0 = omega arith in same)
    ((told-at-end (streaming m place) shelf).1 (λ same. absurd cc, sym e))

read_told : (s : State) (id : ℕ) (t : MomentValue) (i : Inside) (q : Request) → get s.requests id ≡ Some q → has_reader q.reader ≡ true → End ≡ read_answer q.reader s.shelf
    → is_some (whole_told (after s (call_at t (Read id) i (Ok End))) id) ≡ true
read_told s id t i q at there e =
    subst (λ (o : Option Request). is_some (whole_told (with_counts n locks (by_request s o (λ p. with_request id (record p { reader = read_on End p.reader }) s))) id) ≡ true) (sym at)
    (ap (λ (o : Option Request). is_some (option_and_then (λ p. whole_read p.reader (record s.shelf { writes = n })) o))
    (at-insert s.requests id now id ∙ ap (λ (v : Bool). cond v (Some now) (get s.requests id)) (itself id)) ∙ end_told q.reader s.shelf n there e)
  where
    n : ℕ
    n = writes_after s.shelf.writes i.began

    locks : LockState
    locks = after_all (lock_changes s (call_at t (Read id) i (Ok End))) s.lock

    now : Request
    now = record q { reader = read_on End q.reader }

-- an allowed call of that action and outcome leaves the request told
abbrev TellsAtEnd : State → ℕ → MomentValue → Inside → Action → Outcome → Type 0
TellsAtEnd s id t i action o = AllowsBy (refusal s action) s t action (call_at t action i o) o → is_some (whole_told (after s (call_at t action i o)) id) ≡ true

by_read : (s : State) (id : ℕ) (t : MomentValue) (i : Inside) → TellsAtEnd s id t i (Read id) (Ok End)
by_read s id t i allowed =
    let row = unrefused s (refusal s (Read id)) t (Read id) (call_at t (Read id) i (Ok End)) End refl allowed in
    let q = passed (get s.requests id) (λ q. unless (has_reader q.reader) WrongPhase) row.0 in
    read_told s id t i q.0 q.1 (test_passed (has_reader q.0.reader) WrongPhase q.2) (subst (λ (o : Option Request). MatchOption o ⊥ (λ q. End ≡ read_answer q.reader s.shelf)) q.1 row.1)

by_call : (s : State) (id : ℕ) (t : MomentValue) (i : Inside) (action : Action) (o : Outcome) → action ≡ Read id → o ≡ Ok End → TellsAtEnd s id t i action o
by_call s id t i action o read ended =
    subst (λ (a : Action). TellsAtEnd s id t i a o) (sym read) (subst (λ (y : Outcome). TellsAtEnd s id t i (Read id) y) (sym ended) (by_read s id t i))

pub told-read : (start : Opening) (s : State) (c : Call) (h : History) (id : ℕ) → HasPast start s (c ∷ h) → c.event.action ≡ Read id → c.outcome ≡ Ok End → is_some (whole_told s id) ≡ true
told-read start s c h id p read ended =
    let i : Inside = record { reading = c.reading; began = c.began; asked = c.asked } in
    subst (λ (x : State). is_some (whole_told x id) ≡ true) (sym p.state) (by_call (state_of start h) id c.event.moment i c.event.action c.outcome read ended p.lawful.0.outcome)
