-- What a right call leaves of another key, and of a body that it doesn't replace.
use Rattle.std.proofs.Common.{◌≡◌, ℕ, ◌+◌, refl, ap, sym, ◌∙◌, true, false, subst, cond, [], ◌∷◌, ◌++◌, ◌==◌, length, inl, inr}
use Rattle.std.specs.Prelude.{◌⊎◌, not, Bool, List, Option, Some, Ok}
use Rattle.std.specs.List.{AllByRecursion}
use Rattle.std.specs.Option.{option_or}
use Rattle.std.proofs.lemmas.Bool.{eqb-true}
use Rattle.cache_words.specs.Time.{MomentValue}
use Rattle.cache_entries.specs.declared.entry.CacheEntryKey.{CacheEntryKey}
use Rattle.cache_entries.specs.declared.rows.Tracked.{Tracked}
use Rattle.cache_changes.specs.Changes.{StoredKey, stored_key}
use Rattle.tier_model.specs.declared.event.Action.{Action}
use Rattle.tier_model.specs.declared.event.Action.TheVariants as on
use Rattle.tier_model.specs.declared.event.Answer.TheVariants as answer
use Rattle.tier_model.specs.Keys.{entry_of}
use Rattle.tier_model.specs.Calls.{Call, History, evicted_by}
use Rattle.tier_model.specs.State.{Settings}
use Rattle.tier_promise.specs.Promise.{Write, Changes, flying, body_of, first_of, shown, bytes_of, waiting, Request, Now, Whether, opened, open_row, ran_out, after, came_of, now_after, now_of, AreRight}
use Rattle.tier_laws.specs.Keys.{key_of_request, key_of}
use Rattle.tier_laws.specs.Others.{lists, IsAsBefore, IsGone, IsUnmoved, AllSpare, KeepsBody, NoneConfirms}
use Rattle.tier_laws.proofs.Owners.{owner, AreOwned}
use Rattle.tier_laws.proofs.Apart.{IsSame, HasNone, turn-same, turn-waits, turn-taken, turn-keeps, turn-unconfirmed}
use Rattle.tier_laws.proofs.Stands.{Stands, Turned, scope_of_call, call-turned, history-stands}

-- what is shown of a key is its own
first-mine : (k : StoredKey) (c : Changes) (ws : List Write) (b : Option Write) → AllByRecursion (λ w. owner w.number c ≡ Some k) ws → ((w : Write) → b ≡ Some w → owner w.number c ≡ Some k)
    → (w : Write) → option_or (first_of ws) b ≡ Some w → owner w.number c ≡ Some k
first-mine k c [] b all mine w is = mine w is
first-mine k c (v ∷ ws) b all mine w is = let one : v ≡ w = cc in subst (λ (y : Write). owner y.number c ≡ Some k) one all.0

shown-mine : (k : StoredKey) (c : Changes) → AreOwned c → (w : Write) → (shown k c ≡ Some w) ⊎ (body_of k c ≡ Some w) → owner w.number c ≡ Some k
shown-mine k c o w is = elim is [
  | inl there ↦ first-mine k c (flying k c) (body_of k c) (o.flies k) (λ v e. (o.stays k v e).0) w there
  | inr held ↦ (o.stays k w held).0
]

as-before : (k : StoredKey) (old new : Changes) → AreOwned old → IsSame k old new → IsAsBefore k old new
as-before k old new o same = record {
  found = ap (λ (ws : List Write). option_or (first_of ws) (body_of k new)) same.flies ∙ ap (λ (b : Option Write). option_or (first_of (flying k old)) b) same.stays;
  held = same.stays;
  bytes = λ w is. same.bytes w.number (shown-mine k old o w is);
}

-- ---- requests of other keys

module _ (k : StoredKey) (now : Now) (id : ℕ) (q : Request) (at : now.request id ≡ Some q) (of_key : stored_key q.entry ≡ k) where
  its-key : key_of_request (now.request id) ≡ Some k
  its-key = ap key_of_request at ∙ ap (λ (j : StoredKey). Some j) of_key

  kept-so : (i : ℕ) (o : Option Request) → (key_of_request (now.request i) ≡ Some k → ⊥) → cond (id == i) o (now.request id) ≡ Some q
  kept-so i o other = by_id (id == i) refl
    where
      by_id : (t : Bool) → (id == i) ≡ t → cond t o (now.request id) ≡ Some q
      by_id true t = absurd (other (ap (λ (j : ℕ). key_of_request (now.request j)) (sym (eqb-true id i t)) ∙ its-key))
      by_id false t = at

  opened-so : (i : ℕ) (new : Request) → cond (id == i) (open_row (now.request i) new).request (now.request id) ≡ Some q
  opened-so i new = by_id (id == i) refl
    where
      by_id : (t : Bool) → (id == i) ≡ t → cond t (open_row (now.request i) new).request (now.request id) ≡ Some q
      by_id true t = ap (λ (v : Option Request). (open_row v new).request) (ap now.request (sym (eqb-true id i t)) ∙ at)
      by_id false t = at

  request-kept : (s : Settings) (call : Call) (t : MomentValue) (action : Action) → (key_of action now ≡ Some k → ⊥) → (after s call t action now).now.request id ≡ Some q
  request-kept s call t (on.Open i key asks) other = opened-so i (opened (entry_of key) asks)
  request-kept s call t (on.LookUp i) other = kept-so i (after s call t (on.LookUp i) now).row.request other
  request-kept s call t (on.Poll i) other = kept-so i (after s call t (on.Poll i) now).row.request other
  request-kept s call t (on.Begin i head given) other = kept-so i (after s call t (on.Begin i head given) now).row.request other
  request-kept s call t (on.Revalidate i head given) other = kept-so i (after s call t (on.Revalidate i head given) now).row.request other
  request-kept s call t (on.Piece i bytes last) other = kept-so i (after s call t (on.Piece i bytes last) now).row.request other
  request-kept s call t (on.Finish i) other = kept-so i (after s call t (on.Finish i) now).row.request other
  request-kept s call t (on.Read i) other = kept-so i (after s call t (on.Read i) now).row.request other
  request-kept s call t (on.Drop i) other = kept-so i (after s call t (on.Drop i) now).row.request other
  request-kept s call t (on.Purge key) other = at
  request-kept s call t (on.Put key pieces given) other = at

  pub request-stays : (s : Settings) (call : Call) → (key_of call.event.action now ≡ Some k → ⊥) → (now_after s call now).request id ≡ Some q
  request-stays s call other = by_room (ran_out call.outcome)
    where
      by_room : (v : Bool) → (cond v now (came_of s call now).now).request id ≡ Some q
      by_room true = at
      by_room false = request-kept s call call.event.moment call.event.action other

-- ---- calls

module _ (s : Settings) (used : ℕ) (loaded : List Tracked) (h : History) (c : Call) (k : StoredKey) (right : AreRight s used loaded (c ∷ h)) (other : key_of c.event.action (now_of s loaded h) ≡ Some k → ⊥) where
  abbrev now : Now
  now = now_of s loaded h

  abbrev then : Changes
  then = (now_of s loaded (c ∷ h)).changes

  stands : Stands now
  stands = history-stands s used loaded h right.1

  turned : Turned c now (now_of s loaded (c ∷ h))
  turned = call-turned s (used + length h) c now stands right.0

  stored-as-before : lists k (evicted_by c.outcome) ≡ false → IsAsBefore k now.changes then
  stored-as-before none =
      as-before k now.changes then stands.owned
      (subst (IsSame k now.changes) (sym turned.changes) (turn-same (scope_of_call c now) k other turned.row now.changes stands.owned turned.turn none))

  is-gone : lists k (evicted_by c.outcome) ≡ true → IsGone k then
  is-gone l =
      let none = subst (HasNone k) (sym turned.changes) (turn-taken (scope_of_call c now) k other turned.row now.changes stands.owned turned.turn (turned.listed k l)) in
      (ap (λ (ws : List Write). option_or (first_of ws) (body_of k then)) none.0 ∙ none.1, none.1)

  by-list : (evicted : Bool) → lists k (evicted_by c.outcome) ≡ evicted → Whether (not evicted) (IsAsBefore k now.changes then) (IsGone k then)
  by-list true l = is-gone l
  by-list false l = stored-as-before l

  pub let-alone : (evicted : Bool) → lists k (evicted_by c.outcome) ≡ evicted → Whether (not evicted) (IsAsBefore k now.changes then) (IsGone k then) × IsUnmoved k now (now_of s loaded (c ∷ h))
  let-alone evicted l = (
    by-list evicted l,
    record {
      permit = ap (waiting k) turned.changes ∙ turn-waits (scope_of_call c now) k other turned.row now.changes stands.owned turned.turn;
      requests = λ id q at of_key. request-stays k now id q at of_key s c other;
    },
  )

pub stores-finished : (s : Settings) (used : ℕ) (loaded : List Tracked) (h : History) (c : Call) (k : StoredKey) (size : ℕ) (evicted : List CacheEntryKey) → AreRight s used loaded (c ∷ h)
    → key_of c.event.action (now_of s loaded h) ≡ Some k → c.outcome ≡ Ok (answer.Finished size evicted) → lists k evicted ≡ false
    → (w : Write) × (body_of k (now_of s loaded (c ∷ h)).changes ≡ Some w) × (length (bytes_of w.number (now_of s loaded (c ∷ h)).changes) ≡ size)
stores-finished s used loaded h c k size evicted right key o none =
    (call-turned s (used + length h) c (now_of s loaded h) (history-stands s used loaded h right.1) right.0).finished size evicted o k key none

pub body-stays : (s : Settings) (used : ℕ) (loaded : List Tracked) (since h : History) (k : StoredKey) (w : Write) → AreRight s used loaded (since ++ h) → body_of k (now_of s loaded h).changes ≡ Some w
    → AllSpare s loaded k since h → KeepsBody k w (now_of s loaded h).changes (now_of s loaded (since ++ h)).changes
body-stays s used loaded [] h k w right is all = (w, is, refl, refl)
body-stays s used loaded (c ∷ since) h k w right is all =
    let now = now_of s loaded (since ++ h) in
    let st = history-stands s used loaded (since ++ h) right.1 in
    let t = call-turned s (used + length (since ++ h)) c now st right.0 in
    let before = body-stays s used loaded since h k w right.1 is all.1 in
    let one = subst (KeepsBody k before.0 now.changes) (sym t.changes) (turn-keeps (scope_of_call c now) k all.0.own all.0.others t.row now.changes st.owned t.turn before.0 before.1) in
    let then : Changes = (now_of s loaded (c ∷ since ++ h)).changes in
    (one.0, one.1, one.2 ∙ before.2, ap (λ (n : ℕ). bytes_of n then) (sym before.2) ∙ one.3 ∙ ap (λ (n : ℕ). bytes_of n now.changes) before.2 ∙ before.3)

pub body-unconfirmed : (s : Settings) (used : ℕ) (loaded : List Tracked) (since h : History) (k : StoredKey) (w : Write) → AreRight s used loaded (since ++ h) → body_of k (now_of s loaded h).changes ≡ Some w
    → AllSpare s loaded k since h → NoneConfirms s loaded k since h → body_of k (now_of s loaded (since ++ h)).changes ≡ Some w
body-unconfirmed s used loaded [] h k w right is all none = is
body-unconfirmed s used loaded (c ∷ since) h k w right is all none =
    let now = now_of s loaded (since ++ h) in
    let st = history-stands s used loaded (since ++ h) right.1 in
    let t = call-turned s (used + length (since ++ h)) c now st right.0 in
    let before = body-unconfirmed s used loaded since h k w right.1 is all.1 none.1 in
    ap (body_of k) t.changes ∙ turn-unconfirmed (scope_of_call c now) k all.0.own all.0.others none.0 t.row now.changes st.owned t.turn w before
