-- Openings and drops are taken.
use Rattle.std.proofs.Common.{◌≡◌, ℕ, refl, ap, sym, ◌∙◌, Bool, true, false, subst, inl, Some, None, Option, List, []}
use Rattle.std.specs.Prelude.{Ok, Err, not, is_some}
use Rattle.std.specs.FinMap.{get, insert, remove}
use Rattle.cache_words.specs.Time.{MomentValue}
use Rattle.cache_words.specs.Key.{CacheKeyValue}
use Rattle.cache_lock.specs.Changes.{Change}
use Rattle.cache_lock.specs.State.{after_all}
use Rattle.tier_model.specs.declared.event.Action.TheVariants.{Open, Drop}
use Rattle.tier_model.specs.declared.event.Answer.TheVariants.{Opened, Dropped}
use Rattle.tier_model.specs.declared.event.TierFault.TheVariants.{NoRequest, IdInUse, Memory}
use Rattle.tier_model.specs.Keys.{entry_of}
use Rattle.tier_model.specs.Calls.{nothing_done}
use Rattle.tier_model.specs.Shelf.{Shelf, landed}
use Rattle.tier_model.specs.State.{Reader, closed, Request, State}
use Rattle.tier_model.specs.Checks.{refusal, unless, unless_open}
use Rattle.tier_model.specs.Step.{AllowsBy}
use Rattle.tier_model.specs.After.{by_request, opened_request, turned, on_write, leave_of, without_request, with_counts}
use Rattle.tier_single.specs.Acts.{Took}
use Rattle.tier_single.proofs.TookLaws.{plain_call, Took-refused}

module _ (s : State) (t : MomentValue) (id : ℕ) (key : CacheKeyValue) (asks : Bool) where
  passed : get s.requests id ≡ None → refusal s (Open id key asks) ≡ None
  passed none = ap (λ (o : Option Request). unless (not (is_some o)) IdInUse) none

  pub Took-open : get s.requests id ≡ None → Took s t (Open id key asks) (Ok Opened) (record s { requests = insert s.requests id (opened_request s.wait (entry_of key) asks) })
  Took-open none = (
    plain_call t (Open id key asks) (Ok Opened) false,
    refl,
    refl,
    record {
      read = tt;
      outcome = subst (λ r. AllowsBy r s t (Open id key asks) (plain_call t (Open id key asks) (Ok Opened) false) (Ok Opened)) (sym (passed none)) refl;
      begins = refl;
      asks = tt;
    },
    refl,
  )

  pub Took-open-memory : get s.requests id ≡ None → Took s t (Open id key asks) (Err (Memory nothing_done)) s
  Took-open-memory none = (
    plain_call t (Open id key asks) (Err (Memory nothing_done)) false,
    refl,
    refl,
    record {
      read = tt;
      outcome = subst (λ r. AllowsBy r s t (Open id key asks) (plain_call t (Open id key asks) (Err (Memory nothing_done)) false) (Err (Memory nothing_done))) (sym (passed none)) (inl (refl, tt));
      begins = refl;
      asks = tt;
    },
    refl,
  )

  pub Took-open-used : is_some (get s.requests id) ≡ true → Took s t (Open id key asks) (Err IdInUse) s
  Took-open-used used = Took-refused s t (Open id key asks) IdInUse (ap (λ v. unless (not v) IdInUse) used) tt refl tt refl

module _ (s : State) (t : MomentValue) (id : ℕ) where
  abbrev pub dropped_to : Request → State
  dropped_to q = record s {
    requests = remove s.requests id;
    shelf = turned q.reader closed (on_write q.write (landed false) s.shelf);
    lock = after_all (leave_of q.held) s.lock;
  }

  -- no write begins
  kept : (r : Reader) (w : Option ℕ) → record (turned r closed (on_write w (landed false) s.shelf)) { writes = s.shelf.writes } ≡ turned r closed (on_write w (landed false) s.shelf)
  kept r None = refl
  kept r (Some n) = refl

  pub Took-drop : (q : Request) → get s.requests id ≡ Some q → Took s t (Drop id) (Ok Dropped) (dropped_to q)
  Took-drop q there = (
    plain_call t (Drop id) (Ok Dropped) false,
    refl,
    refl,
    record {
      read = tt;
      outcome = subst (λ r. AllowsBy r s t (Drop id) (plain_call t (Drop id) (Ok Dropped) false) (Ok Dropped)) (sym (ap (λ (o : Option Request). unless_open o (λ q. None)) there)) refl;
      begins = refl;
      asks = tt;
    },
    ap (λ (x : Shelf). record (dropped_to q) { shelf = x }) (sym (kept q.reader q.write))
        ∙ ap (λ (o : Option Request). with_counts s.shelf.writes (after_all (by_request {X = List Change} [] o (λ p. leave_of p.held)) s.lock) (by_request s o (λ p. without_request s id p))) (sym there),
  )

  pub Took-drop-none : get s.requests id ≡ None → Took s t (Drop id) (Err NoRequest) s
  Took-drop-none none = Took-refused s t (Drop id) NoRequest (ap (λ (o : Option Request). unless_open o (λ q. None)) none) tt refl tt refl
