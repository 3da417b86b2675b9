-- Reads are taken.
use Rattle.std.proofs.Common.{◌≡◌, ℕ, refl, ap, sym, ◌∙◌, Bool, true, false, subst, inl, Some, None, Option, List, [], ◌∷◌}
use Rattle.std.specs.Prelude.{Ok, Err, MatchOption}
use Rattle.std.specs.FinMap.{FinMap, get, insert}
use Rattle.std.specs.Ordering.{nat_cmp}
use Rattle.cache_words.specs.Time.{MomentValue}
use Rattle.tier_model.specs.declared.event.Action.TheVariants.{Read}
use Rattle.tier_model.specs.declared.event.TierFault.{TierFault}
use Rattle.tier_model.specs.declared.event.TierFault.TheVariants.{NoRequest, WrongPhase, Memory}
use Rattle.tier_model.specs.Calls.{Outcome, nothing_done, is_begun}
use Rattle.tier_model.specs.Shelf.{Shelf, readable, past_place}
use Rattle.tier_model.specs.State.{Reader, closed, unread, spent, streaming, Request, State}
use Rattle.tier_model.specs.Checks.{refusal, unless, unless_open, has_reader}
use Rattle.tier_model.specs.Answers.{next_by, read_answer}
use Rattle.tier_model.specs.Step.{AllowsBy, HasNews}
use Rattle.tier_model.specs.After.{by_request, with_request, read_on, with_counts}
use Rattle.tier_requests.specs.Rows.{ReadAnswer, OnOpen}
use Rattle.tier_single.specs.Acts.{Took}
use Rattle.tier_single.proofs.TookLaws.{insert-same, plain_call, Took-refused}

-- a read reports of no write
next_begins : (bytes : List ℕ) (over : Bool) → is_begun (Ok (next_by bytes over)) ≡ false
next_begins [] true = refl
next_begins [] false = refl
next_begins (b ∷ bytes) over = refl

read_begins : (r : Reader) (shelf : Shelf) → is_begun (Ok (read_answer r shelf)) ≡ false
read_begins closed shelf = refl
read_begins (unread bytes) shelf = refl
read_begins spent shelf = refl
read_begins (streaming n place) shelf = next_begins (past_place place (readable n shelf)).0 (past_place place (readable n shelf)).1

module _ (s : State) (t : MomentValue) (id : ℕ) where
  abbrev pub with_all : FinMap nat_cmp Request → State
  with_all requests = record s { requests = requests }

  abbrev checked : Option Request → Option TierFault
  checked o = unless_open o (λ q. unless (has_reader q.reader) WrongPhase)

  refused_read : (f : TierFault) → refusal s (Read id) ≡ Some f → Took s t (Read id) (Err f) s
  refused_read f fails = Took-refused s t (Read id) f fails tt refl tt refl

  module _ (q : Request) (there : get s.requests id ≡ Some q) (reads : has_reader q.reader ≡ true) where
    passed : refusal s (Read id) ≡ None
    passed = ap checked there ∙ ap (λ v. unless v WrongPhase) reads

    pub answered_read : Took s t (Read id) (Ok (read_answer q.reader s.shelf)) (with_all (insert s.requests id (record q { reader = read_on (read_answer q.reader s.shelf) q.reader })))
    answered_read = let a = read_answer q.reader s.shelf in (
      plain_call t (Read id) (Ok a) false,
      refl,
      refl,
      record {
        read = tt;
        outcome = subst (λ r. AllowsBy r s t (Read id) (plain_call t (Read id) (Ok a) false) (Ok a)) (sym passed)
            (subst (λ (o : Option Request). MatchOption o ⊥ (λ p. a ≡ read_answer p.reader s.shelf)) (sym there) refl);
        begins = read_begins q.reader s.shelf;
        asks = tt;
      },
      ap (λ (o : Option Request). with_counts s.shelf.writes s.lock (by_request s o (λ p. with_request id (record p { reader = read_on a p.reader }) s))) (sym there),
    )

    memory_read : HasNews q.reader s.shelf → Took s t (Read id) (Err (Memory nothing_done)) s
    memory_read news = (
      plain_call t (Read id) (Err (Memory nothing_done)) false,
      refl,
      refl,
      record {
        read = tt;
        outcome = subst (λ r. AllowsBy r s t (Read id) (plain_call t (Read id) (Err (Memory nothing_done)) false) (Err (Memory nothing_done))) (sym passed)
            (inl (refl, subst (λ (o : Option Request). MatchOption o ⊥ (λ p. HasNews p.reader s.shelf)) (sym there) news));
        begins = refl;
        asks = tt;
      },
      refl,
    )

  pub Took-read : (o : Outcome) (requests : FinMap nat_cmp Request) → OnOpen id s.requests (o ≡ Err NoRequest) (λ q left. ReadAnswer (has_reader q.reader) q s.shelf o left) requests → Took s t (Read id) o (with_all requests)
  Took-read o requests h = by_open (get s.requests id) refl h
    where
      by_result : (q left : Request) (o : Outcome) → get s.requests id ≡ Some q → has_reader q.reader ≡ true → ReadAnswer true q s.shelf o left → requests ≡ insert s.requests id left → Took s t (Read id) o (with_all requests)
      by_result q left (Ok a) there reads p put = rw (put, p.1, p.0) (answered_read q there reads)
      by_result q left (Err f) there reads p put = rw (put, p.2, p.0, insert-same s.requests id q there) (memory_read q there reads p.1)

      by_reader : (q left : Request) (v : Bool) → get s.requests id ≡ Some q → has_reader q.reader ≡ v → ReadAnswer v q s.shelf o left → requests ≡ insert s.requests id left → Took s t (Read id) o (with_all requests)
      by_reader q left false there reads p put =
          rw (p.0, put, p.1, insert-same s.requests id q there) (refused_read WrongPhase (ap checked there ∙ ap (λ v. unless v WrongPhase) reads))
      by_reader q left true there reads p put = by_result q left o there reads p put

      by_open : (x : Option Request) → get s.requests id ≡ x
          → MatchOption x ((o ≡ Err NoRequest) × (requests ≡ s.requests)) (λ q. (left : Request) × ReadAnswer (has_reader q.reader) q s.shelf o left × (requests ≡ insert s.requests id left)) → Took s t (Read id) o (with_all requests)
      by_open None none h = rw (h.0, h.1) (refused_read NoRequest (ap checked none))
      by_open (Some q) there h = by_reader q h.0 (has_reader q.reader) there refl h.1 h.2
