-- Who is told twice is as who is told once.
use Rattle.std.proofs.Common.{rules, ◌≡◌, ℕ, Bool, true, false, List, refl, ap, sym, ◌∙◌, ◌==◌, ◌&&◌, not, nat_lt, if◌then◌else◌}
use Rattle.std.specs.Prelude.{Option, Some, MatchBool, vec_len}
use Rattle.gateway_exchanges.specs.declared.exchange.Answering.{Answering}
use Rattle.gateway_exchanges.specs.declared.exchange.Exchange.{Exchange}
use Rattle.gateway_exchanges.specs.Exchanges.{lacks_bytes_of}
use Rattle.gateway_exchanges.specs.declared.exchange.Shared.{Shared}
use Rattle.gateway_rows.specs.Bodies.{is_awaiting}
use Rattle.gateway_steps.specs.declared.state.State.{State}
use Rattle.gateway_steps.specs.Questions.{is_reading_from, is_waiting_for}
use Rattle.gateway_steps.specs.Steps.{joins_tail}
use Rattle.gateway_tier.specs.declared.notices.Notice.{Notice}
use Rattle.gateway_tier.specs.declared.notices.Notice.TheVariants.{PermitTaken, WriteHidden, WriteBegun, Replaced, Superseded, IndexPut, Freshened, FetchFailed, TailBegun}
use Rattle.gateway_tier.specs.Notices.{told, overtaken_by, shares_told, IsTold, IsToldAt}
use Rattle.gateway_tier.specs.Roles.{is_meant}

replaced_twice : (e e' : Exchange) (a : Bool) → is_awaiting e.steps.state.origin.phase ≡ a → e'.steps.state ≡ told Replaced e → told Replaced e' ≡ told Replaced e
replaced_twice e e' true h k = let q = rw h at k in rw q (rw h refl)
replaced_twice e e' false h k = let q = rw h at k in rw q (rw h refl)

overtaken_twice : (sequence : ℕ) (s : State) (b : Bool) → nat_lt s.origin.sequence sequence ≡ b → overtaken_by sequence (overtaken_by sequence s) ≡ overtaken_by sequence s
overtaken_twice sequence s true k = rw k (rw k refl)
overtaken_twice sequence s false k = rw k (rw k refl)

begun_twice : (e e' : Exchange) → e'.steps.state ≡ told WriteBegun e → told WriteBegun e' ≡ told WriteBegun e
begun_twice e e' h = rw h (search rules)

joined_state : (s : State) (b : Bool) → s.tier.writes ≡ b → joins_tail (joins_tail s) ≡ joins_tail s
joined_state s true h = rw h refl
joined_state s false h = rw h refl

reads_as_ever : (number : ℕ) (s : State) (b : Bool) → s.tier.writes ≡ b → is_reading_from number (joins_tail s) ≡ is_reading_from number s
reads_as_ever number s true h = rw h refl
reads_as_ever number s false h = rw h refl

same_parts : (n : Notice) (e e' : Exchange) → IsTold n e e' → e'.answer ≡ e.answer
same_parts n e e' h = ap (λ (x : Exchange). x.answer) h.rest

-- who lacks bytes of a body lacks them still
lacks_as_ever : (number : ℕ) (e e' : Exchange) → e'.answer ≡ e.answer → e'.steps.state ≡ joins_tail e.steps.state → lacks_bytes_of number e' ≡ lacks_bytes_of number e
lacks_as_ever number e e' parts h =
    ap (λ (a : Answering). is_reading_from number e'.steps.state && not (vec_len a.parts == 0)) parts
    ∙ ap (λ b. b && not (vec_len e.answer.parts == 0)) (ap (is_reading_from number) h ∙ reads_as_ever number e.steps.state e.steps.state.tier.writes refl)

joined_twice : (number : ℕ) (e e' : Exchange) (b : Bool) → lacks_bytes_of number e ≡ b → e'.answer ≡ e.answer → e'.steps.state ≡ told (TailBegun number) e
    → told (TailBegun number) e' ≡ told (TailBegun number) e
joined_twice number e e' true h parts k =
    let joined : e'.steps.state ≡ joins_tail e.steps.state = k ∙ ap (λ (b : Bool). if b then joins_tail e.steps.state else e.steps.state) h in
    let still : lacks_bytes_of number e' ≡ true = lacks_as_ever number e e' parts joined ∙ h in
    ap (λ (b : Bool). if b then joins_tail e'.steps.state else e'.steps.state) still ∙ ap joins_tail joined ∙ joined_state e.steps.state e.steps.state.tier.writes refl
    ∙ sym (ap (λ (b : Bool). if b then joins_tail e.steps.state else e.steps.state) h)
joined_twice number e e' false h parts k =
    let same : e'.steps.state ≡ e.steps.state = k ∙ ap (λ (b : Bool). if b then joins_tail e.steps.state else e.steps.state) h in
    ap (λ (s : State). if is_reading_from number s && not (vec_len e'.answer.parts == 0) then joins_tail s else s) same
    ∙ ap (λ (a : Answering). if is_reading_from number e.steps.state && not (vec_len a.parts == 0) then joins_tail e.steps.state else e.steps.state) parts

told_told : (n : Notice) (e e' : Exchange) → IsTold n e e' → told n e' ≡ told n e
told_told PermitTaken e e' h = rw h.state refl
told_told WriteHidden e e' h = rw h.state refl
told_told WriteBegun e e' h = begun_twice e e' h.state
told_told Replaced e e' h = replaced_twice e e' (is_awaiting e.steps.state.origin.phase) refl h.state
told_told Superseded e e' h = rw h.state refl
told_told IndexPut e e' h = rw h.state refl
told_told (Freshened sequence) e e' h = rw h.state (overtaken_twice sequence e.steps.state (nat_lt e.steps.state.origin.sequence sequence) refl)
told_told (FetchFailed number shared) e e' h = rw h.state refl
told_told (TailBegun number) e e' h = joined_twice number e e' (lacks_bytes_of number e) refl (same_parts (TailBegun number) e e' h) h.state

shared_twice : (b : Bool) (shared : Shared) (old : Option Shared) → (if b then Some shared else (if b then Some shared else old)) ≡ (if b then Some shared else old)
shared_twice true shared old = refl
shared_twice false shared old = refl

shares_twice : (n : Notice) (e e' : Exchange) → IsTold n e e' → shares_told n e'.steps.state e'.shares ≡ shares_told n e.steps.state e.shares
shares_twice PermitTaken e e' h = h.shares
shares_twice WriteHidden e e' h = h.shares
shares_twice WriteBegun e e' h = h.shares
shares_twice Replaced e e' h = h.shares
shares_twice Superseded e e' h = h.shares
shares_twice IndexPut e e' h = h.shares
shares_twice (Freshened sequence) e e' h = h.shares
shares_twice (TailBegun number) e e' h = h.shares
shares_twice (FetchFailed number shared) e e' h =
    rw (h.state, h.shares) (shared_twice (is_waiting_for number e.steps.state && not e.steps.state.tier.moved) shared e.shares)

told_twice : (n : Notice) (e e' e'' : Exchange) → IsTold n e e' → IsTold n e' e'' → IsTold n e e''
told_twice n e e' e'' h k = record {
  state = k.state ∙ told_told n e e' h;
  shares = k.shares ∙ shares_twice n e e' h;
  rest = k.rest ∙ ap (λ (x : Exchange). record x { steps = e''.steps; shares = e''.shares }) h.rest;
}

same_meant : (key : Option (List ℕ)) (n : Notice) (e e' : Exchange) → IsTold n e e' → is_meant key e' ≡ is_meant key e
same_meant key n e e' h = ap (λ (x : Exchange). is_meant key x) h.rest

once : (n : Notice) (b c : Bool) (e e' e'' : Exchange) → (IsTold n e e' → c ≡ b) → ((e' ≡ e) → c ≡ b) → MatchBool b (IsTold n e e') (e' ≡ e) → MatchBool c (IsTold n e' e'') (e'' ≡ e')
    → MatchBool b (IsTold n e e'') (e'' ≡ e)
once n true c e e' e'' f g h k = let q = rw (f h) at k in told_twice n e e' e'' h q
once n false c e e' e'' f g h k = let q = rw (g h) at k in q ∙ h

pub told_at_twice : (key : Option (List ℕ)) (n : Notice) (e e' e'' : Exchange) → IsToldAt key n e e' → IsToldAt key n e' e'' → IsToldAt key n e e''
told_at_twice key n e e' e'' h k =
    once n (is_meant key e) (is_meant key e') e e' e'' (same_meant key n e e') (λ same. ap (λ (x : Exchange). is_meant key x) same) h k

number_of : (n : Notice) (b : Bool) (e e' : Exchange) → MatchBool b (IsTold n e e') (e' ≡ e) → e'.x ≡ e.x
number_of n true e e' h = ap (λ (z : Exchange). z.x) h.rest
number_of n false e e' h = ap (λ (z : Exchange). z.x) h

pub same_number : (key : Option (List ℕ)) (n : Notice) (e e' : Exchange) → IsToldAt key n e e' → e'.x ≡ e.x
same_number key n e e' h = number_of n (is_meant key e) e e' h
