-- What a call leaves to read, and what each read gives.
use Rattle.cache_heads.specs.declared.given.GivenMeta.{GivenMeta}
use Rattle.std.proofs.Common.{◌≡◌, ℕ, refl, sym, true, false, subst, cond, ◌∷◌}
use Rattle.std.specs.Prelude.{Bool, List, Option, Some, None, option_map, Ok, Err, MatchOption}
use Rattle.std.specs.FinMap.{get}
use Rattle.std.proofs.lemmas.Bool.{eqb-true}
use Rattle.cache_words.specs.Time.{MomentValue}
use Rattle.tier_model.specs.declared.event.Action.{Action}
use Rattle.tier_model.specs.declared.event.Action.TheVariants.{Open, LookUp, Poll, Begin, Revalidate, Piece, Finish, Read, Drop, Purge, Put}
use Rattle.tier_model.specs.declared.event.Answer.{Answer}
use Rattle.tier_model.specs.declared.event.Answer.TheVariants.{Waited}
use Rattle.tier_model.specs.declared.event.TierFault.{TierFault}
use Rattle.tier_model.specs.Calls.{Call, History, Outcome, done_of, judged_of}
use Rattle.tier_model.specs.Histories.{Opening, writes_begun, is_landing, changes_of}
use Rattle.tier_model.specs.State.{Reader, Request, State}
use Rattle.tier_model.specs.Checks.{refusal}
use Rattle.tier_model.specs.Answers.{look_for, lock_given, look_answer, read_answer, IsBeginAnswer}
use Rattle.tier_model.specs.Step.{UseFits, IsAnswer, AllowsBy, Allows}
use Rattle.tier_model.specs.After.{reader_of, looked, after_wait, confirmed, after}
use Rattle.tier_model.specs.Past.{HasToRead}
use Rattle.tier_model.proofs.OtherLaws.{other-call}
use Rattle.tier_model.proofs.CallLaws.{Inside, call_at, named_by, is_named, begin_turn, back_turn, land_turn, read_turn, judged_at, judged_for, turn, requests-after}
use Rattle.tier_model.proofs.OpenLaws.{Holds, IsOpen, unrefused}
use Rattle.tier_model.proofs.StreamLaws.{Counted, wait_reader, back_reader, land_reader}
use Rattle.tier_model.proofs.ReadLaws.{ReadsFit, carry, carry_all, looked_fits, begun_fits, read_fits}

module _ (start : Opening) (s : State) (h : History) (l : Holds start s h) (count : s.shelf.writes ≡ writes_begun start h)
    (opened : (r : ℕ) (q : Request) → get s.requests r ≡ Some q → IsOpen start r q h) (counts : Counted s (changes_of start h)) where
  module _ (reads : (id : ℕ) → ReadsFit start id (get s.requests id) h) where
    the_reads : (r : ℕ) (q : Request) → get s.requests r ≡ Some q → HasToRead start r q.reader h
    the_reads r q e = subst (λ (o : Option Request). ReadsFit start r o h) e (reads r)

    same_reader : (id : ℕ) (q new : Request) (c : Call) → new.reader ≡ q.reader → HasToRead start id q.reader (c ∷ h) → HasToRead start id new.reader (c ∷ h)
    same_reader id q new c e fits = subst (λ (r : Reader). HasToRead start id r (c ∷ h)) (sym e) fits

    wait_fits : (t : MomentValue) (i : Inside) (id k : ℕ) (a : Answer) (o : Option Request) → ReadsFit start id o h
        → ReadsFit start id (turn s t (Poll k) None (Ok a) o) (call_at t (Poll k) i (Ok a) ∷ h)
    wait_fits t i id k (Waited outcome) None fits = tt
    wait_fits t i id k (Waited outcome) (Some q) fits =
        same_reader id q (after_wait t outcome q.held q) (call_at t (Poll k) i (Ok (Waited outcome))) (wait_reader t outcome q.held q) (carry start id q.reader (call_at t (Poll k) i (Ok (Waited outcome))) h refl refl fits)
    wait_fits t i id k a o fits = carry_all start id o (call_at t (Poll k) i (Ok a)) h refl refl fits

    land_fits : (t : MomentValue) (i : Inside) (id k : ℕ) (o : Outcome) (x : Option Request) → ReadsFit start id x h
        → ReadsFit start id (option_map (land_turn (is_landing o)) x) (call_at t (Finish k) i o ∷ h)
    land_fits t i id k o None fits = tt
    land_fits t i id k o (Some q) fits = same_reader id q (land_turn (is_landing o) q) (call_at t (Finish k) i o) (land_reader (is_landing o) q) (carry start id q.reader (call_at t (Finish k) i o) h refl refl fits)

    confirm_reads : (t : MomentValue) (i : Inside) (id k : ℕ) (head : List ℕ) (given : Option GivenMeta) (a : Answer) (x : Option Request) → ReadsFit start id x h
        → ReadsFit start id (option_map (λ q. confirmed q) x) (call_at t (Revalidate k head given) i (Ok a) ∷ h)
    confirm_reads t i id k head given a None fits = tt
    confirm_reads t i id k head given a (Some q) fits = carry start id q.reader (call_at t (Revalidate k head given) i (Ok a)) h refl refl fits

    renewal_reads : (t : MomentValue) (i : Inside) (id k : ℕ) (head : List ℕ) (given : Option GivenMeta) (f : TierFault) (x : Option Request) → ReadsFit start id x h
        → ReadsFit start id (option_map (back_turn (judged_at s (Revalidate k head given) (call_at t (Revalidate k head given) i (Err f))) (done_of f).stored) x) (call_at t (Revalidate k head given) i (Err f) ∷ h)
    renewal_reads t i id k head given f None fits = tt
    renewal_reads t i id k head given f (Some q) fits =
        let c = call_at t (Revalidate k head given) i (Err f) in
        same_reader id q (back_turn (judged_at s (Revalidate k head given) c) (done_of f).stored q) c (back_reader (judged_at s (Revalidate k head given) c) (done_of f).stored q) (carry start id q.reader c h refl refl fits)

    look_named : (t : MomentValue) (i : Inside) (k : ℕ) (a : Answer) (o : Option Request) → get s.requests k ≡ o
        → MatchOption o ⊥ (λ q. (a ≡ look_answer t (lock_given t q (look_for q s.shelf) s.lock) (look_for q s.shelf)) × UseFits s q (look_for q s.shelf))
        → ReadsFit start k (option_map (λ q. looked t q (look_for q s.shelf) s.lock) o) (call_at t (LookUp k) i (Ok a) ∷ h)
    look_named t i k a None e p = absurd p
    look_named t i k a (Some q) e p =
        subst (λ (y : Answer). HasToRead start k (reader_of (look_for q s.shelf)) (call_at t (LookUp k) i (Ok y) ∷ h)) (sym p.0)
        (looked_fits start s h l count opened counts t i k q (look_for q s.shelf) (lock_given t q (look_for q s.shelf) s.lock) (opened k q e) refl)

    begin_named : (t : MomentValue) (i : Inside) (k : ℕ) (head : List ℕ) (given : Option GivenMeta) (a : Answer) (o : Option Request) → get s.requests k ≡ o → IsBeginAnswer (judged_of (call_at t (Begin k head given) i (Ok a))) a
        → ReadsFit start k (option_map (begin_turn s (judged_of (call_at t (Begin k head given) i (Ok a)))) o) (call_at t (Begin k head given) i (Ok a) ∷ h)
    begin_named t i k head given a None e p = tt
    begin_named t i k head given a (Some q) e p = begun_fits start s h l count opened counts t i k head given q a (judged_of (call_at t (Begin k head given) i (Ok a))) (opened k q e) refl p

    read_named : (t : MomentValue) (i : Inside) (k : ℕ) (a : Answer) (o : Option Request) → get s.requests k ≡ o → MatchOption o ⊥ (λ q. a ≡ read_answer q.reader s.shelf)
        → ReadsFit start k (option_map (read_turn a) o) (call_at t (Read k) i (Ok a) ∷ h)
    read_named t i k a None e p = tt
    read_named t i k a (Some q) e p = read_fits start s h l count opened counts t i k q q.reader a e refl p (the_reads k q e)

    answer_reads : (t : MomentValue) (i : Inside) (action : Action) (a : Answer) → IsAnswer s t action (call_at t action i (Ok a)) a → (id : ℕ) → is_named id (named_by action) ≡ true
        → ReadsFit start id (turn s t action (judged_for s (call_at t action i (Ok a))) (Ok a) (get s.requests id)) (call_at t action i (Ok a) ∷ h)
    answer_reads t i (Open k key asks) a p id e = tt
    answer_reads t i (LookUp k) a p id e =
        subst (λ (x : ℕ). ReadsFit start x (option_map (λ q. looked t q (look_for q s.shelf) s.lock) (get s.requests x)) (call_at t (LookUp k) i (Ok a) ∷ h)) (eqb-true k id e) (look_named t i k a (get s.requests k) refl p)
    answer_reads t i (Poll k) a p id e = wait_fits t i id k a (get s.requests id) (reads id)
    answer_reads t i (Begin k head given) a p id e =
        subst (λ (x : ℕ). ReadsFit start x (option_map (begin_turn s (judged_of (call_at t (Begin k head given) i (Ok a)))) (get s.requests x)) (call_at t (Begin k head given) i (Ok a) ∷ h)) (eqb-true k id e)
        (begin_named t i k head given a (get s.requests k) refl p)
    answer_reads t i (Revalidate k head given) a p id e = confirm_reads t i id k head given a (get s.requests id) (reads id)
    answer_reads t i (Piece k bytes last) a p id e = carry_all start id (get s.requests id) (call_at t (Piece k bytes last) i (Ok a)) h refl refl (reads id)
    answer_reads t i (Finish k) a p id e = land_fits t i id k (Ok a) (get s.requests id) (reads id)
    answer_reads t i (Read k) a p id e =
        subst (λ (x : ℕ). ReadsFit start x (option_map (read_turn a) (get s.requests x)) (call_at t (Read k) i (Ok a) ∷ h)) (eqb-true k id e) (read_named t i k a (get s.requests k) refl p)
    answer_reads t i (Drop k) a p id e = tt
    answer_reads t i (Purge key) a p id e = absurd cc
    answer_reads t i (Put key pieces given) a p id e = absurd cc

    fault_reads : (t : MomentValue) (i : Inside) (action : Action) (f : TierFault) (id : ℕ) → is_named id (named_by action) ≡ true
        → ReadsFit start id (turn s t action (judged_for s (call_at t action i (Err f))) (Err f) (get s.requests id)) (call_at t action i (Err f) ∷ h)
    fault_reads t i (Finish k) f id e = land_fits t i id k (Err f) (get s.requests id) (reads id)
    fault_reads t i (Open k key asks) f id e = carry_all start id (get s.requests id) (call_at t (Open k key asks) i (Err f)) h refl refl (reads id)
    fault_reads t i (LookUp k) f id e = carry_all start id (get s.requests id) (call_at t (LookUp k) i (Err f)) h refl refl (reads id)
    fault_reads t i (Poll k) f id e = carry_all start id (get s.requests id) (call_at t (Poll k) i (Err f)) h refl refl (reads id)
    fault_reads t i (Begin k head given) f id e = carry_all start id (get s.requests id) (call_at t (Begin k head given) i (Err f)) h refl refl (reads id)
    fault_reads t i (Revalidate k head given) f id e = renewal_reads t i id k head given f (get s.requests id) (reads id)
    fault_reads t i (Piece k bytes last) f id e = carry_all start id (get s.requests id) (call_at t (Piece k bytes last) i (Err f)) h refl refl (reads id)
    fault_reads t i (Read k) f id e = carry_all start id (get s.requests id) (call_at t (Read k) i (Err f)) h refl refl (reads id)
    fault_reads t i (Drop k) f id e = carry_all start id (get s.requests id) (call_at t (Drop k) i (Err f)) h refl refl (reads id)
    fault_reads t i (Purge key) f id e = absurd cc
    fault_reads t i (Put key pieces given) f id e = absurd cc

    pub ReadsFit-after : (c : Call) → Allows s c → (id : ℕ) → ReadsFit start id (get (after s c).requests id) (c ∷ h)
    ReadsFit-after c p id = subst (λ (o : Option Request). ReadsFit start id o (c ∷ h)) (sym (requests-after s c id)) (by_name (is_named id (named_by c.event.action)) refl)
      where
        i : Inside
        i = record { reading = c.reading; began = c.began; asked = c.asked }

        by_outcome : (o : Outcome) → AllowsBy (refusal s c.event.action) s c.event.moment c.event.action (call_at c.event.moment c.event.action i o) o → is_named id (named_by c.event.action) ≡ true
            → ReadsFit start id (turn s c.event.moment c.event.action (judged_for s (call_at c.event.moment c.event.action i o)) o (get s.requests id)) (call_at c.event.moment c.event.action i o ∷ h)
        by_outcome (Ok a) p e =
            let q = unrefused s (refusal s c.event.action) c.event.moment c.event.action (call_at c.event.moment c.event.action i (Ok a)) a refl p in
            answer_reads c.event.moment i c.event.action a q.1 id e
        by_outcome (Err f) p e = fault_reads c.event.moment i c.event.action f id e

        by_name : (v : Bool) → is_named id (named_by c.event.action) ≡ v
            → ReadsFit start id (cond v (turn s c.event.moment c.event.action (judged_for s c) c.outcome (get s.requests id)) (get s.requests id)) (c ∷ h)
        by_name true e = by_outcome c.outcome p.outcome e
        by_name false e =
            let other = other-call id c.event.moment c.event.action c.outcome e in
            carry_all start id (get s.requests id) c h other.reader other.bytes (reads id)
