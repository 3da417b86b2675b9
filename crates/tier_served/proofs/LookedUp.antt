-- A look-up, by what the code asks of its answer.
use Rattle.std.proofs.Common.{◌≡◌, ℕ, Bool, true, false, List, ◌∷◌, [], Option, Some, None, Ok, refl, ap, ◌∙◌}
use Rattle.rand_core.specs.Stream.{Stream}
use Rattle.cache_words.specs.Time.{MomentValue}
use Rattle.tier_model.specs.declared.event.Action.TheVariants.{LookUp}
use Rattle.tier_model.specs.declared.event.Answer.{Answer}
use Rattle.tier_model.specs.declared.event.Answer.TheVariants.{Found}
use Rattle.tier_model.specs.declared.event.LockGiven.TheVariants as lock
use Rattle.tier_model.specs.Keys.{Entry}
use Rattle.tier_model.specs.State.{State}
use Rattle.tier_model.specs.Answers.{look_answer}
use Rattle.tier_model.specs.Shelf.{Look}
use Rattle.tier_single.specs.Takes.{Takes}
use Rattle.tier_served.specs.Requests.{event_at}
use Rattle.tier_served.specs.Courses.{is_found, is_hit}
use Rattle.tier_served.specs.Looks.{hit_of, IsNew, IsUnread, Reads, Looks}
use Rattle.tier_served.specs.declared.look_ups.Looked.TheVariants.{Fresh, Missed}
use Rattle.tier_served.proofs.Looking.{looks, hit-unread, looked-fresh, looked-missed}

some_same : {u v : Bool} → Some u ≡ Some v → u ≡ v
some_same e = cc

none_not : {v : Bool} → ◌≡◌ {A = Option Bool} None (Some v) → ⊥
none_not e = cc

some_not : {v : Bool} → ◌≡◌ {A = Option Bool} (Some v) None → ⊥
some_not e = cc

-- something was found
found-some : (a : Answer) (v : Bool) → hit_of a ≡ Some v → (is_found a ≡ true) × (is_hit a ≡ v)
found-some (Found fresh complete given) v h = (refl, some_same h)
found-some _ v h = absurd (none_not h)

-- nothing was found
found-none : (a : Answer) → hit_of a ≡ None → (is_found a ≡ false) × (is_hit a ≡ false)
found-none (Found fresh complete given) h = absurd (some_not h)
found-none _ h = (refl, refl)

module _ (old : State) (s : Stream) (t : MomentValue) (id : ℕ) (mid : State) (left : Stream) (a : Answer) (takes : Takes old s (event_at t (LookUp id) ∷ []) (Ok a ∷ []) mid left) where
  pub looked-absent : hit_of a ≡ None → (e : Entry) → IsNew old id e → Looks old s t id e (Ok (Missed false)) mid left
  looked-absent h e is_new = let r = found-none a h in looked-missed old s t id e is_new a false mid left r.1 r.0 takes

  -- not all of a fresh body was found
  pub looked-stale : hit_of a ≡ Some false → (e : Entry) → IsNew old id e → Looks old s t id e (Ok (Missed true)) mid left
  looked-stale h e is_new = let r = found-some a false h in looked-missed old s t id e is_new a true mid left r.1 r.0 takes

  module _ (h : hit_of a ≡ Some true) where
    whole : is_hit a ≡ true
    whole = (found-some a true h).1

    -- all of it is to be read
    pub unread : (new : (e : Entry) × IsNew old id e) → (bytes : List ℕ) × IsUnread mid id bytes
    unread new =
        let r = hit-unread old s t id new.0 new.1 a mid left whole takes in
        (r.0.body.bytes, r.3)

    -- and was read
    pub looked-whole : (e : Entry) → IsNew old id e → (body : List ℕ) (new : State) (rest : Stream) → Reads mid left t id body new rest → Looks old s t id e (Ok (Fresh body)) new rest
    looked-whole e is_new body new rest reads =
        let r = hit-unread old s t id e is_new a mid left whole takes in
        let told : a ≡ Found true true lock.None =
        (looks old s t id e is_new a mid left takes).0 ∙ ap (λ (l : Look). look_answer t lock.None l) r.1 ∙ ap (λ (v : Bool). Found v true lock.None) r.2 in
        looked-fresh old s t id e is_new a mid new left rest body whole told takes reads
