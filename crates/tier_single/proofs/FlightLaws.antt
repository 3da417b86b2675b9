-- The write of an open request is in flight, under the request's own key.
use Rattle.std.proofs.Common.{◌≡◌, ℕ, refl, ap, sym, ◌∙◌, subst, Some}
use Rattle.std.specs.Prelude.{find, option_map}
use Rattle.std.specs.FinMap.{get}
use Rattle.cache_entries.specs.Entry.{key_of}
use Rattle.cache_changes.specs.Store.{store_of, has_number as held_number}
use Rattle.cache_changes.proofs.FlightLaws.{flight, flying_of, flying_at-is}
use Rattle.cache_changes.proofs.WriteLaws.{life-flies}
use Rattle.tier_model.specs.Keys.{alone}
use Rattle.tier_model.specs.Calls.{History}
use Rattle.tier_model.specs.Histories.{Opening, changes_of}
use Rattle.tier_model.specs.Shelf.{InFlight, has_number, flying_at}
use Rattle.tier_model.specs.State.{Request, State}
use Rattle.tier_model.specs.Answers.{key_for}
use Rattle.tier_model.specs.Past.{plain, HasPast, HasAPast}
use Rattle.tier_model.proofs.FlightLaws.{find-plain}
use Rattle.tier_model.proofs.OpenLaws.{the-write}
use Rattle.tier_model.proofs.StandLaws.{Stands, Stands-lawful, opened_request}

-- the write n of a request flies, and the request's entry has no id
pub record FliesFor (s : State) (q : Request) (n : ℕ) : Type 0 where
  pub flight : InFlight
  pub at : flying_at n s.shelf.flying ≡ Some flight
  pub number : flight.number ≡ n
  pub key : flight.key ≡ key_for q
  pub entry : q.entry ≡ alone (key_of q.entry)

flies_after : (start : Opening) (s : State) (h : History) → HasPast start s h → (id n : ℕ) (q : Request) → get s.requests id ≡ Some q → q.write ≡ Some n → FliesFor s q n
flies_after start s h p id n q there writes =
    let past : Stands start s h = subst (λ (x : State). Stands start x h) (sym p.state) (Stands-lawful start h p.lawful) in
    let opens = opened_request start s h past id q there in
    let x = the-write start id q h opens past.writes n writes in
    let l = past.holds.leaves in
    let known = life-flies x.write (changes_of start h) l.orderly x.flies in
    let told = flying_at-is x.write.number (changes_of start h) l.orderly ∙ ap (flying_of (changes_of start h)) known.1 in
    let f : InFlight = plain (flight x.write known.0 (changes_of start h)) in
    let found : flying_at x.write.number s.shelf.flying ≡ Some f = ap (find (has_number x.write.number)) l.flights
    ∙ find-plain (held_number x.write.number) (has_number x.write.number) (store_of (changes_of start h)).flying (λ g. refl) ∙ ap (option_map plain) told in
    let same : x.write.number ≡ n = let both : Some x.write.number ≡ Some n = sym x.number ∙ writes in cc in
    record { flight = f; at = subst (λ (m : ℕ). flying_at m s.shelf.flying ≡ Some f) same found; number = same; key = x.of_key; entry = opens.entry }

pub flies-for : (s : State) → HasAPast s → (id n : ℕ) (q : Request) → get s.requests id ≡ Some q → q.write ≡ Some n → FliesFor s q n
flies-for s past id n q there writes = flies_after past.0 s past.1 past.2 id n q there writes
