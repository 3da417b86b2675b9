-- Two tiers, request by request.
use Rattle.std.proofs.Common.{◌≡◌, ℕ, Bool, true, List, ◌∷◌, [], ◌++◌, length, Option, Some, None, Ok, ap, sym, ◌∙◌, subst}
use Rattle.std.specs.Prelude.{◌↔◌}
use Rattle.std.specs.List.{AllByRecursion}
use Rattle.rand_core.specs.Stream.{Stream}
use Rattle.cache_entries.specs.declared.entry.CacheEntryKey.{CacheEntryKey}
use Rattle.cache_evict.specs.Managed.{fresh, rows_at}
use Rattle.curve_loads.specs.Steps.{Step, has_row, held}
use Rattle.curve_loads.specs.Loads.{Stays}
use Rattle.curve_loads.specs.Finds.{IsFront}
use Rattle.curve_loads.proofs.Held.{held-stays}
use Rattle.curve_loads.proofs.Places.{places-of, test-of}
use Rattle.curve_loads.proofs.Fronts.{found-held}
use Rattle.tier_loads.proofs.InTurn.{front-two}
use Rattle.tier_model.specs.Keys.{Entry, alone}
use Rattle.tier_model.specs.State.{Settings, State, shards_of, empty_state}
use Rattle.tier_loads.specs.Holds.{AreApart, HoldsAfter}
use Rattle.tier_loads.specs.Requests.{PlainRequest, entry_of as plain_entry, step_of}
use Rattle.tier_loads.specs.Uniform.{IsWeighed, used_in, weight_in}
use Rattle.tier_loads.specs.Uniform as plain
use Rattle.tier_loads.proofs.OneRequest.{holds-request}
use Rattle.tier_loads.proofs.AllRequests.{uniform-held}
use Rattle.tier_loads.proofs.Chosen.{chosen-uniform}
use Rattle.tier_served.specs.Requests.{entry_for, step_for}
use Rattle.tier_served.specs.Uniform.{IsAlike, IsUniform, IsSeenAs, AreSeenAs, IsPlain}
use Rattle.tier_served.specs.Leaves.{Leaves}
use Rattle.tier_pairs.specs.Two.{ServesBoth, AreComparable, AreUniform, found_by, all_seen, AreFound}
use Rattle.tier_served.specs.declared.request.Request.{Request}
use Rattle.tier_served.specs.declared.request.Served.{Served}
use Rattle.tier_pairs.specs.declared.side_by_side.Pair.{Pair}
use Rattle.tier_pairs.proofs.Doing.{done}

-- ---- of uniform requests each asks for something

all-alike : (p : PlainRequest) (seen : List (Option PlainRequest)) → AllByRecursion (IsAlike p) seen → AllByRecursion (plain.AreAlike p) (all_seen seen)
all-alike p [] h = tt
all-alike p (None ∷ seen) h = all-alike p seen h.1
all-alike p (Some q ∷ seen) h = (h.0, all-alike p seen h.1)

pub uniform-plain : (seen : List (Option PlainRequest)) → IsUniform seen → plain.IsUniform (all_seen seen)
uniform-plain [] h = tt
uniform-plain (None ∷ seen) h = absurd h
uniform-plain (Some p ∷ seen) h = (all-alike p seen h.0, uniform-plain seen h.1)

-- ---- one request of one tier

module _ (in_use : Entry → Bool) (apart : AreApart in_use) (weight : CacheEntryKey → ℕ) where
  -- the laws of loads hold of the state, and no write is in flight
  pub record HoldsFor (a : Settings) (steps : List Step) (s : State) : Type 0 where
    pub holds : HoldsAfter in_use weight a.limit a.watermark steps s.managed s.shelf.bodies
    pub grounded : s.shelf.flying ≡ []

  one-shard : (a : Settings) (steps : List Step) (s : State) → HoldsFor a steps s → shards_of s ≡ 1
  one-shard a steps s h = ap length h.holds.one.shards

  after_one : (a : Settings) (steps : List Step) (s new : State) (r : Request) (p : PlainRequest) (told : Served) → HoldsFor a steps s → in_use (plain_entry p) ≡ true → IsWeighed weight p → IsPlain r
      → IsSeenAs r (Some p) → Leaves s r (Ok told) new → HoldsFor a (step_for r ∷ steps) new × (found_by told ≡ has_row (entry_for r) (held weight a.limit a.watermark steps))
  after_one a steps s new r p told h used weighed is_plain seen leaves =
      let d = done s r p told new h.grounded (one-shard a steps s h) leaves is_plain seen in
      let next : HoldsAfter in_use weight a.limit a.watermark (step_of p ∷ steps) new.managed new.shelf.bodies =
      holds-request in_use apart weight a.limit a.watermark p steps s.managed new.managed s.shelf.bodies new.shelf.bodies h.holds used weighed d.0.does in (
        record { holds = subst (λ (x : Step). HoldsAfter in_use weight a.limit a.watermark (x ∷ steps) new.managed new.shelf.bodies) d.2 next; grounded = d.0.grounded },
        d.0.found ∙ h.holds.agrees.both (plain_entry p) used ∙ ap (λ (k : Entry). has_row (alone k) (held weight a.limit a.watermark steps)) d.1,
      )

  law : (a : Settings) (steps : List Step) (e : CacheEntryKey) (found : Bool) → found ≡ has_row e (held weight a.limit a.watermark steps) → (found ≡ true) ↔ Stays weight a.limit a.watermark e steps
  law a steps e found is =
      let same = is ∙ held-stays weight a.limit a.watermark e steps in
      (λ h. places-of weight a.limit a.watermark e steps (sym same ∙ h), λ o. same ∙ test-of weight a.limit a.watermark e steps o)

  -- ---- all requests of both

  module _ (a b : Settings) (c : AreComparable a b) where
    pub found_all : (steps : List Step) (requests more : List Request) (seen : List (Option PlainRequest)) (pairs : List Pair) (l g : State) (s : Stream) (l' g' : State) (rest : Stream)
        → HoldsFor a steps l → HoldsFor b steps g → AllByRecursion IsPlain (requests ++ more) → AreSeenAs (requests ++ more) seen → IsUniform seen
        → AllByRecursion (λ p. in_use (plain_entry p) ≡ true) (all_seen seen) → AllByRecursion (λ p. IsWeighed weight p) (all_seen seen) → ServesBoth l g s requests pairs l' g' rest
        → AreFound weight a b steps (requests ++ more) pairs × ((after : List Step) × HoldsFor a after l' × HoldsFor b after g')
    found_all steps [] more seen [] l g s l' g' rest hl hg plains seen_as u used weighed both =
        (tt, (steps, subst (λ (x : State). HoldsFor a steps x) (sym both.0) hl, subst (λ (x : State). HoldsFor b steps x) (sym both.1) hg))
    found_all steps [] more seen (p ∷ pairs) l g s l' g' rest hl hg plains seen_as u used weighed both = absurd both
    found_all steps (r ∷ requests) more seen [] l g s l' g' rest hl hg plains seen_as u used weighed both = absurd both
    found_all steps (r ∷ requests) more [] (p ∷ pairs) l g s l' g' rest hl hg plains seen_as u used weighed both = absurd seen_as
    found_all steps (r ∷ requests) more (None ∷ seen) (p ∷ pairs) l g s l' g' rest hl hg plains seen_as u used weighed both = absurd u
    found_all steps (r ∷ requests) more (Some q ∷ seen) (p ∷ pairs) l g s l' g' rest hl hg plains seen_as u used weighed both =
        let ml = after_one a steps l both.0 r q p.lesser hl used.0 weighed.0 plains.0 seen_as.0 both.4.leaves in
        let mg = after_one b steps g both.1 r q p.greater hg used.0 weighed.0 plains.0 seen_as.0 both.5.leaves in
        let rec = found_all (step_for r ∷ steps) requests more seen pairs both.0 both.1 both.3 l' g' rest ml.0 mg.0 plains.1 seen_as.1 u.1 used.1 weighed.1 both.6 in
        let e : CacheEntryKey = entry_for r in (
          (
            law a steps e (found_by p.lesser) ml.1,
            law b steps e (found_by p.greater) mg.1,
            λ h. mg.1 ∙ found-held a.limit b.limit a.watermark b.watermark c.limits c.watermarks weight steps e (sym ml.1 ∙ h),
            rec.0,
          ),
          rec.1,
        )

    pub fronts : (steps : List Step) (l g : State) → HoldsFor a steps l → HoldsFor b steps g → IsFront (rows_at l.managed.shards 0) (rows_at g.managed.shards 0)
    fronts steps l g hl hg = front-two weight a.limit b.limit a.watermark b.watermark c.limits c.watermarks steps l.managed g.managed hl.holds.one hg.holds.one

-- ---- from empty

pub holds-empty : (requests : List PlainRequest) → plain.IsUniform requests → (apart : AreApart (used_in requests)) → (a : Settings) (s : State) → a.shards ≡ 1 → s ≡ empty_state a
    → HoldsFor (used_in requests) apart (weight_in requests) a [] s
holds-empty requests u apart a s one is = record {
  holds =
      uniform-held (used_in requests) (weight_in requests) a.limit a.watermark [] s.managed s.shelf.bodies (record { apart = apart; used = tt; weighed = tt })
      (ap (λ (x : State). x.managed) is ∙ ap (λ (n : ℕ). fresh n a.limit a.watermark) one, ap (λ (x : State). x.shelf.bodies) is);
  grounded = ap (λ (x : State). x.shelf.flying) is;
}

-- what both answered to the first of the requests, and both orders of use then
pub compared : (a b : Settings) → AreComparable a b → (requests more : List Request) (seen : List (Option PlainRequest)) → AreUniform (requests ++ more) seen → (pairs : List Pair) (l g : State) (s : Stream) (l' g' : State) (rest : Stream)
    → l ≡ empty_state a → g ≡ empty_state b → ServesBoth l g s requests pairs l' g' rest
    → AreFound (weight_in (all_seen seen)) a b [] (requests ++ more) pairs × IsFront (rows_at l'.managed.shards 0) (rows_at g'.managed.shards 0)
compared a b c requests more seen u pairs l g s l' g' rest il ig both =
    let asked : List PlainRequest = all_seen seen in
    let same = uniform-plain seen u.uniform in
    let chosen = chosen-uniform asked same in
    let all = found_all (used_in asked) chosen.apart (weight_in asked) a b c [] requests more seen pairs l g s l' g' rest (holds-empty asked same chosen.apart a l c.one il) (holds-empty asked same chosen.apart b g c.other ig) u.plain u.seen_as u.uniform
    chosen.used chosen.weighed both in
    (all.0, fronts (used_in asked) chosen.apart (weight_in asked) a b c all.1.0 l' g' all.1.1 all.1.2)
