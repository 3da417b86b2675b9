-- What a table knows of requests says whether another one is alike to all of them.
use Rattle.std.proofs.Common.{◌≡◌, ℕ, Bool, true, false, cond, List, ◌∷◌, [], Option, Some, None, refl, ap, sym, ◌∙◌, subst}
use Rattle.std.specs.Prelude.{◌&&◌, ◌↔◌, MatchOption, map, option_map, Result, Ok, Err, IfOk}
use Rattle.std.specs.List.{AllByRecursion}
use Rattle.std.proofs.lemmas.Bool.{false≢true, and_from, eqb-true, eq-eqb}
use Rattle.cache_entries.specs.declared.entry.CacheEntryKey.{CacheEntryKey}
use Rattle.cache_entries.specs.Entry.{same_entry, key_of}
use Rattle.cache_entries.specs.Keys.{same_bytes}
use Rattle.cache_entries.specs.SameEntry.{same_bytes-tells, same-sym}
use Rattle.cache_changes.specs.Changes.{stored_key}
use Rattle.curve_loads.proofs.Entries.{same-self, same-is}
use Rattle.tier_model.specs.Keys.{alone}
use Rattle.tier_loads.specs.Requests.{PlainRequest, asks, purges, entry_of}
use Rattle.tier_loads.specs.Uniform.{WeighTheSame, AreAlike}
use Rattle.tier_loads.specs.Uniform as plain
use Rattle.tier_served.specs.declared.seen.Seen.{Seen}
use Rattle.tier_served.specs.Uniform.{IsAlike, IsUniform}
use Rattle.tier_served.specs.Known.{weight_of, shown, same_weight, fits, either, added, known_at, fits_by, fits_all, fitting, some, AreNoted}

both : (x y : Bool) → (x && y) ≡ true → (x ≡ true) × (y ≡ true)
both true y h = (refl, h)
both false y h = absurd (false≢true h)

abbrev pub key : PlainRequest → List ℕ
key p = stored_key (entry_of p)

-- two weights are the same, where both are known
abbrev AreSame : Option ℕ → Option ℕ → Type 0
AreSame (Some m) (Some n) = m ≡ n
AreSame _ _ = Unit {0}

known-same : (p q : PlainRequest) → WeighTheSame p q → AreSame (weight_of p) (weight_of q)
known-same (asks b) (asks c) h = h
known-same (asks b) (purges k) h = tt
known-same (purges k) (asks c) h = tt
known-same (purges k) (purges j) h = tt

weigh-same : (p q : PlainRequest) → AreSame (weight_of p) (weight_of q) → WeighTheSame p q
weigh-same (asks b) (asks c) h = h
weigh-same (asks b) (purges k) h = tt
weigh-same (purges k) (asks c) h = tt
weigh-same (purges k) (purges j) h = tt

same-weight : (m n : Option ℕ) → same_weight m n ≡ true → AreSame m n
same-weight None n h = tt
same-weight (Some m) None h = tt
same-weight (Some m) (Some n) h = eqb-true m n h

weight-same : (m n : Option ℕ) → AreSame m n → same_weight n m ≡ true
weight-same None None h = refl
weight-same None (Some n) h = refl
weight-same (Some m) None h = refl
weight-same (Some m) (Some n) h = eq-eqb n m (sym h)

turned : (m n : Option ℕ) → AreSame m n → AreSame n m
turned None None h = tt
turned None (Some n) h = tt
turned (Some m) None h = tt
turned (Some m) (Some n) h = sym h

-- what is known of requests that are alike to p, by its stored key: its entry, and no other weight
abbrev pub IsOf : PlainRequest → Option Seen → Type 0
IsOf p o = MatchOption o (Unit {0}) (λ x. (x.entry ≡ alone (entry_of p)) × AreSame (weight_of p) x.weight)

joined : (p r : PlainRequest) (o : Option Seen) → IsOf p o → entry_of p ≡ entry_of r → AreSame (weight_of p) (weight_of r) → IsOf p (Some (added (shown r) o))
joined p r None h e l = (ap alone (sym e), l)
joined p r (Some y) h e l = (ap alone (sym e), by y.weight h.1)
  where
    by : (n : Option ℕ) → AreSame (weight_of p) n → AreSame (weight_of p) (either n (weight_of r))
    by None m = l
    by (Some n) m = m

pub known-of : (p : PlainRequest) (known : List PlainRequest) → AllByRecursion (AreAlike p) known → IsOf p (known_at known (key p))
known-of p [] a = tt
known-of p (r ∷ known) a = by (same_bytes (key r) (key p)) refl (known-of p known a.1)
  where
    by : (t : Bool) → same_bytes (key r) (key p) ≡ t → IsOf p (known_at known (key p)) → IsOf p (cond t (Some (added (shown r) (known_at known (key p)))) (known_at known (key p)))
    by true t rest =
        let alike = a.0 (same-sym same_bytes same_bytes-tells (key p) (key r) ∙ t) in
        joined p r (known_at known (key p)) rest alike.0 (known-same p r alike.1)
    by false t rest = rest

-- one that is alike to all fits
pub alike-fits : (p : PlainRequest) (known : List PlainRequest) → AllByRecursion (AreAlike p) known → fits_all p known ≡ true
alike-fits p known a = by (known_at known (key p)) (known-of p known a)
  where
    by : (o : Option Seen) → IsOf p o → fits_by o (shown p) ≡ true
    by None h = refl
    by (Some x) h = and_from (same_entry x.entry (alone (entry_of p))) (same_weight x.weight (weight_of p)) (ap (λ (e : CacheEntryKey). same_entry e (alone (entry_of p))) h.0 ∙ same-self (alone (entry_of p)))
        (weight-same (weight_of p) x.weight h.1)

-- one that fits what r and others say, of r's stored key, is alike to r and fits the others
fits-both : (p r : PlainRequest) (o : Option Seen) → IsOf r o → fits_by (Some (added (shown r) o)) (shown p) ≡ true → (entry_of p ≡ entry_of r) × AreSame (weight_of p) (weight_of r) × (fits_by o (shown p) ≡ true)
fits-both p r None h f =
    let f' = both (same_entry (alone (entry_of r)) (alone (entry_of p))) (same_weight (weight_of r) (weight_of p)) f in
    (sym (ap key_of (same-is (alone (entry_of r)) (alone (entry_of p)) f'.0)), turned (weight_of r) (weight_of p) (same-weight (weight_of r) (weight_of p) f'.1), refl)
fits-both p r (Some y) h f =
    let f' = both (same_entry (alone (entry_of r)) (alone (entry_of p))) (same_weight (either y.weight (weight_of r)) (weight_of p)) f in
    let weights = by y.weight (weight_of r) h.1 f'.1 in (
      sym (ap key_of (same-is (alone (entry_of r)) (alone (entry_of p)) f'.0)),
      weights.0,
      and_from (same_entry y.entry (alone (entry_of p))) (same_weight y.weight (weight_of p)) (ap (λ (e : CacheEntryKey). same_entry e (alone (entry_of p))) h.0 ∙ f'.0) weights.1,
    )
  where
    by : (n m : Option ℕ) → AreSame m n → same_weight (either n m) (weight_of p) ≡ true → AreSame (weight_of p) m × (same_weight n (weight_of p) ≡ true)
    by None m s g = (turned m (weight_of p) (same-weight m (weight_of p) g), refl)
    by (Some n) None s g = (turned None (weight_of p) tt, g)
    by (Some n) (Some m) s g = (turned (Some m) (weight_of p) (same-weight (Some m) (weight_of p) (ap (λ (k : ℕ). same_weight (Some k) (weight_of p)) s ∙ g)), g)

-- one that fits is alike to all
pub fits-alike : (p : PlainRequest) (known : List PlainRequest) → plain.IsUniform known → fits_all p known ≡ true → AllByRecursion (AreAlike p) known
fits-alike p [] u f = tt
fits-alike p (r ∷ known) u f = by (same_bytes (key r) (key p)) refl f (fits-alike p known u.1)
  where
    -- what is known by the stored key of r is known by that of p, where they are the same
    of : same_bytes (key r) (key p) ≡ true → IsOf r (known_at known (key p))
    of t = subst (λ (k : List ℕ). IsOf r (known_at known k)) (same_bytes-tells.equal (key r) (key p) t) (known-of r known u.0)

    by : (t : Bool) → same_bytes (key r) (key p) ≡ t → fits_by (cond t (Some (added (shown r) (known_at known (key p)))) (known_at known (key p))) (shown p) ≡ true
        → (fits_all p known ≡ true → AllByRecursion (AreAlike p) known) → AllByRecursion (AreAlike p) (r ∷ known)
    by true t f rest =
        let parts = fits-both p r (known_at known (key p)) (of t) f in
        (λ s. (parts.0, weigh-same p r parts.1), rest parts.2)
    by false t f rest = (λ s. absurd (false≢true (sym t ∙ same-sym same_bytes same_bytes-tells (key r) (key p) ∙ s)), rest f)

-- what is known by a stored key
pub known-at : (known : List PlainRequest) (a k : List ℕ) → same_bytes a k ≡ true → known_at known k ≡ known_at known a
known-at known a k t = ap (known_at known) (sym (same_bytes-tells.equal a k t))

-- ---- one request after another

alike-some : (p : PlainRequest) (known : List PlainRequest) → AllByRecursion (AreAlike p) known → AllByRecursion (IsAlike p) (map some known)
alike-some p [] a = tt
alike-some p (q ∷ known) a = (a.0, alike-some p known a.1)

some-alike : (p : PlainRequest) (known : List PlainRequest) → AllByRecursion (IsAlike p) (map some known) → AllByRecursion (AreAlike p) known
some-alike p [] a = tt
some-alike p (q ∷ known) a = (a.0, some-alike p known a.1)

all-uniform : (known : List PlainRequest) → plain.IsUniform known → IsUniform (map some known)
all-uniform [] u = tt
all-uniform (p ∷ known) u = (alike-some p known u.0, all-uniform known u.1)

pub noted-next : (p : PlainRequest) (seen : List (Option PlainRequest)) (old new : List PlainRequest → Type 0) (yes : Bool) → AreNoted true seen old
    → ((known : List PlainRequest) → old known → (yes ≡ fits_all p known) × (yes ≡ true → new (p ∷ known))) → AreNoted yes (Some p ∷ seen) new
noted-next p seen old new true noted f =
    let g = f noted.0 noted.3 in
    (p ∷ noted.0, ap (λ (l : List (Option PlainRequest)). Some p ∷ l) noted.1, (fits-alike p noted.0 noted.2 (sym g.0), noted.2), g.1 refl)
noted-next p seen old new false noted f = λ u.
    let g = f noted.0 noted.3 in
    let alike : AllByRecursion (AreAlike p) noted.0 = some-alike p noted.0 (subst (λ (l : List (Option PlainRequest)). AllByRecursion (IsAlike p) l) noted.1 u.0) in
    false≢true (g.0 ∙ alike-fits p noted.0 alike)

pub noted-all : (yes : Bool) (seen : List (Option PlainRequest)) (old : List PlainRequest → Type 0) → AreNoted yes seen old → (yes ≡ true) ↔ IsUniform seen
noted-all true seen old noted = (λ h. subst IsUniform (sym noted.1) (all-uniform noted.0 noted.2), λ u. refl)
noted-all false seen old noted = (λ h. absurd (false≢true h), λ u. absurd (noted u))

-- something was seen, and noted
pub noted_if : {E : Type 0} (p : Option PlainRequest) (seen : Seen) (before : List (Option PlainRequest)) (old new : List PlainRequest → Type 0) (r : Result Bool E) → Some seen ≡ option_map shown p → AreNoted true before old
    → ((q : PlainRequest) (known : List PlainRequest) → seen ≡ shown q → old known → IfOk r (λ yes. (yes ≡ fits_all q known) × (yes ≡ true → new (q ∷ known)))) → IfOk r (λ yes. AreNoted yes (p ∷ before) new)
noted_if None seen before old new r h noted f = absurd cc
noted_if (Some q) seen before old new (Err e) h noted f = tt
noted_if (Some q) seen before old new (Ok was) h noted f = noted-next q before old new was noted (λ known k. f q known (same h) k)
  where
    same : Some seen ≡ Some (shown q) → seen ≡ shown q
    same h = cc

-- ---- one table

-- what fits, and what is known then
pub fitting-some : (o : Option Seen) (seen : Seen) (n : Option ℕ) → fitting o seen ≡ Some n → (fits_by o seen ≡ true) × (record seen { weight = n } ≡ added seen o)
fitting-some None seen n h = (refl, ap (λ (k : Option ℕ). record seen { weight = k }) (same h))
  where
    same : Some seen.weight ≡ Some n → n ≡ seen.weight
    same h = cc
fitting-some (Some known) seen n h = by (fits known seen) refl h
  where
    by : (t : Bool) → fits known seen ≡ t → cond t (Some (either known.weight seen.weight)) None ≡ Some n → (fits known seen ≡ true) × (record seen { weight = n } ≡ record seen { weight = either known.weight seen.weight })
    by true is h = (is, ap (λ (k : Option ℕ). record seen { weight = k }) (same h))
      where
        same : Some (either known.weight seen.weight) ≡ Some n → n ≡ either known.weight seen.weight
        same h = cc
    by false is h = absurd cc

-- a table that has one more knows one more
pub knows-more : (p : PlainRequest) (known : List PlainRequest) (old new : List ℕ → Option Seen) (x : Seen) → ((k : List ℕ) → old k ≡ known_at known k) → x ≡ added (shown p) (old (key p))
    → ((k : List ℕ) → new k ≡ cond (same_bytes (key p) k) (Some x) (old k)) → (k : List ℕ) → new k ≡ known_at (p ∷ known) k
knows-more p known old new x knows is updates k = updates k ∙ by (same_bytes (key p) k) refl
  where
    by : (t : Bool) → same_bytes (key p) k ≡ t → cond t (Some x) (old k) ≡ cond t (Some (added (shown p) (known_at known k))) (known_at known k)
    by true t = ap (λ (y : Seen). Some y) (is ∙ ap (λ (o : Option Seen). added (shown p) o) (knows (key p) ∙ sym (known-at known (key p) k t)))
    by false t = knows k

-- what was seen fits, and the table has it
pub noted-one : (p : PlainRequest) (known : List PlainRequest) (seen : Seen) (stored : List ℕ) (old new : List ℕ → Option Seen) (n : Option ℕ) → seen ≡ shown p → ((k : List ℕ) → old k ≡ known_at known k)
    → stored ≡ stored_key (key_of seen.entry) → fitting (old stored) seen ≡ Some n → ((k : List ℕ) → new k ≡ cond (same_bytes stored k) (Some (record seen { weight = n })) (old k))
    → (true ≡ fits_all p known) × ((k : List ℕ) → new k ≡ known_at (p ∷ known) k)
noted-one p known seen stored old new n same knows is fit updates =
    let f = fitting-some (old stored) seen n fit in
    let at : stored ≡ key p = is ∙ ap (λ (s : Seen). stored_key (key_of s.entry)) same in
    let there : old stored ≡ known_at known (key p) = knows stored ∙ ap (known_at known) at in (
      sym f.0 ∙ ap (λ (o : Option Seen). fits_by o seen) there ∙ ap (λ (s : Seen). fits_by (known_at known (key p)) s) same,
      knows-more p known old new (record seen { weight = n }) knows (f.1 ∙ ap (λ (s : Seen). added s (old stored)) same ∙ ap (λ (k : List ℕ). added (shown p) (old k)) at)
          (λ k. updates k ∙ ap (λ (s : List ℕ). cond (same_bytes s k) (Some (record seen { weight = n })) (old k)) at),
    )
