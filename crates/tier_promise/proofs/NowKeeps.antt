-- A tier's changes stay in order, and each body's entry tracked with at least the body's size, change by change.
use Rattle.std.proofs.Common.{◌≡◌, ℕ, ◌+◌, ◌≤◌, refl, ap, sym, ◌∙◌, true, false, subst, cond, [], ◌∷◌, ◌++◌, ◌==◌, length, arith}
use Rattle.std.specs.Prelude.{Bool, List, Option, Some, None, option_map, option_and_then, is_some, find}
use Rattle.std.specs.List.{AllByRecursion}
use Rattle.std.specs.Option.{option_or}
use Rattle.std.proofs.lemmas.Bool.{eqb-true, eq-eqb}
use Rattle.cache_entries.specs.declared.entry.CacheEntryKey.{CacheEntryKey}
use Rattle.cache_entries.specs.Entry.{same_entry}
use Rattle.cache_entries.specs.Keys.{same_bytes}
use Rattle.cache_entries.specs.Rows.{weight_of, admitted}
use Rattle.cache_entries.specs.declared.rows.Tracked.{Tracked}
use Rattle.cache_entries.specs.SameEntry.{same_bytes-tells, same_entry-tells}
use Rattle.cache_heads.specs.Meta.{meta_weight}
use Rattle.cache_heads.specs.declared.meta.CacheMeta.{CacheMeta}
use Rattle.cache_changes.specs.Bound.{is_entry_of}
use Rattle.cache_changes.specs.Changes.{StoredKey, stored_key}
use Rattle.cache_changes.specs.Uses.{reweighed, with_weight}
use Rattle.cache_changes.proofs.RowLaws.{find-passes, weight_of-admitted, weight_of-without, weight_of-with}
use Rattle.tier_model.specs.Calls.{extended}
use Rattle.tier_model.specs.Keys.{Entry, alone}
use Rattle.tier_model.specs.Rows.{size_of}
use Rattle.tier_promise.specs.Promise.{Write, Change, Changes, begins, appends, lands, puts, renews, weighs, takes, gives, ends, has_number, with_meta, bytes_of, as_body, flying, body_of, rows, is_alive, Request, Now}
use Rattle.tier_promise.proofs.NowLists.{found-holds}
use Rattle.tier_promise.proofs.NowOrder.{begun_at, Follows, IsOrderly, IsOpen, lands_it, open-later, open-new, IsFlightOf, flights-of, body-of, landed-other, renews-follows, one-body}

-- ---- each body is tracked

abbrev pub IsTracked : Write → Changes → Type 0
IsTracked w c = (weight : ℕ) × (weight_of (alone w.entry) (rows c) ≡ Some weight) × (size_of (as_body w c) ≤ weight)

abbrev pub Tracks : Changes → Type 0
Tracks c = (k : StoredKey) (w : Write) → body_of k c ≡ Some w → IsTracked w c

-- an entry of a body is put with no less than the body takes; what a body lands or is renewed with is settled apart
abbrev pub Minds : Change → Changes → Type 0
Minds (puts e v) c = (k : StoredKey) (w : Write) → body_of k c ≡ Some w → same_entry e (alone w.entry) ≡ true → size_of (as_body w c) ≤ v
Minds (lands n true) c = ⊥
Minds (renews n e meta) c = ⊥
Minds (weighs e v) c = ⊥
Minds _ c = Unit {0}

-- an entry has another weight, or is put with it
weight_of-reweighed : (e x : CacheEntryKey) (v : ℕ) (all : List Tracked) → weight_of e (reweighed x v all) ≡ cond (same_entry x e) (Some v) (weight_of e all)
weight_of-reweighed e x v all = by_weight (weight_of x all) refl
  where
    by_weight : (o : Option ℕ) → weight_of x all ≡ o → weight_of e (cond (is_some o) (with_weight x v all) (admitted x v all)) ≡ cond (same_entry x e) (Some v) (weight_of e all)
    by_weight None is = weight_of-admitted e x v all
    by_weight (Some w) is = weight_of-with e x v w all is

not_taken : (k : StoredKey) (e : CacheEntryKey) (w : Write) → same_bytes (stored_key w.entry) k ≡ true → is_entry_of k e ≡ false → same_entry e (alone w.entry) ≡ false
not_taken k e w own other = by_test (same_entry e (alone w.entry)) refl
  where
    by_test : (v : Bool) → same_entry e (alone w.entry) ≡ v → v ≡ false
    by_test false t = refl
    by_test true t = let gone : is_entry_of k (alone w.entry) ≡ false = subst (λ (x : CacheEntryKey). is_entry_of k x ≡ false) (same_entry-tells.equal e (alone w.entry) t) other in absurd cc

tracks-more : (x : Change) (c : Changes) → IsOrderly c → Follows x c → Minds x c → Tracks c → Tracks (x ∷ c)
tracks-more (begins v) c o f m t k w e = t k w e
tracks-more (gives p) c o f m t k w e = t k w e
tracks-more (ends n how) c o f m t k w e = t k w e
tracks-more (lands n true) c o f m t k w e = absurd m
tracks-more (renews n y meta) c o f m t k w e = absurd m
tracks-more (weighs x v) c o f m t k w e = absurd m
tracks-more (lands n false) c o f m t k w e = t k w e
tracks-more (appends n b last) c o f m t k w e =
    let i = t k w e in
    let apart : (n == w.number) ≡ false = landed-other n w.number c f.1 (body-of k c o w e).landed in
    let same = ap (λ (v : Bool). length (cond v (bytes_of w.number c ++ b) (bytes_of w.number c)) + meta_weight w.meta) apart in
    (i.0, i.1, omega (arith, same, i.2))
tracks-more (puts x v) c o f m t k w e = by_entry (same_entry x (alone w.entry)) refl (t k w e)
  where
    by_entry : (b : Bool) → same_entry x (alone w.entry) ≡ b → IsTracked w c → IsTracked w (puts x v ∷ c)
    by_entry true h i = (v, weight_of-admitted (alone w.entry) x v (rows c) ∙ ap (λ (b : Bool). cond b (Some v) (weight_of (alone w.entry) (rows c))) h, m k w e h)
    by_entry false h i = (i.0, weight_of-admitted (alone w.entry) x v (rows c) ∙ ap (λ (b : Bool). cond b (Some v) (weight_of (alone w.entry) (rows c))) h ∙ i.1, i.2)
tracks-more (takes x) c o f m t k w e = by_key (is_entry_of k x) refl e
  where
    by_key : (b : Bool) → is_entry_of k x ≡ b → cond b None (body_of k c) ≡ Some w → IsTracked w (takes x ∷ c)
    by_key true h e = absurd cc
    by_key false h e =
        let i = t k w e in
        let other = not_taken k x w (body-of k c o w e).of_key h in
        (i.0, weight_of-without (alone w.entry) x (rows c) ∙ ap (λ (b : Bool). cond b None (weight_of (alone w.entry) (rows c))) other ∙ i.1, i.2)

-- a write in flight is found by its number, and no other is
pub one_write : (k : StoredKey) (w y : Write) (c : Changes) → IsOrderly c → IsOpen w c → find (has_number w.number) (flying k c) ≡ Some y → y ≡ w
one_write k w y c o i is =
    let f = found-holds (IsFlightOf k c) (has_number w.number) (flying k c) y (flights-of k c o) is in
    let number : w.number ≡ y.number = eqb-true w.number y.number (find-passes (has_number w.number) (flying k c) y is) in
    let both : Some y ≡ Some w = sym f.flies.begun ∙ ap (λ (n : ℕ). begun_at n c) (sym number) ∙ i.begun in
    cc

-- a body lands, and its entry is put with no less than it takes
tracks-whole : (w : Write) (v : ℕ) (c : Changes) → IsOrderly c → IsOpen w c → is_alive w c ≡ true → size_of (as_body w c) ≤ v → Tracks c → Tracks (puts (alone w.entry) v ∷ lands w.number true ∷ c)
tracks-whole w v c o i alive enough t k u e = by_found (find (has_number w.number) (flying k c)) refl e
  where
    now : Changes
    now = puts (alone w.entry) v ∷ lands w.number true ∷ c

    weighs : (x : Write) → weight_of (alone x.entry) (rows now) ≡ cond (same_entry (alone w.entry) (alone x.entry)) (Some v) (weight_of (alone x.entry) (rows c))
    weighs x = weight_of-admitted (alone x.entry) (alone w.entry) v (rows c)

    other : (x : Write) → find (has_number w.number) (flying k c) ≡ None → body_of k c ≡ Some x → (b : Bool) → same_entry (alone w.entry) (alone x.entry) ≡ b → b ≡ false
    other x none at false h = refl
    other x none at true h =
        let entry : alone w.entry ≡ alone x.entry = same_entry-tells.equal (alone w.entry) (alone x.entry) h in
        let own : is_entry_of k (alone x.entry) ≡ true = (body-of k c o x at).of_key in
        let key : stored_key w.entry ≡ k = same_bytes-tells.equal (stored_key w.entry) k (subst (λ (y : CacheEntryKey). is_entry_of k y ≡ true) (sym entry) own) in
        let dead : is_some (find (has_number w.number) (flying (stored_key w.entry) c)) ≡ false = ap (λ (j : StoredKey). is_some (find (has_number w.number) (flying j c))) key ∙ ap is_some none in
        absurd cc

    by_found : (l : Option Write) → find (has_number w.number) (flying k c) ≡ l → option_or l (body_of k c) ≡ Some u → IsTracked u now
    by_found (Some y) is e =
        let one : y ≡ w = one_write k w y c o i is in
        let same : w ≡ u = cc in
        subst (λ (x : Write). IsTracked x now) same
        (v, weighs w ∙ ap (λ (b : Bool). cond b (Some v) (weight_of (alone w.entry) (rows c))) (same_entry-tells.itself (alone w.entry)), enough)
    by_found None is e =
        let j = t k u e in
        (j.0, weighs u ∙ ap (λ (b : Bool). cond b (Some v) (weight_of (alone u.entry) (rows c))) (other u is e (same_entry (alone w.entry) (alone u.entry)) refl) ∙ j.1, j.2)

-- a body is renewed, and its entry weighed anew with no less than it takes then
tracks-renewed : (k : StoredKey) (w : Write) (e : Entry) (meta : CacheMeta) (v : ℕ) (c : Changes) → IsOrderly c → body_of k c ≡ Some w → stored_key e ≡ k → size_of (as_body (record w { meta = meta }) c) ≤ v → Tracks c
    → Tracks (weighs (alone e) v ∷ renews w.number e meta ∷ c)
tracks-renewed k w e meta v c o at key enough t j u is = by_body (body_of j c) refl is
  where
    now : Changes
    now = weighs (alone e) v ∷ renews w.number e meta ∷ c

    weighed : (x : Write) → weight_of (alone x.entry) (rows now) ≡ cond (same_entry (alone e) (alone x.entry)) (Some v) (weight_of (alone x.entry) (rows c))
    weighed x = weight_of-reweighed (alone x.entry) (alone e) v (rows c)

    renewed : IsTracked (record w { entry = e; meta = meta }) now
    renewed = (v, weighed (record w { entry = e; meta = meta }) ∙ ap (λ (b : Bool). cond b (Some v) (weight_of (alone e) (rows c))) (same_entry-tells.itself (alone e)), enough)

    -- another body is of another key
    other : (x : Write) → body_of j c ≡ Some x → (w.number == x.number) ≡ false → (b : Bool) → same_entry (alone e) (alone x.entry) ≡ b → b ≡ false
    other x is apart false h = refl
    other x is apart true h =
        let entry : alone e ≡ alone x.entry = same_entry-tells.equal (alone e) (alone x.entry) h in
        let own : is_entry_of j (alone e) ≡ true = subst (λ (y : CacheEntryKey). is_entry_of j y ≡ true) (sym entry) (body-of j c o x is).of_key in
        let same : k ≡ j = sym key ∙ same_bytes-tells.equal (stored_key e) j own in
        let both : Some w ≡ Some x = sym at ∙ ap (λ (y : StoredKey). body_of y c) same ∙ is in
        let one : w ≡ x = cc in
        let yes : (w.number == x.number) ≡ true = eq-eqb w.number x.number (ap (λ (y : Write). y.number) one) in
        absurd cc

    by_number : (x : Write) → body_of j c ≡ Some x → (b : Bool) → (w.number == x.number) ≡ b → IsTracked (cond b (record x { entry = e; meta = meta }) x) now
    by_number x is true h =
        let one : x ≡ w = one-body j k x w c o is at (eqb-true w.number x.number h) in
        subst (λ (y : Write). IsTracked (record y { entry = e; meta = meta }) now) (sym one) renewed
    by_number x is false h =
        let i = t j x is in
        (i.0, weighed x ∙ ap (λ (b : Bool). cond b (Some v) (weight_of (alone x.entry) (rows c))) (other x is h (same_entry (alone e) (alone x.entry)) refl) ∙ i.1, i.2)

    by_body : (b : Option Write) → body_of j c ≡ b → option_map (with_meta w.number e meta) b ≡ Some u → IsTracked u now
    by_body None is h = absurd cc
    by_body (Some x) is h = let same : with_meta w.number e meta x ≡ u = cc in subst (λ (y : Write). IsTracked y now) same (by_number x is (w.number == x.number) refl)

-- ---- the tier

abbrev pub write_of : Option Request → Option Write
write_of o = option_and_then (λ q. q.write) o

-- changes are in order, the writes of requests are open, no two requests have one, and each body is tracked
pub record Keeps (now : Now) : Type 0 where
  pub order : IsOrderly now.changes
  pub held : (id : ℕ) (w : Write) → write_of (now.request id) ≡ Some w → IsOpen w now.changes
  pub apart : (i j : ℕ) (v w : Write) → write_of (now.request i) ≡ Some v → write_of (now.request j) ≡ Some w → v.number ≡ w.number → i ≡ j
  pub tracks : Tracks now.changes

abbrev pub with_request : ℕ → Option Request → Now → Now
with_request id o now = record { changes = now.changes; request = λ i. cond (i == id) o (now.request i) }

abbrev pub with_changes : Changes → Now → Now
with_changes c now = record { changes = c; request = now.request }

-- no request has a write of that number
abbrev pub IsFree : ℕ → Now → Type 0
IsFree n now = (id : ℕ) (w : Write) → write_of (now.request id) ≡ Some w → (n == w.number) ≡ false

pub keeps-more : (now : Now) → Keeps now → (x : Change) → Follows x now.changes → Minds x now.changes → ((id : ℕ) (w : Write) → write_of (now.request id) ≡ Some w → lands_it w.number x ≡ false)
    → Keeps (with_changes (x ∷ now.changes) now)
keeps-more now k x f m spares = record {
  order = (f, k.order);
  held = λ id w e. open-later w x now.changes k.order f (spares id w e) (k.held id w e);
  apart = k.apart;
  tracks = tracks-more x now.changes k.order f m k.tracks;
}

-- a request turns, with the write that it had, or none
pub keeps-turned : (now : Now) → Keeps now → (id : ℕ) (o : Option Request) → ((w : Write) → write_of o ≡ Some w → write_of (now.request id) ≡ Some w) → Keeps (with_request id o now)
keeps-turned now k id o had = record {
  order = k.order;
  held = λ i w e. k.held i w (was i w (i == id) refl e);
  apart = λ i j v w e f. k.apart i j v w (was i v (i == id) refl e) (was j w (j == id) refl f);
  tracks = k.tracks;
}
  where
    was : (i : ℕ) (w : Write) (t : Bool) → (i == id) ≡ t → write_of (cond t o (now.request i)) ≡ Some w → write_of (now.request i) ≡ Some w
    was i w true t e = ap (λ (j : ℕ). write_of (now.request j)) (eqb-true i id t) ∙ had w e
    was i w false t e = e

-- a request begins a write
pub keeps-begun : (now : Now) → Keeps now → (id : ℕ) (q : Request) (w : Write) → q.write ≡ Some w → w.number ≡ length now.changes → Keeps (with_changes (begins w ∷ now.changes) (with_request id (Some q) now))
keeps-begun now k id q w has at = record {
  order = (at, k.order);
  held = λ i v e. held_by i v (i == id) e;
  apart = λ i j u v e f h. apart_by i j u v (i == id) (j == id) refl refl e f h;
  tracks = tracks-more (begins w) now.changes k.order at tt k.tracks;
}
  where
    held_by : (i : ℕ) (v : Write) (t : Bool) → write_of (cond t (Some q) (now.request i)) ≡ Some v → IsOpen v (begins w ∷ now.changes)
    held_by i v true e = let same : Some w ≡ Some v = sym has ∙ e in let one : w ≡ v = cc in subst (λ (y : Write). IsOpen y (begins w ∷ now.changes)) one (open-new w now.changes k.order at)
    held_by i v false e = open-later v (begins w) now.changes k.order at refl (k.held i v e)

    apart_by : (i j : ℕ) (u v : Write) (s t : Bool) → (i == id) ≡ s → (j == id) ≡ t → write_of (cond s (Some q) (now.request i)) ≡ Some u → write_of (cond t (Some q) (now.request j)) ≡ Some v
        → u.number ≡ v.number → i ≡ j
    apart_by i j u v true true s t e f h = eqb-true i id s ∙ sym (eqb-true j id t)
    apart_by i j u v true false s t e f h =
        let same : Some w ≡ Some u = sym has ∙ e in
        let number : w.number ≡ u.number = ap (λ (y : Write). y.number) (let one : w ≡ u = cc in one) in
        let l = (k.held j v f).below in
        absurd (omega (arith, l, h, at, number))
    apart_by i j u v false true s t e f h =
        let same : Some w ≡ Some v = sym has ∙ f in
        let number : w.number ≡ v.number = ap (λ (y : Write). y.number) (let one : w ≡ v = cc in one) in
        let l = (k.held i u e).below in
        absurd (omega (arith, l, h, at, number))
    apart_by i j u v false false s t e f h = k.apart i j u v e f h

-- ---- what lands nothing and puts nothing

abbrev pub IsCalm : Change → Type 0
IsCalm (takes e) = Unit {0}
IsCalm (gives p) = Unit {0}
IsCalm (ends n how) = Unit {0}
IsCalm _ = ⊥

keeps-one : (now : Now) → Keeps now → (x : Change) → IsCalm x → Keeps (with_changes (x ∷ now.changes) now)
keeps-one now k (takes e) h = keeps-more now k (takes e) tt tt (λ id w e. refl)
keeps-one now k (gives p) h = keeps-more now k (gives p) tt tt (λ id w e. refl)
keeps-one now k (ends n how) h = keeps-more now k (ends n how) tt tt (λ id w e. refl)
keeps-one now k _ h = absurd h

pub keeps-calm : (xs : List Change) (now : Now) → Keeps now → AllByRecursion IsCalm xs → Keeps (with_changes (extended now.changes xs) now)
keeps-calm [] now k all = k
keeps-calm (x ∷ xs) now k all = keeps-calm xs (with_changes (x ∷ now.changes) now) (keeps-one now k x all.0) all.1

-- ---- what lands

module _ (now : Now) (k : Keeps now) (w : Write) (open_yet : IsOpen w now.changes) (own : IsFree w.number now) where
  pub keeps-left : Keeps (with_changes (lands w.number false ∷ now.changes) now)
  keeps-left = keeps-more now k (lands w.number false) (open_yet.below, open_yet.yet) tt own

  pub keeps-whole : (v : ℕ) → is_alive w now.changes ≡ true → size_of (as_body w now.changes) ≤ v → Keeps (with_changes (puts (alone w.entry) v ∷ lands w.number true ∷ now.changes) now)
  keeps-whole v alive enough =
      let f : Follows (lands w.number true) now.changes = (open_yet.below, open_yet.yet) in
      let o : IsOrderly (lands w.number true ∷ now.changes) = (f, k.order) in
      record {
        order = (tt, o);
        held = λ id u e. open-later u (puts (alone w.entry) v) (lands w.number true ∷ now.changes) o tt refl (open-later u (lands w.number true) now.changes k.order f (own id u e) (k.held id u e));
        apart = k.apart;
        tracks = tracks-whole w v now.changes k.order open_yet alive enough k.tracks;
      }

-- ---- what is renewed

-- a body is renewed under an entry of its key, which is weighed anew with what it takes then
pub keeps-renewed : (now : Now) → Keeps now → (k : StoredKey) (w : Write) → body_of k now.changes ≡ Some w → (e : Entry) → stored_key e ≡ k → (meta : CacheMeta) (v : ℕ)
    → size_of (as_body (record w { meta = meta }) now.changes) ≤ v → Keeps (with_changes (weighs (alone e) v ∷ renews w.number e meta ∷ now.changes) now)
keeps-renewed now k key w at e own meta v enough =
    let f : Follows (renews w.number e meta) now.changes = renews-follows key w now.changes k.order at e own meta in
    let o : IsOrderly (renews w.number e meta ∷ now.changes) = (f, k.order) in
    record {
      order = (tt, o);
      held = λ id u b. open-later u (weighs (alone e) v) (renews w.number e meta ∷ now.changes) o tt refl (open-later u (renews w.number e meta) now.changes k.order f refl (k.held id u b));
      apart = k.apart;
      tracks = tracks-renewed key w e meta v now.changes k.order at own enough k.tracks;
    }
