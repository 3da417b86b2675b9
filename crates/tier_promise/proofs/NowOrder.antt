-- Changes in order: a write has as its number how many changes came before it, lands once, gets nothing after that, and is renewed only after it,
-- under an entry of its key. Then what is shown of a key is alive, and what is alive is shown.
use Rattle.std.proofs.Common.{◌≡◌, ℕ, ◌≤◌, ◌<◌, refl, ap, sym, ◌∙◌, true, false, subst, cond, [], ◌∷◌, ◌++◌, ◌||◌, ◌==◌, length, arith}
use Rattle.std.specs.Prelude.{◌&&◌, Bool, Option, Some, None, option_map, not, find}
use Rattle.std.specs.List.{AllByRecursion}
use Rattle.std.specs.Option.{option_or}
use Rattle.std.proofs.lemmas.Bool.{eqb-true, eq-eqb}
use Rattle.cache_entries.specs.Keys.{same_bytes}
use Rattle.cache_entries.specs.SameEntry.{same_bytes-tells}
use Rattle.cache_changes.specs.Bound.{is_entry_of}
use Rattle.cache_changes.specs.Changes.{StoredKey, stored_key}
use Rattle.cache_changes.proofs.RowLaws.{find-passes}
use Rattle.cache_heads.specs.declared.meta.CacheMeta.{CacheMeta}
use Rattle.tier_model.specs.Keys.{Entry}
use Rattle.tier_promise.specs.Promise.{Write, Change, Changes, begins, appends, lands, renews, takes, has_number, with_meta, bytes_of, flying, body_of, ends_life, IsAlive}
use Rattle.tier_promise.proofs.NowLists.{all-changed, all-mapped, all-pushed, all-filtered, found-holds}
use Rattle.tier_promise.proofs.NowShelf.{apart_number, or_true}

-- whether the write of that number landed
abbrev pub has_landed : ℕ → Changes → Bool
has_landed n [] = false
has_landed n (lands m whole ∷ before) = (m == n) || has_landed n before
has_landed n (_ ∷ before) = has_landed n before

-- the write that began with that number, as it is now
abbrev pub begun_at : ℕ → Changes → Option Write
begun_at n [] = None
begun_at n (begins w ∷ before) = cond (has_number n w) (Some w) (begun_at n before)
begun_at n (renews m e meta ∷ before) = option_map (with_meta m e meta) (begun_at n before)
begun_at n (_ ∷ before) = begun_at n before

-- when a change may come after others
abbrev pub Follows : Change → Changes → Type 0
Follows (begins w) before = w.number ≡ length before
Follows (appends n bytes last) before = (n < length before) × (has_landed n before ≡ false)
Follows (lands n whole) before = (n < length before) × (has_landed n before ≡ false)
Follows (renews n e meta) before = (has_landed n before ≡ true) × ((w : Write) → begun_at n before ≡ Some w → stored_key w.entry ≡ stored_key e)
Follows _ before = Unit {0}

abbrev pub IsOrderly : Changes → Type 0
IsOrderly [] = Unit {0}
IsOrderly (x ∷ before) = Follows x before × IsOrderly before

-- a write that began and didn't land
pub record IsOpen (w : Write) (c : Changes) : Type 0 where
  pub below : w.number < length c
  pub begun : begun_at w.number c ≡ Some w
  pub yet : has_landed w.number c ≡ false

-- ---- numbers

pub landed-below : (n : ℕ) (c : Changes) → IsOrderly c → has_landed n c ≡ true → n < length c
landed-below n [] o e = absurd cc
landed-below n (lands m whole ∷ before) o e = by_test (m == n) refl (λ f. landed-below n before o.1 f) e
  where
    by_test : (v : Bool) → (m == n) ≡ v → (has_landed n before ≡ true → n < length before) → (v || has_landed n before) ≡ true → n < length (lands m whole ∷ before)
    by_test true t ih e = let same : m ≡ n = eqb-true m n t in let l = o.0.0 in omega (arith, same, l)
    by_test false t ih e = let l = ih e in omega (arith, l)
landed-below n (_ ∷ before) o e = let l = landed-below n before o.1 e in omega (arith, l)

pub not-landed : (n : ℕ) (c : Changes) → IsOrderly c → length c ≤ n → has_landed n c ≡ false
not-landed n c o l = by_test (has_landed n c) refl
  where
    by_test : (v : Bool) → has_landed n c ≡ v → v ≡ false
    by_test false e = refl
    by_test true e = let m = landed-below n c o e in absurd (omega (arith, l, m))

pub begun-below : (n : ℕ) (w : Write) (c : Changes) → IsOrderly c → begun_at n c ≡ Some w → n < length c
begun-below n w [] o e = absurd cc
begun-below n w (begins v ∷ before) o e = by_test (n == v.number) refl (λ f. begun-below n w before o.1 f) e
  where
    by_test : (t : Bool) → (n == v.number) ≡ t → (begun_at n before ≡ Some w → n < length before) → cond t (Some v) (begun_at n before) ≡ Some w → n < length (begins v ∷ before)
    by_test true t ih e = let same : n ≡ v.number = eqb-true n v.number t in let at = o.0 in omega (arith, same, at)
    by_test false t ih e = let l = ih e in omega (arith, l)
begun-below n w (renews m y meta ∷ before) o e = by_begun (begun_at n before) (λ v b. begun-below n v before o.1 b) e
  where
    by_begun : (b : Option Write) → ((v : Write) → b ≡ Some v → n < length before) → option_map (with_meta m y meta) b ≡ Some w → n < length (renews m y meta ∷ before)
    by_begun None ih e = absurd cc
    by_begun (Some v) ih e = let l = ih v refl in omega (arith, l)
begun-below n w (_ ∷ before) o e = let l = begun-below n w before o.1 e in omega (arith, l)

-- no bytes came yet to a number that no write has
pub no-bytes : (n : ℕ) (c : Changes) → IsOrderly c → length c ≤ n → bytes_of n c ≡ []
no-bytes n [] o l = refl
no-bytes n (appends m b last ∷ c) o l =
    let at = o.0.0 in
    ap (λ (t : Bool). cond t (bytes_of n c ++ b) (bytes_of n c)) (apart_number m n (λ h. absurd (omega (arith, at, l, h)))) ∙ no-bytes n c o.1 (omega (arith, l))
no-bytes n (_ ∷ c) o l = no-bytes n c o.1 (omega (arith, l))

-- the change lands the write of that number
abbrev pub lands_it : ℕ → Change → Bool
lands_it n (lands m whole) = m == n
lands_it n _ = false

-- the change renews the write of that number
abbrev pub renews_it : ℕ → Change → Bool
renews_it n (renews m e meta) = m == n
renews_it n _ = false

-- another write is as before
pub kept-as-is : (n : ℕ) (e : Entry) (meta : CacheMeta) (w : Write) → (n == w.number) ≡ false → with_meta n e meta w ≡ w
kept-as-is n e meta w apart = ap (λ (t : Bool). cond t (record w { entry = e; meta = meta }) w) apart

pub number-kept : (n : ℕ) (e : Entry) (meta : CacheMeta) (w : Write) → (with_meta n e meta w).number ≡ w.number
number-kept n e meta w = by_test (n == w.number)
  where
    by_test : (t : Bool) → (cond t (record w { entry = e; meta = meta }) w).number ≡ w.number
    by_test true = refl
    by_test false = refl

-- what began stays so, but where it is renewed
pub begun-later : (w : Write) (x : Change) (c : Changes) → IsOrderly c → Follows x c → renews_it w.number x ≡ false → begun_at w.number c ≡ Some w → begun_at w.number (x ∷ c) ≡ Some w
begun-later w (begins v) c o f a e =
    let l = begun-below w.number w c o e in
    ap (λ (t : Bool). cond t (Some v) (begun_at w.number c)) (apart_number w.number v.number (λ h. absurd (omega (arith, l, h, f)))) ∙ e
begun-later w (renews n y meta) c o f a e = ap (option_map (with_meta n y meta)) e ∙ ap (λ (v : Write). Some v) (kept-as-is n y meta w a)
begun-later w _ c o f a e = e

landed-apart : (n : ℕ) (x : Change) (c : Changes) → lands_it n x ≡ false → has_landed n c ≡ false → has_landed n (x ∷ c) ≡ false
landed-apart n (lands m whole) c a e = ap (λ (t : Bool). t || has_landed n c) a ∙ e
landed-apart n _ c a e = e

pub landed-later : (n : ℕ) (x : Change) (c : Changes) → has_landed n c ≡ true → has_landed n (x ∷ c) ≡ true
landed-later n (lands m whole) c e = or_true (m == n) (has_landed n c) e
landed-later n _ c e = e

-- what lands now, or hasn't yet, is another than what landed before
pub landed-other : (n m : ℕ) (c : Changes) → has_landed n c ≡ false → has_landed m c ≡ true → (n == m) ≡ false
landed-other n m c e f = apart_number n m (λ h. let same : has_landed n c ≡ has_landed m c = ap (λ (i : ℕ). has_landed i c) h in absurd cc)

pub other-landed : (n m : ℕ) (c : Changes) → has_landed n c ≡ true → has_landed m c ≡ false → (n == m) ≡ false
other-landed n m c e f = apart_number n m (λ h. let same : has_landed n c ≡ has_landed m c = ap (λ (i : ℕ). has_landed i c) h in absurd cc)

not_renewed : (n : ℕ) (x : Change) (c : Changes) → Follows x c → has_landed n c ≡ false → renews_it n x ≡ false
not_renewed n (renews m e meta) c f yet = other-landed m n c f.0 yet
not_renewed n _ c f yet = refl

pub open-later : (w : Write) (x : Change) (c : Changes) → IsOrderly c → Follows x c → lands_it w.number x ≡ false → IsOpen w c → IsOpen w (x ∷ c)
open-later w x c o f a i =
    record { below = let l = i.below in omega (arith, l); begun = begun-later w x c o f (not_renewed w.number x c f i.yet) i.begun; yet = landed-apart w.number x c a i.yet }

pub open-new : (w : Write) (c : Changes) → IsOrderly c → w.number ≡ length c → IsOpen w (begins w ∷ c)
open-new w c o e = record {
  below = omega (arith, e);
  begun = ap (λ (t : Bool). cond t (Some w) (begun_at w.number c)) (eq-eqb w.number w.number refl);
  yet = not-landed w.number c o (omega (arith, e));
}

-- ---- what is in flight, and what is a body

-- the write of k that began with that number is alive
abbrev pub LivesAs : StoredKey → ℕ → Changes → Type 0
LivesAs k n c = (w : Write) × (stored_key w.entry ≡ k) × (w.number ≡ n) × IsAlive w c

alive-later : (k : StoredKey) (n : ℕ) (x : Change) (c : Changes) → ends_life k n x ≡ false → LivesAs k n c → LivesAs k n (x ∷ c)
alive-later k n x c e l =
    let a = l.3 in
    let still : ends_life (stored_key (l.0).entry) (l.0).number x ≡ false = ap (λ (j : StoredKey). ends_life j (l.0).number x) l.1 ∙ ap (λ (m : ℕ). ends_life k m x) l.2 ∙ e in
    (l.0, l.1, l.2, record { since = x ∷ a.since; before = a.before; split = ap (λ (y : Changes). x ∷ y) a.split; kept = (still, a.kept) })

pub record IsFlightOf (k : StoredKey) (c : Changes) (w : Write) : Type 0 where
  pub of_key : same_bytes (stored_key w.entry) k ≡ true
  pub flies : IsOpen w c
  pub alive : LivesAs k w.number c

pub record IsBodyOf (k : StoredKey) (c : Changes) (w : Write) : Type 0 where
  pub of_key : same_bytes (stored_key w.entry) k ≡ true
  pub begun : begun_at w.number c ≡ Some w
  pub landed : has_landed w.number c ≡ true
  pub alive : LivesAs k w.number c

was_not : (v : Bool) → not v ≡ true → v ≡ false
was_not true e = absurd cc
was_not false e = refl

and_false : (v : Bool) → (v && false) ≡ false
and_false true = refl
and_false false = refl

flight-later : (k : StoredKey) (x : Change) (c : Changes) → IsOrderly c → Follows x c → (w : Write) → lands_it w.number x ≡ false → ends_life k w.number x ≡ false → IsFlightOf k c w → IsFlightOf k (x ∷ c) w
flight-later k x c o f w a e i = record { of_key = i.of_key; flies = open-later w x c o f a i.flies; alive = alive-later k w.number x c e i.alive }

pub flights-of : (k : StoredKey) (c : Changes) → IsOrderly c → AllByRecursion (IsFlightOf k c) (flying k c)
flights-of k [] o = tt
flights-of k (begins w ∷ c) o =
    by_key (same_bytes (stored_key w.entry) k) refl (all-mapped (IsFlightOf k c) (IsFlightOf k (begins w ∷ c)) (flying k c) (λ v i. flight-later k (begins w) c o.1 o.0 v refl refl i) (flights-of k c o.1))
  where
    by_key : (t : Bool) → same_bytes (stored_key w.entry) k ≡ t → AllByRecursion (IsFlightOf k (begins w ∷ c)) (flying k c) → AllByRecursion (IsFlightOf k (begins w ∷ c)) (cond t (flying k c ++ w ∷ []) (flying k c))
    by_key true t old = all-pushed (IsFlightOf k (begins w ∷ c)) (flying k c) w old
        (record { of_key = t; flies = open-new w c o.1 o.0; alive = (w, same_bytes-tells.equal (stored_key w.entry) k t, refl, record { since = []; before = c; split = refl; kept = tt }) })
    by_key false t old = old
flights-of k (lands n whole ∷ c) o =
    all-filtered (IsFlightOf k c) (IsFlightOf k (lands n whole ∷ c)) (λ w. not (has_number n w)) (flying k c)
    (λ w t i. let apart = was_not (n == w.number) t in flight-later k (lands n whole) c o.1 o.0 w apart (ap (λ (v : Bool). v && not whole) apart) i) (flights-of k c o.1)
flights-of k (takes e ∷ c) o = by_key (is_entry_of k e) refl (flights-of k c o.1)
  where
    by_key : (t : Bool) → is_entry_of k e ≡ t → AllByRecursion (IsFlightOf k c) (flying k c) → AllByRecursion (IsFlightOf k (takes e ∷ c)) (cond t [] (flying k c))
    by_key true t ih = tt
    by_key false t ih = all-mapped (IsFlightOf k c) (IsFlightOf k (takes e ∷ c)) (flying k c) (λ v i. flight-later k (takes e) c o.1 o.0 v refl t i) ih
flights-of k (renews n e meta ∷ c) o = all-changed (IsFlightOf k c) (IsFlightOf k (renews n e meta ∷ c)) (with_meta n e meta) (flying k c) stays (flights-of k c o.1)
  where
    stays : (w : Write) → IsFlightOf k c w → IsFlightOf k (renews n e meta ∷ c) (with_meta n e meta w)
    stays w i = subst (IsFlightOf k (renews n e meta ∷ c)) (sym (kept-as-is n e meta w (other-landed n w.number c o.0.0 i.flies.yet))) (flight-later k (renews n e meta) c o.1 o.0 w refl refl i)
flights-of k (x ∷ c) o = all-mapped (IsFlightOf k c) (IsFlightOf k (x ∷ c)) (flying k c) (λ v i. flight-later k x c o.1 o.0 v refl refl i) (flights-of k c o.1)

body-later : (k : StoredKey) (x : Change) (c : Changes) → IsOrderly c → Follows x c → (w : Write) → renews_it w.number x ≡ false → ends_life k w.number x ≡ false → IsBodyOf k c w → IsBodyOf k (x ∷ c) w
body-later k x c o f w a e i = record {
  of_key = i.of_key;
  begun = begun-later w x c o f a i.begun;
  landed = landed-later w.number x c i.landed;
  alive = alive-later k w.number x c e i.alive;
}

-- a body is renewed, or another is
body-renewed : (k : StoredKey) (n : ℕ) (e : Entry) (meta : CacheMeta) (c : Changes) → IsOrderly c → Follows (renews n e meta) c → (w : Write) → IsBodyOf k c w → IsBodyOf k (renews n e meta ∷ c) (with_meta n e meta w)
body-renewed k n e meta c o f w i = by_number (n == w.number) refl
  where
    by_number : (t : Bool) → (n == w.number) ≡ t → IsBodyOf k (renews n e meta ∷ c) (with_meta n e meta w)
    by_number false t = subst (IsBodyOf k (renews n e meta ∷ c)) (sym (kept-as-is n e meta w t)) (body-later k (renews n e meta) c o f w t refl i)
    by_number true t =
        let same : n ≡ w.number = eqb-true n w.number t in
        let key : stored_key w.entry ≡ stored_key e = f.1 w (ap (λ (m : ℕ). begun_at m c) same ∙ i.begun) in
        let is : with_meta n e meta w ≡ record w { entry = e; meta = meta } = ap (λ (v : Bool). cond v (record w { entry = e; meta = meta }) w) t in
        subst (IsBodyOf k (renews n e meta ∷ c)) (sym is) (record {
          of_key = ap (λ (j : StoredKey). same_bytes j k) (sym key) ∙ i.of_key;
          begun = ap (option_map (with_meta n e meta)) i.begun ∙ ap (λ (v : Write). Some v) is;
          landed = i.landed;
          alive = alive-later k w.number (renews n e meta) c refl i.alive;
        })

pub body-of : (k : StoredKey) (c : Changes) → IsOrderly c → (w : Write) → body_of k c ≡ Some w → IsBodyOf k c w
body-of k [] o w e = absurd cc
body-of k (lands n true ∷ c) o w e = by_found (find (has_number n) (flying k c)) refl (λ f. body-of k c o.1 w f) e
  where
    by_found : (l : Option Write) → find (has_number n) (flying k c) ≡ l → (body_of k c ≡ Some w → IsBodyOf k c w) → option_or l (body_of k c) ≡ Some w → IsBodyOf k (lands n true ∷ c) w
    by_found (Some v) is ih e =
        let i = found-holds (IsFlightOf k c) (has_number n) (flying k c) v (flights-of k c o.1) is in
        let own : (n == v.number) ≡ true = find-passes (has_number n) (flying k c) v is in
        let same : v ≡ w = cc in
        subst (IsBodyOf k (lands n true ∷ c)) same (record {
          of_key = i.of_key;
          begun = i.flies.begun;
          landed = ap (λ (t : Bool). t || has_landed v.number c) own;
          alive = alive-later k v.number (lands n true) c (and_false (n == v.number)) i.alive;
        })
    by_found None is ih e = body-later k (lands n true) c o.1 o.0 w refl (and_false (n == w.number)) (ih e)
body-of k (lands n false ∷ c) o w e =
    let i = body-of k c o.1 w e in
    body-later k (lands n false) c o.1 o.0 w refl (ap (λ (t : Bool). t && true) (landed-other n w.number c o.0.1 i.landed)) i
body-of k (takes x ∷ c) o w e = by_key (is_entry_of k x) refl (λ f. body-of k c o.1 w f) e
  where
    by_key : (t : Bool) → is_entry_of k x ≡ t → (body_of k c ≡ Some w → IsBodyOf k c w) → cond t None (body_of k c) ≡ Some w → IsBodyOf k (takes x ∷ c) w
    by_key true t ih e = absurd cc
    by_key false t ih e = body-later k (takes x) c o.1 o.0 w refl t (ih e)
body-of k (renews n y meta ∷ c) o w e = by_body (body_of k c) (λ v f. body-of k c o.1 v f) e
  where
    by_body : (b : Option Write) → ((v : Write) → b ≡ Some v → IsBodyOf k c v) → option_map (with_meta n y meta) b ≡ Some w → IsBodyOf k (renews n y meta ∷ c) w
    by_body None ih e = absurd cc
    by_body (Some v) ih e = let same : with_meta n y meta v ≡ w = cc in subst (IsBodyOf k (renews n y meta ∷ c)) same (body-renewed k n y meta c o.1 o.0 v (ih v refl))
body-of k (x ∷ c) o w e = body-later k x c o.1 o.0 w refl refl (body-of k c o.1 w e)

-- a body may be renewed under an entry of its key
pub renews-follows : (k : StoredKey) (w : Write) (c : Changes) → IsOrderly c → body_of k c ≡ Some w → (e : Entry) → stored_key e ≡ k → (meta : CacheMeta) → Follows (renews w.number e meta) c
renews-follows k w c o at e own meta = (i.landed, one)
  where
    i : IsBodyOf k c w
    i = body-of k c o w at

    one : (u : Write) → begun_at w.number c ≡ Some u → stored_key u.entry ≡ stored_key e
    one u b =
        let both : Some u ≡ Some w = sym b ∙ i.begun in
        let same : u ≡ w = cc in
        ap (λ (y : Write). stored_key y.entry) same ∙ same_bytes-tells.equal (stored_key w.entry) k i.of_key ∙ sym own

-- bodies of one number are one
pub one-body : (j k : StoredKey) (u w : Write) (c : Changes) → IsOrderly c → body_of j c ≡ Some u → body_of k c ≡ Some w → w.number ≡ u.number → u ≡ w
one-body j k u w c o at it same =
    let both : Some u ≡ Some w = sym (body-of j c o u at).begun ∙ ap (λ (n : ℕ). begun_at n c) (sym same) ∙ (body-of k c o w it).begun in
    cc

-- the bodies of two keys are two
pub other-body : (j k : StoredKey) (u w : Write) (c : Changes) → IsOrderly c → body_of j c ≡ Some u → body_of k c ≡ Some w → same_bytes k j ≡ false → (w.number == u.number) ≡ false
other-body j k u w c o at it apart = apart_number w.number u.number (λ same.
    let one : u ≡ w = one-body j k u w c o at it same in
    let key : k ≡ j = sym (same_bytes-tells.equal (stored_key w.entry) k (body-of k c o w it).of_key) ∙ ap (λ (y : Write). stored_key y.entry) (sym one) ∙ same_bytes-tells.equal (stored_key u.entry) j (body-of j c o u at).of_key in
    let yes : same_bytes k j ≡ true = ap (λ (i : StoredKey). same_bytes k i) (sym key) ∙ same_bytes-tells.itself k in
    absurd cc)
