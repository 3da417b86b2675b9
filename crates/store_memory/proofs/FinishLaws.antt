-- Writes that land: given up, or finished.
use Rattle.std.proofs.Common.{◌≡◌, ℕ, refl, ap, sym, ◌∙◌, true, false, subst, cond, [], ◌∷◌, nat_eq}
use Rattle.std.specs.Prelude.{Bool, List, Option, Some, None, option_map, not, find, ◌&&◌}
use Rattle.std.specs.Map.{lookup, remove_entry}
use Rattle.std.specs.BTreeMap as tree
use Rattle.std.specs.BTreeMap.{BTreeMap, is_at}
use Rattle.std.specs.Ordering.{nat_cmp}
use Rattle.std.specs.Cmp.Lexicographic.{pointwise}
use Rattle.cache_heads.specs.declared.meta.CacheMeta.{CacheMeta}
use Rattle.cache_changes.specs.Changes.{StoredKey, Write, finishes}
use Rattle.cache_changes.specs.Store.{Stored, Flying, Store, is_of, has_number, flying_at, with_body, landed, after}
use Rattle.store_memory.specs.declared.flight.Body.{Body}
use Rattle.store_memory.specs.declared.flight.Flight.{Flight}
use Rattle.cache_store.specs.Agree.{Agree}
use Rattle.cache_store.specs.StoreState.{Reading, StoreState, left_with}
use Rattle.cache_store.specs.Answers.{alive_key, left_behind, left}
use Rattle.store_memory.specs.Alive.{is_pair}
use Rattle.store_memory.specs.Kept.{seen, flights_of, body_of, bodies_of, key_at, weight_with}
use Rattle.store_memory.specs.Misses.{FinishesWith}
use Rattle.store_memory.proofs.HeldLaws.{held}
use Rattle.store_memory.proofs.RowLaws.{ascends}
use Rattle.store_memory.proofs.SeenLaws.{Alive, seen-landed}
use Rattle.store_memory.proofs.FirstLaws.{flying-seen}
use Rattle.cache_store.proofs.BodyLaws.{agree-by}
use Rattle.store_memory.proofs.BodyLaws.{kept-put}

-- the key of a write in flight, if it is alive
key-none : (alive : Alive) (n : ℕ) (o : Option Flight) → option_map (λ f. f.key) o ≡ None → alive_key (option_map (λ f. seen alive (n, f)) o) ≡ None
key-none alive n None e = refl
key-none alive n (Some f) e = absurd cc

pub no-key : (alive : Alive) (n : ℕ) (flights : BTreeMap ℕ Flight) → key_at flights n ≡ None → alive_key (find (has_number n) (flights_of alive flights.entries)) ≡ None
no-key alive n flights e = ap alive_key (flying-seen alive n flights.entries) ∙ key-none alive n (tree.get nat_cmp flights n) e

key-some : (alive : Alive) (n : ℕ) (k : StoredKey) (o : Option Flight) → option_map (λ f. f.key) o ≡ Some k → alive_key (option_map (λ f. seen alive (n, f)) o) ≡ cond (alive k n) (Some k) None
key-some alive n k None e = absurd cc
key-some alive n k (Some f) e =
    let same : f.key ≡ k = cc in
    subst (λ (j : StoredKey). cond (not (alive j n)) None (Some j) ≡ cond (alive k n) (Some k) None) (sym same) (by_flag (alive k n))
  where
    by_flag : (v : Bool) → cond (not v) None (Some k) ≡ cond v (Some k) None
    by_flag true = refl
    by_flag false = refl

pub some-key : (alive : Alive) (n : ℕ) (k : StoredKey) (v : Bool) (flights : BTreeMap ℕ Flight) → key_at flights n ≡ Some k → alive k n ≡ v → alive_key (find (has_number n) (flights_of alive flights.entries)) ≡ cond v (Some k) None
some-key alive n k v flights e t = ap alive_key (flying-seen alive n flights.entries) ∙ key-some alive n k (tree.get nat_cmp flights n) e ∙ ap (λ (u : Bool). cond u (Some k) None) t

-- the write seen, where there is one
pub seen-at : (alive : Alive) (n : ℕ) (f : Flight) (flights : BTreeMap ℕ Flight) → tree.get nat_cmp flights n ≡ Some f → find (has_number n) (flights_of alive flights.entries) ≡ Some (seen alive (n, f))
seen-at alive n f flights e = flying-seen alive n flights.entries ∙ ap (option_map (λ g. seen alive (n, g))) e

pub not-seen-at : (alive : Alive) (n : ℕ) (flights : BTreeMap ℕ Flight) → tree.get nat_cmp flights n ≡ None → find (has_number n) (flights_of alive flights.entries) ≡ None
not-seen-at alive n flights e = flying-seen alive n flights.entries ∙ ap (option_map (λ g. seen alive (n, g))) e

-- none lands
landed-none : (n : ℕ) (fs : List (Flying CacheMeta)) → find (has_number n) fs ≡ None → landed n fs ≡ fs
landed-none n [] e = refl
landed-none n (f ∷ fs) e = by_test (has_number n f) e (landed-none n fs)
  where
    by_test : (v : Bool) → cond v (Some f) (find (has_number n) fs) ≡ None → (find (has_number n) fs ≡ None → landed n fs ≡ fs) → cond (not v) (f ∷ landed n fs) (landed n fs) ≡ f ∷ fs
    by_test true e ih = absurd cc
    by_test false e ih = ap (λ (l : List (Flying CacheMeta)). f ∷ l) (ih e)

pub left-none : (n : ℕ) (h : StoreState) → flying_at n h.store ≡ None → h ≡ left n h
left-none n h e = λ i. record h { store = record h.store { flying = sym (landed-none n h.store.flying e) i }; readings = left_behind false n (sym e i) h.readings }

pub left-some : (n : ℕ) (h : StoreState) (f : Flying CacheMeta) (fs : List (Flying CacheMeta)) (rs : List Reading) → flying_at n h.store ≡ Some f → fs ≡ landed n h.store.flying → rs ≡ left_with n f.stored.bytes f.ended h.readings
    → record h { store = record h.store { flying = fs }; readings = rs } ≡ left n h
left-some n h f fs rs e l r = λ i. record h { store = record h.store { flying = l i }; readings = (r ∙ ap (λ (o : Option (Flying CacheMeta)). left_behind false n o h.readings) (sym e)) i }

-- one is finished
finished-as : (n : ℕ) (s : Store CacheMeta) (t : Store CacheMeta) → Agree t (record { bodies = with_body (option_map (λ f. f.stored) (flying_at n s)) s.bodies; flying = landed n s.flying })
    → (w : Write CacheMeta) → w.number ≡ n → Agree t (after (finishes w) s)
finished-as n s t a w e = subst (λ (m : ℕ). Agree t (record { bodies = with_body (option_map (λ f. f.stored) (flying_at m s)) s.bodies; flying = landed m s.flying })) (sym e) a

pub finished-agree : (n : ℕ) (key : StoredKey) (b : Body) (olds news : List (StoredKey × Body)) (flying fs : List (Flying CacheMeta)) (f : Flying CacheMeta)
    → find (has_number n) flying ≡ Some f → f.stored ≡ body_of (key, b)
    → ((k : StoredKey) → lookup (pointwise nat_eq k) news ≡ cond (pointwise nat_eq key k) (Some b) (lookup (pointwise nat_eq k) olds)) → fs ≡ landed n flying
    → (w : Write CacheMeta) → w.number ≡ n → Agree (record { bodies = bodies_of news; flying = fs }) (after (finishes w) (record { bodies = bodies_of olds; flying = flying }))
finished-agree n key b olds news flying fs f e same h l =
    finished-as n (record { bodies = bodies_of olds; flying = flying }) (record { bodies = bodies_of news; flying = fs })
    (agree-by _ _ (λ k. kept-put olds news key b h k ∙ ap (λ (o : Option (Stored CacheMeta)). find (is_of k) (with_body o (bodies_of olds))) (sym (ap (option_map (λ x. x.stored)) e ∙ ap (λ (x : Stored CacheMeta). Some x) same))) l)

-- the flight whose key is alive
alive-option : (alive : Alive) (n : ℕ) (k : StoredKey) (o : Option Flight) → alive_key (option_map (λ f. seen alive (n, f)) o) ≡ Some k → (f : Flight) × (o ≡ Some f) × (f.key ≡ k)
alive-option alive n k None e = absurd cc
alive-option alive n k (Some f) e = (f, refl, by_flag (alive f.key n) e)
  where
    by_flag : (v : Bool) → cond (not v) None (Some f.key) ≡ Some k → f.key ≡ k
    by_flag true e = cc
    by_flag false e = absurd cc

pub alive-flight : (alive : Alive) (n : ℕ) (k : StoredKey) (flights : BTreeMap ℕ Flight) → alive_key (find (has_number n) (flights_of alive flights.entries)) ≡ Some k
    → (f : Flight) × (tree.get nat_cmp flights n ≡ Some f) × (f.key ≡ k)
alive-flight alive n k flights e = alive-option alive n k (tree.get nat_cmp flights n) (sym (ap alive_key (flying-seen alive n flights.entries)) ∙ e)

-- a write that was alive is finished: its bytes were joined, it was taken out, and its readers are left with what was joined
pub finished-is : (a b : Alive) (n : ℕ) (key : StoredKey) (flights rest : BTreeMap ℕ Flight) (taken : Flight) (meta : CacheMeta) (bytes : List ℕ) (weight next : ℕ) (olds news : List (StoredKey × Body)) (rs after_rs : List Reading)
    → tree.IsOrdered nat_cmp flights → alive_key (find (has_number n) (flights_of a flights.entries)) ≡ Some key
    → bytes ≡ taken.pieces → tree.get nat_cmp flights n ≡ Some taken → meta ≡ taken.meta → rest.entries ≡ remove_entry (is_at (nat_cmp n)) flights.entries
    → ((j : StoredKey) (m : ℕ) → b j m ≡ (a j m && not (is_pair key n j m))) → after_rs ≡ left_with n bytes true rs
    → ((k : StoredKey) → lookup (pointwise nat_eq k) news ≡ cond (pointwise nat_eq key k) (Some (record { number = n; meta = meta; bytes = bytes })) (lookup (pointwise nat_eq k) olds)) → weight ≡ weight_with meta bytes
    → FinishesWith n weight (held (bodies_of olds) (flights_of a flights.entries) next rs) (held (bodies_of news) (flights_of b rest.entries) next after_rs)
finished-is a b n key flights rest taken meta bytes weight next olds news rs after_rs ordered alive bytes_are there same_meta removed gone leaving put weighed = (
  (seen a (n, taken)).stored,
  weighed ∙ (λ i. weight_with (same_meta i) (bytes_are i)),
  record {
    shown = ap (option_map (λ (f : Flying CacheMeta). f.stored)) flight;
    store = finished-agree n key (record { number = n; meta = taken.meta; bytes = bytes }) olds news (flights_of a flights.entries) (flights_of b rest.entries) (seen a (n, taken)) flight stored put_taken
        (ap (flights_of b) removed ∙ seen-landed a b key n flights.entries gone (ascends flights.entries ordered));
    next = refl;
    readings = leaving ∙ ap (λ (bs : List ℕ). left_with n bs true rs) bytes_are ∙ ap (λ (o : Option (Flying CacheMeta)). left_behind true n o rs) (sym flight);
  },
)
  where
    flight : find (has_number n) (flights_of a flights.entries) ≡ Some (seen a (n, taken))
    flight = seen-at a n taken flights there

    first : (f : Flight) × (tree.get nat_cmp flights n ≡ Some f) × (f.key ≡ key)
    first = alive-flight a n key flights alive

    key_is : taken.key ≡ key
    key_is = let one : Some taken ≡ Some first.0 = sym there ∙ first.1 in ap (λ (f : Flight). f.key) (let same : taken ≡ first.0 = cc in same) ∙ first.2

    put_taken : (k : StoredKey) → lookup (pointwise nat_eq k) news ≡ cond (pointwise nat_eq key k) (Some (record { number = n; meta = taken.meta; bytes = bytes })) (lookup (pointwise nat_eq k) olds)
    put_taken k = put k ∙ ap (λ (m : CacheMeta). cond (pointwise nat_eq key k) (Some (record { number = n; meta = m; bytes = bytes })) (lookup (pointwise nat_eq k) olds)) same_meta

    stored : (seen a (n, taken)).stored ≡ body_of (key, record { number = n; meta = taken.meta; bytes = bytes })
    stored = λ i. record { write = record { number = n; key = key_is i; meta = taken.meta }; meta = taken.meta; bytes = sym bytes_are i }

-- the key of such a write
pub key-alive : (a : Alive) (n : ℕ) (key : StoredKey) (flights : BTreeMap ℕ Flight) → alive_key (find (has_number n) (flights_of a flights.entries)) ≡ Some key → key_at flights n ≡ Some key
key-alive a n key flights alive =
    let first = alive-flight a n key flights alive in
    ap (option_map (λ (f : Flight). f.key)) first.1 ∙ ap (λ (k : StoredKey). Some k) first.2
