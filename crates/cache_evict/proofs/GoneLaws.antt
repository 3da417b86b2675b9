-- What an eviction of a row leaves of entries.
use Rattle.std.proofs.Common.{◌≡◌, ◌≢◌, ℕ, zero, suc, ◌+◌, ◌%◌, ◌<◌, inl, inr, true, cond, eqb, map, replicate, List, [], ◌∷◌, ◌++◌, length, get_or, set, Option, Some, None, sym, refl, ap, ◌∙◌, subst, arith}
use Rattle.std.specs.Prelude.{unwrap_or, IfNone, IfSome, OnSome, IsSome}
use Rattle.rand_core.specs.Stream.{Stream, next_u64}
use Rattle.std.specs.List.{sum_by}
use Rattle.std.proofs.lemmas.Bool.{cases_lt, eq-eqb, true≢false}
use Rattle.std.proofs.lemmas.List.{length-map, length-append, nil_from_length, append-nil, map-append, get_or_past, get_or-replicate, length-replicate}
use Rattle.std.proofs.lemmas.List.Sums.{sum_by-cons}
use Rattle.cache_entries.specs.declared.entry.CacheEntryKey.{CacheEntryKey}
use Rattle.cache_entries.specs.declared.rows.Tracked.{Tracked}
use Rattle.cache_entries.specs.Rows.{all_weights}
use Rattle.lru_core.specs.declared.rows.Row.{Row}
use Rattle.lru_core.specs.Rows.{only, others, a_row, total_weight}
use Rattle.lru_core.specs.Cores.{Core, rows_at, core_weight, is_over as is_core_over, longer_of_two, first_nonempty_from, IsStep}
use Rattle.lru_core.proofs.Filters.{only-append, others-append, others_all}
use Rattle.lru_numbers.specs.Names.{IsOneToOne, without_name}
use Rattle.cache_evict.specs.Managed.{Managed, is_over, longer_of, first_filled, picked, pick_by_draws, GoesLast, Evicts, saturated}
use Rattle.cache_evict.specs.Numbered.{nobody, tracked_row, tracked, managed_in, AreNumbered, IsNumbered}
use Rattle.lru_numbers.proofs.PlaceLaws.{some_of, none_some}
use Rattle.cache_evict.proofs.NumberedLaws.{IsNumber-named, tracked-others}
use Rattle.lru_numbers.proofs.NameLaws.{one-without, without-here, without-other}
use Rattle.cache_evict.proofs.WrittenLaws.{seen, below, shown-written, IsNumbered-without}
use Rattle.cache_evict.proofs.CountLaws.{counts}
use Rattle.cache_evict.proofs.RefusalLaws.{all_weights-tracked, same_names}

-- ---- sums

module _ (names : ℕ → Option CacheEntryKey) where
  pub sizes : (shards : List (List (Row ℕ))) → sum_by all_weights (map (tracked names) shards) ≡ core_weight shards
  sizes [] = refl
  sizes (rows ∷ shards) =
      let ih = sizes shards in
      let one = all_weights-tracked names rows in
      sum_by-cons all_weights (tracked names rows) (map (tracked names) shards) ∙ omega (arith, ih, one) ∙ sym (sum_by-cons total_weight rows shards)

  pub over : (core : Core ℕ) (size items : ℕ) → is_over (managed_in names core size items) ≡ is_core_over core
  over core size items = rw (sizes core.shards, counts names core.shards) refl

  -- ---- which shard

  lengths : (shards : List (List (Row ℕ))) (i : ℕ) → length (get_or (map (tracked names) shards) i []) ≡ length (rows_at shards i)
  lengths shards i = elim (cases_lt i (length shards)) [
    | inl a ↦ ap length (seen 0 names shards i a) ∙ length-map (rows_at shards i) (tracked_row names)
    | inr a ↦ ap length (get_or_past (map (tracked names) shards) i [] (let l = length-map shards (tracked names) in omega (arith, a, l))) ∙ sym (ap length (get_or_past shards i [] a))
  ]

  longer : (shards : List (List (Row ℕ))) (a b : ℕ) → longer_of (map (tracked names) shards) a b ≡ longer_of_two shards a b
  longer shards a b = rw (lengths shards a, lengths shards b) refl

  filled : (n : ℕ) (shards : List (List (Row ℕ))) (steps s : ℕ) → first_filled n (map (tracked names) shards) steps s ≡ first_nonempty_from n shards steps s
  filled n shards zero s = refl
  filled n shards (suc steps) s = rw (lengths shards s, filled n shards steps (cond (eqb (s + 1) n) 0 (s + 1))) refl

  pub picks : (n : ℕ) (shards : List (List (Row ℕ))) (a b : ℕ) → picked n (map (tracked names) shards) a b ≡ first_nonempty_from n shards n (longer_of_two shards (a % n) (b % n))
  picks n shards a b = ap (first_filled n (map (tracked names) shards) n) (longer shards (a % n) (b % n)) ∙ filled n shards n (longer_of_two shards (a % n) (b % n))

-- ---- no rows

pub fresh_seen : (names : ℕ → Option CacheEntryKey) (n : ℕ) → map (tracked names) (replicate n []) ≡ replicate n []
fresh_seen names zero = refl
fresh_seen names (suc n) = ap (λ (l : List (List Tracked)). [] ∷ l) (fresh_seen names n)

no_rows : (n s : ℕ) → rows_at {T = ℕ} (replicate n []) s ≡ []
no_rows n s = elim (cases_lt s n) [
  | inl a ↦ get_or-replicate n s [] [] a
  | inr a ↦ get_or_past (replicate n []) s [] (let l = length-replicate {A = List (Row ℕ)} n [] in omega (arith, a, l))
]

pub IsNumbered-fresh : (n : ℕ) (names : ℕ → Option CacheEntryKey) (shards : List (List (Row ℕ))) → 0 < n → ((i : ℕ) → names i ≡ None) → shards ≡ replicate n [] → IsNumbered n names shards
IsNumbered-fresh n names shards some none e = subst (λ (l : List (List (Row ℕ))). IsNumbered n names l) (sym e) (record {
  some = some;
  count = length-replicate n [];
  one = λ i j x p q. absurd (none_some x (names i) (none i) p);
  home = λ k x p. absurd (none_some x (names k) (none k) p);
  numbered = λ s. subst (λ (l : List (Row ℕ)). AreNumbered n names s l) (sym (no_rows n s)) tt;
  known = λ k x p. absurd (none_some x (names k) (none k) p);
})

-- ---- the last row

pub last_numbered : (n : ℕ) (names : ℕ → Option CacheEntryKey) (s : ℕ) (front : List (Row ℕ)) (r : Row ℕ) → AreNumbered n names s (front ++ r ∷ []) → (r.data ≡ r.key) × (r.key % n ≡ s) × (names r.key ≢ None)
last_numbered n names s [] r a = (a.0, a.1, a.2)
last_numbered n names s (x ∷ front) r a = last_numbered n names s front r a.3

module _ (n : ℕ) (names now : ℕ → Option CacheEntryKey) (core left : Core ℕ) (a b : ℕ) (pair : ℕ × ℕ) (size items : ℕ) (h : IsNumbered n names core.shards) (step : IsStep n core a b pair left)
    (took : (i : ℕ) → now i ≡ without_name names pair.0 i) where
  j : ℕ
  j = first_nonempty_from n core.shards n (longer_of_two core.shards (a % n) (b % n))

  record Gone : Type 0 where
    front : List (Row ℕ)
    rows : rows_at core.shards (pair.0 % n) ≡ front ++ a_row pair.0 pair.0 pair.1 ∷ []
    place : pair.0 % n ≡ first_nonempty_from n core.shards n (longer_of_two core.shards (a % n) (b % n))
    entry : CacheEntryKey
    named : names pair.0 ≡ Some entry
    shards : left.shards ≡ set core.shards (pair.0 % n) front

  gone : Gone
  gone =
      let tail = step.1.0 in
      let at = first_nonempty_from n core.shards n (longer_of_two core.shards (a % n) (b % n)) in
      let numbered = last_numbered n names at tail.0 (a_row tail.1 pair.0 pair.1) (subst (λ (l : List (Row ℕ)). AreNumbered n names at l) tail.2 (h.numbered at)) in
      let key : tail.1 ≡ pair.0 = sym numbered.0 in
      let place : pair.0 % n ≡ at = ap (λ (i : ℕ). i % n) (sym key) ∙ numbered.1 in
      let named = some_of (names pair.0) (subst (λ (i : ℕ). names i ≢ None) key numbered.2) in
      record {
        front = tail.0;
        rows = ap (rows_at core.shards) place ∙ tail.2 ∙ ap (λ (i : ℕ). tail.0 ++ a_row i pair.0 pair.1 ∷ []) key;
        place = place;
        entry = named.0;
        named = named.1;
        shards = tail.3 ∙ ap (λ (i : ℕ). set core.shards i tail.0) (sym place);
      }

  -- what is left of the shard are the rows of other numbers
  left_rows : gone.front ≡ others pair.0 (rows_at core.shards (pair.0 % n))
  left_rows =
      let known = h.known pair.0 gone.entry gone.named in
      let k = pair.0 in
      let row = a_row k k pair.1 in
      let both : only k gone.front ++ only k (row ∷ []) ≡ a_row k k known.0 ∷ [] = sym (only-append k gone.front (row ∷ [])) ∙ ap (only k) (sym gone.rows) ∙ known.1 in
      let own : length (only k (row ∷ [])) ≡ 1 = rw (eq-eqb k k refl) refl in
      let sum = length-append (only k gone.front) (only k (row ∷ [])) in
      let one : length (only k gone.front ++ only k (row ∷ [])) ≡ 1 = ap length both in
      let none : only k gone.front ≡ [] = nil_from_length (only k gone.front) (omega (arith, own, sum, one)) in
      let last : others k (row ∷ []) ≡ [] = rw (eq-eqb k k refl) refl in
      sym (ap (others k) gone.rows ∙ others-append k gone.front (row ∷ []) ∙ ap (λ (l : List (Row ℕ)). others k gone.front ++ l) last ∙ append-nil (others k gone.front) ∙ others_all k gone.front none)

  away : (i : ℕ) → i ≢ pair.0 → now i ≡ names i
  away i m = took i ∙ without-other names pair.0 i m

  one : IsOneToOne now
  one = subst IsOneToOne (sym (same_names (without_name names pair.0) now took)) (one-without names pair.0 h.one)

  pub IsNumbered-gone : IsNumbered n now left.shards
  IsNumbered-gone =
      subst (λ (l : List (List (Row ℕ))). IsNumbered n now l) (sym (gone.shards ∙ ap (set core.shards (pair.0 % n)) left_rows))
      (IsNumbered-without n names now core (record core { shards = set core.shards (pair.0 % n) (others pair.0 (rows_at core.shards (pair.0 % n))) }) pair.0 gone.entry size items h away (h.home pair.0 gone.entry gone.named) one
      (took pair.0 ∙ without-here names pair.0) (IsNumber-named names pair.0 gone.entry h.one gone.named) refl)

  front_seen : tracked now gone.front ≡ tracked names gone.front
  front_seen = ap (tracked now) left_rows ∙ tracked-others n names now pair.0 away (rows_at core.shards (pair.0 % n)) ∙ ap (tracked names) (sym left_rows)

  pub goes_last : (e : CacheEntryKey) (size' items' : ℕ) → names pair.0 ≡ Some e → size' ≡ saturated (size + pair.1) → items' ≡ saturated (items + 1)
      → GoesLast (managed_in names core size items) (picked n (map (tracked names) core.shards) a b) e (managed_in now left size' items')
  goes_last e size' items' p es ei =
      let s = pair.0 % n in
      let place : picked n (map (tracked names) core.shards) a b ≡ s = picks names n core.shards a b ∙ sym gone.place in
      let in' : s < length core.shards = below n names now core.shards pair.0 h away in
      let own : unwrap_or (names pair.0) nobody ≡ e = ap (λ (o : Option CacheEntryKey). unwrap_or o nobody) p in
      let rows : get_or (map (tracked names) core.shards) s [] ≡ tracked names gone.front ++ record { entry = e; weight = pair.1 } ∷ [] =
      seen n names core.shards s in' ∙ ap (tracked names) gone.rows ∙ map-append (tracked_row names) gone.front (a_row pair.0 pair.0 pair.1 ∷ [])
      ∙ ap (λ (x : CacheEntryKey). tracked names gone.front ++ record { entry = x; weight = pair.1 } ∷ []) own in
      let shards : map (tracked now) left.shards ≡ set (map (tracked names) core.shards) s (tracked names gone.front) =
      ap (map (tracked now)) gone.shards ∙ shown-written n names now core.shards pair.0 h away gone.front ∙ ap (set (map (tracked names) core.shards) s) front_seen in (
        tracked names gone.front,
        pair.1,
        ap (λ (i : ℕ). get_or (map (tracked names) core.shards) i []) place ∙ rows,
        λ t. record {
          shards = (shards ∙ ap (λ (i : ℕ). set (map (tracked names) core.shards) i (tracked names gone.front)) (sym place)) t;
          limit = step.1.1 t;
          watermark = step.1.2 t;
          evicted_size = es t;
          evicted_items = ei t;
        },
      )

  pub entry_gone : (e : CacheEntryKey) × (names pair.0 ≡ Some e)
  entry_gone = (gone.entry, gone.named)

-- ---- answers by cases

pub if_none : {X : Type 0} (o : Option X) (x : X) (P : Type 0) → o ≡ Some x → IfNone o P
if_none None x P e = absurd (none_some x None refl e)
if_none (Some y) x P e = tt

pub is_there : {X : Type 0} (o : Option X) (x : X) → o ≡ Some x → IsSome o
is_there None x e = absurd (none_some x None refl e)
is_there (Some y) x e = refl

pub if_some : {X : Type 0} (o : Option X) (P : X → Type 0) → ((x : X) → o ≡ Some x → P x) → IfSome o P
if_some None P f = tt
if_some (Some x) P f = f x refl

pub on_some : {X : Type 0} (o : Option X) (P : Type 0) → P → OnSome o P
on_some None P p = tt
on_some (Some x) P p = p

pub not_there : {X : Type 0} (o : Option X) → IsSome o → o ≡ None → ⊥
not_there None t e = absurd (true≢false (sym t))
not_there (Some x) t e = none_some x None refl (sym e)

-- ---- one more

module _ (pick : List (List Tracked) → Stream → ℕ × Stream) where
  pub evicts_push : (old mid new : Managed) (es : List CacheEntryKey) (e : CacheEntryKey) (s r : Stream) → Evicts pick old es s mid r → is_over mid ≡ true → GoesLast mid (pick mid.shards r).0 e new
      → Evicts pick old (es ++ e ∷ []) s new (pick mid.shards r).1
  evicts_push old mid new [] e s r h o g = subst (λ (m : Managed). Evicts pick m (e ∷ []) s new (pick mid.shards r).1) h.0 (subst (λ (t : Stream). Evicts pick mid (e ∷ []) t new (pick mid.shards r).1) h.1 (new, o, g, (refl, refl)))
  evicts_push old mid new (x ∷ es) e s r h o g = (h.0, h.1, h.2, evicts_push h.0 mid new es e (pick old.shards s).1 r h.3 o g)

-- the same by the words and streams that two draws gave
pub evicts_drawn : (n : ℕ) (old mid new : Managed) (es all : List CacheEntryKey) (e : CacheEntryKey) (s r r1 r2 : Stream) (a b : ℕ) (o : Option CacheEntryKey) → Evicts (pick_by_draws n) old es s mid r
    → (a, r1) ≡ next_u64 r → (b, r2) ≡ next_u64 r1 → IfSome o (λ x. (is_over mid ≡ true) × GoesLast mid (picked n mid.shards a b) x new) → o ≡ Some e → all ≡ es ++ e ∷ [] → Evicts (pick_by_draws n) old all s new r2
evicts_drawn n old mid new es all e s r r1 r2 a b o h f g gone oe ae =
    let p0 : a ≡ (next_u64 r).0 = ap (λ (p : ℕ × Stream). p.0) f in
    let p1 : r1 ≡ (next_u64 r).1 = ap (λ (p : ℕ × Stream). p.1) f in
    let q0 : b ≡ (next_u64 (next_u64 r).1).0 = ap (λ (p : ℕ × Stream). p.0) g ∙ ap (λ (t : Stream). (next_u64 t).0) p1 in
    let q1 : r2 ≡ (next_u64 (next_u64 r).1).1 = ap (λ (p : ℕ × Stream). p.1) g ∙ ap (λ (t : Stream). (next_u64 t).1) p1 in
    let step : (is_over mid ≡ true) × GoesLast mid (picked n mid.shards a b) e new = rw oe at gone in
    let last : GoesLast mid (picked n mid.shards (next_u64 r).0 (next_u64 (next_u64 r).1).0) e new =
    subst (λ (x : ℕ). GoesLast mid (picked n mid.shards x (next_u64 (next_u64 r).1).0) e new) p0 (subst (λ (x : ℕ). GoesLast mid (picked n mid.shards a x) e new) q0 step.1) in
    subst (λ (l : List CacheEntryKey). Evicts (pick_by_draws n) old l s new r2) (sym ae)
    (subst (λ (t : Stream). Evicts (pick_by_draws n) old (es ++ e ∷ []) s new t) (sym q1) (evicts_push (pick_by_draws n) old mid new es e s r h step.0 last))
