-- A number's row that is put at an end of its shard.
use Rattle.std.proofs.Common.{◌≡◌, ◌≢◌, ℕ, ◌+◌, ◌%◌, ◌<◌, max, inl, inr, cond, is_some, map, List, [], ◌∷◌, ◌++◌, length, set, slice_get, Option, refl, sym, ap, ◌∙◌, subst}
use Rattle.std.specs.Prelude.{Err, Result, Bool}
use Rattle.std.proofs.lemmas.Bool.{eq-eqb}
use Rattle.std.proofs.lemmas.List.{append-nil, set-set, get_or-set_same}
use Rattle.lru_core.specs.declared.rows.Row.{Row}
use Rattle.lru_core.specs.Rows.{only, others, promoted, reweighed, a_row, total_weight, capped, raised, incremented, Fits, IsLong}
use Rattle.lru_core.specs.Cores.{Core, shard_of, with_shard, shard_bound}
use Rattle.lru_core.specs.declared.lru_unit.fault.LruFault.{LruFault}
use Rattle.lru_core.specs.declared.lru_unit.fault.LruFault.TheVariants as row
use Rattle.lru_core.proofs.Filters.{only-append, others-append, only-reweighed, others-reweighed, others_all, one_row}
use Rattle.cache_evict.specs.declared.tracker.refusal.Refusal.{Refusal}
use Rattle.cache_evict.specs.Numbered.{HasOwnRow}
use Rattle.cache_evict.specs.Refusals.{IsRowRefusal, row_refusal}

-- rows that were written and then promoted
pub promoted_after : (n k : ℕ) (core mid new : Core ℕ) (rows : List (Row ℕ)) → k % n < length core.shards → mid ≡ with_shard n core k rows → new ≡ with_shard n mid k (promoted k (shard_of n mid k))
    → new ≡ with_shard n core k (promoted k rows)
promoted_after n k core mid new rows b first second =
    second ∙ ap (λ (c : Core ℕ). with_shard n c k (promoted k (shard_of n c k))) first
    ∙ ap (λ (l : List (Row ℕ)). record core { shards = set (set core.shards (k % n) rows) (k % n) (promoted k l) }) (get_or-set_same core.shards (k % n) rows [] b)
    ∙ ap (λ (l : List (List (Row ℕ))). record core { shards = l }) (set-set core.shards (k % n) rows (promoted k rows))

own-only : (k w : ℕ) → only k (a_row k k w ∷ []) ≡ a_row k k w ∷ []
own-only k w = rw (eq-eqb k k refl) refl

own-others : (k w : ℕ) → others k (a_row k k w ∷ []) ≡ []
own-others k w = rw (eq-eqb k k refl) refl

pub promoted-last : (k w : ℕ) (rows : List (Row ℕ)) → only k rows ≡ [] → promoted k (rows ++ a_row k k w ∷ []) ≡ a_row k k w ∷ others k rows
promoted-last k w rows none =
    let last = a_row k k w ∷ [] in
    let own : only k (rows ++ last) ≡ last = only-append k rows last ∙ ap (λ (l : List (Row ℕ)). l ++ only k last) none ∙ own-only k w in
    let rest : others k (rows ++ last) ≡ others k rows = others-append k rows last ∙ ap (λ (l : List (Row ℕ)). others k rows ++ l) (own-others k w) ∙ append-nil (others k rows) in
    ap (λ (l : List (Row ℕ)). l ++ others k (rows ++ last)) own ∙ ap (λ (l : List (Row ℕ)). a_row k k w ∷ l) rest

pub promoted-reweighed : (k v w : ℕ) (rows : List (Row ℕ)) → only k rows ≡ a_row k k v ∷ [] → promoted k (reweighed k w rows) ≡ a_row k k w ∷ others k rows
promoted-reweighed k v w rows is =
    let own : only k (reweighed k w rows) ≡ a_row k k w ∷ [] = only-reweighed k w rows ∙ ap (map {A = Row ℕ} {B = Row ℕ} (λ r. record r { weight = w })) is in
    ap (λ (l : List (Row ℕ)). l ++ others k (reweighed k w rows)) own ∙ ap (λ (l : List (Row ℕ)). a_row k k w ∷ l) (others-reweighed k w rows)

-- what a row's own weight becomes
own_weight : (k v : ℕ) (rows : List (Row ℕ)) → only k rows ≡ a_row k k v ∷ [] → total_weight (only k rows) ≡ v
own_weight k v rows is = (one_row k rows (a_row k k v) is).1

pub own_incremented : (k v delta : ℕ) (cap : Option ℕ) (rows : List (Row ℕ)) → only k rows ≡ a_row k k v ∷ [] → incremented k delta cap rows ≡ raised v delta cap
own_incremented k v delta cap rows is =
    ap (λ (l : List (Row ℕ)). cond (is_some (slice_get l 0)) (raised (total_weight (only k rows)) delta cap) (max 1 (capped cap delta))) is ∙ ap (λ (t : ℕ). raised t delta cap) (own_weight k v rows is)

pub raised_row : (n k v w delta : ℕ) (cap : Option ℕ) (core new : Core ℕ) → only k (shard_of n core k) ≡ a_row k k v ∷ [] → w ≡ raised (total_weight (only k (shard_of n core k))) delta cap
    → new ≡ with_shard n core k (promoted k (reweighed k w (shard_of n core k))) → new ≡ with_shard n core k (a_row k k (raised v delta cap) ∷ others k (shard_of n core k))
raised_row n k v w delta cap core new is weighs s =
    s ∙ ap (with_shard n core k) (promoted-reweighed k v w (shard_of n core k) is ∙ ap (λ (t : ℕ). a_row k k t ∷ others k (shard_of n core k)) (weighs ∙ ap (λ (t : ℕ). raised t delta cap) (own_weight k v (shard_of n core k) is)))

pub has_own : (k v : ℕ) (rows : List (Row ℕ)) → only k rows ≡ a_row k k v ∷ [] → only k rows ≢ []
has_own k v rows is f = let g : a_row k k v ∷ [] ≡ [] = sym is ∙ f in cc

pub put-last : (n k w : ℕ) (core new : Core ℕ) → only k (shard_of n core k) ≡ [] → new ≡ with_shard n core k (shard_of n core k ++ a_row k k w ∷ []) → new ≡ with_shard n core k (others k (shard_of n core k) ++ a_row k k w ∷ [])
put-last n k w core new none s = s ∙ ap (λ (l : List (Row ℕ)). with_shard n core k (l ++ a_row k k w ∷ [])) (sym (others_all k (shard_of n core k) none))

-- why a row isn't put last
module _ (n k w : ℕ) (core : Core ℕ) where
  abbrev err : LruFault ℕ → Result Bool (LruFault ℕ)
  err fault = Err fault

  pub refused_last : (fault : LruFault ℕ) (why : Refusal) → why ≡ row_refusal fault
      → ((back : ℕ) → err fault ≡ err (row.Memory back) → (back ≡ k) × (only k (shard_of n core k) ≡ []) × Fits (shard_bound n) w (shard_of n core k))
      → ((back : ℕ) → err fault ≡ err (row.Weight back) → (back ≡ k) × (only k (shard_of n core k) ≡ []) × (shard_bound n < total_weight (shard_of n core k) + w))
      → ((back : ℕ) → err fault ≡ err (row.Length back) → (back ≡ k) × (only k (shard_of n core k) ≡ []) × IsLong (shard_bound n) (shard_of n core k)) → IsRowRefusal n k w core why
  refused_last (row.Memory b) why e memory heavy long = subst (IsRowRefusal n k w core) (sym e) (memory b refl).1
  refused_last (row.Weight b) why e memory heavy long =
      let h = heavy b refl in
      subst (IsRowRefusal n k w core) (sym e) (subst (λ (l : List (Row ℕ)). shard_bound n < total_weight l + w) (sym (others_all k (shard_of n core k) h.1)) h.2)
  refused_last (row.Length b) why e memory heavy long = let l = long b refl in subst (IsRowRefusal n k w core) (sym e) (l.1, l.2)

-- a row that isn't new is there
pub own_there : (k : ℕ) (rows : List (Row ℕ)) → HasOwnRow k rows → only k rows ≢ [] → (v : ℕ) × (only k rows ≡ a_row k k v ∷ [])
own_there k rows (inl none) some = absurd (some none)
own_there k rows (inr own) some = own

-- the row that is there is given the weight 0
pub weightless_there : (n k v : ℕ) (core mid new : Core ℕ) → mid ≡ core → new ≡ with_shard n mid k (reweighed k 0 (shard_of n mid k)) → only k (shard_of n core k) ≡ a_row k k v ∷ []
    → (rows : List (Row ℕ)) × (new ≡ with_shard n core k rows) × (promoted k rows ≡ a_row k k 0 ∷ others k (shard_of n core k))
weightless_there n k v core mid new first second own =
    (reweighed k 0 (shard_of n core k), second ∙ ap (λ (c : Core ℕ). with_shard n c k (reweighed k 0 (shard_of n c k))) first, promoted-reweighed k v 0 (shard_of n core k) own)
