-- Calls and replies without data are those of rows without data.
use Rattle.std.proofs.Common.{◌≡◌, ℕ, zero, suc, Bool, true, false, ◌+◌, max, cond, inl, inr, List, [], ◌∷◌, ◌++◌, take, slice_get, is_some, Option, sym, refl, ap, ◌∙◌}
use Rattle.std.specs.Bool.{⊤}
use Rattle.std.specs.Option.{option_map}
use Rattle.std.proofs.lemmas.Bool.{cases_eq, eq-eqb, ne_eqb}
use Rattle.std.proofs.lemmas.List.{take-map, length-map}
use Rattle.std.proofs.lemmas.List.Sums.{sum_by-cons}
use Rattle.lru_core.specs.declared.rows.Row.{Row}
use Rattle.lru_core.specs.Rows.{only, others, promoted, reweighed, row_of, a_row, pair_of, total_weight, incremented}
use Rattle.pingora_lru.specs.declared.call.LruCall.{LruCall}
use Rattle.pingora_lru.specs.declared.call.LruCall.TheVariants.{Admit, InsertTail, IncrementWeight, UpdateOrAdmit, SetWeight, Promote, PromoteTopN, Evict, Remove}
use Rattle.pingora_lru.specs.declared.call.Kept.{Kept}
use Rattle.pingora_lru.specs.Calls.{after, reply_of, bare_call, bare_reply, weight_of}
use Rattle.pingora_lru.specs.Records.{bare, IsRecord}

module _ {T : Type 0} where
  bare-only : (k : ℕ) (xs : List (Row T)) → only k (bare xs) ≡ bare (only k xs)
  bare-only k [] = refl
  bare-only k (r ∷ xs) = elim (cases_eq r.key k) [
    | inl e ↦ rw (eq-eqb r.key k e) (ap (λ l. a_row r.key tt r.weight ∷ l) (bare-only k xs))
    | inr n ↦ rw (ne_eqb r.key k n) (bare-only k xs)
  ]

  bare-others : (k : ℕ) (xs : List (Row T)) → others k (bare xs) ≡ bare (others k xs)
  bare-others k [] = refl
  bare-others k (r ∷ xs) = elim (cases_eq r.key k) [
    | inl e ↦ rw (eq-eqb r.key k e) (bare-others k xs)
    | inr n ↦ rw (ne_eqb r.key k n) (ap (λ l. a_row r.key tt r.weight ∷ l) (bare-others k xs))
  ]

  bare-reweighed : (k w : ℕ) (xs : List (Row T)) → reweighed k w (bare xs) ≡ bare (reweighed k w xs)
  bare-reweighed k w [] = refl
  bare-reweighed k w (r ∷ xs) = elim (cases_eq r.key k) [
    | inl e ↦ rw (eq-eqb r.key k e) (ap (λ l. a_row r.key tt w ∷ l) (bare-reweighed k w xs))
    | inr n ↦ rw (ne_eqb r.key k n) (ap (λ l. a_row r.key tt r.weight ∷ l) (bare-reweighed k w xs))
  ]

  bare-append : (xs ys : List (Row T)) → bare (xs ++ ys) ≡ bare xs ++ bare ys
  bare-append [] ys = refl
  bare-append (r ∷ xs) ys = ap (λ l. a_row r.key tt r.weight ∷ l) (bare-append xs ys)

  bare-promoted : (k : ℕ) (xs : List (Row T)) → promoted k (bare xs) ≡ bare (promoted k xs)
  bare-promoted k xs = rw (bare-only k xs, bare-others k xs) (sym (bare-append (only k xs) (others k xs)))

  bare-weight : (xs : List (Row T)) → total_weight (bare xs) ≡ total_weight xs
  bare-weight [] = refl
  bare-weight (r ∷ xs) =
      sum_by-cons (λ r. r.weight) (a_row r.key tt r.weight) (bare xs) ∙ (ap (λ n. r.weight + n) (bare-weight xs) ∙ sym (sum_by-cons (λ r. r.weight) r xs))

  bare-cond : (b : Bool) (xs ys : List (Row T)) → cond b (bare xs) (bare ys) ≡ bare (cond b xs ys)
  bare-cond true xs ys = refl
  bare-cond false xs ys = refl

  -- what row i shows
  bare-got : (i : ℕ) (xs : List (Row T)) → option_map (λ r. r.weight) (slice_get (bare xs) i) ≡ option_map (λ r. r.weight) (slice_get xs i)
  bare-got i [] = refl
  bare-got zero (r ∷ xs) = refl
  bare-got (suc i) (r ∷ xs) = bare-got i xs

  bare-some : (i : ℕ) (xs : List (Row T)) → is_some (slice_get (bare xs) i) ≡ is_some (slice_get xs i)
  bare-some i [] = refl
  bare-some zero (r ∷ xs) = refl
  bare-some (suc i) (r ∷ xs) = bare-some i xs

  bare-pair : (i : ℕ) (xs : List (Row T)) → option_map (λ p. (tt, p.1)) (option_map pair_of (slice_get xs i)) ≡ option_map pair_of (slice_get (bare xs) i)
  bare-pair i [] = refl
  bare-pair zero (r ∷ xs) = refl
  bare-pair (suc i) (r ∷ xs) = bare-pair i xs

  there : (k : ℕ) (xs : List (Row T)) → is_some (row_of k (bare xs)) ≡ is_some (row_of k xs)
  there k xs = rw (bare-only k xs) (bare-some 0 (only k xs))

  weight_there : (k : ℕ) (xs : List (Row T)) → weight_of k (bare xs) ≡ weight_of k xs
  weight_there k xs = rw (bare-only k xs) (bare-got 0 (only k xs))

  only_weight : (k : ℕ) (xs : List (Row T)) → total_weight (only k (bare xs)) ≡ total_weight (only k xs)
  only_weight k xs = rw (bare-only k xs) (bare-weight (only k xs))

  incremented_there : (k delta : ℕ) (most : Option ℕ) (xs : List (Row T)) → incremented k delta most (bare xs) ≡ incremented k delta most xs
  incremented_there k delta most xs = rw (there k xs, only_weight k xs) refl

  pub bare_after : (call : LruCall T) (xs : List (Row T)) → after (bare_call call) (bare xs) ≡ bare (after call xs)
  bare_after (Admit k d w) xs = ap (λ l. a_row k tt (max 1 w) ∷ l) (bare-others k xs)
  bare_after (InsertTail k d w) xs =
      let b = is_some (row_of k xs) in
      rw (there k xs) (ap (λ l. cond b (bare xs) l) (sym (bare-append xs (a_row k d w ∷ []))) ∙ bare-cond b xs (xs ++ a_row k d w ∷ []))
  bare_after (IncrementWeight k d delta most) xs =
      let b = is_some (row_of k xs) in
      let w = incremented k delta most xs in
      let moved : promoted k (reweighed k w (bare xs)) ≡ bare (promoted k (reweighed k w xs)) = rw (bare-reweighed k w xs) (bare-promoted k (reweighed k w xs)) in
      rw (incremented_there k delta most xs, there k xs) (ap (λ l. cond b l (a_row k tt w ∷ bare xs)) moved ∙ bare-cond b (promoted k (reweighed k w xs)) (a_row k d w ∷ xs))
  bare_after (UpdateOrAdmit k d w) xs = ap (λ l. a_row k tt (max 1 w) ∷ l) (bare-others k xs)
  bare_after (SetWeight k w) xs = bare-reweighed k w xs
  bare_after (Promote k) xs = bare-promoted k xs
  bare_after (PromoteTopN k n) xs =
      let b = is_some (row_of k (take n xs)) in
      rw (take-map, there k (take n xs)) (ap (λ l. cond b (bare xs) l) (bare-promoted k xs) ∙ bare-cond b xs (promoted k xs))
  bare_after Evict xs = rw (length-map, take-map) refl
  bare_after (Remove k) xs = bare-others k xs

  pub bare_replied : (call : LruCall T) (xs : List (Row T)) → reply_of (bare_call call) (bare xs) ≡ bare_reply (reply_of call xs)
  bare_replied (Admit k d w) xs = rw (only_weight k xs) refl
  bare_replied (InsertTail k d w) xs = rw (there k xs) refl
  bare_replied (IncrementWeight k d delta most) xs = rw (incremented_there k delta most xs, there k xs, only_weight k xs) refl
  bare_replied (UpdateOrAdmit k d w) xs = rw (weight_there k xs) refl
  bare_replied (SetWeight k w) xs = rw (weight_there k xs) refl
  bare_replied (Promote k) xs = rw (there k xs) refl
  bare_replied (PromoteTopN k n) xs = rw (there k xs) refl
  bare_replied Evict xs = rw (length-map, bare-pair) refl
  bare_replied (Remove k) xs = rw (bare-only k xs, bare-pair) refl

-- one call more
pub record_more : (old : List (Row ⊤)) (es : List Kept) (mid : List (Row ⊤)) (e : Kept) → IsRecord old es mid → e.reply ≡ reply_of e.call mid → IsRecord old (es ++ e ∷ []) (after e.call mid)
record_more old [] mid e h r = (rw h at r, ap (after e.call) h)
record_more old (x ∷ es) mid e h r = (h.0, record_more (after x.call old) es mid e h.1 r)

-- one call more of a shard with data
pub recorded_more : {T : Type 0} (es : List Kept) (rows : List (Row T)) (call : LruCall T) → IsRecord [] es (bare rows)
    → IsRecord [] (es ++ record { call = bare_call call; reply = bare_reply (reply_of call rows) } ∷ []) (bare (after call rows))
recorded_more es rows call h =
    rw (← bare_after call rows, ← bare_replied call rows) (record_more [] es (bare rows) (record { call = bare_call call; reply = reply_of (bare_call call) (bare rows) }) h refl)
