-- Shards that are loaded from files of their rows.
use Rattle.std.proofs.Common.{◌≡◌, inl, inr, ℕ, ◌+◌, ◌<◌, ◌≤◌, List, [], ◌∷◌, ◌++◌, length, set, Option, Some, None, Ok, sym, refl, ap, ◌∙◌, subst, arith}
use Rattle.std.proofs.lemmas.Bool.{cases_eq}
use Rattle.std.proofs.lemmas.List.{append-nil, ext_get_or, get_or-replicate, get_or-set_other, get_or-set_same, length-replicate, length-set}
use Rattle.lru_files.specs.Load.{Loads}
use Rattle.lru_files.specs.Load.Loads.{NoShard, Taken, Missing, Refused, Unread}
use Rattle.lru_files.specs.declared.fault.ShardLoadFailure.{ShardLoadFailure}
use Rattle.cache_entries.specs.declared.rows.Tracked.{Tracked}
use Rattle.cache_entries.specs.RowText.{SpellsRecency}
use Rattle.cache_evict.specs.declared.load_fault.LoadFault.{LoadFault}
use Rattle.cache_evict.specs.declared.tracker.loading.Again.TheVariants.{PassedOver}
use Rattle.cache_evict.specs.FileLoads.{HasRows, TakesShard}
use Rattle.cache_evict.specs.Managed.{Managed, IsSharded, fresh, rows_at}
use Rattle.cache_evict.proofs.InverseLaws.{put_again}
use Rattle.cache_evict.proofs.LoadLaws.{loads-spelled}

no_failure : {X : Type 0} (failed : List X) (x : X) → failed ++ x ∷ [] ≡ [] → ⊥
no_failure [] x e = cc
no_failure (y ∷ failed) x e = cc

module _ (keeps : Type 0) (kept : keeps) (files : ℕ → Option (List ℕ)) (n : ℕ) (m : Managed) (h : IsSharded n m) (stored : (i : ℕ) → i < n → HasRows (rows_at m.shards i) (files i)) where
  -- the shards below k hold their rows, and the others none
  record AreLoaded (k : ℕ) (now : Managed) : Type 0 where
    count : length now.shards ≡ n
    done : (i : ℕ) → i < k → rows_at now.shards i ≡ rows_at m.shards i
    left : (i : ℕ) → k ≤ i → i < n → rows_at now.shards i ≡ []

  taken : (k : ℕ) (now next : Managed) (bytes : List ℕ) → k < n → AreLoaded k now → files k ≡ Some bytes → TakesShard n now k bytes (Ok tt) next → AreLoaded (k + 1) next
  taken k now next bytes below a file took =
      let rows = rows_at m.shards k in
      let spelled : SpellsRecency rows bytes = subst (HasRows rows) file (stored k below) in
      let read = loads-spelled PassedOver n bytes now next rows bytes [] (Ok tt) spelled (sym (append-nil bytes)) took in
      let here : k < length now.shards = omega (arith, a.count) in
      let put : next.shards ≡ set now.shards k rows =
      ap (λ (x : Managed). x.shards) (read.1 ∙ put_again PassedOver n k now here rows (a.left k (omega arith) below) (h.distinct k) (h.home k)) in
      record {
        count = ap length put ∙ length-set now.shards k rows ∙ a.count;
        done = λ i under. ap (λ (l : List (List Tracked)). rows_at l i) put ∙ elim (cases_eq i k) [
          | inl e ↦ subst (λ (j : ℕ). rows_at (set now.shards k rows) j ≡ rows_at m.shards j) (sym e) (get_or-set_same now.shards k rows [] here)
          | inr apart ↦ get_or-set_other now.shards k i rows [] apart ∙ a.done i (omega (arith, apart))
        ];
        left = λ i above inside. ap (λ (l : List (List Tracked)). rows_at l i) put ∙ get_or-set_other now.shards k i rows [] (λ (e : i ≡ k). omega (arith, e)) ∙ a.left i (omega arith) inside;
      }

  missing : (k : ℕ) (now : Managed) → k < n → AreLoaded k now → files k ≡ None → AreLoaded (k + 1) now
  missing k now below a file = record {
    count = a.count;
    done = λ i under. elim (cases_eq i k) [
      | inl e ↦ subst (λ (j : ℕ). rows_at now.shards j ≡ rows_at m.shards j) (sym e) (a.left k (omega arith) below ∙ sym (subst (HasRows (rows_at m.shards k)) file (stored k below)))
      | inr apart ↦ a.done i (omega (arith, apart))
    ];
    left = λ i above inside. a.left i (omega arith) inside;
  }

  all_loaded : (k loaded absent : ℕ) (errored : List (ℕ × ShardLoadFailure LoadFault)) (start now : Managed) → Loads keeps files (TakesShard n) k loaded absent errored start now
      → errored ≡ [] → k ≤ n → AreLoaded 0 start → AreLoaded k now
  all_loaded _ _ _ _ _ _ (NoShard start) none within begin = begin
  all_loaded _ _ _ _ _ _ (Taken k loaded absent errored start now next bytes before file took) none within begin =
      taken k now next bytes (omega arith) (all_loaded k loaded absent errored start now before none (omega arith) begin) (file kept) took
  all_loaded _ _ _ _ _ _ (Missing k loaded absent errored start now before file) none within begin =
      missing k now (omega arith) (all_loaded k loaded absent errored start now before none (omega arith) begin) (file kept)
  all_loaded _ _ _ _ _ _ (Refused k loaded absent errored start now next bytes error before file took) none within begin = absurd (no_failure errored _ none)
  all_loaded _ _ _ _ _ _ (Unread k loaded absent errored start now failure before unread) none within begin = absurd (no_failure errored _ none)

  pub recovered : (limit : ℕ) (watermark : Option ℕ) (new : Managed) (loaded absent : ℕ) → Loads keeps files (TakesShard n) n loaded absent [] (fresh n limit watermark) new → new.shards ≡ m.shards
  recovered limit watermark new loaded absent loads =
      let empty : List (List Tracked) = (fresh n limit watermark).shards in
      let begin : AreLoaded 0 (fresh n limit watermark) = record {
        count = length-replicate n [];
        done = λ i under. absurd (omega (arith, under));
        left = λ i above inside. get_or-replicate n i [] [] inside;
      } in
      let all = all_loaded n loaded absent [] (fresh n limit watermark) new loads refl (omega arith) begin in
      ext_get_or [] new.shards m.shards (all.count ∙ sym h.count) (λ i inside. all.done i (omega (arith, all.count)))
