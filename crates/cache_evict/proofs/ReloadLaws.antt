-- Texts of all shards that are loaded into fresh ones.
use Rattle.std.proofs.Common.{◌≡◌, ℕ, ◌<◌, List, [], ◌∷◌, ◌++◌, length, get_or, set, sym, refl, ap, ◌∙◌, subst, append_assoc, arith}
use Rattle.std.specs.Prelude.{replicate, Ok, Option}
use Rattle.std.specs.List.{AllByRecursion}
use Rattle.std.proofs.lemmas.List.{append-nil, get_or_at, set_at, length-append}
use Rattle.cache_entries.specs.declared.rows.Tracked.{Tracked}
use Rattle.cache_entries.specs.Rows.{AreDistinct}
use Rattle.cache_evict.specs.declared.tracker.loading.Again.TheVariants.{PassedOver}
use Rattle.cache_evict.specs.Managed.{Managed, IsSharded, fresh, rows_at, shard_of}
use Rattle.cache_evict.specs.Loads.{SpellEach, LoadsInTurn}
use Rattle.cache_evict.proofs.LoadLaws.{loads-spelled}
use Rattle.cache_evict.proofs.InverseLaws.{put_again}

module _ (n : ℕ) (m : Managed) (h : IsSharded n m) where
  -- the shards that are done hold their rows, and the others none
  load_rest : (done shards : List (List Tracked)) (texts : List (List ℕ)) (old new : Managed)
      → m.shards ≡ done ++ shards → old.shards ≡ done ++ replicate (length shards) [] → SpellEach shards texts → LoadsInTurn n texts old new → new.shards ≡ done ++ shards
  load_rest done [] [] old new split held spelled loads = ap (λ (x : Managed). x.shards) loads ∙ held
  load_rest done [] (text ∷ texts) old new split held spelled loads = absurd spelled
  load_rest done (rows ∷ shards) [] old new split held spelled loads = absurd spelled
  load_rest done (rows ∷ shards) (text ∷ texts) old new split held spelled loads =
      let s = length done in
      let left : List (List Tracked) = replicate (length shards) [] in
      let here : rows_at m.shards s ≡ rows = ap (λ (l : List (List Tracked)). get_or l s []) split ∙ get_or_at done rows shards [] s refl in
      let empty : rows_at old.shards s ≡ [] = ap (λ (l : List (List Tracked)). get_or l s []) held ∙ get_or_at done [] left [] s refl in
      let below : s < length old.shards = omega (arith, ap length held, length-append done ([] ∷ left)) in
      let distinct : AreDistinct rows = subst AreDistinct here (h.distinct s) in
      let home : AllByRecursion (λ r. shard_of n r.entry ≡ s) rows = subst (AllByRecursion (λ r. shard_of n r.entry ≡ s)) here (h.home s) in
      let read = loads-spelled PassedOver n text old loads.0 rows text [] (Ok tt) spelled.0 (sym (append-nil text)) loads.1 in
      let put : loads.0.shards ≡ set old.shards s rows = ap (λ (x : Managed). x.shards) (read.1 ∙ put_again PassedOver n s old below rows empty distinct home) in
      let now : loads.0.shards ≡ (done ++ rows ∷ []) ++ left = put ∙ ap (λ (l : List (List Tracked)). set l s rows) held ∙ set_at done [] left rows s refl ∙ sym (append_assoc done (rows ∷ []) left) in
      load_rest (done ++ rows ∷ []) shards texts loads.0 new (split ∙ sym (append_assoc done (rows ∷ []) shards)) now spelled.1 loads.2 ∙ append_assoc done (rows ∷ []) shards

  pub loaded_again : (limit : ℕ) (watermark : Option ℕ) (new : Managed) (texts : List (List ℕ)) → SpellEach m.shards texts → LoadsInTurn n texts (fresh n limit watermark) new → new.shards ≡ m.shards
  loaded_again limit watermark new texts spelled loads =
      load_rest [] m.shards texts (fresh n limit watermark) new refl (ap (λ (k : ℕ). replicate k []) (sym h.count)) spelled loads
