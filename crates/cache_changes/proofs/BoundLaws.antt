-- Bodies are tracked with at least what they count, and so keep the limits that the rows keep.
use Rattle.std.proofs.Common.{◌≡◌, ℕ, ◌≤◌, refl, ap, sym, ◌∙◌, true, false, subst, cond, [], ◌∷◌, length, arith, inl, inr}
use Rattle.std.specs.Prelude.{Bool, ◌==◌, ◌⊎◌, List, Option, Some, None, unwrap_or}
use Rattle.std.specs.List.{AllByRecursion, sum_by}
use Rattle.std.proofs.lemmas.List.Sums.{sum_by-cons}
use Rattle.cache_entries.specs.declared.entry.CacheEntryKey.{CacheEntryKey}
use Rattle.cache_entries.specs.declared.rows.Tracked.{Tracked}
use Rattle.cache_entries.specs.Entry.{same_entry}
use Rattle.cache_entries.specs.Keys.{same_bytes}
use Rattle.cache_entries.specs.Rows.{weight_of, all_weights, without_row, is_over}
use Rattle.cache_entries.specs.SameEntry.{same_entry-tells, same_bytes-tells, same-sym}
use Rattle.cache_changes.specs.Changes.{StoredKey, Write, Change, Changes, appends, finishes, renews, removes, admits, uses, reweighs, departs, evicts, key_alone, is_key}
use Rattle.cache_changes.specs.Writes.{finished_by, body_chosen, body_now, removes_key, renews_write, IsBody, IsOrderly}
use Rattle.cache_changes.specs.Uses.{last_weight, IsOrderOfUse}
use Rattle.cache_changes.specs.Bound.{is_entry_of, SettlesKey, SettlesRenewal, SettlesAtOnce, measure_of, MindsBodies, TracksBodies, is_settled, IsTrackedBody, HasDistinctKeys, AreWithin}
use Rattle.cache_changes.proofs.RowLaws.{weight_of-without}
use Rattle.cache_changes.proofs.WeightLaws.{without_tracked, kept_limits}
use Rattle.cache_changes.proofs.BodyLaws.{body_now-has, body_now-is, body_now-of, not_appended}

-- the last change finished w, or gave it another meta
abbrev JustMade : {M : Type 0} → Write M → Changes M → Type 0
JustMade w (finishes v ∷ _) = v ≡ w
JustMade w (renews n meta ∷ _) = (n == w.number) ≡ true
JustMade w _ = ⊥

-- the body before a change that removes nothing of its key and finishes none
body_own : {M : Type 0} (k : StoredKey) (w : Write M) (changes : Changes M) → IsOrderly changes → body_now k changes ≡ Some w → IsBody w.key w changes
body_own {M = M} k w changes o e =
    let body = body_now-is k changes w o e in
    subst (λ (j : StoredKey). IsBody j w changes) (sym (same_bytes-tells.equal w.key k body.of_key)) body

own_kept : {M : Type 0} (k : StoredKey) (w : Write M) (c : Change M) (changes : Changes M) → IsOrderly changes → body_now k changes ≡ Some w → removes_key k c ≡ false → removes_key w.key c ≡ false
own_kept k w c changes o e r = subst (λ (j : StoredKey). removes_key j c ≡ false) (sym (same_bytes-tells.equal w.key k (body_now-has k changes w o e).of_key)) r

finished_now : {M : Type 0} (k : StoredKey) (w : Write M) (c : Change M) (before : Changes M) → finished_by k c ≡ Some w → JustMade w (c ∷ before)
finished_now {M = M} k w (finishes v) before e = by_key (same_bytes v.key k) e
  where
    by_key : (t : Bool) → cond t (Some v) None ≡ Some w → v ≡ w
    by_key true e = cc
    by_key false e = absurd cc
finished_now k w _ before e = absurd cc

renewed_now : {M : Type 0} (w : Write M) (c : Change M) (before : Changes M) → renews_write w.number c ≡ true → JustMade w (c ∷ before)
renewed_now w (renews n meta) before e = e
renewed_now w _ before e = absurd cc

not_just : {M : Type 0} (w : Write M) (changes : Changes M) → is_settled changes ≡ true → JustMade w changes → ⊥
not_just w (finishes v ∷ before) s just = cc
not_just w (renews n meta ∷ before) s just = cc
not_just w _ s just = just

module _ {M : Type 0} (size : M → ℕ) where
  -- it is tracked after one more change
  tracked_more : (w : Write M) (c : Change M) (before : Changes M) (t : IsTrackedBody size w before) (v : ℕ) → renews_write w.number c ≡ false → last_weight t.entry (c ∷ before) ≡ Some v
      → measure_of size w (c ∷ before) ≤ v → IsTrackedBody size w (c ∷ before)
  tracked_more w c before t v kept weighs enough = record {
    since = c ∷ t.since;
    before = t.before;
    entry = t.entry;
    put = t.put;
    cause = t.cause;
    split = ap (λ (l : Changes M). c ∷ l) t.split;
    puts = t.puts;
    last = (kept, t.last);
    of_key = t.of_key;
    weight = v;
    weighs = weighs;
    enough = enough;
  }

  of_entry : (w : Write M) (before : Changes M) (t : IsTrackedBody size w before) (x : CacheEntryKey) → same_entry x t.entry ≡ true → is_entry_of w.key x ≡ true
  of_entry w before t x h = subst (λ (y : CacheEntryKey). is_entry_of w.key y ≡ true) (sym (same_entry-tells.equal x t.entry h)) t.of_key

  -- an entry that is tracked is so after a change that gives its write no other meta
  stays_tracked : (k : StoredKey) (w : Write M) (c : Change M) (before : Changes M) → IsOrderly (c ∷ before) → body_now k before ≡ Some w → removes_key k c ≡ false
      → renews_write w.number c ≡ false → MindsBodies size c before → IsTrackedBody size w before → IsTrackedBody size w (c ∷ before)
  stays_tracked k w (appends m bytes) before o e r n minds t = tracked_more w (appends m bytes) before t t.weight refl t.weighs (rw (not_appended k m before o.1 o.0.0 w e) t.enough)
  stays_tracked k w (renews m meta) before o e r n minds t = tracked_more w (renews m meta) before t t.weight n t.weighs (rw n t.enough)
  stays_tracked k w (admits x v) before o e r n minds t = by_entry (same_entry x t.entry) refl
    where
      by_entry : (b : Bool) → same_entry x t.entry ≡ b → IsTrackedBody size w (admits x v ∷ before)
      by_entry true h =
          tracked_more w (admits x v) before t v refl (ap (λ (b : Bool). cond b (Some v) (last_weight t.entry before)) h) (minds w (of_entry w before t x h) (body_own k w before o.1 e))
      by_entry false h = tracked_more w (admits x v) before t t.weight refl (ap (λ (b : Bool). cond b (Some v) (last_weight t.entry before)) h ∙ t.weighs) t.enough
  stays_tracked k w (reweighs x v) before o e r n minds t = by_entry (same_entry x t.entry) refl
    where
      by_entry : (b : Bool) → same_entry x t.entry ≡ b → IsTrackedBody size w (reweighs x v ∷ before)
      by_entry true h =
          tracked_more w (reweighs x v) before t v refl (ap (λ (b : Bool). cond b (Some v) (last_weight t.entry before)) h) (minds w (of_entry w before t x h) (body_own k w before o.1 e))
      by_entry false h = tracked_more w (reweighs x v) before t t.weight refl (ap (λ (b : Bool). cond b (Some v) (last_weight t.entry before)) h ∙ t.weighs) t.enough
  stays_tracked k w (uses x v) before o e r n minds t = tracked_more w (uses x v) before t t.weight refl (by_entry (same_entry x t.entry)) t.enough
    where
      by_entry : (b : Bool) → cond b (Some (unwrap_or (last_weight t.entry before) v)) (last_weight t.entry before) ≡ Some t.weight
      by_entry true = ap (λ (y : Option ℕ). Some (unwrap_or y v)) t.weighs
      by_entry false = t.weighs
  stays_tracked k w (departs x) before o e r n minds t = by_entry (same_entry x t.entry) refl
    where
      by_entry : (b : Bool) → same_entry x t.entry ≡ b → IsTrackedBody size w (departs x ∷ before)
      by_entry true h = absurd (minds w (of_entry w before t x h) (body_own k w before o.1 e))
      by_entry false h = tracked_more w (departs x) before t t.weight refl (ap (λ (b : Bool). cond b None (last_weight t.entry before)) h ∙ t.weighs) t.enough
  stays_tracked k w (evicts x) before o e r n minds t = by_entry (same_entry x t.entry) refl
    where
      by_entry : (b : Bool) → same_entry x t.entry ≡ b → IsTrackedBody size w (evicts x ∷ before)
      by_entry true h =
          let key : w.key ≡ k = same_bytes-tells.equal w.key k (body_now-has k before w o.1 e).of_key in
          let removed : is_key k (key_alone x) ≡ true = subst (λ (j : StoredKey). is_key j (key_alone x) ≡ true) key (of_entry w before t x h) in
          let kept : is_key k (key_alone x) ≡ false = r in
          absurd cc
      by_entry false h = tracked_more w (evicts x) before t t.weight refl (ap (λ (b : Bool). cond b None (last_weight t.entry before)) h ∙ t.weighs) t.enough
  stays_tracked k w c before o e r n minds t = tracked_more w c before t t.weight n t.weighs t.enough

  -- a finish that was settled at once, by an admission where its key stays
  settled_now : (w : Write M) (c : Change M) (before : Changes M) → SettlesKey w.key c → removes_key w.key c ≡ false → MindsBodies size c (finishes w ∷ before)
      → IsBody w.key w (finishes w ∷ before) → IsTrackedBody size w (c ∷ finishes w ∷ before)
  settled_now w (admits e v) before key r minds body = record {
    since = [];
    before = before;
    entry = e;
    put = admits e v;
    cause = finishes w;
    split = refl;
    puts = (refl, refl);
    last = tt;
    of_key = key;
    weight = v;
    weighs = ap (λ (t : Bool). cond t (Some v) (last_weight e before)) (same_entry-tells.itself e);
    enough = minds w key body;
  }
  settled_now w (removes j) before key r minds body = absurd cc
  settled_now w _ before key r minds body = absurd key

  -- another meta that was settled at once, by a new weight where its key stays
  weighed_now : (w : Write M) (c : Change M) (n : ℕ) (meta : M) (before : Changes M) → SettlesRenewal w.key c → removes_key w.key c ≡ false → MindsBodies size c (renews n meta ∷ before)
      → (n == w.number) ≡ true → IsBody w.key w (renews n meta ∷ before) → IsTrackedBody size w (c ∷ renews n meta ∷ before)
  weighed_now w (reweighs e v) n meta before key r minds own body = record {
    since = [];
    before = before;
    entry = e;
    put = reweighs e v;
    cause = renews n meta;
    split = refl;
    puts = (refl, own);
    last = tt;
    of_key = key;
    weight = v;
    weighs = ap (λ (t : Bool). cond t (Some v) (last_weight e before)) (same_entry-tells.itself e);
    enough = minds w key body;
  }
  weighed_now w (removes j) n meta before key r minds own body = absurd cc
  weighed_now w _ n meta before key r minds own body = absurd key

  then_tracked : (k : StoredKey) (w : Write M) (c : Change M) (before : Changes M) → IsOrderly before → body_now k before ≡ Some w → SettlesAtOnce c before → removes_key w.key c ≡ false
      → MindsBodies size c before → JustMade w before → IsTrackedBody size w (c ∷ before)
  then_tracked k w c (finishes v ∷ before) o e at_once r minds just =
      subst (λ (x : Write M). SettlesKey x.key c → removes_key x.key c ≡ false → IsBody x.key x (finishes v ∷ before) → IsTrackedBody size x (c ∷ finishes v ∷ before)) just
      (λ s r b. settled_now v c before s r minds b) (subst (λ (x : Write M). SettlesKey x.key c) just at_once) r (body_own k w (finishes v ∷ before) o e)
  then_tracked k w c (renews n meta ∷ before) o e at_once r minds just =
      weighed_now w c n meta before (at_once w just (body_own k w before o.1 e)) r minds just (body_own k w (renews n meta ∷ before) o e)
  then_tracked k w c _ o e at_once r minds just = absurd just

  -- w is tracked, or about to be
  tracked-or : (k : StoredKey) (w : Write M) (changes : Changes M) → IsOrderly changes → TracksBodies size changes → body_now k changes ≡ Some w → JustMade w changes ⊎ IsTrackedBody size w changes
  tracked-or k w [] o t e = absurd cc
  tracked-or k w (c ∷ before) o t e = by_change (removes_key k c) refl (finished_by k c) refl (tracked-or k w before o.1 t.2) e
    where
      by_meta : removes_key k c ≡ false → body_now k before ≡ Some w → IsTrackedBody size w before → (n : Bool) → renews_write w.number c ≡ n → JustMade w (c ∷ before) ⊎ IsTrackedBody size w (c ∷ before)
      by_meta r e there true h = inl (renewed_now w c before h)
      by_meta r e there false h = inr (stays_tracked k w c before o e r h t.1 there)

      by_change : (r : Bool) → removes_key k c ≡ r → (f : Option (Write M)) → finished_by k c ≡ f → (body_now k before ≡ Some w → JustMade w before ⊎ IsTrackedBody size w before)
          → body_chosen r f (body_now k before) ≡ Some w → JustMade w (c ∷ before) ⊎ IsTrackedBody size w (c ∷ before)
      by_change true r f fe ih e = absurd cc
      by_change false r (Some v) fe ih e = inl (finished_now k w c before (fe ∙ e))
      by_change false r None fe ih e = elim (ih e) [
        | inl just ↦ inr (then_tracked k w c before o.1 e t.0 (own_kept k w c before o.1 e r) t.1 just)
        | inr there ↦ by_meta r e there (renews_write w.number c) refl
      ]

  -- each body is tracked
  pub bodies-tracked : (changes : Changes M) → IsOrderly changes → TracksBodies size changes → is_settled changes ≡ true → (w : Write M) → IsBody w.key w changes → IsTrackedBody size w changes
  bodies-tracked changes o t s w body = elim (tracked-or w.key w changes o t (body_now-of w.key changes w o body)) [ inl just ↦ absurd (not_just w changes s just) | inr there ↦ there ]

-- ---- the limits

-- an entry of the key has a row that weighs at least so much
abbrev HasRow : StoredKey → ℕ → List Tracked → Type 0
HasRow k n rows = (e : CacheEntryKey) × (w : ℕ) × (is_entry_of k e ≡ true) × (weight_of e rows ≡ Some w) × (n ≤ w)

-- an entry has one key
one_key : (j k : StoredKey) (o : Option StoredKey) → is_key j o ≡ true → is_key k o ≡ true → same_bytes k j ≡ true
one_key j k None a b = absurd cc
one_key j k (Some i) a b =
    subst (λ (x : StoredKey). same_bytes k x ≡ true) (same_bytes-tells.equal i j a) (same-sym same_bytes same_bytes-tells k i ∙ b)

other_row : (j k : StoredKey) (e : CacheEntryKey) (n : ℕ) (rows : List Tracked) → same_bytes k j ≡ false → is_entry_of j e ≡ true → HasRow k n rows → HasRow k n (without_row e rows)
other_row j k e n rows apart key h = (h.0, h.1, h.2, weight_of-without h.0 e rows ∙ ap (λ (b : Bool). cond b None (weight_of h.0 rows)) (by_entry (same_entry e h.0) refl) ∙ h.3, h.4)
  where
    by_entry : (b : Bool) → same_entry e h.0 ≡ b → b ≡ false
    by_entry false t = refl
    by_entry true t =
        let one : same_bytes k j ≡ true = one_key j k (key_alone h.0) (subst (λ (y : CacheEntryKey). is_entry_of j y ≡ true) (same_entry-tells.equal e h.0 t) key) h.2 in
        absurd cc

module _ {M : Type 0} (size : Write M → ℕ) where
  other_rows : (w : Write M) (e : CacheEntryKey) (ws : List (Write M)) (rows : List Tracked) → is_entry_of w.key e ≡ true → AllByRecursion (λ v. same_bytes v.key w.key ≡ false) ws
      → AllByRecursion (λ v. HasRow v.key (size v) rows) ws → AllByRecursion (λ v. HasRow v.key (size v) (without_row e rows)) ws
  other_rows w e [] rows key d h = tt
  other_rows w e (v ∷ ws) rows key d h = (other_row w.key v.key e (size v) rows d.0 key h.0, other_rows w e ws rows key d.1 h.1)

  within_rows : (ws : List (Write M)) (rows : List Tracked) → HasDistinctKeys ws → AllByRecursion (λ v. HasRow v.key (size v) rows) ws
      → (sum_by size ws ≤ all_weights rows) × (length ws ≤ length rows)
  within_rows [] rows d h = (omega arith, omega arith)
  within_rows (w ∷ ws) rows d h =
      let row : HasRow w.key (size w) rows = h.0 in
      let less = without_tracked row.0 row.1 rows row.3 in
      let rest = within_rows ws (without_row row.0 rows) d.1 (other_rows w row.0 ws rows row.2 d.0 h.1) in
      let enough : size w ≤ row.1 = row.4 in
      (omega (arith, sum_by-cons size w ws, rest.0, enough, less.0), omega (arith, rest.1, less.1))

module _ {M : Type 0} (size : M → ℕ) where
  rows_there : (changes : Changes M) (rows : List Tracked) → IsOrderOfUse rows changes → ((w : Write M) → IsBody w.key w changes → IsTrackedBody size w changes)
      → (ws : List (Write M)) → AllByRecursion (λ w. IsBody w.key w changes) ws → AllByRecursion (λ w. HasRow w.key (measure_of size w changes) rows) ws
  rows_there changes rows o t [] h = tt
  rows_there changes rows o t (w ∷ ws) h =
      let there = t w h.0 in
      ((there.entry, there.weight, there.of_key, o.weights there.entry ∙ there.weighs, there.enough), rows_there changes rows o t ws h.1)

  -- bodies that are tracked keep the limits
  pub bodies-within : (changes : Changes M) → IsOrderly changes → TracksBodies size changes → is_settled changes ≡ true → (limit : ℕ) (watermark : Option ℕ) (rows : List Tracked)
      → IsOrderOfUse rows changes → is_over limit watermark rows ≡ false → AreWithin size limit watermark changes
  bodies-within changes o t s limit watermark rows order e bodies d h =
      let sums = within_rows (λ w. measure_of size w changes) bodies rows d (rows_there changes rows order (bodies-tracked size changes o t s) bodies h) in
      kept_limits limit watermark rows (sum_by (λ w. measure_of size w changes) bodies) (length bodies) e sums.0 sums.1
