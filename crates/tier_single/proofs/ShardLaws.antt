-- Shards keep to what they keep to, whatever is done to them; and what goes last in a shard is evicted.
use Rattle.std.proofs.Common.{◌≡◌, ℕ, ◌+◌, ◌<◌, ◌≤◌, Bool, true, false, List, [], ◌∷◌, ◌++◌, length, replicate, refl, ap, sym, ◌∙◌, arith, cond, Some, None, Option, inl, inr, subst}
use Rattle.std.specs.Prelude.{not, unwrap_or, option_map, is_some, slice_set}
use Rattle.std.specs.List.{AllByRecursion}
use Rattle.std.proofs.Math.Nat.{mod-lt}
use Rattle.std.proofs.lemmas.Bool.{cases_eq, cases_lt}
use Rattle.std.proofs.lemmas.List.{length-set, length-replicate, get_or_past, get_or-replicate, get_or-set_other}
use Rattle.std.proofs.lemmas.Grind.{get_or-set_at}
use Rattle.rand_core.specs.Stream.{Stream}
use Rattle.cache_entries.specs.declared.entry.CacheEntryKey.{CacheEntryKey}
use Rattle.cache_entries.specs.declared.rows.Tracked.{Tracked}
use Rattle.cache_entries.specs.Entry.{same_entry}
use Rattle.cache_entries.specs.EntryText.{entry_hash}
use Rattle.cache_entries.specs.Rows.{row_of, weight_of, without_row, admitted, AreDistinct}
use Rattle.cache_entries.specs.SameEntry.{same_entry-tells}
use Rattle.cache_changes.specs.Uses.{with_weight, reweighed}
use Rattle.cache_changes.proofs.RowLaws.{row_of-without, find-map, weight_of-admitted}
use Rattle.cache_evict.specs.Managed.{Managed, fresh, shard_of, rows_at, rows_of, put_first, use_first, weighed_anew, taken_out, is_over, saturated, GoesLast, Evicts, IsSharded}
use Rattle.tier_model.specs.Evictions.{gone, all_gone, GoInTurn}

-- rows of shard s, of n shards: no entry has two, and each is of an entry of that shard
record IsShard (n s : ℕ) (rows : List Tracked) : Type 0 where
  distinct : AreDistinct rows
  home : AllByRecursion (λ r. shard_of n r.entry ≡ s) rows

-- ---- one shard

none_either : {X : Type 0} (v : Bool) (o : Option X) → o ≡ None → cond v None o ≡ None
none_either true o e = refl
none_either false o e = e

pub distinct-without : (e : CacheEntryKey) (rows : List Tracked) → AreDistinct rows → AreDistinct (without_row e rows)
distinct-without e [] d = tt
distinct-without e (r ∷ rows) d = by_test (same_entry r.entry e) (distinct-without e rows d.1)
  where
    by_test : (v : Bool) → AreDistinct (without_row e rows) → AreDistinct (cond (not v) (r ∷ without_row e rows) (without_row e rows))
    by_test true rest = rest
    by_test false rest = (row_of-without r.entry e rows ∙ none_either (same_entry e r.entry) (row_of r.entry rows) d.0, rest)

pub distinct-admitted : (e : CacheEntryKey) (w : ℕ) (rows : List Tracked) → AreDistinct rows → AreDistinct (admitted e w rows)
distinct-admitted e w rows d = (row_of-without e e rows ∙ ap (λ (v : Bool). cond v None (row_of e rows)) (same_entry-tells.itself e), distinct-without e rows d)

row_of-with : (e k : CacheEntryKey) (w : ℕ) (rows : List Tracked) → row_of e rows ≡ None → row_of e (with_weight k w rows) ≡ None
row_of-with e k w rows none =
    find-map (λ r. same_entry r.entry e) (λ r. cond (same_entry r.entry k) (record r { weight = w }) r) rows (λ r. by_key r (same_entry r.entry k))
    ∙ ap (option_map (λ r. cond (same_entry r.entry k) (record r { weight = w }) r)) none
  where
    by_key : (r : Tracked) (v : Bool) → same_entry (cond v (record r { weight = w }) r).entry e ≡ same_entry r.entry e
    by_key r true = refl
    by_key r false = refl

distinct-with : (k : CacheEntryKey) (w : ℕ) (rows : List Tracked) → AreDistinct rows → AreDistinct (with_weight k w rows)
distinct-with k w [] d = tt
distinct-with k w (r ∷ rows) d = by_key (same_entry r.entry k) (distinct-with k w rows d.1)
  where
    by_key : (v : Bool) → AreDistinct (with_weight k w rows) → AreDistinct (cond v (record r { weight = w }) r ∷ with_weight k w rows)
    by_key true rest = (row_of-with r.entry k w rows d.0, rest)
    by_key false rest = (row_of-with r.entry k w rows d.0, rest)

pub distinct-reweighed : (e : CacheEntryKey) (w : ℕ) (rows : List Tracked) → AreDistinct rows → AreDistinct (reweighed e w rows)
distinct-reweighed e w rows d = by_weight (weight_of e rows)
  where
    by_weight : (o : Option ℕ) → AreDistinct (cond (is_some o) (with_weight e w rows) (admitted e w rows))
    by_weight None = distinct-admitted e w rows d
    by_weight (Some x) = distinct-with e w rows d

home-without : (n s : ℕ) (e : CacheEntryKey) (rows : List Tracked) → AllByRecursion (λ r. shard_of n r.entry ≡ s) rows → AllByRecursion (λ r. shard_of n r.entry ≡ s) (without_row e rows)
home-without n s e [] h = tt
home-without n s e (r ∷ rows) h = by_test (same_entry r.entry e) (home-without n s e rows h.1)
  where
    by_test : (v : Bool) → AllByRecursion (λ r. shard_of n r.entry ≡ s) (without_row e rows) → AllByRecursion (λ r. shard_of n r.entry ≡ s) (cond (not v) (r ∷ without_row e rows) (without_row e rows))
    by_test true rest = rest
    by_test false rest = (h.0, rest)

shard-without : (n s : ℕ) (e : CacheEntryKey) (rows : List Tracked) → IsShard n s rows → IsShard n s (without_row e rows)
shard-without n s e rows h = record { distinct = distinct-without e rows h.distinct; home = home-without n s e rows h.home }

shard-admitted : (n s : ℕ) (e : CacheEntryKey) (w : ℕ) (rows : List Tracked) → shard_of n e ≡ s → IsShard n s rows → IsShard n s (admitted e w rows)
shard-admitted n s e w rows here h =
    let rest = shard-without n s e rows h in
    record { distinct = distinct-admitted e w rows h.distinct; home = (here, rest.home) }

home-with : (n s : ℕ) (e : CacheEntryKey) (w : ℕ) (rows : List Tracked) → AllByRecursion (λ r. shard_of n r.entry ≡ s) rows → AllByRecursion (λ r. shard_of n r.entry ≡ s) (with_weight e w rows)
home-with n s e w [] h = tt
home-with n s e w (r ∷ rows) h = by_test (same_entry r.entry e) (home-with n s e w rows h.1)
  where
    by_test : (v : Bool) → AllByRecursion (λ r. shard_of n r.entry ≡ s) (with_weight e w rows) → AllByRecursion (λ r. shard_of n r.entry ≡ s) (cond v (record r { weight = w }) r ∷ with_weight e w rows)
    by_test true rest = (h.0, rest)
    by_test false rest = (h.0, rest)

shard-reweighed : (n s : ℕ) (e : CacheEntryKey) (w : ℕ) (rows : List Tracked) → shard_of n e ≡ s → IsShard n s rows → IsShard n s (reweighed e w rows)
shard-reweighed n s e w rows here h = record { distinct = distinct-reweighed e w rows h.distinct; home = by_weight (weight_of e rows) }
  where
    by_weight : (o : Option ℕ) → AllByRecursion (λ r. shard_of n r.entry ≡ s) (cond (is_some o) (with_weight e w rows) (admitted e w rows))
    by_weight None = (here, home-without n s e rows h.home)
    by_weight (Some x) = home-with n s e w rows h.home

-- the last row of rows that are distinct
last-weight : (e : CacheEntryKey) (w : ℕ) (front : List Tracked) → AreDistinct (front ++ record { entry = e; weight = w } ∷ []) → weight_of e (front ++ record { entry = e; weight = w } ∷ []) ≡ Some w
last-weight e w [] d = ap (λ (v : Bool). option_map (λ (r : Tracked). r.weight) (cond v (Some (record { entry = e; weight = w })) None)) (same_entry-tells.itself e)
last-weight e w (r ∷ front) d = by_test (same_entry r.entry e) refl (last-weight e w front d.1)
  where
    later : List Tracked
    later = front ++ record { entry = e; weight = w } ∷ []

    by_test : (v : Bool) → same_entry r.entry e ≡ v → weight_of e (front ++ record { entry = e; weight = w } ∷ []) ≡ Some w
        → option_map (λ (x : Tracked). x.weight) (cond v (Some r) (row_of e (front ++ record { entry = e; weight = w } ∷ []))) ≡ Some w
    by_test false t ih = ih
    by_test true t ih =
        let same : r.entry ≡ e = same_entry-tells.equal r.entry e t in
        let none : weight_of e (front ++ record { entry = e; weight = w } ∷ []) ≡ None = ap (option_map (λ (x : Tracked). x.weight)) (ap (λ (x : CacheEntryKey). row_of x (front ++ record { entry = e; weight = w } ∷ [])) (sym same) ∙ d.0) in
        absurd cc

last-without : (e : CacheEntryKey) (w : ℕ) (front : List Tracked) → AreDistinct (front ++ record { entry = e; weight = w } ∷ []) → without_row e (front ++ record { entry = e; weight = w } ∷ []) ≡ front
last-without e w [] d = ap (λ (v : Bool). cond (not v) (record { entry = e; weight = w } ∷ []) []) (same_entry-tells.itself e)
last-without e w (r ∷ front) d = by_test (same_entry r.entry e) refl (last-without e w front d.1)
  where
    by_test : (v : Bool) → same_entry r.entry e ≡ v → without_row e (front ++ record { entry = e; weight = w } ∷ []) ≡ front
        → cond (not v) (r ∷ without_row e (front ++ record { entry = e; weight = w } ∷ [])) (without_row e (front ++ record { entry = e; weight = w } ∷ [])) ≡ r ∷ front
    by_test false t ih = ap (λ (l : List Tracked). r ∷ l) ih
    by_test true t ih =
        let same : r.entry ≡ e = same_entry-tells.equal r.entry e t in
        let none : weight_of e (front ++ record { entry = e; weight = w } ∷ []) ≡ None = ap (option_map (λ (x : Tracked). x.weight)) (ap (λ (x : CacheEntryKey). row_of x (front ++ record { entry = e; weight = w } ∷ [])) (sym same) ∙ d.0) in
        let some = last-weight e w front d.1 in
        absurd cc

last-home : (n s : ℕ) (e : CacheEntryKey) (w : ℕ) (front : List Tracked) → AllByRecursion (λ r. shard_of n r.entry ≡ s) (front ++ record { entry = e; weight = w } ∷ []) → shard_of n e ≡ s
last-home n s e w [] h = h.0
last-home n s e w (r ∷ front) h = last-home n s e w front h.1

-- ---- all of them

each-shard : (n : ℕ) (m : Managed) → IsSharded n m → (s : ℕ) → IsShard n s (rows_at m.shards s)
each-shard n m k s = record { distinct = k.distinct s; home = k.home s }

sharded : (n : ℕ) (m : Managed) → 0 < n → length m.shards ≡ n → ((s : ℕ) → IsShard n s (rows_at m.shards s)) → IsSharded n m
sharded n m some count each = record { some = some; count = count; distinct = λ s. (each s).distinct; home = λ s. (each s).home }

pub shard-below : (n : ℕ) (e : CacheEntryKey) (m : Managed) → IsSharded n m → shard_of n e < length m.shards
shard-below n e m k = subst (λ (x : ℕ). shard_of n e < x) (sym k.count) (mod-lt (entry_hash e) k.some)

none_past : (m : Managed) (s : ℕ) → length m.shards ≤ s → rows_at m.shards s ≡ []
none_past m s h = get_or_past m.shards s [] h

empty_shard : (n s : ℕ) → IsShard n s []
empty_shard n s = record { distinct = tt; home = tt }

-- other rows in one shard
each-set : (n i : ℕ) (shards : List (List Tracked)) (rows : List Tracked) → ((s : ℕ) → IsShard n s (rows_at shards s)) → IsShard n i rows → (s : ℕ) → IsShard n s (rows_at (slice_set shards i rows) s)
each-set n i shards rows each here s = elim (cases_eq s i) [
  | inl same ↦ elim (cases_lt i (length shards)) [
    | inl within ↦ subst (λ (l : List Tracked). IsShard n s l) (sym (get_or-set_at shards i s rows [] same within)) (subst (λ (x : ℕ). IsShard n x rows) (sym same) here)
    | inr past ↦ subst (λ (l : List Tracked). IsShard n s l) (sym (get_or_past (slice_set shards i rows) s [] (omega (arith, past, same, length-set shards i rows)))) (empty_shard n s)
  ]
  | inr other ↦ subst (λ (l : List Tracked). IsShard n s l) (sym (get_or-set_other shards i s rows [] other)) (each s)
]

pub kept-fresh : (n limit : ℕ) (mark : Option ℕ) → 0 < n → IsSharded n (fresh n limit mark)
kept-fresh n limit mark pos =
    sharded n (fresh n limit mark) pos (length-replicate n [])
    (λ s. elim (cases_lt s n) [
      | inl within ↦ subst (λ (l : List Tracked). IsShard n s l) (sym (get_or-replicate n s [] [] within)) (empty_shard n s)
      | inr past ↦ subst (λ (l : List Tracked). IsShard n s l) (sym (get_or_past (replicate n []) s [] (omega (arith, past, length-replicate {A = List Tracked} n [])))) (empty_shard n s)
    ])

module _ (n : ℕ) (m : Managed) (k : IsSharded n m) where
  pub kept-put : (e : CacheEntryKey) (w : ℕ) → IsSharded n (put_first n e w m)
  kept-put e w =
      sharded n (put_first n e w m) k.some (length-set m.shards (shard_of n e) _ ∙ k.count)
      (each-set n (shard_of n e) m.shards (admitted e w (rows_of n e m)) (each-shard n m k) (shard-admitted n (shard_of n e) e w (rows_of n e m) refl (each-shard n m k (shard_of n e))))

  pub kept-anew : (e : CacheEntryKey) (w : ℕ) → IsSharded n (weighed_anew n e w m)
  kept-anew e w =
      sharded n (weighed_anew n e w m) k.some (length-set m.shards (shard_of n e) _ ∙ k.count)
      (each-set n (shard_of n e) m.shards (reweighed e w (rows_of n e m)) (each-shard n m k) (shard-reweighed n (shard_of n e) e w (rows_of n e m) refl (each-shard n m k (shard_of n e))))

  pub kept-use : (e : CacheEntryKey) (w : ℕ) → IsSharded n (use_first n e w m)
  kept-use e w = kept-put e (unwrap_or (weight_of e (rows_of n e m)) w)

  pub kept-out : (e : CacheEntryKey) → IsSharded n (taken_out n e m)
  kept-out e =
      sharded n (taken_out n e m) k.some (length-set m.shards (shard_of n e) _ ∙ k.count)
      (each-set n (shard_of n e) m.shards (without_row e (rows_of n e m)) (each-shard n m k) (shard-without n (shard_of n e) e (rows_of n e m) (each-shard n m k (shard_of n e))))

  kept-gone : (e : CacheEntryKey) → IsSharded n (gone n e m)
  kept-gone e = record { some = k.some; count = (kept-out e).count; distinct = (kept-out e).distinct; home = (kept-out e).home }

  -- an entry that is put first is there
  pub put-there : (e : CacheEntryKey) (w : ℕ) → weight_of e (rows_of n e (put_first n e w m)) ≡ Some w
  put-there e w =
      ap (weight_of e) (get_or-set_at m.shards (shard_of n e) (shard_of n e) (admitted e w (rows_of n e m)) [] refl (shard-below n e m k))
      ∙ weight_of-admitted e e w (rows_of n e m) ∙ ap (λ (v : Bool). cond v (Some w) (weight_of e (rows_of n e m))) (same_entry-tells.itself e)

  -- the last of a shard goes: it is the last of its own, and goes from there
  goes-gone : (s : ℕ) (e : CacheEntryKey) (new : Managed) → GoesLast m s e new → (new ≡ gone n e m) × ((front : List Tracked) × (w : ℕ) × (rows_of n e m ≡ front ++ record { entry = e; weight = w } ∷ []))
  goes-gone s e new g =
      let row : Tracked = record { entry = e; weight = g.1 } in
      let shard : IsShard n s (g.0 ++ row ∷ []) = subst (λ (l : List Tracked). IsShard n s l) g.2 (each-shard n m k s) in
      let home : shard_of n e ≡ s = last-home n s e g.1 g.0 shard.home in
      let rows : rows_of n e m ≡ g.0 ++ row ∷ [] = ap (rows_at m.shards) home ∙ g.2 in
      let weight : weight_of e (rows_of n e m) ≡ Some g.1 = ap (weight_of e) rows ∙ last-weight e g.1 g.0 shard.distinct in
      let left : without_row e (rows_of n e m) ≡ g.0 = ap (without_row e) rows ∙ last-without e g.1 g.0 shard.distinct in (
        g.3
            ∙ ap (λ (l : List (List Tracked)). record m { shards = l; evicted_size = saturated (m.evicted_size + g.1); evicted_items = saturated (m.evicted_items + 1) })
            (ap (λ (i : ℕ). slice_set m.shards i g.0) (sym home) ∙ ap (slice_set m.shards (shard_of n e)) (sym left))
            ∙ ap (λ (o : Option ℕ). record (taken_out n e m) { evicted_size = saturated (m.evicted_size + unwrap_or o 0); evicted_items = saturated (m.evicted_items + 1) }) (sym weight),
        (g.0, g.1, rows),
      )

-- evictions in turn
pub record Went (n : ℕ) (over : Bool) (es : List CacheEntryKey) (old new : Managed) : Type 0 where
  pub left : new ≡ all_gone n es old
  pub turns : GoInTurn n over es old
  pub kept : IsSharded n new

pub evicts-went : (pick : List (List Tracked) → Stream → ℕ × Stream) (n : ℕ) (over : Bool) (es : List CacheEntryKey) (old new : Managed) (s rest : Stream) → IsSharded n old → Evicts pick old es s new rest → is_over new ≡ over
    → Went n over es old new
evicts-went pick n over [] old new s rest k h o = record {
  left = h.0;
  turns = subst (λ (m : Managed). is_over m ≡ over) h.0 o;
  kept = subst (λ (m : Managed). IsSharded n m) (sym h.0) k;
}
evicts-went pick n over (e ∷ es) old new s rest k h o =
    let first = goes-gone n old k (pick old.shards s).0 e h.0 h.2 in
    let mid : IsSharded n h.0 = subst (λ (m : Managed). IsSharded n m) (sym first.0) (kept-gone n old k e) in
    let later = evicts-went pick n over es h.0 new (pick old.shards s).1 rest mid h.3 o in
    record {
      left = later.left ∙ ap (all_gone n es) first.0;
      turns = (h.1, first.1, subst (λ (m : Managed). GoInTurn n over es m) first.0 later.turns);
      kept = later.kept;
    }
