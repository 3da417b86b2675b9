-- Rows that are read and put.
use Rattle.std.proofs.Common.{◌≡◌, ℕ, zero, suc, ◌<◌, List, [], ◌∷◌, ◌++◌, inl, inr, length, slice_get, Option, Some, None, sym, refl, ap, ◌∙◌, subst, arith, append_assoc}
use Rattle.std.specs.Prelude.{unwrap_or, option_map, Result, Ok, Err, IsErrAnd, OnOk}
use Rattle.std.proofs.lemmas.Nat.{mod_below}
use Rattle.std.proofs.lemmas.List.{append-nil}
use Rattle.cache_words.specs.declared.pack.fault.PackFault.{PackFault}
use Rattle.cache_words.specs.Forms.{arrays}
use Rattle.cache_words.specs.Reading.{number_at}
use Rattle.cache_words.proofs.ReadingLaws.{IsBytes}
use Rattle.cache_entries.specs.declared.entry.CacheEntryKey.{CacheEntryKey}
use Rattle.cache_entries.specs.declared.rows.Tracked.{Tracked}
use Rattle.cache_entries.specs.EntryText.{entry_hash}
use Rattle.cache_entries.proofs.RowLaws.{recency_again, recency_takes}
use Rattle.cache_entries.specs.RowText.{SpellsRecency, RowsRead, row_at, rows_until, recency_at, counted_rows}
use Rattle.cache_entries.specs.Rows.{row_of, weight_of, admitted}
use Rattle.lru_core.specs.declared.rows.Row.{Row}
use Rattle.lru_core.specs.Rows.{only, a_row}
use Rattle.lru_core.specs.Cores.{Core, rows_at}
use Rattle.cache_evict.specs.declared.load_fault.LoadFault.{LoadFault}
use Rattle.cache_evict.specs.declared.load_fault.LoadFault.TheVariants as load
use Rattle.cache_evict.specs.declared.tracker.loading.Again.{Again}
use Rattle.cache_evict.specs.declared.tracker.loading.Again.TheVariants.{PassedOver, MovedFirst}
use Rattle.cache_evict.specs.declared.tracker.refusal.Refusal.{Refusal}
use Rattle.lru_numbers.specs.Names.{HasNoNumber}
use Rattle.cache_evict.specs.Managed.{Managed, rows_of, with_rows, shard_of, put_first, put_last}
use Rattle.cache_evict.specs.Loads.{restored, loaded, all_put, IsTried, IsLoadRefusal, Loads, LoadsText}
use Rattle.cache_evict.specs.LoadTexts.{fault_of}
use Rattle.cache_evict.specs.Numbered.{tracked_row, managed_in, IsNumbered}
use Rattle.cache_evict.proofs.NumberedLaws.{IsNumber-named, row_of-number, absent}
use Rattle.cache_evict.proofs.WrittenLaws.{seen}

-- ---- one row

module _ (n : ℕ) (names : ℕ → Option CacheEntryKey) (core : Core ℕ) (e : CacheEntryKey) (size items : ℕ) (h : IsNumbered n names core.shards) where
  shard_there : shard_of n e < length core.shards
  shard_there = let m = mod_below (entry_hash e) n h.some in omega (arith, m, h.count)

  unlisted : HasNoNumber names e → row_of e (rows_of n e (managed_in names core size items)) ≡ None
  unlisted none = ap (row_of e) (seen n names core.shards (shard_of n e) shard_there) ∙ (absent n names e (shard_of n e) (rows_at core.shards (shard_of n e)) (h.numbered (shard_of n e)) none).0

  listed : (k : ℕ) → names k ≡ Some e → (r : Tracked) × (row_of e (rows_of n e (managed_in names core size items)) ≡ Some r)
  listed k p =
      let s = shard_of n e in
      let known = h.known k e p in
      let at : only k (rows_at core.shards s) ≡ a_row k k known.0 ∷ [] = ap (λ (j : ℕ). only k (rows_at core.shards j)) (sym (h.home k e p)) ∙ known.1 in (
        tracked_row names (a_row k k known.0),
        ap (row_of e) (seen n names core.shards s shard_there) ∙ row_of-number n names k e (IsNumber-named names k e h.one p) s (rows_at core.shards s) (h.numbered s)
            ∙ ap (λ (l : List (Row ℕ)). option_map (tracked_row names) (slice_get l 0)) at,
      )

  abbrev held : Managed
  held = managed_in names core size items

  -- an entry with a number moves to the front
  pub restored-first : (k w : ℕ) → names k ≡ Some e → put_first n e w held ≡ restored n (record { entry = e; weight = w }) held
  restored-first k w p =
      ap (λ (l : List Tracked). with_rows n e l held) (sym (
      ap (λ (o : Option Tracked). unwrap_or (option_map (λ _. admitted e w (rows_of n e held)) o) (rows_of n e held ++ record { entry = e; weight = w } ∷ [])) (listed k p).1))

  -- one without goes last
  pub loaded-last : (again : Again) (w : ℕ) → HasNoNumber names e → put_last n e w held ≡ loaded again n (record { entry = e; weight = w }) held
  loaded-last PassedOver w none = refl
  loaded-last MovedFirst w none =
      let last : List Tracked = rows_of n e held ++ record { entry = e; weight = w } ∷ [] in
      ap (λ (l : List Tracked). with_rows n e l held) (
      ap (λ (o : Option Tracked). unwrap_or (option_map (λ _. rows_of n e held) o) last) (unlisted none)
      ∙ sym (ap (λ (o : Option Tracked). unwrap_or (option_map (λ _. admitted e w (rows_of n e held)) o) last) (unlisted none)))

pub tried : (again : Again) (n : ℕ) (r : Tracked) (m : Managed) → weight_of r.entry (rows_of n r.entry m) ≡ None → IsTried again n r m
tried PassedOver n r m none = none
tried MovedFirst n r m none = tt

-- ---- all rows

module _ (put : Tracked → Managed → Managed) where
  pub all_put-push : (rows : List Tracked) (r : Tracked) (m : Managed) → all_put put (rows ++ r ∷ []) m ≡ put r (all_put put rows m)
  all_put-push [] r m = refl
  all_put-push (x ∷ rows) r m = all_put-push rows r (put x m)

  -- what was read and put before `left` more rows of `bytes`
  abbrev pub HasLoaded : RowsRead → Managed → ℕ → List ℕ → Managed → Type 0
  HasLoaded read old left bytes m =
      (done : List Tracked) × (read.0 ≡ done ++ (rows_until left bytes).0) × (read.1 ≡ (rows_until left bytes).1) × (m ≡ all_put put done old)

  pub loaded-start : (bytes rest : List ℕ) (count : ℕ) (old : Managed) → number_at arrays bytes ≡ Ok (count, rest) → HasLoaded (recency_at bytes) old count rest old
  loaded-start bytes rest count old e = ([], ap (λ (r : RowsRead). r.0) (ap counted_rows e), ap (λ (r : RowsRead). r.1) (ap counted_rows e), refl)

  pub loaded-more : (read : RowsRead) (old mid new : Managed) (left : ℕ) (bytes rest : List ℕ) (r : Tracked) → HasLoaded read old (suc left) bytes mid → row_at bytes ≡ Ok (r, rest) → new ≡ put r mid
      → HasLoaded read old left rest new
  unfolding rows_until
  loaded-more read old mid new left bytes rest r h e s =
      let next : rows_until (suc left) bytes ≡ (r ∷ (rows_until left rest).0, (rows_until left rest).1) = rw e refl in (
        h.0 ++ r ∷ [],
        h.1 ∙ ap (λ (x : RowsRead). h.0 ++ x.0) next ∙ sym (append_assoc h.0 (r ∷ []) (rows_until left rest).0),
        h.2 ∙ ap (λ (x : RowsRead). x.1) next,
        s ∙ ap (put r) h.3 ∙ sym (all_put-push h.0 r old),
      )

module _ (again : Again) (n : ℕ) (read : RowsRead) (old m : Managed) where
  abbrev put : Tracked → Managed → Managed
  put = loaded again n

  pub loads-all : (bytes : List ℕ) → HasLoaded put read old zero bytes m → Loads again n read old m (Ok tt)
  unfolding rows_until
  loads-all bytes h = (h.2, h.3 ∙ ap (λ (l : List Tracked). all_put put l old) (sym (h.1 ∙ append-nil h.0)))

  pub loads-text : (left : ℕ) (bytes : List ℕ) (f : PackFault) (fault : LoadFault) → HasLoaded put read old (suc left) bytes m → row_at bytes ≡ Err f → fault ≡ load.Text f → Loads again n read old m (Err fault)
  unfolding rows_until
  loads-text left bytes f fault h e is =
      let next : rows_until (suc left) bytes ≡ ([], Some f) = rw e refl in
      inl (
        f,
        is,
        h.2 ∙ ap (λ (x : RowsRead). x.1) next,
        h.3 ∙ ap (λ (l : List Tracked). all_put put l old) (sym (h.1 ∙ ap (λ (x : RowsRead). h.0 ++ x.0) next ∙ append-nil h.0)),
      )

  pub loads-stop : (left : ℕ) (bytes rest : List ℕ) (r : Tracked) (mid : Managed) (why : Refusal) (fault : LoadFault) → HasLoaded put read old (suc left) bytes mid → row_at bytes ≡ Ok (r, rest) → m ≡ mid → IsLoadRefusal again n r mid why
      → fault ≡ fault_of why → Loads again n read old m (Err fault)
  unfolding rows_until
  loads-stop left bytes rest r mid why fault h e same p is =
      let next : rows_until (suc left) bytes ≡ (r ∷ (rows_until left rest).0, (rows_until left rest).1) = rw e refl in
      inr (
        why,
        is,
        (
          h.0,
          r,
          (rows_until left rest).0,
          h.1 ∙ ap (λ (x : RowsRead). h.0 ++ x.0) next,
          same ∙ h.3,
          subst (λ (x : Managed). IsLoadRefusal again n r x why) (sym same) p,
        ),
      )

  -- the same of a fault that was reported by another
  pub loads-err : (r : Result (Unit {0}) LoadFault) (P : LoadFault → Type 0) → IsErrAnd r P → ((fault : LoadFault) → P fault → Loads again n read old m (Err fault)) → Loads again n read old m r
  loads-err (Ok x) P e f = absurd e
  loads-err (Err fault) P e f = f fault e

module _ (again : Again) (n : ℕ) (bytes : List ℕ) (old m : Managed) where
  pub loads-head : (f : PackFault) (fault : LoadFault) → number_at arrays bytes ≡ Err f → fault ≡ load.Text f → m ≡ old → Loads again n (recency_at bytes) old m (Err fault)
  loads-head f fault e is same =
      let read = ap counted_rows e in
      inl (f, is, ap (λ (r : RowsRead). r.1) read, same ∙ ap (λ (r : RowsRead). all_put (loaded again n) r.0 old) (sym read))

  -- rows are loaded as they are spelled
  pub loads-spelled : (rows : List Tracked) (text rest : List ℕ) (r : Result (Unit {0}) LoadFault) → SpellsRecency rows text → bytes ≡ text ++ rest → Loads again n (recency_at bytes) old m r → Loads again n (rows, None) old m r
  loads-spelled rows text rest r spelled is h = subst (λ (read : RowsRead). Loads again n read old m r) (ap recency_at is ∙ recency_again rows text rest spelled) h

  pub loads_text : (r : Result (Unit {0}) LoadFault) → IsBytes bytes → Loads again n (recency_at bytes) old m r → OnOk r (LoadsText again n bytes old m)
  loads_text (Ok x) fits h = let t = recency_takes bytes fits h.0 in ((recency_at bytes).0, t.0, t.1, t.2, t.3, h.1)
  loads_text (Err fault) fits h = tt
