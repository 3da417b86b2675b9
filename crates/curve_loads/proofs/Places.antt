-- The test of a stay, and its places.
use Rattle.std.proofs.Common.{◌≡◌, ℕ, ◌||◌, ◌&&◌, Bool, true, false, List, [], ◌∷◌, ◌++◌, Option, refl, ap, sym, subst}
use Rattle.std.specs.Prelude.{not}
use Rattle.std.specs.List.{AllByRecursion}
use Rattle.std.proofs.lemmas.Bool.{true≢false, false≢true, and_parts, not-true}
use Rattle.cache_entries.specs.declared.entry.CacheEntryKey.{CacheEntryKey}
use Rattle.cache_entries.specs.Entry.{same_entry}
use Rattle.curve_loads.specs.Steps.{Step, asks, removes, entry_of}
use Rattle.curve_loads.specs.Loads.{is_past, Stays, stays}
use Rattle.curve_loads.proofs.Entries.{same-self, same-is}

no_more : (s : Step) (l : List Step) → [] ≡ s ∷ l → ⊥
no_more s l h = cc

tail_is : (s n : Step) (xs ys : List Step) → s ∷ xs ≡ n ∷ ys → xs ≡ ys
tail_is s n xs ys h = cc

asked-parts : (same before past : Bool) → same ≡ false → ((same || before) && not past) ≡ true → (before ≡ true) × (past ≡ false)
asked-parts true before past t h = absurd (true≢false t)
asked-parts false true false t h = (refl, refl)
asked-parts false true true t h = absurd (false≢true h)
asked-parts false false past t h = absurd (false≢true h)

removed-parts : (same before past : Bool) → (not same && (before && not past)) ≡ true → (same ≡ false) × (before ≡ true) × (past ≡ false)
removed-parts true before past h = absurd (false≢true h)
removed-parts false true false h = (refl, refl, refl)
removed-parts false true true h = absurd (false≢true h)
removed-parts false false past h = absurd (false≢true h)

asked-whole : (same before past : Bool) → (same || before) ≡ true → past ≡ false → ((same || before) && not past) ≡ true
asked-whole true before true h p = absurd (true≢false p)
asked-whole true before false h p = refl
asked-whole false true true h p = absurd (true≢false p)
asked-whole false true false h p = refl
asked-whole false false past h p = absurd (false≢true h)

removed-whole : (same before past : Bool) → same ≡ false → before ≡ true → past ≡ false → (not same && (before && not past)) ≡ true
removed-whole true before past t h p = absurd (true≢false t)
removed-whole false true true t h p = absurd (true≢false p)
removed-whole false true false t h p = refl
removed-whole false false past t h p = absurd (false≢true h)

either-right : (a b : Bool) → b ≡ true → (a || b) ≡ true
either-right true b h = refl
either-right false b h = h

module _ (weight : CacheEntryKey → ℕ) (limit : ℕ) (watermark : Option ℕ) (e : CacheEntryKey) where
  abbrev Within : List Step → List Step → Type 0
  Within later before = (new old : List Step) → later ≡ new ++ old → is_past weight limit watermark e (old ++ asks e ∷ before) ≡ false

  within-none : (before : List Step) → is_past weight limit watermark e (asks e ∷ before) ≡ false → Within [] before
  within-none before h [] [] p = h
  within-none before h [] (s ∷ old) p = absurd (no_more s old p)
  within-none before h (s ∷ new) old p = absurd (no_more s (new ++ old) p)

  within-more : (s : Step) (later before : List Step) → Within later before → is_past weight limit watermark e (s ∷ (later ++ asks e ∷ before)) ≡ false → Within (s ∷ later) before
  within-more s later before w h [] old p = subst (λ (l : List Step). is_past weight limit watermark e (l ++ asks e ∷ before) ≡ false) p h
  within-more s later before w h (n ∷ new) old p = w new old (tail_is s n later (new ++ old) p)

  -- a step of another entry
  stays-more : (s : Step) (steps : List Step) → same_entry (entry_of s) e ≡ false → Stays weight limit watermark e steps → is_past weight limit watermark e (s ∷ steps) ≡ false
      → Stays weight limit watermark e (s ∷ steps)
  stays-more s steps t o h = record {
    later = s ∷ o.later;
    before = o.before;
    parts = ap (λ (l : List Step). s ∷ l) o.parts;
    others = (t, o.others);
    within = within-more s o.later o.before o.within (subst (λ (l : List Step). is_past weight limit watermark e (s ∷ l) ≡ false) o.parts h);
  }

  -- the step that asks for e
  stays-first : (x : CacheEntryKey) (before : List Step) → same_entry x e ≡ true → is_past weight limit watermark e (asks x ∷ before) ≡ false → Stays weight limit watermark e (asks x ∷ before)
  stays-first x before t h = record {
    later = [];
    before = before;
    parts = ap (λ (y : CacheEntryKey). asks y ∷ before) (same-is x e t);
    others = tt;
    within = within-none before (subst (λ (y : CacheEntryKey). is_past weight limit watermark e (asks y ∷ before) ≡ false) (same-is x e t) h);
  }

  pub places-of : (steps : List Step) → stays weight limit watermark e steps ≡ true → Stays weight limit watermark e steps
  places-of [] h = absurd (false≢true h)
  places-of (asks x ∷ before) h = by_test (same_entry x e) refl (places-of before)
    where
      by_test : (t : Bool) → same_entry x e ≡ t → (stays weight limit watermark e before ≡ true → Stays weight limit watermark e before) → Stays weight limit watermark e (asks x ∷ before)
      by_test true t ih =
          let p = and_parts (same_entry x e || stays weight limit watermark e before) (not (is_past weight limit watermark e (asks x ∷ before))) h in
          stays-first x before t (not-true (is_past weight limit watermark e (asks x ∷ before)) p.1)
      by_test false t ih =
          let p = asked-parts (same_entry x e) (stays weight limit watermark e before) (is_past weight limit watermark e (asks x ∷ before)) t h in
          stays-more (asks x) before t (ih p.0) p.1
  places-of (removes x ∷ before) h =
      let p = removed-parts (same_entry x e) (stays weight limit watermark e before) (is_past weight limit watermark e (removes x ∷ before)) h in
      stays-more (removes x) before p.0 (places-of before p.1) p.2

  stays-later : (later before : List Step) → AllByRecursion (λ s. same_entry (entry_of s) e ≡ false) later → Within later before → stays weight limit watermark e (later ++ asks e ∷ before) ≡ true
  stays-later [] before o w =
      asked-whole (same_entry e e) (stays weight limit watermark e before) (is_past weight limit watermark e (asks e ∷ before)) (ap (λ (t : Bool). t || stays weight limit watermark e before) (same-self e)) (w [] [] refl)
  stays-later (asks x ∷ later) before o w =
      let all : List Step = later ++ asks e ∷ before in
      let ih = stays-later later before o.1 (λ new old p. w (asks x ∷ new) old (ap (λ (l : List Step). asks x ∷ l) p)) in
      asked-whole (same_entry x e) (stays weight limit watermark e all) (is_past weight limit watermark e (asks x ∷ all)) (either-right (same_entry x e) (stays weight limit watermark e all) ih)
      (w [] (asks x ∷ later) refl)
  stays-later (removes x ∷ later) before o w =
      let all : List Step = later ++ asks e ∷ before in
      let ih = stays-later later before o.1 (λ new old p. w (removes x ∷ new) old (ap (λ (l : List Step). removes x ∷ l) p)) in
      removed-whole (same_entry x e) (stays weight limit watermark e all) (is_past weight limit watermark e (removes x ∷ all)) o.0 ih (w [] (removes x ∷ later) refl)

  pub test-of : (steps : List Step) → Stays weight limit watermark e steps → stays weight limit watermark e steps ≡ true
  test-of steps o = subst (λ (l : List Step). stays weight limit watermark e l ≡ true) (sym o.parts) (stays-later o.later o.before o.others o.within)
