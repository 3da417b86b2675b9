-- Two managers of one shard.
use Rattle.std.proofs.Common.{◌≡◌, ℕ, ◌+◌, ◌≤◌, false, List, [], ◌∷◌, ◌++◌, set, max, sym, refl, ap, ◌∙◌, subst, true≢false, arith}
use Rattle.rand_core.specs.Stream.{Stream, next_u64}
use Rattle.cache_entries.specs.declared.entry.CacheEntryKey.{CacheEntryKey}
use Rattle.cache_entries.specs.declared.rows.Tracked.{Tracked}
use Rattle.cache_evict.specs.Managed.{Managed, is_over, pick_by_draws, pick_first, put_first, use_first, GoesLast, Evicts, saturated}
use Rattle.cache_evict.specs.Runs.{ManagerCall, Admit, Access, Remove, AreSized, DoesManagerCall, Runs}
use Rattle.cache_evict.proofs.OneLaws.{picked-one}

abbrev front_of : {X : Type 0} → List X → List X
front_of [] = []
front_of (x ∷ []) = []
front_of (x ∷ y ∷ l) = x ∷ front_of (y ∷ l)

abbrev last_or : {X : Type 0} → X → List X → X
last_or d [] = d
last_or d (x ∷ []) = x
last_or d (x ∷ y ∷ l) = last_or d (y ∷ l)

front_is : {X : Type 0} (l : List X) (x : X) → front_of (l ++ x ∷ []) ≡ l
front_is [] x = refl
front_is (a ∷ []) x = refl
front_is (a ∷ b ∷ l) x = ap (λ t. a ∷ t) (front_is (b ∷ l) x)

last_is : {X : Type 0} (d : X) (l : List X) (x : X) → last_or d (l ++ x ∷ []) ≡ x
last_is d [] x = refl
last_is d (a ∷ []) x = refl
last_is d (a ∷ b ∷ l) x = last_is d (b ∷ l) x

abbrev left : Managed → ℕ → List Tracked → ℕ → Managed
left old i front w = record old { shards = set old.shards i front; evicted_size = saturated (old.evicted_size + w); evicted_items = saturated (old.evicted_items + 1) }

same_gone : (old mid mid' : Managed) (i : ℕ) (e e' : CacheEntryKey) → GoesLast old i e mid → GoesLast old i e' mid' → (e ≡ e') × (mid ≡ mid')
same_gone old mid mid' i e e' g h =
    let r : Tracked = record { entry = e; weight = g.1 } in
    let q : Tracked = record { entry = e'; weight = h.1 } in
    let both : g.0 ++ r ∷ [] ≡ h.0 ++ q ∷ [] = sym g.2 ∙ h.2 in
    let front : g.0 ≡ h.0 = sym (front_is g.0 r) ∙ ap front_of both ∙ front_is h.0 q in
    let row : r ≡ q = sym (last_is r g.0 r) ∙ ap (last_or r) both ∙ last_is r h.0 q in
    let w : g.1 ≡ h.1 = ap (λ (t : Tracked). t.weight) row in
    let here : mid ≡ left old i g.0 g.1 = g.3 in
    let there : mid' ≡ left old i h.0 h.1 = h.3 in (
      ap (λ (t : Tracked). t.entry) row,
      here ∙ ap (λ (l : List Tracked). left old i l g.1) front ∙ ap (left old i h.0) w ∙ sym there,
    )

evicts_alike : (old new new' : Managed) (es es' : List CacheEntryKey) (s rest s' rest' : Stream) → Evicts (pick_by_draws 1) old es s new rest → is_over new ≡ false → Evicts pick_first old es' s' new' rest' → is_over new' ≡ false → (es ≡ es') × (new ≡ new')
evicts_alike old new new' [] [] s rest s' rest' h o h' o' = (refl, h.0 ∙ sym h'.0)
evicts_alike old new new' [] (e' ∷ es') s rest s' rest' h o h' o' = absurd (true≢false (sym h'.1 ∙ ap is_over (sym h.0) ∙ o))
evicts_alike old new new' (e ∷ es) [] s rest s' rest' h o h' o' = absurd (true≢false (sym h.1 ∙ ap is_over (sym h'.0) ∙ o'))
evicts_alike old new new' (e ∷ es) (e' ∷ es') s rest s' rest' h o h' o' =
    let one : GoesLast old 0 e h.0 = subst (λ (i : ℕ). GoesLast old i e h.0) (picked-one old.shards (next_u64 s).0 (next_u64 (next_u64 s).1).0) h.2 in
    let same = same_gone old h.0 h'.0 0 e e' one h'.2 in
    let more : Evicts pick_first h.0 es' s' new' rest' = subst (λ (m : Managed). Evicts pick_first m es' s' new' rest') (sym same.1) h'.3 in
    let ih = evicts_alike h.0 new new' es es' (next_u64 (next_u64 s).1).1 rest s' rest' h.3 o more o' in
    (ap (λ (x : CacheEntryKey). x ∷ es) same.0 ∙ ap (λ (l : List CacheEntryKey). e' ∷ l) ih.0, ih.1)

at_least : (w : ℕ) → 1 ≤ w → max w 1 ≡ w
at_least w h = omega (arith, h)

one_call : (call : ManagerCall) (old new new' : Managed) (s rest s' rest' : Stream) (es es' : List CacheEntryKey) → AreSized (call ∷ []) → DoesManagerCall (pick_by_draws 1) 1 (λ size. max size 1) old s call es new rest → DoesManagerCall pick_first 1 (λ size. size) old s' call es' new' rest'
    → (es ≡ es') × (new ≡ new')
one_call (Admit e size) old new new' s rest s' rest' es es' sized h h' =
    let same : put_first 1 e (max size 1) old ≡ put_first 1 e size old = ap (λ (w : ℕ). put_first 1 e w old) (at_least size sized.0) in
    evicts_alike (put_first 1 e size old) new new' es es' s rest s' rest' (subst (λ (m : Managed). Evicts (pick_by_draws 1) m es s new rest) same h.0) h.1 h'.0 h'.1
one_call (Access e size) old new new' s rest s' rest' es es' sized h h' =
    (h.0 ∙ sym h'.0, h.1 ∙ ap (λ (w : ℕ). use_first 1 e w old) (at_least size sized.0) ∙ sym h'.1)
one_call (Remove e) old new new' s rest s' rest' es es' sized h h' = (h.0 ∙ sym h'.0, h.1 ∙ sym h'.1)

first_sized : (call : ManagerCall) (calls : List ManagerCall) → AreSized (call ∷ calls) → AreSized (call ∷ []) × AreSized calls
first_sized (Admit e size) calls h = ((h.0, tt), h.1)
first_sized (Access e size) calls h = ((h.0, tt), h.1)
first_sized (Remove e) calls h = (tt, h)

pub runs_alike : (calls : List ManagerCall) (old new new' : Managed) (s rest s' rest' : Stream) (gone gone' : List (List CacheEntryKey)) → AreSized calls → Runs (pick_by_draws 1) 1 (λ size. max size 1) old s calls gone new rest → Runs pick_first 1 (λ size. size) old s' calls gone' new' rest'
    → (gone ≡ gone') × (new ≡ new')
runs_alike [] old new new' s rest s' rest' [] [] sized h h' = (refl, h.0 ∙ sym h'.0)
runs_alike [] old new new' s rest s' rest' [] (g' ∷ gs') sized h h' = absurd h'
runs_alike [] old new new' s rest s' rest' (g ∷ gs) gone' sized h h' = absurd h
runs_alike (c ∷ cs) old new new' s rest s' rest' [] gone' sized h h' = absurd h
runs_alike (c ∷ cs) old new new' s rest s' rest' (g ∷ gs) [] sized h h' = absurd h'
runs_alike (c ∷ cs) old new new' s rest s' rest' (g ∷ gs) (g' ∷ gs') sized h h' =
    let parts = first_sized c cs sized in
    let same = one_call c old h.0 h'.0 s h.1 s' h'.1 g g' parts.0 h.2 h'.2 in
    let more : Runs pick_first 1 (λ size. size) h.0 h'.1 cs gs' new' rest' = subst (λ (m : Managed). Runs pick_first 1 (λ size. size) m h'.1 cs gs' new' rest') (sym same.1) h'.3 in
    let ih = runs_alike cs h.0 new new' h.1 rest h'.1 rest' gs gs' parts.1 h.3 more in
    (ap (λ (x : List CacheEntryKey). x ∷ gs) same.0 ∙ ap (λ (l : List (List CacheEntryKey)). g' ∷ l) ih.0, ih.1)
