-- Texts and the maps of directives.
use Rattle.std.proofs.Common.{◌≡◌, ℕ, Bool, true, false, List, [], ◌∷◌, refl, sym, ◌∙◌, ap, cond, rules}
use Rattle.std.specs.Prelude.{Option, Some, option_map, nat_eq}
use Rattle.std.specs.Str.{IsUtf8, is_utf8}
use Rattle.std.specs.Map.{lookup}
use Rattle.std.proofs.lemmas.Str.{IsUtf8-from_is_utf8, is_utf8-from_IsUtf8}
use Rattle.std.specs.Cmp.Lexicographic.{pointwise}
use Rattle.indexmap.specs.IndexMap.{insert_entry}
use Rattle.head_directives.specs.Names.{name_of, is_unknown, IsOwnKey}
use Rattle.head_directives.specs.Entries.{value_bytes, entry_of, entries_of, HasOwnKeys}
use Rattle.head_directives.specs.declared.key.DirectiveKey.{DirectiveKey}
use Rattle.head_directives.specs.declared.key.DirectiveKey.TheVariants.{MaxAge, SMaxAge, NoCache, NoStore, Private, Public, MustRevalidate, ProxyRevalidate, MustUnderstand, NoTransform, Immutable, StaleWhileRevalidate, StaleIfError, OnlyIfCached, Unknown}
use Rattle.head_directives.specs.declared.value.DirectiveValue.{DirectiveValue}

pub is_text : (bytes : List ℕ) → IsUtf8 bytes → is_utf8 bytes ≡ true
is_text bytes h = is_utf8-from_IsUtf8 bytes h

pub no_text : (bytes : List ℕ) → ¬ (IsUtf8 bytes) → is_utf8 bytes ≡ false
no_text bytes h = go (is_utf8 bytes) refl
  where
    go : (t : Bool) → is_utf8 bytes ≡ t → t ≡ false
    go false e = refl
    go true e = absurd (h (IsUtf8-from_is_utf8 bytes e))

-- the name of a variant of its own is text
variant_text : (k : DirectiveKey) → is_unknown k ≡ false → is_utf8 (name_of k) ≡ true
variant_text MaxAge h = is_text _ (search rules)
variant_text SMaxAge h = is_text _ (search rules)
variant_text NoCache h = is_text _ (search rules)
variant_text NoStore h = is_text _ (search rules)
variant_text Private h = is_text _ (search rules)
variant_text Public h = is_text _ (search rules)
variant_text MustRevalidate h = is_text _ (search rules)
variant_text ProxyRevalidate h = is_text _ (search rules)
variant_text MustUnderstand h = is_text _ (search rules)
variant_text NoTransform h = is_text _ (search rules)
variant_text Immutable h = is_text _ (search rules)
variant_text StaleWhileRevalidate h = is_text _ (search rules)
variant_text StaleIfError h = is_text _ (search rules)
variant_text OnlyIfCached h = is_text _ (search rules)
variant_text (Unknown text) h = cc

pub known_text : (k : DirectiveKey) (name : List ℕ) → is_unknown k ≡ false → name_of k ≡ name → is_utf8 name ≡ true
known_text k name h e = ap is_utf8 (sym e) ∙ variant_text k h

-- two keys are the same by their names
abbrev pub same_key : DirectiveKey → DirectiveKey → Bool
same_key a b = pointwise nat_eq (name_of a) (name_of b)

seen_step : (e : DirectiveKey × Option DirectiveValue) (es more : List (DirectiveKey × Option DirectiveValue)) (v : Option DirectiveValue) (t : Bool) → entries_of (cond t ((e.0, v) ∷ es) (e ∷ more)) ≡ cond t ((name_of e.0, value_bytes v) ∷ entries_of es) (entry_of e ∷ entries_of more)
seen_step e es more v true = refl
seen_step e es more v false = refl

pub seen_insert : (es : List (DirectiveKey × Option DirectiveValue)) (k : DirectiveKey) (v : Option DirectiveValue) → entries_of (insert_entry same_key es k v) ≡ insert_entry (pointwise nat_eq) (entries_of es) (name_of k) (value_bytes v)
seen_insert [] k v = refl
seen_insert (e ∷ es) k v =
    seen_step e es (insert_entry same_key es k v) v (same_key k e.0)
    ∙ ap (λ l. cond (same_key k e.0) ((name_of e.0, value_bytes v) ∷ entries_of es) (entry_of e ∷ l)) (seen_insert es k v)

own_step : (e : DirectiveKey × Option DirectiveValue) (es more : List (DirectiveKey × Option DirectiveValue)) (v : Option DirectiveValue) (t : Bool) → IsOwnKey e.0 → HasOwnKeys es → HasOwnKeys more → HasOwnKeys (cond t ((e.0, v) ∷ es) (e ∷ more))
own_step e es more v true h hs hm = (h, hs)
own_step e es more v false h hs hm = (h, hm)

pub own_insert : (es : List (DirectiveKey × Option DirectiveValue)) (k : DirectiveKey) (v : Option DirectiveValue) → IsOwnKey k → HasOwnKeys es → HasOwnKeys (insert_entry same_key es k v)
own_insert [] k v h hs = (h, tt)
own_insert (e ∷ es) k v h hs = own_step e es (insert_entry same_key es k v) v (same_key k e.0) hs.0 hs.1 (own_insert es k v h hs.1)

lookup_step : (e : DirectiveKey × Option DirectiveValue) (o : Option (Option DirectiveValue)) (t : Bool) → option_map value_bytes (cond t (Some e.1) o) ≡ cond t (Some (value_bytes e.1)) (option_map value_bytes o)
lookup_step e o true = refl
lookup_step e o false = refl

pub seen_lookup : (es : List (DirectiveKey × Option DirectiveValue)) (k : DirectiveKey) → option_map value_bytes (lookup (same_key k) es) ≡ lookup (pointwise nat_eq (name_of k)) (entries_of es)
seen_lookup [] k = refl
seen_lookup (e ∷ es) k =
    lookup_step e (lookup (same_key k) es) (same_key k e.0)
    ∙ ap (λ o. cond (same_key k e.0) (Some (value_bytes e.1)) o) (seen_lookup es k)
