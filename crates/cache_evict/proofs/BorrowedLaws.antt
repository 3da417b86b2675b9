-- What a hasher holds of an entry whose tag is borrowed.
use Rattle.std.proofs.Common.{◌≡◌, ℕ, ◌<◌, ◌≤◌, ◌^◌, nat_lt, if◌then◌else◌, List, [], ◌++◌, length, Option, Some, None, refl, subst}
use Rattle.std.proofs.lemmas.Bool.{lt-ltb, le-ltb}
use Rattle.cache_words.specs.declared.key.CompactCacheKey.{CompactCacheKey}
use Rattle.cache_words.specs.Hasher.{Hasher, Holds}
use Rattle.cache_entries.specs.Entry.{entry_with}
use Rattle.cache_entries.specs.EntryText.{entry_text, hashed_text}

picked_short : (n : ℕ) (text : List ℕ) → n < 2 ^ 32 → text ≡ (if nat_lt n (2 ^ 32) then text else [])
picked_short n text short = rw (lt-ltb _ _ short) refl

picked_long : (n : ℕ) (text : List ℕ) → 2 ^ 32 ≤ n → [] ≡ (if nat_lt n (2 ^ 32) then text else [])
picked_long n text long = rw (le-ltb _ _ long) refl

pub holds_short : (key : CompactCacheKey) (id : Option ℕ) (h : Hasher) → length key.user_tag < 2 ^ 32 → Holds h ([] ++ entry_text (entry_with key id)) → Holds h (hashed_text (entry_with key id))
holds_short key None h short p = subst (Holds h) (picked_short (length key.user_tag) (entry_text (entry_with key None)) short) p
holds_short key (Some n) h short p = subst (Holds h) (picked_short (length key.user_tag) (entry_text (entry_with key (Some n))) short) p

pub holds_nothing : (key : CompactCacheKey) (id : Option ℕ) (h : Hasher) → 2 ^ 32 ≤ length key.user_tag → Holds h [] → Holds h (hashed_text (entry_with key id))
holds_nothing key None h long p = subst (Holds h) (picked_long (length key.user_tag) (entry_text (entry_with key None)) long) p
holds_nothing key (Some n) h long p = subst (Holds h) (picked_long (length key.user_tag) (entry_text (entry_with key (Some n))) long) p
