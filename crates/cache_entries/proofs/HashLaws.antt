-- What a hasher holds once an entry was put to it, and the number that the front of a digest is.
use Rattle.std.proofs.Common.{◌≡◌, ℕ, ◌≤◌, ◌^◌, List, [], ◌∷◌, ◌++◌, length, take, get_or, Result, Ok, Err, refl, inl, inr, lit<}
use Rattle.std.specs.Prelude.{OnOk, OnErr, IsOk, IsErrOf, ◌↔◌}
use Rattle.std.specs.Int.{w64, from_be_bytes}
use Rattle.std.proofs.lemmas.Bool.{cases_lt, lt-ltb, le-ltb}
use Rattle.std.proofs.lemmas.List.{get_or-take}
use Rattle.cache_words.specs.declared.pack.fault.PackWriteFault.{PackWriteFault}
use Rattle.cache_words.specs.declared.pack.fault.PackWriteFault.TheVariants.{TooLong}
use Rattle.cache_words.specs.Hasher.{Hasher, Holds}
use Rattle.cache_entries.specs.declared.entry.CacheEntryKey.{CacheEntryKey}
use Rattle.cache_entries.specs.Entry.{key_of}
use Rattle.cache_entries.specs.EntryText.{entry_text, hashed_text, HasText}

pub hashed : (e : CacheEntryKey) (r : Result (Unit {0}) PackWriteFault) (old new : Hasher) → Holds old []
    → OnOk r ((m : List ℕ) → Holds old m → Holds new (m ++ entry_text e)) → OnErr r ((m : List ℕ) → Holds old m → Holds new m)
    → (IsErrOf r TooLong ↔ (2 ^ 32 ≤ length (key_of e).user_tag)) → (HasText e → Unit {0} → IsOk r)
    → Holds new (hashed_text e)
hashed e (Ok x) old new begun ok err long succeeds =
    elim (cases_lt (length (key_of e).user_tag) (2 ^ 32)) [
      | inl short ↦ rw (lt-ltb _ _ short) (ok [] begun)
      | inr far ↦ let refused = long.1 far in absurd cc
    ]
hashed e (Err f) old new begun ok err long succeeds =
    elim (cases_lt (length (key_of e).user_tag) (2 ^ 32)) [
      | inl short ↦ let done = succeeds short tt in absurd cc
      | inr far ↦ rw (le-ltb _ _ far) (err [] begun)
    ]

abbrev first_eight : List ℕ → List ℕ
first_eight l = get_or l 0 0 ∷ get_or l 1 0 ∷ get_or l 2 0 ∷ get_or l 3 0 ∷ get_or l 4 0 ∷ get_or l 5 0 ∷ get_or l 6 0 ∷ get_or l 7 0 ∷ []

pub front_number : (l : List ℕ) → from_be_bytes w64 (first_eight l) ≡ from_be_bytes w64 (take 8 l)
front_number l =
    rw (
      get_or-take 8 l 0 0 (lit< tt),
      get_or-take 8 l 1 0 (lit< tt),
      get_or-take 8 l 2 0 (lit< tt),
      get_or-take 8 l 3 0 (lit< tt),
      get_or-take 8 l 4 0 (lit< tt),
      get_or-take 8 l 5 0 (lit< tt),
      get_or-take 8 l 6 0 (lit< tt),
      get_or-take 8 l 7 0 (lit< tt),
    ) refl
