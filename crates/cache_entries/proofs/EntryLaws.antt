-- Entries that are read are those that the bytes spell, and each spelling is read.
use Rattle.std.proofs.Common.{◌≡◌, ℕ, cond, List, ◌++◌, Ok, refl, ap, subst, ◌∙◌, append_assoc, inl, inr}
use Rattle.std.specs.Prelude.{◌==◌, Option, Some, None}
use Rattle.std.proofs.lemmas.Bool.{eqb-true}
use Rattle.cache_words.specs.declared.key.CompactCacheKey.{CompactCacheKey}
use Rattle.cache_words.specs.Key.{Key}
use Rattle.cache_words.specs.CompactKey.{compact_view}
use Rattle.cache_words.specs.Forms.{Stands, numbers, arrays}
use Rattle.cache_words.specs.Pack.{SpellsKey, SpellOptional}
use Rattle.cache_words.specs.Items.{SpellBoth, optional_at}
use Rattle.cache_words.specs.Reading.{◌>>=◌, number_at, key_at}
use Rattle.cache_words.proofs.ItemLaws.{join, optional_number_agrees}
use Rattle.cache_words.proofs.ReadingLaws.{IsBytes, Takes, Agrees, bind_ok, chosen, done, ok_is}
use Rattle.cache_words.proofs.FormLaws.{number_agrees, are_arrays}
use Rattle.cache_words.proofs.ValueLaws.{key_agrees}
use Rattle.cache_entries.specs.declared.entry.CacheEntryKey.{CacheEntryKey}
use Rattle.cache_entries.specs.declared.entry.CacheEntryKey.TheVariants.{KeyOnly, Identified}
use Rattle.cache_entries.specs.Entry.{entry_with, key_of, id_of}
use Rattle.cache_entries.specs.EntryText.{kept_key, SpellsAlone, SpellsEntry, pair_at, alone_at, entry_at}

-- an entry is its key and its id
entry_is : (e : CacheEntryKey) → entry_with (key_of e) (id_of e) ≡ e
entry_is (KeyOnly key) = refl
entry_is (Identified key id) = refl

alone_is : (e : CacheEntryKey) → id_of e ≡ None → entry_with (key_of e) None ≡ e
alone_is (KeyOnly key) h = refl
alone_is (Identified key id) h = absurd cc

key_of-with : (key : CompactCacheKey) (id : Option ℕ) → key_of (entry_with key id) ≡ key
key_of-with key None = refl
key_of-with key (Some n) = refl

id_of-with : (key : CompactCacheKey) (id : Option ℕ) → id_of (entry_with key id) ≡ id
id_of-with key None = refl
id_of-with key (Some n) = refl

-- the items of the array
abbrev pub SpellsItems : CacheEntryKey → List ℕ → Type 0
SpellsItems e text = SpellBoth SpellsKey (SpellOptional (Stands numbers)) (compact_view (key_of e), id_of e) text

pair_spelled : (key : Key) (id : Option ℕ) (first second : List ℕ) → SpellsKey key first → SpellOptional (Stands numbers) id second
    → SpellsItems (entry_with (kept_key key) id) (first ++ second)
pair_spelled key id first second s t = (first, second, rw key_of-with s, rw id_of-with t, refl)

pair_takes : (bytes : List ℕ) (x : CacheEntryKey × List ℕ) → IsBytes bytes → pair_at bytes ≡ Ok x → Takes SpellsItems bytes x.0 x.1
unfolding pair_at
pair_takes bytes x fits e =
    let a = bind_ok (key_at bytes) (λ key. optional_at (number_at numbers) key.1 >>= λ id. Ok (entry_with (kept_key key.0) id.0, id.1)) x e in
    let b = bind_ok (optional_at (number_at numbers) a.0.1) (λ id. Ok (entry_with (kept_key a.0.0) id.0, id.1)) x a.2 in
    let t = key_agrees.takes bytes a.0 fits a.1 in
    let u = optional_number_agrees.takes a.0.1 b.0 t.rest_fits b.1 in
    let made : CacheEntryKey × List ℕ = (entry_with (kept_key a.0.0) b.0.0, b.0.1) in
    subst (λ (y : CacheEntryKey × List ℕ). Takes SpellsItems bytes y.0 y.1) (ok_is made x b.2) (record {
      text = t.text ++ u.text;
      spelled = pair_spelled a.0.0 b.0.0 t.text u.text t.spelled u.spelled;
      parts = join bytes t.text a.0.1 u.text b.0.1 t.parts u.parts;
      rest_fits = u.rest_fits;
    })

pair_again : (v : CacheEntryKey) (text rest : List ℕ) → SpellsItems v text → pair_at (text ++ rest) ≡ Ok (v, rest)
unfolding pair_at
pair_again v text rest s =
    let regrouped : text ++ rest ≡ s.0 ++ (s.1 ++ rest) = rw s.4 (append_assoc s.0 s.1 rest) in
    ap pair_at regrouped ∙ rw (key_agrees.again (compact_view (key_of v)) s.0 (s.1 ++ rest) s.2, optional_number_agrees.again (id_of v) s.1 rest s.3)
    (ap (λ (e : CacheEntryKey). Ok (e, rest)) (entry_is v))

alone_takes : (bytes : List ℕ) (x : CacheEntryKey × List ℕ) → IsBytes bytes → alone_at bytes ≡ Ok x → Takes SpellsAlone bytes x.0 x.1
unfolding alone_at
alone_takes bytes x fits e =
    let a = bind_ok (key_at bytes) (λ key. Ok (entry_with (kept_key key.0) None, key.1)) x e in
    let t = key_agrees.takes bytes a.0 fits a.1 in
    let made : CacheEntryKey × List ℕ = (entry_with (kept_key a.0.0) None, a.0.1) in
    subst (λ (y : CacheEntryKey × List ℕ). Takes SpellsAlone bytes y.0 y.1) (ok_is made x a.2) (record {
      text = t.text;
      spelled = (refl, t.spelled);
      parts = t.parts;
      rest_fits = t.rest_fits;
    })

alone_again : (v : CacheEntryKey) (text rest : List ℕ) → SpellsAlone v text → alone_at (text ++ rest) ≡ Ok (v, rest)
unfolding alone_at
alone_again v text rest s =
    rw (key_agrees.again (compact_view (key_of v)) text rest s.1) (ap (λ (e : CacheEntryKey). Ok (e, rest)) (alone_is v s.0))

entry_takes : (bytes : List ℕ) (x : CacheEntryKey × List ℕ) → IsBytes bytes → entry_at bytes ≡ Ok x → Takes SpellsEntry bytes x.0 x.1
unfolding entry_at
entry_takes bytes x fits e =
    let a = bind_ok (number_at arrays bytes) (λ count. cond (count.0 == 2) (pair_at count.1) (alone_at bytes)) x e in
    elim (chosen (a.0.0 == 2) (pair_at a.0.1) (alone_at bytes) (done x) a.2) [
      | inl two ↦
          let same : a.0.0 ≡ 2 = eqb-true _ _ two.0 in
          let t = (number_agrees arrays are_arrays).takes bytes a.0 fits a.1 in
          let u = pair_takes a.0.1 x t.rest_fits two.1 in
          record {
            text = t.text ++ u.text;
            spelled = inr (t.text, u.text, rw same at t.spelled, u.spelled, refl);
            parts = join bytes t.text a.0.1 u.text x.1 t.parts u.parts;
            rest_fits = u.rest_fits;
          }
      | inr other ↦
          let u = alone_takes bytes x fits other.1 in
          record { text = u.text; spelled = inl u.spelled; parts = u.parts; rest_fits = u.rest_fits }
    ]

entry_again : (v : CacheEntryKey) (text rest : List ℕ) → SpellsEntry v text → entry_at (text ++ rest) ≡ Ok (v, rest)
unfolding entry_at
entry_again v text rest s =
    elim s [
      | inl alone ↦
          let k = alone.1 in
          let more : List ℕ = k.first ++ (k.second ++ k.third) in
          let regrouped : text ++ rest ≡ k.head ++ (more ++ rest) = rw k.parts (append_assoc k.head more rest) in
          let count : number_at arrays (text ++ rest) ≡ Ok (3, more ++ rest) = ap (number_at arrays) regrouped ∙ (number_agrees arrays are_arrays).again 3 k.head (more ++ rest) k.array in
          rw count (alone_again v text rest alone)
      | inr pair ↦
          let regrouped : text ++ rest ≡ pair.0 ++ (pair.1 ++ rest) = rw pair.4 (append_assoc pair.0 pair.1 rest) in
          let count : number_at arrays (text ++ rest) ≡ Ok (2, pair.1 ++ rest) = ap (number_at arrays) regrouped ∙ (number_agrees arrays are_arrays).again 2 pair.0 (pair.1 ++ rest) pair.2 in
          rw count (pair_again v pair.1 rest pair.3)
    ]

pub entry_agrees : Agrees entry_at SpellsEntry
entry_agrees = record { takes = entry_takes; again = entry_again }
