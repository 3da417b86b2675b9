-- What a reader of a write reads is a beginning of its bytes.
use Rattle.std.proofs.Common.{◌≡◌, ℕ, refl, ap, sym, ◌∙◌, true, false, [], ◌∷◌, ◌++◌, append_assoc, append-nil}
use Rattle.std.specs.Prelude.{◌+◌, nat_lt, Bool, List, length, drop, Some, Result, Ok, Err}
use Rattle.std.proofs.lemmas.List.{length-append}
use Rattle.cache_heads.specs.declared.meta.CacheMeta.{CacheMeta}
use Rattle.cache_changes.specs.Changes.{Changes}
use Rattle.cache_changes.specs.Writes.{bytes_of}
use Rattle.cache_changes.proofs.LaterLaws.{bytes-later}
use Rattle.cache_store.specs.declared.storage.ReadStep.{ReadStep}
use Rattle.cache_store.specs.declared.storage.ReadStep.TheVariants.{Bytes, Pending, End}
use Rattle.cache_store.specs.declared.storage.StoreFault.{StoreFault}
use Rattle.cache_store.specs.Readers.{StreamHit}
use Rattle.store_memory.specs.Hits.{StepAnswer, ReadAnswer, moved}
use Rattle.store_memory.specs.Laws.{given, HasRead}

past : (xs ys : List ℕ) → drop (length xs) (xs ++ ys) ≡ ys
past [] ys = refl
past (x ∷ xs) ys = past xs ys

-- a step that gives all that is past the place
whole : (h : StreamHit) (read bytes more : List ℕ) → HasRead read h.place bytes → more ≡ drop h.place bytes → HasRead (read ++ more) (h.place + length more) bytes
whole h read bytes more a e =
    let rest : more ≡ a.rest = e ∙ (λ i. drop (a.place i) (a.split i)) ∙ past read a.rest in
    record { rest = []; split = a.split ∙ ap (λ (l : List ℕ). read ++ l) (sym rest) ∙ sym (append-nil (read ++ more)); place = ap (λ (n : ℕ). n + length more) a.place ∙ sym (length-append read more) }

none : (read : List ℕ) (place : ℕ) (bytes : List ℕ) → HasRead read place bytes → HasRead (read ++ []) place bytes
none read place bytes a = rw (append-nil read) a

pub read-step : (h : StreamHit) (read bytes : List ℕ) (over : Bool) (r : Result ReadStep StoreFault) → HasRead read h.place bytes → ReadAnswer (Some (bytes, over)) h.place r
    → HasRead (read ++ given r) (moved h r).place bytes
read-step h read bytes over r a e = by_test (nat_lt h.place (length bytes)) over r e
  where
    by_test : (v over : Bool) (r : Result ReadStep StoreFault) → StepAnswer v bytes over h.place r → HasRead (read ++ given r) (moved h r).place bytes
    by_test true over (Ok (Bytes more)) e = whole h read bytes more a cc
    by_test false true (Ok (Bytes more)) e = absurd cc
    by_test false false (Ok (Bytes more)) e = absurd cc
    by_test v over (Ok Pending) e = none read h.place bytes a
    by_test v over (Ok End) e = none read h.place bytes a
    by_test v over (Err f) e = none read h.place bytes a

-- later bytes go to the end
pub read-later : (n place : ℕ) (read : List ℕ) (since before : Changes CacheMeta) → HasRead read place (bytes_of n before) → HasRead read place (bytes_of n (since ++ before))
read-later n place read since before a = record {
  rest = a.rest ++ bytes_of n since;
  split = bytes-later n since before ∙ ap (λ (l : List ℕ). l ++ bytes_of n since) a.split ∙ append_assoc read a.rest (bytes_of n since);
  place = a.place;
}
