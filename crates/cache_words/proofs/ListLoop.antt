-- Reading the values of a list one after the other, as a loop does.
use Rattle.std.proofs.Common.{◌≡◌, ℕ, suc, ◌-◌, ◌+◌, ◌≤◌, ◌<◌, List, [], ◌∷◌, ◌++◌, Result, Ok, Err, refl, sym, ap, ◌∙◌, append_assoc, arith}
use Rattle.std.proofs.lemmas.List.{append-nil}
use Rattle.cache_words.specs.declared.pack.fault.PackFault.{PackFault}
use Rattle.cache_words.specs.Reading.{◌>>=◌, Reader, list_at}

-- what was read before, and what is still read
abbrev pub with_front : {V : Type 0} → List V → Result (List V × List ℕ) PackFault → Result (List V × List ℕ) PackFault
with_front front read = read >>= λ x. Ok (front ++ x.0, x.1)

regroup : {V : Type 0} (front : List V) (v : V) (read : Result (List V × List ℕ) PackFault)
    → with_front front (read >>= λ x. Ok (v ∷ x.0, x.1)) ≡ with_front (front ++ v ∷ []) read
regroup {V} front v (Ok x) = ap (λ (vs : List V). Ok (vs, x.1)) (simp append_assoc)
regroup front v (Err f) = refl

pub goes_on : {V : Type 0} (read : Reader V) (front : List V) (count i : ℕ) (bytes : List ℕ) (v : V) (after : List ℕ) (total : Result (List V × List ℕ) PackFault)
    → i < count → read bytes ≡ Ok (v, after) → with_front front (list_at read (count - i) bytes) ≡ total
    → with_front (front ++ v ∷ []) (list_at read (count - (i + 1)) after) ≡ total
unfolding list_at
goes_on read front count i bytes v after total lt h so_far =
    let k : count - i ≡ suc (count - (i + 1)) = omega arith in
    let one : with_front front (list_at read (count - i) bytes) ≡ with_front (front ++ v ∷ []) (list_at read (count - (i + 1)) after) =
    rw (k, h) (regroup front v (list_at read (count - (i + 1)) after)) in
    sym one ∙ so_far

pub ends : {V : Type 0} (read : Reader V) (e : PackFault) (front : List V) (count i : ℕ) (bytes : List ℕ) (total : Result (List V × List ℕ) PackFault)
    → i < count → read bytes ≡ Err e → with_front front (list_at read (count - i) bytes) ≡ total → total ≡ Err e
unfolding list_at
ends read e front count i bytes total lt h so_far =
    let k : count - i ≡ suc (count - (i + 1)) = omega arith in
    let one : with_front front (list_at read (count - i) bytes) ≡ Err e = rw (k, h) refl in
    sym so_far ∙ one

pub is_done : {V : Type 0} (read : Reader V) (front : List V) (count i : ℕ) (bytes : List ℕ) (total : Result (List V × List ℕ) PackFault)
    → count ≤ i → with_front front (list_at read (count - i) bytes) ≡ total → total ≡ Ok (front, bytes)
unfolding list_at
is_done {V} read front count i bytes total le so_far =
    let k : count - i ≡ 0 = omega arith in
    let one : with_front front (list_at read (count - i) bytes) ≡ Ok (front, bytes) = rw k (ap (λ (vs : List V). Ok (vs, bytes)) (append-nil front)) in
    sym so_far ∙ one
