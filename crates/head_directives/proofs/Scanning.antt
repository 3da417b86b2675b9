-- One step of the search through a line, over plain variables.
use Rattle.std.proofs.Common.{◌≡◌, ℕ, ◌+◌, ◌-◌, zero, suc, Bool, true, false, List, [], ◌∷◌, length, take, drop, refl, sym, ◌∙◌, ap, arith}
use Rattle.std.specs.Prelude.{Option}
use Rattle.std.specs.List.{prefix_len}
use Rattle.std.proofs.lemmas.List.{drop-drop}
use Rattle.std.proofs.lemmas.List.Folds.{length-prefix_len}
use Rattle.head_directives.specs.Kinds.{is_token}
use Rattle.head_directives.specs.Written.{Written}
use Rattle.head_directives.specs.Walk.{value_after, value_len, written_at, written_len, walk}

pub written_is : (bytes front after : List ℕ) (n : ℕ) (value : Option (List ℕ)) → n ≡ prefix_len is_token bytes → front ≡ take n bytes → after ≡ drop n bytes → value ≡ value_after after → (let d : Written = (front, value) in d ≡ written_at bytes)
unfolding written_at
written_is bytes front after n value hn hf hb hv = rw (hv, hb, hf, hn) refl

pub rest_is : (bytes after rest : List ℕ) (n : ℕ) → n ≡ prefix_len is_token bytes → after ≡ drop n bytes → rest ≡ drop (value_len (value_after after)) after → rest ≡ drop (written_len (written_at bytes)) bytes
unfolding written_at
rest_is bytes after rest n hn hb hr =
    rw (hr, hb, hn)
    (drop-drop (value_len (value_after (drop (prefix_len is_token bytes) bytes))) (prefix_len is_token bytes) bytes
    ∙ ap (λ k. drop (k + value_len (value_after (drop (prefix_len is_token bytes) bytes))) bytes) (sym (length-prefix_len is_token bytes)))

pub walk_skip : (k : ℕ) (bytes : List ℕ) → walk k false bytes ≡ walk 0 false (drop k bytes)
walk_skip zero bytes = refl
walk_skip (suc k) [] = refl
walk_skip (suc k) (b ∷ bytes) = walk_skip k bytes

-- a directive takes a byte at least
pub written_some : (b : ℕ) (bytes : List ℕ) → is_token b ≡ true → written_len (written_at (b ∷ bytes)) ≡ suc (written_len (written_at (b ∷ bytes)) - 1)
unfolding written_at
written_some b bytes h =
    let e : length (take (prefix_len is_token (b ∷ bytes)) (b ∷ bytes)) ≡ prefix_len is_token (b ∷ bytes) = length-prefix_len is_token (b ∷ bytes) in
    let f : prefix_len is_token (b ∷ bytes) ≡ 1 + prefix_len is_token bytes = rw h refl in
    omega (arith, e, f)

pub drop_written : (b : ℕ) (bytes : List ℕ) → is_token b ≡ true → drop (written_len (written_at (b ∷ bytes))) (b ∷ bytes) ≡ drop (written_len (written_at (b ∷ bytes)) - 1) bytes
drop_written b bytes h = ap (λ k. drop k (b ∷ bytes)) (written_some b bytes h)

pub walk_token : (b : ℕ) (bytes : List ℕ) → is_token b ≡ true → walk 0 true (b ∷ bytes) ≡ written_at (b ∷ bytes) ∷ walk 0 false (drop (written_len (written_at (b ∷ bytes))) (b ∷ bytes))
walk_token b bytes h =
    rw (drop_written b bytes h, h) (ap (λ ds. written_at (b ∷ bytes) ∷ ds) (walk_skip (written_len (written_at (b ∷ bytes)) - 1) bytes))

-- the directive that a token begins is the first of those that are left
pub found_first : (b : ℕ) (bytes text rest : List ℕ) (ready : Bool) (d : Written) (all : List Written) → is_token b ≡ true → text ≡ b ∷ bytes → ready ≡ true → d ≡ written_at text → rest ≡ drop (written_len (written_at text)) text → walk 0 ready text ≡ all → all ≡ d ∷ walk 0 false rest
found_first b bytes text rest ready d all h ht hb hd hr ha =
    let e : walk 0 true text ≡ d ∷ walk 0 false rest = rw (hd, hr, ht) (walk_token b bytes h) in
    sym ha ∙ ap (λ r. walk 0 r text) hb ∙ e
