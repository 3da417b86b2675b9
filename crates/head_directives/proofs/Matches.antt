-- What one match at the front of bytes is: the search finds it, and no other is there.
use Rattle.std.proofs.Common.{◌≡◌, ℕ, ◌+◌, ◌<◌, suc, ◌⊎◌, inl, inr, Bool, true, false, List, [], ◌∷◌, ◌++◌, length, take, drop, refl, sym, ◌∙◌, ap, subst, arith, append_assoc}
use Rattle.std.specs.Prelude.{Option, Some, None, option_map, cond, ◌==◌}
use Rattle.std.specs.List.{prefix_len, AllByRecursion}
use Rattle.std.proofs.lemmas.Bool.{eqb-true}
use Rattle.std.proofs.lemmas.Bool.Decides.{nat_tests}
use Rattle.std.proofs.lemmas.List.{take-append-drop, drop-drop}
use Rattle.std.proofs.lemmas.List.Folds.{length-prefix_len}
use Rattle.std.proofs.Math.Seq.{drop-append_seam, take-append_seam}
use Rattle.head_directives.specs.Kinds.{is_space, is_separator, is_token}
use Rattle.head_directives.specs.Written.{Written}
use Rattle.head_directives.specs.Reads.{HasNoToken, IsRun, IsInside, IsQuoted, HasValue, IsValueAfter, IsDirective}
use Rattle.head_directives.specs.Walk.{close, value_at, value_after, value_len, written_at, written_len}

-- lists and tests

-- the first byte, where there is one
abbrev pub first : List ℕ → ℕ
first [] = 0
first (b ∷ bytes) = b

abbrev pub tail : List ℕ → List ℕ
tail [] = []
tail (b ∷ bytes) = bytes

pub differ : false ≡ true → ⊥
differ h = cc

-- kinds of bytes

other_byte : (b c : ℕ) → is_token b ≡ true → is_token c ≡ false → (b == c) ≡ false
other_byte b c p q = go (b == c) refl
  where
    go : (t : Bool) → (b == c) ≡ t → t ≡ false
    go false e = refl
    go true e = let f = ap is_token (eqb-true b c e) in cc

quote_no_token : is_token 34 ≡ false
unfolding is_token
quote_no_token = refl

pub space_no_token : (b : ℕ) → is_space b ≡ true → is_token b ≡ false
unfolding is_token
space_no_token b h = grind (arith, nat_tests)

pub separator_no_token : (b : ℕ) → is_separator b ≡ true → is_token b ≡ false
unfolding is_token
separator_no_token b h = grind (arith, nat_tests)

pub separator_no_space : (b : ℕ) → is_separator b ≡ true → is_space b ≡ false
separator_no_space b h = grind (arith, nat_tests)

-- quoted texts

record Closed (e : Bool) (bytes : List ℕ) (n : ℕ) : Type 0 where
  inside : List ℕ
  rest : List ℕ
  is : bytes ≡ inside ++ 34 ∷ rest
  fits : IsInside e inside
  len : n ≡ suc (length inside)

close_of : (e : Bool) (inside rest : List ℕ) → IsInside e inside → close e (inside ++ 34 ∷ rest) ≡ Some (suc (length inside))
close_of false [] rest h = refl
close_of true [] rest h = absurd h
close_of true (b ∷ inside) rest h = rw (h.0, close_of false inside rest h.1) refl
close_of false (b ∷ inside) rest h = rw (h.0, close_of (b == 92) inside rest h.1) refl

closed_more : (e e' : Bool) (b : ℕ) (bytes : List ℕ) (n : ℕ) (o : Option ℕ) → ((inside : List ℕ) → IsInside e' inside → IsInside e (b ∷ inside)) → ((m : ℕ) → o ≡ Some m → Closed e' bytes m) → option_map suc o ≡ Some n → Closed e (b ∷ bytes) n
closed_more e e' b bytes n None fit ih h = cc
closed_more e e' b bytes n (Some m) fit ih h =
    let k = ih m refl in
    record { inside = b ∷ k.inside; rest = k.rest; is = ap (λ l. b ∷ l) k.is; fits = fit k.inside k.fits; len = (let l = k.len in cc) }

closed_true : (b : ℕ) (bytes : List ℕ) (n : ℕ) (t : Bool) → (b == 10) ≡ t → ((m : ℕ) → close false bytes ≡ Some m → Closed false bytes m) → cond t None (option_map suc (close false bytes)) ≡ Some n → Closed true (b ∷ bytes) n
closed_true b bytes n true e ih h = cc
closed_true b bytes n false e ih h = closed_more true false b bytes n (close false bytes) (λ inside i. (e, i)) ih h

closed_false : (b : ℕ) (bytes : List ℕ) (n : ℕ) (t : Bool) → (b == 34) ≡ t → ((m : ℕ) → close (b == 92) bytes ≡ Some m → Closed (b == 92) bytes m) → cond t (Some 1) (option_map suc (close (b == 92) bytes)) ≡ Some n → Closed false (b ∷ bytes) n
closed_false b bytes n true e ih h =
    record { inside = []; rest = bytes; is = ap (λ c. c ∷ bytes) (eqb-true b 34 e); fits = tt; len = cc }
closed_false b bytes n false e ih h = closed_more false (b == 92) b bytes n (close (b == 92) bytes) (λ inside i. (e, i)) ih h

close_gives : (e : Bool) (bytes : List ℕ) (n : ℕ) → close e bytes ≡ Some n → Closed e bytes n
close_gives false [] n h = cc
close_gives true [] n h = cc
close_gives true (b ∷ bytes) n h = closed_true b bytes n (b == 10) refl (λ m k. close_gives false bytes m k) h
close_gives false (b ∷ bytes) n h = closed_false b bytes n (b == 34) refl (λ m k. close_gives (b == 92) bytes m k) h

-- token runs

run_len : (run rest : List ℕ) → AllByRecursion (λ b. is_token b ≡ true) run → HasNoToken rest → prefix_len is_token (run ++ rest) ≡ length run
run_len [] [] a h = refl
run_len [] (b ∷ rest) a h = rw h refl
run_len (b ∷ run) rest a h = rw (a.0, run_len run rest a.1 h) (omega arith)

record Front (bytes : List ℕ) (n : ℕ) : Type 0 where
  tokens : AllByRecursion (λ b. is_token b ≡ true) (take n bytes)
  longest : HasNoToken (drop n bytes)

front_step : (b : ℕ) (bytes : List ℕ) (n : ℕ) (t : Bool) → is_token b ≡ t → Front bytes n → Front (b ∷ bytes) (cond t (1 + n) 0)
front_step b bytes n false e f = record { tokens = tt; longest = e }
front_step b bytes n true e f =
    let s : suc n ≡ 1 + n = omega arith in
    subst (Front (b ∷ bytes)) s (record { tokens = (e, f.tokens); longest = f.longest })

run_front : (bytes : List ℕ) → Front bytes (prefix_len is_token bytes)
run_front [] = record { tokens = tt; longest = tt }
run_front (b ∷ bytes) = front_step b bytes (prefix_len is_token bytes) (is_token b) refl (run_front bytes)

run_some : (b : ℕ) (bytes : List ℕ) → is_token b ≡ true → 0 < length (take (prefix_len is_token (b ∷ bytes)) (b ∷ bytes))
run_some b bytes h =
    let s : 1 + prefix_len is_token bytes ≡ suc (prefix_len is_token bytes) = omega arith in
    rw (h, s) (omega arith)

front_run : (b : ℕ) (bytes : List ℕ) → is_token b ≡ true → IsRun (take (prefix_len is_token (b ∷ bytes)) (b ∷ bytes)) (drop (prefix_len is_token (b ∷ bytes)) (b ∷ bytes))
front_run b bytes h = record { some = run_some b bytes h; tokens = (run_front (b ∷ bytes)).tokens; longest = (run_front (b ∷ bytes)).longest }

-- values

take_quote : (inside rest : List ℕ) → take (suc (length inside)) (inside ++ 34 ∷ rest) ≡ inside ++ 34 ∷ []
take_quote [] rest = refl
take_quote (b ∷ inside) rest = ap (λ l. b ∷ l) (take_quote inside rest)

quoted_at : (inside rest : List ℕ) → IsInside false inside → value_at (34 ∷ (inside ++ 34 ∷ rest)) ≡ Some (34 ∷ (inside ++ 34 ∷ []))
quoted_at inside rest h = rw (close_of false inside rest h) (ap (λ l. Some (34 ∷ l)) (take_quote inside rest))

token_at : (b : ℕ) (bytes : List ℕ) → is_token b ≡ true → value_at (b ∷ bytes) ≡ Some (take (prefix_len is_token (b ∷ bytes)) (b ∷ bytes))
token_at b bytes h = rw (other_byte b 34 h quote_no_token, h) refl

run_value : (run rest : List ℕ) → IsRun run rest → value_at (run ++ rest) ≡ Some run
run_value [] rest r = absurd (omega (arith, r.some))
run_value (b ∷ run) rest r =
    token_at b (run ++ rest) r.tokens.0
    ∙ ap (λ n. Some (take n ((b ∷ run) ++ rest))) (run_len (b ∷ run) rest r.tokens r.longest)
    ∙ ap Some (take-append_seam (b ∷ run) rest)

value_of : (value rest : List ℕ) → (IsRun value rest ⊎ IsQuoted value) → value_at (value ++ rest) ≡ Some value
value_of value rest (inl r) = run_value value rest r
value_of value rest (inr (inside, fits, is)) =
    ap (λ v. value_at (v ++ rest)) is
    ∙ ap (λ l. value_at (34 ∷ l)) (append_assoc inside (34 ∷ []) rest)
    ∙ quoted_at inside rest fits
    ∙ ap Some (sym is)

record Valued (bytes value : List ℕ) : Type 0 where
  rest : List ℕ
  is : bytes ≡ value ++ rest
  form : IsRun value rest ⊎ IsQuoted value

valued_quoted : (b : ℕ) (bytes value : List ℕ) (o : Option ℕ) → close false bytes ≡ o → (b == 34) ≡ true → option_map (λ n. 34 ∷ take n bytes) o ≡ Some value → Valued (b ∷ bytes) value
valued_quoted b bytes value None e q h = cc
valued_quoted b bytes value (Some n) e q h =
    let k = close_gives false bytes n e in
    let v : value ≡ 34 ∷ (k.inside ++ 34 ∷ []) =
    (let w : value ≡ 34 ∷ take n bytes = cc in
    w ∙ ap (λ m. 34 ∷ take m bytes) k.len ∙ ap (λ l. 34 ∷ take (suc (length k.inside)) l) k.is ∙ ap (λ l. 34 ∷ l) (take_quote k.inside k.rest)) in
    record {
      rest = k.rest;
      is = ap (λ c. c ∷ bytes) (eqb-true b 34 q) ∙ ap (λ l. 34 ∷ l) (k.is ∙ sym (append_assoc k.inside (34 ∷ []) k.rest)) ∙ ap (λ l. l ++ k.rest) (sym v);
      form = inr (k.inside, k.fits, v);
    }

valued_step : (b : ℕ) (bytes value : List ℕ) (q t : Bool) → (b == 34) ≡ q → is_token b ≡ t → cond q (option_map (λ n. 34 ∷ take n bytes) (close false bytes)) (cond t (Some (take (prefix_len is_token (b ∷ bytes)) (b ∷ bytes))) None) ≡ Some value → Valued (b ∷ bytes) value
valued_step b bytes value true t eq et h = valued_quoted b bytes value (close false bytes) refl eq h
valued_step b bytes value false false eq et h = cc
valued_step b bytes value false true eq et h =
    let v : take (prefix_len is_token (b ∷ bytes)) (b ∷ bytes) ≡ value = cc in
    let P : List ℕ → Type 0 = λ w. Valued (b ∷ bytes) w in
    subst P v (record { rest = drop (prefix_len is_token (b ∷ bytes)) (b ∷ bytes); is = sym (take-append-drop (prefix_len is_token (b ∷ bytes)) (b ∷ bytes)); form = inl (front_run b bytes et) })

value_gives : (bytes value : List ℕ) → value_at bytes ≡ Some value → Valued bytes value
value_gives [] value h = cc
value_gives (b ∷ bytes) value h = valued_step b bytes value (b == 34) (is_token b) refl refl h

after_some : (b : ℕ) (bytes value : List ℕ) (t : Bool) → (b == 61) ≡ t → cond t (value_at bytes) None ≡ Some value → HasValue (b ∷ bytes) value (drop (length value) bytes)
after_some b bytes value false e h = cc
after_some b bytes value true e h =
    let v = value_gives bytes value h in
    let r : drop (length value) bytes ≡ v.rest = ap (λ l. drop (length value) l) v.is ∙ drop-append_seam value v.rest in
    let P : List ℕ → Type 0 = λ rest. HasValue (b ∷ bytes) value rest in
    subst P (sym r) (ap (λ c. c ∷ bytes) (eqb-true b 61 e) ∙ ap (λ l. 61 ∷ l) v.is, v.form)

after_is : (bytes value rest : List ℕ) → HasValue bytes value rest → value_after bytes ≡ Some value
after_is bytes value rest h = ap value_after h.0 ∙ value_of value rest h.1

after_at_some : (bytes value : List ℕ) → value_after bytes ≡ Some value → HasValue bytes value (drop (suc (length value)) bytes)
after_at_some [] value h = cc
after_at_some (b ∷ bytes) value h = after_some b bytes value (b == 61) refl h

after_at : (bytes : List ℕ) (o : Option (List ℕ)) → value_after bytes ≡ o → IsValueAfter bytes o (drop (value_len o) bytes)
after_at bytes None h = (refl, λ value rest v. let e = after_is bytes value rest v in cc)
after_at bytes (Some value) h = after_at_some bytes value h

-- directives

pub directive_at : (b : ℕ) (bytes : List ℕ) → is_token b ≡ true → IsDirective (b ∷ bytes) (written_at (b ∷ bytes)) (drop (written_len (written_at (b ∷ bytes))) (b ∷ bytes))
unfolding written_at
directive_at b bytes h =
    let text : List ℕ = b ∷ bytes in
    let n : ℕ = prefix_len is_token text in
    let after : List ℕ = drop n text in
    let r : drop (value_len (value_after after)) after ≡ drop (length (take n text) + value_len (value_after after)) text =
    drop-drop (value_len (value_after after)) n text ∙ ap (λ k. drop (k + value_len (value_after after)) text) (sym (length-prefix_len is_token text)) in
    record {
      after = after;
      is = sym (take-append-drop n text);
      name = front_run b bytes h;
      value = (let P : List ℕ → Type 0 = λ rest. IsValueAfter after (value_after after) rest in subst P r (after_at after (value_after after) refl));
    }

pub directive_is : (body : List ℕ) (d : Written) (rest : List ℕ) → IsDirective body d rest → (written_at body ≡ d) × (drop (written_len d) body ≡ rest)
unfolding written_at
directive_is body d rest k = (written, after)
  where
    n : prefix_len is_token body ≡ length d.0
    n = ap (λ l. prefix_len is_token l) k.is ∙ run_len d.0 k.after k.name.tokens k.name.longest

    front : take (prefix_len is_token body) body ≡ d.0
    front = ap (λ m. take m body) n ∙ ap (λ l. take (length d.0) l) k.is ∙ take-append_seam d.0 k.after

    back : drop (length d.0) body ≡ k.after
    back = ap (λ l. drop (length d.0) l) k.is ∙ drop-append_seam d.0 k.after

    value_is : (o w : Option (List ℕ)) (r : List ℕ) → value_after k.after ≡ w → IsValueAfter k.after o r → w ≡ o
    value_is None None r e h = refl
    value_is None (Some v) r e h = absurd (h.1 v (drop (suc (length v)) k.after) (after_at_some k.after v e))
    value_is (Some v) w r e h = sym e ∙ after_is k.after v r h

    rest_is : (o : Option (List ℕ)) → IsValueAfter k.after o rest → drop (value_len o) k.after ≡ rest
    rest_is None h = sym h.0
    rest_is (Some v) h = ap (λ l. drop (suc (length v)) l) h.0 ∙ drop-append_seam v rest

    second : value_after (drop (prefix_len is_token body) body) ≡ d.1
    second = ap (λ m. value_after (drop m body)) n ∙ ap value_after back ∙ value_is d.1 (value_after k.after) rest refl k.value

    written : written_at body ≡ d
    written = rw (front, second) refl

    after : drop (written_len d) body ≡ rest
    after = sym (drop-drop (value_len d.1) (length d.0) body) ∙ ap (λ l. drop (value_len d.1) l) back ∙ rest_is d.1 k.value
