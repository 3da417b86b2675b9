-- Values that are read are those that the bytes spell, and each spelling is read.
use Rattle.std.proofs.Common.{◌≡◌, ℕ, ◌+◌, ◌/◌, ◌^◌, ◌<◌, true, cond, List, [], ◌∷◌, ◌++◌, length, Ok, Err, refl, ap, subst, ◌∙◌, append_assoc, arith, nat_lt}
use Rattle.std.specs.Prelude.{◌==◌}
use Rattle.std.specs.Str.{is_utf8}
use Rattle.std.proofs.lemmas.Bool.{eqb-true, ltb-true, lt-ltb}
use Rattle.std.proofs.lemmas.Bool.Decides.{nat_tests}
use Rattle.std.proofs.lemmas.Str.{is_utf8-from_IsUtf8, IsUtf8-from_is_utf8}
use Rattle.cache_words.specs.declared.pack.fault.PackFault.TheVariants.{Kind, Range, Utf8, Length}
use Rattle.cache_words.specs.Time.{MomentValue, second}
use Rattle.cache_words.specs.Key.{Key}
use Rattle.cache_words.specs.Forms.{Stands, StandsBelow, numbers, arrays, texts, byte_strings}
use Rattle.cache_words.specs.Pack.{SpellsText, SpellsBytes, SpellOptional, SpellsHash, SpellsOptionalHash, SpellsMoment, SpellsOptionalMoment, SpellsKey, carried, nil, IsNil}
use Rattle.cache_words.specs.Reading.{◌>>=◌, number_at, below_at, array_of_at, front_at, bytes_at, text_at, nil_at, each_at, optional_at, hash_at, optional_hash_at, moment_at, optional_moment_at, key_at}
use Rattle.cache_words.proofs.ReadingLaws.{IsBytes, IsBytes-rest, Takes, Agrees, Skips, bind_ok, test_ok, ok_is, front_takes, front_again}
use Rattle.cache_words.proofs.SequenceLaws.{join, SpellsCount, list_agrees, IsNoNil, optional_agrees}
use Rattle.cache_words.proofs.FormLaws.{number_agrees, are_numbers, are_arrays, are_texts, are_byte_strings}

equal_test : (a b : ℕ) → a ≡ b → (a == b) ≡ true
equal_test a b e = grind (arith, nat_tests)

pub below_takes : (limit : ℕ) (bytes : List ℕ) (x : ℕ × List ℕ) → IsBytes bytes → below_at limit bytes ≡ Ok x → Takes (Stands numbers) bytes x.0 x.1 × (x.0 < limit)
unfolding below_at
below_takes limit bytes x fits e =
    let a = bind_ok (number_at numbers bytes) (λ n. cond (nat_lt n.0 limit) (Ok n) (Err Range)) x e in
    let g = test_ok (nat_lt a.0.0 limit) Range a.0 x a.2 in
    let t = (number_agrees numbers are_numbers).takes bytes a.0 fits a.1 in
    subst (λ (y : ℕ × List ℕ). Takes (Stands numbers) bytes y.0 y.1 × (y.0 < limit)) g.1 (t, ltb-true _ _ g.0)

pub below_again : (limit n : ℕ) (text rest : List ℕ) → Stands numbers n text → n < limit → below_at limit (text ++ rest) ≡ Ok (n, rest)
unfolding below_at
below_again limit n text rest s lt =
    rw ((number_agrees numbers are_numbers).again n text rest s, lt-ltb n limit lt) refl

below_takes_both : (limit : ℕ) (bytes : List ℕ) (x : ℕ × List ℕ) → IsBytes bytes → below_at limit bytes ≡ Ok x → Takes (StandsBelow limit) bytes x.0 x.1
below_takes_both limit bytes x fits e =
    let t = below_takes limit bytes x fits e in
    record { text = t.0.text; spelled = (t.1, t.0.spelled); parts = t.0.parts; rest_fits = t.0.rest_fits }

pub below_agrees : (limit : ℕ) → Agrees (below_at limit) (StandsBelow limit)
below_agrees limit = record { takes = below_takes_both limit; again = λ n text rest s. below_again limit n text rest s.1 s.0 }

array_takes : (count : ℕ) (bytes rest : List ℕ) → IsBytes bytes → array_of_at count bytes ≡ Ok rest → Takes {V = List ℕ} (λ _ text. Stands arrays count text) bytes [] rest
unfolding array_of_at
array_takes count bytes rest fits e =
    let a = bind_ok (number_at arrays bytes) (λ n. cond (n.0 == count) (Ok n.1) (Err Length)) rest e in
    let g = test_ok (a.0.0 == count) Length a.0.1 rest a.2 in
    let t = (number_agrees arrays are_arrays).takes bytes a.0 fits a.1 in
    let same : a.0.0 ≡ count = eqb-true _ _ g.0 in
    subst (λ (y : List ℕ). Takes {V = List ℕ} (λ _ text. Stands arrays count text) bytes [] y) g.1 (record {
      text = t.text;
      spelled = rw same at t.spelled;
      parts = t.parts;
      rest_fits = t.rest_fits;
    })

array_again : (count : ℕ) (text rest : List ℕ) → Stands arrays count text → array_of_at count (text ++ rest) ≡ Ok rest
unfolding array_of_at
array_again count text rest s = rw ((number_agrees arrays are_arrays).again count text rest s, equal_test count count refl) refl

pub array_skips : (count : ℕ) → Skips (array_of_at count) (Stands arrays count)
array_skips count = record { takes = array_takes count; again = array_again count }

nil_takes : (bytes rest : List ℕ) → IsBytes bytes → nil_at bytes ≡ Ok rest → Takes {V = List ℕ} (λ _ text. text ≡ nil) bytes [] rest
unfolding nil_at
nil_takes [] rest fits e = absurd cc
nil_takes (b ∷ bytes) rest fits e =
    let g = test_ok (b == 0xc0) Kind bytes rest e in
    let same : b ≡ 0xc0 = eqb-true _ _ g.0 in
    record { text = nil; spelled = refl; parts = rw (same, g.1) refl; rest_fits = rw (← g.1) (IsBytes-rest b bytes fits) }

nil_again : (text rest : List ℕ) → text ≡ nil → nil_at (text ++ rest) ≡ Ok rest
unfolding nil_at
nil_again text rest e = rw e refl

pub nil_skips : Skips nil_at IsNil
nil_skips = record { takes = nil_takes; again = nil_again }

bytes_takes : (bytes : List ℕ) (x : List ℕ × List ℕ) → IsBytes bytes → bytes_at bytes ≡ Ok x → Takes SpellsBytes bytes x.0 x.1
unfolding bytes_at
bytes_takes bytes x fits e =
    let a = bind_ok (number_at byte_strings bytes) (λ n. front_at n.0 n.1) x e in
    let t = (number_agrees byte_strings are_byte_strings).takes bytes a.0 fits a.1 in
    let f = front_takes a.0.0 a.0.1 x t.rest_fits a.2 in
    record {
      text = t.text ++ x.0;
      spelled = (t.text, rw f.0 t.spelled, refl);
      parts = join bytes t.text a.0.1 x.0 x.1 t.parts f.1;
      rest_fits = f.2;
    }

bytes_again : (v text rest : List ℕ) → SpellsBytes v text → bytes_at (text ++ rest) ≡ Ok (v, rest)
unfolding bytes_at
bytes_again v text rest s =
    let regrouped : text ++ rest ≡ s.0 ++ (v ++ rest) = rw s.2 (append_assoc s.0 v rest) in
    ap bytes_at regrouped ∙ rw ((number_agrees byte_strings are_byte_strings).again (length v) s.0 (v ++ rest) s.1) (front_again v rest)

pub bytes_agrees : Agrees bytes_at SpellsBytes
bytes_agrees = record { takes = bytes_takes; again = bytes_again }

text_takes : (bytes : List ℕ) (x : List ℕ × List ℕ) → IsBytes bytes → text_at bytes ≡ Ok x → Takes SpellsText bytes x.0 x.1
unfolding text_at
text_takes bytes x fits e =
    let a = bind_ok (number_at texts bytes) (λ n. front_at n.0 n.1 >>= λ t. cond (is_utf8 t.0) (Ok t) (Err Utf8)) x e in
    let b = bind_ok (front_at a.0.0 a.0.1) (λ t. cond (is_utf8 t.0) (Ok t) (Err Utf8)) x a.2 in
    let g = test_ok (is_utf8 b.0.0) Utf8 b.0 x b.2 in
    let t = (number_agrees texts are_texts).takes bytes a.0 fits a.1 in
    let f = front_takes a.0.0 a.0.1 b.0 t.rest_fits b.1 in
    subst (λ (y : List ℕ × List ℕ). Takes SpellsText bytes y.0 y.1) g.1 (record {
      text = t.text ++ b.0.0;
      spelled = (t.text, rw f.0 t.spelled, IsUtf8-from_is_utf8 b.0.0 g.0, refl);
      parts = join bytes t.text a.0.1 b.0.0 b.0.1 t.parts f.1;
      rest_fits = f.2;
    })

text_again : (v text rest : List ℕ) → SpellsText v text → text_at (text ++ rest) ≡ Ok (v, rest)
unfolding text_at
text_again v text rest s =
    let regrouped : text ++ rest ≡ s.0 ++ (v ++ rest) = rw s.3 (append_assoc s.0 v rest) in
    ap text_at regrouped ∙ rw ((number_agrees texts are_texts).again (length v) s.0 (v ++ rest) s.1, front_again v rest, is_utf8-from_IsUtf8 v s.2) refl

pub text_agrees : Agrees text_at SpellsText
text_agrees = record { takes = text_takes; again = text_again }

below_256 : (n : ℕ) → Agrees (each_at n) (SpellsCount (StandsBelow 256) n)
below_256 n = list_agrees (below_at 256) (StandsBelow 256) (below_agrees 256) n

hash_takes : (bytes : List ℕ) (x : List ℕ × List ℕ) → IsBytes bytes → hash_at bytes ≡ Ok x → Takes SpellsHash bytes x.0 x.1
unfolding hash_at
hash_takes bytes x fits e =
    let a = bind_ok (array_of_at 16 bytes) (λ rest. each_at 16 rest) x e in
    let t = array_takes 16 bytes a.0 fits a.1 in
    let r = (below_256 16).takes a.0 x t.rest_fits a.2 in
    record {
      text = t.text ++ r.text;
      spelled = record { head = t.text; body = r.text; sixteen = r.spelled.0; array = t.spelled; each = r.spelled.1; parts = refl };
      parts = join bytes t.text a.0 r.text x.1 t.parts r.parts;
      rest_fits = r.rest_fits;
    }

hash_again : (h text rest : List ℕ) → SpellsHash h text → hash_at (text ++ rest) ≡ Ok (h, rest)
unfolding hash_at
hash_again h text rest s =
    let regrouped : text ++ rest ≡ s.head ++ (s.body ++ rest) = rw s.parts (append_assoc s.head s.body rest) in
    ap hash_at regrouped ∙ rw (array_again 16 s.head (s.body ++ rest) s.array)
    ((below_256 16).again h s.body rest (s.sixteen, s.each))

pub hash_agrees : Agrees hash_at SpellsHash
hash_agrees = record { takes = hash_takes; again = hash_again }

-- neither a number, a hash nor a moment begins as no value does
number_no_nil : IsNoNil (number_at numbers)
unfolding number_at
number_no_nil = record { at_nil = λ rest. refl; at_end = refl }

hash_no_nil : IsNoNil hash_at
unfolding hash_at array_of_at number_at
hash_no_nil = record { at_nil = λ rest. refl; at_end = refl }

moment_no_nil : IsNoNil moment_at
unfolding moment_at array_of_at number_at
moment_no_nil = record { at_nil = λ rest. refl; at_end = refl }

pub optional_number_agrees : Agrees (optional_at (number_at numbers)) (SpellOptional (Stands numbers))
optional_number_agrees = optional_agrees (number_at numbers) (Stands numbers) number_no_nil (number_agrees numbers are_numbers)

pub optional_hash_agrees : Agrees optional_hash_at SpellsOptionalHash
optional_hash_agrees = optional_agrees hash_at SpellsHash hash_no_nil hash_agrees

moment_takes : (bytes : List ℕ) (x : MomentValue × List ℕ) → IsBytes bytes → moment_at bytes ≡ Ok x → Takes SpellsMoment bytes x.0 x.1
unfolding moment_at
moment_takes bytes x fits e =
    let a = bind_ok (array_of_at 2 bytes) (λ rest. number_at numbers rest >>= λ s. below_at (2 ^ 32) s.1 >>= λ n. cond (nat_lt (s.0 + n.0 / second) (2 ^ 63)) (Ok (carried s.0 n.0, n.1)) (Err Range)) x e in
    let b = bind_ok (number_at numbers a.0) (λ s. below_at (2 ^ 32) s.1 >>= λ n. cond (nat_lt (s.0 + n.0 / second) (2 ^ 63)) (Ok (carried s.0 n.0, n.1)) (Err Range)) x a.2 in
    let c = bind_ok (below_at (2 ^ 32) b.0.1) (λ n. cond (nat_lt (b.0.0 + n.0 / second) (2 ^ 63)) (Ok (carried b.0.0 n.0, n.1)) (Err Range)) x b.2 in
    let g = test_ok (nat_lt (b.0.0 + c.0.0 / second) (2 ^ 63)) Range (carried b.0.0 c.0.0, c.0.1) x c.2 in
    let t0 = array_takes 2 bytes a.0 fits a.1 in
    let t1 = (number_agrees numbers are_numbers).takes a.0 b.0 t0.rest_fits b.1 in
    let t2 = below_takes (2 ^ 32) b.0.1 c.0 t1.rest_fits c.1 in
    subst (λ (y : MomentValue × List ℕ). Takes SpellsMoment bytes y.0 y.1) g.1 (record {
      text = t0.text ++ (t1.text ++ t2.0.text);
      spelled = record {
        head = t0.text;
        first = t1.text;
        behind = t2.0.text;
        s = b.0.0;
        n = c.0.0;
        array = t0.spelled;
        seconds = t1.spelled;
        nanoseconds = t2.0.spelled;
        low = t2.1;
        fits = ltb-true _ _ g.0;
        value = refl {a = carried b.0.0 c.0.0};
        parts = refl {a = t0.text ++ (t1.text ++ t2.0.text)};
      };
      parts = join bytes t0.text a.0 (t1.text ++ t2.0.text) c.0.1 t0.parts (join a.0 t1.text b.0.1 t2.0.text c.0.1 t1.parts t2.0.parts);
      rest_fits = t2.0.rest_fits;
    })

moment_again : (v : MomentValue) (text rest : List ℕ) → SpellsMoment v text → moment_at (text ++ rest) ≡ Ok (v, rest)
unfolding moment_at
moment_again v text rest t =
    let regrouped : text ++ rest ≡ t.head ++ (t.first ++ (t.behind ++ rest)) =
    rw t.parts (append_assoc t.head (t.first ++ t.behind) rest ∙ ap (λ (x : List ℕ). t.head ++ x) (append_assoc t.first t.behind rest)) in
    ap moment_at regrouped ∙ rw (
      array_again 2 t.head (t.first ++ (t.behind ++ rest)) t.array,
      (number_agrees numbers are_numbers).again t.s t.first (t.behind ++ rest) t.seconds,
      below_again (2 ^ 32) t.n t.behind rest t.nanoseconds t.low,
      lt-ltb (t.s + t.n / second) (2 ^ 63) t.fits,
      t.value,
    ) refl

pub moment_agrees : Agrees moment_at SpellsMoment
moment_agrees = record { takes = moment_takes; again = moment_again }

pub optional_moment_agrees : Agrees optional_moment_at SpellsOptionalMoment
optional_moment_agrees = optional_agrees moment_at SpellsMoment moment_no_nil moment_agrees

key_takes : (bytes : List ℕ) (x : Key × List ℕ) → IsBytes bytes → key_at bytes ≡ Ok x → Takes SpellsKey bytes x.0 x.1
unfolding key_at
key_takes bytes x fits e =
    let a = bind_ok (array_of_at 3 bytes) (λ rest. hash_at rest >>= λ primary. optional_hash_at primary.1 >>= λ variance. text_at variance.1 >>= λ tag. Ok (record { primary = primary.0; variance = variance.0; user_tag = tag.0 }, tag.1)) x e in
    let b = bind_ok (hash_at a.0) (λ primary. optional_hash_at primary.1 >>= λ variance. text_at variance.1 >>= λ tag. Ok (record { primary = primary.0; variance = variance.0; user_tag = tag.0 }, tag.1)) x a.2 in
    let c = bind_ok (optional_hash_at b.0.1) (λ variance. text_at variance.1 >>= λ tag. Ok (record { primary = b.0.0; variance = variance.0; user_tag = tag.0 }, tag.1)) x b.2 in
    let d = bind_ok (text_at c.0.1) (λ tag. Ok (record { primary = b.0.0; variance = c.0.0; user_tag = tag.0 }, tag.1)) x c.2 in
    let t0 = array_takes 3 bytes a.0 fits a.1 in
    let t1 = hash_takes a.0 b.0 t0.rest_fits b.1 in
    let t2 = optional_hash_agrees.takes b.0.1 c.0 t1.rest_fits c.1 in
    let t3 = text_takes c.0.1 d.0 t2.rest_fits d.1 in
    let made : Key × List ℕ = (record { primary = b.0.0; variance = c.0.0; user_tag = d.0.0 }, d.0.1) in
    subst (λ (y : Key × List ℕ). Takes SpellsKey bytes y.0 y.1) (ok_is made x d.2) (record {
      text = t0.text ++ (t1.text ++ (t2.text ++ t3.text));
      spelled = record {
        head = t0.text;
        first = t1.text;
        second = t2.text;
        third = t3.text;
        array = t0.spelled;
        primary = t1.spelled;
        variance = t2.spelled;
        user_tag = t3.spelled;
        parts = refl;
      };
      parts = join bytes t0.text a.0 (t1.text ++ (t2.text ++ t3.text)) d.0.1 t0.parts
          (join a.0 t1.text b.0.1 (t2.text ++ t3.text) d.0.1 t1.parts (join b.0.1 t2.text c.0.1 t3.text d.0.1 t2.parts t3.parts));
      rest_fits = t3.rest_fits;
    })

key_again : (v : Key) (text rest : List ℕ) → SpellsKey v text → key_at (text ++ rest) ≡ Ok (v, rest)
unfolding key_at
key_again v text rest t =
    let regrouped : text ++ rest ≡ t.head ++ (t.first ++ (t.second ++ (t.third ++ rest))) =
    rw t.parts (append_assoc t.head (t.first ++ (t.second ++ t.third)) rest
    ∙ ap (λ (x : List ℕ). t.head ++ x) (append_assoc t.first (t.second ++ t.third) rest ∙ ap (λ (x : List ℕ). t.first ++ x) (append_assoc t.second t.third rest))) in
    ap key_at regrouped ∙ rw (
      array_again 3 t.head (t.first ++ (t.second ++ (t.third ++ rest))) t.array,
      hash_again v.primary t.first (t.second ++ (t.third ++ rest)) t.primary,
      optional_hash_agrees.again v.variance t.second (t.third ++ rest) t.variance,
      text_again v.user_tag t.third rest t.user_tag,
    ) refl

pub key_agrees : Agrees key_at SpellsKey
key_agrees = record { takes = key_takes; again = key_again }
