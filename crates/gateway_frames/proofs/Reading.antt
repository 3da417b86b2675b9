-- A text is a chunked body of one content at most, and where it ends isn't for what follows to say.
use Rattle.std.proofs.Common.{◌≡◌, refl, sym, ap, ◌∙◌, subst, ℕ, ◌<◌, ◌==◌, Bool, true, false, not, ◌&&◌, ◌||◌, List, [], ◌∷◌, ◌++◌, length, arith, append_assoc}
use Rattle.std.proofs.lemmas.Bool.{eqb-true}
use Rattle.std.specs.List.{list_all, flat_map}
use Rattle.std.specs.Char.{digit_value}
use Rattle.std.specs.Str.Parse.{AllDigits, digits_value}
use Rattle.gateway_frames.specs.Frames.{line_end}
use Rattle.gateway_frames.specs.Chunked.{is_in_line, begins_extension, is_extension, Chunk, IsChunk, chunk_line, chunk_text, AreChunks, is_line, trailer_section, IsChunkedBody}

pub left : (a b : Bool) → (a && b) ≡ true → a ≡ true
left true b h = refl
left false b h = cc

pub right : (a b : Bool) → (a && b) ≡ true → b ≡ true
right true b h = h
right false b h = cc

pub both : (a b : Bool) → a ≡ true → b ≡ true → (a && b) ≡ true
both true b h k = k
both false b h k = cc

all_of_two : (a b : List ℕ) → list_all is_in_line a ≡ true → list_all is_in_line b ≡ true → list_all is_in_line (a ++ b) ≡ true
all_of_two [] b h k = k
all_of_two (x ∷ a) b h k =
    both (is_in_line x) (list_all is_in_line (a ++ b)) (left (is_in_line x) (list_all is_in_line a) h)
    (all_of_two a b (right (is_in_line x) (list_all is_in_line a) h) k)

-- ==== what a line has no end of

in_line : (b : ℕ) → (b ≡ 13 → ⊥) → (b ≡ 10 → ⊥) → is_in_line b ≡ true
in_line b h k = go (b == 13) (b == 10) refl refl
  where
    go : (s t : Bool) → (b == 13) ≡ s → (b == 10) ≡ t → (not s && not t) ≡ true
    go true t e f = absurd (h (eqb-true b 13 e))
    go false true e f = absurd (k (eqb-true b 10 f))
    go false false e f = refl

digit_in_line : (d : ℕ) → digit_value d < 16 → is_in_line d ≡ true
digit_in_line d h = in_line d
    (λ e. let k : digit_value 13 < 16 = subst (λ v. digit_value v < 16) e h in omega arith)
    (λ e. let k : digit_value 10 < 16 = subst (λ v. digit_value v < 16) e h in omega arith)

digits_in_line : (ds : List ℕ) → AllDigits 16 ds → list_all is_in_line ds ≡ true
digits_in_line [] h = refl
digits_in_line (d ∷ ds) h = both (is_in_line d) (list_all is_in_line ds) (digit_in_line d h.0) (digits_in_line ds h.1)

no_digit : (b : ℕ) → begins_extension b ≡ true → digit_value b ≡ 36
no_digit b h = go (b == 59) (b == 32) (b == 9) refl refl refl h
  where
    go : (p q r : Bool) → (b == 59) ≡ p → (b == 32) ≡ q → (b == 9) ≡ r → (p || (q || r)) ≡ true → digit_value b ≡ 36
    go true q r e f g h = ap digit_value (eqb-true b 59 e)
    go false true r e f g h = ap digit_value (eqb-true b 32 f)
    go false false true e f g h = ap digit_value (eqb-true b 9 g)
    go false false false e f g h = cc

begins_in_line : (b : ℕ) → begins_extension b ≡ true → is_in_line b ≡ true
begins_in_line b h = in_line b
    (λ e. let k : begins_extension 13 ≡ true = subst (λ v. begins_extension v ≡ true) e h in cc)
    (λ e. let k : begins_extension 10 ≡ true = subst (λ v. begins_extension v ≡ true) e h in cc)

extension_in_line : (e : List ℕ) → is_extension e ≡ true → list_all is_in_line e ≡ true
extension_in_line [] h = refl
extension_in_line (b ∷ bytes) h =
    both (is_in_line b) (list_all is_in_line bytes) (begins_in_line b (left (begins_extension b) (list_all is_in_line bytes) h))
    (right (begins_extension b) (list_all is_in_line bytes) h)

line_is_in_line : (l : List ℕ) → is_line l ≡ true → list_all is_in_line l ≡ true
line_is_in_line [] h = refl
line_is_in_line (b ∷ bytes) h = h

-- ==== equal texts have equal fronts

no_end : (y : ℕ) (b : List ℕ) → list_all is_in_line (y ∷ b) ≡ true → 13 ≡ y → ⊥
no_end y b h e = let k : list_all is_in_line (13 ∷ b) ≡ true = subst (λ v. list_all is_in_line (v ∷ b) ≡ true) (sym e) h in cc

-- a line ends at its first CR
same_line : (a b r s : List ℕ) → list_all is_in_line a ≡ true → list_all is_in_line b ≡ true → a ++ (13 ∷ r) ≡ b ++ (13 ∷ s)
    → (a ≡ b) × (r ≡ s)
same_line [] [] r s h k e = (refl, cc)
same_line [] (y ∷ b) r s h k e = absurd (no_end y b k cc)
same_line (x ∷ a) [] r s h k e = absurd (no_end x a h cc)
same_line (x ∷ a) (y ∷ b) r s h k e =
    let first : x ≡ y = cc in
    let others : a ++ (13 ∷ r) ≡ b ++ (13 ∷ s) = cc in
    let rest = same_line a b r s (right (is_in_line x) (list_all is_in_line a) h) (right (is_in_line y) (list_all is_in_line b) k) others in
    (let front : a ≡ b = rest.0 in cc, rest.1)

-- what follows a size is no digit
same_size : (a b e f : List ℕ) → AllDigits 16 a → AllDigits 16 b → is_extension e ≡ true → is_extension f ≡ true → a ++ e ≡ b ++ f → a ≡ b
same_size [] [] e f h k p q t = refl
same_size [] (y ∷ b) e f h k p q t =
    let starts : is_extension (y ∷ (b ++ f)) ≡ true = subst (λ l. is_extension l ≡ true) t p in
    let no = no_digit y (left (begins_extension y) (list_all is_in_line (b ++ f)) starts) in
    absurd (omega (arith, k.0, no))
same_size (x ∷ a) [] e f h k p q t =
    let starts : is_extension (x ∷ (a ++ e)) ≡ true = subst (λ l. is_extension l ≡ true) (sym t) q in
    let no = no_digit x (left (begins_extension x) (list_all is_in_line (a ++ e)) starts) in
    absurd (omega (arith, h.0, no))
same_size (x ∷ a) (y ∷ b) e f h k p q t =
    let first : x ≡ y = cc in
    let others : a ++ e ≡ b ++ f = cc in
    let front : a ≡ b = same_size a b e f h.1 k.1 p q others in
    cc

same_front : (a b r s : List ℕ) → length a ≡ length b → a ++ r ≡ b ++ s → (a ≡ b) × (r ≡ s)
same_front [] [] r s h e = (refl, e)
same_front [] (y ∷ b) r s h e = absurd (omega arith)
same_front (x ∷ a) [] r s h e = absurd (omega arith)
same_front (x ∷ a) (y ∷ b) r s h e =
    let first : x ≡ y = cc in
    let others : a ++ r ≡ b ++ s = cc in
    let rest = same_front a b r s (omega arith) others in
    (let front : a ≡ b = rest.0 in cc, rest.1)

-- ==== a body in front of what follows it

line_onto : Chunk → List ℕ → List ℕ
line_onto c rest = (c.size ++ c.extension) ++ (13 ∷ 10 ∷ rest)

chunks_onto : List Chunk → List ℕ → List ℕ
chunks_onto [] rest = rest
chunks_onto (c ∷ chunks) rest = line_onto c (c.content ++ (13 ∷ 10 ∷ chunks_onto chunks rest))

section_onto : List (List ℕ) → List ℕ → List ℕ
section_onto [] rest = 13 ∷ 10 ∷ rest
section_onto (l ∷ lines) rest = l ++ (13 ∷ 10 ∷ section_onto lines rest)

line_is_onto : (c : Chunk) (rest : List ℕ) → chunk_line c ++ rest ≡ line_onto c rest
unfolding line_onto
line_is_onto c rest = simp append_assoc

chunks_are_onto : (chunks : List Chunk) (rest : List ℕ) → flat_map chunk_text chunks ++ rest ≡ chunks_onto chunks rest
unfolding chunks_onto line_onto
chunks_are_onto [] rest = refl
chunks_are_onto (c ∷ chunks) rest =
    append_assoc (chunk_text c) (flat_map chunk_text chunks) rest
    ∙ ap (λ t. chunk_text c ++ t) (chunks_are_onto chunks rest)
    ∙ simp append_assoc

section_is_onto : (lines : List (List ℕ)) (rest : List ℕ) → trailer_section lines ++ (line_end ++ rest) ≡ section_onto lines rest
unfolding section_onto
section_is_onto [] rest = refl
section_is_onto (l ∷ lines) rest =
    append_assoc (l ++ line_end) (trailer_section lines) (line_end ++ rest)
    ∙ ap (λ t. (l ++ line_end) ++ t) (section_is_onto lines rest)
    ∙ append_assoc l line_end (section_onto lines rest)

body_is_onto : {text content trailers : List ℕ} (b : IsChunkedBody text content trailers) (rest : List ℕ)
    → text ++ rest ≡ chunks_onto b.chunks (line_onto b.last (section_onto b.lines rest))
body_is_onto {trailers = trailers} b rest =
    ap (λ t. t ++ rest) b.body
    ∙ append_assoc (flat_map chunk_text b.chunks) (chunk_line b.last ++ (trailers ++ line_end)) rest
    ∙ chunks_are_onto b.chunks ((chunk_line b.last ++ (trailers ++ line_end)) ++ rest)
    ∙ ap (chunks_onto b.chunks)
    (append_assoc (chunk_line b.last) (trailers ++ line_end) rest
    ∙ line_is_onto b.last ((trailers ++ line_end) ++ rest)
    ∙ ap (line_onto b.last)
    (append_assoc trailers line_end rest ∙ ap (λ t. t ++ (line_end ++ rest)) b.section ∙ section_is_onto b.lines rest))

-- ==== one reading

-- of two chunks whose lines are equal: as many bytes, and the same behind them
lines_agree : (c d : Chunk) (r s : List ℕ) → IsChunk c → IsChunk d → line_onto c r ≡ line_onto d s
    → (length c.content ≡ length d.content) × (r ≡ s)
unfolding line_onto
lines_agree c d r s h k e =
    let same = same_line (c.size ++ c.extension) (d.size ++ d.extension) (10 ∷ r) (10 ∷ s)
    (all_of_two c.size c.extension (digits_in_line c.size h.digits.1) (extension_in_line c.extension h.extension))
    (all_of_two d.size d.extension (digits_in_line d.size k.digits.1) (extension_in_line d.extension k.extension)) e in
    let sizes : c.size ≡ d.size = same_size c.size d.size c.extension d.extension h.digits.1 k.digits.1 h.extension k.extension same.0 in
    let behind : 10 ∷ r ≡ 10 ∷ s = same.1 in
    (sym h.number ∙ ap (digits_value 16) sizes ∙ k.number, cc)

same_section : (lines others : List (List ℕ)) (r s : List ℕ) → list_all is_line lines ≡ true → list_all is_line others ≡ true
    → section_onto lines r ≡ section_onto others s → (lines ≡ others) × (r ≡ s)
unfolding section_onto
same_section [] [] r s h k e = (refl, cc)
same_section [] ([] ∷ others) r s h k e = absurd cc
same_section [] ((y ∷ m) ∷ others) r s h k e =
    absurd (no_end y m (line_is_in_line (y ∷ m) (left (is_line (y ∷ m)) (list_all is_line others) k)) cc)
same_section ([] ∷ lines) [] r s h k e = absurd cc
same_section ((x ∷ l) ∷ lines) [] r s h k e =
    absurd (no_end x l (line_is_in_line (x ∷ l) (left (is_line (x ∷ l)) (list_all is_line lines) h)) cc)
same_section (l ∷ lines) (m ∷ others) r s h k e =
    let same = same_line l m (10 ∷ section_onto lines r) (10 ∷ section_onto others s)
    (line_is_in_line l (left (is_line l) (list_all is_line lines) h)) (line_is_in_line m (left (is_line m) (list_all is_line others) k)) e in
    let behind : 10 ∷ section_onto lines r ≡ 10 ∷ section_onto others s = same.1 in
    let rest = same_section lines others r s (right (is_line l) (list_all is_line lines) h) (right (is_line m) (list_all is_line others) k) cc in
    (let first : l ≡ m = same.0 in let more : lines ≡ others = rest.0 in cc, rest.1)

data_of : List Chunk → List ℕ
data_of chunks = flat_map (λ c. c.content) chunks

same_body : (chunks others : List Chunk) (c d : Chunk) (lines more : List (List ℕ)) (r s : List ℕ) → AreChunks chunks → AreChunks others
    → IsChunk c → IsChunk d → c.content ≡ [] → d.content ≡ [] → list_all is_line lines ≡ true → list_all is_line more ≡ true
    → chunks_onto chunks (line_onto c (section_onto lines r)) ≡ chunks_onto others (line_onto d (section_onto more s))
    → (data_of chunks ≡ data_of others) × (lines ≡ more) × (r ≡ s)
unfolding chunks_onto data_of
same_body [] [] c d lines more r s p q h k n m a b e =
    let rest = lines_agree c d (section_onto lines r) (section_onto more s) h k e in
    let sections = same_section lines more r s a b rest.1 in
    (refl, sections.0, sections.1)
same_body [] (y ∷ others) c d lines more r s p q h k n m a b e =
    let lengths = lines_agree c y (section_onto lines r) (y.content ++ (13 ∷ 10 ∷ chunks_onto others (line_onto d (section_onto more s)))) h q.0 e in
    absurd (omega (arith, lengths.0, q.1, ap length n))
same_body (x ∷ chunks) [] c d lines more r s p q h k n m a b e =
    let lengths = lines_agree x d (x.content ++ (13 ∷ 10 ∷ chunks_onto chunks (line_onto c (section_onto lines r)))) (section_onto more s) p.0 k e in
    absurd (omega (arith, lengths.0, p.1, ap length m))
same_body (x ∷ chunks) (y ∷ others) c d lines more r s p q h k n m a b e =
    let mine = chunks_onto chunks (line_onto c (section_onto lines r)) in
    let yours = chunks_onto others (line_onto d (section_onto more s)) in
    let agree = lines_agree x y (x.content ++ (13 ∷ 10 ∷ mine)) (y.content ++ (13 ∷ 10 ∷ yours)) p.0 q.0 e in
    let fronts = same_front x.content y.content (13 ∷ 10 ∷ mine) (13 ∷ 10 ∷ yours) agree.0 agree.1 in
    let behind : 13 ∷ 10 ∷ mine ≡ 13 ∷ 10 ∷ yours = fronts.1 in
    let rest = same_body chunks others c d lines more r s p.2 q.2 h k n m a b cc in (
      let one : x.content ≡ y.content = fronts.0 in let others_are : flat_map (λ z. z.content) chunks ≡ flat_map (λ z. z.content) others = rest.0 in cc,
      rest.1,
      rest.2,
    )

pub one_reading : (text content trailers behind text' content' trailers' behind' : List ℕ) → IsChunkedBody text content trailers
    → IsChunkedBody text' content' trailers' → text ++ behind ≡ text' ++ behind'
    → (content ≡ content') × (trailers ≡ trailers') × (behind ≡ behind')
unfolding data_of
one_reading text content trailers behind text' content' trailers' behind' b b' e =
    let same = same_body b.chunks b'.chunks b.last b'.last b.lines b'.lines behind behind' b.are_chunks b'.are_chunks b.is_last b'.is_last
    b.no_data b'.no_data b.are_lines b'.are_lines (sym (body_is_onto b behind) ∙ e ∙ body_is_onto b' behind') in
    (b.data_of ∙ same.0 ∙ sym b'.data_of, b.section ∙ ap trailer_section same.1 ∙ sym b'.section, same.2)
