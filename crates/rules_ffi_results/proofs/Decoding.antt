-- A piece stands in the bytes that were given, and what is handed on is taken from what there was.
use Rattle.std.proofs.Common.{◌≡◌, ℕ, ◌+◌, ◌-◌, ◌≤◌, ◌==◌, List, [], ◌∷◌, ◌++◌, length, take, drop, refl, sym, ap, ◌∙◌, subst, Bool, true, false, cond, not, ◌||◌, min, nat_lt, arith, length-take, length-drop}
use Rattle.std.proofs.lemmas.Bool.{eqb-true}
use Rattle.std.specs.Prelude.{Option, Some, None, Result, Ok, Err, unwrap_or, option_map}
use Rattle.std.specs.Option.{option_map_or}
use Rattle.rules_fields.specs.Fields.{Field}
use Rattle.http1_message_parts.specs.End.{end_behind}
use Rattle.http1_message_parts.specs.Lines.{has_bare_end, lines_of, rows_of, fields_within}
use Rattle.http1_message_parts.specs.declared.reason.Reason.{Reason}
use Rattle.rules_ffi_arguments.specs.declared.shapes.BodyShape.{BodyShape}
use Rattle.rules_ffi_arguments.specs.declared.shapes.PieceShape.{PieceShape}
use Rattle.rules_ffi_results.specs.declared.chunk.Place.{Place}
use Rattle.rules_ffi_results.specs.declared.chunk.Place.TheVariants.{Start, Size, Blank, Extension, SizeEnd, Data, DataCr, DataLf, Trailers, Over, Broken}
use Rattle.rules_ffi_results.specs.declared.chunk.Chunk.{Chunk}
use Rattle.rules_ffi_results.specs.Chunks.{number, place_of, is_line, after, lines_from, lines}
use Rattle.rules_ffi_results.specs.Trailers.{Ending, bad, read_section, whole_section, going_on, is_empty_section, behind_chunks}
use Rattle.rules_ffi_results.specs.Bodies.{Step, LiesIn, handed_on, piece, broken, over, more, handed, of_length, chunk_of, with_chunk, behind_data, in_data, ended, by_ending, in_trailers, of_chunks, chunked_from, chunked, decoded}

lies_more : (used len : ℕ) → used ≤ len → LiesIn (more used) len
lies_more used len h = record { forth = omega arith; used = omega arith; within = h }

lies_handed : (at n len : ℕ) → at + n ≤ len → LiesIn (handed at n) len
lies_handed at n len h = go (n == 0)
  where
    go : (t : Bool) → LiesIn (cond t (more at) (piece 71 at (at + n) (at + n))) len
    go true = lies_more at len (omega (arith, h))
    go false = record { forth = omega arith; used = omega arith; within = h }

lies_over : (len : ℕ) → LiesIn over len
lies_over len = record { forth = omega arith; used = omega arith; within = omega arith }

lies_broken : (reason len : ℕ) → LiesIn (broken reason) len
lies_broken reason len = record { forth = omega arith; used = omega arith; within = omega arith }

-- the steps of a body with a length that has ended, or of which n bytes came
abbrev sized : Bool → BodyShape → ℕ → Step
sized true body n = (over, body)
sized false body n = (handed 0 n, record body { length = body.length - n })

by_end : (body : BodyShape) (len : ℕ) → of_length body len ≡ sized (body.length == 0) body (min body.length len)
by_end body len = go (body.length == 0) refl
  where
    go : (t : Bool) → (body.length == 0) ≡ t → of_length body len ≡ sized t body (min body.length len)
    go true e = rw e refl
    go false e = rw e refl

lies_of_length : (body : BodyShape) (len : ℕ) → LiesIn (of_length body len).0 len
lies_of_length body len = subst (λ (s : Step). LiesIn s.0 len) (sym (by_end body len)) (go (body.length == 0))
  where
    go : (t : Bool) → LiesIn (sized t body (min body.length len)).0 len
    go true = lies_over len
    go false = lies_handed 0 (min body.length len) len (omega arith)

-- a trailer section takes no more than the bytes that are there
abbrev pub Within : ℕ → Ending → Type 0
Within len None = 0 ≤ len
Within len (Some None) = 0 ≤ len
Within len (Some (Some section)) = section.1 ≤ len

empty_within : (rest : List ℕ) → is_empty_section rest ≡ true → 2 ≤ length rest
empty_within [] h = cc
empty_within (a ∷ []) h = cc
empty_within (a ∷ b ∷ rest) h = omega arith

read_within : (t : Bool) (n len : ℕ) (r : Result (List Field) Reason) → n ≤ len → Within len (cond t bad (read_section n r))
read_within true n len r h = omega arith
read_within false n len (Ok lines) h = h
read_within false n len (Err reason) h = omega arith

whole_within : (rest : List ℕ) (end most : ℕ) → Within (length rest) (whole_section (take end rest) most)
whole_within rest end most =
    let text = take end rest in
    read_within (nat_lt most (length text) || has_bare_end false text) (length text) (length rest) (fields_within 250 (rows_of (lines_of text)))
    (omega (arith, length-take end rest))

going_within : (t : Bool) (len : ℕ) → Within len (cond t bad None)
going_within true len = omega arith
going_within false len = omega arith

pub ending_within : (rest : List ℕ) (looked most : ℕ) → Within (length rest) (behind_chunks rest looked most)
unfolding behind_chunks
ending_within rest looked most = go (is_empty_section rest) refl (end_behind (min looked (length rest)) rest)
  where
    go : (t : Bool) → is_empty_section rest ≡ t → (end : Option ℕ)
        → Within (length rest) (cond t (Some (Some ([], 2))) (option_map_or (λ n. whole_section (take n rest) most) end (going_on (length rest) most)))
    go true e end = empty_within rest e
    go false e None = going_within (nat_lt most (length rest)) (length rest)
    go false e (Some n) = whole_within rest n most

lies_ending : (e : Ending) (body : BodyShape) (len at all : ℕ) → Within len e → at + len ≤ all → LiesIn (by_ending e body len at).1.0 all
lies_ending None body len at all w h = lies_more at all (omega (arith, h))
lies_ending (Some None) body len at all w h = lies_broken 41 all
lies_ending (Some (Some section)) body len at all w h = record { forth = omega arith; used = omega arith; within = omega (arith, w, h) }

lies_chunks : (p : Place) (body : BodyShape) (bytes : List ℕ) (c : Chunk) (at : ℕ) → at ≤ length bytes → LiesIn (of_chunks p body bytes c at).1.0 (length bytes)
lies_chunks Data body bytes c at h = lies_handed at (min c.size (length bytes - at)) (length bytes) (omega (arith, h))
lies_chunks Trailers body bytes c at h =
    let left = with_chunk body c in
    let rest = drop at bytes in
    lies_ending (behind_chunks rest left.scanned left.most) left (length rest) at (length bytes) (ending_within rest left.scanned left.most)
    (omega (arith, length-drop at bytes, h))
lies_chunks Over body bytes c at h = lies_over (length bytes)
lies_chunks Broken body bytes c at h = lies_broken 40 (length bytes)
lies_chunks Start body bytes c at h = lies_more (length bytes) (length bytes) (omega arith)
lies_chunks Size body bytes c at h = lies_more (length bytes) (length bytes) (omega arith)
lies_chunks Blank body bytes c at h = lies_more (length bytes) (length bytes) (omega arith)
lies_chunks Extension body bytes c at h = lies_more (length bytes) (length bytes) (omega arith)
lies_chunks SizeEnd body bytes c at h = lies_more (length bytes) (length bytes) (omega arith)
lies_chunks DataCr body bytes c at h = lies_more (length bytes) (length bytes) (omega arith)
lies_chunks DataLf body bytes c at h = lies_more (length bytes) (length bytes) (omega arith)

lines_within : (bytes : List ℕ) (n most : ℕ) (c : Chunk) → (lines_from n most c bytes).1 ≤ n + length bytes
lines_within [] n most c = omega arith
lines_within (b ∷ bytes) n most c = go (is_line c.place) (lines_within bytes (n + 1) most (after most c b))
  where
    go : (t : Bool) → (lines_from (n + 1) most (after most c b) bytes).1 ≤ n + 1 + length bytes
        → (cond t (lines_from (n + 1) most (after most c b) bytes) (c, n)).1 ≤ n + length (b ∷ bytes)
    go true h = omega (arith, h)
    go false h = omega arith

-- lines end where no byte of a line follows
pub stops : (bytes : List ℕ) (n most : ℕ) (c : Chunk) → is_line c.place ≡ false → lines_from n most c bytes ≡ (c, n)
stops [] n most c h = refl
stops (b ∷ bytes) n most c h = rw h refl

-- what a call that may give nothing gave
given : {A : Type 0} (P : A → Type 0) (a b : A) → Some a ≡ Some b → P a → P b
given P a b h p = subst P (ap (λ o. unwrap_or o a) h) p

abbrev Lies : ℕ → List ℕ × Step → Type 0
Lies len t = LiesIn t.1.0 len

chunked_lies : (body : BodyShape) (bytes : List ℕ) (p : Option Place) (t : List ℕ × Step)
    → option_map (λ place. chunked_from body bytes (lines body.most (chunk_of body place) bytes)) p ≡ Some t → Lies (length bytes) t
chunked_lies body bytes None t h = cc
chunked_lies body bytes (Some place) t h =
    let r = lines body.most (chunk_of body place) bytes in
    given (Lies (length bytes)) (chunked_from body bytes r) t h
    (lies_chunks r.0.place body bytes r.0 r.1 (omega (arith, lines_within bytes 0 body.most (chunk_of body place))))

abbrev alone : Step → List ℕ × Step
alone step = ([], step)

-- what is decoded, by what the struct says
abbrev by_framing : Bool → Bool → Bool → Bool → Bool → BodyShape → List ℕ → Option (List ℕ × Step)
by_framing used none of_len chunks close body bytes =
    cond used None
    (cond none (Some (alone (over, body)))
    (cond of_len (Some (alone (of_length body (length bytes))))
    (cond chunks (chunked body bytes) (cond close (Some (alone (handed 0 (length bytes), body))) None))))

pub lies : (body : BodyShape) (bytes : List ℕ) (t : List ℕ × Step) → decoded body bytes ≡ Some t → LiesIn t.1.0 (length bytes)
unfolding decoded
lies body bytes t h = go (not (body.reserved == 0)) (body.framing == 0) (body.framing == 1) (body.framing == 2) (body.framing == 3) h
  where
    go : (used none of_len chunks close : Bool) → by_framing used none of_len chunks close body bytes ≡ Some t → Lies (length bytes) t
    go true none of_len chunks close h = cc
    go false true sized chunks close h = given (Lies (length bytes)) (alone (over, body)) t h (lies_over (length bytes))
    go false false true chunks close h = given (Lies (length bytes)) (alone (of_length body (length bytes))) t h (lies_of_length body (length bytes))
    go false false false true close h = chunked_lies body bytes (place_of body.state) t h
    go false false false false true h = given (Lies (length bytes)) (alone (handed 0 (length bytes), body)) t h (lies_handed 0 (length bytes) (length bytes) (omega arith))
    go false false false false false h = cc

-- what is handed on of n bytes, and what is left of more
handed_is : (at n all : ℕ) → n ≤ all → handed_on (handed at n) + (all - n) ≡ all
handed_is at n all h = go (n == 0) refl
  where
    go : (t : Bool) → (n == 0) ≡ t → handed_on (cond t (more at) (piece 71 at (at + n) (at + n))) + (all - n) ≡ all
    go true e = omega (arith, eqb-true n 0 e)
    go false e = omega (arith, h)

pub kept_lengths : (body : BodyShape) (len : ℕ) → handed_on (of_length body len).0 + (of_length body len).1.length ≡ body.length
kept_lengths body len = subst (λ (s : Step). handed_on s.0 + s.1.length ≡ body.length) (sym (by_end body len)) (go (body.length == 0))
  where
    go : (t : Bool) → handed_on (sized t body (min body.length len)).0 + (sized t body (min body.length len)).1.length ≡ body.length
    go true = omega arith
    go false = handed_is 0 (min body.length len) body.length (omega arith)

-- what hands on bytes or waits for more doesn't end a body
goes_on : (at n any : ℕ) → (handed at n).status ≡ 72 → any ≡ 0
goes_on at n any h = go (n == 0) h
  where
    go : (t : Bool) → (cond t (more at) (piece 71 at (at + n) (at + n))).status ≡ 72 → any ≡ 0
    go true h = omega (arith, h)
    go false h = omega (arith, h)

pub over_at_end : (body : BodyShape) (len : ℕ) → (of_length body len).0.status ≡ 72 → body.length ≡ 0
over_at_end body len h = go (body.length == 0) refl (subst (λ (s : Step). s.0.status ≡ 72) (by_end body len) h)
  where
    go : (t : Bool) → (body.length == 0) ≡ t → (sized t body (min body.length len)).0.status ≡ 72 → body.length ≡ 0
    go true e h = eqb-true body.length 0 e
    go false e h = goes_on 0 (min body.length len) body.length h

pub kept_sizes : (body : BodyShape) (c : Chunk) (at len : ℕ) → handed_on (in_data body c at len).0 + (in_data body c at len).1.size ≡ c.size
kept_sizes body c at len = handed_is at (min c.size (len - at)) c.size (omega arith)

pub in_pieces : (bytes : List ℕ) (n most : ℕ) (c : Chunk) (others : List ℕ) → is_line (lines_from n most c bytes).0.place ≡ true
    → lines_from n most c (bytes ++ others) ≡ lines_from (lines_from n most c bytes).1 most (lines_from n most c bytes).0 others
in_pieces [] n most c others h = refl
in_pieces (b ∷ bytes) n most c others h = go (is_line c.place) refl h (λ k. in_pieces bytes (n + 1) most (after most c b) others k)
  where
    go : (t : Bool) → is_line c.place ≡ t → is_line (cond t (lines_from (n + 1) most (after most c b) bytes) (c, n)).0.place ≡ true
        → (is_line (lines_from (n + 1) most (after most c b) bytes).0.place ≡ true
        → lines_from (n + 1) most (after most c b) (bytes ++ others)
        ≡ lines_from (lines_from (n + 1) most (after most c b) bytes).1 most (lines_from (n + 1) most (after most c b) bytes).0 others)
        → cond t (lines_from (n + 1) most (after most c b) (bytes ++ others)) (c, n)
        ≡ lines_from (cond t (lines_from (n + 1) most (after most c b) bytes) (c, n)).1 most (cond t (lines_from (n + 1) most (after most c b) bytes) (c, n)).0 others
    go true e h rest = rest h
    go false e h rest = cc

pub places : (place : Place) → place_of (number place) ≡ Some place
places Start = refl
places Size = refl
places Blank = refl
places Extension = refl
places SizeEnd = refl
places Data = refl
places DataCr = refl
places DataLf = refl
places Trailers = refl
places Over = refl
places Broken = refl
