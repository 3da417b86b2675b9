-- Pieces of a body, and what was read in front of them.
use Rattle.std.proofs.Common.{◌≡◌, ◌≢◌, ℕ, zero, suc, ◌+◌, ◌-◌, ◌<◌, ◌≤◌, ◌==◌, not, min, Bool, true, false, List, [], ◌++◌, length, take, drop, refl, ap, sym, append_assoc, ◌∙◌, Option, Some, None, Result, Ok, Err, IfOk, length-drop, arith}
use Rattle.std.proofs.lemmas.Bool.{eqb-false}
use Rattle.std.proofs.lemmas.Grind.{common_steps}
use Rattle.std.specs.Prelude.{if◌then◌else◌, slice_range, option_map}
use Rattle.rules_ffi_arguments.specs.Given.{Fails}
use Rattle.rules_ffi_arguments.specs.declared.shapes.BodyShape.{BodyShape}
use Rattle.rules_ffi_results.specs.declared.chunk.Place.{Place}
use Rattle.rules_ffi_results.specs.declared.chunk.Place.TheVariants as places
use Rattle.rules_ffi_results.specs.declared.chunk.Chunk.{Chunk}
use Rattle.rules_ffi_results.specs.Chunks.{number, place_of, lines}
use Rattle.rules_ffi_results.specs.Trailers.{Ending, behind_chunks}
use Rattle.rules_ffi_results.specs.Bodies.{Step, LiesIn, piece, over, more, broken, handed, refused_call, of_length, chunk_of, with_chunk, in_data, by_ending, of_chunks, chunked_from, chunked, decoded}
use Rattle.rules_ffi_arguments.specs.Given.{Gives}
use Rattle.rules_ffi_arguments.specs.declared.bad.Bad.{Bad}
use Rattle.rules_ffi_arguments.specs.declared.bad.Bad.TheVariants.{Memory, Call}
use Rattle.gateway_rules.specs.declared.bodies.Piece.{Piece}
use Rattle.gateway_rules.specs.Bodies.{piece_of, Coming, Decoding, with_content, read_from, decoded_in}
use Rattle.gateway_rules.proofs.Within.{Kind, AllTold}
use Rattle.gateway_rules.proofs.Told.{of_the_given}

abbrev pub steps : BodyShape → Kind Step
steps body = record {
  blank = refused_call body;
  status = λ s. s.0.status;
  needed = λ s. s.0.needed;
  len = λ s. s.0.trailers.to;
  blank_status = λ s n. refl;
  blank_needed = λ s n. refl;
}

-- a piece has a status above 63 and the length of its trailers; data takes a byte at least
pub record IsPiece (t : List ℕ × Step) : Type 0 where
  pub status : 63 < t.1.0.status
  pub long : t.1.0.trailers.to ≡ length t.0
  pub takes : t.1.0.status ≡ 71 → 0 < t.1.0.used

over_is : (used : ℕ) (b : BodyShape) → IsPiece ([], (piece 72 0 0 used, b))
over_is used b = record { status = omega arith; long = refl; takes = λ e. absurd (omega (arith, e)) }

more_is : (used : ℕ) (b : BodyShape) → IsPiece ([], (more used, b))
more_is used b = record { status = omega arith; long = refl; takes = λ e. absurd (omega (arith, e)) }

broken_is : (reason : ℕ) (b : BodyShape) → IsPiece ([], (broken reason, b))
broken_is reason b = record { status = omega arith; long = refl; takes = λ e. absurd (omega (arith, e)) }

handed_is : (from n : ℕ) (b : BodyShape) → IsPiece ([], (handed from n, b))
handed_is from n b = go (n == 0) refl
  where
    go : (t : Bool) → (n == 0) ≡ t → IsPiece ([], (if t then more from else piece 71 from (from + n) (from + n), b))
    go true e = more_is from b
    go false e = record { status = omega arith; long = refl; takes = λ h. (let k : n ≢ 0 = eqb-false n 0 e in omega arith) }

either : {A : Type 0} (P : A → Type 0) (b : Bool) (x y : A) → P x → P y → P (if b then x else y)
either P true x y h k = h
either P false x y h k = k

length_is : (b : BodyShape) (len : ℕ) → IsPiece ([], of_length b len)
length_is b len =
    either (λ (s : Step). IsPiece ([], s)) (b.length == 0) (over, b) (handed 0 (min b.length len), record b { length = b.length - min b.length len })
    (over_is 0 b) (handed_is 0 (min b.length len) (record b { length = b.length - min b.length len }))

ending_is : (e : Ending) (b : BodyShape) (len at : ℕ) → IsPiece (by_ending e b len at)
ending_is None b len at = more_is at (record b { scanned = len })
ending_is (Some None) b len at = broken_is 41 (record b { state = number places.Broken })
ending_is (Some (Some section)) b len at = record { status = omega arith; long = refl; takes = λ e. absurd (omega (arith, e)) }

chunks_is : (place : Place) (b : BodyShape) (bytes : List ℕ) (c : Chunk) (at : ℕ) → IsPiece (of_chunks place b bytes c at)
chunks_is places.Data b bytes c at = handed_is at (min c.size (length bytes - at)) (in_data b c at (length bytes)).1
chunks_is places.Trailers b bytes c at = ending_is (behind_chunks (drop at bytes) (with_chunk b c).scanned (with_chunk b c).most) (with_chunk b c) (length (drop at bytes)) at
chunks_is places.Over b bytes c at = over_is 0 (with_chunk b c)
chunks_is places.Broken b bytes c at = broken_is 40 (with_chunk b c)
chunks_is _ b bytes c at = more_is (length bytes) (with_chunk b c)

of_some : {A B : Type 0} (P : B → Type 0) (x : Option A) (f : A → B) → ((a : A) → P (f a)) → (b : B) → option_map f x ≡ Some b → P b
of_some P None f h b e = cc
of_some P (Some a) f h b e = of_the_given P (f a) b e (h a)

abbrev pub AllPieces : Option (List ℕ × Step) → Type 0
AllPieces given = (t : List ℕ × Step) → given ≡ Some t → IsPiece t

some_is : (x : List ℕ × Step) → IsPiece x → AllPieces (Some x)
some_is x h t e = of_the_given IsPiece x t e h

none_is : AllPieces None
none_is t e = cc

chunked_is : (b : BodyShape) (bytes : List ℕ) → AllPieces (chunked b bytes)
chunked_is b bytes t e =
    of_some IsPiece (place_of b.state) (λ place. chunked_from b bytes (lines b.most (chunk_of b place) bytes))
    (λ place. (let r = lines b.most (chunk_of b place) bytes in chunks_is r.0.place b bytes r.0 r.1)) t e

pub decoded_is : (b : BodyShape) (bytes : List ℕ) → AllPieces (decoded b bytes)
unfolding decoded
decoded_is b bytes =
    let all : Option (List ℕ × Step) = if b.framing == 3 then Some ([], (handed 0 (length bytes), b)) else None in
    let chunks : Option (List ℕ × Step) = if b.framing == 2 then chunked b bytes else all in
    let some : Option (List ℕ × Step) = if b.framing == 1 then Some ([], of_length b (length bytes)) else chunks in
    let any : Option (List ℕ × Step) = if b.framing == 0 then Some ([], (over, b)) else some in
    either AllPieces (not (b.reserved == 0)) None any none_is
    (either AllPieces (b.framing == 0) (Some ([], (over, b))) some (some_is ([], (over, b)) (over_is 0 b))
    (either AllPieces (b.framing == 1) (Some ([], of_length b (length bytes))) chunks (some_is ([], of_length b (length bytes)) (length_is b (length bytes)))
    (either AllPieces (b.framing == 2) (chunked b bytes) all (chunked_is b bytes)
    (either AllPieces (b.framing == 3) (Some ([], (handed 0 (length bytes), b))) None (some_is ([], (handed 0 (length bytes), b)) (handed_is 0 (length bytes) b)) none_is))))

pub decoded_is_told : (b : BodyShape) (bytes : List ℕ) → AllTold (steps b) (decoded b bytes)
decoded_is_told b bytes text s e = let p = decoded_is b bytes (text, s) e in record { status = p.status; long = p.long }

-- content in front of content in front of what else is read
joined : (a b : List ℕ) (m n : ℕ) (o : Option (Decoding × Coming))
    → option_map (with_content a m) (option_map (with_content b n) o) ≡ option_map (with_content (a ++ b) (m + n)) o
joined a b m n None = refl
joined a b m n (Some r) =
    ap (λ (t : List ℕ). Some (record r.0 { content = t; used = m + (n + r.0.used) }, r.1)) (sym (append_assoc a b r.0.content))
    ∙ ap (λ (u : ℕ). Some (record r.0 { content = (a ++ b) ++ r.0.content; used = u }, r.1)) (let k : m + (n + r.0.used) ≡ m + n + r.0.used = omega arith in k)

nothing_in_front : (o : Option (Decoding × Coming)) → option_map (with_content [] 0) o ≡ o
nothing_in_front None = refl
nothing_in_front (Some r) = ap (λ (u : ℕ). Some (record r.0 { used = u }, r.1)) (let k : 0 + r.0.used ≡ r.0.used = omega arith in k)

-- what is read from the next piece on
pub record GoesOn (trailers left : List ℕ) (t : List ℕ × Step) (content : List ℕ) (used : ℕ) (whole : Option (Decoding × Coming)) : Type 0 where
  pub pieces : ℕ
  pub enough : length left ≤ pieces
  pub is : option_map (with_content content used) (read_from pieces trailers left t) ≡ whole

pub goes_on : (trailers left : List ℕ) (p t : List ℕ × Step) (content : List ℕ) (used : ℕ) (whole : Option (Decoding × Coming)) → p.1.0.status ≡ 71
    → LiesIn p.1.0 (length left) → 0 < p.1.0.used → decoded p.1.1 (drop p.1.0.used left) ≡ Some t → GoesOn trailers left p content used whole
    → GoesOn trailers (drop p.1.0.used left) t (content ++ slice_range left p.1.0.from p.1.0.to) (used + p.1.0.used) whole
goes_on trailers left p t content used whole is lies takes next g = go g.pieces g.enough g.is
  where
    go : (n : ℕ) → length left ≤ n → option_map (with_content content used) (read_from n trailers left p) ≡ whole
        → GoesOn trailers (drop p.1.0.used left) t (content ++ slice_range left p.1.0.from p.1.0.to) (used + p.1.0.used) whole
    go zero enough so_far = absurd (let w = lies.used in let v = lies.within in omega (arith, takes, enough, v))
    go (suc n) enough so_far = record {
      pieces = n;
      enough = simp length-drop (let v = lies.within in omega (arith, takes, enough, v));
      is = sym (joined content (slice_range left p.1.0.from p.1.0.to) used p.1.0.used (read_from n trailers (drop p.1.0.used left) t))
          ∙ (rw (is, next) at so_far);
    }

-- the same of bytes and of content that are known to be these
pub goes_on_at : (trailers left next : List ℕ) (p t : List ℕ × Step) (content longer : List ℕ) (used : ℕ) (whole : Option (Decoding × Coming)) → p.1.0.status ≡ 71
    → LiesIn p.1.0 (length left) → 0 < p.1.0.used → next ≡ drop p.1.0.used left → longer ≡ content ++ slice_range left p.1.0.from p.1.0.to
    → decoded p.1.1 next ≡ Some t → GoesOn trailers left p content used whole → GoesOn trailers next t longer (used + p.1.0.used) whole
goes_on_at trailers left next p t content longer used whole is lies takes behind more now g =
    rw (behind, more) (goes_on trailers left p t content used whole is lies takes (sym (ap (decoded p.1.1) behind) ∙ now) g)

-- the first piece
pub starts : (b : Coming) (bytes : List ℕ) (t : List ℕ × Step) (content : List ℕ) → content ≡ [] → decoded b.1 bytes ≡ Some t
    → GoesOn b.0 bytes t content 0 (decoded_in b bytes)
unfolding decoded_in
starts b bytes t content none now = record {
  pieces = length bytes;
  enough = omega arith;
  is = rw (none, now) (nothing_in_front (read_from (length bytes) b.0 bytes t));
}

pub fails_first : (e : Bad) (b : Coming) (bytes : List ℕ) → Fails e (decoded b.1 bytes) → Fails e (decoded_in b bytes)
unfolding decoded_in
fails_first Memory b bytes h = tt
fails_first Call b bytes h = rw h refl

pub fails_later : (e : Bad) (trailers left next : List ℕ) (p : List ℕ × Step) (content : List ℕ) (used : ℕ) (whole : Option (Decoding × Coming)) → p.1.0.status ≡ 71
    → LiesIn p.1.0 (length left) → 0 < p.1.0.used → next ≡ drop p.1.0.used left → Fails e (decoded p.1.1 next) → GoesOn trailers left p content used whole → Fails e whole
fails_later Memory trailers left next p content used whole is lies takes behind h g = tt
fails_later Call trailers left next p content used whole is lies takes behind h g = go g.pieces g.enough g.is
  where
    go : (n : ℕ) → length left ≤ n → option_map (with_content content used) (read_from n trailers left p) ≡ whole → whole ≡ None
    go zero enough so_far = absurd (let w = lies.used in let v = lies.within in omega (arith, takes, enough, v))
    go (suc n) enough so_far = sym (rw (is, sym (ap (decoded p.1.1) behind) ∙ h) at so_far)

pub takes_of : (b : BodyShape) (bytes : List ℕ) (r : Result Piece Bad) → Gives piece_of r (decoded b bytes) → IfOk r (λ p. p.told.status ≡ 71 → 0 < p.told.used)
takes_of b bytes (Ok p) h = (decoded_is b bytes (piece_of p) h).takes
takes_of b bytes (Err e) h = tt

pub lies_of : (b : BodyShape) (bytes : List ℕ) (r : Result Piece Bad) → ((t : List ℕ × Step) → decoded b bytes ≡ Some t → LiesIn t.1.0 (length bytes))
    → Gives piece_of r (decoded b bytes) → IfOk r (λ p. LiesIn p.told (length bytes))
lies_of b bytes (Ok p) all h = all (piece_of p) h
lies_of b bytes (Err e) all h = tt

pub dropped_twice : (m n : ℕ) (bytes : List ℕ) → drop (m + n) bytes ≡ drop n (drop m bytes)
dropped_twice m n bytes = grind (arith, common_steps)

pub rest_is : (n : ℕ) (bytes : List ℕ) → take (length bytes - n) (drop n bytes) ≡ drop n bytes
rest_is n bytes = grind (arith, common_steps)
