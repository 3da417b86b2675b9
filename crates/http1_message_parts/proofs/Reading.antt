-- Field lines that were read, in front of what is made of the rest.
use Rattle.std.proofs.Common.{◌≡◌, ℕ, suc, ◌-◌, ◌<◌, ◌==◌, List, [], ◌∷◌, ◌++◌, refl, ap, Bool, true, false, cond, length, nat_lt, arith}
use Rattle.std.specs.Prelude.{Option, Some, None, Result, Ok, Err}
use Rattle.rules_fields.specs.Fields.{Field}
use Rattle.http1_message_parts.specs.declared.reason.Reason.{Reason}
use Rattle.std.proofs.lemmas.Bool.Decides.{nat_tests}
use Rattle.http1_message_parts.specs.Results.{on_ok, map_ok}
use Rattle.rules_fields.specs.Texts.{is_filled}
use Rattle.http1_message_parts.specs.Lines.{lines_of, row_of, rows_of, field_of, fields_of, fields_within, refusal}
use Rattle.std.specs.Option.{option_map_or}
use Rattle.http1_message_parts.specs.declared.reason.Reason.TheVariants.{TooManyFields}

abbrev pub behind : List Field → Result (List Field) Reason → Result (List Field) Reason
behind front (Ok fs) = Ok (front ++ fs)
behind front (Err r) = Err r

-- a row that is wrong, with others behind it
pub refused : (room : ℕ) (row : List ℕ) (rows : List (List ℕ)) (reason : Reason) → 0 < room → field_of row ≡ Err reason → fields_within room (row ∷ rows) ≡ Err (refusal rows (room - 1) reason)
refused room row rows reason lt e = go (nat_lt room (suc (length rows))) (nat_lt (room - 1) (length rows)) (grind (arith, nat_tests))
  where
    go : (s t : Bool) → s ≡ t → cond s (Err TooManyFields) (on_ok (field_of row) (λ f. map_ok (λ fs. f ∷ fs) (fields_of rows))) ≡ Err (cond t TooManyFields reason)
    go true true k = refl
    go false false k = ap (λ r. on_ok r (λ f. map_ok (λ fs. f ∷ fs) (fields_of rows))) e
    go true false k = cc
    go false true k = cc

-- the rows of a text, of which the first isn't empty
pub rows_split : {A : Type 0} (f : A → List ℕ) (line row : List ℕ) (rest : Option A) → row ≡ row_of line → is_filled row ≡ true
    → rows_of (line ∷ option_map_or (λ r. lines_of (f r)) rest []) ≡ row ∷ option_map_or (λ r. rows_of (lines_of (f r))) rest []
rows_split f line row None e h = rw (← e) (rw h refl)
rows_split f line row (Some r) e h = rw (← e) (rw h refl)

pub is_one : (row : List ℕ) → (length row == 0) ≡ false → is_filled row ≡ true
is_one [] h = cc
is_one (b ∷ row) h = refl
