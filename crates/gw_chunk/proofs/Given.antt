-- The data among bytes, from the places that they lead to.
use Rattle.std.proofs.Common.{◌≡◌, ℕ, ◌+◌, List, [], ◌∷◌, ◌++◌, refl, ap, ◌∙◌, Bool, true, false}
use Rattle.std.specs.Prelude.{◌==◌, if◌then◌else◌, nat_le}
use Rattle.gw_chunk.specs.declared.error.ChunkError.TheVariants.{LineTooLong, Trailer}
use Rattle.gw_chunk.specs.declared.lines.FieldForm.{FieldForm}
use Rattle.gw_chunk.specs.declared.lines.FieldForm.TheVariants.{Begin, Name, Value, Close, Last, Faulty}
use Rattle.gw_chunk.specs.declared.lines.LineForm.{LineForm}
use Rattle.gw_chunk.specs.declared.position.Position.{Position}
use Rattle.gw_chunk.specs.declared.position.Position.TheVariants.{Line, Content, Closing, Fields, Ended, Refused}
use Rattle.gw_chunk.specs.Bytes.{line_feed}
use Rattle.gw_chunk.specs.Chunked.{NoFeed}
use Rattle.gw_chunk.specs.Lines.{field_form, line_form, line_size}
use Rattle.gw_chunk.specs.Position.{after, given, behind_field, behind_line, in_fields, Leads}
use Rattle.gw_chunk.proofs.Walks.{given-append, given-refused}
use Rattle.std.proofs.lemmas.Bool.{ne_eqb}

-- the data of bytes that lead to a place, and of what follows
pub given_then : (p q : Position) (a d b : List ℕ) → Leads p a d q → given p (a ++ b) ≡ d ++ given q b
given_then p q a d b led =
    given-append p a b ∙ ap (λ l. l ++ given (after p a) b) led.out ∙ ap (λ r. d ++ given r b) led.place

-- behind the last chunk's line there is no more data
abbrev pub is_quiet : Position → Bool
is_quiet (Line form read size sum) = false
is_quiet (Content left sum) = false
is_quiet (Closing good sum) = false
is_quiet (Fields form read) = true
is_quiet Ended = true
is_quiet (Refused error) = true

quiet_close : (u : Bool) (read : ℕ) → is_quiet (if u then Refused Trailer else Fields Begin (read + 1)) ≡ true
quiet_close true read = refl
quiet_close false read = refl

quiet_behind : (form : FieldForm) (read : ℕ) → is_quiet (behind_field form read) ≡ true
quiet_behind Begin read = refl
quiet_behind Name read = refl
quiet_behind Value read = refl
quiet_behind Close read = quiet_close (nat_le 65535 read) read
quiet_behind Last read = refl
quiet_behind Faulty read = refl

quiet_in : (u v : Bool) (form : FieldForm) (read b : ℕ)
    → is_quiet (if u then behind_field form read else (if v then Refused Trailer else Fields (field_form form b) (read + 1))) ≡ true
quiet_in true v form read b = quiet_behind form read
quiet_in false true form read b = refl
quiet_in false false form read b = refl

pub given_quiet : (p : Position) (bytes : List ℕ) → is_quiet p ≡ true → given p bytes ≡ []
given_quiet p [] quiet = refl
given_quiet (Line form read size sum) (b ∷ bytes) quiet = absurd (cc)
given_quiet (Content left sum) (b ∷ bytes) quiet = absurd (cc)
given_quiet (Closing good sum) (b ∷ bytes) quiet = absurd (cc)
given_quiet (Fields form read) (b ∷ bytes) quiet =
    given_quiet (in_fields form read b) bytes (quiet_in (b == 10) (nat_le 65535 read) form read b)
given_quiet Ended (b ∷ bytes) quiet = given_quiet Ended bytes refl
given_quiet (Refused error) (b ∷ bytes) quiet = given_quiet (Refused error) bytes refl

-- nor is there in a line that has no end
in_line_by : (v : Bool) (form : LineForm) (read size sum b : ℕ) (bytes : List ℕ)
    → ((form : LineForm) (read size sum : ℕ) → given (Line form read size sum) bytes ≡ [])
    → given (if v then Refused LineTooLong else Line (line_form form b) (read + 1) (line_size form size b) sum) bytes ≡ []
in_line_by true form read size sum b bytes rest = given-refused LineTooLong bytes
in_line_by false form read size sum b bytes rest = rest (line_form form b) (read + 1) (line_size form size b) sum

pub given_line : (bytes : List ℕ) → NoFeed bytes → (form : LineForm) (read size sum : ℕ) → given (Line form read size sum) bytes ≡ []
given_line [] none form read size sum = refl
given_line (b ∷ bytes) none form read size sum =
    ap (λ v. given (if v then behind_line form size sum
    else (if nat_le 4095 read then Refused LineTooLong else Line (line_form form b) (read + 1) (line_size form size b) sum)) bytes)
    (ne_eqb b line_feed none.0)
    ∙ in_line_by (nat_le 4095 read) form read size sum b bytes (given_line bytes none.1)
