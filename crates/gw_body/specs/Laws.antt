-- Laws of bodies.
use Rattle.std.specs.Prelude.{◌≡◌, ◌<◌, ◌≤◌, ◌↔◌, true, List, [], ℕ, ◌++◌, length}
use Rattle.std.specs.List.{concat}
use Rattle.gw_chunk.specs.declared.error.ChunkError.{ChunkError}
use Rattle.gw_chunk.specs.Chunked.{data_limit, piece_limit}
use Rattle.gw_head.specs.declared.framing.Framing.{Framing}
use Rattle.gw_head.specs.declared.framing.Framing.TheVariants.{None as NoBody, Length, Chunked, ToEnd}
use Rattle.gw_body.specs.declared.place.Place.{Place}
use Rattle.gw_body.specs.declared.plan.Plan.{Plan}
use Rattle.gw_body.specs.Body.{BodyOf, BadBody}
use Rattle.gw_body.specs.Part.{IsPart}
use Rattle.gw_body.specs.Places.{begins, HasBody, FailsBody, data_among, is_done, is_inside}
use Rattle.gw_body.specs.Taken.{Takes, DecidesNothing}
use Rattle.gw_body.specs.Written.{plan_of, piece_text, behind_piece, end_text, rest_text, Accepts, MayEnd, MayGoOn, IsWritable, written, body_text}

-- the bodies of a framing and their data are those from its first place
abbrev pub BodiesFromFirst : Type 0
BodiesFromFirst = (framing : Framing) (bytes d rest : List ℕ) → BodyOf framing bytes d rest ↔ HasBody (begins framing) bytes d rest

-- and the faults
abbrev pub FaultsFromFirst : Type 0
FaultsFromFirst =
    (framing : Framing) (bytes : List ℕ) (error : ChunkError) → BadBody framing bytes error ↔ FailsBody (begins framing) bytes error

-- bytes are a body and what follows it in one way
abbrev pub OneBody : Type 0
OneBody =
    (framing : Framing) (bytes d rest e more : List ℕ) → BodyOf framing bytes d rest → BodyOf framing bytes e more
    → (d ≡ e) × (rest ≡ more)

-- and then they have no fault
abbrev pub NoFaultInBody : Type 0
NoFaultInBody =
    (framing : Framing) (bytes d rest : List ℕ) (error : ChunkError) → BodyOf framing bytes d rest → BadBody framing bytes error → ⊥

-- the body ends within the bytes, whatever follows them
abbrev pub EndsWithin : Place → List ℕ → Type 0
EndsWithin place bytes =
    (front : List ℕ) × (more : List ℕ) × (d : List ℕ) × (bytes ≡ front ++ more) × ((rest : List ℕ) → HasBody place (front ++ rest) d rest)

-- nothing is decided by bytes exactly where there is no data among them, and neither an end nor a fault
abbrev pub UndecidedIsNeither : Type 0
UndecidedIsNeither =
    (place : Place) (bytes : List ℕ)
    → DecidesNothing place bytes
    ↔ ((data_among place bytes ≡ []) × (EndsWithin place bytes → ⊥) × ((error : ChunkError) → FailsBody place bytes error → ⊥))

-- a body is done exactly where all that follows is behind it
abbrev pub DoneIsWhole : Type 0
DoneIsWhole = (place : Place) → (is_done place ≡ true) ↔ ((rest : List ℕ) → HasBody place rest [] rest)

-- what was taken in turn was taken in one
abbrev pub TakenInTurn : Type 0
TakenInTurn =
    (old mid new : Place) (a b d e : List ℕ) → Takes old a d mid → Takes mid b e new → Takes old (a ++ b) (d ++ e) new

-- what a reader took of a body, without its end and without a fault, is a part of it
abbrev pub TakenIsPart : Type 0
TakenIsPart =
    (framing : Framing) (bytes d : List ℕ) (place : Place) → Takes (begins framing) bytes d place → is_inside place ≡ true
    → IsPart framing bytes d

-- so much data may be read again
abbrev pub IsReadable : Framing → List ℕ → Type 0
IsReadable NoBody d = Unit {0}
IsReadable (Length n) d = Unit {0}
IsReadable Chunked d = length d ≤ data_limit
IsReadable ToEnd d = length d ≤ data_limit

-- nothing may follow a body up to the link's end
abbrev pub MayFollow : Framing → List ℕ → Type 0
MayFollow NoBody rest = Unit {0}
MayFollow (Length n) rest = Unit {0}
MayFollow Chunked rest = Unit {0}
MayFollow ToEnd rest = rest ≡ []

-- what is written of pieces is the text of the data that they make
abbrev pub PiecesMakeText : Type 0
PiecesMakeText =
    (framing : Framing) (pieces : List (List ℕ)) → IsWritable (plan_of framing) pieces
    → written (plan_of framing) pieces ≡ body_text framing (concat pieces)

-- and is read as that data, whatever follows
abbrev pub WrittenIsRead : Type 0
WrittenIsRead =
    (framing : Framing) (pieces : List (List ℕ)) (rest : List ℕ) → IsWritable (plan_of framing) pieces
    → IsReadable framing (concat pieces) → MayFollow framing rest
    → BodyOf framing (written (plan_of framing) pieces ++ rest) (concat pieces) rest

-- so far this data was written as this text: with any pieces that may follow it makes the text of all data
abbrev pub HasWritten : Framing → List ℕ → List ℕ → Plan → Type 0
HasWritten framing d text plan =
    (pieces : List (List ℕ)) → IsWritable plan pieces → text ++ written plan pieces ≡ body_text framing (d ++ concat pieces)

-- it begins with nothing, goes on with each piece, and at the end the text is whole
abbrev pub BeginsWritten : Type 0
BeginsWritten = (framing : Framing) → HasWritten framing [] [] (plan_of framing)

abbrev pub GoesOnWritten : Type 0
GoesOnWritten =
    (framing : Framing) (d text piece : List ℕ) (plan : Plan) → HasWritten framing d text plan
    → 0 < length piece → length piece ≤ piece_limit → Accepts plan piece
    → HasWritten framing (d ++ piece) (text ++ piece_text plan piece) (behind_piece plan piece)

abbrev pub EndsWritten : Type 0
EndsWritten =
    (framing : Framing) (d text : List ℕ) (plan : Plan) → HasWritten framing d text plan → MayEnd plan
    → text ++ end_text plan ≡ body_text framing d

-- so far this data was written as this text, which begins the text of all data that begins so: with what is written of
-- the rest it is that text
abbrev pub HasBegun : Framing → List ℕ → List ℕ → Plan → Type 0
HasBegun framing d text plan =
    (more : List ℕ) → MayGoOn plan more → text ++ rest_text plan more ≡ body_text framing (d ++ more)

-- it begins with nothing, and goes on with each piece
abbrev pub BeginsText : Type 0
BeginsText = (framing : Framing) → HasBegun framing [] [] (plan_of framing)

abbrev pub GoesOnText : Type 0
GoesOnText =
    (framing : Framing) (d text piece : List ℕ) (plan : Plan) → HasBegun framing d text plan
    → 0 < length piece → length piece ≤ piece_limit → Accepts plan piece
    → HasBegun framing (d ++ piece) (text ++ piece_text plan piece) (behind_piece plan piece)

-- the data has as many bytes as the framing says, or may have
abbrev pub HasLength : Framing → List ℕ → Type 0
HasLength NoBody d = length d ≡ 0
HasLength (Length n) d = length d ≡ n
HasLength Chunked d = length d ≤ data_limit
HasLength ToEnd d = length d ≤ data_limit

-- then its text is read as that data, whatever follows
abbrev pub TextIsRead : Type 0
TextIsRead =
    (framing : Framing) (d rest : List ℕ) → HasLength framing d → MayFollow framing rest
    → BodyOf framing (body_text framing d ++ rest) d rest
