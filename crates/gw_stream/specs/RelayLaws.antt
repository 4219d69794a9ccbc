-- Laws of what a relay says.
use Rattle.std.specs.Prelude.{ℕ, ◌≡◌, Bool, List, ◌++◌, length}
use Rattle.gw_wire.specs.declared.values.Act.{Act}
use Rattle.gw_wire.specs.Acts.{bytes_read}
use Rattle.gw_wire.specs.Shuffle.{Ours}
use Rattle.gw_head.specs.declared.framing.Framing.{Framing}
use Rattle.gw_body.specs.declared.place.Place.{Place}
use Rattle.gw_body.specs.Body.{BodyOf}
use Rattle.gw_body.specs.Places.{begins}
use Rattle.gw_stream.specs.declared.drawing.Pull.{Pull}
use Rattle.gw_stream.specs.declared.drawing.Pull.TheVariants as pulled
use Rattle.gw_stream.specs.declared.waits.Sent.{Sent}
use Rattle.gw_stream.specs.Drawing.{Completes, Draws, Pulled, count_of}
use Rattle.gw_stream.specs.Relaying.{Came, Comes, IsFront, text_of}
use Rattle.gw_stream.specs.Waits.{Says}

-- the bytes that were ahead, and then those that were read, are those that the body's reader took, and then those that
-- are ahead now
abbrev pub ReadsAreTaken : Type 0
ReadsAreTaken =
    (link : ℕ) (old new : Place) (ahead d left : List ℕ) (acts : List Act) → (draws : Draws link old ahead d new left acts)
    → ahead ++ bytes_read link acts ≡ draws.used ++ left

-- what came of a whole body from its beginning on is a body of its framing with the data, and what follows it (RFC 9112,
-- section 6.3)
abbrev pub DrawnIsBody : Type 0
DrawnIsBody =
    (link : ℕ) (framing : Framing) (ahead d left : List ℕ) (new : Place) (acts : List Act) → Completes link (begins framing) ahead d new left acts
    → BodyOf framing (ahead ++ bytes_read link acts) d left

-- what was written of data so far begins the text of all data that begins with it
abbrev pub FrontOfText : Type 0
FrontOfText =
    (head : List ℕ) (chunks : Bool) (d text : List ℕ) → IsFront head chunks d text → (more : List ℕ)
    → (rest : List ℕ) × (text ++ rest ≡ head ++ text_of chunks (d ++ more))

-- what came of a link is logged as the link's own acts, and so is what was written to one
abbrev pub ComesOfLink : Type 0
ComesOfLink =
    (link : ℕ) (old new : Place) (ahead d left : List ℕ) (came : Came) (acts : List Act) → Comes link old ahead d new left came acts → Ours link acts

abbrev pub SaysToLink : Type 0
SaysToLink = (link : ℕ) (bytes : List ℕ) (said : Sent) (acts : List Act) → Says link bytes said acts → Ours link acts

-- what a pull stopped at, or where it left the body open
abbrev pub came_by : Pull → Came
came_by (pulled.Data n) = Came.Inside
came_by pulled.More = Came.Inside
came_by pulled.Done = Came.Done
came_by (pulled.Bad error) = Came.Bad error
came_by (pulled.Lost why) = Came.Lost why

-- pulls one behind the other draw the data of both
abbrev pub PullsFollow : Type 0
PullsFollow =
    (link : ℕ) (old mid new : Place) (ahead between left d e : List ℕ) (result : Pull) (x y : List Act) → length e ≡ count_of result
    → Draws link old ahead d mid between x → Pulled link mid between new left e result y
    → Comes link old ahead (d ++ e) new left (came_by result) (x ++ y)
