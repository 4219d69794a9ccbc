-- Places in a body, which are all that the reader keeps, and what is said of the bytes from one on.
use Rattle.std.specs.Prelude.{◌≡◌, ℕ, ◌<◌, ◌≤◌, ◌-◌, Bool, true, false, List, [], ◌++◌, length, take, nat_lt, ◌==◌}
use Rattle.gw_chunk.specs.declared.error.ChunkError.{ChunkError}
use Rattle.gw_chunk.specs.declared.error.ChunkError.TheVariants.{TooLarge}
use Rattle.gw_chunk.specs.Chunked.{data_limit}
use Rattle.gw_chunk.specs.Position.{first, left_of, is_ended, is_undecided, after, given, Has, Fails}
use Rattle.gw_head.specs.declared.framing.Framing.{Framing}
use Rattle.gw_head.specs.declared.framing.Framing.TheVariants.{None as NoBody, Length, Chunked as InChunks, ToEnd as ToLinkEnd}
use Rattle.gw_body.specs.declared.place.Place.{Place}
use Rattle.gw_body.specs.declared.place.Place.TheVariants.{Counted, Chunked, ToEnd, Refused}

-- before the first byte
abbrev pub begins : Framing → Place
begins NoBody = Counted 0
begins (Length n) = Counted n
begins InChunks = Chunked first
begins ToLinkEnd = ToEnd data_limit

-- behind the last byte
abbrev pub ended : Place
ended = Counted 0

-- from the place on, the bytes are what is left of a body, with this data, and then the rest
abbrev pub HasBody : Place → List ℕ → List ℕ → List ℕ → Type 0
HasBody (Counted left) bytes d rest = (bytes ≡ d ++ rest) × (length d ≡ left)
HasBody (Chunked p) bytes d rest = (text : List ℕ) × (bytes ≡ text ++ rest) × Has p text d
HasBody (ToEnd left) bytes d rest = (bytes ≡ d) × (rest ≡ []) × (length d ≤ left)
HasBody (Refused fault) bytes d rest = ⊥

-- from the place on, the bytes have the fault
abbrev pub FailsBody : Place → List ℕ → ChunkError → Type 0
FailsBody (Counted left) bytes error = ⊥
FailsBody (Chunked p) bytes error = Fails p bytes error
FailsBody (ToEnd left) bytes error = (error ≡ TooLarge) × (left < length bytes)
FailsBody (Refused fault) bytes error = error ≡ fault

-- the data among the bytes
abbrev pub data_among : Place → List ℕ → List ℕ
data_among (Counted left) bytes = take left bytes
data_among (Chunked p) bytes = given p bytes
data_among (ToEnd left) bytes = take left bytes
data_among (Refused fault) bytes = []

-- how many bytes behind these are data, as far as is known there
abbrev pub left_behind : Place → List ℕ → ℕ
left_behind (Counted left) bytes = left - length bytes
left_behind (Chunked p) bytes = left_of (after p bytes)
left_behind (ToEnd left) bytes = left - length bytes
left_behind (Refused fault) bytes = 0

-- the body is whole, whatever follows
abbrev pub is_done : Place → Bool
is_done (Counted left) = left == 0
is_done (Chunked p) = is_ended p
is_done (ToEnd left) = false
is_done (Refused fault) = false

-- the place is neither behind the body nor behind a fault
abbrev pub is_inside : Place → Bool
is_inside (Counted left) = nat_lt 0 left
is_inside (Chunked p) = is_undecided p
is_inside (ToEnd left) = true
is_inside (Refused fault) = false

-- a chunked text is left with its end or its first fault
abbrev pub is_open : Place → Bool
is_open (Counted left) = true
is_open (Chunked p) = is_undecided p
is_open (ToEnd left) = true
is_open (Refused fault) = true
