-- What a writer writes of a body's data, piece by piece.
use Rattle.std.specs.Prelude.{◌≡◌, ℕ, ◌+◌, ◌-◌, ◌<◌, ◌≤◌, true, false, List, [], ◌∷◌, ◌++◌, length, nat_lt, slice_range}
use Rattle.gw_chunk.specs.Chunked.{piece_limit, coded_piece, coded_end, coded}
use Rattle.gw_head.specs.declared.framing.Framing.{Framing}
use Rattle.gw_head.specs.declared.framing.Framing.TheVariants.{None as NoBody, Length, Chunked as InChunks, ToEnd as ToLinkEnd}
use Rattle.gw_body.specs.declared.plan.Plan.{Plan}
use Rattle.gw_body.specs.declared.plan.Plan.TheVariants.{Counted, Chunked, ToEnd}

-- before the first piece
abbrev pub plan_of : Framing → Plan
plan_of NoBody = Counted 0
plan_of (Length n) = Counted n
plan_of InChunks = Chunked false
plan_of ToLinkEnd = ToEnd

-- a piece of these bytes may be next: there are no more than are left, and in chunks no piece before was short
abbrev pub Accepts : Plan → List ℕ → Type 0
Accepts (Counted left) bytes = length bytes ≤ left
Accepts (Chunked short) bytes = short ≡ false
Accepts ToEnd bytes = Unit {0}

-- what is written of a piece
abbrev pub piece_text : Plan → List ℕ → List ℕ
piece_text (Counted left) bytes = bytes
piece_text (Chunked short) bytes = coded_piece bytes
piece_text ToEnd bytes = bytes

-- behind a piece
abbrev pub behind_piece : Plan → List ℕ → Plan
behind_piece (Counted left) bytes = Counted (left - length bytes)
behind_piece (Chunked short) bytes = Chunked (nat_lt (length bytes) piece_limit)
behind_piece ToEnd bytes = ToEnd

-- the data may end here: there is as much as was said
abbrev pub MayEnd : Plan → Type 0
MayEnd (Counted left) = left ≡ 0
MayEnd (Chunked short) = Unit {0}
MayEnd ToEnd = Unit {0}

-- what is written at the end
abbrev pub end_text : Plan → List ℕ
end_text (Counted left) = []
end_text (Chunked short) = coded_end
end_text ToEnd = []

-- data may still follow: in chunks none behind a short piece
abbrev pub MayGoOn : Plan → List ℕ → Type 0
MayGoOn (Counted left) more = Unit {0}
MayGoOn (Chunked short) more = short ≡ true → more ≡ []
MayGoOn ToEnd more = Unit {0}

-- what is written of it and at the end
abbrev pub rest_text : Plan → List ℕ → List ℕ
rest_text (Counted left) more = more
rest_text (Chunked short) more = coded more
rest_text ToEnd more = more

-- the bytes that are kept before and behind a piece that is framed where it stands
abbrev pub gap_before : Plan → ℕ
gap_before (Counted left) = 0
gap_before (Chunked short) = 6
gap_before ToEnd = 0

abbrev pub gap_behind : Plan → ℕ
gap_behind (Counted left) = 0
gap_behind (Chunked short) = 2
gap_behind ToEnd = 0

-- where such a piece of so many bytes ends with what is behind it, and its data
abbrev pub frame_end : Plan → ℕ → ℕ
frame_end plan len = gap_before plan + (len + gap_behind plan)

abbrev pub data_in : Plan → List ℕ → ℕ → List ℕ
data_in plan buffer len = slice_range buffer (gap_before plan) (gap_before plan + len)

-- how much room is enough for a piece
abbrev pub piece_room : Plan → List ℕ → ℕ
piece_room plan bytes = length bytes + (gap_before plan + gap_behind plan)

-- behind the end: nothing more may be written
abbrev pub written_whole : Plan
written_whole = Counted 0

-- these pieces, one after another, and then the end
abbrev pub IsWritable : Plan → List (List ℕ) → Type 0
IsWritable plan [] = MayEnd plan
IsWritable plan (piece ∷ pieces) =
    (0 < length piece) × (length piece ≤ piece_limit) × Accepts plan piece × IsWritable (behind_piece plan piece) pieces

-- what is written of them
abbrev pub written : Plan → List (List ℕ) → List ℕ
written plan [] = end_text plan
written plan (piece ∷ pieces) = piece_text plan piece ++ written (behind_piece plan piece) pieces

-- the text of a body's data: in chunks it is that of the encoder, else the data
abbrev pub body_text : Framing → List ℕ → List ℕ
body_text NoBody d = d
body_text (Length n) d = d
body_text InChunks d = coded d
body_text ToLinkEnd d = d
