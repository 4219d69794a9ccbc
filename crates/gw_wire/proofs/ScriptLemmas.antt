-- How a link's script is met, and that no byte of it is lost or given twice.
use Rattle.std.proofs.Common.{◌≡◌, ◌<◌, ℕ, ◌+◌, List, [], ◌∷◌, ◌++◌, length, drop, take, min, get_or, refl, ap, sym, ◌∙◌, append_assoc, arith, length-drop}
use Rattle.std.proofs.lemmas.List.{drop_more, take-append-drop}
use Rattle.gw_wire.specs.declared.memory.script.ConnEvent.{ConnEvent}
use Rattle.gw_wire.specs.declared.memory.script.ConnEvent.TheVariants.{Piece, Tick, End, Failed}
use Rattle.gw_wire.specs.MemoryLink.{cut, met, heard, heard_of, sent_by, ScriptBytesAreKept}

kept_piece : (n : ℕ) (bytes : List ℕ) (events : List ConnEvent) → bytes ++ sent_by events ≡ take n bytes ++ (drop n bytes ++ sent_by events)
kept_piece n bytes events =
    ap (λ l. l ++ sent_by events) (sym (take-append-drop n bytes)) ∙ append_assoc (take n bytes) (drop n bytes) (sent_by events)

pub bytes_are_kept : ScriptBytesAreKept
bytes_are_kept room [] = refl
bytes_are_kept room (Piece [] ∷ events) = bytes_are_kept room events
bytes_are_kept room (Piece (b ∷ bytes) ∷ events) = kept_piece (min (length (b ∷ bytes)) room) (b ∷ bytes) events
bytes_are_kept room (Tick ∷ events) = refl
bytes_are_kept room (End ∷ events) = refl
bytes_are_kept room (Failed ∷ events) = refl

-- the place of a piece that was read up to an offset
pub cut_piece : (events : List ConnEvent) (place offset : ℕ) (bytes : List ℕ) → place < length events → get_or events place (Piece bytes) ≡ Piece bytes
    → cut offset (drop place events) ≡ Piece (drop offset bytes) ∷ drop (place + 1) events
cut_piece events place offset bytes inside is =
    ap (cut offset) (drop_more events place (Piece bytes) inside ∙ ap (λ e. e ∷ drop (place + 1) events) is)

met_some : (bytes : List ℕ) (events : List ConnEvent) → 0 < length bytes → met (Piece bytes ∷ events) ≡ Piece bytes ∷ events
met_some [] events some = absurd (omega arith)
met_some (b ∷ bytes) events some = refl

-- a piece with a byte left is what is met
pub met_ready : (events : List ConnEvent) (place offset : ℕ) (bytes : List ℕ) → place < length events → get_or events place (Piece bytes) ≡ Piece bytes
    → offset < length bytes → met (cut offset (drop place events)) ≡ cut offset (drop place events)
met_ready events place offset bytes inside is ready =
    let e = cut_piece events place offset bytes inside is in
    let some : 0 < length (drop offset bytes) = omega (arith, length-drop offset bytes) in
    ap met e ∙ met_some (drop offset bytes) (drop (place + 1) events) some ∙ sym e

-- what a read of such a piece gives
pub heard_piece : (old events : List ConnEvent) (room place offset : ℕ) (bytes : List ℕ) → place < length events → get_or events place (Piece bytes) ≡ Piece bytes
    → cut offset (drop place events) ≡ met old
    → heard room old ≡ heard_of room (Piece (drop offset bytes) ∷ drop (place + 1) events)
heard_piece old events room place offset bytes inside is e =
    ap (heard_of room) (sym e ∙ cut_piece events place offset bytes inside is)
