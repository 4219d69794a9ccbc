-- What is left of a script without a failure has none either.
use Rattle.std.proofs.Common.{◌≡◌, ℕ, true, IsTrue, List, [], ◌∷◌, refl}
use Rattle.std.specs.List.{list_all}
use Rattle.std.proofs.lemmas.Bool.{and_parts, and_from}
use Rattle.gw_wire.specs.declared.memory.script.ConnEvent.{ConnEvent}
use Rattle.gw_wire.specs.declared.memory.script.ConnEvent.TheVariants.{Piece, Tick, End, Failed}
use Rattle.gw_wire.specs.declared.traits.Read.{Read}
use Rattle.gw_wire.specs.declared.traits.Read.TheVariants as read
use Rattle.gw_wire.specs.MemoryLink.{ConnState, heard, heard_of, heard_counts, is_heard, is_honest_link, met, received}

met_honest : (events : List ConnEvent) → list_all is_heard events ≡ true → list_all is_heard (met events) ≡ true
met_honest [] h = refl
met_honest (Piece [] ∷ events) h = met_honest events h
met_honest (Piece (b ∷ bytes) ∷ events) h = h
met_honest (Tick ∷ events) h = h
met_honest (End ∷ events) h = h
met_honest (Failed ∷ events) h = h

never_failed_of : (room : ℕ) (events : List ConnEvent) → list_all is_heard events ≡ true → (heard_of room events).answer ≡ read.Failed → ⊥
never_failed_of room [] h e = cc
never_failed_of room (Piece bytes ∷ events) h e = cc
never_failed_of room (Tick ∷ events) h e = cc
never_failed_of room (End ∷ events) h e = cc
never_failed_of room (Failed ∷ events) h e = cc

left_honest_of : (room : ℕ) (events : List ConnEvent) → list_all is_heard events ≡ true → list_all is_heard (heard_of room events).left ≡ true
left_honest_of room [] h = refl
left_honest_of room (Piece bytes ∷ events) h = h
left_honest_of room (Tick ∷ events) h = h
left_honest_of room (End ∷ events) h = h
left_honest_of room (Failed ∷ events) h = cc

pub never_failed : (room : ℕ) (c : ConnState) → IsTrue (is_honest_link c) → (heard room c.events).answer ≡ read.Failed → ⊥
never_failed room c h e = never_failed_of room (met c.events) (met_honest c.events (and_parts _ _ h).0) e

counts_stay : (answer : Read) (c : ConnState) → is_honest_link (heard_counts answer c) ≡ is_honest_link c
counts_stay (read.Got n) c = refl
counts_stay read.End c = refl
counts_stay read.Tick c = refl
counts_stay read.Failed c = refl

pub received_honest : (room : ℕ) (c : ConnState) → IsTrue (is_honest_link c) → IsTrue (is_honest_link (received room c))
received_honest room c h =
    let parts = and_parts _ _ h in
    rw (counts_stay (heard room c.events).answer (record c { events = (heard room c.events).left }))
    (and_from _ _ (left_honest_of room (met c.events) (met_honest c.events parts.0)) parts.1)
