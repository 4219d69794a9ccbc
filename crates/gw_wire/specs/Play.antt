-- What a wire in memory plays, call by call: which answer comes, and what is left of its scripts.
use Rattle.std.specs.Prelude.{ℕ, max, nat_le, Bool, true, false, List, [], ◌∷◌, drop, if◌then◌else◌}
use Rattle.gw_wire.specs.declared.memory.script.AcceptEvent.{AcceptEvent}
use Rattle.gw_wire.specs.declared.memory.script.AcceptEvent.TheVariants as coming
use Rattle.gw_wire.specs.declared.memory.script.DialEvent.{DialEvent}
use Rattle.gw_wire.specs.declared.memory.script.DialEvent.TheVariants as dialing
use Rattle.gw_wire.specs.declared.memory.script.Moment.{Moment}
use Rattle.gw_wire.specs.declared.traits.Accept.{Accept}
use Rattle.gw_wire.specs.declared.traits.Accept.TheVariants as accept
use Rattle.gw_wire.specs.declared.traits.Dial.{Dial}
use Rattle.gw_wire.specs.declared.traits.Dial.TheVariants as dial
use Rattle.gw_wire.specs.MemoryLink.{ConnState, counted, silent_link}
use Rattle.gw_wire.specs.Memory.{WireState}

-- what an accept meets: past the script the listener has ended
abbrev pub next_accept : Bool → List AcceptEvent → AcceptEvent
next_accept true events = coming.Ended
next_accept false [] = coming.Ended
next_accept false (event ∷ events) = event

abbrev pub accept_answer : AcceptEvent → Accept ConnState
accept_answer (coming.Conn client peer) = accept.Conn client peer
accept_answer coming.Tick = accept.Tick
accept_answer coming.Failed = accept.Failed
accept_answer coming.Ended = accept.Ended

abbrev pub accept_counts : AcceptEvent → WireState → WireState
accept_counts (coming.Conn client peer) w = record w { acts = counted w.acts }
accept_counts coming.Tick w = record w { ticks = counted w.ticks }
accept_counts coming.Failed w = record w { accept_faults = counted w.accept_faults; acts = counted w.acts }
accept_counts coming.Ended w = record w { ended = true; acts = counted w.acts }

abbrev pub accepts_left : Bool → List AcceptEvent → List AcceptEvent
accepts_left true events = events
accepts_left false events = drop 1 events

-- a wire behind an accept, but for its log
abbrev pub accepted : WireState → WireState
accepted w = accept_counts (next_accept w.ended w.accepts) (record w { accepts = accepts_left w.ended w.accepts })

-- what a dial meets: past the script it fails
abbrev pub next_dial : List DialEvent → DialEvent
next_dial [] = dialing.Failed
next_dial (event ∷ events) = event

abbrev pub dial_answer : DialEvent → Dial ConnState
dial_answer (dialing.Conn backend) = dial.Conn backend
dial_answer dialing.Failed = dial.Failed

abbrev pub dial_counts : DialEvent → WireState → WireState
dial_counts (dialing.Conn backend) w = record w { acts = counted w.acts }
dial_counts dialing.Failed w = record w { dial_faults = counted w.dial_faults; acts = counted w.acts }

-- a wire behind a dial, but for its log
abbrev pub dialed : WireState → WireState
dialed w = dial_counts (next_dial w.dials) (record w { dials = drop 1 w.dials })

-- where nothing fails, a dial past the script gives a link on which nothing ever comes
abbrev pub honest_dial_answer : List DialEvent → Dial ConnState
honest_dial_answer [] = dial.Conn silent_link
honest_dial_answer (event ∷ events) = dial_answer event

abbrev pub honest_dialed : WireState → WireState
honest_dialed w = record w { dials = drop 1 w.dials; acts = counted w.acts }

-- a wire behind a wait, but for its log
abbrev pub waited : Bool → WireState → WireState
waited true w = record w { asked = w.moment; aged = true; ticks = counted w.ticks }
waited false w = record w { asked = w.moment; aged = false; acts = counted w.acts }

-- the moment that a clock says after so many acts: the last one from so many acts on, and never one before the last
abbrev pub moment_after : List Moment → ℕ → ℕ → ℕ
moment_after [] acts last = last
moment_after (m ∷ moments) acts last = moment_after moments acts (if nat_le m.from acts then max last m.at else last)
