-- What a script of a wire in memory has to meet.
use Rattle.std.specs.Prelude.{ℕ, Bool, true, false, ◌&&◌, nat_lt, nat_le, nat_eq, List, [], ◌∷◌, ◌<◌, All}
use Rattle.std.specs.List.{list_all}
use Rattle.gw_wire.specs.declared.memory.script.AcceptEvent.{AcceptEvent}
use Rattle.gw_wire.specs.declared.memory.script.AcceptEvent.TheVariants as coming
use Rattle.gw_wire.specs.declared.memory.script.DialEvent.{DialEvent}
use Rattle.gw_wire.specs.declared.memory.script.DialEvent.TheVariants as dialing
use Rattle.gw_wire.specs.declared.memory.script.Moment.{Moment}
use Rattle.gw_wire.specs.MemoryLink.{is_honest_link}
use Rattle.gw_wire.specs.Visible.{is_visible}

-- neither number falls from this moment to the next ones, which are all before the year 10000
abbrev pub follows_moment : Moment → List Moment → Bool
follows_moment m [] = nat_lt m.at 253402300800000
follows_moment m (n ∷ moments) = nat_le m.from n.from && (nat_le m.at n.at && (nat_lt m.at 253402300800000 && follows_moment n moments))

-- a clock's script: its first moment holds from the first act on
abbrev pub is_clock : List Moment → Bool
is_clock [] = false
is_clock (m ∷ moments) = nat_eq m.from 0 && follows_moment m moments

-- the moment that a clock says first
abbrev pub first_moment : List Moment → ℕ
first_moment [] = 0
first_moment (m ∷ moments) = m.at

-- a client's peer has a text of visible ASCII
abbrev pub is_visible_peer : AcceptEvent → Bool
is_visible_peer (coming.Conn client peer) = list_all is_visible peer
is_visible_peer coming.Tick = true
is_visible_peer coming.Failed = true
is_visible_peer coming.Ended = true

-- every moment is before the year 10000
abbrev pub AllBefore : List Moment → Type 0
AllBefore moments = All (λ m. m.at < 253402300800000) moments

-- no accept fails and no dial, nor a link that they give
abbrev pub is_honest_accept : AcceptEvent → Bool
is_honest_accept (coming.Conn client peer) = is_honest_link client
is_honest_accept coming.Tick = true
is_honest_accept coming.Failed = false
is_honest_accept coming.Ended = true

abbrev pub is_honest_dial : DialEvent → Bool
is_honest_dial (dialing.Conn backend) = is_honest_link backend
is_honest_dial dialing.Failed = false
