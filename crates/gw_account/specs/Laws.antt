-- Laws of stretches of work.
use Rattle.std.specs.Prelude.{◌≡◌}
use Rattle.gw_wire.specs.Wire.{WireView}
use Rattle.gw_pool.specs.Lent.{Lent}
use Rattle.gw_account.specs.Did.{span, Doing, Runs, Pays, clock_of}
use Rattle.gw_account.specs.Work.{Work, nothing, and, behind, at_of}

-- stretches add up, whichever are put together first
abbrev pub WorkAddsUp : Type 0
WorkAddsUp = (u v w : Work) → and (and u v) w ≡ and u (and v w)

-- nothing adds nothing, before and behind
abbrev pub NothingAddsNothing : Type 0
NothingAddsNothing = (w : Work) → (and nothing w ≡ w) × (and w nothing ≡ w)

-- a stretch that begins where another one ended makes one stretch with it, and stands behind the other one's work
abbrev pub StretchesFollow : Type 0
StretchesFollow =
    (x y z : WireView) (a b c : Lent) (u v : Work) → Doing (span x y a b) u → Doing (span y z b c) v
    → Doing (span x z a c) (and u v) × (at_of y b ≡ behind (at_of x a) u)

-- a stretch pays for what it did
abbrev pub StretchesPay : Type 0
StretchesPay =
    (x y : WireView) (a b : Lent) (w : Work) → Doing (span x y a b) w → Runs (clock_of x a) (clock_of y b) × Pays (clock_of x a) (clock_of y b) w.bill
