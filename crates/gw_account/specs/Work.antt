-- What a stretch of work did to a wire and to a pool, as one sum: its acts, the entries that were seen meanwhile, and
-- what is counted of it.
use Rattle.std.specs.Prelude.{ℕ, ◌≡◌, ◌+◌, List, [], ◌∷◌, ◌++◌}
use Rattle.gw_wire.specs.declared.values.Act.{Act}
use Rattle.gw_wire.specs.declared.values.Addr.{Addr}
use Rattle.gw_wire.specs.Shuffle.{Shuffle}
use Rattle.gw_wire.specs.Wire.{WireView}
use Rattle.gw_pool.specs.declared.entry.Entry.{Entry}
use Rattle.gw_pool.specs.declared.limits.Limits.{Limits}
use Rattle.gw_pool.specs.Lent.{Lent}

-- What is counted: requests that began; dials that failed; prices of time-outs in milliseconds, in ticks, and in rests
-- with as many waits for the pool; wants that were refused; sessions that ended for want of memory; and the moments of
-- the replies in their order.
pub record Bill : Type 0 where
  pub begun : ℕ
  pub dials : ℕ
  pub millis : ℕ
  pub ticks : ℕ
  pub rests : ℕ
  pub refused : ℕ
  pub memory : ℕ
  pub said : List ℕ

abbrev pub free : Bill
free = record { begun = 0; dials = 0; millis = 0; ticks = 0; rests = 0; refused = 0; memory = 0; said = [] }

abbrev pub both : Bill → Bill → Bill
both a b = record {
  begun = a.begun + b.begun;
  dials = a.dials + b.dials;
  millis = a.millis + b.millis;
  ticks = a.ticks + b.ticks;
  rests = a.rests + b.rests;
  refused = a.refused + b.refused;
  memory = a.memory + b.memory;
  said = a.said ++ b.said;
}

-- the acts on the wire; the entries that the caller saw being made, its own and between them those of others; the bill
pub record Work : Type 0 where
  pub acts : List Act
  pub made : List Entry
  pub bill : Bill

abbrev pub nothing : Work
nothing = record { acts = []; made = []; bill = free }

-- one stretch and then another
abbrev pub and : Work → Work → Work
and u v = record { acts = u.acts ++ v.acts; made = u.made ++ v.made; bill = both u.bill v.bill }

-- work for each of a list, one after another
abbrev pub sum : {A : Type 0} → (A → Work) → List A → Work
sum f [] = nothing
sum f (x ∷ xs) = and (f x) (sum f xs)

abbrev pub acted : List Act → Work
acted acts = record { acts = acts; made = []; bill = free }

abbrev pub entered : List Entry → Work
entered made = record { acts = []; made = made; bill = free }

-- what a stretch of work stands on: what never changes, and the pool's history so far
pub record At : Type 0 where
  pub limits : Limits
  pub caller : ℕ
  pub groups : Addr → List Addr
  pub history : List Entry

abbrev pub at_of : WireView → Lent → At
at_of wire lent = record { limits = lent.limits; caller = lent.number; groups = wire.groups; history = lent.seen }

abbrev pub behind : At → Work → At
behind a w = record a { history = a.history ++ w.made }

-- Facts on a stretch of work. Each that isn't made of others fixes acts, entries and bill.
abbrev pub Idle : At → Work → Type 0
Idle a w = w ≡ nothing

-- one, and behind it another
abbrev pub Seq : (At → Work → Type 0) → (At → Work → Type 0) → At → Work → Type 0
Seq P Q a w = (u : Work) × (v : Work) × (w ≡ and u v) × P a u × Q (behind a u) v

-- work on the wire alone: of these acts, with this bill
abbrev pub Only : Bill → (List Act → Type 0) → At → Work → Type 0
Only bill P a w = (w.made ≡ []) × (w.bill ≡ bill) × P w.acts

-- Work that makes no entry, beside work that says no reply: their acts interleave.
pub record Beside (P Q : At → Work → Type 0) (a : At) (w : Work) : Type 0 where
  pub one : Work
  pub other : Work
  pub acts : Shuffle one.acts other.acts w.acts
  pub apart : one.made ≡ []
  pub silent : other.bill.said ≡ []
  pub made : w.made ≡ other.made
  pub bill : w.bill ≡ both one.bill other.bill
  pub left : P a one
  pub right : Q a other
