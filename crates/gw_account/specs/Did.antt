-- That a stretch of work was done, and what it pays.
use Rattle.std.specs.Prelude.{ℕ, ◌≡◌, ◌≤◌, ◌+◌, true, false, [], ◌++◌}
use Rattle.gw_wire.specs.Acts.{Logs}
use Rattle.gw_wire.specs.Causes.{RoseBy}
use Rattle.gw_wire.specs.Moments.{Rises}
use Rattle.gw_wire.specs.Wire.{WireView, Later}
use Rattle.gw_pool.specs.History.{mine}
use Rattle.gw_pool.specs.Lent.{Lent}
use Rattle.gw_pool.specs.Moments.{entry_moments}
use Rattle.gw_pool.specs.Shelf.{is_among}
use Rattle.gw_account.specs.Work.{Bill, Work, At, at_of}

-- a wire and a pool, before and behind
pub record Span : Type 0 where
  pub old : WireView
  pub new : WireView
  pub before : Lent
  pub after : Lent

abbrev pub span : WireView → WireView → Lent → Lent → Span
span old new before after = record { old = old; new = new; before = before; after = after }

-- the wire went on by this work, and pays for it: each count rose by what is owed at least
pub record Wired (old new : WireView) (w : Work) : Type 0 where
  pub later : Later old new
  pub log : Logs old.log new.log w.acts
  pub dials : RoseBy w.bill.dials old.dial_faults new.dial_faults
  pub millis : old.moment + w.bill.millis ≤ new.moment
  pub ticks : RoseBy w.bill.ticks old.ticks new.ticks
  pub rests : RoseBy w.bill.rests old.rests new.rests
  pub said : Rises old.moment w.bill.said new.moment

-- The pool went on by this work: the caller saw these entries more, and those with its number are its own. No want ceases
-- to be fresh, and the audit text wasn't ended.
pub record Pooled (before after : Lent) (w : Work) : Type 0 where
  pub limits : after.limits ≡ before.limits
  pub number : after.number ≡ before.number
  pub seen : after.seen ≡ before.seen ++ w.made
  pub mine : after.mine ≡ before.mine ++ mine w.made before.number
  pub fresh : (want : ℕ) → is_among want before.fresh ≡ true → is_among want after.fresh ≡ true
  pub ended : after.ended ≡ before.ended
  pub waits : RoseBy w.bill.rests before.waits after.waits

-- a stretch of work was done, whatever became of the tokens: the clock was read behind its last wait, and the moments that
-- its own entries name rise
pub record Doing (s : Span) (w : Work) : Type 0 where
  pub fresh : s.new.aged ≡ false
  pub wired : Wired s.old s.new w
  pub pooled : Pooled s.before s.after w
  pub timed : Rises s.old.moment (entry_moments (mine w.made s.before.number)) s.new.moment

-- a stretch of work was done of which this holds, and the tokens that are out are those from before
pub record Did (s : Span) (P : At → Work → Type 0) : Type 0 where
  pub work : Work
  pub doing : Doing s work
  pub out : s.after.out ≡ s.before.out
  pub does : P (at_of s.old s.before) work

-- calls on a wire alone
pub record Went (old new : WireView) (P : At → Work → Type 0) : Type 0 where
  pub work : Work
  pub fresh : new.aged ≡ false
  pub wired : Wired old new work
  pub made : work.made ≡ []
  pub rests : work.bill.rests ≡ 0
  pub does : (a : At) → P a work

-- the counts that prices are paid in
pub record Clock : Type 0 where
  pub moment : ℕ
  pub ticks : ℕ
  pub rests : ℕ
  pub waits : ℕ

abbrev pub clock_of : WireView → Lent → Clock
clock_of wire lent = record { moment = wire.moment; ticks = wire.ticks; rests = wire.rests; waits = lent.waits }

-- none of them falls; waits that are counted to the end of their type stand still
pub record Runs (old new : Clock) : Type 0 where
  pub moment : old.moment ≤ new.moment
  pub ticks : old.ticks ≤ new.ticks
  pub rests : old.rests ≤ new.rests
  pub waits : RoseBy 0 old.waits new.waits

-- they rise by what a bill owes at least; a count at the end of its type pays all
pub record Pays (old new : Clock) (bill : Bill) : Type 0 where
  pub millis : old.moment + bill.millis ≤ new.moment
  pub ticks : RoseBy bill.ticks old.ticks new.ticks
  pub rests : RoseBy bill.rests old.rests new.rests
  pub waits : RoseBy bill.rests old.waits new.waits
  pub said : Rises old.moment bill.said new.moment
