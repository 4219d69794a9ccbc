-- How stretches of work are put together.
use Rattle.std.proofs.Common.{ℕ, ◌≡◌, ◌==◌, ◌≤◌, ◌+◌, false, List, [], ◌++◌, refl, ap, sym, subst, ◌∙◌, arith, append_assoc, append-nil}
use Rattle.std.proofs.lemmas.List.Elements.{filter-append}
use Rattle.std.proofs.lemmas.Grind.{flat_map-append}
use Rattle.gw_wire.specs.declared.values.Act.{Act}
use Rattle.gw_wire.specs.Acts.{Logs}
use Rattle.gw_wire.specs.Causes.{RoseBy}
use Rattle.gw_wire.specs.Moments.{Rises}
use Rattle.gw_wire.specs.Stretch.{Told}
use Rattle.gw_wire.specs.Wire.{WireView, Later}
use Rattle.gw_wire.proofs.Facts.{later_same, later_then, rises_then, Logs-none, Logs-then}
use Rattle.gw_pool.specs.declared.entry.Entry.{Entry}
use Rattle.gw_pool.specs.History.{mine}
use Rattle.gw_pool.specs.Lent.{Lent}
use Rattle.gw_pool.specs.Moments.{call_moments, entry_moments}
use Rattle.gw_account.specs.Did.{Span, span, Wired, Pooled, Doing, Did, Went, clock_of, Runs, Pays}
use Rattle.gw_account.specs.Laws.{StretchesFollow}
use Rattle.gw_account.specs.Work.{Bill, Work, At, free, nothing, and, acted, behind, at_of, Idle, Seq, Only}

pub mine_then : (one other : List Entry) (caller : ℕ) → mine (one ++ other) caller ≡ mine one caller ++ mine other caller
mine_then one other caller = filter-append (λ entry. entry.caller == caller) one other

pub moments_then : (one other : List Entry) → entry_moments (one ++ other) ≡ entry_moments one ++ entry_moments other
moments_then one other = flat_map-append (λ entry. call_moments entry.call) one other

rose_then : (m n a b c : ℕ) → RoseBy m a b → RoseBy n b c → RoseBy (m + n) a c
rose_then m n a b c p q = omega arith

rose_none : (a b : ℕ) → a ≤ b → RoseBy 0 a b
rose_none a b le = omega arith

rose_less : (n a b : ℕ) → RoseBy n a b → RoseBy 0 a b
rose_less n a b rose = omega arith

-- a call on the wire that pays for nothing
pub wired_call : (old new : WireView) (acts : List Act) (made : List Entry) → Later old new → Logs old.log new.log acts
    → Wired old new (record { acts = acts; made = made; bill = free })
wired_call old new acts made later log = record {
  later = later;
  log = log;
  dials = rose_none old.dial_faults new.dial_faults later.dial_faults;
  millis = (let le = later.moment in omega arith);
  ticks = rose_none old.ticks new.ticks later.ticks;
  rests = rose_none old.rests new.rests later.rests;
  said = later.moment;
}

pub wired_then : (x y z : WireView) (u v : Work) → Wired x y u → Wired y z v → Wired x z (and u v)
wired_then x y z u v p q = record {
  later = later_then x y z p.later q.later;
  log = Logs-then x.log y.log z.log u.acts v.acts p.log q.log;
  dials = rose_then u.bill.dials v.bill.dials x.dial_faults y.dial_faults z.dial_faults p.dials q.dials;
  millis = (let a = p.millis in let b = q.millis in omega arith);
  ticks = rose_then u.bill.ticks v.bill.ticks x.ticks y.ticks z.ticks p.ticks q.ticks;
  rests = rose_then u.bill.rests v.bill.rests x.rests y.rests z.rests p.rests q.rests;
  said = rises_then x.moment y.moment z.moment u.bill.said v.bill.said p.said q.said;
}

-- the pool where nobody called it
pub pooled_same : (a : Lent) (w : Work) → w.made ≡ [] → w.bill.rests ≡ 0 → Pooled a a w
pooled_same a w none unpaid = record {
  limits = refl;
  number = refl;
  seen = rw none (sym (append-nil a.seen));
  mine = rw none (sym (append-nil a.mine));
  fresh = λ want f. f;
  ended = refl;
  waits = rw unpaid (omega arith);
}

pub pooled_then : (a b c : Lent) (u v : Work) → Pooled a b u → Pooled b c v → Pooled a c (and u v)
pooled_then a b c u v p q = record {
  limits = q.limits ∙ p.limits;
  number = q.number ∙ p.number;
  seen = q.seen ∙ ap (λ s. s ++ v.made) p.seen ∙ append_assoc a.seen u.made v.made;
  mine = q.mine ∙ ap (λ m. m ++ mine v.made b.number) p.mine ∙ append_assoc a.mine (mine u.made a.number) (mine v.made b.number)
      ∙ ap (λ n. a.mine ++ (mine u.made a.number ++ mine v.made n)) p.number
      ∙ ap (λ m. a.mine ++ m) (sym (mine_then u.made v.made a.number));
  fresh = λ want f. q.fresh want (p.fresh want f);
  ended = q.ended ∙ p.ended;
  waits = rose_then u.bill.rests v.bill.rests a.waits b.waits c.waits p.waits q.waits;
}

-- what a stretch stands on behind another one
pub at_then : (x y : WireView) (a b : Lent) (u : Work) → Wired x y u → Pooled a b u → at_of y b ≡ behind (at_of x a) u
at_then x y a b u w p = λ i. record { limits = p.limits i; caller = p.number i; groups = w.later.groups i; history = p.seen i }

timed_then : (x y z : WireView) (a b : Lent) (u v : List Entry) → b.number ≡ a.number
    → Rises x.moment (entry_moments (mine u a.number)) y.moment → Rises y.moment (entry_moments (mine v b.number)) z.moment
    → Rises x.moment (entry_moments (mine (u ++ v) a.number)) z.moment
timed_then x y z a b u v same p q =
    let back : Rises y.moment (entry_moments (mine v a.number)) z.moment = subst (λ n. Rises y.moment (entry_moments (mine v n)) z.moment) same q in
    rw (mine_then u v a.number, moments_then (mine u a.number) (mine v a.number))
    (rises_then x.moment y.moment z.moment (entry_moments (mine u a.number)) (entry_moments (mine v a.number)) p back)

pub doing_then : (x y z : WireView) (a b c : Lent) (u v : Work) → Doing (span x y a b) u → Doing (span y z b c) v → Doing (span x z a c) (and u v)
doing_then x y z a b c u v p q = record {
  fresh = q.fresh;
  wired = wired_then x y z u v p.wired q.wired;
  pooled = pooled_then a b c u v p.pooled q.pooled;
  timed = timed_then x y z a b u.made v.made p.pooled.number p.timed q.timed;
}

pub doing_nothing : (wire : WireView) (a : Lent) → wire.aged ≡ false → Doing (span wire wire a a) nothing
doing_nothing wire a fresh = record {
  fresh = fresh;
  wired = wired_call wire wire [] [] (later_same wire) (Logs-none wire.log);
  pooled = pooled_same a nothing refl refl;
  timed = omega arith;
}

-- a stretch that ends where another one begins, and the other one
unfoldable pub did_then : {x y z : WireView} {a b c : Lent} {P Q : At → Work → Type 0}
    → Did (span x y a b) P → Did (span y z b c) Q → Did (span x z a c) (Seq P Q)
did_then {x} {y} {z} {a} {b} {c} {P} {Q} p q =
    let T : At → Type 0 = λ t. Q t q.work in
    record {
      work = and p.work q.work;
      doing = doing_then x y z a b c p.work q.work p.doing q.doing;
      out = q.out ∙ p.out;
      does = (p.work, q.work, refl, p.does, subst T (at_then x y a b p.work p.doing.wired p.doing.pooled) q.does);
    }

unfoldable pub did_map : {s : Span} {P Q : At → Work → Type 0} → Did s P → ((a : At) (w : Work) → P a w → Q a w) → Did s Q
did_map {s} {P} {Q} d f = record { work = d.work; doing = d.doing; out = d.out; does = f (at_of s.old s.before) d.work d.does }

unfoldable pub did_by : {x y : WireView} {a b : Lent} {P Q : At → Work → Type 0} → (d : Did (span x y a b) P) → Q (at_of x a) d.work
    → Did (span x y a b) Q
did_by {x} {y} {a} {b} {P} {Q} d q = record { work = d.work; doing = d.doing; out = d.out; does = q }

unfoldable pub did_nothing : (wire : WireView) (a : Lent) → wire.aged ≡ false → Did (span wire wire a a) Idle
did_nothing wire a fresh = record { work = nothing; doing = doing_nothing wire a fresh; out = refl; does = refl }

-- calls on the wire alone, while nobody called the pool
pub doing_went : (old new : WireView) (a : Lent) (w : Work) → new.aged ≡ false → Wired old new w → w.made ≡ [] → w.bill.rests ≡ 0
    → Doing (span old new a a) w
doing_went old new a w fresh wired none unpaid = record {
  fresh = fresh;
  wired = wired;
  pooled = pooled_same a w none unpaid;
  timed = rw none wired.later.moment;
}

unfoldable pub did_went : {old new : WireView} {P : At → Work → Type 0} (a : Lent) → Went old new P → Did (span old new a a) P
did_went {old} {new} {P} a w = record {
  work = w.work;
  doing = doing_went old new a w.work w.fresh w.wired w.made w.rests;
  out = refl;
  does = w.does (at_of old a);
}

unfoldable pub went_nothing : (wire : WireView) → wire.aged ≡ false → Went wire wire Idle
went_nothing wire fresh = record {
  work = nothing;
  fresh = fresh;
  wired = wired_call wire wire [] [] (later_same wire) (Logs-none wire.log);
  made = refl;
  rests = refl;
  does = λ a. refl;
}

-- one call on a wire, that pays for nothing
unfoldable pub went_call : (old new : WireView) (acts : List Act) → Later old new → new.aged ≡ false → Logs old.log new.log acts
    → Went old new (Only free (λ l. l ≡ acts))
went_call old new acts later fresh log = record {
  work = acted acts;
  fresh = fresh;
  wired = wired_call old new acts [] later log;
  made = refl;
  rests = refl;
  does = λ a. (refl, refl, refl);
}

unfoldable pub went_then : {x y z : WireView} {P Q : At → Work → Type 0} → Went x y P → Went y z Q → Went x z (Seq P Q)
went_then {x} {y} {z} {P} {Q} p q = record {
  work = and p.work q.work;
  fresh = q.fresh;
  wired = wired_then x y z p.work q.work p.wired q.wired;
  made = rw (p.made, q.made) refl;
  rests = rw (p.rests, q.rests) refl;
  does = λ a. (p.work, q.work, refl, p.does a, q.does (behind a p.work));
}

unfoldable pub went_map : {x y : WireView} {P Q : At → Work → Type 0} → Went x y P → ((a : At) (w : Work) → P a w → Q a w) → Went x y Q
went_map {x} {y} {P} {Q} p f = record {
  work = p.work;
  fresh = p.fresh;
  wired = p.wired;
  made = p.made;
  rests = p.rests;
  does = λ a. f a p.work (p.does a);
}

-- what was told of a wire's log with its ticks and its replies' moments
pub went_told : (old new : WireView) (P : List Act → Type 0) (begun ticks : ℕ) (said : List ℕ) → Later old new → new.aged ≡ false
    → Told old.log new.log P → RoseBy ticks old.ticks new.ticks → Rises old.moment said new.moment
    → Went old new (Only (record free { begun = begun; ticks = ticks; said = said }) P)
went_told old new P begun ticks said later fresh told rose rises = record {
  work = record { acts = told.0; made = []; bill = record free { begun = begun; ticks = ticks; said = said } };
  fresh = fresh;
  wired = record {
    later = later;
    log = told.1;
    dials = rose_none old.dial_faults new.dial_faults later.dial_faults;
    millis = (let le = later.moment in omega arith);
    ticks = rose;
    rests = rose_none old.rests new.rests later.rests;
    said = rises;
  };
  made = refl;
  rests = refl;
  does = λ a. (refl, refl, told.2);
}

pub stretches_follow : StretchesFollow
stretches_follow x y z a b c u v p q = (doing_then x y z a b c u v p q, at_then x y a b u p.wired p.pooled)

-- what a stretch pays
pub runs_by : (x y : WireView) (a b : Lent) (w : Work) → Doing (span x y a b) w → Runs (clock_of x a) (clock_of y b)
runs_by x y a b w d = record {
  moment = d.wired.later.moment;
  ticks = d.wired.later.ticks;
  rests = d.wired.later.rests;
  waits = rose_less w.bill.rests a.waits b.waits d.pooled.waits;
}

pub pays_by : (x y : WireView) (a b : Lent) (w : Work) → Doing (span x y a b) w → Pays (clock_of x a) (clock_of y b) w.bill
pays_by x y a b w d = record {
  millis = d.wired.millis;
  ticks = d.wired.ticks;
  rests = d.wired.rests;
  waits = d.pooled.waits;
  said = d.wired.said;
}

-- a stretch that is billed for what it paid
pub doing_billed : (x y : WireView) (a b : Lent) (w : Work) (bill : Bill) → Doing (span x y a b) w → RoseBy bill.dials x.dial_faults y.dial_faults
    → Pays (clock_of x a) (clock_of y b) bill → Doing (span x y a b) (record w { bill = bill })
doing_billed x y a b w bill d dials p = record {
  fresh = d.fresh;
  wired = record {
    later = d.wired.later;
    log = d.wired.log;
    dials = dials;
    millis = p.millis;
    ticks = p.ticks;
    rests = p.rests;
    said = p.said;
  };
  pooled = record {
    limits = d.pooled.limits;
    number = d.pooled.number;
    seen = d.pooled.seen;
    mine = d.pooled.mine;
    fresh = d.pooled.fresh;
    ended = d.pooled.ended;
    waits = p.waits;
  };
  timed = d.timed;
}
