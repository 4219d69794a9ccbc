-- How stretches beside a guard are put together.
use Rattle.std.proofs.Common.{ℕ, ◌≡◌, ◌≤◌, false, List, [], ◌∷◌, ◌++◌, refl, ap, sym, subst, ◌∙◌, arith, inl}
use Rattle.gw_wire.specs.Causes.{RoseBy}
use Rattle.gw_wire.specs.Wire.{WireView}
use Rattle.gw_pool.specs.declared.entry.Call.{Call}
use Rattle.gw_pool.specs.declared.entry.Entry.{Entry}
use Rattle.gw_pool.specs.declared.limits.Limits.{Limits}
use Rattle.gw_pool.specs.Gone.{left_by, link_of}
use Rattle.gw_pool.specs.Lent.{Lent, Calls, Looks, entry_of}
use Rattle.gw_pool.specs.Machine.{Outcome}
use Rattle.gw_pool.specs.Moments.{call_moments}
use Rattle.gw_account.specs.Did.{Span, span, Went}
use Rattle.gw_wire.specs.declared.values.Act.{Act}
use Rattle.gw_account.specs.Work.{Bill, Work, At, free, nothing, and, at_of, Only, Seq}
use Rattle.gw_account.proofs.Facts.{at_then, doing_then, doing_nothing, doing_went, called, called_untimed, looked}
use Rattle.gw_stream.specs.Guard.{GuardView, GuardGoes}
use Rattle.gw_transport.specs.Parts.{Called, Sees}
use Rattle.gw_stream.specs.Waits.{Side, Waited}
use Rattle.gw_transport.specs.Stretch.{Part, Stretch}
use Rattle.gw_stream.proofs.Facts.{guard_same, watched_then}

pub part_then : {x y z : WireView} {a b c : Lent} {P Q : At → Work → Type 0}
    → Part (span x y a b) P → Part (span y z b c) Q → Part (span x z a c) (Seq P Q)
part_then {x} {y} {z} {a} {b} {c} {P} {Q} p q =
    let T : At → Type 0 = λ t. Q t q.work in
    record {
      work = and p.work q.work;
      doing = doing_then x y z a b c p.work q.work p.doing q.doing;
      asked = q.asked ∙ p.asked;
      does = (p.work, q.work, refl, p.does, subst T (at_then x y a b p.work p.doing.wired p.doing.pooled) q.does);
    }

pub part_map : {s : Span} {P Q : At → Work → Type 0} → Part s P → ((a : At) (w : Work) → P a w → Q a w) → Part s Q
part_map {s} {P} {Q} p f = record { work = p.work; doing = p.doing; asked = p.asked; does = f (at_of s.old s.before) p.work p.does }

pub part_by : {x y : WireView} {a b : Lent} {P Q : At → Work → Type 0} → (p : Part (span x y a b) P) → Q (at_of x a) p.work → Part (span x y a b) Q
part_by {x} {y} {a} {b} {P} {Q} p q = record { work = p.work; doing = p.doing; asked = p.asked; does = q }

pub part_nothing : (wire : WireView) (a : Lent) → wire.aged ≡ false → Part (span wire wire a a) (Sees free)
part_nothing wire a fresh = record { work = nothing; doing = doing_nothing wire a fresh; asked = refl; does = (refl, refl, refl) }

pub part_went : {old new : WireView} {P : At → Work → Type 0} (a : Lent) → Went old new P → new.asked ≡ old.asked → Part (span old new a a) P
part_went {old} {new} {P} a w asked = record {
  work = w.work;
  doing = doing_went old new a w.work w.fresh w.wired w.made w.rests;
  asked = asked;
  does = w.does (at_of old a);
}

pub part_looked : (wire : WireView) (a b : Lent) (others : List Entry) → wire.aged ≡ false → Looks a b others → RoseBy 0 a.waits b.waits
    → Part (span wire wire a b) (Sees free)
part_looked wire a b others fresh l waits = record {
  work = record { acts = []; made = others; bill = free };
  doing = looked wire a b others fresh l waits;
  asked = refl;
  does = (l.meets.foreign, refl, refl);
}

called_so : (P : Limits → List Entry → Type 0) (a b : Lent) (wire : WireView) (others : List Entry) (asked : Call) (outcome : Outcome) (links : List ℕ)
    → Calls a b others asked outcome → P a.limits (a.seen ++ others) → link_of outcome.gone ≡ links
    → Called P asked outcome.reply links (at_of wire a) (record { acts = []; made = others ++ entry_of a.number asked outcome.reply ∷ []; bill = free })
called_so P a b wire others asked outcome links c place left = record {
  others = others;
  made = refl;
  foreign = c.meets.foreign;
  place = place;
  left = ap left_by c.fits ∙ left;
  quiet = refl;
  bill = refl;
}

-- a call of the pool that names the wire's moment, and one that names none
pub part_called : (P : Limits → List Entry → Type 0) (wire : WireView) (a b : Lent) (others : List Entry) (asked : Call) (outcome : Outcome) (links : List ℕ)
    → wire.aged ≡ false → call_moments asked ≡ wire.moment ∷ [] → Calls a b others asked outcome → b.waits ≡ a.waits
    → P a.limits (a.seen ++ others) → link_of outcome.gone ≡ links → Part (span wire wire a b) (Called P asked outcome.reply links)
part_called P wire a b others asked outcome links fresh names c waits place left = record {
  work = record { acts = []; made = others ++ entry_of a.number asked outcome.reply ∷ []; bill = free };
  doing = called wire a b others asked outcome fresh names c waits;
  asked = refl;
  does = called_so P a b wire others asked outcome links c place left;
}

pub part_untimed : (P : Limits → List Entry → Type 0) (wire : WireView) (a b : Lent) (others : List Entry) (asked : Call) (outcome : Outcome) (links : List ℕ)
    → wire.aged ≡ false → call_moments asked ≡ [] → Calls a b others asked outcome → b.waits ≡ a.waits
    → P a.limits (a.seen ++ others) → link_of outcome.gone ≡ links → Part (span wire wire a b) (Called P asked outcome.reply links)
part_untimed P wire a b others asked outcome links fresh names c waits place left = record {
  work = record { acts = []; made = others ++ entry_of a.number asked outcome.reply ∷ []; bill = free };
  doing = called_untimed wire a b others asked outcome fresh names c waits;
  asked = refl;
  does = called_so P a b wire others asked outcome links c place left;
}

-- ---- beside a guard

pub stretch_then : {x y z : WireView} {a b c : Lent} {f g h : GuardView} {P Q : At → Work → Type 0}
    → Stretch (span x y a b) f g P → Stretch (span y z b c) g h Q → Stretch (span x z a c) f h (Seq P Q)
stretch_then {x} {y} {z} {a} {b} {c} {f} {g} {h} {P} {Q} p q =
    let T : At → Type 0 = λ t. Q t q.work in
    record {
      work = and p.work q.work;
      doing = doing_then x y z a b c p.work q.work p.doing q.doing;
      watched = watched_then x y z f g h q.doing.wired.later.moment p.watched q.watched;
      does = (p.work, q.work, refl, p.does, subst T (at_then x y a b p.work p.doing.wired p.doing.pooled) q.does);
    }

pub stretch_map : {s : Span} {f g : GuardView} {P Q : At → Work → Type 0} → Stretch s f g P → ((a : At) (w : Work) → P a w → Q a w) → Stretch s f g Q
stretch_map {s} {f} {g} {P} {Q} p h =
    record { work = p.work; doing = p.doing; watched = p.watched; does = h (at_of s.old s.before) p.work p.does }

pub stretch_by : {x y : WireView} {a b : Lent} {f g : GuardView} {P Q : At → Work → Type 0} → (p : Stretch (span x y a b) f g P) → Q (at_of x a) p.work
    → Stretch (span x y a b) f g Q
stretch_by {x} {y} {a} {b} {f} {g} {P} {Q} p q = record { work = p.work; doing = p.doing; watched = p.watched; does = q }

-- no look was made meanwhile
pub stretch_part : {x y : WireView} {a b : Lent} {P : At → Work → Type 0} (g : GuardView) → g.last ≤ x.moment → Part (span x y a b) P
    → Stretch (span x y a b) g g P
stretch_part {x} {y} {a} {b} {P} g le p = record {
  work = p.work;
  doing = p.doing;
  watched = record { goes = guard_same g y.moment (let later = p.doing.wired.later.moment in omega arith); asked = inl p.asked };
  does = p.does;
}

-- a look at the wire's moment
pub stretch_look : (wire : WireView) (a : Lent) (f g : GuardView) (now : ℕ) → wire.aged ≡ false → wire.moment ≡ now → GuardGoes f g now
    → Stretch (span wire wire a a) f g (Sees free)
stretch_look wire a f g now fresh read goes = record {
  work = nothing;
  doing = doing_nothing wire a fresh;
  watched = record { goes = subst (λ (m : ℕ). GuardGoes f g m) (sym read) goes; asked = inl refl };
  does = (refl, refl, refl);
}

-- such calls, while nobody called the pool, are a stretch of work
pub stretch_waited : {a b : Side} {u : Bill} {P : List Act → Type 0} (pool : Lent) → Waited a b u P
    → Stretch (span a.wire b.wire pool pool) a.guard b.guard (Only u P)
stretch_waited {a} {b} {u} {P} pool p = record {
  work = p.went.work;
  doing = doing_went a.wire b.wire pool p.went.work p.went.fresh p.went.wired p.went.made p.went.rests;
  watched = p.watched;
  does = p.went.does (at_of a.wire pool);
}
