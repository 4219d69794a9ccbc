-- A call of the pool as a stretch of work.
use Rattle.std.proofs.Common.{ℕ, ◌≡◌, ◌≤◌, false, List, [], ◌∷◌, ◌++◌, refl, ap, sym, ◌∙◌, arith, append_assoc, append-nil}
use Rattle.std.proofs.lemmas.Bool.{eq-eqb}
use Rattle.gw_wire.specs.Causes.{RoseBy}
use Rattle.gw_wire.specs.Wire.{WireView, NowStep}
use Rattle.gw_wire.proofs.Facts.{later_same, Logs-none}
use Rattle.gw_pool.specs.declared.entry.Call.{Call}
use Rattle.gw_pool.specs.declared.entry.Entry.{Entry}
use Rattle.gw_pool.specs.History.{mine}
use Rattle.gw_pool.specs.Lent.{Lent, Calls, Looks, entry_of}
use Rattle.gw_pool.specs.Machine.{Outcome}
use Rattle.gw_pool.specs.Moments.{call_moments}
use Rattle.gw_account.specs.Did.{span, Pooled, Doing}
use Rattle.gw_account.specs.Work.{entered}
use Rattle.gw_account.proofs.DidLemmas.{mine_then, wired_call}

-- behind entries of others, a caller's own entry is all that it made
pub own_last : (others : List Entry) (entry : Entry) (caller : ℕ) → mine others caller ≡ [] → entry.caller ≡ caller
    → mine (others ++ entry ∷ []) caller ≡ entry ∷ []
own_last others entry caller none same =
    mine_then others (entry ∷ []) caller ∙ ap (λ m. m ++ mine (entry ∷ []) caller) none ∙ rw (eq-eqb entry.caller caller same) refl

pooled_called : (a b : Lent) (others : List Entry) (asked : Call) (outcome : Outcome) → Calls a b others asked outcome → b.waits ≡ a.waits
    → Pooled a b (entered (others ++ entry_of a.number asked outcome.reply ∷ []))
pooled_called a b others asked outcome c waits =
    let entry : Entry = entry_of a.number asked outcome.reply in
    record {
      limits = c.meets.limits;
      number = c.meets.number;
      seen = c.seen ∙ append_assoc a.seen others (entry ∷ []);
      mine = c.mine ∙ ap (λ m. a.mine ++ m) (sym (own_last others entry a.number c.meets.foreign refl));
      fresh = c.meets.fresh;
      ended = c.meets.ended;
      waits = rw waits (omega arith);
    }

pooled_looked : (a b : Lent) (others : List Entry) → Looks a b others → RoseBy 0 a.waits b.waits → Pooled a b (entered others)
pooled_looked a b others l waits = record {
  limits = l.meets.limits;
  number = l.meets.number;
  seen = l.seen;
  mine = l.mine ∙ sym (append-nil a.mine) ∙ ap (λ m. a.mine ++ m) (sym l.meets.foreign);
  fresh = l.meets.fresh;
  ended = l.meets.ended;
  waits = waits;
}

-- a call that names the wire's moment
pub called : (wire : WireView) (a b : Lent) (others : List Entry) (asked : Call) (outcome : Outcome) → wire.aged ≡ false
    → call_moments asked ≡ wire.moment ∷ [] → Calls a b others asked outcome → b.waits ≡ a.waits
    → Doing (span wire wire a b) (entered (others ++ entry_of a.number asked outcome.reply ∷ []))
called wire a b others asked outcome fresh names c waits =
    let entry : Entry = entry_of a.number asked outcome.reply in
    let made : List Entry = others ++ entry ∷ [] in
    record {
      fresh = fresh;
      wired = wired_call wire wire [] made (later_same wire) (Logs-none wire.log);
      pooled = pooled_called a b others asked outcome c waits;
      timed = rw (own_last others entry a.number c.meets.foreign refl, names) (omega arith, omega arith);
    }

-- a call that names no moment, while the wire rests
pub called_untimed : (wire : WireView) (a b : Lent) (others : List Entry) (asked : Call) (outcome : Outcome) → wire.aged ≡ false
    → call_moments asked ≡ [] → Calls a b others asked outcome → b.waits ≡ a.waits
    → Doing (span wire wire a b) (entered (others ++ entry_of a.number asked outcome.reply ∷ []))
called_untimed wire a b others asked outcome fresh names c waits =
    let entry : Entry = entry_of a.number asked outcome.reply in
    let made : List Entry = others ++ entry ∷ [] in
    record {
      fresh = fresh;
      wired = wired_call wire wire [] made (later_same wire) (Logs-none wire.log);
      pooled = pooled_called a b others asked outcome c waits;
      timed = rw (own_last others entry a.number c.meets.foreign refl, names) (omega arith);
    }

-- a look at the pool, which may count a wait
pub looked : (wire : WireView) (a b : Lent) (others : List Entry) → wire.aged ≡ false → Looks a b others → RoseBy 0 a.waits b.waits
    → Doing (span wire wire a b) (entered others)
looked wire a b others fresh l waits = record {
  fresh = fresh;
  wired = wired_call wire wire [] others (later_same wire) (Logs-none wire.log);
  pooled = pooled_looked a b others l waits;
  timed = rw l.meets.foreign (omega arith);
}
