-- Steps of a wait for a request, over plain variables.
use Rattle.std.proofs.Common.{ℕ, zero, suc, ◌≡◌, ◌<◌, ◌||◌, Bool, true, false, List, [], ◌∷◌, length, Option, Some, None, refl, ap, sym, subst, ◌∙◌, arith, inl, inr, append-nil}
use Rattle.std.specs.Prelude.{◌==◌, ◌↔◌}
use Rattle.gw_wire.specs.declared.values.Act.{Act}
use Rattle.gw_wire.specs.declared.values.Act.TheVariants.{Read}
use Rattle.gw_wire.specs.Link.{LinkView}
use Rattle.gw_wire.specs.Stretch.{Acts}
use Rattle.gw_wire.specs.Wire.{WireView, NowStep}
use Rattle.gw_context.specs.declared.parts.Cause.{Cause}
use Rattle.gw_context.specs.declared.parts.Cause.TheVariants.{Canceled}
use Rattle.gw_context.specs.Tree.{new_tree}
use Rattle.gw_ctxwords.specs.Calls as ctx
use Rattle.gw_gate.specs.Seat.{SeatState}
use Rattle.gw_account.specs.Did.{Went}
use Rattle.gw_account.specs.Work.{Bill, Work, At, Idle, Only, Seq, and}
use Rattle.gw_account.proofs.Facts.{nothing_and, went_map, went_nothing, went_then}
use Rattle.gw_stream.specs.declared.waits.Heard.{Heard}
use Rattle.gw_stream.specs.declared.waits.Heard.TheVariants as heard
use Rattle.gw_stream.specs.declared.waits.Loss.{Loss}
use Rattle.gw_stream.specs.declared.waits.Loss.TheVariants as loss
use Rattle.gw_stream.specs.declared.waits.Stop.TheVariants as stops
use Rattle.gw_stream.specs.Guard.{GuardGoes, GuardView}
use Rattle.gw_stream.specs.Guard as guard
use Rattle.gw_stream.specs.Waits.{HeardStep, LossCause, heard_acts, heard_bill, loss_acts, side}
use Rattle.gw_session.specs.Patience.{nobody}
use Rattle.gw_session.specs.declared.end.Ended.{Ended}
use Rattle.gw_session.specs.Ending.{lost_end}
use Rattle.gw_session.specs.Hearing.{IsLossOfIdle}
use Rattle.gw_session.specs.Seats.{Seats, SeatsGo, seats}
use Rattle.gw_session.specs.Stand.{EndCause, Goes, Spot, stand}
use Rattle.gw_session.specs.TurnSteps.{ArrivedStep}
use Rattle.gw_session.proofs.SayLemmas.{clock_idle}
use Rattle.gw_session.proofs.SeatLemmas.{goes_same, seats_since}
use Rattle.std.proofs.lemmas.Bool.{ne_eqb}
use Rattle.std.proofs.lemmas.List.Elements.{All-nil}

-- what is seen of a door
abbrev pub at_door : SeatState → Option ℕ → ℕ → ℕ → GuardView
at_door seat shut_at last found = record {
  tree = new_tree;
  node = 0;
  deadline = None;
  words = nobody;
  own = 0;
  gate = seat;
  grace = 0;
  shut_at = shut_at;
  last = last;
  cancels = found;
}

-- what its looks leave of a worker's seats
door_seats : (f g : SeatState) (s t : Option ℕ) (now last m n : ℕ) (words : ctx.SeatState) (own grace moment : ℕ) → GuardGoes (at_door f s now m) (at_door g t last n) moment
    → SeatsGo (seats f words s) (seats g words t) own grace now moment false
door_seats f g s t now last m n words own grace moment k =
    record {
      name = k.gate;
      room = k.room;
      shut = λ e. inl (sym k.shut ∙ e);
      seen_shut = k.seen_shut;
      told = λ e. absurd (let bad : false ≡ true = e in cc);
      noted = k.shut_at;
      table = refl;
      places = refl;
      base = record { more = []; cancels = sym (append-nil words.view.cancels); base = All-nil (λ (set : ℕ × Cause). set ≡ (0, Canceled)); past = inl refl };
      found = omega arith;
    }

-- ---- why none came

lost_idle : (x y : WireView) (f g : GuardView) (from to : LinkView) (silence : ℕ) (why : Loss) → f.deadline ≡ None
    → LossCause (side x f) (side y g) from to (Some silence) why → IsLossOfIdle why
lost_idle x y f g from to silence loss.End none c = tt
lost_idle x y f g from to silence loss.Failed none c = tt
lost_idle x y f g from to silence (loss.Stopped stops.Cancelled) none c = tt
lost_idle x y f g from to silence (loss.Stopped stops.Deadline) none c = subst (λ (o : Option ℕ). guard.IsDue o y.moment) none c
lost_idle x y f g from to silence (loss.Stopped stops.Silent) none c = tt
lost_idle x y f g from to silence (loss.Stopped stops.Ticks) none c = tt

-- what was found makes the gate seen shut
seen_by : (n : ℕ) (seen : Bool) → 0 < n → (n == 0 || seen) ≡ true → seen ≡ true
seen_by zero seen some told = absurd (omega (arith, some))
seen_by (suc n) seen some told = subst (λ (b : Bool). (b || seen) ≡ true) (ne_eqb (suc n) 0 (omega arith)) told

idle_cause : (x y : WireView) (f g : SeatState) (s t : Option ℕ) (now last n : ℕ) (from to : LinkView) (silence : ℕ) (why : Loss)
    → (n == 0 || g.view.seen_shut) ≡ true → LossCause (side x (at_door f s now 0)) (side y (at_door g t last n)) from to (Some silence) why
    → EndCause from to g.view.seen_shut (Some (lost_end why))
idle_cause x y f g s t now last n from to silence loss.End told c = c
idle_cause x y f g s t now last n from to silence loss.Failed told c = c
idle_cause x y f g s t now last n from to silence (loss.Stopped stops.Cancelled) told c = seen_by n g.view.seen_shut (omega (arith, c)) told
idle_cause x y f g s t now last n from to silence (loss.Stopped stops.Deadline) told c = absurd c
idle_cause x y f g s t now last n from to silence (loss.Stopped stops.Silent) told c = tt
idle_cause x y f g s t now last n from to silence (loss.Stopped stops.Ticks) told c = tt

-- ---- whole waits

pub some_ahead : (empty : Bool) (ahead : List ℕ) → (empty ≡ true ↔ ahead ≡ []) → empty ≡ false → 0 < length ahead
some_ahead empty [] k full = absurd (let bad : false ≡ true = sym full ∙ k.1 refl in cc)
some_ahead empty (b ∷ ahead) k full = omega arith

-- a byte was ahead
pub arrived_ahead : (w : WireView) (l : LinkView) (s : Seats) (p : Spot) (kept ahead : List ℕ) → w.aged ≡ false → ahead ≡ kept → 0 < length kept
    → ArrivedStep (stand w l s) (stand w l s) p kept ahead None
arrived_ahead w l s p kept ahead fresh same some = record {
  went = went_map (went_nothing w fresh)
      (λ a v k. (ap (λ (z : Work). z.made) k, ap (λ (z : Work). z.bill) k, (subst (λ (b : List ℕ). 0 < length b) (sym same) some, inl (same, ap (λ (z : Work). z.acts) k))));
  goes = goes_same (stand w l s) p w.moment;
}

behind_idle : (bill : Bill) (P : List Act → Type 0) (a : At) (w : Work) → Seq Idle (Only bill P) a w → Only bill P a w
behind_idle bill P a w s =
    subst (λ (z : Work). Only bill P a z) (sym (s.2 ∙ ap (λ (u : Work). and u s.1) s.3 ∙ nothing_and s.1)) s.4

door_went : (x y z : WireView) (f g : GuardView) (from to : LinkView) (now : ℕ) (piece : List ℕ) (silence : ℕ) (r : Heard) → NowStep x y now
    → HeardStep (side y f) (side z g) from to piece (Some silence) r → Went x z (Only (heard_bill (Some silence) r) (Acts (heard_acts from.number piece r)))
door_went x y z f g from to now piece silence r n h =
    went_map (went_then (clock_idle x y now n) h.waited.went) (behind_idle (heard_bill (Some silence) r) (Acts (heard_acts from.number piece r)))

door_goes : (x y z : WireView) (from to : LinkView) (f g : SeatState) (s t : Option ℕ) (words : ctx.SeatState) (p : Spot) (now last n : ℕ) (piece : List ℕ) (silence : ℕ) (r : Heard) (next : Option Ended) → NowStep x y now
    → HeardStep (side y (at_door f s now 0)) (side z (at_door g t last n)) from to piece (Some silence) r → EndCause from to g.view.seen_shut next
    → Goes (stand x from (seats f words s)) (stand z to (seats g words t)) p x.moment false next
door_goes x y z from to f g s t words p now last n piece silence r next read h cause =
    let k = h.waited.watched.goes in
    record {
      link = h.link;
      seats = seats_since (seats f words s) (seats g words t) p.own p.table.grace_ms now x.moment z.moment false (let l = read.later.moment in let e = read.given in omega arith)
          (door_seats f g s t now last 0 n words p.own p.table.grace_ms z.moment k);
      held = k.held;
      cause = cause;
    }

-- a piece came
pub arrived_read : (x y z : WireView) (from to : LinkView) (f g : SeatState) (s t : Option ℕ) (words : ctx.SeatState) (p : Spot) (now last n : ℕ) (kept piece : List ℕ) → NowStep x y now
    → p.client ≡ from.number → kept ≡ [] → HeardStep (side y (at_door f s now 0)) (side z (at_door g t last n)) from to piece (Some p.table.client_ms) heard.Got
    → ArrivedStep (stand x from (seats f words s)) (stand z to (seats g words t)) p kept piece None
arrived_read x y z from to f g s t words p now last n kept piece read same none h = record {
  went = went_map (door_went x y z (at_door f s now 0) (at_door g t last n) from to now piece p.table.client_ms heard.Got read h)
      (λ a v k. (k.0, k.1, (h.cause, inr (none, k.2 ∙ ap (λ (c : ℕ). Read c piece ∷ []) (sym same)))));
  goes = door_goes x y z from to f g s t words p now last n piece p.table.client_ms heard.Got None read h tt;
}

-- none came
pub arrived_none : (x y z : WireView) (from to : LinkView) (f g : SeatState) (s t : Option ℕ) (words : ctx.SeatState) (p : Spot) (now last n : ℕ) (kept piece ahead : List ℕ) (why : Loss) → NowStep x y now
    → p.client ≡ from.number → kept ≡ [] → (n == 0 || g.view.seen_shut) ≡ true
    → HeardStep (side y (at_door f s now 0)) (side z (at_door g t last n)) from to piece (Some p.table.client_ms) (heard.Lost why)
    → ArrivedStep (stand x from (seats f words s)) (stand z to (seats g words t)) p kept ahead (Some why)
arrived_none x y z from to f g s t words p now last n kept piece ahead why read same none told h =
    let F : GuardView = at_door f s now 0 in
    let G : GuardView = at_door g t last n in
    record {
      went = went_map (door_went x y z F G from to now piece p.table.client_ms (heard.Lost why) read h)
          (λ a v k. (
            none,
            lost_idle y z F G from to p.table.client_ms why refl h.cause.0,
            (k.0, k.1, k.2 ∙ ap (λ (c : ℕ). loss_acts c why) (sym same)),
          ));
      goes = door_goes x y z from to f g s t words p now last n piece p.table.client_ms (heard.Lost why) (Some (lost_end why)) read h
          (idle_cause y z f g s t now last n from to p.table.client_ms why told h.cause.0);
    }
