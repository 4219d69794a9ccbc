-- A whole session, over plain variables: its turns, and the close of its client's link.
use Rattle.std.proofs.Common.{ℕ, zero, suc, ◌≡◌, ◌≤◌, ◌<◌, ◌+◌, Bool, true, false, List, [], ◌∷◌, ◌++◌, length, Option, Some, None, refl, ap, sym, subst, ◌∙◌, arith}
use Rattle.std.proofs.lemmas.List.{length-append}
use Rattle.gw_wire.specs.declared.values.Act.TheVariants.{Closed}
use Rattle.gw_wire.specs.Link.{LinkView}
use Rattle.gw_wire.specs.Wire.{CloseStep, NowStep, WireView}
use Rattle.gw_wire.proofs.Facts.{link_same}
use Rattle.gw_pool.specs.Lent.{Lent}
use Rattle.gw_account.specs.Did.{Went, span}
use Rattle.gw_account.specs.Work.{Work, At, Only, free}
use Rattle.gw_account.proofs.Facts.{went_call, went_map, went_nothing}
use Rattle.gw_routes.specs.declared.table.Table.{Table}
use Rattle.gw_transport.specs.Leasing.{IsRested}
use Rattle.gw_transport.specs.Watch.{times_found}
use Rattle.gw_session.specs.declared.client.Client.{Client}
use Rattle.gw_session.specs.declared.end.Ended.{Ended}
use Rattle.gw_session.specs.declared.end.Ended.TheVariants as ended
use Rattle.gw_session.specs.declared.session.Next.{Next}
use Rattle.gw_session.specs.Seats.{Seats}
use Rattle.gw_session.specs.Session.{SessionStep, cancelled_in, spots, stops_in}
use Rattle.gw_session.specs.Stand.{Done, Goes, IsBare, Spot, is_last, stand}
use Rattle.gw_session.specs.Turn.{Turn, is_cancelled, stops, turn_next}
use Rattle.gw_session.specs.TurnSteps.{GoingOn, IsTurnedClient, ServedStep, ServesOn, TurnStep, ended_by, spots_of}
use Rattle.gw_session.proofs.DoneLemmas.{done_after, done_map, done_then, done_went}
use Rattle.gw_session.proofs.LastLemmas.{last_ends}
use Rattle.gw_session.proofs.SayLemmas.{clock_idle}
use Rattle.gw_session.proofs.SeatLemmas.{goes_ended, goes_from, goes_link, goes_same, goes_since, goes_then, or_false}
use Rattle.gw_session.proofs.TurnLemmas.{any_more, begun_more, cancelled_by, ends_more, on_more}

-- ---- turns

pub going_first : {C : Type 0} (link : C → LinkView) (x : WireView) (b : Lent) (s : Seats) (own : ℕ) (client : Client C) (left : List ℕ) → x.aged ≡ false → IsRested b
    → client.requests ≡ 0 → left ≡ [] → IsBare client.tree x.moment → x.moment ≤ client.tree.last → GoingOn link (span x x b b) s s own client client left
going_first {C} link x b s own client left fresh rested none nothing bare told = record {
  turns = [];
  done = done_went b (went_map (went_nothing x fresh) (λ a w k. (nothing, k)));
  count = none;
  begun = none;
  closed = λ e. refl;
  goes = goes_same (stand x (link client.conn) s) (spots_of link client own 1) x.moment;
  rested = rested;
  cancelled = λ e. absurd (let bad : false ≡ true = e in cc);
  peer = refl;
  table = refl;
  bare = bare;
  told = told;
}

pub going_more : {C : Type 0} (link : C → LinkView) (x y z : WireView) (b c d : Lent) (r s t : Seats) (own : ℕ) (first before after : Client C) (mid left : List ℕ) (p : Spot) (answer : Next)
    → GoingOn link (span x y b c) r s own first before mid → p ≡ spots_of link first own (before.requests + 1) → ended_by answer ≡ None
    → TurnStep (span y z c d) (stand y (link before.conn) s) (stand z (link after.conn) t) p before.tree.last mid left after.requests answer
    → IsTurnedClient before after z.moment answer → GoingOn link (span x z b d) r t own first after left
going_more {C} link x y z b c d r s t own first before after mid left p answer g spot on k client =
    let at : ℕ → Spot = spots_of link first own in
    let m : ℕ = before.requests + 1 in
    let step : TurnStep (span y z c d) (stand y (link before.conn) s) (stand z (link after.conn) t) (at m) before.tree.last mid left after.requests answer =
    subst (λ (q : Spot). TurnStep (span y z c d) (stand y (link before.conn) s) (stand z (link after.conn) t) q before.tree.last mid left after.requests answer) spot k in
    let later = step.done.doing.wired.later.moment in
    let none : turn_next (at m) step.turn ≡ None = sym step.next_is ∙ on in
    let goes : Goes (stand y (link before.conn) s) (stand z (link after.conn) t) (at 1) x.moment (stops step.turn) None =
    goes_since (stand y (link before.conn) s) (stand z (link after.conn) t) (at 1) before.tree.last x.moment (stops step.turn) None g.told
    (goes_from (stand y (link before.conn) s) (stand z (link after.conn) t) (at m) (at 1) before.tree.last (stops step.turn) None refl refl
    (subst (λ (o : Option Ended). Goes (stand y (link before.conn) s) (stand z (link after.conn) t) (at m) before.tree.last (stops step.turn) o) on step.goes)) in
    record {
      turns = g.turns ++ step.turn ∷ [];
      done = done_map (done_then g.done step.done) (on_more at 1 m [] mid left g.turns step.turn (let n = g.count in omega arith) none);
      count = client.requests on ∙ ap (λ n. n + 1) g.count ∙ sym (length-append g.turns (step.turn ∷ []));
      begun = (let n = step.count_is in let e = g.begun in let more = begun_more g.turns step.turn in omega arith);
      closed = λ e. (let u = g.closed e in let v = step.closed (g.goes.seats.seen_shut e) in let more = begun_more g.turns step.turn in omega arith);
      goes = subst (λ (v : Bool). Goes (stand x (link first.conn) r) (stand z (link after.conn) t) (at 1) x.moment v None) (sym (any_more stops g.turns step.turn))
          (goes_then (stand x (link first.conn) r) (stand y (link before.conn) s) (stand z (link after.conn) t) (at 1) x.moment (stops_in g.turns) (stops step.turn) None later g.goes goes);
      rested = step.rested;
      cancelled = λ e.
          cancelled_by (cancelled_in g.turns) (is_cancelled step.turn) (times_found own r.words.view.ended) (times_found own s.words.view.ended) (times_found own t.words.view.ended)
          g.goes.seats.found step.goes.seats.found g.cancelled step.cancelled (sym (any_more is_cancelled g.turns step.turn) ∙ e);
      peer = client.peer ∙ g.peer;
      table = client.table ∙ g.table;
      bare = client.bare;
      told = (let u = g.told in let v = client.told in omega arith);
    }

pub going_ends : {C : Type 0} (link : C → LinkView) (x y z : WireView) (b c d : Lent) (r s t : Seats) (own : ℕ) (first before after : Client C) (mid left : List ℕ) (p : Spot) (answer : Next) (e : Ended)
    → GoingOn link (span x y b c) r s own first before mid → p ≡ spots_of link first own (before.requests + 1) → ended_by answer ≡ Some e
    → TurnStep (span y z c d) (stand y (link before.conn) s) (stand z (link after.conn) t) p before.tree.last mid left after.requests answer
    → ServedStep link (span x z b d) r t own first after e
going_ends {C} link x y z b c d r s t own first before after mid left p answer e g spot on k =
    let at : ℕ → Spot = spots_of link first own in
    let m : ℕ = before.requests + 1 in
    let step : TurnStep (span y z c d) (stand y (link before.conn) s) (stand z (link after.conn) t) (at m) before.tree.last mid left after.requests answer =
    subst (λ (q : Spot). TurnStep (span y z c d) (stand y (link before.conn) s) (stand z (link after.conn) t) q before.tree.last mid left after.requests answer) spot k in
    let later = step.done.doing.wired.later.moment in
    let ends : turn_next (at m) step.turn ≡ Some e = sym step.next_is ∙ on in
    let goes : Goes (stand y (link before.conn) s) (stand z (link after.conn) t) (at 1) x.moment (stops step.turn) (Some e) =
    goes_since (stand y (link before.conn) s) (stand z (link after.conn) t) (at 1) before.tree.last x.moment (stops step.turn) (Some e) g.told
    (goes_from (stand y (link before.conn) s) (stand z (link after.conn) t) (at m) (at 1) before.tree.last (stops step.turn) (Some e) refl refl
    (subst (λ (o : Option Ended). Goes (stand y (link before.conn) s) (stand z (link after.conn) t) (at m) before.tree.last (stops step.turn) o) on step.goes)) in
    record {
      turns = g.turns ++ step.turn ∷ [];
      done = done_map (done_then g.done step.done) (ends_more at 1 m [] mid left g.turns step.turn e (let n = g.count in omega arith) ends);
      begun = (let n = step.count_is in let f = g.begun in let more = begun_more g.turns step.turn in omega arith);
      closed = λ f. (let u = g.closed f in let v = step.closed (g.goes.seats.seen_shut f) in let more = begun_more g.turns step.turn in omega arith);
      goes = subst (λ (v : Bool). Goes (stand x (link first.conn) r) (stand z (link after.conn) t) (at 1) x.moment v (Some e)) (sym (any_more stops g.turns step.turn))
          (goes_then (stand x (link first.conn) r) (stand y (link before.conn) s) (stand z (link after.conn) t) (at 1) x.moment (stops_in g.turns) (stops step.turn) (Some e) later g.goes goes);
      rested = step.rested;
      cancelled = λ f.
          cancelled_by (cancelled_in g.turns) (is_cancelled step.turn) (times_found own r.words.view.ended) (times_found own s.words.view.ended) (times_found own t.words.view.ended)
          g.goes.seats.found step.goes.seats.found g.cancelled step.cancelled (sym (any_more is_cancelled g.turns step.turn) ∙ f);
    }

-- no session goes on behind its last request
never_on : (at : ℕ → Spot) → ((m : ℕ) → (at m).number ≡ m) → (m n : ℕ) (kept left : List ℕ) (turns : List Turn) (a : At) (w : Work) → n + m ≡ 4294967295 → m < length turns
    → ServesOn at n kept left turns a w → ⊥
never_on at number m n kept left [] a w sum more on = omega (arith, more)
never_on at number zero n kept left (t ∷ ts) a w sum more on =
    let is : (at n).number ≡ 4294967295 = number n ∙ (let e = sum in omega arith) in
    last_ends (at n) kept on.1.0 t a on.1.1.0 (subst (λ (k : ℕ). is_last k ≡ true) (sym is) refl) on.1.1.3 on.0
never_on at number (suc m) n kept left (t ∷ ts) a w sum more on =
    never_on at number m (n + 1) on.1.0 left ts _ on.1.1.1 (let e = sum in omega arith) (let u = more in omega arith) on.1.1.4

pub all_served : {C : Type 0} (link : C → LinkView) (x y : WireView) (b c : Lent) (r s : Seats) (own : ℕ) (first before : Client C) (left : List ℕ) → 4294967295 ≤ before.requests
    → GoingOn link (span x y b c) r s own first before left → ⊥
all_served {C} link x y b c r s own first before left least g =
    never_on (spots_of link first own) (λ m. refl) 4294967294 1 [] left g.turns _ _ refl (let n = g.count in let l = least in omega arith) g.done.does

-- ---- the whole session

closes : (y z : WireView) (client : ℕ) → y.aged ≡ false → CloseStep y z client → Went y z (Only free (λ acts. acts ≡ Closed client ∷ []))
closes y z client fresh k = went_call y z (Closed client ∷ []) k.later (k.aged ∙ fresh) k.log

-- a wire went on, and nothing else
goes_wire : (w v : WireView) (l : LinkView) (s : Seats) (p : Spot) (since : ℕ) → Goes (stand w l s) (stand v l s) p since false None
goes_wire w v l s p since = goes_link w v l l s p since None (link_same l) tt

-- memory was wanting for its tree of deadlines
pub session_unkept : (w x y : WireView) (b : Lent) (s : Seats) (own : ℕ) (client : LinkView) (peer : List ℕ) (table : Table) (now : ℕ) → IsRested b
    → NowStep w x now → CloseStep x y client.number → SessionStep (span w y b b) s s own client peer table (record { ended = ended.NoMemory; begun = 0 })
session_unkept w x y b s own client peer table now rested n k =
    let p : Spot = spots client.number peer (λ number. table) own 1 in
    record {
      turns = [];
      closing = client;
      done = done_after (clock_idle w x now n)
          (done_map (done_then (done_went b (went_map (went_nothing x n.aged) (λ a v e. (refl, e)))) (done_went b (closes x y client.number n.aged k))) (λ a v e. e));
      begun = refl;
      closed = λ e. refl;
      goes = goes_link w y client client s p w.moment (Some ended.NoMemory) (link_same client) tt;
      rested = rested;
      cancelled = λ e. absurd (let bad : false ≡ true = e in cc);
    }

-- its turns were served, and its link was closed
pub session_done : {C : Type 0} (link : C → LinkView) (w x y z : WireView) (b c : Lent) (r t : Seats) (own : ℕ) (before after : Client C) (result : Ended) (now : ℕ)
    → NowStep w x now → ServedStep link (span x y b c) r t own before after result → CloseStep y z (link after.conn).number
    → SessionStep (span w z b c) r t own (link before.conn) before.peer before.table.now (record { ended = result; begun = after.requests })
session_done {C} link w x y z b c r t own before after result now n k last =
    let p : Spot = spots_of link before own 1 in
    let from : LinkView = link before.conn in
    let to : LinkView = link after.conn in
    let shut : Done (span y z c c) (Only free (λ acts. acts ≡ Closed from.number ∷ [])) =
    done_went c (subst (λ (m : ℕ). Went y z (Only free (λ acts. acts ≡ Closed m ∷ []))) k.goes.link.number (closes y z to.number k.done.doing.fresh last)) in
    let turns : Goes (stand w from r) (stand y to t) p w.moment (stops_in k.turns) (Some result) =
    goes_then (stand w from r) (stand x from r) (stand y to t) p w.moment false (stops_in k.turns) (Some result) k.done.doing.wired.later.moment (goes_wire w x from r p w.moment)
    (goes_since (stand x from r) (stand y to t) p x.moment w.moment (stops_in k.turns) (Some result) n.later.moment k.goes) in
    record {
      turns = k.turns;
      closing = to;
      done = done_after (clock_idle w x now n) (done_map (done_then k.done shut) (λ a v e. e));
      begun = k.begun;
      closed = k.closed;
      goes = subst (λ (v : Bool). Goes (stand w from r) (stand z to t) p w.moment v (Some result)) (or_false (stops_in k.turns))
          (goes_ended (stand w from r) (stand y to t) (stand z to t) p w.moment (stops_in k.turns) false (Some result) last.later.moment turns (goes_wire y z to t p w.moment));
      rested = k.rested;
      cancelled = k.cancelled;
    }
