-- A request that is passed on, from its routing to its answer, over plain variables.
use Rattle.std.proofs.Common.{ℕ, ◌≡◌, ◌≤◌, ◌<◌, ◌+◌, Bool, ◌||◌, true, false, not, List, [], ◌∷◌, ◌++◌, length, take, Option, Some, None, refl, ap, sym, subst, ◌∙◌, arith}
use Rattle.std.specs.List.{slice_index_or}
use Rattle.std.proofs.lemmas.List.Elements.{All-get_or}
use Rattle.std.proofs.lemmas.Option.{slice_get_read}
use Rattle.gw_wire.specs.Causes.{Rose}
use Rattle.gw_wire.specs.Link.{LinkView, LinkLater}
use Rattle.gw_wire.specs.Wire.{WireView, NowStep}
use Rattle.gw_wire.proofs.Facts.{link_same}
use Rattle.gw_context.specs.declared.parts.Node.{Node}
use Rattle.gw_context.specs.Node.{node_at, root}
use Rattle.gw_context.specs.Tree.{Advanced, TreeView, added, timed_child_of, truncated}
use Rattle.gw_head.specs.declared.framing.Framing.{Framing}
use Rattle.gw_head.specs.declared.framing.Framing.TheVariants.{None as NoBody, Length, Chunked, ToEnd}
use Rattle.gw_head.specs.declared.request.RequestHead.{RequestHead}
use Rattle.gw_body.specs.declared.place.Place.{Place}
use Rattle.gw_body.specs.Places.{begins, is_done}
use Rattle.gw_pool.specs.Lent.{Lent}
use Rattle.gw_proxy.specs.OutRequest.{out_head_of}
use Rattle.gw_account.specs.Did.{Went, span}
use Rattle.gw_account.specs.Work.{Bill, Work, At}
use Rattle.gw_account.proofs.Facts.{doing_billed}
use Rattle.gw_stream.specs.Guard.{IsDue}
use Rattle.gw_transport.specs.declared.attempts.Attempted.{Attempted}
use Rattle.gw_transport.specs.declared.attempts.Attempted.TheVariants as attempted
use Rattle.gw_transport.specs.declared.buffers.Buffers.{Buffers}
use Rattle.gw_transport.specs.declared.replying.Begun.{Begun}
use Rattle.gw_transport.specs.declared.replying.End.{End}
use Rattle.gw_transport.specs.declared.replying.End.TheVariants as end
use Rattle.gw_transport.specs.Leasing.{IsRested, Lateness}
use Rattle.gw_transport.specs.Watch.{FirstDeadlineIsLeast, times_found}
use Rattle.gw_routes.specs.declared.table.Action.{Action}
use Rattle.gw_routes.specs.declared.table.Action.TheVariants.{Backend}
use Rattle.gw_routes.specs.declared.table.Route.{Route}
use Rattle.gw_routes.specs.declared.table.Table.{Table}
use Rattle.gw_routes.specs.Files.{AreNumbered}
use Rattle.gw_routes.specs.Routes.{IsWithin}
use Rattle.gw_session.specs.declared.client.Client.{Client}
use Rattle.gw_session.specs.declared.end.Ended.{Ended}
use Rattle.gw_session.specs.declared.end.Ended.TheVariants as ended
use Rattle.gw_session.specs.declared.errand.Errand.{Errand}
use Rattle.gw_session.specs.AnswerSteps.{IsErrand, own_end}
use Rattle.gw_session.specs.BodySteps.{IsCounted}
use Rattle.gw_session.specs.Ending.{over_end}
use Rattle.gw_session.specs.Passing.{Answer, Answers, Asking, Halt, Halts, HearsBody, Outcome, Owes, Passage, PassesKept, PassesOn, Trace, TripsKept, TripsOn, answer_next, asking, expects, halt_next, is_due_answer, is_due_outcome, is_kept, is_late, out_of, reason_of}
use Rattle.gw_session.specs.ReplySteps.{AnsweredStep}
use Rattle.gw_session.specs.Routing.{IsPassed}
use Rattle.gw_session.specs.Seats.{Seats}
use Rattle.gw_session.specs.Stand.{Done, EndCause, Goes, IsBare, IsSameClient, Spot, Stand, line_of, stand}
use Rattle.gw_session.specs.TripSteps.{IsTimed, IsTimedClient, KeptTrip, MadeStep, OnTrip, asking_of, deadline_of, plain, trace_of, trip_next, trip_view}
use Rattle.gw_session.specs.Turn.{Deed, deed_stops, is_cancelled_answer, is_cancelled_outcome}
use Rattle.gw_session.specs.TurnSteps.{DeedStep, IsServedClient}
use Rattle.gw_session.proofs.DoneLemmas.{done_after, done_map, done_then, done_went, rose_before, rose_behind}
use Rattle.gw_session.proofs.SayLemmas.{clock_idle}
use Rattle.gw_session.proofs.SeatLemmas.{goes_ended, goes_link, goes_since, goes_then}
use Rattle.gw_session.proofs.TreeLemmas.{bare_told}

-- ---- one step of a client after another

pub timed_then : {C : Type 0} (old mid new : Client C) (node m n : ℕ) → IsTimedClient old mid node m → IsTimedClient mid new node n → IsTimedClient old new node n
timed_then {C} old mid new node m n a b = record {
  peer = b.peer ∙ a.peer;
  table = b.table ∙ a.table;
  requests = b.requests ∙ a.requests;
  timed = b.timed;
  deadline = b.deadline ∙ a.deadline;
  told = (let c = a.told in let d = b.told in omega arith);
  last = b.last;
}

pub timed_moved : {C : Type 0} (old mid new : Client C) (node n : ℕ) → IsSameClient old mid → IsTimedClient mid new node n → IsTimedClient old new node n
timed_moved {C} old mid new node n a b = record {
  peer = b.peer ∙ a.peer;
  table = b.table ∙ a.table;
  requests = b.requests ∙ a.requests;
  timed = b.timed;
  deadline = b.deadline ∙ ap (λ t. deadline_of t node) a.tree;
  told = (let c = ap (λ t. t.last) a.tree in let d = b.told in omega arith);
  last = b.last;
}

-- ---- how a session goes on behind a trip and its answer

on_goes : (x y z : Stand) (p : Spot) (since : ℕ) (first next : Option Ended) → y.wire.moment ≤ z.wire.moment → Goes x y p since false first → Goes y z p since false next → Goes x z p since false next
on_goes x y z p since first next le a b =
    let open_end : Goes x y p since false None = record { link = a.link; seats = a.seats; held = a.held; cause = tt } in
    goes_then x y z p since false false next le open_end b

-- it ended in the trip
quiet_goes : (x y z : Stand) (p : Spot) (since : ℕ) (e : End) (head : RequestHead) (unread : Bool) (answer : Answer) (result : Option Ended) → y.wire.moment ≤ z.wire.moment
    → Goes x y p since false (Some (over_end e)) → Goes y z p since false None → answer ≡ Answer.Silent → result ≡ answer_next (attempted.Over e) (reason_of p head unread) answer
    → Goes x z p since false result
quiet_goes x y z p since e head unread answer result le a b silent next =
    subst (λ (r : Option Ended). Goes x z p since false r) (sym (next ∙ ap (λ (n : Answer). answer_next (attempted.Over e) (reason_of p head unread) n) silent))
    (goes_ended x y z p since false false (Some (over_end e)) le a b)

passage_goes : (x y z : Stand) (p : Spot) (since : ℕ) (o : Outcome) (head : RequestHead) (unread : Bool) (trace : Trace) (answer : Answer) (a : At) (w : Work) (result : Option Ended)
    → y.wire.moment ≤ z.wire.moment → Goes x y p since false (trip_next o) → Goes y z p since false (own_end o result) → Answers o p head unread trace answer a w
    → result ≡ answer_next o (reason_of p head unread) answer → Goes x z p since false result
passage_goes x y z p since (attempted.Reply l begun) head unread trace answer a w result le f g does next = on_goes x y z p since None result le f g
passage_goes x y z p since (attempted.Failed why) head unread trace answer a w result le f g does next = on_goes x y z p since None result le f g
passage_goes x y z p since attempted.Unreachable head unread trace answer a w result le f g does next = on_goes x y z p since None result le f g
passage_goes x y z p since attempted.Full head unread trace answer a w result le f g does next = on_goes x y z p since None result le f g
passage_goes x y z p since (attempted.Over (end.Body error)) head unread trace answer a w result le f g does next =
    on_goes x y z p since (Some (over_end (end.Body error))) result le f g
passage_goes x y z p since (attempted.Over end.ClientEnd) head unread trace answer a w result le f g does next =
    quiet_goes x y z p since end.ClientEnd head unread answer result le f g does.0 next
passage_goes x y z p since (attempted.Over end.ClientFailed) head unread trace answer a w result le f g does next =
    quiet_goes x y z p since end.ClientFailed head unread answer result le f g does.0 next
passage_goes x y z p since (attempted.Over end.ClientTimeout) head unread trace answer a w result le f g does next =
    quiet_goes x y z p since end.ClientTimeout head unread answer result le f g does.0 next
passage_goes x y z p since (attempted.Over end.NoMemory) head unread trace answer a w result le f g does next =
    quiet_goes x y z p since end.NoMemory head unread answer result le f g does.0 next

-- ---- what an answer costs that is late

by_either : (a b : Bool) (P : Type 0) → (a ≡ true → P) → (b ≡ true → P) → (a || b) ≡ true → P
by_either true b P f g e = f refl
by_either false b P f g e = g e

owed : (x y : WireView) (a b : Lent) (late : Bool) (timeout : ℕ) (P : At → Work → Type 0) → (late ≡ true → x.moment + timeout ≤ y.moment) → Done (span x y a b) P
    → Done (span x y a b) (Owes late timeout P)
owed x y a b false timeout P le d = done_map d (λ t w k. k)
owed x y a b true timeout P le d =
    let bill : Bill = record d.work.bill { millis = timeout } in
    let w = d.doing.wired in
    record {
      work = record d.work { bill = bill };
      doing = doing_billed x y a b d.work bill d.doing w.dials (record { millis = le refl; ticks = w.ticks; rests = w.rests; waits = d.doing.pooled.waits; said = w.said });
      does = (d.work, d.does, refl);
    }

due_at : (deadline : Option ℕ) (at moment later : ℕ) → deadline ≡ Some at → moment ≤ later → IsDue deadline moment → at ≤ later
due_at deadline at moment later is le due =
    let come : at ≤ moment = subst (λ (d : Option ℕ). IsDue d moment) is due in omega (arith, come, le)

late_paid : (o : Outcome) (late : Lateness) (answer : Answer) (deadline : Option ℕ) (at y z : ℕ) → deadline ≡ Some at → y ≤ z → (is_due_outcome o late ≡ true → IsDue deadline y)
    → (is_due_answer answer ≡ true → IsDue deadline z) → (is_due_outcome o late || is_due_answer answer) ≡ true → at ≤ z
late_paid o late answer deadline at y z is le f g e =
    by_either (is_due_outcome o late) (is_due_answer answer) (at ≤ z) (λ k. due_at deadline at y z is le (f k)) (λ k. due_at deadline at z z is (omega arith) (g k)) e

found_in : (o : Outcome) (answer : Answer) (a b c : ℕ) → a ≤ b → b ≤ c → (is_cancelled_outcome o ≡ true → Rose a b) → (is_cancelled_answer answer ≡ true → Rose b c)
    → (is_cancelled_outcome o || is_cancelled_answer answer) ≡ true → Rose a c
found_in o answer a b c le more f g e =
    by_either (is_cancelled_outcome o) (is_cancelled_answer answer) (Rose a c) (λ k. rose_behind a b c more (f k)) (λ k. rose_before a b c le (g k)) e

-- ---- a request whose body is sent as it comes

pub passed_on : {C : Type 0} (link : C → LinkView) (x y z : WireView) (from mid to : LinkView) (s t u : Seats) (b c d : Lent) (p : Spot) (errand : Errand) (since : ℕ) (deadline : Option ℕ)
    (buffers : Buffers) (told : ℕ) (kept left : List ℕ) (trip : Attempted C Begun End) (result : Option Ended)
    → IsErrand p errand x.moment deadline false → left ≡ buffers.client.inbox
    → MadeStep link (span x y b c) (stand x from s) (stand y mid t) p since deadline
    (OnTrip (asking_of errand.order (line_of p) errand.upload.expect kept) errand.order told buffers) trip
    → AnsweredStep (span y z c d) (stand y mid t) (stand z to u) p deadline (Answers (plain trip) p errand.head.now (not (is_done buffers.client.body)) (trace_of told buffers))
    (answer_next (plain trip) (reason_of p errand.head.now (not (is_done buffers.client.body)))) result
    → Goes (stand y mid t) (stand z to u) p since false (own_end (plain trip) result)
    → DeedStep (span x z b d) (stand x from s) (stand z to u) p since errand.head.now kept left result
passed_on {C} link x y z from mid to s t u b c d p errand since deadline buffers told kept left trip result e same m k goes =
    let head = errand.head.now in
    let unread = not (is_done buffers.client.body) in
    let o = plain trip in
    let trace = trace_of told buffers in
    let later = k.done.doing.wired.later.moment in
    let g : Passage = record { base = e.base; timeout = e.timeout; buffer = e.buffer; trip = trip_view errand.order o m.late; unread = unread; answer = k.answer } in
    let asked : asking_of errand.order (line_of p) errand.upload.expect kept ≡ asking p head g kept = λ i. record { out = e.out i; line = line_of p; expect = (e.upload i).expect; kept = kept } in
    let tripped : Done (span x y b c) (TripsOn (asking p head g kept) left g.trip trace) =
    done_map m.done (λ a w q. subst (λ (l : List ℕ). TripsOn (asking p head g kept) l g.trip trace a w) (sym same)
    (subst (λ (n : Asking). TripsOn n buffers.client.inbox g.trip trace a w) asked q)) in
    let passed : Done (span x z b d) (PassesOn p head kept left g) = done_map (done_then tripped k.done) (λ a w q. (e.kept_is, (trace, refl, q))) in
    record {
      deed = Deed.PassedOn e.number g;
      done = done_map (owed x z b d (is_late g) e.timeout (PassesOn p head kept left g) (late_paid o m.late k.answer deadline (x.moment + e.timeout) y.moment z.moment e.deadline_is later m.due k.due) passed)
          (λ a w q. (e.passed, e.leads, q));
      next_is = k.next_is;
      goes = passage_goes (stand x from s) (stand y mid t) (stand z to u) p since o head unread trace k.answer _ _ result later m.goes goes k.done.does k.next_is;
      rested = k.rested;
      cancelled = found_in o k.answer (times_found p.own s.words.view.ended) (times_found p.own t.words.view.ended) (times_found p.own u.words.view.ended) m.goes.seats.found goes.seats.found m.cancelled k.cancelled;
    }

-- ---- a request whose body is read whole first

pub counted : (framing : Framing) (buffer : ℕ) (place : Place) → place ≡ begins framing → is_kept framing buffer ≡ true → IsCounted place
counted NoBody buffer place is k = (0, is)
counted (Length n) buffer place is k = (n, is)
counted Chunked buffer place is k = absurd (let bad : false ≡ true = k in cc)
counted ToEnd buffer place is k = absurd (let bad : false ≡ true = k in cc)

-- its body didn't come whole
pub halted : (x y : WireView) (from to : LinkView) (s : Seats) (b : Lent) (p : Spot) (errand : Errand) (since moment : ℕ) (deadline : Option ℕ) (kept left : List ℕ) (halt : Halt)
    (result : Option Ended) → IsErrand p errand moment deadline true → IsRested b → Went x y (Halts (line_of p) errand.head.now kept halt) → LinkLater from to
    → EndCause from to false (halt_next halt) → result ≡ halt_next halt
    → DeedStep (span x y b b) (stand x from s) (stand y to s) p since errand.head.now kept left result
halted x y from to s b p errand since moment deadline kept left halt result e rested went link cause next = record {
  deed = Deed.Halted e.number halt;
  done = done_map (done_went b went) (λ a w k. (e.passed, (_, e.leads, e.kept_is), k));
  next_is = next;
  goes = subst (λ (o : Option Ended). Goes (stand x from s) (stand y to s) p since false o) (sym next) (goes_link x y from to s p since (halt_next halt) link cause);
  rested = rested;
  cancelled = λ k. absurd (let bad : false ≡ true = k in cc);
}

pub passed_kept : {C : Type 0} (link : C → LinkView) (v x y z : WireView) (from near mid to : LinkView) (s t u : Seats) (b c d : Lent) (p q : Spot) (errand : Errand) (since : ℕ)
    (deadline : Option ℕ) (buffers : Buffers) (told : ℕ) (kept left behind body : List ℕ) (unread : Bool) (trip : Attempted C Begun End) (result : Option Ended)
    → IsErrand p errand v.moment deadline true → left ≡ behind → Went v x (HearsBody p.client errand.head.now kept body behind) → LinkLater from near
    → q ≡ p → MadeStep link (span x y b c) (stand x near s) (stand y mid t) q since deadline (KeptTrip errand.order body buffers) trip
    → told ≡ 0 → unread ≡ false
    → AnsweredStep (span y z c d) (stand y mid t) (stand z to u) p deadline (Answers (plain trip) p errand.head.now unread (trace_of told buffers))
    (answer_next (plain trip) (reason_of p errand.head.now unread)) result
    → Goes (stand y mid t) (stand z to u) p since false (own_end (plain trip) result)
    → DeedStep (span v z b d) (stand v from s) (stand z to u) p since errand.head.now kept left result
passed_kept {C} link v x y z from near mid to s t u b c d p q errand since deadline buffers told kept left behind body unread trip result e same heard near_link spot made untold read k goes =
    let head = errand.head.now in
    let m = subst (λ (r : Spot). MadeStep link (span x y b c) (stand x near s) (stand y mid t) r since deadline (KeptTrip errand.order body buffers) trip) spot made in
    let hears : Went v x (HearsBody p.client head kept body left) = subst (λ (l : List ℕ). Went v x (HearsBody p.client head kept body l)) (sym same) heard in
    let o = plain trip in
    let trace = trace_of 0 buffers in
    let later = k.done.doing.wired.later.moment in
    let g : Passage = record { base = e.base; timeout = e.timeout; buffer = e.buffer; trip = trip_view errand.order o m.late; unread = unread; answer = k.answer } in
    let answered : Done (span y z c d) (Answers o p head unread trace k.answer) = subst (λ (n : ℕ). Done (span y z c d) (Answers o p head unread (trace_of n buffers) k.answer)) untold k.done in
    let tripped : Done (span x y b c) (TripsKept (out_of p head g) body g.trip trace) =
    done_map m.done (λ a w q. subst (λ n. TripsKept n body g.trip trace a w) e.out q) in
    let passed : Done (span v z b d) (PassesKept p head kept left g) =
    done_map (done_then (done_went b hears) (done_then tripped answered)) (λ a w q. (e.kept_is, read, (body, trace, refl, q))) in
    let near_goes : Goes (stand v from s) (stand x near s) p since false None = goes_link v x from near s p since None near_link tt in
    let trip_goes = goes_then (stand v from s) (stand x near s) (stand y mid t) p since false false (trip_next o) m.done.doing.wired.later.moment near_goes m.goes in
    record {
      deed = Deed.PassedKept e.number g;
      done = done_map (owed v z b d (is_late g) e.timeout (PassesKept p head kept left g) (late_paid o m.late k.answer deadline (v.moment + e.timeout) y.moment z.moment e.deadline_is later m.due k.due) passed)
          (λ a w q. (e.passed, e.leads, q));
      next_is = k.next_is;
      goes = passage_goes (stand v from s) (stand y mid t) (stand z to u) p since o head unread trace k.answer _ _ result later trip_goes goes answered.does k.next_is;
      rested = k.rested;
      cancelled = found_in o k.answer (times_found p.own s.words.view.ended) (times_found p.own t.words.view.ended) (times_found p.own u.words.view.ended) m.goes.seats.found goes.seats.found m.cancelled k.cancelled;
    }

-- ---- the tree of deadlines

pub advanced_last : (old new : TreeView) (moment now : ℕ) → IsBare old moment → moment ≤ now → Advanced now old new → new.last ≡ now
advanced_last old new moment now bare le a = (let b = bare.last in let c = a.last in omega (arith, b, c, le))

-- a node that is made below the root alone
node_one : (tree : TreeView) (at : ℕ) → tree.nodes ≡ root ∷ [] → FirstDeadlineIsLeast → IsTimed (added tree (timed_child_of tree 0 at)) 1
node_one tree at bare least =
    let child = timed_child_of tree 0 at in
    let k = least tree at bare in
    record {
      inside = subst (λ (l : List Node). 1 < length (l ++ child ∷ [])) (sym bare) (omega arith);
      running = k.0;
      least = k.1;
      first = subst (λ (l : List Node). node_at (l ++ child ∷ []) 0 ≡ root) (sym bare) refl;
    }

pub timed_node : (tree new : TreeView) (number at : ℕ) → tree.nodes ≡ root ∷ [] → FirstDeadlineIsLeast → number ≡ length tree.nodes → new ≡ added tree (timed_child_of tree 0 at)
    → IsTimed new number
timed_node tree new number at bare least number_is new_is =
    let one : number ≡ 1 = number_is ∙ ap (λ (l : List Node). length l) bare in
    subst (λ (n : ℕ). IsTimed new n) (sym one) (subst (λ (t : TreeView). IsTimed t 1) (sym new_is) (node_one tree at bare least))

due_one : (last at : ℕ) (nodes : List Node) → nodes ≡ root ∷ []
    → deadline_of (added (record { last = last; nodes = nodes }) (timed_child_of (record { last = last; nodes = nodes }) 0 at)) 1 ≡ Some at
due_one last at nodes bare =
    let tree : List Node → TreeView = λ l. record { last = last; nodes = l } in
    subst (λ (l : List Node). deadline_of (added (tree l) (timed_child_of (tree l) 0 at)) 1 ≡ Some at) (sym bare) refl

pub timed_due : (tree new : TreeView) (number at : ℕ) → tree.nodes ≡ root ∷ [] → number ≡ length tree.nodes → new ≡ added tree (timed_child_of tree 0 at)
    → deadline_of new number ≡ Some at
timed_due tree new number at bare number_is new_is =
    let one : number ≡ 1 = number_is ∙ ap (λ (l : List Node). length l) bare in
    ap (λ (n : ℕ). deadline_of new n) one ∙ ap (λ (t : TreeView). deadline_of t 1) new_is ∙ due_one tree.last at tree.nodes bare

take_one : (nodes : List Node) (n : ℕ) → n < length nodes → node_at nodes 0 ≡ root → take 1 nodes ≡ root ∷ []
take_one [] n lt first = absurd (let bad : n < 0 = lt in omega (arith, bad))
take_one (x ∷ rest) n lt first = ap (λ (m : Node). m ∷ []) first

-- ---- a client behind a request

pub served_told : {C : Type 0} (old new : Client C) (tree : TreeView) (before now moment : ℕ) → IsBare old.tree before → before ≤ now → now ≤ moment → Advanced now old.tree tree
    → new.peer ≡ old.peer → new.table ≡ old.table → new.requests ≡ old.requests → new.tree ≡ tree → IsServedClient old new moment
served_told {C} old new tree before now moment bare le later a peer table requests is =
    let k = bare_told old.tree tree before now bare le a in
    let last : new.tree.last ≡ now = ap (λ (t : TreeView). t.last) is ∙ advanced_last old.tree tree before now bare le a in
    record {
      peer = peer;
      table = table;
      requests = requests;
      bare = record { nodes = ap (λ (t : TreeView). t.nodes) is ∙ k.nodes; last = omega (arith, last, later) };
      told = (let b = bare.last in omega (arith, b, last, le));
    }

pub served_cut : {C : Type 0} (old mid near new : Client C) (tree : TreeView) (node before now moment : ℕ) → IsBare old.tree before → before ≤ now → Advanced now old.tree tree
    → mid.peer ≡ old.peer → mid.table ≡ old.table → mid.requests ≡ old.requests → mid.tree.last ≡ tree.last → IsTimedClient mid near node moment
    → new.peer ≡ near.peer → new.table ≡ near.table → new.requests ≡ near.requests → new.tree ≡ truncated 1 near.tree → IsServedClient old new moment
served_cut {C} old mid near new tree node before now moment bare le a peer table requests last k peer_is table_is requests_is is =
    let nodes : new.tree.nodes ≡ root ∷ [] = ap (λ (t : TreeView). t.nodes) is ∙ take_one near.tree.nodes node k.timed.inside k.timed.first in
    let end : new.tree.last ≡ near.tree.last = ap (λ (t : TreeView). t.last) is in
    let first : tree.last ≡ now = advanced_last old.tree tree before now bare le a in
    record {
      peer = peer_is ∙ k.peer ∙ peer;
      table = table_is ∙ k.table ∙ table;
      requests = requests_is ∙ k.requests ∙ requests;
      bare = record { nodes = nodes; last = (let b = k.last in omega (arith, b, end)) };
      told = (let b = bare.last in let c = k.told in omega (arith, b, c, end, first, last, le));
    }

-- ---- a request behind the reading of the clock

-- memory was wanting before anything was done
pub undecided : (x y : WireView) (from : LinkView) (s : Seats) (b : Lent) (p : Spot) (since now : ℕ) (head : RequestHead) (kept left : List ℕ) → NowStep x y now → IsRested b
    → DeedStep (span x y b b) (stand x from s) (stand y from s) p since head kept left (Some ended.NoMemory)
undecided x y from s b p since now head kept left n rested = record {
  deed = Deed.Undecided;
  done = done_map (done_went b (clock_idle x y now n)) (λ a w k. k);
  next_is = refl;
  goes = goes_link x y from from s p since (Some ended.NoMemory) (link_same from) tt;
  rested = rested;
  cancelled = λ k. absurd (let bad : false ≡ true = k in cc);
}

pub deed_after : (x y z : WireView) (from to : LinkView) (s t : Seats) (b d : Lent) (p : Spot) (since early now : ℕ) (head : RequestHead) (kept left : List ℕ) (result : Option Ended)
    → NowStep x y now → early ≤ since → DeedStep (span y z b d) (stand y from s) (stand z to t) p since head kept left result
    → DeedStep (span x z b d) (stand x from s) (stand z to t) p early head kept left result
deed_after x y z from to s t b d p since early now head kept left result n le k =
    let goes : Goes (stand x from s) (stand z to t) p since (deed_stops k.deed) result = record { link = k.goes.link; seats = k.goes.seats; held = k.goes.held; cause = k.goes.cause } in
    record {
      deed = k.deed;
      done = done_after (clock_idle x y now n) k.done;
      next_is = k.next_is;
      goes = goes_since (stand x from s) (stand z to t) p since early (deed_stops k.deed) result le goes;
      rested = k.rested;
      cancelled = k.cancelled;
    }

-- ---- the route

host_within : (table : Table) (number : ℕ) (route : Route) (host : ℕ) (base : List ℕ) → AreNumbered table → number < length table.routes.items
    → route ≡ slice_index_or table.routes.items number route → route.action ≡ Backend host base → host < length table.hosts.items
host_within table number route host base numbered within there action =
    let IsIn : Route → Type 0 = λ r. IsWithin (length table.hosts.items) r.action in
    let one : IsIn route = subst IsIn (sym there) (All-get_or IsIn table.routes.items number route within numbered.hosts) in
    subst (λ (a : Action). IsWithin (length table.hosts.items) a) action one

pub errand_made : (p : Spot) (errand : Errand) (route : Route) (number moment now : ℕ) (base slice : List ℕ) (deadline : Option ℕ) (kept : Bool)
    → IsPassed p.table errand.head.now number → AreNumbered p.table → route ≡ slice_index_or p.table.routes.items number route → route.action ≡ Backend errand.order.host base
    → errand.order.addr.now ≡ slice_index_or p.table.hosts.items errand.order.host errand.order.addr.now → slice ≡ base → errand.order.out.now ≡ out_head_of errand.head.now slice errand.order.addr.now p.peer
    → errand.upload ≡ record { expect = expects errand.head.now; continued = 0; client_ms = p.table.client_ms } → moment ≡ now → deadline ≡ Some (now + route.timeout)
    → kept ≡ is_kept errand.head.now.framing route.buffer → IsErrand p errand moment deadline kept
errand_made p errand route number moment now base slice deadline kept passed numbered there action host text out upload at due is = record {
  number = number;
  base = base;
  timeout = route.timeout;
  buffer = route.buffer;
  passed = passed;
  leads = record {
    route = route;
    route_is = slice_get_read p.table.routes.items (length p.table.routes.items) number route refl passed.passes.within there;
    action = action;
    host_is = slice_get_read p.table.hosts.items (length p.table.hosts.items) errand.order.host errand.order.addr.now refl
        (host_within p.table number route errand.order.host base numbered passed.passes.within there action) host;
    timeout_is = refl;
    buffer_is = refl;
  };
  out = out ∙ ap (λ (l : List ℕ). out_head_of errand.head.now l errand.order.addr.now p.peer) text;
  upload = upload;
  deadline_is = due ∙ ap (λ (n : ℕ). Some (n + route.timeout)) (sym at);
  kept_is = sym is;
}

pub clock_from : (x y : WireView) (now : ℕ) → NowStep x y now → x.moment ≤ now
clock_from x y now n = (let a = n.later.moment in let b = n.given in omega (arith, a, b))

pub clock_to : (x y : WireView) (now : ℕ) → NowStep x y now → now ≤ y.moment
clock_to x y now n = (let b = n.given in omega (arith, b))

pub told_by : (old tree new : TreeView) (now : ℕ) (child : Node) → Advanced now old tree → new ≡ added tree child → old.last ≤ new.last
told_by old tree new now child a is = (let b = a.last in let c = ap (λ (t : TreeView). t.last) is in omega (arith, b, c))
