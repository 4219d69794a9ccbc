-- The dial of a want that was granted a place.
use Rattle.std.proofs.Common.{ℕ, ◌≡◌, ◌<◌, ◌==◌, ◌&&◌, Bool, true, false, find, List, [], ◌∷◌, ◌++◌, Option, Some, None, refl, ap, sym, subst, ◌∙◌, arith, inl}
use Rattle.std.proofs.lemmas.Bool.{eq-eqb}
use Rattle.gw_wire.specs.declared.traits.Dial.TheVariants as dials
use Rattle.gw_wire.specs.declared.values.Act.TheVariants.{Dialed}
use Rattle.gw_wire.specs.declared.values.Addr.{Addr}
use Rattle.gw_wire.specs.Causes.{RoseBy}
use Rattle.gw_wire.specs.DialStep.{DialStep}
use Rattle.gw_wire.specs.Link.{LinkView}
use Rattle.gw_wire.specs.Wire.{WireView, NowStep}
use Rattle.gw_pool.specs.declared.entry.Call.TheVariants as call
use Rattle.gw_pool.specs.declared.entry.Entry.{Entry}
use Rattle.gw_pool.specs.declared.entry.Offer.{Offer}
use Rattle.gw_pool.specs.declared.entry.Reply.{Reply}
use Rattle.gw_pool.specs.declared.entry.Reply.TheVariants as reply
use Rattle.gw_pool.specs.declared.leases.DialToken.{DialToken}
use Rattle.gw_pool.specs.declared.leases.Lease.{Lease}
use Rattle.gw_pool.specs.declared.leases.Put.{Put}
use Rattle.gw_pool.specs.declared.leases.Ticket.{Ticket}
use Rattle.gw_pool.specs.declared.limits.Limits.{Limits}
use Rattle.gw_pool.specs.declared.rows.ConnRow.{ConnRow}
use Rattle.gw_pool.specs.declared.rows.WantRow.{WantRow}
use Rattle.gw_pool.specs.Gone.{link_of, number_of}
use Rattle.gw_pool.specs.History.{IsLegal, after}
use Rattle.gw_pool.specs.Keeps.{Comes, IsDialed, IsKeptByGrant, IsOut, IsServed, IsWanted, StandsDialed}
use Rattle.gw_pool.specs.Lent as pool
use Rattle.gw_pool.specs.Lent.{Lent, Meets, Calls, Looks, AskTaken, AskGranted, AskNotYet, AskFailed, DialFailedStep, StartGo, StartNot, entry_of, row_of}
use Rattle.gw_pool.specs.Machine.{Outcome, start_by, start_row, step, when}
use Rattle.gw_pool.specs.Places.{is_dialing, is_granted}
use Rattle.gw_pool.specs.Shelf.{is_among}
use Rattle.gw_pool.specs.State.{State, wants_it}
use Rattle.gw_pool.specs.Tokens.{change, ticket_of, with_dial, without_dial}
use Rattle.gw_pool.proofs.Facts.{dialed_stands, dials_stay, not_started, started_stands, wants_go_on}
use Rattle.gw_account.specs.Did.{span}
use Rattle.gw_account.specs.Work.{free}
use Rattle.gw_account.proofs.Facts.{doing_went, wired_call}
use Rattle.gw_transport.specs.declared.leasing.Leased.TheVariants as leased
use Rattle.gw_transport.specs.Leasing.{DialedStep, Holds, IsPending, LeftStep, TakenStep}
use Rattle.gw_transport.specs.Parts.{Way, Anywhere, Called, Dials, IsDialedTo, Sees, Starts}
use Rattle.gw_transport.specs.Stretch.{Part}
use Rattle.gw_transport.proofs.CallLemmas.{closes_link, holds_after, legal_looked}
use Rattle.gw_transport.proofs.EndLemmas.{legal_met, part_handed, part_now}
use Rattle.gw_transport.proofs.SeqLemmas.{sees_hands, sees_sees}
use Rattle.gw_transport.proofs.StretchLemmas.{part_by, part_called, part_looked, part_map, part_then, part_untimed}

-- ---- what the pool's call leaves

pub when_leaves : (test : Bool) (made o : Outcome) → made.gone ≡ None → when test made ≡ Some o → o.gone ≡ None
when_leaves true made o none e = (let same : made ≡ o = cc in ap (λ (x : Outcome). x.gone) (sym same) ∙ none)
when_leaves false made o none e = cc

start_says : (s : State) (row : WantRow) → (start_row s row).gone ≡ None
unfolding start_row
start_says s row = refl

start_by_leaves : (s : State) (caller : ℕ) (row : Option WantRow) (o : Outcome) → start_by s caller row ≡ Some o → o.gone ≡ None
unfolding start_by
start_by_leaves s caller None o e = cc
start_by_leaves s caller (Some row) o e = when_leaves (is_granted row.stage && (row.caller == caller)) (start_row s row) o (start_says s row) e

start_leaves : (limits : Limits) (s : State) (caller want : ℕ) (o : Outcome) → step limits s caller (call.Start want) ≡ Some o → o.gone ≡ None
unfolding step
start_leaves limits s caller want o e = start_by_leaves s caller (find (wants_it want) s.wants) o e

-- ---- from one call to the next

granted_kept : IsKeptByGrant is_granted
granted_kept e = refl

pub dialing_kept : IsKeptByGrant is_dialing
dialing_kept e = cc

-- what holds of the state behind a look, said of what the caller then knows
pub looked_at : (a b : Lent) (others : List Entry) (P : ℕ → State → Type 0) → Looks a b others → P a.number (after a.limits (a.seen ++ others))
    → P b.number (after b.limits b.seen)
looked_at a b others P l p =
    let X : List Entry → Type 0 = λ h. P a.number (after a.limits h) in
    let Y : Limits → Type 0 = λ m. P a.number (after m b.seen) in
    let Z : ℕ → Type 0 = λ n. P n (after b.limits b.seen) in
    subst Z (sym l.meets.number) (subst Y (sym l.meets.limits) (subst X (sym l.seen) p))

-- and behind a call
pub called_at : (a b : Lent) (others tail : List Entry) (P : ℕ → State → Type 0) → Meets a b others → b.seen ≡ (a.seen ++ others) ++ tail
    → P a.number (after a.limits ((a.seen ++ others) ++ tail)) → P b.number (after b.limits b.seen)
called_at a b others tail P m seen p =
    let X : List Entry → Type 0 = λ h. P a.number (after a.limits h) in
    let Y : Limits → Type 0 = λ l. P a.number (after l b.seen) in
    let Z : ℕ → Type 0 = λ n. P n (after b.limits b.seen) in
    subst Z (sym m.number) (subst Y (sym m.limits) (subst X (sym seen) p))

pub legal_here : (a b : Lent) (others tail : List Entry) → Meets a b others → b.seen ≡ (a.seen ++ others) ++ tail → IsLegal a.limits ((a.seen ++ others) ++ tail)
legal_here a b others tail m seen =
    let P : List Entry → Type 0 = λ h. IsLegal a.limits h in
    let Q : Limits → Type 0 = λ l. IsLegal l b.seen in
    subst P seen (subst Q m.limits m.legal)

-- ---- where another call served the want before the dial began

pub unstarted_served : (a b : Lent) (t : Ticket) (host : ℕ) → IsPending a t.want (Comes is_granted t.want host) → StartNot a b t
    → IsPending b t.want (IsServed t.want host)
unstarted_served a b t host p m =
    let legal = legal_looked a b m.others m.looks in
    let here = wants_go_on is_granted a.limits a.seen m.others t.want host a.number granted_kept legal m.looks.meets.foreign p.stands in
    let served = not_started a.limits (a.seen ++ m.others) t.want host a.number legal m.stands here in
    record {
      holds = holds_after a b m.others (ticket_of t.want ∷ []) m.looks.meets p.holds.running (m.leaves.out ∙ p.holds.out);
      few = m.looks.meets.few;
      fresh = m.looks.meets.fresh t.want p.fresh;
      stands = looked_at a b m.others (IsServed t.want host) m.looks served;
    }

pub rose_same : (a b : ℕ) → b ≡ a → RoseBy 0 a b
rose_same a b e = rw e (omega arith)

part_taken : {C : Type 0} (link : C → LinkView) (wire : WireView) (a b : Lent) (want : ℕ) (l : Lease C) → wire.aged ≡ false → TakenStep link a b want l
    → Part (span wire wire a b) (Sees free)
part_taken link wire a b want l fresh t = part_looked wire a b t.others fresh t.looks (rose_same a.waits b.waits t.waits)

pub other_done : {C : Type 0} (link : C → LinkView) (wire : WireView) (a b c : Lent) (host : ℕ) (backend : Addr) (t : Ticket) (l : Lease C)
    → wire.aged ≡ false → StartNot a b t → TakenStep link b c t.want l → DialedStep link (span wire wire a c) host backend t.want (leased.Lease l)
other_done link wire a b c host backend t l fresh m k = record {
  way = Way.ByOther;
  did = part_map (part_then (part_looked wire a b m.others fresh m.looks (rose_same a.waits b.waits m.leaves.waits)) (part_taken link wire b c t.want l fresh k))
      (λ x w s. (k.is_want, sees_sees free free x w s));
  left = k.leased;
}

-- ---- a dial that began

pub record Dialing (lent : Lent) (want host : ℕ) : Type 0 where
  pub holds : Holds lent (with_dial (ticket_of want) ∷ [])
  pub few : 0 < lent.limits.per_pass
  pub fresh : is_among want lent.fresh ≡ true
  pub wanted : IsWanted is_dialing want host lent.number (after lent.limits lent.seen)
  pub dial : IsDialed want host lent.number (after lent.limits lent.seen)

dial_token : (w : ℕ) → change w with_dial (ticket_of w ∷ []) ≡ with_dial (ticket_of w) ∷ []
dial_token w = rw (eq-eqb w w refl) refl

spent_dial : (w : ℕ) → change w without_dial (with_dial (ticket_of w) ∷ []) ≡ ticket_of w ∷ []
spent_dial w = rw (eq-eqb w w refl) refl

pub dial_back : (a : Lent) (d : DialToken) (w : ℕ) → d.want ≡ w → a.out ≡ with_dial (ticket_of w) ∷ [] → change d.want without_dial a.out ≡ ticket_of w ∷ []
dial_back a d w e t = ap (λ n. change n without_dial a.out) e ∙ ap (λ l. change w without_dial l) t ∙ spent_dial w

pub began : (a b : Lent) (t : Ticket) (d : DialToken) (host : ℕ) → IsPending a t.want (Comes is_granted t.want host) → StartGo a b t d → Dialing b t.want host
began a b t d host p m =
    let tail = entry_of a.number (call.Start t.want) m.outcome.reply ∷ [] in
    let here = wants_go_on is_granted a.limits a.seen m.others t.want host a.number granted_kept
    (legal_met a b m.others (call.Start t.want) m.outcome m.calls) m.calls.meets.foreign p.stands in
    let both = started_stands a.limits (a.seen ++ m.others) t.want host a.number is_granted m.outcome.reply (legal_here a b m.others tail m.calls.meets m.calls.seen) here in
    record {
      holds = holds_after a b m.others (with_dial (ticket_of t.want) ∷ []) m.calls.meets p.holds.running
          (m.leaves.out ∙ ap (λ o. change t.want with_dial o) p.holds.out ∙ dial_token t.want);
      few = m.calls.meets.few;
      fresh = m.calls.meets.fresh t.want p.fresh;
      wanted = called_at a b m.others tail (IsWanted is_dialing t.want host) m.calls.meets m.calls.seen both.0;
      dial = called_at a b m.others tail (IsDialed t.want host) m.calls.meets m.calls.seen both.1;
    }

pub part_started : (wire : WireView) (a b : Lent) (t : Ticket) (d : DialToken) → wire.aged ≡ false → StartGo a b t d → Part (span wire wire a b) (Starts t.want)
part_started wire a b t d fresh m =
    let none = start_leaves a.limits _ a.number t.want m.outcome m.calls.fits in
    part_map (part_untimed Anywhere wire a b m.others (call.Start t.want) m.outcome [] fresh refl m.calls m.leaves.waits tt (ap link_of none))
    (λ x w c. let T : Reply → Type 0 = λ r. Called Anywhere (call.Start t.want) r [] x w in subst T m.reply c)

-- ---- a dial that gave a link

part_dialed : {C : Type 0} (link : C → LinkView) (old new : WireView) (a : Lent) (host : ℕ) (backend : Addr) (conn : C) → old.aged ≡ false
    → DialStep link old new host backend (dials.Conn conn) → Part (span old new a a) (Dials host backend (link conn).number)
part_dialed link old new a host backend conn fresh d =
    let acts = Dialed host d.log.0 (link conn).number ∷ [] in
    record {
      work = record { acts = acts; made = []; bill = free };
      doing = doing_went old new a (record { acts = acts; made = []; bill = free }) (d.aged ∙ fresh) (wired_call old new acts [] d.later d.log.2) refl refl;
      asked = d.asked;
      does = (refl, refl, (d.log.0, d.log.1, refl));
    }

-- how the want stands behind it
pub data Gave (link caller want host : ℕ) (outcome : Reply) (s : State) : Type 0 where
  ItsOwn : (conn : ℕ) → outcome ≡ reply.Kept conn → (row : ConnRow) → row.conn ≡ conn → row.host ≡ host → row.link ≡ link → row.reused ≡ false
      → IsOut want caller row s → Gave link caller want host outcome s
  Another : (conn : ℕ) → (o : Offer) → outcome ≡ reply.Offered conn o → IsServed want host caller s → Gave link caller want host outcome s

gave_of : (link caller want host : ℕ) (outcome : Reply) (s : State) → StandsDialed want host caller link outcome s → Gave link caller want host outcome s
gave_of link caller want host (reply.Kept conn) s k = ItsOwn conn refl k.0 k.1 k.2 k.3 k.4 k.5
gave_of link caller want host (reply.Offered conn o) s k = Another conn o refl k
gave_of link caller want host (reply.Expired n) s k = absurd k
gave_of link caller want host (reply.Given w c) s k = absurd k
gave_of link caller want host (reply.Granted w) s k = absurd k
gave_of link caller want host (reply.Waiting w) s k = absurd k
gave_of link caller want host reply.Go s k = absurd k
gave_of link caller want host (reply.Ended next) s k = absurd k
gave_of link caller want host (reply.Late next) s k = absurd k
gave_of link caller want host (reply.Gone next) s k = absurd k
gave_of link caller want host (reply.Returned c o) s k = absurd k
gave_of link caller want host (reply.Put o) s k = absurd k
gave_of link caller want host (reply.Dropped next) s k = absurd k
gave_of link caller want host (reply.Taken c) s k = absurd k

gave_served : (link caller want host : ℕ) (outcome : Reply) (s : State) → Gave link caller want host outcome s → IsServed want host caller s
gave_served link caller want host outcome s (ItsOwn conn e row is_conn is_host is_link is_new out) = record { row = row; is_host = is_host; out = out }
gave_served link caller want host outcome s (Another conn o e k) = k

gave : {C : Type 0} (link : C → LinkView) (b c : Lent) (d : DialToken) (number now want host : ℕ) (put : Put C) → d.want ≡ want → Dialing b want host
    → (m : pool.DialedStep link b c d number now put) → Gave number c.number want host m.outcome.reply (after c.limits c.seen)
gave link b c d number now want host put e g m =
    let P : ℕ → Type 0 = λ n. Calls b c m.others (call.Dialed n number now) m.outcome in
    let calls = subst P e m.calls in
    let tail = entry_of b.number (call.Dialed want number now) m.outcome.reply ∷ [] in
    let legal = legal_met b c m.others (call.Dialed want number now) m.outcome calls in
    let wanted = wants_go_on is_dialing b.limits b.seen m.others want host b.number dialing_kept legal calls.meets.foreign (inl g.wanted) in
    let dial = dials_stay b.limits b.seen m.others want host b.number legal calls.meets.foreign g.dial in
    let stands = dialed_stands b.limits (b.seen ++ m.others) want host b.number number now is_dialing m.outcome.reply (legal_here b c m.others tail calls.meets calls.seen) wanted dial in
    gave_of number c.number want host m.outcome.reply (after c.limits c.seen)
    (called_at b c m.others tail (λ k s. StandsDialed want host k number m.outcome.reply s) calls.meets calls.seen stands)

gave_pending : {C : Type 0} (link : C → LinkView) (b c : Lent) (d : DialToken) (number now want host : ℕ) (put : Put C) → d.want ≡ want → Dialing b want host
    → pool.DialedStep link b c d number now put → IsPending c want (IsServed want host)
gave_pending link b c d number now want host put e g m = record {
  holds = holds_after b c m.others (ticket_of want ∷ []) m.calls.meets g.holds.running (m.leaves.out ∙ dial_back b d want e g.holds.out);
  few = m.calls.meets.few;
  fresh = m.calls.meets.fresh want g.fresh;
  stands = gave_served number c.number want host m.outcome.reply (after c.limits c.seen) (gave link b c d number now want host put e g m);
}

pub dialed_served : {C : Type 0} (link : C → LinkView) (a b c : Lent) (t : Ticket) (d : DialToken) (number now host : ℕ) (put : Put C)
    → IsPending a t.want (Comes is_granted t.want host) → StartGo a b t d → pool.DialedStep link b c d number now put → IsPending c t.want (IsServed t.want host)
dialed_served link a b c t d number now host put p s m = gave_pending link b c d number now t.want host put s.want (began a b t d host p s) m

-- the connection that was taken is the one that the dial gave, where that serves the want
taken_to : {C : Type 0} (link : C → LinkView) (c e : Lent) (want host number : ℕ) (outcome : Reply) (l : Lease C) (caller : ℕ) → c.number ≡ caller
    → Gave number c.number want host outcome (after c.limits c.seen) → TakenStep link c e want l → IsDialedTo number outcome (row_of caller l)
taken_to link c e want host number outcome l caller same (ItsOwn conn is row is_conn is_host is_link is_new out) k =
    let eq : row_of caller l ≡ row = ap (λ n. row_of n l) (sym same) ∙ k.row row out in
    let T : Reply → Type 0 = λ r. IsDialedTo number r (row_of caller l) in
    subst T (sym is) (
      ap (λ (r : ConnRow). r.conn) eq ∙ is_conn,
      ap (λ (r : ConnRow). r.link) eq ∙ is_link,
      ap (λ (r : ConnRow). r.reused) eq ∙ is_new,
    )
taken_to link c e want host number outcome l caller same (Another conn o is served) k =
    let T : Reply → Type 0 = λ r. IsDialedTo number r (row_of caller l) in subst T (sym is) tt

pub dial_done : {C : Type 0} (link : C → LinkView) (w x y z : WireView) (a b c e : Lent) (host : ℕ) (backend : Addr) (t : Ticket) (d : DialToken) (conn : C) (now : ℕ) (put : Put C) (l : Lease C)
    → w.aged ≡ false → IsPending a t.want (Comes is_granted t.want host) → StartGo a b t d → DialStep link w x host backend (dials.Conn conn) → NowStep x y now
    → pool.DialedStep link b c d (link conn).number now put → LeftStep link y z put.close → TakenStep link c e t.want l
    → DialedStep link (span w z a e) host backend t.want (leased.Lease l)
dial_done link w x y z a b c e host backend t d conn now put l fresh p s dialed n m left k =
    let number = (link conn).number in
    let P : ℕ → Type 0 = λ i. Calls b c m.others (call.Dialed i number now) m.outcome in
    let calls = subst P s.want m.calls in
    let outcome = m.outcome.reply in
    let entry = part_called Anywhere y b c m.others (call.Dialed t.want number now) m.outcome (number_of link put.close) n.aged (ap (λ i. i ∷ []) (sym n.given))
    calls m.leaves.waits tt (closes_link link put.close m.outcome.gone m.close) in
    let handed = part_handed link y z b c (call.Dialed t.want number now) outcome put.close entry left in
    let told = part_map (part_then (part_now x y b now n) handed) (sees_hands Anywhere (call.Dialed t.want number now) outcome) in
    let taken = part_taken link z c e t.want l left.went.fresh k in
    let all = part_then (part_started w a b t d fresh s) (part_then (part_dialed link w x b host backend conn fresh dialed) (part_then told taken)) in
    let is = gave link b c d number now t.want host put s.want (began a b t d host p s) m in
    let same : c.number ≡ a.number = m.calls.meets.number ∙ s.calls.meets.number in
    let to = taken_to link c e t.want host number outcome l a.number same is k in
    record {
      way = Way.ByDial number;
      did = part_by all (k.is_want, (now, outcome, to, all.does));
      left = k.leased;
    }
