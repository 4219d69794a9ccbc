-- The dial of a want that was granted a place, where it failed.
use Rattle.std.proofs.Common.{ℕ, ◌≡◌, ◌==◌, false, find, List, [], ◌∷◌, ◌++◌, Option, Some, None, refl, ap, sym, subst, ◌∙◌, inl}
use Rattle.gw_wire.specs.declared.traits.Dial.TheVariants as dials
use Rattle.gw_wire.specs.declared.values.Act.TheVariants.{DialFailed}
use Rattle.gw_wire.specs.declared.values.Addr.{Addr}
use Rattle.gw_wire.specs.DialStep.{DialStep}
use Rattle.gw_wire.specs.Link.{LinkView}
use Rattle.gw_wire.specs.Wire.{WireView}
use Rattle.gw_pool.specs.declared.entry.Call.TheVariants as call
use Rattle.gw_pool.specs.declared.entry.Entry.{Entry}
use Rattle.gw_pool.specs.declared.entry.Reply.{Reply}
use Rattle.gw_pool.specs.declared.entry.Reply.TheVariants as reply
use Rattle.gw_pool.specs.declared.leases.DialToken.{DialToken}
use Rattle.gw_pool.specs.declared.leases.Lease.{Lease}
use Rattle.gw_pool.specs.declared.leases.Ticket.{Ticket}
use Rattle.gw_pool.specs.declared.limits.Limits.{Limits}
use Rattle.gw_pool.specs.declared.rows.ConnRow.{ConnRow}
use Rattle.gw_pool.specs.declared.rows.WantRow.{WantRow}
use Rattle.gw_pool.specs.declared.rows.DialRow.{DialRow}
use Rattle.gw_pool.specs.Gone.{link_of}
use Rattle.gw_pool.specs.History.{after}
use Rattle.gw_pool.specs.Keeps.{Comes, IsOver, IsServed, StandsFailed}
use Rattle.gw_pool.specs.Lent.{Lent, Calls, Looks, AskTaken, AskGranted, AskNotYet, AskFailed, DialFailedStep, StartGo, entry_of, row_of}
use Rattle.gw_pool.specs.Machine.{Outcome, Standing, MayDial, NotComing, NotServed, Served, failed_by, failed_row, failed_to, replied, standing, step}
use Rattle.gw_pool.specs.Offer.{grant}
use Rattle.gw_pool.specs.Places.{is_dialing, is_granted}
use Rattle.gw_pool.specs.State.{State, dials_for, remove_first, wants_it}
use Rattle.gw_pool.specs.Tokens.{change, ticket_of, without_ticket}
use Rattle.gw_pool.proofs.Facts.{failed_stands, over_stays, served_standing, served_stays, wants_go_on}
use Rattle.gw_account.specs.Did.{span, Wired}
use Rattle.gw_account.specs.Work.{Work, At, Seq, free}
use Rattle.gw_account.proofs.Facts.{doing_went, wired_call}
use Rattle.gw_transport.specs.declared.leasing.Leased.TheVariants as leased
use Rattle.gw_transport.specs.Leasing.{DialedStep, IsLeased, IsPending, IsRested}
use Rattle.gw_transport.specs.Parts.{Way, Anywhere, Called, FailsToDial, Sees, Starts}
use Rattle.gw_transport.specs.Stretch.{Part}
use Rattle.gw_transport.proofs.CallLemmas.{holds_after, leased_so, legal_looked, only_token, spent_token}
use Rattle.gw_transport.proofs.DialLemmas.{Dialing, began, called_at, dial_back, dialing_kept, legal_here, part_started, rose_same, when_leaves}
use Rattle.gw_transport.proofs.EndLemmas.{legal_met}
use Rattle.gw_transport.proofs.StretchLemmas.{part_looked, part_map, part_then, part_untimed}

-- ---- what the pool's call leaves

replied_none : (answer : Option ℕ → Reply) (p : Option ℕ × State) → (replied answer None p).gone ≡ None
replied_none answer (next, t) = refl

failed_to_says : (limits : Limits) (s : State) (dial : DialRow) (row : Option WantRow) → (failed_to limits s dial row).gone ≡ None
unfolding failed_to
failed_to_says limits s dial (Some row) = replied_none reply.Ended (grant limits (record s { wants = remove_first (wants_it dial.want) s.wants }) dial.host)
failed_to_says limits s dial None = replied_none reply.Late (grant limits s dial.host)

failed_says : (limits : Limits) (s : State) (dial : DialRow) → (failed_row limits s dial).gone ≡ None
unfolding failed_row
failed_says limits s dial = failed_to_says limits _ dial _

failed_by_leaves : (limits : Limits) (s : State) (caller : ℕ) (row : Option DialRow) (o : Outcome) → failed_by limits s caller row ≡ Some o → o.gone ≡ None
unfolding failed_by
failed_by_leaves limits s caller None o e = cc
failed_by_leaves limits s caller (Some row) o e = when_leaves (row.caller == caller) (failed_row limits s row) o (failed_says limits s row) e

failed_leaves : (limits : Limits) (s : State) (caller want : ℕ) (o : Outcome) → step limits s caller (call.DialFailed want) ≡ Some o → o.gone ≡ None
unfolding step
failed_leaves limits s caller want o e = failed_by_leaves limits s caller (find (dials_for want) s.dials) o e

-- ---- a dial that failed

part_failed : {C : Type 0} (link : C → LinkView) (old new : WireView) (a : Lent) (host : ℕ) (backend : Addr) → old.aged ≡ false
    → DialStep link old new host backend dials.Failed → Part (span old new a a) (FailsToDial host backend)
part_failed link old new a host backend fresh d =
    let acts = DialFailed host d.log.0 ∷ [] in
    let plain : Wired old new (record { acts = acts; made = []; bill = free }) = wired_call old new acts [] d.later d.log.2 in
    record {
      work = record { acts = acts; made = []; bill = record free { dials = 1 } };
      doing = doing_went old new a (record { acts = acts; made = []; bill = record free { dials = 1 } }) (d.aged ∙ fresh)
          (record { later = plain.later; log = plain.log; dials = d.cause; millis = plain.millis; ticks = plain.ticks; rests = plain.rests; said = plain.said }) refl refl;
      asked = d.asked;
      does = (refl, refl, (d.log.0, d.log.1, refl));
    }

-- how the want stands behind it
pub data Failed (caller want host : ℕ) (outcome : Reply) (s : State) : Type 0 where
  Over : (next : Option ℕ) → outcome ≡ reply.Ended next → IsOver want s → Failed caller want host outcome s
  InSpite : (next : Option ℕ) → outcome ≡ reply.Late next → IsServed want host caller s → Failed caller want host outcome s

failed_of : (caller want host : ℕ) (outcome : Reply) (s : State) → StandsFailed want host caller outcome s → Failed caller want host outcome s
failed_of caller want host (reply.Ended next) s k = Over next refl k
failed_of caller want host (reply.Late next) s k = InSpite next refl k
failed_of caller want host (reply.Expired n) s k = absurd k
failed_of caller want host (reply.Given w c) s k = absurd k
failed_of caller want host (reply.Granted w) s k = absurd k
failed_of caller want host (reply.Waiting w) s k = absurd k
failed_of caller want host reply.Go s k = absurd k
failed_of caller want host (reply.Kept c) s k = absurd k
failed_of caller want host (reply.Offered c o) s k = absurd k
failed_of caller want host (reply.Gone next) s k = absurd k
failed_of caller want host (reply.Returned c o) s k = absurd k
failed_of caller want host (reply.Put o) s k = absurd k
failed_of caller want host (reply.Dropped next) s k = absurd k
failed_of caller want host (reply.Taken c) s k = absurd k

failed : (b c : Lent) (d : DialToken) (want host : ℕ) → d.want ≡ want → Dialing b want host → (m : DialFailedStep b c d)
    → Failed c.number want host m.outcome.reply (after c.limits c.seen)
failed b c d want host e g m =
    let P : ℕ → Type 0 = λ n. Calls b c m.others (call.DialFailed n) m.outcome in
    let calls = subst P e m.calls in
    let tail = entry_of b.number (call.DialFailed want) m.outcome.reply ∷ [] in
    let legal = legal_met b c m.others (call.DialFailed want) m.outcome calls in
    let wanted = wants_go_on is_dialing b.limits b.seen m.others want host b.number dialing_kept legal calls.meets.foreign (inl g.wanted) in
    let stands = failed_stands b.limits (b.seen ++ m.others) want host b.number is_dialing m.outcome.reply (legal_here b c m.others tail calls.meets calls.seen) wanted in
    failed_of c.number want host m.outcome.reply (after c.limits c.seen)
    (called_at b c m.others tail (λ k s. StandsFailed want host k m.outcome.reply s) calls.meets calls.seen stands)

-- the ticket alone is out then
pub record Spent (c : Lent) (want host : ℕ) (outcome : Reply) : Type 0 where
  pub pending : IsPending c want (λ caller s. Unit {0})
  pub stands : Failed c.number want host outcome (after c.limits c.seen)

pub spent : (a b c : Lent) (t : Ticket) (d : DialToken) (host : ℕ) → IsPending a t.want (Comes is_granted t.want host) → StartGo a b t d
    → (m : DialFailedStep b c d) → Spent c t.want host m.outcome.reply
spent a b c t d host p s m =
    let g = began a b t d host p s in
    record {
      pending = record {
        holds = holds_after b c m.others (ticket_of t.want ∷ []) m.calls.meets g.holds.running (m.leaves.out ∙ dial_back b d t.want s.want g.holds.out);
        few = m.calls.meets.few;
        fresh = m.calls.meets.fresh t.want g.fresh;
        stands = tt;
      };
      stands = failed b c d t.want host s.want g m;
    }

-- how it stands at a look
ended_there : (c e : Lent) (others : List Entry) (want : ℕ) (answer : Standing) → Looks c e others → IsOver want (after c.limits c.seen)
    → standing (after c.limits (c.seen ++ others)) want ≡ answer → NotComing ≡ answer
ended_there c e others want answer l k is = sym (over_stays c.limits c.seen others want (legal_looked c e others l) k).none ∙ is

served_look : (c e : Lent) (others : List Entry) (want host : ℕ) (answer : Standing) → Looks c e others → IsServed want host c.number (after c.limits c.seen)
    → standing (after c.limits (c.seen ++ others)) want ≡ answer → (row : ConnRow) × (Served row ≡ answer)
served_look c e others want host answer l k is =
    let legal = legal_looked c e others l in
    let here = served_stays c.limits c.seen others want host c.number legal l.meets.foreign k in
    (here.row, sym (served_standing c.limits (c.seen ++ others) want c.number here.row legal here.out) ∙ is)

granted_failed : (c e : Lent) (t back : Ticket) (host : ℕ) (outcome : Reply) → Failed c.number t.want host outcome (after c.limits c.seen) → AskGranted c e t back → ⊥
granted_failed c e t back host outcome (Over next is k) m = let bad : NotComing ≡ MayDial = ended_there c e m.others t.want MayDial m.looks k m.stands in cc
granted_failed c e t back host outcome (InSpite next is k) m = let x = served_look c e m.others t.want host MayDial m.looks k m.stands in let bad : Served x.0 ≡ MayDial = x.1 in cc

pub granted_spent : (c e : Lent) (t back : Ticket) (host : ℕ) (outcome : Reply) → Spent c t.want host outcome → AskGranted c e t back → ⊥
granted_spent c e t back host outcome k m = granted_failed c e t back host outcome k.stands m

waiting_failed : (c e : Lent) (others : List Entry) (want host : ℕ) (outcome : Reply) → Looks c e others → Failed c.number want host outcome (after c.limits c.seen)
    → standing (after c.limits (c.seen ++ others)) want ≡ NotServed → ⊥
waiting_failed c e others want host outcome l (Over next is k) s = let bad : NotComing ≡ NotServed = ended_there c e others want NotServed l k s in cc
waiting_failed c e others want host outcome l (InSpite next is k) s = let x = served_look c e others want host NotServed l k s in let bad : Served x.0 ≡ NotServed = x.1 in cc

pub waiting_spent : (c e : Lent) (t back : Ticket) (host : ℕ) (outcome : Reply) → Spent c t.want host outcome → AskNotYet c e t back → ⊥
waiting_spent c e t back host outcome k m =
    waiting_failed c e m.others t.want host outcome m.looks k.stands (m.stands k.pending.fresh (only_token c t.want k.pending.holds.out))

pub data TookLate (want host : ℕ) (outcome : Reply) : Type 0 where
  IsLate : (next : Option ℕ) → outcome ≡ reply.Late next → TookLate want host outcome

taken_late : {C : Type 0} (link : C → LinkView) (c e : Lent) (t : Ticket) (l : Lease C) (host : ℕ) (outcome : Reply)
    → Failed c.number t.want host outcome (after c.limits c.seen) → AskTaken link c e t l → TookLate t.want host outcome
taken_late link c e t l host outcome (InSpite next is k) m = IsLate next is
taken_late link c e t l host outcome (Over next is k) m =
    absurd (let bad : NotComing ≡ Served (row_of c.number l) = ended_there c e m.others t.want (Served (row_of c.number l)) m.looks k m.stands in cc)

pub data HasEnded (outcome : Reply) : Type 0 where
  EndedSo : (next : Option ℕ) → outcome ≡ reply.Ended next → HasEnded outcome

failed_ended : (c e : Lent) (t : Ticket) (host : ℕ) (outcome : Reply) → Failed c.number t.want host outcome (after c.limits c.seen) → AskFailed c e t
    → HasEnded outcome
failed_ended c e t host outcome (Over next is k) m = EndedSo next is
failed_ended c e t host outcome (InSpite next is k) m =
    absurd (let x = served_look c e m.others t.want host NotComing m.looks k m.stands in let bad : Served x.0 ≡ NotComing = x.1 in cc)

part_ended : (wire : WireView) (b c : Lent) (d : DialToken) (want : ℕ) → d.want ≡ want → wire.aged ≡ false → (m : DialFailedStep b c d)
    → Part (span wire wire b c) (Called Anywhere (call.DialFailed want) m.outcome.reply [])
part_ended wire b c d want e fresh m =
    let P : ℕ → Type 0 = λ n. Calls b c m.others (call.DialFailed n) m.outcome in
    let calls = subst P e m.calls in
    part_untimed Anywhere wire b c m.others (call.DialFailed want) m.outcome [] fresh refl calls m.leaves.waits tt
    (ap link_of (failed_leaves b.limits _ b.number want m.outcome calls.fits))

-- all that was done
abbrev Failing : ℕ → Addr → ℕ → Reply → At → Work → Type 0
Failing host backend want outcome =
    Seq (Starts want) (Seq (FailsToDial host backend) (Seq (Called Anywhere (call.DialFailed want) outcome []) (Sees free)))

failing : {C : Type 0} (link : C → LinkView) (w x : WireView) (a b c e : Lent) (host : ℕ) (backend : Addr) (t : Ticket) (d : DialToken) (others : List Entry)
    → w.aged ≡ false → StartGo a b t d → DialStep link w x host backend dials.Failed → (m : DialFailedStep b c d) → Looks c e others → e.waits ≡ c.waits
    → Part (span w x a e) (Failing host backend t.want m.outcome.reply)
failing link w x a b c e host backend t d others fresh s dialed m looks waits =
    let cool : x.aged ≡ false = dialed.aged ∙ fresh in
    part_then (part_started w a b t d fresh s)
    (part_then (part_failed link w x b host backend fresh dialed)
    (part_then (part_ended x b c d t.want s.want cool m) (part_looked x c e others cool looks (rose_same c.waits e.waits waits))))

late_way : {C : Type 0} (link : C → LinkView) (w x : WireView) (a e : Lent) (host : ℕ) (backend : Addr) (t : Ticket) (l : Lease C) (outcome : Reply)
    → Part (span w x a e) (Failing host backend t.want outcome) → TookLate t.want host outcome → l.want ≡ t.want → IsLeased link e l
    → DialedStep link (span w x a e) host backend t.want (leased.Lease l)
late_way link w x a e host backend t l outcome p (IsLate next is) want k = record {
  way = Way.ByLate;
  did = part_map p (λ y v q. let T : Reply → Type 0 = λ r. Failing host backend t.want r y v in (want, (next, subst T is q)));
  left = k;
}

pub late_done : {C : Type 0} (link : C → LinkView) (w x : WireView) (a b c e : Lent) (host : ℕ) (backend : Addr) (t : Ticket) (d : DialToken) (l : Lease C)
    → w.aged ≡ false → IsPending a t.want (Comes is_granted t.want host) → StartGo a b t d → DialStep link w x host backend dials.Failed
    → DialFailedStep b c d → AskTaken link c e t l → DialedStep link (span w x a e) host backend t.want (leased.Lease l)
late_done link w x a b c e host backend t d l fresh p s dialed m k =
    let sp = spent a b c t d host p s m in
    late_way link w x a e host backend t l m.outcome.reply (failing link w x a b c e host backend t d k.others fresh s dialed m k.looks k.leaves.waits)
    (taken_late link c e t l host m.outcome.reply sp.stands k) k.want (leased_so link c e t l (λ caller q. Unit {0}) sp.pending k)

ended_way : {C : Type 0} (link : C → LinkView) (w x : WireView) (a e : Lent) (host : ℕ) (backend : Addr) (want : ℕ) (outcome : Reply)
    → Part (span w x a e) (Failing host backend want outcome) → HasEnded outcome → IsRested e → DialedStep link (span w x a e) host backend want leased.Unreachable
ended_way link w x a e host backend want outcome p (EndedSo next is) k = record {
  way = Way.ByOther;
  did = part_map p (λ y v q. let T : Reply → Type 0 = λ r. Failing host backend want r y v in (next, subst T is q));
  left = k;
}

pub unreached_done : {C : Type 0} (link : C → LinkView) (w x : WireView) (a b c e : Lent) (host : ℕ) (backend : Addr) (t : Ticket) (d : DialToken)
    → w.aged ≡ false → IsPending a t.want (Comes is_granted t.want host) → StartGo a b t d → DialStep link w x host backend dials.Failed
    → DialFailedStep b c d → AskFailed c e t → DialedStep link (span w x a e) host backend t.want leased.Unreachable
unreached_done link w x a b c e host backend t d fresh p s dialed m k =
    let sp = spent a b c t d host p s m in
    ended_way link w x a e host backend t.want m.outcome.reply (failing link w x a b c e host backend t d k.others fresh s dialed m k.looks k.leaves.waits)
    (failed_ended c e t host m.outcome.reply sp.stands k) (record {
      holds = holds_after c e k.others [] k.looks.meets sp.pending.holds.running
          (k.leaves.out ∙ ap (λ o. change t.want without_ticket o) sp.pending.holds.out ∙ spent_token t.want);
      few = k.looks.meets.few;
    })
