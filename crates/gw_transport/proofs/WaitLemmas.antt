-- A want that is asked for until it has a connection.
use Rattle.std.proofs.Common.{ℕ, ◌≡◌, Bool, true, List, [], ◌∷◌, ◌++◌, refl, ap, sym, subst, ◌∙◌, inl, inr}
use Rattle.gw_pool.specs.declared.entry.Entry.{Entry}
use Rattle.gw_pool.specs.declared.entry.Reply.{Reply}
use Rattle.gw_pool.specs.declared.entry.Reply.TheVariants as reply
use Rattle.gw_pool.specs.declared.leases.Ticket.{Ticket}
use Rattle.gw_pool.specs.declared.rows.Stage.{Stage}
use Rattle.gw_pool.specs.declared.rows.Stage.TheVariants as stages
use Rattle.gw_pool.specs.History.{after}
use Rattle.gw_pool.specs.Keeps.{Comes, IsKeptByGrant, IsServed, IsWanted, is_early}
use Rattle.gw_pool.specs.Lent.{Lent, Looks, AskGranted, AskNotYet, AskFailed}
use Rattle.gw_pool.specs.Machine.{MayDial, NotComing, NotServed, Served, stage_standing, standing}
use Rattle.gw_pool.specs.Places.{is_granted}
use Rattle.gw_pool.specs.State.{State}
use Rattle.gw_pool.specs.Tokens.{ticket_of}
use Rattle.gw_pool.proofs.Facts.{out_stays, served_standing, wanted_standing, wants_go_on}
use Rattle.gw_transport.specs.Leasing.{AnswerStands, IsAsked, IsPending}
use Rattle.gw_transport.specs.Parts.{IsPlace}
use Rattle.gw_transport.proofs.CallLemmas.{holds_after, legal_looked, only_token}
use Rattle.gw_transport.proofs.DialLemmas.{looked_at}
use Rattle.gw_transport.proofs.EndLemmas.{early_kept}

-- ---- how a want stands that was answered so

granted_kept : IsKeptByGrant is_granted
granted_kept e = refl

-- what a look finds of a want that comes
pub data Found (s : State) (want host caller : ℕ) (test : Stage → Bool) : Type 0 where
  HasConn : (k : IsServed want host caller s) → standing s want ≡ Served k.row → Found s want host caller test
  HasRow : (k : IsWanted test want host caller s) → standing s want ≡ stage_standing k.row.stage → Found s want host caller test

found_of : (a b : Lent) (others : List Entry) (test : Stage → Bool) (want host : ℕ) → Looks a b others
    → Comes test want host a.number (after a.limits (a.seen ++ others)) → Found (after a.limits (a.seen ++ others)) want host a.number test
found_of a b others test want host l (inl k) = HasRow k (wanted_standing test a.limits (a.seen ++ others) want host a.number (legal_looked a b others l) k)
found_of a b others test want host l (inr k) = HasConn k (served_standing a.limits (a.seen ++ others) want a.number k.row (legal_looked a b others l) k.out)

found : (a b : Lent) (others : List Entry) (test : Stage → Bool) (want host : ℕ) → IsKeptByGrant test → Looks a b others
    → Comes test want host a.number (after a.limits a.seen) → Found (after a.limits (a.seen ++ others)) want host a.number test
found a b others test want host kept l c =
    let legal = legal_looked a b others l in
    found_of a b others test want host l (wants_go_on test a.limits a.seen others want host a.number kept legal l.meets.foreign c)

granted_early : (stage : Stage) → is_granted stage ≡ true → is_early stage ≡ true
granted_early stages.Waiting e = refl
granted_early stages.Granted e = refl
granted_early stages.Dialing e = e

early_of : (want host caller : ℕ) (s : State) → Comes is_granted want host caller s → Comes is_early want host caller s
early_of want host caller s (inl k) =
    inl (record { row = k.row; there = k.there; is_want = k.is_want; is_host = k.is_host; by = k.by; stage = granted_early k.row.stage k.stage })
early_of want host caller s (inr k) = inr k

-- a want comes whatever it was answered
pub comes_early : (host want caller : ℕ) (answer : Reply) (s : State) → AnswerStands host want answer caller s → Comes is_early want host caller s
comes_early host want caller (reply.Given w conn) s k = inr (record { row = k.1.0; is_host = k.1.2; out = k.1.3 })
comes_early host want caller (reply.Granted w) s k = early_of want host caller s k.1
comes_early host want caller (reply.Waiting w) s k = k.1
comes_early host want caller (reply.Expired n) s k = absurd k
comes_early host want caller reply.Go s k = absurd k
comes_early host want caller (reply.Kept c) s k = absurd k
comes_early host want caller (reply.Offered c o) s k = absurd k
comes_early host want caller (reply.Ended next) s k = absurd k
comes_early host want caller (reply.Late next) s k = absurd k
comes_early host want caller (reply.Gone next) s k = absurd k
comes_early host want caller (reply.Returned c o) s k = absurd k
comes_early host want caller (reply.Put o) s k = absurd k
comes_early host want caller (reply.Dropped next) s k = absurd k
comes_early host want caller (reply.Taken c) s k = absurd k

stage_over : (stage : Stage) → stage_standing stage ≡ NotComing → ⊥
stage_over stages.Waiting e = cc
stage_over stages.Granted e = cc
stage_over stages.Dialing e = cc

over_found : (a b : Lent) (t : Ticket) (host : ℕ) → (m : AskFailed a b t) → Found (after a.limits (a.seen ++ m.others)) t.want host a.number is_early → ⊥
over_found a b t host m (HasConn k e) = let bad : Served k.row ≡ NotComing = sym e ∙ m.stands in cc
over_found a b t host m (HasRow k e) = stage_over k.row.stage (sym e ∙ m.stands)

-- so a look never finds that it is over
pub never_over : (a b : Lent) (t : Ticket) (host : ℕ) (answer : Reply) → IsAsked a host t.want answer → AskFailed a b t → ⊥
never_over a b t host answer p m =
    over_found a b t host m (found a b m.others is_early t.want host early_kept m.looks (comes_early host t.want a.number answer (after a.limits a.seen) p.stands))

-- ---- a want that may dial

-- where a look finds that it may, it has a row that was granted
dial_stage : (stage : Stage) → stage_standing stage ≡ MayDial → is_granted stage ≡ true
dial_stage stages.Waiting e = cc
dial_stage stages.Granted e = refl
dial_stage stages.Dialing e = cc

granted_row : (a b : Lent) (t back : Ticket) (host : ℕ) → (m : AskGranted a b t back) → Found (after a.limits (a.seen ++ m.others)) t.want host a.number is_early
    → Comes is_granted t.want host a.number (after a.limits (a.seen ++ m.others))
granted_row a b t back host m (HasConn k e) = absurd (let bad : Served k.row ≡ MayDial = sym e ∙ m.stands in cc)
granted_row a b t back host m (HasRow k e) =
    inl (record { row = k.row; there = k.there; is_want = k.is_want; is_host = k.is_host; by = k.by; stage = dial_stage k.row.stage (sym e ∙ m.stands) })

pub granted_pending : (a b : Lent) (t back : Ticket) (host : ℕ) (answer : Reply) → IsAsked a host t.want answer → AskGranted a b t back
    → IsPending b back.want (Comes is_granted back.want host)
granted_pending a b t back host answer p m =
    let here = found a b m.others is_early t.want host early_kept m.looks (comes_early host t.want a.number answer (after a.limits a.seen) p.stands) in
    let T : ℕ → Type 0 = λ w. IsPending b w (Comes is_granted w host) in
    subst T (sym (ap (λ (k : Ticket). k.want) m.same)) (record {
      holds = holds_after a b m.others (ticket_of t.want ∷ []) m.looks.meets p.holds.running (m.leaves.out ∙ p.holds.out);
      few = m.looks.meets.few;
      fresh = m.looks.meets.fresh t.want p.fresh;
      stands = looked_at a b m.others (Comes is_granted t.want host) m.looks (granted_row a b t back host m here);
    })

place_of : (a b : Lent) (t back : Ticket) (host : ℕ) (answer : Reply) → AnswerStands host t.want answer a.number (after a.limits a.seen) → AskGranted a b t back → IsPlace t.want answer
place_of a b t back host (reply.Granted w) k m = k.0
place_of a b t back host (reply.Waiting w) k m = k.0
place_of a b t back host (reply.Given w conn) k m =
    absurd (
    let legal = legal_looked a b m.others m.looks in
    let here = out_stays a.limits a.seen m.others t.want a.number k.1.0 legal m.looks.meets.foreign k.1.3 in
    let bad : Served k.1.0 ≡ MayDial = sym (served_standing a.limits (a.seen ++ m.others) t.want a.number k.1.0 legal here) ∙ m.stands in cc
    )
place_of a b t back host (reply.Expired n) k m = absurd k
place_of a b t back host reply.Go k m = absurd k
place_of a b t back host (reply.Kept c) k m = absurd k
place_of a b t back host (reply.Offered c o) k m = absurd k
place_of a b t back host (reply.Ended next) k m = absurd k
place_of a b t back host (reply.Late next) k m = absurd k
place_of a b t back host (reply.Gone next) k m = absurd k
place_of a b t back host (reply.Returned c o) k m = absurd k
place_of a b t back host (reply.Put o) k m = absurd k
place_of a b t back host (reply.Dropped next) k m = absurd k
place_of a b t back host (reply.Taken c) k m = absurd k

-- its answer was no connection
pub granted_place : (a b : Lent) (t back : Ticket) (host : ℕ) (answer : Reply) → IsAsked a host t.want answer → AskGranted a b t back → IsPlace t.want answer
granted_place a b t back host answer p m = place_of a b t back host answer p.stands m

-- ---- a want that isn't served yet

granted_waiting : (stage : Stage) → is_granted stage ≡ true → stage_standing stage ≡ NotServed → ⊥
granted_waiting stages.Waiting g e = cc
granted_waiting stages.Granted g e = cc
granted_waiting stages.Dialing g e = cc

granted_waits : (a b : Lent) (others : List Entry) (t : Ticket) (host : ℕ) → Found (after a.limits (a.seen ++ others)) t.want host a.number is_granted
    → standing (after a.limits (a.seen ++ others)) t.want ≡ NotServed → ⊥
granted_waits a b others t host (HasConn k e) s = let bad : Served k.row ≡ NotServed = sym e ∙ s in cc
granted_waits a b others t host (HasRow k e) s = granted_waiting k.row.stage k.stage (sym e ∙ s)

waits_of : (a b : Lent) (others : List Entry) (t : Ticket) (host : ℕ) (answer : Reply) → Looks a b others
    → AnswerStands host t.want answer a.number (after a.limits a.seen) → standing (after a.limits (a.seen ++ others)) t.want ≡ NotServed
    → (answer ≡ reply.Waiting t.want) × AnswerStands host t.want answer a.number (after a.limits (a.seen ++ others))
waits_of a b others t host (reply.Waiting w) l k s =
    (ap reply.Waiting k.0, (k.0, wants_go_on is_early a.limits a.seen others t.want host a.number early_kept (legal_looked a b others l) l.meets.foreign k.1))
waits_of a b others t host (reply.Granted w) l k s =
    absurd (granted_waits a b others t host (found a b others is_granted t.want host granted_kept l k.1) s)
waits_of a b others t host (reply.Given w conn) l k s =
    absurd (
    let legal = legal_looked a b others l in
    let here = out_stays a.limits a.seen others t.want a.number k.1.0 legal l.meets.foreign k.1.3 in
    let bad : Served k.1.0 ≡ NotServed = sym (served_standing a.limits (a.seen ++ others) t.want a.number k.1.0 legal here) ∙ s in cc
    )
waits_of a b others t host (reply.Expired n) l k s = absurd k
waits_of a b others t host reply.Go l k s = absurd k
waits_of a b others t host (reply.Kept c) l k s = absurd k
waits_of a b others t host (reply.Offered c o) l k s = absurd k
waits_of a b others t host (reply.Ended next) l k s = absurd k
waits_of a b others t host (reply.Late next) l k s = absurd k
waits_of a b others t host (reply.Gone next) l k s = absurd k
waits_of a b others t host (reply.Returned c o) l k s = absurd k
waits_of a b others t host (reply.Put o) l k s = absurd k
waits_of a b others t host (reply.Dropped next) l k s = absurd k
waits_of a b others t host (reply.Taken c) l k s = absurd k

pub waiting_only : (a b : Lent) (t back : Ticket) (host : ℕ) (answer : Reply) → IsAsked a host t.want answer → AskNotYet a b t back
    → (answer ≡ reply.Waiting t.want) × IsAsked b host back.want answer
waiting_only a b t back host answer p m =
    let known = m.stands p.fresh (only_token a t.want p.holds.out) in
    let stands = waits_of a b m.others t host answer m.looks p.stands known in
    let T : ℕ → Type 0 = λ w. IsAsked b host w answer in (
      stands.0,
      subst T (sym (ap (λ (k : Ticket). k.want) m.same)) (record {
        holds = holds_after a b m.others (ticket_of t.want ∷ []) m.looks.meets p.holds.running (m.leaves.out ∙ p.holds.out);
        few = m.looks.meets.few;
        fresh = m.looks.meets.fresh t.want p.fresh;
        stands = looked_at a b m.others (AnswerStands host t.want answer) m.looks stands.1;
      }),
    )
