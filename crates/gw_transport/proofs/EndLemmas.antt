-- How a want is given up, and how a lease ends.
use Rattle.std.proofs.Common.{ℕ, ◌≡◌, true, false, List, [], ◌∷◌, ◌++◌, Option, refl, ap, sym, subst, ◌∙◌, inl, inr}
use Rattle.std.proofs.lemmas.Bool.{eq-eqb}
use Rattle.gw_wire.specs.Link.{LinkView}
use Rattle.gw_wire.specs.Wire.{WireView, CloseStep, NowStep}
use Rattle.gw_pool.specs.declared.entry.Call.{Call}
use Rattle.gw_pool.specs.declared.entry.Call.TheVariants as call
use Rattle.gw_pool.specs.declared.entry.Entry.{Entry}
use Rattle.gw_pool.specs.declared.entry.Reply.{Reply}
use Rattle.gw_pool.specs.declared.leases.Lease.{Lease}
use Rattle.gw_pool.specs.declared.leases.Put.{Put}
use Rattle.gw_pool.specs.declared.leases.Ticket.{Ticket}
use Rattle.gw_pool.specs.declared.limits.Limits.{Limits}
use Rattle.gw_pool.specs.declared.rows.ConnRow.{ConnRow}
use Rattle.gw_pool.specs.declared.rows.Stage.{Stage}
use Rattle.gw_pool.specs.declared.rows.Stage.TheVariants as stages
use Rattle.gw_pool.specs.Gone.{link_of, number_of}
use Rattle.gw_pool.specs.History.{IsLegal, LegalFrom, after, mine, moved}
use Rattle.gw_pool.specs.Keeps.{Comes, IsKeptByGrant, IsOut, is_early}
use Rattle.gw_pool.specs.Lent.{Lent, BackStep, CancelBy, CancelMade, CancelStep, DropStep, Calls, entry_of, row_of}
use Rattle.gw_pool.specs.Machine.{Outcome, Standing, Served, MayDial, NotServed, NotComing, stage_standing, standing}
use Rattle.gw_pool.specs.State.{State, empty, has_number}
use Rattle.gw_pool.specs.Tokens.{change, without_lease, without_ticket}
use Rattle.gw_pool.proofs.Facts.{drop_leaves, found_among, out_stays, served_standing, wanted_standing, wants_go_on}
use Rattle.gw_account.specs.Did.{span}
use Rattle.gw_account.specs.Work.{free}
use Rattle.gw_account.proofs.Facts.{went_call}
use Rattle.gw_transport.specs.Leasing.{EndStep, GaveUpStep, IsLeased, IsPending, LeftStep, lent_to}
use Rattle.gw_transport.specs.Parts.{Anywhere, Called, Hands, Sees}
use Rattle.gw_transport.specs.Stretch.{Part}
use Rattle.gw_transport.proofs.CallLemmas.{closes_link, holds_after, left_some, legal_looked, no_closes, spent_token}
use Rattle.gw_transport.proofs.SeqLemmas.{sees_hands}
use Rattle.gw_transport.proofs.StretchLemmas.{part_called, part_map, part_then, part_untimed, part_went}

-- the clock was read
pub part_now : (old new : WireView) (a : Lent) (now : ℕ) → NowStep old new now → Part (span old new a a) (Sees free)
part_now old new a now n = part_map (part_went a (went_call old new [] n.later n.aged n.log) n.asked) no_closes

-- what is left of a token
pub ended_token : (w : ℕ) → change w without_lease (lent_to w ∷ []) ≡ []
ended_token w = rw (eq-eqb w w refl) refl

front_from : (limits : Limits) (s : State) (seen more : List Entry) → LegalFrom limits s (seen ++ more) → LegalFrom limits s seen
front_from limits s [] more l = tt
front_from limits s (e ∷ seen) more l = (l.0, front_from limits (moved limits s e) seen more l.1)

front : (limits : Limits) (seen more : List Entry) → IsLegal limits (seen ++ more) → IsLegal limits seen
unfolding IsLegal
front limits seen more l = front_from limits empty seen more l

-- the history that a call met was legal
pub legal_met : (a b : Lent) (others : List Entry) (asked : Call) (outcome : Outcome) → Calls a b others asked outcome → IsLegal a.limits (a.seen ++ others)
legal_met a b others asked outcome c =
    let P : List Entry → Type 0 = λ h. IsLegal a.limits h in
    let Q : Limits → Type 0 = λ l. IsLegal l b.seen in
    front a.limits (a.seen ++ others) (entry_of a.number asked outcome.reply ∷ []) (subst P c.seen (subst Q c.meets.limits c.meets.legal))

-- ---- a want that is given up

-- a want that comes may still be given up
pub data StillComes (answer : Standing) : Type 0 where
  IsServed : (row : ConnRow) → answer ≡ Served row → StillComes answer
  Dials : answer ≡ MayDial → StillComes answer
  Waits : answer ≡ NotServed → StillComes answer

early_stands : (stage : Stage) → is_early stage ≡ true → StillComes (stage_standing stage)
early_stands stages.Waiting e = Waits refl
early_stands stages.Granted e = Dials refl
early_stands stages.Dialing e = cc

comes_standing : (limits : Limits) (h : List Entry) (want host caller : ℕ) → IsLegal limits h → Comes is_early want host caller (after limits h)
    → StillComes (standing (after limits h) want)
comes_standing limits h want host caller legal (inl k) =
    let T : Standing → Type 0 = λ x. StillComes x in
    subst T (sym (wanted_standing is_early limits h want host caller legal k)) (early_stands k.row.stage k.stage)
comes_standing limits h want host caller legal (inr k) = IsServed k.row (served_standing limits h want caller k.row legal k.out)

-- so it is cancelled by an entry
cancel_made : {C : Type 0} (link : C → LinkView) (a b : Lent) (others : List Entry) (t : Ticket) (now : ℕ) (put : Put C) (s : Standing)
    → StillComes s → CancelBy link a b others t now put s → CancelMade link a b others t now put
cancel_made link a b others t now put s (IsServed row e) does = let T : Standing → Type 0 = λ x. CancelBy link a b others t now put x in subst T e does
cancel_made link a b others t now put s (Dials e) does = let T : Standing → Type 0 = λ x. CancelBy link a b others t now put x in subst T e does
cancel_made link a b others t now put s (Waits e) does = let T : Standing → Type 0 = λ x. CancelBy link a b others t now put x in subst T e does

pub early_kept : IsKeptByGrant is_early
early_kept e = refl

-- a call's entry and the closes of what it left
pub part_handed : {C : Type 0} (link : C → LinkView) (old new : WireView) (a b : Lent) (asked : Call) (answer : Reply) (close : Option C)
    → Part (span old old a b) (Called Anywhere asked answer (number_of link close)) → LeftStep link old new close
    → Part (span old new a b) (Hands Anywhere asked answer)
part_handed link old new a b asked answer close made l =
    part_map (part_then made (part_went b l.went l.asked)) (λ t w s. (number_of link close, s))

cancel_legal : {C : Type 0} (link : C → LinkView) (a b : Lent) (others : List Entry) (t : Ticket) (now : ℕ) (put : Put C) (s : Standing)
    → CancelBy link a b others t now put s → IsLegal a.limits (a.seen ++ others) × (mine others a.number ≡ [])
cancel_legal link a b others t now put (Served row) d = (legal_met a b others (call.Cancel t.want now) d.outcome d.calls, d.calls.meets.foreign)
cancel_legal link a b others t now put MayDial d = (legal_met a b others (call.Cancel t.want now) d.outcome d.calls, d.calls.meets.foreign)
cancel_legal link a b others t now put NotServed d = (legal_met a b others (call.Cancel t.want now) d.outcome d.calls, d.calls.meets.foreign)
cancel_legal link a b others t now put NotComing d = (legal_looked a b others d.looks, d.looks.meets.foreign)

pub gave_up_done : {C : Type 0} (link : C → LinkView) (old new : WireView) (a b : Lent) (t : Ticket) (now host : ℕ) (put : Put C)
    → old.aged ≡ false → old.moment ≡ now → IsPending a t.want (Comes is_early t.want host) → CancelStep link a b t now put → LeftStep link old new put.close
    → GaveUpStep (span old new a b) t.want
gave_up_done link old new a b t now host put fresh read p m l =
    let s = standing (after a.limits (a.seen ++ m.others)) t.want in
    let legal = cancel_legal link a b m.others t now put s m.does in
    let here = wants_go_on is_early a.limits a.seen m.others t.want host a.number early_kept legal.0 legal.1 p.stands in
    let made = cancel_made link a b m.others t now put s (comes_standing a.limits (a.seen ++ m.others) t.want host a.number legal.0 here) m.does in
    let one = part_called Anywhere old a b m.others (call.Cancel t.want now) made.outcome (number_of link put.close) fresh (ap (λ k. k ∷ []) (sym read))
    made.calls m.leaves.waits tt (closes_link link put.close made.outcome.gone made.close) in
    record {
      did = part_map (part_handed link old new a b (call.Cancel t.want now) made.outcome.reply put.close one l) (λ x y z. (now, made.outcome.reply, z));
      moment = l.moment;
      rested = record {
        holds = holds_after a b m.others [] made.calls.meets p.holds.running
            (m.leaves.out ∙ ap (λ o. change t.want without_ticket o) p.holds.out ∙ spent_token t.want);
        few = made.calls.meets.few;
      };
    }

-- ---- the end of a lease

ended_out : {C : Type 0} (link : C → LinkView) (a b : Lent) (l : Lease C) → IsLeased link a l → b.out ≡ change l.want without_lease a.out → b.out ≡ []
ended_out link a b l k out = out ∙ ap (λ o. change l.want without_lease o) k.holds.out ∙ ended_token l.want

pub returned_done : {C : Type 0} (link : C → LinkView) (old mid new : WireView) (a b : Lent) (l : Lease C) (now : ℕ) (put : Put C)
    → IsLeased link a l → NowStep old mid now → BackStep link a b l.no l.want now put → LeftStep link mid new put.close
    → EndStep (span old new a b) l.no true
returned_done link old mid new a b l now put k n m left =
    let one = part_called Anywhere mid a b m.others (call.GiveBack l.no now) m.outcome (number_of link put.close) n.aged (ap (λ x. x ∷ []) (sym n.given))
    m.calls m.leaves.waits tt (closes_link link put.close m.outcome.gone m.close) in
    let handed = part_handed link mid new a b (call.GiveBack l.no now) m.outcome.reply put.close one left in
    record {
      did = part_map (part_then (part_now old mid a now n) handed)
          (λ x y z. (now, m.outcome.reply, sees_hands Anywhere (call.GiveBack l.no now) m.outcome.reply x y z));
      rested = record { holds = holds_after a b m.others [] m.calls.meets k.holds.running (ended_out link a b l k m.leaves.out); few = m.calls.meets.few };
    }

pub dropped_done : {C : Type 0} (link : C → LinkView) (old new : WireView) (a b : Lent) (l : Lease C) (conn : C) → old.aged ≡ false
    → IsLeased link a l → DropStep a b l.no l.want → conn ≡ l.conn → CloseStep old new (link conn).number → EndStep (span old new a b) l.no false
dropped_done link old new a b l conn fresh k m same c =
    let row = row_of a.number l in
    let legal = legal_met a b m.others (call.Drop l.no) m.outcome m.calls in
    let out : IsOut l.want a.number row (after a.limits a.seen) =
    record { there = found_among (has_number l.no) row (after a.limits a.seen).conns k.lease.row; place = refl } in
    let here = out_stays a.limits a.seen m.others l.want a.number row legal m.calls.meets.foreign out in
    let said = drop_leaves a.limits (a.seen ++ m.others) l.want a.number row m.outcome legal m.calls.fits here in
    let gone : link_of m.outcome.gone ≡ (link conn).number ∷ [] =
    ap link_of said.2 ∙ ap (λ n. n ∷ []) (sym k.lease.conn ∙ ap (λ x. (link x).number) (sym same)) in
    let left = left_some link old new conn fresh c in
    let one = part_untimed Anywhere old a b m.others (call.Drop l.no) m.outcome ((link conn).number ∷ []) fresh refl m.calls m.leaves.waits tt gone in
    let both = part_then one (part_went b left.went left.asked) in
    record {
      did = part_map both (λ x y z. let T : Reply → Type 0 = λ r. Hands Anywhere (call.Drop l.no) r x y in (said.0, subst T said.1 ((link conn).number ∷ [], z)));
      rested = record { holds = holds_after a b m.others [] m.calls.meets k.holds.running (ended_out link a b l k m.leaves.out); few = m.calls.meets.few };
    }
