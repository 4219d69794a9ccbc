-- What each call of the pool leaves out, and how a want stands that the caller asks for.
use Rattle.std.proofs.Common.{ℕ, ◌≡◌, true, false, List, [], ◌∷◌, ◌++◌, Option, Some, None, refl, ap, sym, subst, ◌∙◌}
use Rattle.std.proofs.lemmas.Bool.{eq-eqb}
use Rattle.std.specs.List.{list_all}
use Rattle.gw_wire.specs.Link.{LinkView}
use Rattle.gw_wire.specs.Wire.{WireView, CloseStep}
use Rattle.gw_wire.proofs.Facts.{later_same, Logs-none}
use Rattle.gw_pool.specs.declared.entry.Entry.{Entry}
use Rattle.gw_pool.specs.declared.holding.Holding.{Holding}
use Rattle.gw_pool.specs.declared.leases.Lease.{Lease}
use Rattle.gw_pool.specs.declared.leases.Ticket.{Ticket}
use Rattle.gw_pool.specs.declared.limits.Limits.{Limits}
use Rattle.gw_pool.specs.declared.rows.ConnRow.{ConnRow}
use Rattle.gw_pool.specs.Closes as pool
use Rattle.gw_pool.specs.Closes.{IsOf}
use Rattle.gw_pool.specs.Gone.{link_of, number_of}
use Rattle.gw_pool.specs.History.{IsLegal, after, mine}
use Rattle.gw_pool.specs.Keeps.{IsOut, IsServed}
use Rattle.gw_pool.specs.Lent.{Lent, Meets, Looks, AskTaken, AskGranted, AskNotYet, AskFailed, row_of}
use Rattle.gw_pool.specs.Machine.{Standing, Served, MayDial, NotServed, NotComing, standing}
use Rattle.gw_pool.specs.State.{State}
use Rattle.gw_pool.specs.Tokens.{names, change, ticket_of, leased, without_ticket}
use Rattle.gw_pool.proofs.Facts.{out_stays, served_stays, served_standing}
use Rattle.gw_account.specs.Work.{Work, At, free}
use Rattle.gw_account.proofs.Facts.{went_call}
use Rattle.gw_transport.specs.Leasing.{Holds, IsRested, IsPending, IsLeased, LeftStep, TakenStep, lent_to}
use Rattle.gw_transport.specs.Parts.{Closes, Sees}

-- ---- closes

pub left_none : {C : Type 0} (link : C → LinkView) (wire : WireView) → wire.aged ≡ false → LeftStep link wire wire None
left_none link wire fresh = record { went = went_call wire wire [] (later_same wire) fresh (Logs-none wire.log); asked = refl; moment = refl }

pub left_some : {C : Type 0} (link : C → LinkView) (old new : WireView) (conn : C) → old.aged ≡ false → CloseStep old new (link conn).number
    → LeftStep link old new (Some conn)
left_some link old new conn fresh c = record { went = went_call old new _ c.later (c.aged ∙ fresh) c.log; asked = c.asked; moment = c.moment }

pub no_closes : (a : At) (w : Work) → Closes [] a w → Sees free a w
no_closes a w c = (ap (λ m. mine m a.caller) c.0, c.2, c.1)

pub is_link : {C : Type 0} (link : C → LinkView) (conn : C) (left : Option ConnRow) → IsOf link conn left → link_of left ≡ (link conn).number ∷ []
is_link link conn None h = absurd h
is_link link conn (Some row) h = ap (λ n. n ∷ []) (sym h)

pub closes_link : {C : Type 0} (link : C → LinkView) (close : Option C) (left : Option ConnRow) → pool.Closes link close left → link_of left ≡ number_of link close
closes_link link None left h = ap link_of h
closes_link link (Some conn) left h = is_link link conn left h

-- ---- tokens

pub holds_after : (a b : Lent) (others : List Entry) (tokens : List Holding) → Meets a b others → a.ended ≡ false → b.out ≡ tokens → Holds b tokens
holds_after a b others tokens m running out = record { out = out; running = m.ended ∙ running }

pub rested_after : (a b : Lent) (others : List Entry) → Meets a b others → IsRested a → b.out ≡ [] → IsRested b
rested_after a b others m r out = record { holds = holds_after a b others [] m r.holds.running out; few = m.few }

pub leased_token : (w : ℕ) → change w leased (ticket_of w ∷ []) ≡ lent_to w ∷ []
leased_token w = rw (eq-eqb w w refl) refl

pub spent_token : (w : ℕ) → change w without_ticket (ticket_of w ∷ []) ≡ []
spent_token w = rw (eq-eqb w w refl) refl

pub only_token : (a : Lent) (w : ℕ) → a.out ≡ ticket_of w ∷ [] → list_all (names w) a.out ≡ true
only_token a w e = rw (e, eq-eqb w w refl) refl

-- ---- how a want stands

-- what a look meets is legal
pub legal_looked : (a b : Lent) (others : List Entry) → Looks a b others → IsLegal a.limits (a.seen ++ others)
legal_looked a b others l =
    let P : List Entry → Type 0 = λ h. IsLegal a.limits h in
    let Q : Limits → Type 0 = λ m. IsLegal m b.seen in
    subst P l.seen (subst Q l.meets.limits l.meets.legal)

pub served_there : (a b : Lent) (others : List Entry) (want host : ℕ) → Looks a b others → IsServed want host a.number (after a.limits a.seen)
    → IsServed want host a.number (after a.limits (a.seen ++ others))
served_there a b others want host l s = served_stays a.limits a.seen others want host a.number (legal_looked a b others l) l.meets.foreign s

stands_served : (a b : Lent) (others : List Entry) (want host : ℕ) (answer : Standing) → Looks a b others → IsServed want host a.number (after a.limits a.seen)
    → standing (after a.limits (a.seen ++ others)) want ≡ answer → (row : ConnRow) × (Served row ≡ answer)
stands_served a b others want host answer l s e =
    let here = served_there a b others want host l s in
    (here.row, sym (served_standing a.limits (a.seen ++ others) want a.number here.row (legal_looked a b others l) here.out) ∙ e)

pub granted_not_served : (a b : Lent) (t back : Ticket) (host : ℕ) → IsPending a t.want (IsServed t.want host) → AskGranted a b t back → ⊥
granted_not_served a b t back host p m = let bad = stands_served a b m.others t.want host MayDial m.looks p.stands m.stands in let e : Served bad.0 ≡ MayDial = bad.1 in cc

pub waiting_not_served : (a b : Lent) (t back : Ticket) (host : ℕ) → IsPending a t.want (IsServed t.want host) → AskNotYet a b t back → ⊥
waiting_not_served a b t back host p m =
    let known = m.stands p.fresh (only_token a t.want p.holds.out) in
    let bad = stands_served a b m.others t.want host NotServed m.looks p.stands known in let e : Served bad.0 ≡ NotServed = bad.1 in cc

pub failed_not_served : (a b : Lent) (t : Ticket) (host : ℕ) → IsPending a t.want (IsServed t.want host) → AskFailed a b t → ⊥
failed_not_served a b t host p m = let bad = stands_served a b m.others t.want host NotComing m.looks p.stands m.stands in let e : Served bad.0 ≡ NotComing = bad.1 in cc

same_served : (x y : ConnRow) → Served x ≡ Served y → x ≡ y
same_served x y e = cc

pub row_taken : {C : Type 0} (link : C → LinkView) (a b : Lent) (t : Ticket) (l : Lease C) → AskTaken link a b t l → (row : ConnRow)
    → IsOut t.want a.number row (after a.limits a.seen) → row_of a.number l ≡ row
row_taken link a b t l m row out =
    let legal = legal_looked a b m.others m.looks in
    let here = out_stays a.limits a.seen m.others t.want a.number row legal m.looks.meets.foreign out in
    sym (same_served row (row_of a.number l) (sym (served_standing a.limits (a.seen ++ m.others) t.want a.number row legal here) ∙ m.stands))

pub leased_so : {C : Type 0} (link : C → LinkView) (a b : Lent) (t : Ticket) (l : Lease C) (P : ℕ → State → Type 0) → IsPending a t.want P
    → AskTaken link a b t l → IsLeased link b l
leased_so link a b t l P p m = record {
  holds = holds_after a b m.others (lent_to l.want ∷ []) m.looks.meets p.holds.running
      (m.leaves.out ∙ ap (λ o. change t.want leased o) p.holds.out ∙ leased_token t.want ∙ ap (λ n. lent_to n ∷ []) (sym m.want));
  few = m.looks.meets.few;
  lease = m.lease;
}

pub taken_done : {C : Type 0} (link : C → LinkView) (a b : Lent) (t : Ticket) (l : Lease C) (P : ℕ → State → Type 0) → IsPending a t.want P
    → AskTaken link a b t l → TakenStep link a b t.want l
taken_done link a b t l P p m = record {
  others = m.others;
  looks = m.looks;
  waits = m.leaves.waits;
  leased = leased_so link a b t l P p m;
  is_want = m.want;
  row = row_taken link a b t l m;
}
