-- The connection that is due, and wants until one is made.
use Rattle.std.proofs.Common.{ℕ, suc, ◌≡◌, ◌<◌, ◌+◌, true, false, List, [], ◌∷◌, ◌++◌, Option, Some, None, refl, ap, sym, subst, ◌∙◌, arith, inl, inr, append-nil}
use Rattle.gw_wire.specs.Causes.{RoseBy}
use Rattle.gw_wire.specs.Link.{LinkView}
use Rattle.gw_wire.specs.Wire.{WireView, CloseStep}
use Rattle.gw_pool.specs.declared.entry.Call.TheVariants as call
use Rattle.gw_pool.specs.declared.entry.Entry.{Entry}
use Rattle.gw_pool.specs.declared.entry.Reply.{Reply}
use Rattle.gw_pool.specs.declared.entry.Reply.TheVariants as reply
use Rattle.gw_pool.specs.declared.leases.Ticket.{Ticket}
use Rattle.gw_pool.specs.declared.rows.ConnRow.{ConnRow}
use Rattle.gw_pool.specs.declared.rows.Stage.{Stage}
use Rattle.gw_pool.specs.declared.rows.Stage.TheVariants as stages
use Rattle.gw_pool.specs.Closes.{IsOf}
use Rattle.gw_pool.specs.Gone.{link_of, WantLeaves}
use Rattle.gw_pool.specs.History.{IsLegal, after, refuses}
use Rattle.gw_pool.specs.Keeps.{IsOut, IsWanted, StandsNew, is_early}
use Rattle.gw_pool.specs.Lent.{Lent, IdleStep, IsMade, WantExpired, WantFull, WantMade, entry_of}
use Rattle.gw_pool.specs.Machine.{step}
use Rattle.gw_pool.specs.Places.{is_granted, is_waiting}
use Rattle.gw_pool.specs.State.{State}
use Rattle.gw_pool.specs.Tokens.{ticket_of}
use Rattle.gw_pool.proofs.Facts.{expire_says, made_stands, want_leaves}
use Rattle.gw_account.specs.Did.{span}
use Rattle.gw_account.specs.Work.{Work, At, and, behind, free}
use Rattle.gw_account.proofs.Facts.{doing_billed, looked, pays_by}
use Rattle.gw_transport.specs.declared.leasing.Wanted.TheVariants as wanted
use Rattle.gw_transport.specs.Leasing.{AnswerStands, ExpiredStep, IsAsked, IsRested, LeftStep, WantedStep}
use Rattle.gw_transport.specs.Parts.{Anywhere, Closes, FindsExpired, Hands, HasRoom, IsRefused, NoneIsDue, Repeats, Wants}
use Rattle.gw_transport.specs.Stretch.{Part}
use Rattle.gw_transport.proofs.CallLemmas.{holds_after, is_link, left_some, no_closes, rested_after}
use Rattle.gw_transport.proofs.SeqLemmas.{sees_sees}
use Rattle.gw_transport.proofs.StretchLemmas.{part_called, part_map, part_nothing, part_then, part_went}

-- behind the closes of nothing all stands
due_nothing : (at : ℕ) (a : At) (w u v : Work) → w ≡ and u v → NoneIsDue at a u → Closes [] (behind a u) v → NoneIsDue at a w
due_nothing at a w u v e k c =
    let T : List Entry → Type 0 = λ h. step a.limits (after a.limits (a.history ++ h)) a.caller (call.Expire at) ≡ None in
    let made : w.made ≡ u.made = ap (λ (x : Work). x.made) e ∙ ap (λ m. u.made ++ m) c.0 ∙ append-nil u.made in
    (sees_sees free free a w (u, v, e, k.0, no_closes (behind a u) v c), subst T (sym made) k.1)

pub expired_done : {C : Type 0} (link : C → LinkView) (old new : WireView) (a b : Lent) (now : ℕ) (left : Option C)
    → old.aged ≡ false → old.moment ≡ now → IsRested a → IdleStep link a b (call.Expire now) left → LeftStep link old new left
    → ExpiredStep (span old new a b) now
expired_done link old new a b now None fresh read r m l =
    let due : Part (span old old a b) (NoneIsDue now) = record {
      work = record { acts = []; made = m.others; bill = free };
      doing = looked old a b m.others fresh m.looks (rw m.leaves.waits (omega arith));
      asked = refl;
      does = ((m.looks.meets.foreign, refl, refl), m.unfit a.number);
    } in
    record {
      did = part_map (part_then due (part_went b l.went l.asked)) (λ t w s. inl (due_nothing now t w s.0 s.1 s.2 s.3 s.4));
      moment = l.moment;
      rested = rested_after a b m.others m.looks.meets r (m.leaves.out ∙ r.holds.out);
    }
expired_done link old new a b now (Some conn) fresh read r m l =
    let said = expire_says a.limits _ a.number now m.outcome m.calls.fits in
    let links = (link conn).number ∷ [] in
    let made = part_called Anywhere old a b m.others (call.Expire now) m.outcome links fresh (ap (λ n. n ∷ []) (sym read)) m.calls m.leaves.waits tt
    (is_link link conn m.outcome.gone m.close) in
    record {
      did = part_map (part_then made (part_went b l.went l.asked))
          (λ t w s. let T : Reply → Type 0 = λ x. Hands Anywhere (call.Expire now) x t w in inr (said.0, subst T said.1 (links, s)));
      moment = l.moment;
      rested = rested_after a b m.others m.calls.meets r (m.leaves.out ∙ r.holds.out);
    }

-- ---- wants until one is made

none_of : {C : Type 0} (link : C → LinkView) (conn : C) (left : Option ConnRow) → left ≡ None → IsOf link conn left → ⊥
none_of link conn left e is = subst (λ (o : Option ConnRow). IsOf link conn o) e is

expired_says : {C : Type 0} (link : C → LinkView) (conn : C) (answer : Reply) (left : Option ConnRow) → WantLeaves answer left → IsOf link conn left
    → (n : ℕ) × (answer ≡ reply.Expired n)
expired_says link conn (reply.Expired n) left l is = (n, refl)
expired_says link conn (reply.Given w c) left l is = absurd (none_of link conn left l is)
expired_says link conn (reply.Granted w) left l is = absurd (none_of link conn left l is)
expired_says link conn (reply.Waiting w) left l is = absurd (none_of link conn left l is)
expired_says link conn reply.Go left l is = absurd (none_of link conn left l is)
expired_says link conn (reply.Kept c) left l is = absurd (none_of link conn left l is)
expired_says link conn (reply.Offered c o) left l is = absurd (none_of link conn left l is)
expired_says link conn (reply.Ended next) left l is = absurd (none_of link conn left l is)
expired_says link conn (reply.Late next) left l is = absurd (none_of link conn left l is)
expired_says link conn (reply.Gone next) left l is = absurd (none_of link conn left l is)
expired_says link conn (reply.Returned c o) left l is = absurd (none_of link conn left l is)
expired_says link conn (reply.Put o) left l is = absurd (none_of link conn left l is)
expired_says link conn (reply.Dropped next) left l is = absurd (none_of link conn left l is)
expired_says link conn (reply.Taken c) left l is = absurd (none_of link conn left l is)

-- a want that was made hands nothing out
made_leaves : (want : ℕ) (answer : Reply) (left : Option ConnRow) → WantLeaves answer left → IsMade want answer → left ≡ None
made_leaves want (reply.Given w c) left l is = l
made_leaves want (reply.Granted w) left l is = l
made_leaves want (reply.Waiting w) left l is = l
made_leaves want (reply.Expired n) left l is = absurd is
made_leaves want reply.Go left l is = absurd is
made_leaves want (reply.Kept c) left l is = absurd is
made_leaves want (reply.Offered c o) left l is = absurd is
made_leaves want (reply.Ended next) left l is = absurd is
made_leaves want (reply.Late next) left l is = absurd is
made_leaves want (reply.Gone next) left l is = absurd is
made_leaves want (reply.Returned c o) left l is = absurd is
made_leaves want (reply.Put o) left l is = absurd is
made_leaves want (reply.Dropped next) left l is = absurd is
made_leaves want (reply.Taken c) left l is = absurd is

waiting_early : (stage : Stage) → is_waiting stage ≡ true → is_early stage ≡ true
waiting_early stages.Waiting e = refl
waiting_early stages.Granted e = refl
waiting_early stages.Dialing e = e

-- how a want that was just made stands
asked_stands : (host want caller : ℕ) (answer : Reply) (s : State) → IsMade want answer → StandsNew host caller answer s → AnswerStands host want answer caller s
asked_stands host want caller (reply.Given w conn) s is n =
    (is, (n.0, n.1, n.2, subst (λ (v : ℕ). IsOut v caller n.0 s) is n.3))
asked_stands host want caller (reply.Granted w) s is n = (is, inl (subst (λ (v : ℕ). IsWanted is_granted v host caller s) is n))
asked_stands host want caller (reply.Waiting w) s is n =
    let k = subst (λ (v : ℕ). IsWanted is_waiting v host caller s) is n in
    (is, inl (record { row = k.row; there = k.there; is_want = k.is_want; is_host = k.is_host; by = k.by; stage = waiting_early k.row.stage k.stage }))
asked_stands host want caller (reply.Expired n) s is k = absurd is
asked_stands host want caller reply.Go s is k = absurd is
asked_stands host want caller (reply.Kept c) s is k = absurd is
asked_stands host want caller (reply.Offered c o) s is k = absurd is
asked_stands host want caller (reply.Ended next) s is k = absurd is
asked_stands host want caller (reply.Late next) s is k = absurd is
asked_stands host want caller (reply.Gone next) s is k = absurd is
asked_stands host want caller (reply.Returned c o) s is k = absurd is
asked_stands host want caller (reply.Put o) s is k = absurd is
asked_stands host want caller (reply.Dropped next) s is k = absurd is
asked_stands host want caller (reply.Taken c) s is k = absurd is

pub record Wanting (old new : WireView) (a b : Lent) (host n : ℕ) : Type 0 where
  pub did : Part (span old new a b) (Repeats n (FindsExpired host))
  pub moment : new.moment ≡ old.moment
  pub rested : IsRested b

pub wanting_begins : (wire : WireView) (a : Lent) (host : ℕ) → wire.aged ≡ false → IsRested a → Wanting wire wire a a host 0
wanting_begins wire a host fresh r = record { did = part_nothing wire a fresh; moment = refl; rested = r }

pub wanting_more : {C : Type 0} (link : C → LinkView) (old mid new : WireView) (a b c : Lent) (host now n : ℕ) (conn : C)
    → old.moment ≡ now → Wanting old mid a b host n → WantExpired link b c host now conn → CloseStep mid new (link conn).number
    → Wanting old new a c host (n + 1)
wanting_more link old mid new a b c host now n conn read w m s =
    let fresh = w.did.doing.fresh in
    let links = (link conn).number ∷ [] in
    let said = expired_says link conn m.outcome.reply m.outcome.gone (want_leaves b.limits _ b.number host now m.outcome m.calls.fits) m.close in
    let made = part_called HasRoom mid b c m.others (call.Want host now) m.outcome links fresh (ap (λ k. k ∷ []) (sym (w.moment ∙ read))) m.calls m.leaves.waits
    m.room (is_link link conn m.outcome.gone m.close) in
    let left = left_some link mid new conn fresh s in
    let one : Part (span mid new b c) (FindsExpired host) =
    part_map (part_then made (part_went c left.went left.asked))
    (λ t v p. let T : Reply → Type 0 = λ x. Hands HasRoom (call.Want host now) x t v in (now, said.0, subst T said.1 (links, p))) in
    let next : suc n ≡ n + 1 = omega arith in
    record {
      did = subst (λ (k : ℕ). Part (span old new a c) (Repeats k (FindsExpired host))) next (part_then w.did one);
      moment = s.moment ∙ w.moment;
      rested = rested_after b c m.others m.calls.meets w.rested (m.leaves.out ∙ w.rested.holds.out);
    }

-- what is known behind the call that made a want
asked_so : (b c : Lent) (host now : ℕ) (t : Ticket) → IsRested b → (m : WantMade b c host now t) → IsAsked c host t.want m.outcome.reply
asked_so b c host now t r m =
    let calls = m.calls in
    let entry = entry_of b.number (call.Want host now) m.outcome.reply in
    let P : List Entry → Type 0 = λ h. IsLegal c.limits h in
    let legal : IsLegal c.limits ((b.seen ++ m.others) ++ entry ∷ []) = subst P calls.seen calls.meets.legal in
    let stands = made_stands c.limits (b.seen ++ m.others) b.number host now m.outcome.reply legal in
    let Q : List Entry → Type 0 = λ h. StandsNew host b.number m.outcome.reply (after c.limits h) in
    let here = subst Q (sym calls.seen) stands in
    let R : ℕ → Type 0 = λ k. AnswerStands host t.want m.outcome.reply k (after c.limits c.seen) in
    record {
      holds = holds_after b c m.others (ticket_of t.want ∷ []) calls.meets r.holds.running (m.leaves.out ∙ ap (λ o. o ++ ticket_of t.want ∷ []) r.holds.out);
      few = calls.meets.few;
      fresh = m.fresh;
      stands = subst R (sym calls.meets.number) (asked_stands host t.want b.number m.outcome.reply (after c.limits c.seen) m.made here);
    }

pub wanted_made : (old new : WireView) (a b c : Lent) (host now n : ℕ) (t : Ticket) → old.moment ≡ now → Wanting old new a b host n → n < 1000000
    → WantMade b c host now t → WantedStep (span old new a c) host (wanted.Ticket t)
wanted_made old new a b c host now n t read w few m =
    let answer = m.outcome.reply in
    let none = made_leaves t.want answer m.outcome.gone (want_leaves b.limits _ b.number host now m.outcome m.calls.fits) m.made in
    let made = part_called HasRoom new b c m.others (call.Want host now) m.outcome [] w.did.doing.fresh (ap (λ k. k ∷ []) (sym (w.moment ∙ read))) m.calls m.leaves.waits
    m.room (ap link_of none) in
    let one : Part (span new new b c) (Wants host t.want answer) = part_map made (λ x y z. (m.made, (now, z))) in
    record {
      answer = answer;
      did = part_map (part_then w.did one) (λ x y z. (n, few, z));
      moment = w.moment;
      left = asked_so b c host now t w.rested m;
    }

part_refused : (wire : WireView) (b c : Lent) → wire.aged ≡ false → WantFull b c → Part (span wire wire b c) IsRefused
part_refused wire b c fresh m =
    let waits : RoseBy 0 b.waits c.waits = rw m.leaves.waits (omega arith) in
    let d = looked wire b c m.others fresh m.looks waits in
    let p = pays_by wire wire b c _ d in
    let full : refuses b.limits (b.seen ++ m.others) ≡ true =
    ap (λ h. refuses b.limits h) (sym m.looks.seen) ∙ ap (λ l. refuses l c.seen) (sym m.looks.meets.limits) ∙ m.full in
    record {
      work = record { acts = []; made = m.others; bill = record free { refused = 1 } };
      doing = doing_billed wire wire b c (record { acts = []; made = m.others; bill = free }) (record free { refused = 1 }) d d.wired.dials
          (record { millis = p.millis; ticks = p.ticks; rests = p.rests; waits = p.waits; said = p.said });
      asked = refl;
      does = ((m.looks.meets.foreign, refl, refl), full);
    }

pub wanted_full : (old new : WireView) (a b c : Lent) (host n : ℕ) → Wanting old new a b host n → n < 1000000 → WantFull b c
    → WantedStep (span old new a c) host wanted.Full
wanted_full old new a b c host n w few m = record {
  answer = reply.Go;
  did = part_map (part_then w.did (part_refused new b c w.did.doing.fresh m)) (λ x y z. (n, few, z));
  moment = w.moment;
  left = rested_after b c m.others m.looks.meets w.rested (m.leaves.out ∙ w.rested.holds.out);
}

pub wanted_late : (old new : WireView) (a b : Lent) (host : ℕ) → Wanting old new a b host 1000000 → WantedStep (span old new a b) host wanted.Late
wanted_late old new a b host w = record { answer = reply.Go; did = w.did; moment = w.moment; left = w.rested }
