-- The rounds of a wait for a connection, and how it ends.
use Rattle.std.proofs.Common.{ℕ, ◌≡◌, ◌≤◌, ◌+◌, ◌-◌, ◌^◌, min, true, false, [], Option, refl, ap, sym, subst, ◌∙◌, arith, inl, inr, ◌⊎◌}
use Rattle.std.proofs.lemmas.Bool.{eq-eqb}
use Rattle.gw_wire.specs.declared.values.Addr.{Addr}
use Rattle.gw_wire.specs.Causes.{Rose, RoseBy}
use Rattle.gw_wire.specs.Link.{LinkView}
use Rattle.gw_wire.specs.Wire.{WireView, NowStep, RestStep}
use Rattle.gw_wire.proofs.Facts.{later_then, Logs-then}
use Rattle.gw_pool.specs.declared.entry.Reply.{Reply}
use Rattle.gw_pool.specs.declared.entry.Reply.TheVariants as reply
use Rattle.gw_pool.specs.declared.leases.Lease.{Lease}
use Rattle.gw_pool.specs.declared.leases.Ticket.{Ticket}
use Rattle.gw_pool.specs.declared.rows.ConnRow.{ConnRow}
use Rattle.gw_pool.specs.History.{after}
use Rattle.gw_pool.specs.Keeps as keeps
use Rattle.gw_pool.specs.Keeps.{is_early}
use Rattle.gw_pool.specs.Lent.{Lent, AskTaken, AskGranted, AskNotYet, row_of}
use Rattle.gw_pool.specs.Tokens.{has_ticket}
use Rattle.gw_account.specs.Did.{span, Doing}
use Rattle.gw_account.specs.Work.{Work, At, Seq, at_of, behind, free}
use Rattle.gw_account.proofs.Facts.{doing_billed, doing_went, pays_by, wired_call}
use Rattle.gw_stream.specs.declared.guard.Sight.TheVariants as sight
use Rattle.gw_transport.specs.declared.leasing.Leased.{Leased}
use Rattle.gw_transport.specs.declared.leasing.Leased.TheVariants as leased
use Rattle.gw_stream.specs.Guard.{GuardGoes, GuardView, IsBefore, IsDue, LookStep}
use Rattle.gw_transport.specs.Leasing.{AnswerStands, DialedBy, DialedStep, GaveUpStep, IsAsked, IsPending, LeaseCause, Lateness, WaitedBy, WaitedStep, asked}
use Rattle.gw_transport.specs.Parts.{Way, Cancels, Comes, Fails, Fits, IsGiven, IsPlace, Sees, a_million_rests}
use Rattle.gw_transport.specs.Stretch.{Stretch}
use Rattle.gw_transport.proofs.CallLemmas.{leased_so, row_taken}
use Rattle.gw_stream.proofs.Facts.{guard_same}
use Rattle.gw_transport.proofs.SeqLemmas.{seq_map, sees_comes, sees_fails, sees_sees}
use Rattle.gw_transport.proofs.StretchLemmas.{part_looked, part_nothing, stretch_by, stretch_look, stretch_map, stretch_part, stretch_then}
use Rattle.gw_transport.proofs.WaitLemmas.{comes_early, granted_place, waiting_only}

pub record Waiting (old new : WireView) (from to : GuardView) (a b : Lent) (host want : ℕ) (answer : Reply) (held : Ticket) (now n : ℕ) : Type 0 where
  pub did : Stretch (span old new a b) from to (Sees free)
  pub held_is : held.want ≡ want
  pub asked : IsAsked b host held.want answer
  pub read : new.moment ≡ now
  pub rests : RoseBy n old.rests new.rests
  pub waits : RoseBy n a.waits b.waits
  pub waiting : (n ≡ 0) ⊎ (answer ≡ reply.Waiting want)

pub waiting_begins : (wire : WireView) (g : GuardView) (a : Lent) (host : ℕ) (answer : Reply) (held : Ticket) (now : ℕ) → wire.aged ≡ false → wire.moment ≡ now
    → g.last ≤ now → IsAsked a host held.want answer → Waiting wire wire g g a a host held.want answer held now 0
waiting_begins wire g a host answer held now fresh read le asked = record {
  did = stretch_part g (omega (arith, read)) (part_nothing wire a fresh);
  held_is = refl;
  asked = asked;
  read = read;
  rests = omega arith;
  waits = omega arith;
  waiting = inl refl;
}

pub held_token : (b : Lent) (host want : ℕ) (answer : Reply) → IsAsked b host want answer → has_ticket want b.out ≡ true
held_token b host want answer p = rw (p.holds.out, eq-eqb want want refl) refl

pub look_later : (old new : WireView) (from to : GuardView) (a b : Lent) (host want : ℕ) (answer : Reply) (held : Ticket) (now n : ℕ)
    → Waiting old new from to a b host want answer held now n → to.last ≤ now
look_later old new from to a b host want answer held now n w = let s = w.did.watched.goes.seen in let r = w.read in omega arith

-- a rest behind a look that let the trip go on
stretch_rest : (x y z : WireView) (h : GuardView) (c : Lent) (now : ℕ) → RestStep x y → NowStep y z now → IsBefore h.deadline x.moment → h.last ≤ x.moment
    → Stretch (span x z c c) h h (Sees free)
stretch_rest x y z h c now r n before le =
    let later = later_then x y z r.later n.later in
    record {
      work = record { acts = []; made = []; bill = free };
      doing = doing_went x z c (record { acts = []; made = []; bill = free }) n.aged (wired_call x z [] [] later (Logs-then x.log y.log z.log [] [] r.log n.log)) refl refl;
      watched = record {
        goes = guard_same h z.moment (let l = later.moment in omega arith);
        asked = inr (subst (λ (m : ℕ). IsBefore h.deadline m) (sym (n.asked ∙ r.asked)) before);
      };
      does = (refl, refl, refl);
    }

three_sees : (a : At) (w : Work) → Seq (Sees free) (Seq (Sees free) (Sees free)) a w → Sees free a w
three_sees a w s = sees_sees free free a w (seq_map (Sees free) (Seq (Sees free) (Sees free)) (Sees free) (Sees free) (λ x y z. z) (sees_sees free free) a w s)

four_sees : (a : At) (w : Work) → Seq (Sees free) (Seq (Sees free) (Seq (Sees free) (Sees free))) a w → Sees free a w
four_sees a w s =
    sees_sees free free a w (seq_map (Sees free) (Seq (Sees free) (Seq (Sees free) (Sees free))) (Sees free) (Sees free) (λ x y z. z) three_sees a w s)

waited_one : (b c : ℕ) → c ≡ min (b + 1) (2 ^ 64 - 1) → RoseBy 0 b c
waited_one b c e = rw e (omega arith)

waited_more : (n a b c : ℕ) → RoseBy n a b → c ≡ min (b + 1) (2 ^ 64 - 1) → RoseBy (n + 1) a c
waited_more n a b c r e = rw e (omega arith)

rested_more : (n a b c d : ℕ) → RoseBy n a b → Rose b c → c ≤ d → RoseBy (n + 1) a d
rested_more n a b c d r s le = omega arith

pub waiting_more : (old x y z : WireView) (f g h : GuardView) (a b c : Lent) (host want : ℕ) (answer : Reply) (held back : Ticket) (now next n : ℕ)
    → Waiting old x f g a b host want answer held now n → AskNotYet b c held back → LookStep g h now sight.On → RestStep x y → NowStep y z next
    → Waiting old z f h a c host want answer back next (n + 1)
waiting_more old x y z f g h a b c host want answer held back now next n w m l r k =
    let fresh = w.did.doing.fresh in
    let le = look_later old x f g a b host want answer held now n w in
    let only = waiting_only b c held back host answer w.asked m in
    let ask = stretch_part g (omega (arith, w.read, le)) (part_looked x b c m.others fresh m.looks (waited_one b.waits c.waits m.leaves.waits)) in
    let look = stretch_look x c g h now fresh w.read l.goes in
    let before : IsBefore h.deadline x.moment =
    (let P : ℕ → Type 0 = λ i. IsBefore h.deadline i in subst P (sym w.read) (let Q : Option ℕ → Type 0 = λ o. IsBefore o now in subst Q (sym l.goes.deadline) l.cause)) in
    let rest = stretch_rest x y z h c next r k before (let s = l.goes.seen in omega (arith, w.read)) in
    record {
      did = stretch_map (stretch_then w.did (stretch_then ask (stretch_then look rest))) four_sees;
      held_is = ap (λ (t : Ticket). t.want) m.same ∙ w.held_is;
      asked = only.1;
      read = k.given;
      rests = rested_more n old.rests x.rests y.rests z.rests w.rests r.rested k.later.rests;
      waits = waited_more n a.waits b.waits c.waits w.waits m.leaves.waits;
      waiting = inr (only.0 ∙ ap reply.Waiting w.held_is);
    }

-- ---- how it ends

rose_kept : (b c : ℕ) → c ≡ b → RoseBy 0 b c
rose_kept b c e = rw e (omega arith)

given_of : {C : Type 0} (link : C → LinkView) (b c : Lent) (host : ℕ) (t : Ticket) (l : Lease C) (answer : Reply)
    → AnswerStands host t.want answer b.number (after b.limits b.seen) → AskTaken link b c t l → IsGiven answer (row_of b.number l)
given_of link b c host t l (reply.Given w conn) k m = ap (λ (r : ConnRow). r.conn) (row_taken link b c t l m k.1.0 k.1.3) ∙ k.1.1
given_of link b c host t l (reply.Granted w) k m = tt
given_of link b c host t l (reply.Waiting w) k m = tt
given_of link b c host t l (reply.Expired n) k m = tt
given_of link b c host t l reply.Go k m = tt
given_of link b c host t l (reply.Kept d) k m = tt
given_of link b c host t l (reply.Offered d o) k m = tt
given_of link b c host t l (reply.Ended next) k m = tt
given_of link b c host t l (reply.Late next) k m = tt
given_of link b c host t l (reply.Gone next) k m = tt
given_of link b c host t l (reply.Returned d o) k m = tt
given_of link b c host t l (reply.Put o) k m = tt
given_of link b c host t l (reply.Dropped next) k m = tt
given_of link b c host t l (reply.Taken d) k m = tt

pub waited_taken : {C : Type 0} (link : C → LinkView) (old x : WireView) (f g : GuardView) (a b c : Lent) (host : ℕ) (backend : Addr) (want : ℕ) (answer : Reply) (held : Ticket) (now n : ℕ) (l : Lease C)
    → Waiting old x f g a b host want answer held now n → AskTaken link b c held l → WaitedStep link (span old x a c) f g (asked host backend want answer) (leased.Lease l)
waited_taken link old x f g a b c host backend want answer held now n l w m =
    let le = look_later old x f g a b host want answer held now n w in
    let ask = stretch_part g (omega (arith, w.read, le)) (part_looked x b c m.others w.did.doing.fresh m.looks (rose_kept b.waits c.waits m.leaves.waits)) in
    let T : ℕ → Type 0 = λ i. IsGiven answer (row_of i l) in
    let given : IsGiven answer (row_of a.number l) = subst T w.did.doing.pooled.number (given_of link b c host held l answer w.asked.stands m) in
    let both = stretch_then w.did ask in
    record {
      way = Way.ByOther;
      late = Lateness.ByDeadline;
      did = stretch_by both (m.want ∙ w.held_is, given, sees_sees free free (at_of old a) both.work both.does);
      cause = tt;
      left = leased_so link b c held l _ w.asked m;
    }

-- a place fits every way
fits_place : (want : ℕ) (answer : Reply) (row : ConnRow) (way : Way) → IsPlace want answer → Fits want answer row way
fits_place want (reply.Granted w) row Way.ByOther p = tt
fits_place want (reply.Waiting w) row Way.ByOther p = tt
fits_place want answer row (Way.ByDial link) p = p
fits_place want answer row Way.ByLate p = p
fits_place want (reply.Given w conn) row Way.ByOther p = absurd p
fits_place want (reply.Expired n) row Way.ByOther p = tt
fits_place want reply.Go row Way.ByOther p = tt
fits_place want (reply.Kept c) row Way.ByOther p = tt
fits_place want (reply.Offered c o) row Way.ByOther p = tt
fits_place want (reply.Ended next) row Way.ByOther p = tt
fits_place want (reply.Late next) row Way.ByOther p = tt
fits_place want (reply.Gone next) row Way.ByOther p = tt
fits_place want (reply.Returned c o) row Way.ByOther p = tt
fits_place want (reply.Put o) row Way.ByOther p = tt
fits_place want (reply.Dropped next) row Way.ByOther p = tt
fits_place want (reply.Taken c) row Way.ByOther p = tt

-- what came of a dial, said of the want that was made
dialed_as : {C : Type 0} (host : ℕ) (backend : Addr) (want held : ℕ) (answer : Reply) (way : Way) (result : Leased C) (a : At) (w : Work)
    → held ≡ want → IsPlace want answer → Seq (Sees free) (Seq (Sees free) (DialedBy host backend held way result)) a w
    → WaitedBy (asked host backend want answer) way Lateness.ByDeadline result a w
dialed_as host backend want held answer way (leased.Lease l) a w same place s =
    let t = s.4 in
    let row = row_of a.caller l in
    let T : ℕ → At → Work → Type 0 = λ i x y. Comes host backend i row way x y in
    let U : ℕ → Type 0 = λ i. Comes host backend i row way a w in
    let inner = sees_comes host backend held row way (behind a s.0) s.1 (t.0, t.1, t.2, t.3, t.4.1) in
    (t.4.0 ∙ same, fits_place want answer row way place, subst U same (sees_comes host backend held row way a w (s.0, s.1, s.2, s.3, inner)))
dialed_as host backend want held answer way leased.Unreachable a w same place s =
    let U : ℕ → Type 0 = λ i. Fails host backend i a w in
    let inner = sees_fails host backend held (behind a s.0) s.1 s.4 in
    (place, subst U same (sees_fails host backend held a w (s.0, s.1, s.2, s.3, inner)))
dialed_as host backend want held answer way leased.Full a w same place s = absurd s.4.4
dialed_as host backend want held answer way leased.Cancelled a w same place s = absurd s.4.4
dialed_as host backend want held answer way leased.Late a w same place s = absurd s.4.4

dialed_cause : {C : Type 0} (f g : GuardView) (moment : ℕ) (host : ℕ) (backend : Addr) (want : ℕ) (way : Way) (result : Leased C) (a : At) (w : Work)
    → DialedBy host backend want way result a w → LeaseCause f g moment Lateness.ByDeadline result
dialed_cause f g moment host backend want way (leased.Lease l) a w d = tt
dialed_cause f g moment host backend want way leased.Unreachable a w d = tt
dialed_cause f g moment host backend want way leased.Full a w d = absurd d
dialed_cause f g moment host backend want way leased.Cancelled a w d = absurd d
dialed_cause f g moment host backend want way leased.Late a w d = absurd d

pub waited_dialed : {C : Type 0} (link : C → LinkView) (old x z : WireView) (f g : GuardView) (a b c e : Lent) (host : ℕ) (backend : Addr) (want : ℕ) (answer : Reply) (held back : Ticket) (now n : ℕ) (result : Leased C)
    → Waiting old x f g a b host want answer held now n → AskGranted b c held back → DialedStep link (span x z c e) host backend back.want result
    → WaitedStep link (span old z a e) f g (asked host backend want answer) result
waited_dialed link old x z f g a b c e host backend want answer held back now n result w m d =
    let le = look_later old x f g a b host want answer held now n w in
    let low : g.last ≤ x.moment = omega (arith, w.read, le) in
    let same : back.want ≡ want = ap (λ (t : Ticket). t.want) m.same ∙ w.held_is in
    let T : ℕ → Type 0 = λ i. IsPlace i answer in
    let place : IsPlace want answer = subst T w.held_is (granted_place b c held back host answer w.asked m) in
    let ask = stretch_part g low (part_looked x b c m.others w.did.doing.fresh m.looks (rose_kept b.waits c.waits m.leaves.waits)) in
    let dial = stretch_part g low d.did in
    record {
      way = d.way;
      late = Lateness.ByDeadline;
      did = stretch_map (stretch_then w.did (stretch_then ask dial)) (λ y v s. dialed_as host backend want back.want answer d.way result y v same place s);
      cause = dialed_cause f g z.moment host backend back.want d.way result _ d.did.work d.did.does;
      left = d.left;
    }

-- the ask that found it waiting, a look that stopped the trip, and the want given up
stopped : (old x z : WireView) (f g h : GuardView) (a b c e : Lent) (host want : ℕ) (answer : Reply) (held back : Ticket) (now n : ℕ)
    → Waiting old x f g a b host want answer held now n → AskNotYet b c held back → GuardGoes g h now → GaveUpStep (span x z c e) back.want
    → Stretch (span old z a e) f h (Seq (Sees free) (Cancels want))
stopped old x z f g h a b c e host want answer held back now n w m goes up =
    let fresh = w.did.doing.fresh in
    let le = look_later old x f g a b host want answer held now n w in
    let same : back.want ≡ want = ap (λ (t : Ticket). t.want) m.same ∙ w.held_is in
    let ask = stretch_part g (omega (arith, w.read, le)) (part_looked x b c m.others fresh m.looks (waited_one b.waits c.waits m.leaves.waits)) in
    let look = stretch_look x c g h now fresh w.read goes in
    let seen = stretch_map (stretch_then w.did (stretch_then ask look)) three_sees in
    let cancel = stretch_part h (let s = goes.seen in omega (arith, w.read)) up.did in
    let T : ℕ → Type 0 = λ i. Stretch (span old z a e) f h (Seq (Sees free) (Cancels i)) in
    subst T same (stretch_then seen cancel)

waits_place : (want : ℕ) (answer : Reply) → answer ≡ reply.Waiting want → IsPlace want answer
waits_place want answer e = let T : Reply → Type 0 = λ r. IsPlace want r in subst T (sym e) refl

answer_waits : (old x : WireView) (f g : GuardView) (a b c : Lent) (host want : ℕ) (answer : Reply) (held back : Ticket) (now n : ℕ)
    → Waiting old x f g a b host want answer held now n → AskNotYet b c held back → IsPlace want answer
answer_waits old x f g a b c host want answer held back now n w m =
    waits_place want answer ((waiting_only b c held back host answer w.asked m).0 ∙ ap reply.Waiting w.held_is)

pub rose_from : (a b c : ℕ) → a ≤ b → Rose b c → Rose a c
rose_from a b c le r = omega arith

pub waited_cancelled : {C : Type 0} (link : C → LinkView) (old x z : WireView) (f g h : GuardView) (a b c e : Lent) (host : ℕ) (backend : Addr) (want : ℕ) (answer : Reply) (held back : Ticket) (now n : ℕ)
    → Waiting old x f g a b host want answer held now n → AskNotYet b c held back → LookStep g h now sight.Cancelled → GaveUpStep (span x z c e) back.want
    → WaitedStep {C = C} link (span old z a e) f h (asked host backend want answer) leased.Cancelled
waited_cancelled link old x z f g h a b c e host backend want answer held back now n w m l up =
    let place = answer_waits old x f g a b c host want answer held back now n w m in
    record {
      way = Way.ByOther;
      late = Lateness.ByDeadline;
      did = stretch_map (stopped old x z f g h a b c e host want answer held back now n w m l.goes up) (λ y v s. (place, s));
      cause = rose_from f.cancels g.cancels h.cancels w.did.watched.goes.cancels l.cause;
      left = up.rested;
    }

pub waited_due : {C : Type 0} (link : C → LinkView) (old x z : WireView) (f g h : GuardView) (a b c e : Lent) (host : ℕ) (backend : Addr) (want : ℕ) (answer : Reply) (held back : Ticket) (now n : ℕ)
    → Waiting old x f g a b host want answer held now n → AskNotYet b c held back → LookStep g h now sight.Late → GaveUpStep (span x z c e) back.want
    → WaitedStep {C = C} link (span old z a e) f h (asked host backend want answer) leased.Late
waited_due link old x z f g h a b c e host backend want answer held back now n w m l up =
    let place = answer_waits old x f g a b c host want answer held back now n w m in
    let P : ℕ → Type 0 = λ i. IsDue f.deadline i in
    let Q : Option ℕ → Type 0 = λ o. IsDue o now in
    record {
      way = Way.ByOther;
      late = Lateness.ByDeadline;
      did = stretch_map (stopped old x z f g h a b c e host want answer held back now n w m l.goes up) (λ y v s. (place, s));
      cause = subst P (sym (up.moment ∙ w.read)) (subst Q w.did.watched.goes.deadline l.cause);
      left = up.rested;
    }

-- a million rests are paid for
million_waits : (old x : WireView) (f g : GuardView) (a b : Lent) → Stretch (span old x a b) f g (Sees free) → RoseBy 1000000 old.rests x.rests
    → RoseBy 1000000 a.waits b.waits → Stretch (span old x a b) f g (Sees a_million_rests)
million_waits old x f g a b s rests waits =
    let w = s.work in
    let d : Doing (span old x a b) (record w { bill = free }) =
    (let T : Work → Type 0 = λ v. Doing (span old x a b) v in subst T (λ i. record { acts = w.acts; made = w.made; bill = s.does.2 i }) s.doing) in
    let p = pays_by old x a b (record w { bill = free }) d in
    record {
      work = record w { bill = a_million_rests };
      doing = doing_billed old x a b (record w { bill = free }) a_million_rests d d.wired.dials
          (record { millis = p.millis; ticks = p.ticks; rests = rests; waits = waits; said = p.said });
      watched = s.watched;
      does = (s.does.0, s.does.1, refl);
    }

was_waiting : (n want : ℕ) (answer : Reply) → n ≡ 1000000 → (n ≡ 0) ⊎ (answer ≡ reply.Waiting want) → answer ≡ reply.Waiting want
was_waiting n want answer e (inl none) = absurd (let z : 0 ≡ 1000000 = sym none ∙ e in omega (arith, z))
was_waiting n want answer e (inr is) = is

pub waited_out : {C : Type 0} (link : C → LinkView) (old x z : WireView) (f g : GuardView) (a b e : Lent) (host : ℕ) (backend : Addr) (want : ℕ) (answer : Reply) (held : Ticket) (now n : ℕ)
    → n ≡ 1000000 → Waiting old x f g a b host want answer held now n → GaveUpStep (span x z b e) held.want
    → WaitedStep {C = C} link (span old z a e) f g (asked host backend want answer) leased.Late
waited_out link old x z f g a b e host backend want answer held now n all w up =
    let le = look_later old x f g a b host want answer held now n w in
    let X : ℕ → Type 0 = λ i. RoseBy i old.rests x.rests in
    let Y : ℕ → Type 0 = λ i. RoseBy i a.waits b.waits in
    let paid = million_waits old x f g a b w.did (subst X all w.rests) (subst Y all w.waits) in
    let is = was_waiting n want answer all w.waiting in
    let T : ℕ → Type 0 = λ i. Stretch (span old z a e) f g (Seq (Sees a_million_rests) (Cancels i)) in
    let both = subst T w.held_is (stretch_then paid (stretch_part g (omega (arith, w.read, le)) up.did)) in
    record {
      way = Way.ByOther;
      late = Lateness.ByRests;
      did = stretch_map both (λ y v s. (is, s));
      cause = tt;
      left = up.rested;
    }

-- what a want that is given up asks for
pub still_early : (c : Lent) (host want : ℕ) (answer : Reply) → IsAsked c host want answer → (at : ℕ) × IsPending c want (keeps.Comes is_early want at)
still_early c host want answer p = (
  host,
  record {
    holds = p.holds;
    few = p.few;
    fresh = p.fresh;
    stands = comes_early host want c.number answer (after c.limits c.seen) p.stands;
  },
)

pub may_cancel : (b c : Lent) (host : ℕ) (answer : Reply) (held back : Ticket) → IsAsked b host held.want answer → AskNotYet b c held back
    → (at : ℕ) × IsPending c back.want (keeps.Comes is_early back.want at)
may_cancel b c host answer held back p m = still_early c host back.want answer (waiting_only b c held back host answer p m).1
