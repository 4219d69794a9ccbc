-- The way to a connection as a whole.
use Rattle.std.proofs.Common.{ℕ, ◌≡◌, ◌≤◌, Option, sym, subst, arith, inl, inr}
use Rattle.gw_wire.specs.declared.values.Addr.{Addr}
use Rattle.gw_wire.specs.Link.{LinkView}
use Rattle.gw_wire.specs.Wire.{WireView, NowStep}
use Rattle.gw_pool.specs.declared.entry.Reply.{Reply}
use Rattle.gw_pool.specs.declared.leases.Ticket.{Ticket}
use Rattle.gw_pool.specs.Lent.{Lent, row_of}
use Rattle.gw_account.specs.Did.{span}
use Rattle.gw_account.specs.Work.{Work, At, Seq, and, behind, free}
use Rattle.gw_stream.specs.declared.guard.Sight.TheVariants as sight
use Rattle.gw_transport.specs.declared.leasing.Leased.{Leased}
use Rattle.gw_transport.specs.declared.leasing.Leased.TheVariants as leased
use Rattle.gw_transport.specs.declared.leasing.Wanted.TheVariants as wanted
use Rattle.gw_stream.specs.Guard.{GuardGoes, GuardView, IsDue, LookStep}
use Rattle.gw_transport.specs.Leasing.{Clearing, IsRested, Lateness, LeaseCause, LeasedBy, LeasedStep, Stops, WaitedBy, WaitedStep, WantedStep, asked}
use Rattle.gw_transport.specs.Parts.{Way, Comes, FindsExpired, Fits, GivesUp, IsPlace, IsRefused, IsWaiting, Leases, Repeats, Sees, Unreached, Wants, a_million_rests}
use Rattle.gw_transport.specs.Stretch.{Stretch}
use Rattle.gw_transport.proofs.EndLemmas.{part_now}
use Rattle.gw_transport.proofs.RestLemmas.{rose_from}
use Rattle.gw_transport.proofs.SeqLemmas.{seq_right, sees_repeats, sees_seq, sees_sees}
use Rattle.gw_transport.proofs.StretchLemmas.{stretch_look, stretch_map, stretch_part, stretch_then}

-- the clock is read and the guard looked at
begun : (old x : WireView) (f g : GuardView) (a : Lent) (now : ℕ) → f.last ≤ old.moment → NowStep old x now → GuardGoes f g now
    → Stretch (span old x a a) f g (Sees free)
begun old x f g a now le n goes =
    stretch_map (stretch_then (stretch_part f le (part_now old x a now n)) (stretch_look x a f g now n.aged n.given goes)) (sees_sees free free)

pub leased_cancelled : {C : Type 0} (link : C → LinkView) (old x : WireView) (f g : GuardView) (a : Lent) (host : ℕ) (backend : Addr) (now : ℕ) → f.last ≤ old.moment
    → NowStep old x now → LookStep f g now sight.Cancelled → IsRested a → LeasedStep {C = C} link (span old x a a) f g host backend leased.Cancelled
leased_cancelled link old x f g a host backend now le n l r = record {
  late = Lateness.ByDeadline;
  did = stretch_map (begun old x f g a now le n l.goes) (λ y w s. inl s);
  cause = l.cause;
  left = r;
}

pub leased_due : {C : Type 0} (link : C → LinkView) (old x : WireView) (f g : GuardView) (a : Lent) (host : ℕ) (backend : Addr) (now : ℕ) → f.last ≤ old.moment
    → NowStep old x now → LookStep f g now sight.Late → IsRested a → LeasedStep {C = C} link (span old x a a) f g host backend leased.Late
leased_due link old x f g a host backend now le n l r = record {
  late = Lateness.ByDeadline;
  did = stretch_map (begun old x f g a now le n l.goes) (λ y w s. inl s);
  cause = (let P : ℕ → Type 0 = λ i. IsDue f.deadline i in subst P (sym n.given) l.cause);
  left = r;
}

sees_clearing : (host : ℕ) (P : At → Work → Type 0) (a : At) (w : Work) → Seq (Sees free) (Clearing host P) a w → Clearing host P a w
sees_clearing host P a w s =
    let t = s.4 in
    (t.0, t.1, sees_seq (Repeats t.0 (FindsExpired host)) P (sees_repeats t.0 (FindsExpired host)) a w (s.0, s.1, s.2, s.3, t.2))

pub leased_full : {C : Type 0} (link : C → LinkView) (old x y : WireView) (f g : GuardView) (a b : Lent) (host : ℕ) (backend : Addr) (now : ℕ) → f.last ≤ old.moment
    → NowStep old x now → LookStep f g now sight.On → WantedStep (span x y a b) host wanted.Full → LeasedStep {C = C} link (span old y a b) f g host backend leased.Full
leased_full link old x y f g a b host backend now le n l w = record {
  late = Lateness.ByDeadline;
  did = stretch_map (stretch_then (begun old x f g a now le n l.goes) (stretch_part g (let s = l.goes.seen in let e = n.given in omega arith) w.did)) (sees_clearing host IsRefused);
  cause = tt;
  left = w.left;
}

pub leased_expired : {C : Type 0} (link : C → LinkView) (old x y : WireView) (f g : GuardView) (a b : Lent) (host : ℕ) (backend : Addr) (now : ℕ) → f.last ≤ old.moment
    → NowStep old x now → LookStep f g now sight.On → WantedStep (span x y a b) host wanted.Late → LeasedStep {C = C} link (span old y a b) f g host backend leased.Late
leased_expired link old x y f g a b host backend now le n l w = record {
  late = Lateness.ByExpired;
  did = stretch_map (stretch_then (begun old x f g a now le n l.goes) (stretch_part g (let s = l.goes.seen in let e = n.given in omega arith) w.did)) (sees_repeats 1000000 (FindsExpired host));
  cause = tt;
  left = w.left;
}

-- ---- a want that was made

leased_as : {C : Type 0} (host : ℕ) (backend : Addr) (want : ℕ) (answer : Reply) (way : Way) (late : Lateness) (result : Leased C) (a : At) (w : Work)
    → Seq (Clearing host (Wants host want answer)) (WaitedBy (asked host backend want answer) way late result) a w → LeasedBy host backend late result a w
leased_as host backend want answer way late (leased.Lease l) a w s =
    let count = s.3.0 in
    let r = seq_right (Repeats count (FindsExpired host)) (Wants host want answer) (WaitedBy (asked host backend want answer) way late (leased.Lease l)) a w (s.0, s.1, s.2, s.3.2, s.4) in
    let t = r.4 in
    let row = row_of a.caller l in
    let same : want ≡ l.want = sym t.4.0 in
    let F : ℕ → Type 0 = λ i. Fits i answer row way in
    let W : ℕ → Type 0 = λ i. Wants host i answer (behind a r.0) t.0 in
    let K : ℕ → Type 0 = λ i. Comes host backend i row way (behind (behind a r.0) t.0) t.1 in
    (count, s.3.1, (r.0, r.1, r.2, r.3, (answer, way, subst F same t.4.1, (t.0, t.1, t.2, subst W same t.3, subst K same t.4.2))))
leased_as {C = C} host backend want answer way late leased.Unreachable a w s =
    let count = s.3.0 in
    let r = seq_right (Repeats count (FindsExpired host)) (Wants host want answer) (WaitedBy {C = C} (asked host backend want answer) way late leased.Unreachable) a w (s.0, s.1, s.2, s.3.2, s.4) in
    let t = r.4 in
    (count, s.3.1, (r.0, r.1, r.2, r.3, (want, answer, t.4.0, (t.0, t.1, t.2, t.3, t.4.1))))
leased_as host backend want answer way late leased.Full a w s = absurd s.4
leased_as {C = C} host backend want answer way late leased.Cancelled a w s =
    let count = s.3.0 in
    let r = seq_right (Repeats count (FindsExpired host)) (Wants host want answer) (WaitedBy {C = C} (asked host backend want answer) way late leased.Cancelled) a w (s.0, s.1, s.2, s.3.2, s.4) in
    let t = r.4 in
    inr (count, s.3.1, (r.0, r.1, r.2, r.3, (want, answer, t.4.0, (t.0, t.1, t.2, t.3, t.4.1))))
leased_as {C = C} host backend want answer way Lateness.ByDeadline leased.Late a w s =
    let count = s.3.0 in
    let r = seq_right (Repeats count (FindsExpired host)) (Wants host want answer) (WaitedBy {C = C} (asked host backend want answer) way Lateness.ByDeadline leased.Late) a w (s.0, s.1, s.2, s.3.2, s.4) in
    let t = r.4 in
    inr (count, s.3.1, (r.0, r.1, r.2, r.3, (want, answer, t.4.0, (t.0, t.1, t.2, t.3, t.4.1))))
leased_as {C = C} host backend want answer way Lateness.ByRests leased.Late a w s =
    let count = s.3.0 in
    let r = seq_right (Repeats count (FindsExpired host)) (Wants host want answer) (WaitedBy {C = C} (asked host backend want answer) way Lateness.ByRests leased.Late) a w (s.0, s.1, s.2, s.3.2, s.4) in
    let t = r.4 in
    (count, s.3.1, (r.0, r.1, r.2, r.3, (want, answer, t.4.0, (t.0, t.1, t.2, t.3, t.4.1))))
leased_as {C = C} host backend want answer way Lateness.ByExpired leased.Late a w s = absurd s.4
leased_as {C = C} host backend want answer way Lateness.ByTicks leased.Late a w s = absurd s.4

stops_of : (host : ℕ) (a : At) (w u v : Work) → w ≡ and u v → Sees free a u → Stops host (behind a u) v → Stops host a w
stops_of host a w u v e s (inl k) = inl (sees_sees free free a w (u, v, e, s, k))
stops_of host a w u v e s (inr k) = inr (sees_clearing host (GivesUp host free IsPlace) a w (u, v, e, s, k))

sees_stops : (host : ℕ) (a : At) (w : Work) → Seq (Sees free) (Stops host) a w → Stops host a w
sees_stops host a w s = stops_of host a w s.0 s.1 s.2 s.3 s.4

sees_leased : {C : Type 0} (host : ℕ) (backend : Addr) (late : Lateness) (result : Leased C) (a : At) (w : Work)
    → Seq (Sees free) (LeasedBy host backend late result) a w → LeasedBy host backend late result a w
sees_leased host backend late (leased.Lease l) a w s =
    let t = s.4 in
    (t.0, t.1, sees_seq (Repeats t.0 (FindsExpired host)) (Leases host backend l.want (row_of a.caller l)) (sees_repeats t.0 (FindsExpired host)) a w (s.0, s.1, s.2, s.3, t.2))
sees_leased host backend late leased.Unreachable a w s = sees_clearing host (Unreached host backend) a w s
sees_leased host backend late leased.Full a w s = sees_clearing host IsRefused a w s
sees_leased host backend late leased.Cancelled a w s = sees_stops host a w s
sees_leased host backend Lateness.ByDeadline leased.Late a w s = sees_stops host a w s
sees_leased host backend Lateness.ByRests leased.Late a w s = sees_clearing host (GivesUp host a_million_rests IsWaiting) a w s
sees_leased host backend Lateness.ByExpired leased.Late a w s = sees_repeats 1000000 (FindsExpired host) a w s
sees_leased host backend Lateness.ByTicks leased.Late a w s = absurd s.4

cause_from : {C : Type 0} (f g h : GuardView) (moment : ℕ) (late : Lateness) (result : Leased C) → f.cancels ≤ g.cancels → g.deadline ≡ f.deadline
    → LeaseCause g h moment late result → LeaseCause f h moment late result
cause_from f g h moment late (leased.Lease l) le same k = tt
cause_from f g h moment late leased.Unreachable le same k = tt
cause_from f g h moment late leased.Full le same k = tt
cause_from f g h moment late leased.Cancelled le same k = rose_from f.cancels g.cancels h.cancels le k
cause_from f g h moment Lateness.ByDeadline leased.Late le same k = subst (λ (o : Option ℕ). IsDue o moment) same k
cause_from f g h moment Lateness.ByRests leased.Late le same k = tt
cause_from f g h moment Lateness.ByExpired leased.Late le same k = tt
cause_from f g h moment Lateness.ByTicks leased.Late le same k = tt

pub leased_waited : {C : Type 0} (link : C → LinkView) (old x y z : WireView) (f g h : GuardView) (a b c : Lent) (host : ℕ) (backend : Addr) (now : ℕ) (t : Ticket) (result : Leased C)
    → f.last ≤ old.moment → NowStep old x now → LookStep f g now sight.On → (w : WantedStep (span x y a b) host (wanted.Ticket t))
    → WaitedStep link (span y z b c) g h (asked host backend t.want w.answer) result → LeasedStep link (span old z a c) f h host backend result
leased_waited link old x y z f g h a b c host backend now t result le n l w k =
    let first = begun old x f g a now le n l.goes in
    let wants = stretch_part g (let s = l.goes.seen in let e = n.given in omega arith) w.did in
    let both = stretch_map (stretch_then wants k.did) (leased_as host backend t.want w.answer k.way k.late result) in
    record {
      late = k.late;
      did = stretch_map (stretch_then first both) (sees_leased host backend k.late result);
      cause = cause_from f g h z.moment k.late result l.goes.cancels l.goes.deadline k.cause;
      left = k.left;
    }
