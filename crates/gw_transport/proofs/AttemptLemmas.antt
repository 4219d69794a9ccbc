-- Attempts one after another.
use Rattle.std.proofs.Common.{ℕ, suc, ◌≡◌, ◌≤◌, ◌<◌, ◌+◌, ◌&&◌, ◌||◌, Bool, true, false, ◌⊎◌, List, ◌++◌, Option, Some, None, nat_lt, refl, ap, sym, subst, ◌∙◌, arith, append_assoc, inl, inr}
use Rattle.std.proofs.lemmas.Bool.{and_parts, ltb-true}
use Rattle.gw_wire.specs.Link.{LinkView}
use Rattle.gw_wire.specs.Wire.{WireView, NowStep}
use Rattle.gw_pool.specs.declared.entry.Call.TheVariants as call
use Rattle.gw_pool.specs.declared.entry.Entry.{Entry}
use Rattle.gw_pool.specs.declared.entry.Reply.TheVariants as reply
use Rattle.gw_pool.specs.declared.leases.Lease.{Lease}
use Rattle.gw_pool.specs.declared.rows.ConnRow.{ConnRow}
use Rattle.gw_pool.specs.History.{after}
use Rattle.gw_pool.specs.Lent.{Lent, row_of}
use Rattle.gw_pool.specs.Machine.{step}
use Rattle.gw_retry.specs.declared.Failure.{Failure}
use Rattle.gw_retry.specs.declared.Failure.TheVariants as failure
use Rattle.gw_retry.specs.declared.BodyKind.{BodyKind}
use Rattle.gw_retry.specs.Retry.{is_passing, is_repeatable, may_retry_of, only_reads}
use Rattle.gw_account.specs.Did.{Span, span, Went}
use Rattle.gw_account.specs.Work.{Work, At, and, at_of, behind, free, Seq}
use Rattle.gw_account.proofs.Facts.{doing_went}
use Rattle.gw_transport.specs.declared.attempts.Attempted.{Attempted}
use Rattle.gw_transport.specs.declared.attempts.Attempted.TheVariants as attempted
use Rattle.gw_transport.specs.declared.attempts.Tried.{Tried}
use Rattle.gw_transport.specs.declared.attempts.Tried.TheVariants as tried
use Rattle.gw_transport.specs.declared.leasing.Leased.TheVariants as leased
use Rattle.gw_transport.specs.Attempts.{AttemptStep, AttemptedBy, AttemptedStep, Behind, ErrandView, FailureCause, FailedOnce, Misses, Retries, Tries, TriesInVain, TripStep}
use Rattle.gw_stream.specs.Guard.{GuardView, IsDue}
use Rattle.gw_transport.specs.Leasing.{Clearing, EndStep, ExpiredStep, IsLate, IsLeased, IsRested, Lateness, LeasedStep}
use Rattle.gw_transport.specs.Parts.{Anywhere, Ends, Expires, IsRefused, Leases, Sees, Unreached}
use Rattle.gw_stream.specs.Watched.{Watched}
use Rattle.gw_transport.specs.Stretch.{Stretch}
use Rattle.gw_transport.proofs.EndLemmas.{part_now}
use Rattle.gw_transport.proofs.RestLemmas.{rose_from}
use Rattle.gw_transport.proofs.SeqLemmas.{sees_hands, sees_sees, seq_map}
use Rattle.gw_transport.proofs.StretchLemmas.{part_map, part_nothing, part_then, stretch_map, stretch_part, stretch_then}

-- calls on the wire alone, beside a guard
pub stretch_went : {old new : WireView} {P : At → Work → Type 0} (a : Lent) (f g : GuardView) → Went old new P → Watched old new f g
    → Stretch (span old new a a) f g P
stretch_went {old} {new} {P} a f g w watched = record {
  work = w.work;
  doing = doing_went old new a w.work w.fresh w.wired w.made w.rests;
  watched = watched;
  does = w.does (at_of old a);
}

-- what holds behind so many attempts after each of which another one may follow
pub record Trying {M R E : Type 0} (Does : M → M → ℕ → Tried R E → Lateness → At → Work → Type 0) (errand : ErrandView) (s : Span) (f g : GuardView) (m mid : M) (n : ℕ) : Type 0 where
  pub did : Stretch s f g (Retries Does errand n m mid)
  pub rested : IsRested s.after
  pub few : n < 8

trying_begins : {M R E : Type 0} (Does : M → M → ℕ → Tried R E → Lateness → At → Work → Type 0) (errand : ErrandView) (old : WireView) (a : Lent) (f : GuardView) (m : M)
    → old.aged ≡ false → f.last ≤ old.moment → IsRested a → Trying Does errand (span old old a a) f f m m 0
trying_begins Does errand old a f m fresh le rested = record {
  did = stretch_map (stretch_part f le (part_nothing old a fresh)) (λ b w s. (refl, s));
  rested = rested;
  few = omega arith;
}

-- no attempt was made yet behind a trip's first look
pub trying_looks : {M R E : Type 0} (Does : M → M → ℕ → Tried R E → Lateness → At → Work → Type 0) (errand : ErrandView)
    (old x y : WireView) (a b : Lent) (f : GuardView) (m : M) (now : ℕ)
    → f.last ≤ old.moment → NowStep old x now → ExpiredStep (span x y a b) now → Trying Does errand (span y y b b) f f m m 0
trying_looks Does errand old x y a b f m now le n e =
    trying_begins Does errand y b f m e.did.doing.fresh (let k = n.later.moment in let l = e.did.doing.wired.later.moment in omega arith) e.rested

-- a connection was come to, and an attempt was made on it
came : {C M R E : Type 0} (link : C → LinkView) (Does : M → M → ℕ → Tried R E → Lateness → At → Work → Type 0) (errand : ErrandView) (x y z : WireView) (b c : Lent) (g h k : GuardView)
    → (mid to : M) (l : Lease C) (result : Tried R E) → LeasedStep link (span x y b c) g h errand.host errand.backend (leased.Lease l)
    → (t : AttemptStep y z h k (Does mid to (link l.conn).number result) result)
    → Stretch (span x z b c) g k (λ a w. Tries errand l.want (row_of a.caller l) (Does mid to l.link result t.late) a w)
came link Does errand x y z b c g h k mid to l result s t =
    let T : ℕ → Type 0 = λ i. Went y z (Does mid to i result t.late) in
    let went = subst T s.left.lease.conn t.went in
    stretch_map (stretch_then s.did (stretch_went c h k went t.watched)) (λ a w q. q)

-- and the lease was dropped behind it
came_in_vain : {C M R E : Type 0} (link : C → LinkView) (Does : M → M → ℕ → Tried R E → Lateness → At → Work → Type 0) (errand : ErrandView) (x y z u : WireView) (b c d : Lent) (g h k : GuardView)
    → (mid to : M) (l : Lease C) (result : Tried R E) → LeasedStep link (span x y b c) g h errand.host errand.backend (leased.Lease l)
    → (t : AttemptStep y z h k (Does mid to (link l.conn).number result) result) → EndStep (span z u c d) l.no false
    → Stretch (span x u b d) g k (λ a w. TriesInVain errand (λ row. Does mid to row.link result t.late) l.want (row_of a.caller l) a w)
came_in_vain link Does errand x y z u b c d g h k mid to l result s t e =
    let one = came link Does errand x y z b c g h k mid to l result s t in
    stretch_map (stretch_then one (stretch_part k t.watched.goes.seen e.did)) (λ a w q. q)

-- what an attempt did may be said in other words
vain_map : (errand : ErrandView) (want : ℕ) (row : ConnRow) (P Q : ConnRow → At → Work → Type 0) → ((a : At) (w : Work) → P row a w → Q row a w)
    → (a : At) (w : Work) → TriesInVain errand P want row a w → TriesInVain errand Q want row a w
vain_map errand want row P Q f =
    let way = Clearing errand.host (Leases errand.host errand.backend want row) in
    seq_map (Tries errand want row (P row)) (Ends false row.conn) (Tries errand want row (Q row)) (Ends false row.conn)
    (seq_map way (P row) way (Q row) (λ a w q. q) f) (λ a w q. q)

-- the rule permits seven attempts more
below_eight : (why : Failure) (reused : Bool) (method : List ℕ) (key : Bool) (body : BodyKind) (n : ℕ) → may_retry_of why reused method key body n ≡ true → n < 8
below_eight why true method key body n e = ltb-true n 8 (and_parts (nat_lt n 8) (is_repeatable body && is_passing why (only_reads method || key)) e).0
below_eight why false method key body n e = cc

pub trying_more : {C M R E : Type 0} (link : C → LinkView) (Does : M → M → ℕ → Tried R E → Lateness → At → Work → Type 0) (errand : ErrandView)
    (old x y z u : WireView) (a b c d : Lent) (f g h k : GuardView) (m mid to : M) (n : ℕ) (l : Lease C) (why : Failure)
    → Trying Does errand (span old x a b) f g m mid n → LeasedStep link (span x y b c) g h errand.host errand.backend (leased.Lease l)
    → AttemptStep {R = R} {E = E} y z h k (Does mid to (link l.conn).number (tried.Failed why)) (tried.Failed why) → EndStep (span z u c d) l.no false
    → may_retry_of why l.reused errand.method errand.has_key errand.body (n + 1) ≡ true → Trying Does errand (span old u a d) f k m to (n + 1)
trying_more {R = R} {E = E} link Does errand old x y z u a b c d f g h k m mid to n l why p s t e may =
    let next : suc n ≡ n + 1 = omega arith in
    let go = subst (λ (i : ℕ). may_retry_of why l.reused errand.method errand.has_key errand.body i ≡ true) (sym next) may in
    let P : ConnRow → At → Work → Type 0 = λ row. Does mid to row.link (tried.Failed why) t.late in
    let Q : ConnRow → At → Work → Type 0 = λ row q w. (late : Lateness) × Does mid to row.link (tried.Failed why) late q w in
    let vain = came_in_vain link Does errand x y z u b c d g h k mid to l (tried.Failed why) s t e in
    let fails : Stretch (span x u b d) g k (FailedOnce errand true (suc n) why Q) =
    stretch_map vain (λ p w q. let row = row_of p.caller l in (l.want, row, go, vain_map errand l.want row P Q (λ i v does. (t.late, does)) p w q)) in
    record {
      did = subst (λ (i : ℕ). Stretch (span old u a d) f k (Retries Does errand i m to)) next
          (stretch_map {Q = Retries Does errand (suc n) m to} (stretch_then p.did fails) (λ q w both. (mid, why, both)));
      rested = e.rested;
      few = below_eight why l.reused errand.method errand.has_key errand.body (n + 1) may;
    }

-- a lease stays one whose connection was used
pub with_conn : {C : Type 0} (link : C → LinkView) (a : Lent) (l : Lease C) (conn : C) → IsLeased link a l → (link conn).number ≡ (link l.conn).number
    → IsLeased link a (record l { conn = conn })
with_conn link a l conn k same = record {
  holds = k.holds;
  few = k.few;
  lease = record { out = k.lease.out; row = k.lease.row; conn = same ∙ k.lease.conn };
}

-- ---- the answers

-- so many attempts failed, and this came behind them
behind_tries : {M R E : Type 0} (Does : M → M → ℕ → Tried R E → Lateness → At → Work → Type 0) (errand : ErrandView) (old x y : WireView) (a b c : Lent) (f g h : GuardView) (m mid : M) (n : ℕ)
    → (P : ℕ → M → At → Work → Type 0) → Trying Does errand (span old x a b) f g m mid n → Stretch (span x y b c) g h (P n mid)
    → Stretch (span old y a c) f h (Behind Does errand m P)
behind_tries Does errand old x y a b c f g h m mid n P p q = stretch_map (stretch_then p.did q) (λ i w both. (n, p.few, (mid, both)))

pub tried_reply : {C M R E : Type 0} (link : C → LinkView) (Does : M → M → ℕ → Tried R E → Lateness → At → Work → Type 0) (errand : ErrandView)
    (old x y z : WireView) (a b c : Lent) (f g h k : GuardView) (m mid to : M) (n : ℕ) (l : Lease C) (conn : C) (r : R)
    → Trying Does errand (span old x a b) f g m mid n → LeasedStep link (span x y b c) g h errand.host errand.backend (leased.Lease l)
    → AttemptStep {R = R} {E = E} y z h k (Does mid to (link l.conn).number (tried.Reply r)) (tried.Reply r) → (link conn).number ≡ (link l.conn).number
    → AttemptedStep {E = E} link (span old z a c) f k (AttemptedBy Does errand m to (attempted.Reply (record l { conn = conn }) r)) (attempted.Reply (record l { conn = conn }) r)
tried_reply link Does errand old x y z a b c f g h k m mid to n l conn r p s t same =
    let reach = came link Does errand x y z b c g h k mid to l (tried.Reply r) s t in
    record {
      late = t.late;
      did = behind_tries Does errand old x z a b c f g k m mid n (λ i o q w. Tries errand l.want (row_of q.caller l) (Does o to l.link (tried.Reply r) t.late) q w) p reach;
      cause = tt;
      left = with_conn link c l conn s.left same;
    }

pub tried_over : {C M R E : Type 0} (link : C → LinkView) (Does : M → M → ℕ → Tried R E → Lateness → At → Work → Type 0) (errand : ErrandView)
    (old x y z u : WireView) (a b c d : Lent) (f g h k : GuardView) (m mid to : M) (n : ℕ) (l : Lease C) (o : E)
    → Trying Does errand (span old x a b) f g m mid n → LeasedStep link (span x y b c) g h errand.host errand.backend (leased.Lease l)
    → AttemptStep {R = R} {E = E} y z h k (Does mid to (link l.conn).number (tried.Over o)) (tried.Over o) → EndStep (span z u c d) l.no false
    → AttemptedStep {C = C} {R = R} link (span old u a d) f k (AttemptedBy {C = C} Does errand m to (attempted.Over o)) (attempted.Over o)
tried_over link Does errand old x y z u a b c d f g h k m mid to n l o p s t e =
    let vain = came_in_vain link Does errand x y z u b c d g h k mid to l (tried.Over o) s t e in
    let P : ℕ → _ → At → Work → Type 0 = λ i j q w. (want : ℕ) × (row : ConnRow) × TriesInVain errand (λ r. Does j to r.link (tried.Over o) t.late) want row q w in
    record {
      late = t.late;
      did = behind_tries Does errand old x u a b d f g k m mid n P p (stretch_map vain (λ q w i. (l.want, row_of q.caller l, i)));
      cause = tt;
      left = e.rested;
    }

due_later : (deadline : Option ℕ) (m n : ℕ) → m ≤ n → IsDue deadline m → IsDue deadline n
due_later None m n le due = due
due_later (Some deadline) m n le due = omega (arith, due)

late_later : (late : Lateness) (d e : Option ℕ) (m n : ℕ) → e ≡ d → m ≤ n → IsLate late e m → IsLate late d n
late_later Lateness.ByDeadline d e m n same le k = due_later d m n le (subst (λ (o : Option ℕ). IsDue o m) same k)
late_later Lateness.ByRests d e m n same le k = tt
late_later Lateness.ByExpired d e m n same le k = tt
late_later Lateness.ByTicks d e m n same le k = tt

-- a failure's cause stands where it is looked at from an earlier guard and a later moment
pub failure_from : (f g h : GuardView) (m n : ℕ) (late : Lateness) (why : Failure) → f.cancels ≤ g.cancels → g.deadline ≡ f.deadline → m ≤ n
    → FailureCause g h m late why → FailureCause f h n late why
failure_from f g h m n late failure.Cancelled more same le k = rose_from f.cancels g.cancels h.cancels more k
failure_from f g h m n late failure.Deadline more same le k = late_later late f.deadline g.deadline m n same le k
failure_from f g h m n late failure.NothingWritten more same le k = tt
failure_from f g h m n late failure.FirstByte more same le k = tt
failure_from f g h m n late failure.ServerClosed more same le k = tt
failure_from f g h m n late failure.Broken more same le k = tt
failure_from f g h m n late failure.BadResponse more same le k = tt

-- the last attempt failed
pub tried_last : {C M R E : Type 0} (link : C → LinkView) (Does : M → M → ℕ → Tried R E → Lateness → At → Work → Type 0) (errand : ErrandView)
    (old x y z u : WireView) (a b c d : Lent) (f g h k : GuardView) (m mid to : M) (n : ℕ) (l : Lease C) (why : Failure)
    → Trying Does errand (span old x a b) f g m mid n → LeasedStep link (span x y b c) g h errand.host errand.backend (leased.Lease l)
    → AttemptStep {R = R} {E = E} y z h k (Does mid to (link l.conn).number (tried.Failed why)) (tried.Failed why) → EndStep (span z u c d) l.no false
    → may_retry_of why l.reused errand.method errand.has_key errand.body (n + 1) ≡ false
    → AttemptedStep {C = C} {R = R} {E = E} link (span old u a d) f k (AttemptedBy {C = C} Does errand m to (attempted.Failed why)) (attempted.Failed why)
tried_last {C = C} {R = R} {E = E} link Does errand old x y z u a b c d f g h k m mid to n l why p s t e last =
    let next : suc n ≡ n + 1 = omega arith in
    let final = subst (λ (i : ℕ). may_retry_of why l.reused errand.method errand.has_key errand.body i ≡ false) (sym next) last in
    let att : ConnRow → At → Work → Type 0 = λ row. Does mid to row.link (tried.Failed why) t.late in
    let vain = came_in_vain link Does errand x y z u b c d g h k mid to l (tried.Failed why) s t e in
    let P : ℕ → _ → At → Work → Type 0 = λ i j q w. FailedOnce errand false (suc i) why (λ row. Does j to row.link (tried.Failed why) t.late) q w ⊎ ((to ≡ j) × Misses errand.host t.late why q w) in
    record {
      late = t.late;
      did = behind_tries Does errand old x u a b d f g k m mid n P p (stretch_map vain (λ q w i. inl (l.want, row_of q.caller l, final, i)));
      cause = failure_from f h k z.moment u.moment t.late why
          (let first = p.did.watched.goes.cancels in let next = s.did.watched.goes.cancels in omega (arith, first, next))
          (s.did.watched.goes.deadline ∙ p.did.watched.goes.deadline) e.did.doing.wired.later.moment t.cause;
      left = e.rested;
    }

-- ---- no further connection came

pub tried_unreached : {C M R E : Type 0} (link : C → LinkView) (Does : M → M → ℕ → Tried R E → Lateness → At → Work → Type 0) (errand : ErrandView)
    (old x y : WireView) (a b c : Lent) (f g h : GuardView) (m mid : M) (n : ℕ)
    → Trying Does errand (span old x a b) f g m mid n → LeasedStep {C = C} link (span x y b c) g h errand.host errand.backend leased.Unreachable
    → AttemptedStep {C = C} {R = R} {E = E} link (span old y a c) f h (AttemptedBy {C = C} Does errand m mid attempted.Unreachable) attempted.Unreachable
tried_unreached link Does errand old x y a b c f g h m mid n p s =
    let P : ℕ → _ → At → Work → Type 0 = λ i j q w. (mid ≡ j) × Clearing errand.host (Unreached errand.host errand.backend) q w in
    record {
      late = s.late;
      did = behind_tries Does errand old x y a b c f g h m mid n P p (stretch_map s.did (λ q w k. (refl, k)));
      cause = tt;
      left = s.left;
    }

pub tried_full : {C M R E : Type 0} (link : C → LinkView) (Does : M → M → ℕ → Tried R E → Lateness → At → Work → Type 0) (errand : ErrandView)
    (old x y : WireView) (a b c : Lent) (f g h : GuardView) (m mid : M) (n : ℕ)
    → Trying Does errand (span old x a b) f g m mid n → LeasedStep {C = C} link (span x y b c) g h errand.host errand.backend leased.Full
    → AttemptedStep {C = C} {R = R} {E = E} link (span old y a c) f h (AttemptedBy {C = C} Does errand m mid attempted.Full) attempted.Full
tried_full link Does errand old x y a b c f g h m mid n p s =
    let P : ℕ → _ → At → Work → Type 0 = λ i j q w. (mid ≡ j) × Clearing errand.host IsRefused q w in
    record {
      late = s.late;
      did = behind_tries Does errand old x y a b c f g h m mid n P p (stretch_map s.did (λ q w k. (refl, k)));
      cause = tt;
      left = s.left;
    }

pub tried_cancelled : {C M R E : Type 0} (link : C → LinkView) (Does : M → M → ℕ → Tried R E → Lateness → At → Work → Type 0) (errand : ErrandView)
    (old x y : WireView) (a b c : Lent) (f g h : GuardView) (m mid : M) (n : ℕ)
    → Trying Does errand (span old x a b) f g m mid n → LeasedStep {C = C} link (span x y b c) g h errand.host errand.backend leased.Cancelled
    → AttemptedStep {C = C} {R = R} {E = E} link (span old y a c) f h (AttemptedBy {C = C} Does errand m mid (attempted.Failed failure.Cancelled)) (attempted.Failed failure.Cancelled)
tried_cancelled link Does errand old x y a b c f g h m mid n p s =
    let P : ℕ → _ → At → Work → Type 0 = λ i j q w.
    FailedOnce errand false (suc i) failure.Cancelled (λ row. Does j mid row.link (tried.Failed failure.Cancelled) s.late) q w ⊎ ((mid ≡ j) × Misses errand.host s.late failure.Cancelled q w) in
    record {
      late = s.late;
      did = behind_tries Does errand old x y a b c f g h m mid n P p (stretch_map s.did (λ q w k. inr (refl, k)));
      cause = rose_from f.cancels g.cancels h.cancels p.did.watched.goes.cancels s.cause;
      left = s.left;
    }

pub tried_late : {C M R E : Type 0} (link : C → LinkView) (Does : M → M → ℕ → Tried R E → Lateness → At → Work → Type 0) (errand : ErrandView)
    (old x y : WireView) (a b c : Lent) (f g h : GuardView) (m mid : M) (n : ℕ)
    → Trying Does errand (span old x a b) f g m mid n → LeasedStep {C = C} link (span x y b c) g h errand.host errand.backend leased.Late
    → AttemptedStep {C = C} {R = R} {E = E} link (span old y a c) f h (AttemptedBy {C = C} Does errand m mid (attempted.Failed failure.Deadline)) (attempted.Failed failure.Deadline)
tried_late link Does errand old x y a b c f g h m mid n p s =
    let P : ℕ → _ → At → Work → Type 0 = λ i j q w.
    FailedOnce errand false (suc i) failure.Deadline (λ row. Does j mid row.link (tried.Failed failure.Deadline) s.late) q w ⊎ ((mid ≡ j) × Misses errand.host s.late failure.Deadline q w) in
    record {
      late = s.late;
      did = behind_tries Does errand old x y a b c f g h m mid n P p (stretch_map s.did (λ q w k. inr (refl, k)));
      cause = late_later s.late f.deadline g.deadline y.moment y.moment p.did.watched.goes.deadline (omega arith) s.cause;
      left = s.left;
    }

-- ---- a trip's beginning

expires_of : (at : ℕ) (a : At) (w u v : Work) → w ≡ and u v → Sees free a u → Expires at (behind a u) v → Expires at a w
expires_of at a w u v e s (inl k) =
    let T : List Entry → Type 0 = λ h. step a.limits (after a.limits h) a.caller (call.Expire at) ≡ None in
    inl (sees_sees free free a w (u, v, e, s, k.0), subst T (append_assoc a.history u.made v.made ∙ ap (λ (x : Work). a.history ++ x.made) (sym e)) k.1)
expires_of at a w u v e s (inr k) = inr (k.0, sees_hands Anywhere (call.Expire at) (reply.Taken k.0) a w (u, v, e, s, k.1))

sees_expires : (at : ℕ) (a : At) (w : Work) → Seq (Sees free) (Expires at) a w → Expires at a w
sees_expires at a w s = expires_of at a w s.0 s.1 s.2 s.3 s.4

pub trip_made : {C R E : Type 0} (link : C → LinkView) (old x y z : WireView) (a b c : Lent) (f g : GuardView) (does : Lateness → At → Work → Type 0) (result : Attempted C R E) (now : ℕ)
    → f.last ≤ old.moment → NowStep old x now → ExpiredStep (span x y a b) now → AttemptedStep link (span y z b c) f g does result
    → TripStep link (span old z a c) f g does result
trip_made link old x y z a b c f g does result now le n e s =
    let first = part_map (part_then (part_now old x a now n) e.did) (sees_expires now) in
    record {
      at = now;
      begun = (let m = n.later.moment in let g = n.given in omega arith);
      within = (let m = e.did.doing.wired.later.moment in let k = s.did.doing.wired.later.moment in let g = n.given in omega arith);
      step = record {
        late = s.late;
        did = stretch_then (stretch_part f le first) s.did;
        cause = s.cause;
        left = s.left;
      };
    }
