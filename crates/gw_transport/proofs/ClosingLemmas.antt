-- Each connection that leaves the pool by a stretch of work is closed in it once.
use Rattle.std.proofs.Common.{ℕ, zero, suc, ◌≡◌, ◌⊎◌, Bool, true, false, List, [], ◌∷◌, ◌++◌, refl, ap, sym, subst, ◌∙◌, append-nil, cond, inl, inr}
use Rattle.std.proofs.lemmas.Bool.{eq-eqb}
use Rattle.std.proofs.lemmas.Grind.{flat_map-append}
use Rattle.gw_wire.specs.declared.values.Act.{Act}
use Rattle.gw_wire.specs.declared.values.Addr.{Addr}
use Rattle.gw_pool.specs.declared.entry.Call.{Call}
use Rattle.gw_pool.specs.declared.entry.Call.TheVariants as call
use Rattle.gw_pool.specs.declared.entry.Entry.{Entry}
use Rattle.gw_pool.specs.declared.entry.Reply.{Reply}
use Rattle.gw_pool.specs.declared.entry.Reply.TheVariants as reply
use Rattle.gw_pool.specs.declared.limits.Limits.{Limits}
use Rattle.gw_pool.specs.declared.rows.ConnRow.{ConnRow}
use Rattle.gw_pool.specs.Gone.{gone_links, left_by}
use Rattle.gw_pool.specs.History.{after}
use Rattle.gw_pool.specs.Lent.{entry_of, row_of}
use Rattle.gw_pool.specs.Machine.{step}
use Rattle.gw_pool.proofs.Facts.{gone_foreign, gone_then}
use Rattle.gw_retry.specs.declared.Failure.{Failure}
use Rattle.gw_retry.specs.declared.Failure.TheVariants as failure
use Rattle.gw_account.specs.Work.{Bill, Work, At, free, behind, Only, Seq}
use Rattle.gw_transport.specs.declared.attempts.Attempted.{Attempted}
use Rattle.gw_transport.specs.declared.attempts.Attempted.TheVariants as attempted
use Rattle.gw_transport.specs.declared.attempts.Tried.{Tried}
use Rattle.gw_transport.specs.declared.attempts.Tried.TheVariants as tried
use Rattle.gw_transport.specs.Attempts.{AttemptedBy, Behind, ErrandView, FailedOnce, Misses, Retries, Tries, TriesInVain}
use Rattle.gw_transport.specs.Closing.{ClosesAddUp, ClosesWhatLeaves, EndsCloseWhatLeaves, LooksCloseWhatLeaves, closed_by, closed_links}
use Rattle.gw_transport.specs.Leasing.{Clearing, LateBy, Lateness, Stops}
use Rattle.gw_transport.specs.Parts.{Way, Anywhere, Called, Cancels, Closes, Comes, Dials, Ends, Fails, FailsToDial, FindsExpired, GivesUp, Hands, HasRoom, IsPlace, IsRefused, IsWaiting, Leases, Repeats, Sees, Starts, Unreached, Wants, a_million_rests, closes}

abbrev Closing : (At → Work → Type 0) → Type 0
Closing P = (a : At) (w : Work) → P a w → ClosesWhatLeaves a w

-- ---- one behind another

pub closes_add_up : ClosesAddUp
closes_add_up a u v p q =
    let gone : List ℕ = gone_links a.limits a.history a.caller u.made in
    flat_map-append closed_by u.acts v.acts ∙ ap (λ x. x ++ closed_links v.acts) p ∙ ap (λ x. gone ++ x) q
    ∙ sym (gone_then a.limits a.history a.caller u.made v.made)

seq_closing : (P Q : At → Work → Type 0) → Closing P → Closing Q → Closing (Seq P Q)
seq_closing P Q p q a w s =
    let T : Work → Type 0 = λ x. ClosesWhatLeaves a x in
    subst T (sym s.2) (closes_add_up a s.0 s.1 (p a s.0 s.3) (q (behind a s.0) s.1 s.4))

-- ---- leaves

sees_closing : (bill : Bill) → Closing (Sees bill)
sees_closing bill a w s = ap closed_links s.1 ∙ sym (gone_foreign a.limits a.history a.caller w.made s.0)

repeats_closing : (n : ℕ) (P : At → Work → Type 0) → Closing P → Closing (Repeats n P)
repeats_closing zero P p a w s = sees_closing free a w s
repeats_closing (suc n) P p a w s = seq_closing (Repeats n P) P (repeats_closing n P p) p a w s

pub only_closing : (bill : Bill) (P : List Act → Type 0) → ((acts : List Act) → P acts → closed_links acts ≡ []) → Closing (Only bill P)
only_closing bill P f a w o = f w.acts o.2 ∙ sym (ap (gone_links a.limits a.history a.caller) o.0)

own_gone : (limits : Limits) (h : List Entry) (c : ℕ) (asked : Call) (answer : Reply)
    → gone_links limits h c (entry_of c asked answer ∷ []) ≡ left_by (step limits (after limits h) c asked)
own_gone limits h c asked answer =
    let left : List ℕ = left_by (step limits (after limits h) c asked) in
    ap (λ b. cond b left [] ++ []) (eq-eqb c c refl) ∙ append-nil left

called_gone : (P : Limits → List Entry → Type 0) (asked : Call) (answer : Reply) (links : List ℕ) (a : At) (w : Work)
    → Called P asked answer links a w → gone_links a.limits a.history a.caller w.made ≡ links
called_gone P asked answer links a w c =
    let one : List Entry = entry_of a.caller asked answer ∷ [] in
    ap (gone_links a.limits a.history a.caller) c.made ∙ gone_then a.limits a.history a.caller c.others one
    ∙ ap (λ x. x ++ gone_links a.limits (a.history ++ c.others) a.caller one) (gone_foreign a.limits a.history a.caller c.others c.foreign)
    ∙ own_gone a.limits (a.history ++ c.others) a.caller asked answer ∙ c.left

-- a call that hands nothing out
called_closing : (P : Limits → List Entry → Type 0) (asked : Call) (answer : Reply) → Closing (Called P asked answer [])
called_closing P asked answer a w c = ap closed_links c.quiet ∙ sym (called_gone P asked answer [] a w c)

closes_closed : (links : List ℕ) → closed_links (closes links) ≡ links
closes_closed [] = refl
closes_closed (link ∷ links) = ap (λ x. link ∷ x) (closes_closed links)

hands_closing : (P : Limits → List Entry → Type 0) (asked : Call) (answer : Reply) → Closing (Hands P asked answer)
hands_closing P asked answer a w h =
    let links : List ℕ = h.0 in
    let s : Seq (Called P asked answer links) (Closes links) a w = h.1 in
    let u : Work = s.0 in
    let v : Work = s.1 in
    let T : Work → Type 0 = λ x. ClosesWhatLeaves a x in
    let shut : closed_links (u.acts ++ v.acts) ≡ links =
    ap (λ x. closed_links (x ++ v.acts)) s.3.quiet ∙ ap closed_links s.4.2 ∙ closes_closed links in
    let gone : gone_links a.limits a.history a.caller (u.made ++ v.made) ≡ links =
    ap (gone_links a.limits a.history a.caller) (ap (λ x. u.made ++ x) s.4.0 ∙ append-nil u.made) ∙ called_gone P asked answer links a u s.3 in
    subst T (sym s.2) (shut ∙ sym gone)

-- ---- the way to a connection

starts_closing : (want : ℕ) → Closing (Starts want)
starts_closing want = called_closing Anywhere (call.Start want) reply.Go

dials_closing : (host : ℕ) (backend : Addr) (link : ℕ) → Closing (Dials host backend link)
dials_closing host backend link a w o = ap closed_links o.2.2 ∙ sym (ap (gone_links a.limits a.history a.caller) o.0)

dial_fails_closing : (host : ℕ) (backend : Addr) → Closing (FailsToDial host backend)
dial_fails_closing host backend a w o = ap closed_links o.2.2 ∙ sym (ap (gone_links a.limits a.history a.caller) o.0)

-- a dial that failed, and what the pool answered to that
failed_closing : (host : ℕ) (backend : Addr) (want : ℕ) (answer : Reply)
    → Closing (Seq (Starts want) (Seq (FailsToDial host backend) (Seq (Called Anywhere (call.DialFailed want) answer []) (Sees free))))
failed_closing host backend want answer =
    seq_closing (Starts want) (Seq (FailsToDial host backend) (Seq (Called Anywhere (call.DialFailed want) answer []) (Sees free))) (starts_closing want)
    (seq_closing (FailsToDial host backend) (Seq (Called Anywhere (call.DialFailed want) answer []) (Sees free)) (dial_fails_closing host backend)
    (seq_closing (Called Anywhere (call.DialFailed want) answer []) (Sees free) (called_closing Anywhere (call.DialFailed want) answer) (sees_closing free)))

dialed_closing : (host : ℕ) (backend : Addr) (want link at : ℕ) (answer : Reply)
    → Closing (Seq (Starts want) (Seq (Dials host backend link) (Seq (Hands Anywhere (call.Dialed want link at) answer) (Sees free))))
dialed_closing host backend want link at answer =
    seq_closing (Starts want) (Seq (Dials host backend link) (Seq (Hands Anywhere (call.Dialed want link at) answer) (Sees free))) (starts_closing want)
    (seq_closing (Dials host backend link) (Seq (Hands Anywhere (call.Dialed want link at) answer) (Sees free)) (dials_closing host backend link)
    (seq_closing (Hands Anywhere (call.Dialed want link at) answer) (Sees free) (hands_closing Anywhere (call.Dialed want link at) answer) (sees_closing free)))

comes_closing : (host : ℕ) (backend : Addr) (want : ℕ) (row : ConnRow) (way : Way) → Closing (Comes host backend want row way)
comes_closing host backend want row Way.ByOther a w s = sees_closing free a w s
comes_closing host backend want row (Way.ByDial link) a w s = dialed_closing host backend want link s.0 s.1 a w s.3
comes_closing host backend want row Way.ByLate a w s = failed_closing host backend want (reply.Late s.0) a w s.1

wants_closing : (host want : ℕ) (answer : Reply) → Closing (Wants host want answer)
wants_closing host want answer a w s = called_closing HasRoom (call.Want host s.1.0) answer a w s.1.1

leases_closing : (host : ℕ) (backend : Addr) (want : ℕ) (row : ConnRow) → Closing (Leases host backend want row)
leases_closing host backend want row a w s =
    seq_closing (Wants host want s.0) (Comes host backend want row s.1) (wants_closing host want s.0) (comes_closing host backend want row s.1) a w s.3

fails_closing : (host : ℕ) (backend : Addr) (want : ℕ) → Closing (Fails host backend want)
fails_closing host backend want a w s = failed_closing host backend want (reply.Ended s.0) a w s.1

unreached_closing : (host : ℕ) (backend : Addr) → Closing (Unreached host backend)
unreached_closing host backend a w s =
    seq_closing (Wants host s.0 s.1) (Fails host backend s.0) (wants_closing host s.0 s.1) (fails_closing host backend s.0) a w s.3

cancels_closing : (want : ℕ) → Closing (Cancels want)
cancels_closing want a w s = hands_closing Anywhere (call.Cancel want s.0) s.1 a w s.2

gives_up_closing : (host : ℕ) (price : Bill) (IsOf : ℕ → Reply → Type 0) → Closing (GivesUp host price IsOf)
gives_up_closing host price IsOf a w s =
    seq_closing (Wants host s.0 s.1) (Seq (Sees price) (Cancels s.0)) (wants_closing host s.0 s.1)
    (seq_closing (Sees price) (Cancels s.0) (sees_closing price) (cancels_closing s.0)) a w s.3

finds_closing : (host : ℕ) → Closing (FindsExpired host)
finds_closing host a w s = hands_closing HasRoom (call.Want host s.0) (reply.Expired s.1) a w s.2

clearing_closing : (host : ℕ) (P : At → Work → Type 0) → Closing P → Closing (Clearing host P)
clearing_closing host P p a w s =
    seq_closing (Repeats s.0 (FindsExpired host)) P (repeats_closing s.0 (FindsExpired host) (finds_closing host)) p a w s.2

refused_closing : Closing IsRefused
refused_closing a w s = sees_closing (record free { refused = 1 }) a w s.0

stops_closing : (host : ℕ) → Closing (Stops host)
stops_closing host a w (inl s) = sees_closing free a w s
stops_closing host a w (inr s) = clearing_closing host (GivesUp host free IsPlace) (gives_up_closing host free IsPlace) a w s

late_closing : (host : ℕ) (late : Lateness) → Closing (LateBy host late)
late_closing host Lateness.ByDeadline a w s = stops_closing host a w s
late_closing host Lateness.ByRests a w s =
    clearing_closing host (GivesUp host a_million_rests IsWaiting) (gives_up_closing host a_million_rests IsWaiting) a w s
late_closing host Lateness.ByExpired a w s = repeats_closing 1000000 (FindsExpired host) (finds_closing host) a w s
late_closing host Lateness.ByTicks a w s = absurd s

pub looks_close : LooksCloseWhatLeaves
looks_close at a w (inl s) = sees_closing free a w s.0
looks_close at a w (inr s) = hands_closing Anywhere (call.Expire at) (reply.Taken s.0) a w s.1

pub ends_close : EndsCloseWhatLeaves
ends_close true conn a w s = hands_closing Anywhere (call.GiveBack conn s.0) s.1 a w s.2
ends_close false conn a w s = hands_closing Anywhere (call.Drop conn) (reply.Dropped s.0) a w s.1

-- ---- attempts

tries_closing : (errand : ErrandView) (want : ℕ) (row : ConnRow) (P : At → Work → Type 0) → Closing P → Closing (Tries errand want row P)
tries_closing errand want row P p =
    let L : At → Work → Type 0 = Leases errand.host errand.backend want row in
    seq_closing (Clearing errand.host L) P (clearing_closing errand.host L (leases_closing errand.host errand.backend want row)) p

vain_closing : (errand : ErrandView) (P : ConnRow → At → Work → Type 0) (want : ℕ) (row : ConnRow) → Closing (P row) → Closing (TriesInVain errand P want row)
vain_closing errand P want row p =
    seq_closing (Tries errand want row (P row)) (Ends false row.conn) (tries_closing errand want row (P row) p) (ends_close false row.conn)

failed_once_closing : (errand : ErrandView) (more : Bool) (number : ℕ) (why : Failure) (P : ConnRow → At → Work → Type 0)
    → ((row : ConnRow) → Closing (P row)) → Closing (FailedOnce errand more number why P)
failed_once_closing errand more number why P p a w s = vain_closing errand P s.0 s.1 (p s.1) a w s.3

-- whatever an attempt does, where it closes what leaves
abbrev Attempts : {M R E : Type 0} → (M → M → ℕ → Tried R E → Lateness → At → Work → Type 0) → Type 0
Attempts {M} {R} {E} Does = (from to : M) (link : ℕ) (result : Tried R E) (late : Lateness) → Closing (Does from to link result late)

retries_closing : {M R E : Type 0} (Does : M → M → ℕ → Tried R E → Lateness → At → Work → Type 0) (errand : ErrandView) → Attempts Does
    → (n : ℕ) (from to : M) → Closing (Retries Does errand n from to)
retries_closing Does errand d zero from to a w s = sees_closing free a w s.1
retries_closing {M} {R} {E} Does errand d (suc n) from to a w s =
    let P : ConnRow → At → Work → Type 0 = λ row b v. (late : Lateness) × Does s.0 to row.link (tried.Failed s.1) late b v in
    seq_closing (Retries Does errand n from s.0) (FailedOnce errand true (suc n) s.1 P) (retries_closing Does errand d n from s.0)
    (failed_once_closing errand true (suc n) s.1 P (λ row b v does. d s.0 to row.link (tried.Failed s.1) does.0 b v does.1)) a w s.2

behind_closing : {M R E : Type 0} (Does : M → M → ℕ → Tried R E → Lateness → At → Work → Type 0) (errand : ErrandView) → Attempts Does
    → (from : M) (P : ℕ → M → At → Work → Type 0) → ((n : ℕ) (mid : M) → Closing (P n mid)) → Closing (Behind Does errand from P)
behind_closing Does errand d from P p a w s =
    seq_closing (Retries Does errand s.0 from s.2.0) (P s.0 s.2.0) (retries_closing Does errand d s.0 from s.2.0) (p s.0 s.2.0) a w s.2.1

misses_closing : (host : ℕ) (late : Lateness) (why : Failure) → Closing (Misses host late why)
misses_closing host late failure.Cancelled a w s = stops_closing host a w s
misses_closing host late failure.Deadline a w s = late_closing host late a w s
misses_closing host late failure.NothingWritten a w s = absurd s
misses_closing host late failure.FirstByte a w s = absurd s
misses_closing host late failure.ServerClosed a w s = absurd s
misses_closing host late failure.Broken a w s = absurd s
misses_closing host late failure.BadResponse a w s = absurd s

pub attempted_closing : {C M R E : Type 0} (Does : M → M → ℕ → Tried R E → Lateness → At → Work → Type 0) (errand : ErrandView) → Attempts Does
    → (from to : M) (result : Attempted C R E) (late : Lateness) → Closing (AttemptedBy Does errand from to result late)
attempted_closing Does errand d from to (attempted.Reply l r) late a w s =
    behind_closing Does errand d from (λ n mid b v. Tries errand l.want (row_of a.caller l) (Does mid to l.link (tried.Reply r) late) b v)
    (λ n mid. tries_closing errand l.want (row_of a.caller l) (Does mid to l.link (tried.Reply r) late) (d mid to l.link (tried.Reply r) late)) a w s
attempted_closing {C} {M} Does errand d from to (attempted.Failed why) late a w s =
    let P : M → ConnRow → At → Work → Type 0 = λ mid row. Does mid to row.link (tried.Failed why) late in
    behind_closing Does errand d from (λ n mid b v. FailedOnce errand false (suc n) why (P mid) b v ⊎ ((to ≡ mid) × Misses errand.host late why b v))
    (λ n mid b v x. elim x [
      | inl y ↦ failed_once_closing errand false (suc n) why (P mid) (λ row. d mid to row.link (tried.Failed why) late) b v y
      | inr y ↦ misses_closing errand.host late why b v y.1
    ]) a w s
attempted_closing {C} {M} Does errand d from to (attempted.Over e) late a w s =
    let P : M → ConnRow → At → Work → Type 0 = λ mid row. Does mid to row.link (tried.Over e) late in
    behind_closing Does errand d from (λ n mid b v. (want : ℕ) × (row : ConnRow) × TriesInVain errand (P mid) want row b v)
    (λ n mid b v x. vain_closing errand (P mid) x.0 x.1 (d mid to x.1.link (tried.Over e) late) b v x.2) a w s
attempted_closing Does errand d from to attempted.Unreachable late a w s =
    behind_closing Does errand d from (λ n mid b v. (to ≡ mid) × Clearing errand.host (Unreached errand.host errand.backend) b v)
    (λ n mid b v x. clearing_closing errand.host (Unreached errand.host errand.backend) (unreached_closing errand.host errand.backend) b v x.1) a w s
attempted_closing Does errand d from to attempted.Full late a w s =
    behind_closing Does errand d from (λ n mid b v. (to ≡ mid) × Clearing errand.host IsRefused b v)
    (λ n mid b v x. clearing_closing errand.host IsRefused refused_closing b v x.1) a w s
