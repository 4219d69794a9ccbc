-- A trip closes each connection that its entries hand out of the pool, and no other: its attempts close none.
use Rattle.std.proofs.Common.{ℕ, ◌≡◌, true, false, List, [], ◌∷◌, ◌++◌, refl, ap, sym, subst, ◌∙◌, inl, inr, take}
use Rattle.std.specs.List.{flat_map}
use Rattle.gw_wire.specs.declared.values.Act.{Act}
use Rattle.gw_wire.specs.Link.{LinkView}
use Rattle.gw_wire.specs.Shuffle.{Shuffle}
use Rattle.gw_wire.specs.Stretch.{Then}
use Rattle.gw_body.specs.declared.place.Place.{Place}
use Rattle.gw_proxy.specs.OutRequest.{request_text_of}
use Rattle.gw_retry.specs.declared.Failure.TheVariants as failure
use Rattle.gw_account.specs.Work.{Work, At}
use Rattle.gw_stream.specs.declared.waits.Sent.{Sent}
use Rattle.gw_stream.specs.declared.waits.Sent.TheVariants as sent
use Rattle.gw_stream.specs.declared.waits.Stop.TheVariants as stops
use Rattle.gw_stream.specs.Relaying.{Came}
use Rattle.gw_stream.specs.Waits.{SaysFront}
use Rattle.gw_transport.specs.declared.attempts.Attempted.{Attempted}
use Rattle.gw_transport.specs.declared.attempts.Tried.{Tried}
use Rattle.gw_transport.specs.declared.attempts.Tried.TheVariants as tried
use Rattle.gw_transport.specs.declared.replying.Begun.{Begun}
use Rattle.gw_transport.specs.declared.replying.End.{End}
use Rattle.gw_transport.specs.Attempts.{AttemptedBy, ErrandView}
use Rattle.gw_transport.specs.Closing.{ClosesWhatLeaves, TripsCloseWhatLeaves, UploadTripsCloseWhatLeaves, closed_by}
use Rattle.gw_transport.specs.Leasing.{Lateness}
use Rattle.gw_transport.specs.Sending.{Exchanges, ExchangesKept, KeptView, Unsent}
use Rattle.gw_transport.specs.Replying.{Replies}
use Rattle.gw_transport.specs.Uploading.{ExchangesUpload, UploadView, Uploads, continue_of}
use Rattle.gw_transport.proofs.ClosingLemmas.{attempted_closing, only_closing}
use Rattle.gw_transport.proofs.QuietLemmas.{IsQuiet, SkipsReads, SkipsWrites, comes_quiet, quiet_then, replies_quiet, says_quiet, writes_quiet}

-- neither a read nor a write closes a link
pub reads_close : (k : ℕ) → SkipsReads closed_by k
reads_close k = record { read = λ piece. refl; end = refl; failed = refl }

pub writes_close : (k : ℕ) → SkipsWrites closed_by k
writes_close k = record { wrote = λ piece. refl; failed = refl }

-- ---- a kept body

unsent_closing : (k : ℕ) (text : List ℕ) (result : Tried Begun End) (acts : List Act) → Unsent k text result acts → IsQuiet closed_by acts
unsent_closing k text (tried.Reply r) acts s = absurd s
unsent_closing k text (tried.Failed failure.NothingWritten) acts s = says_quiet closed_by k (writes_close k) text (sent.Failed false) acts s
unsent_closing k text (tried.Failed failure.FirstByte) acts s = absurd s
unsent_closing k text (tried.Failed failure.ServerClosed) acts s = absurd s
unsent_closing k text (tried.Failed failure.Broken) acts s = says_quiet closed_by k (writes_close k) text (sent.Failed true) acts s
unsent_closing k text (tried.Failed failure.BadResponse) acts s = absurd s
unsent_closing k text (tried.Failed failure.Deadline) acts s = says_quiet closed_by k (writes_close k) text (sent.Stopped stops.Deadline) acts s
unsent_closing k text (tried.Failed failure.Cancelled) acts s = says_quiet closed_by k (writes_close k) text (sent.Stopped stops.Cancelled) acts s
unsent_closing k text (tried.Over e) acts s = absurd s

exchanges_closing : (k : ℕ) (text method left : List ℕ) (place : Place) (result : Tried Begun End) (acts : List Act)
    → Exchanges k text method place left result acts → IsQuiet closed_by acts
exchanges_closing k text method left place result acts (inl t) =
    quiet_then closed_by t.0 t.1 acts t.2 (writes_quiet closed_by k (writes_close k) t.0 t.3.only)
    (replies_quiet closed_by k (reads_close k) method left place result t.1 t.4)
exchanges_closing k text method left place result acts (inr s) = unsent_closing k text result acts s

kept_closing : (from to : KeptView) (link : ℕ) (result : Tried Begun End) (late : Lateness) (a : At) (w : Work)
    → ExchangesKept from to link result late a w → ClosesWhatLeaves a w
kept_closing from to link result late a w d =
    only_closing _ (Exchanges link (request_text_of from.out from.body) from.out.method to.place to.ahead result)
    (λ acts x. exchanges_closing link (request_text_of from.out from.body) from.out.method to.ahead to.place result acts x) a w d.only

pub kept_trips_close : {C : Type 0} (errand : ErrandView) (from to : KeptView) (result : Attempted C Begun End) (late : Lateness) (a : At) (w : Work)
    → AttemptedBy ExchangesKept errand from to result late a w → ClosesWhatLeaves a w
kept_trips_close errand from to result late a w s = attempted_closing ExchangesKept errand kept_closing from to result late a w s

pub trips_close : {C : Type 0} (link : C → LinkView) → TripsCloseWhatLeaves link
trips_close link errand from to result late a w s = kept_trips_close errand from to result late a w s

-- ---- a body that is read of the client

nil_first : (x y : List ℕ) → x ++ y ≡ [] → x ≡ []
nil_first [] y e = refl
nil_first (n ∷ x) y e = absurd (cc)

nil_second : (x y : List ℕ) → x ++ y ≡ [] → y ≡ []
nil_second [] y e = e
nil_second (n ∷ x) y e = absurd (cc)

pub shuffle_quiet : (f : Act → List ℕ) (one other acts : List Act) → Shuffle one other acts → IsQuiet f one → IsQuiet f other → IsQuiet f acts
shuffle_quiet f one other [] s p q = refl
shuffle_quiet f one other (act ∷ acts) (inl s) p q =
    let front : f act ++ flat_map f s.0 ≡ [] = sym (ap (flat_map f) s.1) ∙ p in
    ap (λ x. x ++ flat_map f acts) (nil_first (f act) (flat_map f s.0) front)
    ∙ shuffle_quiet f s.0 other acts s.2 (nil_second (f act) (flat_map f s.0) front) q
shuffle_quiet f one other (act ∷ acts) (inr s) p q =
    let front : f act ++ flat_map f s.0 ≡ [] = sym (ap (flat_map f) s.1) ∙ q in
    ap (λ x. x ++ flat_map f acts) (nil_first (f act) (flat_map f s.0) front)
    ∙ shuffle_quiet f one s.0 acts s.2 p (nil_second (f act) (flat_map f s.0) front)

uploads_quiet : (from to : UploadView) (link : ℕ) (came : Came) (said : Sent) (acts : List Act) → Uploads from to link came said acts → IsQuiet closed_by acts
uploads_quiet from to link came said acts u =
    let t = u.does in
    let i = t.4 in
    quiet_then closed_by t.0 t.1 acts t.2 (writes_quiet closed_by from.client (writes_close from.client) t.0 t.3.only)
    (shuffle_quiet closed_by i.0 i.1 t.1 i.2 (says_quiet closed_by link (writes_close link) u.text said i.0 i.3)
    (comes_quiet closed_by from.client (reads_close from.client) from.body to.body from.ahead u.given to.ahead came i.1 i.4))

front_quiet : (k : ℕ) (front : List ℕ) (said : Sent) (acts : List Act) → SaysFront k front said acts → IsQuiet closed_by acts
front_quiet k front sent.All acts s = writes_quiet closed_by k (writes_close k) acts s.only
front_quiet k front (sent.Failed some) acts s =
    quiet_then closed_by s.0 s.1 acts s.2 (writes_quiet closed_by k (writes_close k) s.0 s.3.only) (ap (flat_map closed_by) s.4)
front_quiet k front (sent.Stopped why) acts s = writes_quiet closed_by k (writes_close k) acts s.only

upload_closing : (from to : UploadView) (link : ℕ) (result : Tried Begun End) (late : Lateness) (a : At) (w : Work)
    → ExchangesUpload from to link result late a w → ClosesWhatLeaves a w
upload_closing from to link result late a w d =
    elim d.does [
      | inl (inl p) ↦ only_closing _ (Then (Uploads from to link Came.Done sent.All) (Replies link from.out.method to.reply to.left result)) (λ acts t. quiet_then closed_by t.0 t.1 acts t.2 (uploads_quiet from to link Came.Done sent.All t.0 t.3)
          (replies_quiet closed_by link (reads_close link) from.out.method to.left to.reply result t.1 t.4)) a w p.only
      | inl (inr p) ↦ only_closing _ (Uploads from to link p.came p.said) (λ acts u. uploads_quiet from to link p.came p.said acts u) a w p.only
      | inr (inl p) ↦ only_closing _ (SaysFront from.client (take to.continued (continue_of from.expect)) p.said)
          (λ acts s. front_quiet from.client (take to.continued (continue_of from.expect)) p.said acts s) a w p.only
      | inr (inr p) ↦ subst (λ (x : Work). ClosesWhatLeaves a x) (sym p.idle) refl
    ]

pub upload_trips_close : {C : Type 0} (errand : ErrandView) (from to : UploadView) (result : Attempted C Begun End) (late : Lateness) (a : At) (w : Work)
    → AttemptedBy ExchangesUpload errand from to result late a w → ClosesWhatLeaves a w
upload_trips_close errand from to result late a w s = attempted_closing ExchangesUpload errand upload_closing from to result late a w s

pub uploads_close : {C : Type 0} (link : C → LinkView) → UploadTripsCloseWhatLeaves link
uploads_close link errand from to result late a w s = upload_trips_close errand from to result late a w s
