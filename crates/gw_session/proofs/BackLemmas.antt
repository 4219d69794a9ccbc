-- A backend's reply, from its first piece to the end of its lease, over plain variables.
use Rattle.std.proofs.Common.{ℕ, ◌≡◌, ◌≤◌, Bool, true, false, List, [], ◌++◌, Option, Some, None, ap, sym, subst, ◌∙◌, arith}
use Rattle.gw_wire.specs.declared.values.Act.{Act}
use Rattle.gw_wire.specs.Link.{LinkView}
use Rattle.gw_wire.specs.Wire.{WireView}
use Rattle.gw_wire.proofs.Facts.{link_same}
use Rattle.gw_head.specs.declared.request.RequestHead.{RequestHead}
use Rattle.gw_body.specs.declared.place.Place.{Place}
use Rattle.gw_account.specs.Did.{Went, span}
use Rattle.gw_account.specs.Work.{Bill, Work, At, Idle, Only, Seq, behind, both, free}
use Rattle.gw_account.proofs.Facts.{free_both}
use Rattle.gw_pool.specs.Lent.{Lent}
use Rattle.gw_stream.specs.declared.beginning.Began.{Began}
use Rattle.gw_stream.specs.declared.beginning.Began.TheVariants as began
use Rattle.gw_stream.specs.declared.relaying.Incoming.{Incoming}
use Rattle.gw_stream.specs.declared.waits.Loss.{Loss}
use Rattle.gw_stream.specs.Beginning.{Begins, began_bill}
use Rattle.gw_stream.specs.Drawing.{Draws}
use Rattle.gw_stream.specs.Filling.{Passing}
use Rattle.gw_stream.specs.Outbox.{OutView}
use Rattle.gw_stream.specs.Relaying as relaying
use Rattle.gw_stream.specs.Relaying.{Came, Interleaved, TextFor, came_bill, incoming}
use Rattle.gw_stream.specs.Waits.{Says, sent_bill}
use Rattle.gw_transport.specs.declared.replying.Begun.{Begun}
use Rattle.gw_transport.specs.Ending.{is_reusable}
use Rattle.gw_transport.specs.Leasing.{EndStep}
use Rattle.gw_transport.specs.Parts.{Ends}
use Rattle.gw_transport.specs.Watch.{times_found}
use Rattle.gw_session.specs.declared.end.Ended.{Ended}
use Rattle.gw_session.specs.declared.end.Why.{Why}
use Rattle.gw_session.specs.Passing.{Answer, AnswersReply, BeginsReply, Replied, in_chunks, is_due_answer, is_due_loss, reason_of}
use Rattle.gw_session.specs.ReplySteps.{AnsweredStep, AnswersBegun, AnswersPieces, BegunAnswer, RestStep, SaysRest, reply_next}
use Rattle.gw_session.specs.Replies.{dated}
use Rattle.gw_session.specs.Seats.{Seats}
use Rattle.gw_session.specs.Stand.{Goes, Spot, stand}
use Rattle.gw_session.specs.TripSteps.{BegunStep, IsOfBackend, is_cancelled_began, is_due_began}
use Rattle.gw_session.specs.Turn.{is_cancelled_answer, is_cancelled_loss}
use Rattle.gw_session.proofs.ComesLemmas.{comes_then, shuffle_before}
use Rattle.gw_session.proofs.DoneLemmas.{after_idle, then_idle, done_map, done_part, done_then, done_went, due_later, rose_before, rose_behind, seq_left, seq_map}
use Rattle.gw_session.proofs.SeatLemmas.{goes_ended, goes_link, goes_since, goes_then}

-- ---- the rest of a reply, and the end of its lease

pub pieces_answered : (x y w : WireView) (from to : LinkView) (s0 s1 : Seats) (lb lc : Lent) (p : Spot) (head : RequestHead) (reason : Bool → Option Why) (b : Replied) (out : OutView)
    (after : Incoming) (since conn : ℕ) (reusable : Bool) (deadline : Option ℕ) (result : Option Ended)
    → RestStep (stand x from s0) (stand y to s1) p since deadline (SaysRest p head reason b out after) reason result
    → conn ≡ b.conn → reusable ≡ is_reusable b.begun after → EndStep (span y w lb lc) conn reusable
    → AnsweredStep (span x w lb lc) (stand x from s0) (stand w to s1) p deadline (AnswersPieces p head reason b out) (reply_next reason) result
pieces_answered x y w from to s0 s1 lb lc p head reason b out after since conn reusable deadline result r same is e =
    let ends = done_map (done_part e.did) (λ a v k. subst (λ (n : ℕ). Ends (is_reusable b.begun after) n a v) same (subst (λ (t : Bool). Ends t conn a v) is k)) in
    record {
      answer = r.answer;
      done = done_map (done_then (done_went lb r.went) ends) (λ a v k. (after, k));
      next_is = r.next_is;
      rested = e.rested;
      due = λ k. due_later deadline y.moment w.moment e.did.doing.wired.later.moment (r.due k);
      cancelled = r.cancelled;
    }

pub pieces_go : (x y w : WireView) (from to : LinkView) (s0 s1 : Seats) (lb lc : Lent) (p : Spot) (head : RequestHead) (reason : Bool → Option Why) (b : Replied) (out : OutView)
    (after : Incoming) (since conn : ℕ) (reusable : Bool) (deadline : Option ℕ) (result : Option Ended)
    → RestStep (stand x from s0) (stand y to s1) p since deadline (SaysRest p head reason b out after) reason result → EndStep (span y w lb lc) conn reusable
    → Goes (stand x from s0) (stand w to s1) p since false result
pieces_go x y w from to s0 s1 lb lc p head reason b out after since conn reusable deadline result r e =
    goes_ended (stand x from s0) (stand y to s1) (stand w to s1) p since false false result e.did.doing.wired.later.moment r.goes
    (goes_link y w to to s1 p since None (link_same to) tt)

-- ---- behind the first piece

streamed : (link : ℕ) (place mid new : Place) (ahead between left d e : List ℕ) (came : Came) (says : List Act → Type 0) (cost : Bill) (a : At) (w : Work)
    → Seq (Only free (Draws link place ahead d mid between)) (Only cost (Interleaved says (relaying.Comes link mid between e new left came))) a w
    → Only cost (Interleaved says (relaying.Comes link place ahead (d ++ e) new left came)) a w
streamed link place mid new ahead between left d e came says cost a w s =
    let u : Work = s.0 in
    let v : Work = s.1 in
    let i = s.4.2 in
    let both_acts : Interleaved says (relaying.Comes link place ahead (d ++ e) new left came) (u.acts ++ v.acts) =
    (i.0, u.acts ++ i.1, shuffle_before u.acts i.0 i.1 v.acts i.2, i.3, comes_then link place mid new ahead between left d e came u.acts i.1 s.3.2 i.4) in (
      ap (λ (z : Work). z.made) s.2 ∙ ap (λ (m : List _). m ++ v.made) s.3.0 ∙ s.4.0,
      ap (λ (z : Work). z.bill) s.2 ∙ ap (λ (c : Bill). both c v.bill) s.3.1 ∙ ap (λ (c : Bill). both free c) s.4.1 ∙ free_both cost,
      subst (λ (l : List Act). Interleaved says (relaying.Comes link place ahead (d ++ e) new left came) l) (sym (ap (λ (z : Work). z.acts) s.2)) both_acts,
    )

-- a backend's reply whose body stands further on
abbrev pub moved : Replied → Place → List ℕ → Replied
moved b place ahead = record b { place = place; ahead = ahead }

pieces_of : (p : Spot) (head : RequestHead) (reason : Bool → Option Why) (b : Replied) (before after : Passing) (given : List ℕ) (answer : Answer)
    → before.place ≡ b.place → before.ahead ≡ b.ahead → before.out.begun ≡ [] → before.out.in_chunks ≡ in_chunks b.begun head.old
    → after.out ≡ record before.out { begun = before.out.begun ++ given } → (a : At) (w : Work)
    → Seq (Only free (Draws b.link before.place before.ahead given after.place after.ahead)) (AnswersPieces p head reason (moved b after.place after.ahead) after.out answer) a w
    → AnswersReply p head reason b answer a w
pieces_of p head reason b before after given Answer.Silent pl ah none framed is a w s =
    let t = s.4 in
    let R = SaysRest p head reason (moved b after.place after.ahead) after.out t.0 Answer.Silent in
    let E = Ends (is_reusable b.begun t.0) b.conn in
    let k = t.1 in
    let ends : Ends (is_reusable b.begun t.0) b.conn (behind a s.0) s.1 = after_idle E (behind a s.0) s.1 (seq_map R E Idle E (λ c v q. q.1) (λ c v q. q) (behind a s.0) s.1 k) in
    let same : Ends (is_reusable b.begun (incoming after.place after.ahead)) b.conn (behind a s.0) s.1 =
    subst (λ (i : Incoming). Ends (is_reusable b.begun i) b.conn (behind a s.0) s.1) k.3.0 ends in
    let draws : Only free (Draws b.link b.place b.ahead given after.place after.ahead) a s.0 =
    subst (λ (q : Place). Only free (Draws b.link q b.ahead given after.place after.ahead) a s.0) pl
    (subst (λ (l : List ℕ). Only free (Draws b.link before.place l given after.place after.ahead) a s.0) ah s.3) in
    (given, (after.place, after.ahead, (s.0, s.1, s.2, draws, same)))
pieces_of p head reason b before after given (Answer.Streamed r came) pl ah none framed is a w s =
    let t = s.4 in
    let k = t.1 in
    let rest = k.3 in
    let says = Says p.client r.text r.sent in
    let cost = dated r.moment (both (came_bill None came) (sent_bill (Some p.table.client_ms) r.sent)) in
    let u = s.0 in
    let v = k.0 in
    let draws : Only free (Draws b.link b.place b.ahead given after.place after.ahead) a u =
    subst (λ (q : Place). Only free (Draws b.link q b.ahead given after.place after.ahead) a u) pl
    (subst (λ (l : List ℕ). Only free (Draws b.link before.place l given after.place after.ahead) a u) ah s.3) in
    let F = Only free (Draws b.link b.place b.ahead given after.place after.ahead) in
    let I = Only cost (Interleaved says (relaying.Comes b.link after.place after.ahead rest.d t.0.body t.0.inbox came)) in
    let J = Only cost (Interleaved says (relaying.Comes b.link b.place b.ahead (given ++ rest.d) t.0.body t.0.inbox came)) in
    let E = Ends (is_reusable b.begun (incoming t.0.body t.0.inbox)) b.conn in
    let whole : Seq F (Seq I E) a w = (u, s.1, s.2, draws, (v, k.1, k.2, rest.does, k.4)) in
    record {
      d = given ++ rest.d;
      new = t.0.body;
      left = t.0.inbox;
      begins = rest.begins;
      head_is = rest.head_is;
      text_is = subst (λ (c : Bool). TextFor rest.begins c (given ++ rest.d) came r.text) framed
          (subst (λ (l : List ℕ). TextFor rest.begins before.out.in_chunks ((l ++ given) ++ rest.d) came r.text) none
          (subst (λ (o : OutView). TextFor rest.begins o.in_chunks (o.begun ++ rest.d) came r.text) is rest.text_is));
      does = seq_map (Seq F I) E J E (streamed b.link b.place after.place t.0.body b.ahead after.ahead t.0.inbox given rest.d came says cost) (λ c x q. q) a w (seq_left F I E a w whole);
    }
pieces_of p head reason b before after given (Answer.Untold x) pl ah none framed is a w s = absurd s.4.1.3
pieces_of p head reason b before after given (Answer.Own x) pl ah none framed is a w s = absurd s.4.1.3
pieces_of p head reason b before after given (Answer.Bad x y) pl ah none framed is a w s = absurd s.4.1.3
pieces_of p head reason b before after given (Answer.Lost x y) pl ah none framed is a w s = absurd s.4.1.3
pieces_of p head reason b before after given (Answer.Whole x) pl ah none framed is a w s = absurd s.4.1.3

pub back_pieces : (x y w : WireView) (from mid to : LinkView) (s0 s1 s2 : Seats) (lb lc : Lent) (p : Spot) (head : RequestHead) (reason : Bool → Option Why) (b : Replied)
    (before after : Passing) (since link : ℕ) (deadline : Option ℕ) (result : Option Ended)
    → link ≡ b.link → before.place ≡ b.place → before.ahead ≡ b.ahead → before.out.begun ≡ [] → before.out.in_chunks ≡ in_chunks b.begun head.old
    → BegunStep (stand x from s0) (stand y mid s1) p since link before after deadline began.Piece
    → AnsweredStep (span y w lb lc) (stand y mid s1) (stand w to s2) p deadline (AnswersPieces p head reason (moved b after.place after.ahead) after.out) (reply_next reason) result
    → AnsweredStep (span x w lb lc) (stand x from s0) (stand w to s2) p deadline (AnswersReply p head reason b) (reply_next reason) result
back_pieces x y w from mid to s0 s1 s2 lb lc p head reason b before after since link deadline result on pl ah none framed f k =
    let f1 = subst (λ (n : ℕ). BegunStep (stand x from s0) (stand y mid s1) p since n before after deadline began.Piece) on f in
    record {
      answer = k.answer;
      done = done_map (done_then (done_went lb f1.went) k.done) (pieces_of p head reason b before after f1.given k.answer pl ah none framed f1.out);
      next_is = k.next_is;
      rested = k.rested;
      due = k.due;
      cancelled = λ e. rose_before (times_found p.own s0.words.view.ended) (times_found p.own s1.words.view.ended) (times_found p.own s2.words.view.ended) f1.goes.seats.found (k.cancelled e);
    }

-- ---- or what came up to it, and the end of the lease

begun_of : (p : Spot) (head : RequestHead) (reason : Bool → Option Why) (b : Replied) (given d : List ℕ) (new : Place) (left : List ℕ) (result : Began) (answer : Answer)
    → given ≡ d → IsOfBackend result → (a : At) (w : Work)
    → Seq (Only (began_bill None result) (Begins b.link b.place b.ahead given new left result))
    (Seq (Ends (is_reusable b.begun (incoming new left)) b.conn) (AnswersBegun p head reason b.begun d result answer)) a w
    → AnswersReply p head reason b answer a w
begun_of p head reason b given d new left began.Whole (Answer.Whole said) same of a w s =
    let B = Only (began_bill None began.Whole) (Begins b.link b.place b.ahead given new left began.Whole) in
    let E = Ends (is_reusable b.begun (incoming new left)) b.conn in
    let S = AnswersBegun p head reason b.begun d began.Whole (Answer.Whole said) in
    let t = seq_left B E S a w s in
    (given, (t.0, t.1, t.2, (new, left, t.3), subst (λ (l : List ℕ). AnswersBegun p head reason b.begun l began.Whole (Answer.Whole said) (behind a t.0) t.1) (sym same) t.4))
begun_of p head reason b given d new left (began.Bad error) (Answer.Bad e said) same of a w s =
    let B = Only (began_bill None (began.Bad error)) (Begins b.link b.place b.ahead given new left (began.Bad error)) in
    let E = Ends (is_reusable b.begun (incoming new left)) b.conn in
    let S = AnswersBegun p head reason b.begun d (began.Bad error) (Answer.Bad e said) in
    let t = seq_left B E S a w s in
    let begins : BeginsReply b (began.Bad e) given a t.0 = subst (λ (f : _). BeginsReply b (began.Bad f) given a t.0) (sym t.4.0) (new, left, t.3) in
    (given, (t.0, t.1, t.2, begins, t.4.1))
begun_of p head reason b given d new left (began.Lost why) (Answer.Lost l said) same of a w s =
    let B = Only (began_bill None (began.Lost why)) (Begins b.link b.place b.ahead given new left (began.Lost why)) in
    let E = Ends (is_reusable b.begun (incoming new left)) b.conn in
    let S = AnswersBegun p head reason b.begun d (began.Lost why) (Answer.Lost l said) in
    let t = seq_left B E S a w s in
    let T : Loss → Type 0 = λ k. AnswersReply p head reason b (Answer.Lost k said) a w in
    subst T (sym t.4.0) (of, (given, (t.0, t.1, t.2, (new, left, t.3), t.4.1)))
begun_of p head reason b given d new left began.Spent Answer.Silent same of a w s =
    let B = Only (began_bill None began.Spent) (Begins b.link b.place b.ahead given new left began.Spent) in
    let E = Ends (is_reusable b.begun (incoming new left)) b.conn in
    (given, (new, left, then_idle (Seq B E) a w (seq_left B E Idle a w s)))
begun_of p head reason b given d new left began.Piece Answer.Silent same of a w s = absurd s.4.4
begun_of p head reason b given d new left began.Piece (Answer.Untold x) same of a w s = absurd s.4.4
begun_of p head reason b given d new left began.Piece (Answer.Own x) same of a w s = absurd s.4.4
begun_of p head reason b given d new left began.Piece (Answer.Bad x y) same of a w s = absurd s.4.4
begun_of p head reason b given d new left began.Piece (Answer.Lost x y) same of a w s = absurd s.4.4
begun_of p head reason b given d new left began.Piece (Answer.Whole x) same of a w s = absurd s.4.4
begun_of p head reason b given d new left began.Piece (Answer.Streamed x y) same of a w s = absurd s.4.4
begun_of p head reason b given d new left began.Whole Answer.Silent same of a w s = absurd s.4.4
begun_of p head reason b given d new left began.Whole (Answer.Untold x) same of a w s = absurd s.4.4
begun_of p head reason b given d new left began.Whole (Answer.Own x) same of a w s = absurd s.4.4
begun_of p head reason b given d new left began.Whole (Answer.Bad x y) same of a w s = absurd s.4.4
begun_of p head reason b given d new left began.Whole (Answer.Lost x y) same of a w s = absurd s.4.4
begun_of p head reason b given d new left began.Whole (Answer.Streamed x y) same of a w s = absurd s.4.4
begun_of p head reason b given d new left (began.Bad error) Answer.Silent same of a w s = absurd s.4.4
begun_of p head reason b given d new left (began.Bad error) (Answer.Untold x) same of a w s = absurd s.4.4
begun_of p head reason b given d new left (began.Bad error) (Answer.Own x) same of a w s = absurd s.4.4
begun_of p head reason b given d new left (began.Bad error) (Answer.Lost x y) same of a w s = absurd s.4.4
begun_of p head reason b given d new left (began.Bad error) (Answer.Whole x) same of a w s = absurd s.4.4
begun_of p head reason b given d new left (began.Bad error) (Answer.Streamed x y) same of a w s = absurd s.4.4
begun_of p head reason b given d new left (began.Lost why) Answer.Silent same of a w s = absurd s.4.4
begun_of p head reason b given d new left (began.Lost why) (Answer.Untold x) same of a w s = absurd s.4.4
begun_of p head reason b given d new left (began.Lost why) (Answer.Own x) same of a w s = absurd s.4.4
begun_of p head reason b given d new left (began.Lost why) (Answer.Bad x y) same of a w s = absurd s.4.4
begun_of p head reason b given d new left (began.Lost why) (Answer.Whole x) same of a w s = absurd s.4.4
begun_of p head reason b given d new left (began.Lost why) (Answer.Streamed x y) same of a w s = absurd s.4.4
begun_of p head reason b given d new left began.Spent (Answer.Untold x) same of a w s = absurd s.4.4
begun_of p head reason b given d new left began.Spent (Answer.Own x) same of a w s = absurd s.4.4
begun_of p head reason b given d new left began.Spent (Answer.Bad x y) same of a w s = absurd s.4.4
begun_of p head reason b given d new left began.Spent (Answer.Lost x y) same of a w s = absurd s.4.4
begun_of p head reason b given d new left began.Spent (Answer.Whole x) same of a w s = absurd s.4.4
begun_of p head reason b given d new left began.Spent (Answer.Streamed x y) same of a w s = absurd s.4.4

anywhere : At
anywhere = record {
  limits = record { idle_total = 0; idle_per_host = 0; conns_per_host = 0; idle_ms = 0; journal = 0; passes = 0; per_pass = 0; hosts = 0 };
  caller = 0;
  groups = λ backend. [];
  history = [];
}

due_began : (p : Spot) (head : RequestHead) (reason : Bool → Option Why) (reply : Begun) (d : List ℕ) (result : Began) (answer : Answer) → {x y : WireView}
    → Went x y (AnswersBegun p head reason reply d result answer) → is_due_answer answer ≡ true → is_due_began result ≡ true
due_began p head reason reply d began.Piece Answer.Silent w e = absurd (let bad : false ≡ true = e in cc)
due_began p head reason reply d began.Piece (Answer.Untold x) w e = absurd (let bad : false ≡ true = e in cc)
due_began p head reason reply d began.Piece (Answer.Own x) w e = absurd (let bad : false ≡ true = e in cc)
due_began p head reason reply d began.Piece (Answer.Bad x y) w e = absurd (let bad : false ≡ true = e in cc)
due_began p head reason reply d began.Piece (Answer.Lost x y) w e = absurd (w.does anywhere)
due_began p head reason reply d began.Piece (Answer.Whole x) w e = absurd (let bad : false ≡ true = e in cc)
due_began p head reason reply d began.Piece (Answer.Streamed x y) w e = absurd (w.does anywhere)
due_began p head reason reply d began.Whole Answer.Silent w e = absurd (let bad : false ≡ true = e in cc)
due_began p head reason reply d began.Whole (Answer.Untold x) w e = absurd (let bad : false ≡ true = e in cc)
due_began p head reason reply d began.Whole (Answer.Own x) w e = absurd (let bad : false ≡ true = e in cc)
due_began p head reason reply d began.Whole (Answer.Bad x y) w e = absurd (let bad : false ≡ true = e in cc)
due_began p head reason reply d began.Whole (Answer.Lost x y) w e = absurd (w.does anywhere)
due_began p head reason reply d began.Whole (Answer.Whole x) w e = absurd (let bad : false ≡ true = e in cc)
due_began p head reason reply d began.Whole (Answer.Streamed x y) w e = absurd (w.does anywhere)
due_began p head reason reply d (began.Bad error) Answer.Silent w e = absurd (let bad : false ≡ true = e in cc)
due_began p head reason reply d (began.Bad error) (Answer.Untold x) w e = absurd (let bad : false ≡ true = e in cc)
due_began p head reason reply d (began.Bad error) (Answer.Own x) w e = absurd (let bad : false ≡ true = e in cc)
due_began p head reason reply d (began.Bad error) (Answer.Bad x y) w e = absurd (let bad : false ≡ true = e in cc)
due_began p head reason reply d (began.Bad error) (Answer.Lost x y) w e = absurd (w.does anywhere)
due_began p head reason reply d (began.Bad error) (Answer.Whole x) w e = absurd (let bad : false ≡ true = e in cc)
due_began p head reason reply d (began.Bad error) (Answer.Streamed x y) w e = absurd (w.does anywhere)
due_began p head reason reply d (began.Lost why) Answer.Silent w e = absurd (let bad : false ≡ true = e in cc)
due_began p head reason reply d (began.Lost why) (Answer.Untold x) w e = absurd (let bad : false ≡ true = e in cc)
due_began p head reason reply d (began.Lost why) (Answer.Own x) w e = absurd (let bad : false ≡ true = e in cc)
due_began p head reason reply d (began.Lost why) (Answer.Bad x y) w e = absurd (let bad : false ≡ true = e in cc)
due_began p head reason reply d (began.Lost why) (Answer.Lost x y) w e = ap is_due_loss (sym (w.does anywhere).0) ∙ e
due_began p head reason reply d (began.Lost why) (Answer.Whole x) w e = absurd (let bad : false ≡ true = e in cc)
due_began p head reason reply d (began.Lost why) (Answer.Streamed x y) w e = absurd (w.does anywhere)
due_began p head reason reply d began.Spent Answer.Silent w e = absurd (let bad : false ≡ true = e in cc)
due_began p head reason reply d began.Spent (Answer.Untold x) w e = absurd (let bad : false ≡ true = e in cc)
due_began p head reason reply d began.Spent (Answer.Own x) w e = absurd (let bad : false ≡ true = e in cc)
due_began p head reason reply d began.Spent (Answer.Bad x y) w e = absurd (let bad : false ≡ true = e in cc)
due_began p head reason reply d began.Spent (Answer.Lost x y) w e = absurd (w.does anywhere)
due_began p head reason reply d began.Spent (Answer.Whole x) w e = absurd (let bad : false ≡ true = e in cc)
due_began p head reason reply d began.Spent (Answer.Streamed x y) w e = absurd (w.does anywhere)

cancelled_began : (p : Spot) (head : RequestHead) (reason : Bool → Option Why) (reply : Begun) (d : List ℕ) (result : Began) (answer : Answer) → {x y : WireView}
    → Went x y (AnswersBegun p head reason reply d result answer) → is_cancelled_answer answer ≡ true → is_cancelled_began result ≡ true
cancelled_began p head reason reply d began.Piece Answer.Silent w e = absurd (let bad : false ≡ true = e in cc)
cancelled_began p head reason reply d began.Piece (Answer.Untold x) w e = absurd (let bad : false ≡ true = e in cc)
cancelled_began p head reason reply d began.Piece (Answer.Own x) w e = absurd (let bad : false ≡ true = e in cc)
cancelled_began p head reason reply d began.Piece (Answer.Bad x y) w e = absurd (let bad : false ≡ true = e in cc)
cancelled_began p head reason reply d began.Piece (Answer.Lost x y) w e = absurd (w.does anywhere)
cancelled_began p head reason reply d began.Piece (Answer.Whole x) w e = absurd (let bad : false ≡ true = e in cc)
cancelled_began p head reason reply d began.Piece (Answer.Streamed x y) w e = absurd (w.does anywhere)
cancelled_began p head reason reply d began.Whole Answer.Silent w e = absurd (let bad : false ≡ true = e in cc)
cancelled_began p head reason reply d began.Whole (Answer.Untold x) w e = absurd (let bad : false ≡ true = e in cc)
cancelled_began p head reason reply d began.Whole (Answer.Own x) w e = absurd (let bad : false ≡ true = e in cc)
cancelled_began p head reason reply d began.Whole (Answer.Bad x y) w e = absurd (let bad : false ≡ true = e in cc)
cancelled_began p head reason reply d began.Whole (Answer.Lost x y) w e = absurd (w.does anywhere)
cancelled_began p head reason reply d began.Whole (Answer.Whole x) w e = absurd (let bad : false ≡ true = e in cc)
cancelled_began p head reason reply d began.Whole (Answer.Streamed x y) w e = absurd (w.does anywhere)
cancelled_began p head reason reply d (began.Bad error) Answer.Silent w e = absurd (let bad : false ≡ true = e in cc)
cancelled_began p head reason reply d (began.Bad error) (Answer.Untold x) w e = absurd (let bad : false ≡ true = e in cc)
cancelled_began p head reason reply d (began.Bad error) (Answer.Own x) w e = absurd (let bad : false ≡ true = e in cc)
cancelled_began p head reason reply d (began.Bad error) (Answer.Bad x y) w e = absurd (let bad : false ≡ true = e in cc)
cancelled_began p head reason reply d (began.Bad error) (Answer.Lost x y) w e = absurd (w.does anywhere)
cancelled_began p head reason reply d (began.Bad error) (Answer.Whole x) w e = absurd (let bad : false ≡ true = e in cc)
cancelled_began p head reason reply d (began.Bad error) (Answer.Streamed x y) w e = absurd (w.does anywhere)
cancelled_began p head reason reply d (began.Lost why) Answer.Silent w e = absurd (let bad : false ≡ true = e in cc)
cancelled_began p head reason reply d (began.Lost why) (Answer.Untold x) w e = absurd (let bad : false ≡ true = e in cc)
cancelled_began p head reason reply d (began.Lost why) (Answer.Own x) w e = absurd (let bad : false ≡ true = e in cc)
cancelled_began p head reason reply d (began.Lost why) (Answer.Bad x y) w e = absurd (let bad : false ≡ true = e in cc)
cancelled_began p head reason reply d (began.Lost why) (Answer.Lost x y) w e = ap is_cancelled_loss (sym (w.does anywhere).0) ∙ e
cancelled_began p head reason reply d (began.Lost why) (Answer.Whole x) w e = absurd (let bad : false ≡ true = e in cc)
cancelled_began p head reason reply d (began.Lost why) (Answer.Streamed x y) w e = absurd (w.does anywhere)
cancelled_began p head reason reply d began.Spent Answer.Silent w e = absurd (let bad : false ≡ true = e in cc)
cancelled_began p head reason reply d began.Spent (Answer.Untold x) w e = absurd (let bad : false ≡ true = e in cc)
cancelled_began p head reason reply d began.Spent (Answer.Own x) w e = absurd (let bad : false ≡ true = e in cc)
cancelled_began p head reason reply d began.Spent (Answer.Bad x y) w e = absurd (let bad : false ≡ true = e in cc)
cancelled_began p head reason reply d began.Spent (Answer.Lost x y) w e = absurd (w.does anywhere)
cancelled_began p head reason reply d began.Spent (Answer.Whole x) w e = absurd (let bad : false ≡ true = e in cc)
cancelled_began p head reason reply d began.Spent (Answer.Streamed x y) w e = absurd (w.does anywhere)

pub back_else : (x y z w : WireView) (from mid to : LinkView) (s0 s1 s2 : Seats) (lb lc : Lent) (p : Spot) (head : RequestHead) (unread : Bool) (b : Replied)
    (before after : Passing) (since link conn : ℕ) (reusable : Bool) (deadline : Option ℕ) (result : Began) (next : Option Ended)
    → link ≡ b.link → conn ≡ b.conn → before.place ≡ b.place → before.ahead ≡ b.ahead → before.out.begun ≡ [] → reusable ≡ is_reusable b.begun (incoming after.place after.ahead)
    → BegunStep (stand x from s0) (stand y mid s1) p since link before after deadline result → EndStep (span y z lb lc) conn reusable
    → BegunAnswer (stand z mid s1) (stand w to s2) p head (reason_of p head unread) b.begun after.out.begun result next
    → AnsweredStep (span x w lb lc) (stand x from s0) (stand w to s2) p deadline (AnswersReply p head (reason_of p head unread) b) (reply_next (reason_of p head unread)) next
back_else x y z w from mid to s0 s1 s2 lb lc p head unread b before after since link conn reusable deadline result next on same pl ah none is f e k =
    let reason = reason_of p head unread in
    let f1 = subst (λ (n : ℕ). BegunStep (stand x from s0) (stand y mid s1) p since n before after deadline result) on f in
    let given : f1.given ≡ after.out.begun = ap (λ (l : List ℕ). l ++ f1.given) (sym none) ∙ sym (ap (λ (o : OutView). o.begun) f1.out) in
    let first = done_map (done_went lb f1.went) (λ a v q.
    subst (λ (l : Place). Only (began_bill None result) (Begins b.link l b.ahead f1.given after.place after.ahead result) a v) pl
    (subst (λ (l : List ℕ). Only (began_bill None result) (Begins b.link before.place l f1.given after.place after.ahead result) a v) ah q)) in
    let ends = done_map (done_part e.did) (λ a v q. subst (λ (n : ℕ). Ends (is_reusable b.begun (incoming after.place after.ahead)) n a v) same (subst (λ (t : Bool). Ends t conn a v) is q)) in
    record {
      answer = k.answer;
      done = done_map (done_then first (done_then ends (done_went lc k.went))) (begun_of p head reason b f1.given after.out.begun after.place after.ahead result k.answer given f1.of_backend);
      next_is = k.next_is;
      rested = e.rested;
      due = λ d. due_later deadline y.moment w.moment (let m = e.did.doing.wired.later.moment in let n = k.went.wired.later.moment in omega arith) (f1.due (due_began p head reason b.begun after.out.begun result k.answer k.went d));
      cancelled = λ d. rose_behind (times_found p.own s0.words.view.ended) (times_found p.own s1.words.view.ended) (times_found p.own s2.words.view.ended) k.goes.seats.found
          (f1.cancelled (cancelled_began p head reason b.begun after.out.begun result k.answer k.went d));
    }

pub back_goes : (x y z w : WireView) (from mid to : LinkView) (s0 s1 s2 : Seats) (lb lc : Lent) (p : Spot) (since link conn : ℕ) (before after : Passing) (reusable : Bool) (deadline : Option ℕ)
    (result : Began) (next : Option Ended) → since ≤ x.moment
    → BegunStep (stand x from s0) (stand y mid s1) p since link before after deadline result → EndStep (span y z lb lc) conn reusable
    → Goes (stand z mid s1) (stand w to s2) p z.moment false next → z.moment ≤ w.moment → Goes (stand x from s0) (stand w to s2) p since false next
back_goes x y z w from mid to s0 s1 s2 lb lc p since link conn before after reusable deadline result next le f e k later =
    let m = e.did.doing.wired.later.moment in
    goes_then (stand x from s0) (stand z mid s1) (stand w to s2) p since false false next later
    (goes_then (stand x from s0) (stand y mid s1) (stand z mid s1) p since false false None m f.goes (goes_link y z mid mid s1 p since None (link_same mid) tt))
    (goes_since (stand z mid s1) (stand w to s2) p z.moment since false next (let n = f.went.wired.later.moment in omega arith) k)
