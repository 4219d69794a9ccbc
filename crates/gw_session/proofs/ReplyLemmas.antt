-- Steps of a backend's reply on its way to the client, over plain variables.
use Rattle.std.proofs.Common.{ℕ, ◌≡◌, ◌≤◌, ◌<◌, Bool, true, false, List, [], ◌∷◌, ◌++◌, length, drop, Option, Some, None, is_some, refl, ap, sym, subst, ◌∙◌, arith, append-nil, append_assoc}
use Rattle.std.proofs.lemmas.List.{take_all, drop_all}
use Rattle.gw_wire.specs.Link.{LinkView}
use Rattle.gw_wire.specs.Wire.{WireView, NowStep}
use Rattle.gw_wire.proofs.Facts.{link_same}
use Rattle.gw_chunk.specs.Chunked.{coded, coded_piece, piece_limit}
use Rattle.gw_chunk.proofs.Facts.{coded_front}
use Rattle.gw_chunk.specs.declared.error.ChunkError.{ChunkError}
use Rattle.gw_head.specs.declared.request.RequestHead.{RequestHead}
use Rattle.gw_proxy.specs.OutReply.{OutReply}
use Rattle.gw_proxy.specs.declared.own.Own.TheVariants.{Plain}
use Rattle.gw_account.proofs.Facts.{went_map, went_nothing}
use Rattle.gw_stream.specs.declared.beginning.Began.{Began}
use Rattle.gw_stream.specs.declared.beginning.Began.TheVariants as began
use Rattle.gw_stream.specs.declared.relaying.Relayed.{Relayed}
use Rattle.gw_stream.specs.declared.waits.Loss.{Loss}
use Rattle.gw_stream.specs.declared.waits.Sent.{Sent}
use Rattle.gw_stream.specs.declared.waits.Sent.TheVariants as sent
use Rattle.gw_stream.specs.declared.waits.Stop.TheVariants as stops
use Rattle.gw_stream.specs.Guard.{GuardView}
use Rattle.gw_stream.specs.Outbox.{OutView, end_of, rest_of}
use Rattle.gw_stream.specs.Relaying.{Came, relayed_by, text_of}
use Rattle.gw_stream.specs.ReplyLaws.{WholeStep, whole_out}
use Rattle.gw_stream.specs.Waits.{SentStep, side}
use Rattle.gw_transport.specs.declared.replying.Begun.{Begun}
use Rattle.gw_session.specs.declared.end.Ended.{Ended}
use Rattle.gw_session.specs.declared.end.Ended.TheVariants as ended
use Rattle.gw_session.specs.declared.end.Why.{Why}
use Rattle.gw_session.specs.declared.replying.Heading.TheVariants as heading
use Rattle.gw_session.specs.Ending.{relayed_next, sent_next, why_after}
use Rattle.gw_session.specs.Passing.{Answer, in_chunks, loss_code, reason_of}
use Rattle.gw_session.specs.ReplySteps.{BegunAnswer, PutStep, WholeSaid}
use Rattle.gw_session.specs.Replies.{IsOfClient, Said, Speaks}
use Rattle.gw_session.specs.Seats.{Seats}
use Rattle.gw_session.specs.Stand.{Goes, Spot, Stand, is_last, line, stand}
use Rattle.gw_session.specs.Steps.{OwnStep}
use Rattle.gw_session.proofs.SayLemmas.{clock_idle, goes_looked, reason_cause, sent_cause, spoken, written}
use Rattle.gw_session.proofs.SeatLemmas.{goes_same}

-- the text of a body that has no whole piece
last_text : (chunks : Bool) (rest : List ℕ) → length rest ≤ piece_limit → text_of chunks rest ≡ rest_of chunks rest ++ end_of chunks
last_text true [] most = refl
last_text true (b ∷ rest) most =
    coded_front (b ∷ rest) (omega arith)
    ∙ ap (λ l. coded_piece l ++ coded (drop piece_limit (b ∷ rest))) (take_all piece_limit (b ∷ rest) most)
    ∙ ap (λ l. coded_piece (b ∷ rest) ++ coded l) (drop_all piece_limit (b ∷ rest) most)
last_text false [] most = refl
last_text false (b ∷ rest) most = sym (append-nil (b ∷ rest))

-- what follows a body that was whole
whole_next : (s : Sent) (reason : Option Why) → IsOfClient s → relayed_next (relayed_by Came.Done s) reason ≡ sent_next s reason
whole_next sent.All reason o = refl
whole_next (sent.Failed some) reason o = refl
whole_next (sent.Stopped stops.Cancelled) reason o = absurd o
whole_next (sent.Stopped stops.Deadline) reason o = absurd o
whole_next (sent.Stopped stops.Silent) reason o = refl
whole_next (sent.Stopped stops.Ticks) reason o = refl

whole_text : (before after : OutView) (text d : List ℕ) (chunks : Bool) → before.text ≡ [] → before.begun ≡ d → before.in_chunks ≡ chunks → length d < piece_limit
    → after ≡ record before { text = before.text ++ text } → whole_out after ≡ text ++ text_of chunks d
whole_text before after text d chunks none begun framed short is =
    ap whole_out is ∙ append_assoc (before.text ++ text) (rest_of before.in_chunks before.begun) (end_of before.in_chunks)
    ∙ ap (λ (l : List ℕ). (l ++ text) ++ (rest_of before.in_chunks before.begun ++ end_of before.in_chunks)) none
    ∙ ap (λ (l : List ℕ). text ++ (rest_of before.in_chunks l ++ end_of before.in_chunks)) begun
    ∙ ap (λ (b : Bool). text ++ (rest_of b d ++ end_of b)) framed
    ∙ ap (λ (l : List ℕ). text ++ l) (sym (last_text chunks d (omega (arith, short))))

pub whole_said : (x y z : WireView) (g h : GuardView) (from to : LinkView) (before after : Seats) (p : Spot) (head : RequestHead) (unread : Bool) (reply : Begun) (now : ℕ)
    (out put : OutView) (reason : Option Why) (result : Relayed)
    → g.deadline ≡ None → g.cancels ≡ 0 → h.cancels ≡ 0 → NowStep x y now → p.client ≡ from.number → out.text ≡ [] → out.in_chunks ≡ in_chunks reply head.old
    → length out.begun < piece_limit → PutStep before after (is_last p.number) head unread reply now out put (heading.Put reason)
    → WholeStep (side y g) (side z h) from to put (Some p.table.client_ms) result
    → WholeSaid (stand x from before) (stand z to after) p head unread reply out.begun (relayed_next result reason)
whole_said x y z g h from to before after p head unread reply now out put reason result d a b n same none framed short step w =
    let puts = step.puts in
    let text = puts.2.0 in
    let all = whole_text out put text out.begun (in_chunks reply head.old) none refl framed short puts.2.2 in
    let sends : SentStep (side y g) (side z h) from to (text ++ text_of (in_chunks reply head.old) out.begun) (Some p.table.client_ms) w.said =
    subst (λ (l : List ℕ). SentStep (side y g) (side z h) from to l (Some p.table.client_ms) w.said) all w.sends in
    let done = written y z g h from to (text ++ text_of (in_chunks reply head.old) out.begun) p.table.client_ms w.said d a b sends in
    let begins : OutReply reply.head reply.framing head.method head.old (is_some (why_after head (is_last p.number) step.shut unread)) now text =
    subst (λ (o : Option Why). OutReply reply.head reply.framing head.method head.old (is_some o) now text) puts.0 puts.2.1 in
    let next : relayed_next result reason ≡ sent_next w.said (why_after head (is_last p.number) step.shut unread) =
    ap (λ (r : Relayed). relayed_next r reason) w.result_is ∙ whole_next w.said reason done.of_client ∙ ap (λ (o : Option Why). sent_next w.said o) puts.0 in
    let goes = goes_looked x y z from to before after p now step.shut (sent_next w.said (why_after head (is_last p.number) step.shut unread)) n done.went.wired.later.moment step.notes done.link
    (sent_cause from to step.shut w.said (why_after head (is_last p.number) step.shut unread) done.of_client done.cause (reason_cause from to head (is_last p.number) step.shut unread)) in
    record {
      said = Said.SaidBy (record { moment = now; shut = step.shut; text = text ++ text_of (in_chunks reply head.old) out.begun; sent = w.said });
      went = went_map (spoken x y z from to p.table.client_ms now step.shut (text ++ text_of (in_chunks reply head.old) out.begun) w.said n done)
          (λ at v spoke. ((text, begins, refl), subst (λ (c : ℕ). Speaks (line c p.table.client_ms) (record { moment = now; shut = step.shut; text = text ++ text_of (in_chunks reply head.old) out.begun; sent = w.said }) at v) (sym same) spoke));
      next_is = next;
      goes = subst (λ (o : Option Ended). Goes (stand x from before) (stand z to after) p x.moment false o) (sym next) goes;
    }

pub whole_unsaid : (x y : WireView) (from : LinkView) (before after : Seats) (p : Spot) (head : RequestHead) (unread : Bool) (reply : Begun) (now : ℕ) (d : List ℕ)
    (out put : OutView) → NowStep x y now → PutStep before after (is_last p.number) head unread reply now out put heading.NoMemory
    → WholeSaid (stand x from before) (stand y from after) p head unread reply d (Some ended.NoMemory)
whole_unsaid x y from before after p head unread reply now d out put n step = record {
  said = Said.Unsaid;
  went = clock_idle x y now n;
  next_is = refl;
  goes = goes_looked x y y from from before after p now step.shut (Some ended.NoMemory) n (omega arith) step.notes (link_same from) tt;
}

-- ---- the answer behind what came up to the first piece

pub answers_whole : (x y : Stand) (p : Spot) (head : RequestHead) (unread : Bool) (reply : Begun) (d : List ℕ) (result : Began) (next : Option Ended) → result ≡ began.Whole
    → WholeSaid x y p head unread reply d next → BegunAnswer x y p head (reason_of p head unread) reply d result next
answers_whole x y p head unread reply d result next is w =
    let made : BegunAnswer x y p head (reason_of p head unread) reply d began.Whole next =
    record { answer = Answer.Whole w.said; went = went_map w.went (λ a v k. k); next_is = w.next_is; goes = w.goes } in
    subst (λ (b : Began). BegunAnswer x y p head (reason_of p head unread) reply d b next) (sym is) made

pub answers_spent : (w : WireView) (from : LinkView) (s : Seats) (p : Spot) (head : RequestHead) (reason : Bool → Option Why) (reply : Begun) (d : List ℕ) (result : Began)
    → w.aged ≡ false → result ≡ began.Spent → BegunAnswer (stand w from s) (stand w from s) p head reason reply d result (Some ended.NoMemory)
answers_spent w from s p head reason reply d result fresh is =
    let same = goes_same (stand w from s) p w.moment in
    let made : BegunAnswer (stand w from s) (stand w from s) p head reason reply d began.Spent (Some ended.NoMemory) =
    record {
      answer = Answer.Silent;
      went = went_nothing w fresh;
      next_is = refl;
      goes = record { link = same.link; seats = same.seats; held = refl; cause = tt };
    } in
    subst (λ (b : Began). BegunAnswer (stand w from s) (stand w from s) p head reason reply d b (Some ended.NoMemory)) (sym is) made

pub answers_bad : (x y : Stand) (p : Spot) (head : RequestHead) (unread : Bool) (reply : Begun) (d : List ℕ) (result : Began) (error : ChunkError) (code : ℕ) (next : Option Ended)
    → result ≡ began.Bad error → code ≡ 502 → OwnStep x y p head unread (Plain code) next → BegunAnswer x y p head (reason_of p head unread) reply d result next
answers_bad x y p head unread reply d result error code next is same w =
    let own : OwnStep x y p head unread (Plain 502) next = subst (λ (c : ℕ). OwnStep x y p head unread (Plain c) next) same w in
    let made : BegunAnswer x y p head (reason_of p head unread) reply d (began.Bad error) next =
    record { answer = Answer.Bad error own.said; went = went_map own.went (λ a v k. (refl, k)); next_is = own.next_is; goes = own.goes } in
    subst (λ (b : Began). BegunAnswer x y p head (reason_of p head unread) reply d b next) (sym is) made

pub answers_lost : (x y : Stand) (p : Spot) (head : RequestHead) (unread : Bool) (reply : Begun) (d : List ℕ) (result : Began) (why : Loss) (code : ℕ) (next : Option Ended)
    → result ≡ began.Lost why → code ≡ loss_code why → OwnStep x y p head unread (Plain code) next → BegunAnswer x y p head (reason_of p head unread) reply d result next
answers_lost x y p head unread reply d result why code next is same w =
    let own : OwnStep x y p head unread (Plain (loss_code why)) next = subst (λ (c : ℕ). OwnStep x y p head unread (Plain c) next) same w in
    let made : BegunAnswer x y p head (reason_of p head unread) reply d (began.Lost why) next =
    record { answer = Answer.Lost why own.said; went = went_map own.went (λ a v k. (refl, k)); next_is = own.next_is; goes = own.goes } in
    subst (λ (b : Began). BegunAnswer x y p head (reason_of p head unread) reply d b next) (sym is) made
