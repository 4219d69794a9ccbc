use Rattle.std.proofs.Common.{refl, ap, ◌∙◌}
use Rattle.gw_body.specs.Places.{is_done}
use Rattle.gw_pool.specs.declared.leases.Lease.{Lease}
use Rattle.gw_stream.specs.declared.relaying.Incoming.{Incoming}
use Rattle.gw_stream.specs.Outbox.{OutView}
use Rattle.gw_session.proofs.BackLemmas.{back_else, back_goes, back_pieces}
use Rattle.gw_session.proofs.SeatLemmas.{goes_since, goes_then, timed_spot}
use Rattle.gw_session.proofs.replying.pass_back.Goals as goal

pub returns-then-has_piece-clause-step : goal.returns-then-has_piece-clause-step
returns-then-has_piece-clause-step g c =
    let begun = c.begin_reply-began.ensures in
    let spot = timed_spot g.W.Conn.Link.link c.args.client.now c.begin_reply-began.new.client _ c.begin_reply-began.new.shared c.args.errand.now.node _ begun.client
    (ap (λ k. (g.W.Conn.Link.link k).number) begun.conn) begun.same in
    let read = ap (λ (i : Incoming). is_done i.body) begun.read ∙ ap (λ (i : Incoming). is_done i.body) c.restart_out.ensures.client in
    let lease = begun.lease in
    let k = rw (spot, begun.client.deadline, read, ap (λ (l : Lease _). l.link) lease, ap (λ (l : Lease _). l.no) lease) at c.pass_pieces.ensures.step in
    back_pieces _ _ _ _ _ _ _ _ _ _ _ _ _ _ _ _ _ _ _ _ _ c.requires.leased.lease.conn (ap (λ (i : Incoming). i.body) c.restart_out.ensures.backend)
    (ap (λ (i : Incoming). i.inbox) c.restart_out.ensures.backend) (ap (λ (o : OutView). o.begun) c.restart_out.ensures.out) (ap (λ (o : OutView). o.in_chunks) c.restart_out.ensures.out)
    (rw (c.has_piece.ensures.0 c.if-has_piece.true) at begun.step) k

pub returns-then-has_piece-clause-goes : goal.returns-then-has_piece-clause-goes
returns-then-has_piece-clause-goes g c =
    let begun = c.begin_reply-began.ensures in
    let spot = timed_spot g.W.Conn.Link.link c.args.client.now c.begin_reply-began.new.client _ c.begin_reply-began.new.shared c.args.errand.now.node _ begun.client
    (ap (λ k. (g.W.Conn.Link.link k).number) begun.conn) begun.same in
    let later = rw spot at c.pass_pieces.ensures.goes in
    goes_then _ _ _ _ _ _ _ _ c.pass_pieces.ensures.step.done.doing.wired.later.moment begun.step.goes (goes_since _ _ _ _ _ _ _ begun.client.told later)

pub returns-clause-step : goal.returns-clause-step
returns-clause-step g c =
    let begun = c.begin_reply-began.ensures in
    let spot = timed_spot g.W.Conn.Link.link c.args.client.now c.begin_reply-began.new.client _ c.begin_reply-began.new.shared c.args.errand.now.node _ begun.client
    (ap (λ k. (g.W.Conn.Link.link k).number) begun.conn) begun.same in
    let read = ap (λ (i : Incoming). is_done i.body) begun.read ∙ ap (λ (i : Incoming). is_done i.body) c.restart_out.ensures.client in
    let lease = begun.lease in
    back_else _ _ _ _ _ _ _ _ _ _ _ _ _ _ _ _ _ _ _ _ _ _ _ _ _ c.requires.leased.lease.conn (ap (λ (l : Lease _). l.no) lease) (ap (λ (i : Incoming). i.body) c.restart_out.ensures.backend)
    (ap (λ (i : Incoming). i.inbox) c.restart_out.ensures.backend) (ap (λ (o : OutView). o.begun) c.restart_out.ensures.out) refl begun.step c.finish.ensures.step
    (rw (spot, read) at c.answer_begun.ensures.step)

pub returns-clause-goes : goal.returns-clause-goes
returns-clause-goes g c =
    let begun = c.begin_reply-began.ensures in
    let spot = timed_spot g.W.Conn.Link.link c.args.client.now c.begin_reply-began.new.client _ c.begin_reply-began.new.shared c.args.errand.now.node _ begun.client
    (ap (λ k. (g.W.Conn.Link.link k).number) begun.conn) begun.same in
    let k = rw spot at c.answer_begun.ensures.step in
    back_goes _ _ _ _ _ _ _ _ _ _ _ _ _ _ _ _ _ _ _ _ _ _ c.requires.looked begun.step c.finish.ensures.step k.goes k.went.wired.later.moment
