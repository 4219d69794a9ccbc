use Rattle.std.proofs.Common.{refl, ap}
use Rattle.gw_stream.specs.declared.relaying.Relayed.TheVariants as relayed
use Rattle.gw_stream.specs.declared.waits.Sent.TheVariants as sent
use Rattle.gw_transport.specs.declared.uploading.Upload.{Upload}
use Rattle.gw_transport.proofs.UploadLemmas.{no_room, not_told, reply_cause, same_upload, upload_part, upload_whole}
use Rattle.gw_transport.proofs.uploading.exchange_upload.Goals as goal

pub returns-then-not-load-clause-step : goal.returns-then-not-load-clause-step
returns-then-not-load-clause-step g c =
    no_room _ _ _ _ _ c.requires.fresh c.requires.looked (same_upload c.args.out.now _ _ c.args.upload.now _ c.args.buffers.now.client _ c.args.buffers.now.backend _ refl refl)
    (record { body = refl; ahead = refl }) refl

pub returns-in-Failed-clause-step : goal.returns-in-Failed-clause-step
returns-in-Failed-clause-step g c =
    not_told _ _ _ _ _ c.args.out.now c.args.upload.now c.say_continue.new.upload c.args.buffers.now.client c.args.buffers.now.backend (sent.Failed c.in-Failed.field-0) _ refl
    c.in-Failed.ensures.upload c.in-Failed.ensures.step

pub returns-in-Stopped-clause-step : goal.returns-in-Stopped-clause-step
returns-in-Stopped-clause-step g c =
    not_told _ _ _ _ _ c.args.out.now c.args.upload.now c.say_continue.new.upload c.args.buffers.now.client c.args.buffers.now.backend (sent.Stopped c.in-Stopped.why) _ c.client_stopped.ensures
    c.in-Stopped.ensures.upload c.in-Stopped.ensures.step

pub returns-in-Whole-clause-step : goal.returns-in-Whole-clause-step
returns-in-Whole-clause-step g c =
    upload_whole _ _ _ _ _ _ _ _ _ _ c.args.out.now c.args.upload.now c.say_continue.new.upload c.args.buffers.now.client c.args.buffers.now.backend c.relay.new.from c.hear_reply.new.from
    _ c.args.buffers.now.out _ c.hear_reply.result (ap (λ (u : Upload). u.client_ms) c.in-All.ensures.upload) c.if-not-load.ensures.1
    c.in-All.ensures.upload c.in-All.ensures.step c.in-Whole.ensures.step c.in-Whole.ensures.source c.in-Whole.ensures.target.number c.hear_reply.ensures.step

pub returns-in-Whole-clause-cause : goal.returns-in-Whole-clause-cause
returns-in-Whole-clause-cause g c = reply_cause _ _ (g.W.Conn.Link.link c.relay.new.target) (g.W.Conn.Link.link c.hear_reply.new.conn) (g.W.Conn.Link.link c.args.client.now) (g.W.Conn.Link.link c.relay.new.source) c.args.out.now.method c.hear_reply.new.from c.hear_reply.result c.hear_reply.ensures.step

pub returns-in-Bad-clause-step : goal.returns-in-Bad-clause-step
returns-in-Bad-clause-step g c =
    upload_part _ _ _ _ _ _ (g.W.Conn.Link.link c.args.conn.now) (g.W.Conn.Link.link c.relay.new.target) _ c.args.out.now c.args.upload.now c.say_continue.new.upload c.args.buffers.now.client c.args.buffers.now.backend c.relay.new.from
    _ c.args.buffers.now.out _ (relayed.Bad c.in-Bad.error) _ refl (ap (λ (u : Upload). u.client_ms) c.in-All.ensures.upload) c.if-not-load.ensures.1
    c.in-All.ensures.upload c.in-All.ensures.step c.in-Bad.ensures.step c.in-Bad.ensures.cause c.in-Bad.ensures.source

pub returns-in-Lost-clause-step : goal.returns-in-Lost-clause-step
returns-in-Lost-clause-step g c =
    upload_part _ _ _ _ _ _ (g.W.Conn.Link.link c.args.conn.now) (g.W.Conn.Link.link c.relay.new.target) _ c.args.out.now c.args.upload.now c.say_continue.new.upload c.args.buffers.now.client c.args.buffers.now.backend c.relay.new.from
    _ c.args.buffers.now.out _ (relayed.Lost c.in-Lost.why) _ c.client_lost.ensures (ap (λ (u : Upload). u.client_ms) c.in-All.ensures.upload) c.if-not-load.ensures.1
    c.in-All.ensures.upload c.in-All.ensures.step c.in-Lost.ensures.step c.in-Lost.ensures.cause c.in-Lost.ensures.source

pub returns-in-WriteFailed-clause-step : goal.returns-in-WriteFailed-clause-step
returns-in-WriteFailed-clause-step g c =
    upload_part _ _ _ _ _ _ (g.W.Conn.Link.link c.args.conn.now) (g.W.Conn.Link.link c.relay.new.target) _ c.args.out.now c.args.upload.now c.say_continue.new.upload c.args.buffers.now.client c.args.buffers.now.backend c.relay.new.from
    _ c.args.buffers.now.out _ (relayed.WriteFailed c.in-WriteFailed.some) _ (rw c.unwritten.ensures refl) (ap (λ (u : Upload). u.client_ms) c.in-All.ensures.upload) c.if-not-load.ensures.1
    c.in-All.ensures.upload c.in-All.ensures.step c.in-WriteFailed.ensures.step c.in-WriteFailed.ensures.cause c.in-WriteFailed.ensures.source

pub returns-in-WriteStopped-clause-step : goal.returns-in-WriteStopped-clause-step
returns-in-WriteStopped-clause-step g c =
    upload_part _ _ _ _ _ _ (g.W.Conn.Link.link c.args.conn.now) (g.W.Conn.Link.link c.relay.new.target) _ c.args.out.now c.args.upload.now c.say_continue.new.upload c.args.buffers.now.client c.args.buffers.now.backend c.relay.new.from
    _ c.args.buffers.now.out _ (relayed.WriteStopped c.in-WriteStopped.why) _ (rw c.stopped.ensures refl) (ap (λ (u : Upload). u.client_ms) c.in-All.ensures.upload) c.if-not-load.ensures.1
    c.in-All.ensures.upload c.in-All.ensures.step c.in-WriteStopped.ensures.step c.in-WriteStopped.ensures.cause c.in-WriteStopped.ensures.source

pub returns-in-Spent-clause-step : goal.returns-in-Spent-clause-step
returns-in-Spent-clause-step g c =
    upload_part _ _ _ _ _ _ (g.W.Conn.Link.link c.args.conn.now) (g.W.Conn.Link.link c.relay.new.target) _ c.args.out.now c.args.upload.now c.say_continue.new.upload c.args.buffers.now.client c.args.buffers.now.backend c.relay.new.from
    _ c.args.buffers.now.out _ relayed.Spent _ refl (ap (λ (u : Upload). u.client_ms) c.in-All.ensures.upload) c.if-not-load.ensures.1
    c.in-All.ensures.upload c.in-All.ensures.step c.in-Spent.ensures.step c.in-Spent.ensures.cause c.in-Spent.ensures.source
