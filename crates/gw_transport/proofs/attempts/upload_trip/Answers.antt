use Rattle.gw_transport.specs.Uploading.{ExchangesUpload, upload_errand}
use Rattle.gw_transport.proofs.AttemptLemmas.{tried_cancelled, tried_full, tried_last, tried_late, tried_over, tried_reply, tried_unreached, trip_made, trying_looks}
use Rattle.gw_transport.proofs.UploadLemmas.{once_is_final}
use Rattle.gw_transport.proofs.attempts.upload_trip.Goals as goal

pub returns-in-Unreachable-clause-step : goal.returns-in-Unreachable-clause-step
returns-in-Unreachable-clause-step g c =
    trip_made g.W.Conn.Link.link _ _ _ _ _ _ _ _ _ _ _ _ c.requires.looked c.now-now.ensures c.close_expired.ensures.step
    (tried_unreached g.W.Conn.Link.link ExchangesUpload (upload_errand c.args.order.now) _ _ _ _ _ _ _ _ _ _ _ 0 (trying_looks ExchangesUpload (upload_errand c.args.order.now) _ _ _ _ _ _ _ _ c.requires.looked c.now-now.ensures c.close_expired.ensures.step) c.in-Unreachable.ensures.step)

pub returns-in-Full-clause-step : goal.returns-in-Full-clause-step
returns-in-Full-clause-step g c =
    trip_made g.W.Conn.Link.link _ _ _ _ _ _ _ _ _ _ _ _ c.requires.looked c.now-now.ensures c.close_expired.ensures.step
    (tried_full g.W.Conn.Link.link ExchangesUpload (upload_errand c.args.order.now) _ _ _ _ _ _ _ _ _ _ _ 0 (trying_looks ExchangesUpload (upload_errand c.args.order.now) _ _ _ _ _ _ _ _ c.requires.looked c.now-now.ensures c.close_expired.ensures.step) c.in-Full.ensures.step)

pub returns-in-Cancelled-clause-step : goal.returns-in-Cancelled-clause-step
returns-in-Cancelled-clause-step g c =
    trip_made g.W.Conn.Link.link _ _ _ _ _ _ _ _ _ _ _ _ c.requires.looked c.now-now.ensures c.close_expired.ensures.step
    (tried_cancelled g.W.Conn.Link.link ExchangesUpload (upload_errand c.args.order.now) _ _ _ _ _ _ _ _ _ _ _ 0 (trying_looks ExchangesUpload (upload_errand c.args.order.now) _ _ _ _ _ _ _ _ c.requires.looked c.now-now.ensures c.close_expired.ensures.step) c.in-Cancelled.ensures.step)

pub returns-in-Late-clause-step : goal.returns-in-Late-clause-step
returns-in-Late-clause-step g c =
    trip_made g.W.Conn.Link.link _ _ _ _ _ _ _ _ _ _ _ _ c.requires.looked c.now-now.ensures c.close_expired.ensures.step
    (tried_late g.W.Conn.Link.link ExchangesUpload (upload_errand c.args.order.now) _ _ _ _ _ _ _ _ _ _ _ 0 (trying_looks ExchangesUpload (upload_errand c.args.order.now) _ _ _ _ _ _ _ _ c.requires.looked c.now-now.ensures c.close_expired.ensures.step) c.in-Late.ensures.step)

pub returns-in-Reply-clause-step : goal.returns-in-Reply-clause-step
returns-in-Reply-clause-step g c =
    trip_made g.W.Conn.Link.link _ _ _ _ _ _ _ _ _ _ _ _ c.requires.looked c.now-now.ensures c.close_expired.ensures.step
    (tried_reply g.W.Conn.Link.link ExchangesUpload (upload_errand c.args.order.now) _ _ _ _ _ _ _ _ _ _ _ _ _ _ 0 c.in-Lease.got c.exchange_upload.new.conn c.in-Reply.reply (trying_looks ExchangesUpload (upload_errand c.args.order.now) _ _ _ _ _ _ _ _ c.requires.looked c.now-now.ensures c.close_expired.ensures.step)
    c.in-Lease.ensures.step c.in-Reply.ensures.step c.in-Reply.ensures.link)

pub returns-in-Over-clause-step : goal.returns-in-Over-clause-step
returns-in-Over-clause-step g c =
    trip_made g.W.Conn.Link.link _ _ _ _ _ _ _ _ _ _ _ _ c.requires.looked c.now-now.ensures c.close_expired.ensures.step
    (tried_over g.W.Conn.Link.link ExchangesUpload (upload_errand c.args.order.now) _ _ _ _ _ _ _ _ _ _ _ _ _ _ _ _ 0 c.in-Lease.got c.in-Over.end (trying_looks ExchangesUpload (upload_errand c.args.order.now) _ _ _ _ _ _ _ _ c.requires.looked c.now-now.ensures c.close_expired.ensures.step)
    c.in-Lease.ensures.step c.in-Over.ensures.step c.end_lease.ensures.step)

pub returns-in-Failed-clause-step : goal.returns-in-Failed-clause-step
returns-in-Failed-clause-step g c =
    trip_made g.W.Conn.Link.link _ _ _ _ _ _ _ _ _ _ _ _ c.requires.looked c.now-now.ensures c.close_expired.ensures.step
    (tried_last g.W.Conn.Link.link ExchangesUpload (upload_errand c.args.order.now) _ _ _ _ _ _ _ _ _ _ _ _ _ _ _ _ 0 c.in-Lease.got c.in-Failed.why (trying_looks ExchangesUpload (upload_errand c.args.order.now) _ _ _ _ _ _ _ _ c.requires.looked c.now-now.ensures c.close_expired.ensures.step)
    c.in-Lease.ensures.step c.in-Failed.ensures.step c.end_lease-in-Failed.ensures.step (once_is_final c.in-Failed.why c.in-Lease.got.reused c.args.order.now.out.now.method c.args.order.now.out.now.has_key 1))
