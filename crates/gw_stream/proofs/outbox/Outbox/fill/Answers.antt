use Rattle.std.proofs.Common.{ap, sym, ◌∙◌, ◌≡◌, ◌≤◌, arith, ◌+◌, ◌-◌, ℕ, List, length}
use Rattle.std.proofs.lemmas.List.{with_items_is}
use Rattle.gw_stream.specs.Outbox.{out_view}
use Rattle.gw_stream.proofs.FillLemmas.{fill_step}
use Rattle.gw_stream.proofs.FrameLemmas.{long_as_before, mid_long, room_left}
use Rattle.gw_stream.proofs.outbox.Outbox.fill.Goals as goal

pub returns-clause-step : goal.returns-clause-step
returns-clause-step g c =
    let buf : List ℕ = c.deref_mut.result.now in
    let ys : List ℕ = c.pull_piece-pulled.new.buf in
    let at : ℕ = c.self.inside.done + c.gap.result + c.self.inside.begun in
    let k : ℕ = at + (8192 - c.self.inside.begun) - at in
    let seen : out_view buf c.self.inside.done c.self.inside.begun c.self.inside.chunks ≡ c.args.self.now =
    ap (λ l. out_view l c.self.inside.done c.self.inside.begun c.self.inside.chunks) c.deref_mut.ensures.value ∙ c.self.view_is
    in
    let all : length buf ≡ length c.self.inside.buf.items = ap length c.deref_mut.ensures.value in
    let room = room_left c.self.inside.buf.items c.args.self.now c.self.inside.done c.self.inside.begun c.gap.result c.self.inside.chunks c.self.view_is c.self.invariant
    c.gap.ensures c.requires.room
    in
    let within : at + k ≤ length buf = omega (arith, room, all, c.self.invariant.most) in
    let long : length ys ≡ k = c.pull_piece-pulled.ensures.kept ∙ mid_long buf at k within in
    fill_step _ _ _ _ _ _ _ _ buf _ ys c.self.inside.done c.self.inside.begun c.gap.result c.count.result k c.self.inside.chunks _ c.pull_piece-pulled.result seen
    c.gap.ensures (with_items_is c.self.inside.buf _ (long_as_before buf ys at k within long ∙ all ∙ sym c.self.inside.buf.ok.0)) within long c.count.ensures c.pull_piece-pulled.ensures.within
    c.pull_piece-pulled.ensures.waited
