use Rattle.std.proofs.Common.{inl, inr, refl, subst}
use Rattle.gw_top.specs.Command.{Question, question_of}
use Rattle.gw_top.specs.Printed.{IsOk, IsAnswerTo, PrintsOr7}
use Rattle.gw_top.proofs.InspectLemmas.{inspects_table, inspects_none, question_is}
use Rattle.gw_top.proofs.inspect.run_plain.Goals as goal

pub returns-in-Ok : goal.returns-in-Ok
returns-in-Ok g c =
    inl (c.in-Some.ensures.form.0 refl, inspects_table _ _ _ _ _ IsOk c.in-Ok.table c.check.result c.in-Some.ensures.name c.in-Ok.ensures c.check.ensures)

pub returns-in-Err : goal.returns-in-Err
returns-in-Err g c =
    inl (c.in-Some.ensures.form.0 refl, inspects_none _ _ _ _ IsOk c.in-Err.status c.in-Some.ensures.name c.in-Err.ensures)

pub returns-in-Ok-load_table : goal.returns-in-Ok-load_table
returns-in-Ok-load_table g c =
    let asks = c.in-Some-route_query.ensures.asks in
    let P : Question → Type 0 = λ q. PrintsOr7 (g.H.World.world c.load_table-in-Some-route_query.new.world) (g.H.World.world c.route.new.world) (IsAnswerTo q c.in-Ok-load_table.table) c.route.result in
    inr (inl (
      c.in-Some-route_query.ensures.form.0 refl,
      inspects_table _ _ _ _ _ (IsAnswerTo (question_of c.args.words.now)) c.in-Ok-load_table.table c.route.result asks.name c.in-Ok-load_table.ensures
          (subst P (question_is c.args.words.now c.in-Some-route_query.query asks) c.route.ensures),
    ))

pub returns-in-Err-load_table : goal.returns-in-Err-load_table
returns-in-Err-load_table g c =
    inr (inl (
      c.in-Some-route_query.ensures.form.0 refl,
      inspects_none _ _ _ _ (IsAnswerTo (question_of c.args.words.now)) c.in-Err-load_table.status c.in-Some-route_query.ensures.asks.name c.in-Err-load_table.ensures,
    ))
