use Rattle.std.proofs.Common.{rules, refl, ◌≡◌, ap, ◌++◌, ◌∙◌, codes, decimal}
use Rattle.std.specs.Prelude.{Some}
use Rattle.std.specs.List.{slice_get}
use Rattle.std.proofs.lemmas.Option.{slice_get_read}
use Rattle.gw_top.specs.Printed.{names_in, span_lines}
use Rattle.gw_top.proofs.InspectLemmas.{route_text}
use Rattle.gw_top.proofs.inspect.tell_route.Goals as goal

pub returns : goal.returns
returns c =
    let route_is : slice_get c.args.table.now.routes.items c.args.hit.now.route ≡ Some c.index.result.now =
    slice_get_read _ _ _ _ refl c.requires.routes c.index.ensures in
    let front : c.into_bytes-text.result.items ≡ codes "route " ++ (decimal c.args.hit.now.route ++ codes " ") = search rules in
    let line = route_text c.args.hit.now.route c.index.result.now.text _ _ _ front (c.in_ok-extend_from_slice.ensures.items ∙ ap (λ t. c.into_bytes-text.result.items ++ t) c.as_slice.ensures) c.in_ok-push.ensures.items in (
      c.index.result.now,
      c.in-Some.pattern.now,
      route_is,
      c.in-Some.ensures,
      (rw (c.deref.ensures.value, c.as_slice-in-Some.ensures.places) at c.in_ok-write_spans-in-Some.ensures) ∙ ap (λ l. l ++ span_lines (names_in c.in-Some.pattern.now.segs.items) c.args.hit.now.spans c.args.path.now) line,
    )
