use Rattle.std.proofs.Common.{codes, ◌∙◌}
use Rattle.gw_proxy.proofs.LineLemmas.{line_is}
use Rattle.gw_proxy.proofs.request.push_request_line.Goals as goal

pub returns : goal.returns
returns c =
    line_is _ _ _ _ _ _ _ _ (codes " HTTP/1.1\r\n") c.in_ok-extend_from_slice.ensures.items
    (c.as_bytes.ensures.value ∙ c.as_str.ensures.value) c.in_ok-extend_from_slice-2.ensures.items c.in_ok-push_target.ensures
    c.in_ok-extend_from_slice-3.ensures.items
