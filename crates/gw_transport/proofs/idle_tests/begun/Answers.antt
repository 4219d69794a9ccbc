use Rattle.std.proofs.Common.{rules, ◌≡◌}
use Rattle.gw_transport.proofs.TokenLemmas.{given_up, started, still_found, ticket_found}
use Rattle.gw_transport.proofs.idle_tests.begun.Goals as goal

pub start-requires-clause-token : goal.start-requires-clause-token
start-requires-clause-token g c =
    let same : c.in-Ticket.ticket.want ≡ c.args.number = search rules in
    ticket_found _ _ _ _ same c.requires.unused c.in-Ticket.ensures.step.leaves.out

pub cancel-close-requires-clause-token : goal.cancel-close-requires-clause-token
cancel-close-requires-clause-token g c =
    let same : c.in-Ticket.ticket.want ≡ c.args.number = search rules in
    still_found _ _ _ _ same c.requires.unused
    (started _ _ _ _ _ same c.requires.unused c.in-Ticket.ensures.step.leaves.out c.in-Go.ensures.step.leaves.out)

pub returns-clause-out : goal.returns-clause-out
returns-clause-out g c =
    let same : c.in-Ticket.ticket.want ≡ c.args.number = search rules in
    given_up _ _ _ _ _ same c.requires.unused
    (started _ _ _ _ _ same c.requires.unused c.in-Ticket.ensures.step.leaves.out c.in-Go.ensures.step.leaves.out)
    c.cancel-close.ensures.step.leaves.out
