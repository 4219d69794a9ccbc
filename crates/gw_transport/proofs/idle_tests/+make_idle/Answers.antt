use Rattle.std.proofs.Common.{rules, arith, ◌∙◌, ◌<◌}
use Rattle.gw_transport.proofs.TokenLemmas.{dial_ended, dial_found, one_more, unused_behind}
use Rattle.gw_transport.proofs.idle_tests.+make_idle.Goals as goal

pub make_idle-requires : goal.make_idle-requires
make_idle-requires g t c κs within =
    let some : 0 < c.args.count = search rules in (
      search rules,
      (
        search rules,
        (
          c.requires.fresh,
          (
            c.begun-token.ensures.running,
            (
              rw c.begun-token.ensures.limits c.requires.hosts,
              (
                rw c.begun-token.ensures.limits (one_more _ _ _ _ _ c.begun-token.ensures.out c.requires.room some),
                (
                  unused_behind _ _ _ c.requires.unused c.begun-token.ensures.out,
                  omega (arith, c.requires.small, some),
                ),
              ),
            ),
          ),
        ),
      ),
    )

pub ended-requires-clause-dial : goal.ended-requires-clause-dial
ended-requires-clause-dial g t c =
    dial_found _ _ _ _ c.begun-token.ensures.want c.requires.unused (c.make_idle.ensures.out ∙ c.begun-token.ensures.out)

pub returns-clause-out : goal.returns-clause-out
returns-clause-out g t c =
    dial_ended _ _ _ _ _ c.begun-token.ensures.want c.requires.unused (c.make_idle.ensures.out ∙ c.begun-token.ensures.out) c.ended.ensures.out
