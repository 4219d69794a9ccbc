use Rattle.gw_pool.specs.History.{after}
use Rattle.gw_pool.specs.Owner.{owner}
use Rattle.gw_pool.proofs.Owners.{legal_owned}
use Rattle.gw_turn.proofs.Callers.{units_named}
use Rattle.gw_turn.proofs.laws.history_is_one.Goals as goal

pub returns : goal.returns
returns c limits s kept = record {
  history = kept.history;
  legal = kept.legal;
  callers = kept.callers;
  count = kept.count;
  longest = kept.longest;
  own = λ id v m at a. let k = (kept.each id v at).members m a in (k.own, k.begins);
  past = λ id v seen at a. (kept.each id v at).past seen a;
  named = λ id v m w at a u none_named. let k = (kept.each id v at).members m a in units_named (owner kept.history) m.number (after limits kept.history) m.out kept.taken w (legal_owned limits kept.history kept.legal) k.ties u none_named;
}
