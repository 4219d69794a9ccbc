use Rattle.gw_ctxwords.proofs.laws.ended_for_good.Goals as goal

pub returns : goal.returns
returns c nodes s number v node cause kept at has = ((kept.each number v at).ended node cause has).1
