use Rattle.std.proofs.Common.{refl, sym, ◌∙◌, arith}
use Rattle.gw_head.proofs.ReaderLemmas.{gathers_whole, gathers_more, gathers_too_long, appended}
use Rattle.gw_head.proofs.reader.gather.Goals as goal

pub returns-in-Some : goal.returns-in-Some
returns-in-Some c =
    gathers_whole _ _ _ c.args.place.now c.scan-end.new.place c.min.result c.in-Some.used _ (omega arith)
    c.requires.reached c.requires.short (sym c.scan-end.ensures.end ∙ c.in-Some.is) c.in-Some.ensures.within
    (appended _ _ _ _ _ _ _ _ _ _ c.extend_from_slice.ensures.items c.unwrap.ensures c.unwrap_or-used.ensures c.in-Some.is refl)
    (omega arith)

pub returns-in-None : goal.returns-in-None
returns-in-None c =
    gathers_more _ _ _ c.args.place.now _ c.min.result _ (omega arith) c.requires.reached c.requires.short
    (sym c.scan-end.ensures.end ∙ c.in-None.is) (c.scan-end.ensures.place c.in-None.is)
    (appended _ _ _ _ _ _ _ _ _ _ c.extend_from_slice.ensures.items c.unwrap.ensures c.unwrap_or-used.ensures c.in-None.is refl)
    (omega arith) (omega arith)

pub returns-in-None-2 : goal.returns-in-None-2
returns-in-None-2 c =
    gathers_too_long _ _ c.extend_from_slice.new.self.items c.args.place.now c.args.place.now c.min.result _ (omega arith)
    c.requires.reached c.requires.short (sym c.scan-end.ensures.end ∙ c.in-None.is)
    (appended _ _ _ _ _ _ _ _ _ _ c.extend_from_slice.ensures.items c.unwrap.ensures c.unwrap_or-used.ensures c.in-None.is refl)
    (omega arith) (omega arith)
