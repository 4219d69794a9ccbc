-- Every moment of a clock's script is before the year 10000.
use Rattle.std.proofs.Common.{◌≡◌, ◌<◌, List, [], ◌∷◌, length, true, IsTrue, nat_lt, nat_le, ◌&&◌, arith}
use Rattle.std.proofs.lemmas.List.Elements.{All-nil, All-cons}
use Rattle.std.proofs.lemmas.Bool.{and_parts, ltb-true}
use Rattle.gw_wire.specs.declared.memory.script.Moment.{Moment}
use Rattle.gw_wire.specs.Script.{is_clock, follows_moment, AllBefore}

pub follows_before : (m : Moment) (moments : List Moment) → IsTrue (follows_moment m moments) → AllBefore (m ∷ moments)
follows_before m [] h = All-cons (λ m. m.at < 253402300800000) m [] (ltb-true m.at 253402300800000 h) (All-nil (λ m. m.at < 253402300800000))
follows_before m (n ∷ moments) h =
    let ordered : (nat_le m.at n.at && (nat_lt m.at 253402300800000 && follows_moment n moments)) ≡ true = (and_parts _ _ h).1 in
    let rest : (nat_lt m.at 253402300800000 && follows_moment n moments) ≡ true = (and_parts _ _ ordered).1 in
    All-cons (λ m. m.at < 253402300800000) m (n ∷ moments) (ltb-true m.at 253402300800000 (and_parts _ _ rest).0) (follows_before n moments (and_parts _ _ rest).1)

pub clock_before : (moments : List Moment) → IsTrue (is_clock moments) → AllBefore moments
clock_before [] h = All-nil (λ m. m.at < 253402300800000)
clock_before (m ∷ moments) h = follows_before m moments (and_parts _ _ h).1

pub clock_begins : (moments : List Moment) → IsTrue (is_clock moments) → 0 < length moments
clock_begins [] h = cc
clock_begins (m ∷ moments) h = omega arith
