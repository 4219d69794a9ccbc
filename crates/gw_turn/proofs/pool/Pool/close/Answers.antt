use Rattle.std.proofs.Common.{◌≡◌, ◌∙◌, refl, sym, ap, [], ◌∷◌}
use Rattle.gw_turn.specs.declared.view.PassView.{PassView}
use Rattle.gw_turn.specs.Steps.{PassMe, slot_core}
use Rattle.gw_turn.specs.Pass.{PassState, state_of}
use Rattle.gw_turn.proofs.Leaving.{leave_same, slot_same, view_same, state_back}
use Rattle.gw_turn.proofs.pool.Pool.close.Goals as goal

pub leave-requires-clause-leave : goal.leave-requires-clause-leave
leave-requires-clause-leave g c =
    let ends = c.end_turns.ensures.view in
    let v = c.into_seat-place.result.me.0 in
    let is_v : v ≡ c.last.invariant.view = view_same v c.last.invariant.view c.last.inside.badge.views (ap (λ b. b.views) (sym c.replace.ensures.value) ∙ c.into_seat-place.ensures.2) c.last.invariant.is_view in
    leave_same v c.state_home.new.place.me.0 ends.met.core (slot_core c.state_home.new.place.me.1) c.last.inside.out.out (ap (λ m. m.0) c.state_home.ensures.slot ∙ ap (λ m. m.0) c.state_out-core.ensures.slot.1 ∙ ends.met.view) ends.met.meeting
    (ap (λ (m : PassMe). slot_core m.1) c.state_home.ensures.slot ∙ c.in-Err.ensures.back ∙ slot_same c.state_out-core.result ends.met.core c.into_seat-place.result.me.1 c.end_turns.new.place.me.1 c.state_out-core.ensures.slot.0 ends.met.slots)
    (sym (ap (λ (x : PassView). x.own.out) is_v ∙ c.last.invariant.same_out))

pub returns-in-Ok-clause-joined : goal.returns-in-Ok-clause-joined
returns-in-Ok-clause-joined g c =
    let ends = c.end_turns.ensures.view in
    let v = c.into_seat-place.result.me.0 in
    let is_v : v ≡ c.last.invariant.view = view_same v c.last.invariant.view c.last.inside.badge.views (ap (λ b. b.views) (sym c.replace.ensures.value) ∙ c.into_seat-place.ensures.2) c.last.invariant.is_view in
    let core = slot_same c.state_out-core.result ends.met.core c.into_seat-place.result.me.1 c.end_turns.new.place.me.1 c.state_out-core.ensures.slot.0 ends.met.slots in
    let journal : c.in-Ok.journal.items ≡ ends.met.core.journal = c.in-Ok.ensures.journal ∙ ap (λ k. k.journal) core in
    let joined : c.args.last.joined ≡ v.joined = sym (ap (λ (p : PassState). p.joined) c.last.view_is) ∙ ap (λ vs. (state_of c.last.inside.badge.table_id vs).joined) c.last.invariant.is_view ∙ ap (λ (x : PassView). x.joined) (sym is_v) in
    rw (journal, joined) ends.fellows

pub returns-in-Ok-clause-past : goal.returns-in-Ok-clause-past
returns-in-Ok-clause-past g c =
    let ends = c.end_turns.ensures.view in
    let v = c.into_seat-place.result.me.0 in
    let is_v : v ≡ c.last.invariant.view = view_same v c.last.invariant.view c.last.inside.badge.views (ap (λ b. b.views) (sym c.replace.ensures.value) ∙ c.into_seat-place.ensures.2) c.last.invariant.is_view in
    let core = slot_same c.state_out-core.result ends.met.core c.into_seat-place.result.me.1 c.end_turns.new.place.me.1 c.state_out-core.ensures.slot.0 ends.met.slots in
    let journal : c.in-Ok.journal.items ≡ ends.met.core.journal = c.in-Ok.ensures.journal ∙ ap (λ k. k.journal) core in
    let past : c.args.last.past ≡ v.past = sym (ap (λ (p : PassState). p.past) c.last.view_is) ∙ ap (λ vs. (state_of c.last.inside.badge.table_id vs).past) c.last.invariant.is_view ∙ ap (λ (x : PassView). x.past) (sym is_v) in
    rw (journal, past) ends.past

pub returns-in-Err-clause-back : goal.returns-in-Err-clause-back
returns-in-Err-clause-back g c =
    let ends = c.end_turns.ensures.view in
    let v = c.into_seat-place.result.me.0 in
    let views_v : c.last.inside.badge.views ≡ v ∷ [] = ap (λ b. b.views) (sym c.replace.ensures.value) ∙ c.into_seat-place.ensures.2 in
    let is_v : v ≡ c.last.invariant.view = view_same v c.last.invariant.view c.last.inside.badge.views views_v c.last.invariant.is_view in
    let core : c.in-Err.core ≡ ends.met.core = c.in-Err.ensures.back ∙ slot_same c.state_out-core.result ends.met.core c.into_seat-place.result.me.1 c.end_turns.new.place.me.1 c.state_out-core.ensures.slot.0 ends.met.slots in
    let table : c.leave.result.table_id ≡ c.last.inside.badge.table_id = c.leave.ensures.seat ∙ c.state_home.ensures.same.0 ∙ c.state_out-core.ensures.same.0 ∙ c.end_turns.ensures.same.0 ∙ c.into_seat-place.ensures.0 ∙ ap (λ b. b.table_id) c.replace.ensures.value in (
      refl,
      ap (λ vs. state_of c.leave.result.table_id vs) c.leave.ensures.view
          ∙ state_back c.leave.result.table_id v c.state_home.new.place.me.0 ends.met.core (slot_core c.state_home.new.place.me.1) c.last.inside.out.out c.last.inside.waits (ap (λ m. m.0) c.state_home.ensures.slot ∙ ap (λ m. m.0) c.state_out-core.ensures.slot.1 ∙ ends.met.view) (ap (λ (m : PassMe). slot_core m.1) c.state_home.ensures.slot ∙ core) ends.met.meeting ends.whole
          (sym (ap (λ (x : PassView). x.own.out) is_v ∙ c.last.invariant.same_out)) (sym (ap (λ (x : PassView). x.waits) is_v ∙ c.last.invariant.same_waits))
          ∙ ap (λ t. state_of t (v ∷ [])) table ∙ ap (λ vs. state_of c.last.inside.badge.table_id vs) (sym views_v) ∙ c.last.view_is,
    )
