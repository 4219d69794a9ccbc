-- The caller of an entry that names a row is the owner of the row's want.
use Rattle.std.proofs.Common.{◌≡◌, ℕ, ◌<◌, ◌⊎◌, inl, inr, Bool, true, false, List, Some, ap, sym, ◌∙◌, subst}
use Rattle.std.specs.List.{find}
use Rattle.gw_pool.specs.declared.limits.Limits.{Limits}
use Rattle.gw_pool.specs.declared.entry.Entry.{Entry}
use Rattle.gw_pool.specs.declared.entry.Call.{Call}
use Rattle.gw_pool.specs.declared.entry.Call.TheVariants as call
use Rattle.gw_pool.specs.State.{State, wants_it, dials_for, has_number, is_with}
use Rattle.gw_pool.specs.Machine.{Outcome, step}
use Rattle.gw_pool.specs.History.{IsLegal, AreBelow, after}
use Rattle.gw_pool.specs.Owner.{owner, IsOwned}
use Rattle.gw_pool.proofs.Callers.{conn_caller}
use Rattle.gw_pool.proofs.FewRows.{owner_below}
use Rattle.gw_pool.proofs.Inverts.{start_was, dialed_was, failed_was, cancel_was, back_was, drop_was, CancelRowWas, CancelConnWas}
use Rattle.gw_pool.proofs.Owners.{legal_owned}
use Rattle.gw_pool.proofs.Owns.{found_among}

abbrev pub names_row : Call → Bool
names_row (call.Want host now) = false
names_row (call.Expire now) = false
names_row call.CloseIdle = false
names_row _ = true

cancelled_by : (limits : Limits) (s : State) (by : ℕ → ℕ) (d want now : ℕ) (o : Outcome) → IsOwned by s → CancelRowWas limits s d want o ⊎ CancelConnWas limits s d want now o → (w : ℕ) × (d ≡ by w)
cancelled_by limits s by d want now o own (inl was) = (was.row.want, sym was.by ∙ (own.wants was.row (found_among (wants_it want) was.row s.wants was.found)).1)
cancelled_by limits s by d want now o own (inr was) = (was.place.0, conn_caller by s was.place.0 d was.row own (found_among (is_with want) was.row s.conns was.found) was.place.1)

caller_of : (limits : Limits) (s : State) (by : ℕ → ℕ) (d : ℕ) (asked : Call) (o : Outcome) → IsOwned by s → step limits s d asked ≡ Some o → names_row asked ≡ true → (w : ℕ) × (d ≡ by w)
caller_of limits s by d (call.Want host now) o own f t = absurd (cc)
caller_of limits s by d (call.Start want) o own f t = let was = start_was limits s d want o f in (was.row.want, sym was.by ∙ (own.wants was.row (found_among (wants_it want) was.row s.wants was.found)).1)
caller_of limits s by d (call.Dialed want link now) o own f t = let was = dialed_was limits s d want link now o f in (was.row.want, sym was.by ∙ (own.dials was.row (found_among (dials_for want) was.row s.dials was.found)).1)
caller_of limits s by d (call.DialFailed want) o own f t = let was = failed_was limits s d want o f in (was.row.want, sym was.by ∙ (own.dials was.row (found_among (dials_for want) was.row s.dials was.found)).1)
caller_of limits s by d (call.Cancel want now) o own f t = cancelled_by limits s by d want now o own (cancel_was limits s d want now o f)
caller_of limits s by d (call.GiveBack conn now) o own f t = let was = back_was limits s d conn now o f in (was.place.0, conn_caller by s was.place.0 d was.row own (found_among (has_number conn) was.row s.conns was.found) was.place.1)
caller_of limits s by d (call.Drop conn) o own f t = let was = drop_was limits s d conn o f in (was.place.0, conn_caller by s was.place.0 d was.row own (found_among (has_number conn) was.row s.conns was.found) was.place.1)
caller_of limits s by d (call.Expire now) o own f t = absurd (cc)
caller_of limits s by d call.CloseIdle o own f t = absurd (cc)

pub caller_below : (limits : Limits) (h : List Entry) (d : ℕ) (asked : Call) (o : Outcome) → IsLegal limits h → 0 < limits.passes → AreBelow limits.passes h → step limits (after limits h) d asked ≡ Some o → (names_row asked ≡ true) ⊎ (d < limits.passes) → d < limits.passes
caller_below limits h d asked o l some_pass callers f (inl t) =
    let own = caller_of limits (after limits h) (owner h) d asked o (legal_owned limits h l) f t in
    subst (λ n. n < limits.passes) (sym own.1) (owner_below limits.passes h some_pass callers own.0)
caller_below limits h d asked o l some_pass callers f (inr below) = below
