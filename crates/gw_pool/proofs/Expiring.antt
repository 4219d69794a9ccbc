-- The least recently idle connection, and whether it is expired.
use Rattle.std.proofs.Common.{◌≡◌, ℕ, Bool, true, false, Option, Some, None, refl, ap, sym, ◌∙◌}
use Rattle.gw_pool.specs.declared.limits.Limits.{Limits}
use Rattle.gw_pool.specs.declared.entry.Call.TheVariants as call
use Rattle.gw_pool.specs.declared.rows.ConnRow.{ConnRow}
use Rattle.gw_pool.specs.Places.{since_of}
use Rattle.gw_pool.specs.State.{State, is_expired, take_oldest}
use Rattle.gw_pool.specs.Machine.{Outcome, when, taken_row, expire_by, close_idle_by, step}

when_true : (b : Bool) (o : Outcome) → b ≡ true → when b o ≡ Some o
when_true true o h = refl
when_true false o h = absurd (cc)

when_false : (b : Bool) (o : Outcome) → b ≡ false → when b o ≡ None
when_false true o h = absurd (cc)
when_false false o h = refl

pub not_expired : (limits : Limits) (now : ℕ) (p : Option ConnRow × State) (row : ConnRow) → p.0 ≡ Some row → is_expired limits (since_of row.place) now ≡ false → expire_by limits now p ≡ None
unfolding expire_by
not_expired limits now (None, s) row e x = refl
not_expired limits now (Some r, s) row e x =
    let same : r ≡ row = cc in
    when_false (is_expired limits (since_of r.place) now) (taken_row r s) (ap (λ (y : ConnRow). is_expired limits (since_of y.place) now) same ∙ x)

pub none_expired : (limits : Limits) (now : ℕ) (p : Option ConnRow × State) → p.0 ≡ None → expire_by limits now p ≡ None
unfolding expire_by
none_expired limits now (None, s) e = refl
none_expired limits now (Some r, s) e = absurd (cc)

expire_with : (limits : Limits) (now : ℕ) (p : Option ConnRow × State) (row : ConnRow) (t : State) → p.0 ≡ Some row → t ≡ p.1 → is_expired limits (since_of row.place) now ≡ true → expire_by limits now p ≡ Some (taken_row row t)
unfolding expire_by
expire_with limits now (None, s) row t e f x = absurd (cc)
expire_with limits now (Some r, s) row t e f x =
    let same : r ≡ row = cc in
    when_true (is_expired limits (since_of r.place) now) (taken_row r s) (ap (λ (y : ConnRow). is_expired limits (since_of y.place) now) same ∙ x)
    ∙ ap (λ y. Some (taken_row y s)) same ∙ ap (λ u. Some (taken_row row u)) (sym f)

pub expire_fits : (limits : Limits) (s : State) (caller now : ℕ) (row : ConnRow) (t : State) → (take_oldest s).0 ≡ Some row → t ≡ (take_oldest s).1 → is_expired limits (since_of row.place) now ≡ true → step limits s caller (call.Expire now) ≡ Some (taken_row row t)
unfolding step
expire_fits limits s caller now row t e f x = expire_with limits now (take_oldest s) row t e f x

pub expire_unfit : (limits : Limits) (s : State) (now : ℕ) → expire_by limits now (take_oldest s) ≡ None → (caller : ℕ) → step limits s caller (call.Expire now) ≡ None
unfolding step
expire_unfit limits s now e caller = e

close_with : (p : Option ConnRow × State) (row : ConnRow) (t : State) → p.0 ≡ Some row → t ≡ p.1 → close_idle_by p ≡ Some (taken_row row t)
unfolding close_idle_by
close_with (None, s) row t e f = absurd (cc)
close_with (Some r, s) row t e f = let same : r ≡ row = cc in ap (λ y. Some (taken_row y s)) same ∙ ap (λ u. Some (taken_row row u)) (sym f)

pub close_fits : (limits : Limits) (s : State) (caller : ℕ) (row : ConnRow) (t : State) → (take_oldest s).0 ≡ Some row → t ≡ (take_oldest s).1 → step limits s caller call.CloseIdle ≡ Some (taken_row row t)
unfolding step
close_fits limits s caller row t e f = close_with (take_oldest s) row t e f

close_none : (p : Option ConnRow × State) → p.0 ≡ None → close_idle_by p ≡ None
unfolding close_idle_by
close_none (None, s) e = refl
close_none (Some r, s) e = absurd (cc)

pub close_unfit : (limits : Limits) (s : State) → (take_oldest s).0 ≡ None → (caller : ℕ) → step limits s caller call.CloseIdle ≡ None
unfolding step
close_unfit limits s e caller = close_none (take_oldest s) e
