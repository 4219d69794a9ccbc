-- The journal and what the rows still need.
use Rattle.std.proofs.Common.{◌≡◌, ℕ, ◌+◌, ◌≤◌, ◌⊎◌, inl, inr, Bool, true, false, List, [], ◌∷◌, ◌++◌, length, Some, refl, ap, sym, ◌∙◌, arith, length-append, append_assoc, ltb-false, nat_lt}
use Rattle.gw_pool.specs.declared.limits.Limits.{Limits}
use Rattle.gw_pool.specs.declared.entry.Entry.{Entry}
use Rattle.gw_pool.specs.declared.entry.Call.{Call}
use Rattle.gw_pool.specs.declared.entry.Call.TheVariants as call
use Rattle.gw_pool.specs.State.{State, empty, is_with, take_oldest}
use Rattle.gw_pool.specs.Machine.{Outcome, step}
use Rattle.gw_pool.specs.History.{IsLegal, after, moved, state_of, room, refuses}
use Rattle.gw_pool.specs.Laws.{NeverFull, makes_want}
use Rattle.gw_pool.proofs.Shelves.{out_at}
use Rattle.gw_pool.proofs.Edits.{found_passes}
use Rattle.gw_pool.proofs.Inverts.{want_was, start_was, dialed_was, failed_was, cancel_was, back_was, drop_was, expire_was, close_was, CancelRowWas, CancelConnWas, IdleWas}
use Rattle.gw_pool.proofs.Steps.{Goes, want_goes, start_goes, dialed_goes, failed_goes, cancel_goes, cancel_conn_goes, back_goes, drop_goes, idle_goes}
use Rattle.gw_pool.proofs.Walk.{walk, after_push}

-- a step makes one entry, and leaves as much less room as it takes, but for a want
went : (limits : Limits) (s t : State) (o : Outcome) → o.state ≡ t → Goes s t 0 1 → room o.state + 1 ≤ room s
went limits s t o e g = rw e (omega (arith, g.room))

cancelled : (limits : Limits) (s : State) (caller want now : ℕ) (o : Outcome) → CancelRowWas limits s caller want o ⊎ CancelConnWas limits s caller want now o → room o.state + 1 ≤ room s
cancelled limits s caller want now o (inl w) = went limits s _ o (ap (λ (x : Outcome). x.state) w.same) (cancel_goes limits s want w.row w.found)
cancelled limits s caller want now o (inr w) =
    let out = out_at want w.row (found_passes (is_with want) s.conns w.row w.found) in
    went limits s _ o (ap (λ (x : Outcome). x.state) w.same) (cancel_conn_goes limits s want now out.0 w.row w.found out.1)

idled : (limits : Limits) (s : State) (o : Outcome) → IdleWas s o → room o.state + 1 ≤ room s
idled limits s o w = went limits s _ o (ap (λ (x : Outcome). x.state) w.same) (idle_goes s (take_oldest s).1 w.row w.found refl)

takes_room : (limits : Limits) (s : State) (caller : ℕ) (asked : Call) (o : Outcome) → step limits s caller asked ≡ Some o → makes_want asked ≡ false → room o.state + 1 ≤ room s
takes_room limits s caller (call.Want host now) o e m = absurd (cc)
takes_room limits s caller (call.Start want) o e m = let w = start_was limits s caller want o e in went limits s _ o (ap (λ (x : Outcome). x.state) w.same) (start_goes s want w.row w.found w.granted)
takes_room limits s caller (call.Dialed want link now) o e m = let w = dialed_was limits s caller want link now o e in went limits s _ o (ap (λ (x : Outcome). x.state) w.same) (dialed_goes limits s want link now w.row w.found)
takes_room limits s caller (call.DialFailed want) o e m = let w = failed_was limits s caller want o e in went limits s _ o (ap (λ (x : Outcome). x.state) w.same) (failed_goes limits s want w.row w.found)
takes_room limits s caller (call.Cancel want now) o e m = cancelled limits s caller want now o (cancel_was limits s caller want now o e)
takes_room limits s caller (call.GiveBack conn now) o e m = let w = back_was limits s caller conn now o e in went limits s _ o (ap (λ (x : Outcome). x.state) w.same) (back_goes limits s conn now w.place.0 caller w.row w.found w.place.1)
takes_room limits s caller (call.Drop conn) o e m = let w = drop_was limits s caller conn o e in went limits s _ o (ap (λ (x : Outcome). x.state) w.same) (drop_goes limits s conn w.place.0 caller w.row w.found w.place.1)
takes_room limits s caller (call.Expire now) o e m = idled limits s o (expire_was limits s caller now o e)
takes_room limits s caller call.CloseIdle o e m = idled limits s o (close_was limits s caller o e)

-- a want takes five at most
want_takes : (limits : Limits) (s : State) (caller : ℕ) (asked : Call) (o : Outcome) → step limits s caller asked ≡ Some o → makes_want asked ≡ true → room o.state ≤ room s + 5
want_takes limits s caller (call.Want host now) o e m = let g = want_goes limits s caller host now in (rw (want_was limits s caller host now o e) (omega (arith, g.room)))
want_takes limits s caller (call.Start want) o e m = absurd (cc)
want_takes limits s caller (call.Dialed want link now) o e m = absurd (cc)
want_takes limits s caller (call.DialFailed want) o e m = absurd (cc)
want_takes limits s caller (call.Cancel want now) o e m = absurd (cc)
want_takes limits s caller (call.GiveBack conn now) o e m = absurd (cc)
want_takes limits s caller (call.Drop conn) o e m = absurd (cc)
want_takes limits s caller (call.Expire now) o e m = absurd (cc)
want_takes limits s caller call.CloseIdle o e m = absurd (cc)

-- a history whose front was never full
front : (limits : Limits) (before : List Entry) (e : Entry) → NeverFull limits (before ++ e ∷ []) → NeverFull limits before
front limits before e n b l x same w = n b (l ++ e ∷ []) x (ap (λ h. h ++ e ∷ []) same ∙ append_assoc b (x ∷ l) (e ∷ [])) w

-- what is true along the way
Fits : Limits → List Entry → State → Type 0
Fits limits h s = (s ≡ after limits h) × (NeverFull limits h → length h + room s ≤ limits.journal)

grows : (limits : Limits) (before : List Entry) (s : State) (e : Entry) (o : Outcome) (b : Bool) → step limits s e.caller e.call ≡ Some o → makes_want e.call ≡ b → s ≡ after limits before → NeverFull limits (before ++ e ∷ []) → length before + room s ≤ limits.journal → length before + 1 + room o.state ≤ limits.journal
unfolding refuses
grows limits before s e o true f m same n h =
    let full : nat_lt limits.journal (length before + room (after limits before) + 6) ≡ false = n before [] e refl m in
    let left : length before + room (after limits before) + 6 ≤ limits.journal = ltb-false limits.journal (length before + room (after limits before) + 6) full in
    let here : room s ≡ room (after limits before) = ap (λ t. room t) same in
    omega (arith, left, here, want_takes limits s e.caller e.call o f m)
grows limits before s e o false f m same n h = omega (arith, h, takes_room limits s e.caller e.call o f m)

fits_step : (limits : Limits) (before : List Entry) (s : State) (e : Entry) (o : Outcome) → step limits s e.caller e.call ≡ Some o → o.reply ≡ e.reply → Fits limits before s → Fits limits (before ++ e ∷ []) o.state
unfolding Fits moved
fits_step limits before s e o f r p = (
  sym (after_push limits before e ∙ ap (λ t. moved limits t e) (sym p.0) ∙ ap (λ x. state_of s x) f),
  λ n. omega (arith, length-append before (e ∷ []), grows limits before s e o (makes_want e.call) f refl p.0 n (p.1 (front limits before e n))),
)

empty_fits : (limits : Limits) → Fits limits [] empty
unfolding Fits room after
empty_fits limits = (refl, λ n. omega arith)

pub journal_has_room : (limits : Limits) (h : List Entry) → IsLegal limits h → NeverFull limits h → length h + room (after limits h) ≤ limits.journal
unfolding Fits
journal_has_room limits h l n = (walk limits (Fits limits) (fits_step limits) (empty_fits limits) h l).1 n
