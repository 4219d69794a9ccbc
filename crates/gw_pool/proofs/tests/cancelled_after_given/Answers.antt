-- A want of another caller that waits beside a connection.
use Rattle.std.proofs.Common.{◌≡◌, ℕ, ◌<◌, Bool, false, List, [], ◌∷◌, length, refl, ◌∙◌, arith}
use Rattle.std.specs.List.{find}
use Rattle.std.specs.Option.{ForSome}
use Rattle.gw_pool.specs.declared.limits.Limits.{Limits}
use Rattle.gw_pool.specs.declared.rows.Stage.{Stage}
use Rattle.gw_pool.specs.declared.rows.Stage.TheVariants.{Granted, Dialing}
use Rattle.gw_pool.specs.declared.rows.Place.TheVariants.{Out}
use Rattle.gw_pool.specs.declared.rows.WantRow.{WantRow}
use Rattle.gw_pool.specs.declared.rows.DialRow.{DialRow}
use Rattle.gw_pool.specs.declared.rows.ConnRow.{ConnRow}
use Rattle.gw_pool.specs.Core.{CoreView, state_at}
use Rattle.gw_pool.specs.History.{after}
use Rattle.gw_pool.specs.State.{State, empty, used, is_free, newest_stamp, take_newest, wants_it, dials_for}
use Rattle.gw_pool.specs.Machine.{units, want_new, want_by, want_step, start_row, dialed_conn, dialed_to, dialed_row}
use Rattle.gw_pool.proofs.tests.cancelled_after_given.Goals as goal

abbrev limits_of : ℕ → ℕ → Limits
limits_of per_host conns = record { idle_total = 100; idle_per_host = per_host; conns_per_host = conns; idle_ms = 1000; journal = 100; passes = 4; per_pass = 1; hosts = 1 }

abbrev row : ℕ → ℕ → Stage → WantRow
row want caller stage = record { want = want; host = 0; caller = caller; stage = stage }

abbrev dial : ℕ → ℕ → DialRow
dial want caller = record { want = want; host = 0; caller = caller }

abbrev conn : Bool → ℕ → ℕ → ConnRow
conn reused want caller = record { conn = 0; host = 0; link = 50; reused = reused; place = Out want caller }

abbrev state : List WantRow → List DialRow → List ConnRow → ℕ → ℕ → State
state wants dials conns made given = record { wants = wants; dials = dials; conns = conns; next_want = made; next_conn = given; next_stamp = 0 }

opened : (core : CoreView) → core.journal ≡ [] → state_at core ≡ empty
unfolding after
opened core j = rw j refl

few : (core : CoreView) (s : State) (per_host conns caller : ℕ)
    → core.limits ≡ limits_of per_host conns → state_at core ≡ s → length (units s caller) ≡ 0
    → length (units (state_at core) caller) < core.limits.per_pass
few core s per_host conns caller l e z = rw (e, l, z) (omega arith)

first : (l : Limits) (per_host : ℕ) (s t : State) → l ≡ limits_of per_host 1 → s ≡ empty → t ≡ (want_step l s 0 0 0).state → t ≡ state (row 0 0 Granted ∷ []) [] [] 1 0
unfolding used is_free newest_stamp take_newest want_new want_by want_step
first l per_host s t a b e = e ∙ rw (a, b) refl

second : (s t : State)
    → s ≡ state (row 0 0 Granted ∷ []) [] [] 1 0 → ForSome (find (wants_it 0) s.wants) (λ r. t ≡ (start_row s r).state)
    → t ≡ state (row 0 0 Dialing ∷ []) (dial 0 0 ∷ []) [] 1 0
unfolding start_row
second s t b f = f (row 0 0 Granted) (rw b refl) ∙ rw b refl

third : (l : Limits) (per_host : ℕ) (s t : State) → l ≡ limits_of per_host 1
    → s ≡ state (row 0 0 Dialing ∷ []) (dial 0 0 ∷ []) [] 1 0 → ForSome (find (dials_for 0) s.dials) (λ r. t ≡ (dialed_row l s r 50 0).state)
    → t ≡ state [] [] (conn false 0 0 ∷ []) 1 1
unfolding dialed_conn dialed_to dialed_row
third l per_host s t a b f = f (dial 0 0) (rw b refl) ∙ rw (a, b) refl

begun : (core core1 core2 : CoreView) → core.limits ≡ limits_of 2 1 → core.journal ≡ []
    → core1.limits ≡ core.limits → state_at core1 ≡ (want_step core.limits (state_at core) 0 0 0).state
    → core2.limits ≡ core1.limits → ForSome (find (wants_it 0) (state_at core1).wants) (λ r. state_at core2 ≡ (start_row (state_at core1) r).state)
    → state_at core2 ≡ state (row 0 0 Dialing ∷ []) (dial 0 0 ∷ []) [] 1 0
begun core core1 core2 l j l1 e1 l2 f = second (state_at core1) (state_at core2) (first core.limits 2 (state_at core) (state_at core1) l (opened core j) e1) f

given : (core core1 core2 core3 : CoreView) → core.limits ≡ limits_of 2 1 → core.journal ≡ []
    → core1.limits ≡ core.limits → state_at core1 ≡ (want_step core.limits (state_at core) 0 0 0).state
    → core2.limits ≡ core1.limits → ForSome (find (wants_it 0) (state_at core1).wants) (λ r. state_at core2 ≡ (start_row (state_at core1) r).state)
    → ForSome (find (dials_for 0) (state_at core2).dials) (λ r. state_at core3 ≡ (dialed_row core2.limits (state_at core2) r 50 0).state)
    → state_at core3 ≡ state [] [] (conn false 0 0 ∷ []) 1 1
given core core1 core2 core3 l j l1 e1 l2 f g = third core2.limits 2 (state_at core2) (state_at core3) (l2 ∙ l1 ∙ l) (begun core core1 core2 l j l1 e1 l2 f) g

pub made-requires-clause-few : goal.made-requires-clause-few
unfolding units
made-requires-clause-few g c = few c.in_ok-core.core empty 2 1 0 (c.in_ok-core.ensures.limits ∙ c.several.ensures) (opened c.in_ok-core.core c.in_ok-core.ensures.journal) refl

pub dialed-requires : goal.dialed-requires
dialed-requires g c = rw (begun c.in_ok-core.core c.made.new.core c.started.new.core (c.in_ok-core.ensures.limits ∙ c.several.ensures) c.in_ok-core.ensures.journal
    c.in_ok-made.ensures.limits c.in_ok-made.ensures.state c.in_ok-started.ensures.limits c.in_ok-started.ensures.state) refl

pub made-requires-2-clause-few : goal.made-requires-2-clause-few
unfolding units
made-requires-2-clause-few g c = few c.dialed.new.core (state [] [] (conn false 0 0 ∷ []) 1 1) 2 1 3 (c.dialed.ensures.limits ∙ c.in_ok-started.ensures.limits ∙ c.in_ok-made.ensures.limits ∙ c.in_ok-core.ensures.limits ∙ c.several.ensures)
    (given c.in_ok-core.core c.made.new.core c.started.new.core c.dialed.new.core (c.in_ok-core.ensures.limits ∙ c.several.ensures) c.in_ok-core.ensures.journal
    c.in_ok-made.ensures.limits c.in_ok-made.ensures.state c.in_ok-started.ensures.limits c.in_ok-started.ensures.state c.dialed.ensures.state) refl
