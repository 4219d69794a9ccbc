-- A failed dial, with a want of another caller that waits.
use Rattle.std.proofs.Common.{◌≡◌, ℕ, ◌<◌, List, [], ◌∷◌, length, refl, ◌∙◌, arith}
use Rattle.std.specs.List.{find}
use Rattle.std.specs.Option.{ForSome, IsSome}
use Rattle.gw_pool.specs.declared.limits.Limits.{Limits}
use Rattle.gw_pool.specs.declared.rows.Stage.{Stage}
use Rattle.gw_pool.specs.declared.rows.Stage.TheVariants.{Waiting, Granted, Dialing}
use Rattle.gw_pool.specs.declared.rows.WantRow.{WantRow}
use Rattle.gw_pool.specs.declared.rows.DialRow.{DialRow}
use Rattle.gw_pool.specs.declared.rows.ConnRow.{ConnRow}
use Rattle.gw_pool.specs.Core.{CoreView, state_at}
use Rattle.gw_pool.specs.History.{after}
use Rattle.gw_pool.specs.State.{State, empty, used, is_free, newest_stamp, take_newest, wants_it, dials_for}
use Rattle.gw_pool.specs.Machine.{units, want_new, want_by, want_step, start_row}
use Rattle.gw_pool.proofs.tests.place_handed_on.Goals as goal

abbrev limits_of : ℕ → ℕ → Limits
limits_of per_host conns = record { idle_total = 100; idle_per_host = per_host; conns_per_host = conns; idle_ms = 1000; journal = 100; passes = 4; per_pass = 1; hosts = 1 }

abbrev row : ℕ → ℕ → Stage → WantRow
row want caller stage = record { want = want; host = 0; caller = caller; stage = stage }

abbrev dial : ℕ → ℕ → DialRow
dial want caller = record { want = want; host = 0; caller = caller }

abbrev state : List WantRow → List DialRow → List ConnRow → ℕ → ℕ → State
state wants dials conns made given = record { wants = wants; dials = dials; conns = conns; next_want = made; next_conn = given; next_stamp = 0 }

opened : (core : CoreView) → core.journal ≡ [] → state_at core ≡ empty
unfolding after
opened core j = rw j refl

few : (core : CoreView) (s : State) (per_host conns caller : ℕ)
    → core.limits ≡ limits_of per_host conns → state_at core ≡ s → length (units s caller) ≡ 0
    → length (units (state_at core) caller) < core.limits.per_pass
few core s per_host conns caller l e z = rw (e, l, z) (omega arith)

first : (l : Limits) (per_host : ℕ) (s t : State) → l ≡ limits_of per_host 1 → s ≡ empty → t ≡ (want_step l s 0 0 0).state → t ≡ state (row 0 0 Granted ∷ []) [] [] 1 0
unfolding used is_free newest_stamp take_newest want_new want_by want_step
first l per_host s t a b e = e ∙ rw (a, b) refl

second : (l : Limits) (per_host : ℕ) (s t : State) → l ≡ limits_of per_host 1
    → s ≡ state (row 0 0 Granted ∷ []) [] [] 1 0 → t ≡ (want_step l s 1 0 0).state
    → t ≡ state (row 0 0 Granted ∷ row 1 1 Waiting ∷ []) [] [] 2 0
unfolding used is_free newest_stamp take_newest want_new want_by want_step
second l per_host s t a b e = e ∙ rw (a, b) refl

third : (s t : State)
    → s ≡ state (row 0 0 Granted ∷ row 1 1 Waiting ∷ []) [] [] 2 0 → ForSome (find (wants_it 0) s.wants) (λ r. t ≡ (start_row s r).state)
    → t ≡ state (row 1 1 Waiting ∷ row 0 0 Dialing ∷ []) (dial 0 0 ∷ []) [] 2 0
unfolding start_row
third s t b f = f (row 0 0 Granted) (rw b refl) ∙ rw b refl

begun : (core core1 core2 core3 core4 : CoreView) → core.limits ≡ limits_of 2 1 → core.journal ≡ []
    → core1.limits ≡ core.limits → state_at core1 ≡ (want_step core.limits (state_at core) 0 0 0).state
    → state_at core2 ≡ (want_step core1.limits (state_at core1) 1 0 0).state → core3 ≡ core2
    → ForSome (find (wants_it 0) (state_at core3).wants) (λ r. state_at core4 ≡ (start_row (state_at core3) r).state)
    → IsSome (find (dials_for 0) (state_at core4).dials)
begun core core1 core2 core3 core4 l j l1 e1 e2 same f =
    let s1 = first core.limits 2 (state_at core) (state_at core1) l (opened core j) e1 in
    let s2 = second core1.limits 2 (state_at core1) (state_at core2) (l1 ∙ l) s1 e2 in
    let s3 : state_at core3 ≡ state (row 0 0 Granted ∷ row 1 1 Waiting ∷ []) [] [] 2 0 = rw same s2 in
    rw (third (state_at core3) (state_at core4) s3 f) refl

pub made-requires-clause-few : goal.made-requires-clause-few
unfolding units
made-requires-clause-few g c = few c.in_ok-core.core empty 2 1 0 (c.in_ok-core.ensures.limits ∙ c.several.ensures) (opened c.in_ok-core.core c.in_ok-core.ensures.journal) refl

pub made-requires-2-clause-few : goal.made-requires-2-clause-few
unfolding units
made-requires-2-clause-few g c =
    let l = c.in_ok-core.ensures.limits ∙ c.several.ensures in
    few c.made.new.core (state (row 0 0 Granted ∷ []) [] [] 1 0) 2 1 1 (c.in_ok-made.ensures.limits ∙ l)
    (first c.in_ok-core.core.limits 2 (state_at c.in_ok-core.core) (state_at c.made.new.core) l (opened c.in_ok-core.core c.in_ok-core.ensures.journal) c.in_ok-made.ensures.state) refl

pub dial_failed-requires : goal.dial_failed-requires
dial_failed-requires g c = begun c.in_ok-core.core c.made.new.core c.made-2.new.core c.asked.new.core c.started.new.core (c.in_ok-core.ensures.limits ∙ c.several.ensures) c.in_ok-core.ensures.journal
    c.in_ok-made.ensures.limits c.in_ok-made.ensures.state c.in_ok-made-2.ensures.state c.in_ok-asked.ensures c.in_ok-started.ensures.state
