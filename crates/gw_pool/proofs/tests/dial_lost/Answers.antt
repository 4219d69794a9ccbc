-- A want's own dial, which is lost to a connection that another caller gave back.
use Rattle.std.proofs.Common.{◌≡◌, ℕ, ◌<◌, Bool, true, false, List, [], ◌∷◌, length, refl, ◌∙◌, arith}
use Rattle.std.specs.List.{find}
use Rattle.std.specs.Option.{ForSome}
use Rattle.gw_pool.specs.declared.limits.Limits.{Limits}
use Rattle.gw_pool.specs.declared.rows.Stage.{Stage}
use Rattle.gw_pool.specs.declared.rows.Stage.TheVariants.{Granted, Dialing}
use Rattle.gw_pool.specs.declared.rows.Place.TheVariants.{Out}
use Rattle.gw_pool.specs.declared.rows.WantRow.{WantRow}
use Rattle.gw_pool.specs.declared.rows.DialRow.{DialRow}
use Rattle.gw_pool.specs.declared.rows.ConnRow.{ConnRow}
use Rattle.gw_pool.specs.Core.{CoreView, state_at}
use Rattle.gw_pool.specs.History.{after}
use Rattle.gw_pool.specs.State.{State, empty, used, is_free, least_want, least_waiting, newest_stamp, take_newest, wants_it, dials_for, has_number}
use Rattle.gw_pool.specs.Offer.{grant_to, grant, freed, offer_to, offer_conn}
use Rattle.gw_pool.specs.Machine.{units, want_new, want_by, want_step, start_row, dialed_conn, dialed_to, dialed_row, back_row}
use Rattle.gw_pool.proofs.tests.dial_lost.Goals as goal

abbrev limits_of : ℕ → ℕ → Limits
limits_of per_host conns = record { idle_total = 100; idle_per_host = per_host; conns_per_host = conns; idle_ms = 1000; journal = 100; passes = 4; per_pass = 1; hosts = 1 }

abbrev row : ℕ → ℕ → Stage → WantRow
row want caller stage = record { want = want; host = 0; caller = caller; stage = stage }

abbrev dial : ℕ → ℕ → DialRow
dial want caller = record { want = want; host = 0; caller = caller }

abbrev conn : Bool → ℕ → ℕ → ConnRow
conn reused want caller = record { conn = 0; host = 0; link = 50; reused = reused; place = Out want caller }

abbrev state : List WantRow → List DialRow → List ConnRow → ℕ → ℕ → State
state wants dials conns made given = record { wants = wants; dials = dials; conns = conns; next_want = made; next_conn = given; next_stamp = 0 }

opened : (core : CoreView) → core.journal ≡ [] → state_at core ≡ empty
unfolding after
opened core j = rw j refl

few : (core : CoreView) (s : State) (per_host conns caller : ℕ)
    → core.limits ≡ limits_of per_host conns → state_at core ≡ s → length (units s caller) ≡ 0
    → length (units (state_at core) caller) < core.limits.per_pass
few core s per_host conns caller l e z = rw (e, l, z) (omega arith)

first : (l : Limits) (per_host : ℕ) (s t : State) → l ≡ limits_of per_host 0 → s ≡ empty → t ≡ (want_step l s 2 0 0).state → t ≡ state (row 0 2 Granted ∷ []) [] [] 1 0
unfolding used is_free newest_stamp take_newest want_new want_by want_step
first l per_host s t a b e = e ∙ rw (a, b) refl

second : (s t : State)
    → s ≡ state (row 0 2 Granted ∷ []) [] [] 1 0 → ForSome (find (wants_it 0) s.wants) (λ r. t ≡ (start_row s r).state)
    → t ≡ state (row 0 2 Dialing ∷ []) (dial 0 2 ∷ []) [] 1 0
unfolding start_row
second s t b f = f (row 0 2 Granted) (rw b refl) ∙ rw b refl

third : (l : Limits) (per_host : ℕ) (s t : State) → l ≡ limits_of per_host 0
    → s ≡ state (row 0 2 Dialing ∷ []) (dial 0 2 ∷ []) [] 1 0 → ForSome (find (dials_for 0) s.dials) (λ r. t ≡ (dialed_row l s r 50 0).state)
    → t ≡ state [] [] (conn false 0 2 ∷ []) 1 1
unfolding dialed_conn dialed_to dialed_row
third l per_host s t a b f = f (dial 0 2) (rw b refl) ∙ rw (a, b) refl

fourth : (l : Limits) (per_host : ℕ) (s t : State) → l ≡ limits_of per_host 0
    → s ≡ state [] [] (conn false 0 2 ∷ []) 1 1 → t ≡ (want_step l s 0 0 0).state
    → t ≡ state (row 1 0 Granted ∷ []) [] (conn false 0 2 ∷ []) 2 1
unfolding used is_free newest_stamp take_newest want_new want_by want_step
fourth l per_host s t a b e = e ∙ rw (a, b) refl

fifth : (s t : State)
    → s ≡ state (row 1 0 Granted ∷ []) [] (conn false 0 2 ∷ []) 2 1 → ForSome (find (wants_it 1) s.wants) (λ r. t ≡ (start_row s r).state)
    → t ≡ state (row 1 0 Dialing ∷ []) (dial 1 0 ∷ []) (conn false 0 2 ∷ []) 2 1
unfolding start_row
fifth s t b f = f (row 1 0 Granted) (rw b refl) ∙ rw b refl

sixth : (l : Limits) (per_host : ℕ) (s t : State) → l ≡ limits_of per_host 0
    → s ≡ state (row 1 0 Dialing ∷ []) (dial 1 0 ∷ []) (conn false 0 2 ∷ []) 2 1 → ForSome (find (has_number 0) s.conns) (λ r. t ≡ (back_row l s r 0).state)
    → t ≡ state [] (dial 1 0 ∷ []) (conn true 1 0 ∷ []) 2 1
unfolding used is_free least_want least_waiting grant_to grant freed offer_to offer_conn back_row
sixth l per_host s t a b f = f (conn false 0 2) (rw b refl) ∙ rw (a, b) refl

begun : (n : ℕ) (core core1 core2 : CoreView) → core.limits ≡ limits_of n 0 → core.journal ≡ []
    → core1.limits ≡ core.limits → state_at core1 ≡ (want_step core.limits (state_at core) 2 0 0).state
    → core2.limits ≡ core1.limits → ForSome (find (wants_it 0) (state_at core1).wants) (λ r. state_at core2 ≡ (start_row (state_at core1) r).state)
    → state_at core2 ≡ state (row 0 2 Dialing ∷ []) (dial 0 2 ∷ []) [] 1 0
begun n core core1 core2 l j l1 e1 l2 f = second (state_at core1) (state_at core2) (first core.limits n (state_at core) (state_at core1) l (opened core j) e1) f

given : (n : ℕ) (core core1 core2 core3 core4 : CoreView) → core.limits ≡ limits_of n 0 → core.journal ≡ []
    → core1.limits ≡ core.limits → state_at core1 ≡ (want_step core.limits (state_at core) 2 0 0).state
    → core2.limits ≡ core1.limits → ForSome (find (wants_it 0) (state_at core1).wants) (λ r. state_at core2 ≡ (start_row (state_at core1) r).state)
    → core3.limits ≡ core2.limits → ForSome (find (dials_for 0) (state_at core2).dials) (λ r. state_at core3 ≡ (dialed_row core2.limits (state_at core2) r 50 0).state)
    → state_at core4 ≡ state_at core3 → state_at core4 ≡ state [] [] (conn false 0 2 ∷ []) 1 1
given n core core1 core2 core3 core4 l j l1 e1 l2 f l3 g e4 = e4 ∙ third core2.limits n (state_at core2) (state_at core3) (l2 ∙ l1 ∙ l) (begun n core core1 core2 l j l1 e1 l2 f) g

raced : (n : ℕ) (core core1 core2 : CoreView) → core.limits ≡ limits_of n 0 → state_at core ≡ state [] [] (conn false 0 2 ∷ []) 1 1
    → core1.limits ≡ core.limits → state_at core1 ≡ (want_step core.limits (state_at core) 0 0 0).state
    → core2.limits ≡ core1.limits → ForSome (find (wants_it 1) (state_at core1).wants) (λ r. state_at core2 ≡ (start_row (state_at core1) r).state)
    → state_at core2 ≡ state (row 1 0 Dialing ∷ []) (dial 1 0 ∷ []) (conn false 0 2 ∷ []) 2 1
raced n core core1 core2 l s l1 e1 l2 f = fifth (state_at core1) (state_at core2) (fourth core.limits n (state_at core) (state_at core1) l s e1) f

lost : (n : ℕ) (core core1 core2 core3 : CoreView) → core.limits ≡ limits_of n 0 → state_at core ≡ state [] [] (conn false 0 2 ∷ []) 1 1
    → core1.limits ≡ core.limits → state_at core1 ≡ (want_step core.limits (state_at core) 0 0 0).state
    → core2.limits ≡ core1.limits → ForSome (find (wants_it 1) (state_at core1).wants) (λ r. state_at core2 ≡ (start_row (state_at core1) r).state)
    → ForSome (find (has_number 0) (state_at core2).conns) (λ r. state_at core3 ≡ (back_row core2.limits (state_at core2) r 0).state)
    → state_at core3 ≡ state [] (dial 1 0 ∷ []) (conn true 1 0 ∷ []) 2 1
lost n core core1 core2 core3 l s l1 e1 l2 f g = sixth core2.limits n (state_at core2) (state_at core3) (l2 ∙ l1 ∙ l) (raced n core core1 core2 l s l1 e1 l2 f) g

pub made-requires-clause-few : goal.made-requires-clause-few
unfolding units
made-requires-clause-few g c = few c.args.core.now empty _ 0 2 c.requires.limits (opened c.args.core.now c.requires.journal) refl

pub dialed-requires : goal.dialed-requires
dialed-requires g c = rw (begun _ c.args.core.now c.made.new.core c.started.new.core c.requires.limits c.requires.journal
    c.in_ok-made.ensures.limits c.in_ok-made.ensures.state c.in_ok-started.ensures.limits c.in_ok-started.ensures.state) refl

pub made-requires-2-clause-few : goal.made-requires-2-clause-few
unfolding units
made-requires-2-clause-few g c =
    let limits = c.in_ok-taken.ensures.limits ∙ c.dialed.ensures.limits ∙ c.in_ok-started.ensures.limits ∙ c.in_ok-made.ensures.limits ∙ c.requires.limits in
    let had = given _ c.args.core.now c.made.new.core c.started.new.core c.dialed.new.core c.taken.new.core c.requires.limits c.requires.journal
    c.in_ok-made.ensures.limits c.in_ok-made.ensures.state c.in_ok-started.ensures.limits c.in_ok-started.ensures.state
    c.dialed.ensures.limits c.dialed.ensures.state c.in_ok-taken.ensures.state in
    few c.taken.new.core (state [] [] (conn false 0 2 ∷ []) 1 1) _ 0 0 limits had refl

pub put_back-requires : goal.put_back-requires
put_back-requires g c =
    let limits = c.in_ok-taken.ensures.limits ∙ c.dialed.ensures.limits ∙ c.in_ok-started.ensures.limits ∙ c.in_ok-made.ensures.limits ∙ c.requires.limits in
    let had = given _ c.args.core.now c.made.new.core c.started.new.core c.dialed.new.core c.taken.new.core c.requires.limits c.requires.journal
    c.in_ok-made.ensures.limits c.in_ok-made.ensures.state c.in_ok-started.ensures.limits c.in_ok-started.ensures.state
    c.dialed.ensures.limits c.dialed.ensures.state c.in_ok-taken.ensures.state in
    rw (raced _ c.taken.new.core c.made-2.new.core c.started-2.new.core limits had
    c.in_ok-made-2.ensures.limits c.in_ok-made-2.ensures.state c.in_ok-started-2.ensures.limits c.in_ok-started-2.ensures.state) (refl, refl)

pub dialed-close-requires : goal.dialed-close-requires
dialed-close-requires g c =
    let limits = c.in_ok-taken.ensures.limits ∙ c.dialed.ensures.limits ∙ c.in_ok-started.ensures.limits ∙ c.in_ok-made.ensures.limits ∙ c.requires.limits in
    let had = given _ c.args.core.now c.made.new.core c.started.new.core c.dialed.new.core c.taken.new.core c.requires.limits c.requires.journal
    c.in_ok-made.ensures.limits c.in_ok-made.ensures.state c.in_ok-started.ensures.limits c.in_ok-started.ensures.state
    c.dialed.ensures.limits c.dialed.ensures.state c.in_ok-taken.ensures.state in
    rw (lost _ c.taken.new.core c.made-2.new.core c.started-2.new.core c.put_back.new.core limits had
    c.in_ok-made-2.ensures.limits c.in_ok-made-2.ensures.state c.in_ok-started-2.ensures.limits c.in_ok-started-2.ensures.state c.put_back.ensures.state) refl

pub taken-requires-2 : goal.taken-requires-2
taken-requires-2 g c = c.dialed-close.ensures.taken 1 (c.put_back.ensures.taken 1 (c.in_ok-started-2.ensures.taken 1 (c.in_ok-made-2.ensures.taken 1 (c.in_ok-taken.ensures.taken 1 (λ e. absurd (cc))
    (c.dialed.ensures.taken 1 (c.in_ok-started.ensures.taken 1 (c.in_ok-made.ensures.taken 1 (rw c.requires.taken refl))))))))
