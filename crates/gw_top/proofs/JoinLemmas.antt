-- The joins of all workers into the first, over plain variables.
use Rattle.std.proofs.Common.{ℕ, suc, ◌≡◌, ◌<◌, ◌≤◌, ◌+◌, true, false, List, [], ◌∷◌, ◌++◌, map, length, All, Contains, fold, remove, slice_index_or, refl, ap, sym, ◌∙◌, arith, append_assoc, append-nil, inl, inr, ◌⊎◌}
use Rattle.std.specs.List.{list_any}
use Rattle.std.proofs.lemmas.List.Elements.{All-cons, All-contains, All-nil, Contains-append_cases, Contains-append_left, Contains-append_right}
use Rattle.std.proofs.lemmas.List.Sums.{sum_by-cons}
use Rattle.gw_context.specs.declared.parts.Cause.{Cause}
use Rattle.gw_ctxwords.specs.Calls as words
use Rattle.gw_gate.specs.Seat as gate
use Rattle.gw_pool.specs.declared.entry.Entry.{Entry}
use Rattle.gw_wire.specs.Wire.{WireView}
use Rattle.gw_routes.specs.declared.table.Table.{Table}
use Rattle.gw_turn.specs.declared.view.Member.{Member}
use Rattle.gw_turn.specs.Pass.{PassState, member_of}
use Rattle.gw_session.proofs.Facts.{either_left, either_right, either_which}
use Rattle.gw_top.specs.declared.crew.Job.{Job}
use Rattle.gw_top.specs.declared.house.House.{House}
use Rattle.gw_top.specs.declared.house.Place.{Place}
use Rattle.gw_top.specs.declared.worker.Worker.{Worker}
use Rattle.gw_top.specs.Closing.{ctx_with, ctxs_of, gate_with, gates_of, pass_with, passes_of}
use Rattle.gw_top.specs.Crew.{AllHaveRun, places_of, workers_of}
use Rattle.gw_top.specs.House.{ctx_rooms, gate_rooms}
use Rattle.gw_top.specs.Run.{Part, has_cancelled, has_stop, is_past, needs_stop, own_node}

-- ---- the walk

-- what is removed from the front stands before what is left
pub front_of : {X : Type 0} (xs : List X) (x : X) → 0 < length xs → x ≡ slice_index_or xs 0 x → xs ≡ x ∷ remove xs 0
front_of [] x some e = absurd (omega (arith, some))
front_of (y ∷ ys) x some e = ap (λ z. z ∷ ys) (sym e)

-- a fold over all that is left, one step on
pub fold_step : {A B : Type 0} (f : B → A → B) (before now whole : B) (all left : List A) (x : A) → all ≡ x ∷ left → now ≡ f before x → fold f before all ≡ whole → fold f now left ≡ whole
fold_step f before now whole all left x front step is = ap (λ b. fold f b left) step ∙ ap (λ l. fold f before l) (sym front) ∙ is

pub workers_step : {W : Type 0} (done now whole : List (Worker W)) (all left : List (Job W)) (job : Job W) → all ≡ job ∷ left → now ≡ done ++ job.worker ∷ [] → done ++ workers_of all ≡ whole
    → now ++ workers_of left ≡ whole
workers_step done now whole all left job front step is =
    ap (λ l. l ++ workers_of left) step ∙ append_assoc done (job.worker ∷ []) (workers_of left) ∙ ap (λ l. done ++ workers_of l) (sym front) ∙ is

-- as long as not all were joined, something is left, and then nothing
pub some_left : {X : Type 0} (left all : List X) (done count len : ℕ) → length left + done ≡ length all → count ≡ len → len ≡ length all → done < count → 0 < length left
some_left left all done count len whole is size more = omega arith

nothing : {X : Type 0} (xs : List X) → length xs ≡ 0 → xs ≡ []
nothing [] e = refl
nothing (x ∷ xs) e = absurd (omega (arith, e))

pub none_left : {X : Type 0} (left all : List X) (done count len : ℕ) → length left + done ≡ length all → count ≡ len → len ≡ length all → count ≤ done → left ≡ []
none_left left all done count len whole is size end = nothing left (omega arith)

-- ---- the passes

-- what no join changes
pub pass_keeps : {W : Type 0} (p : PassState) (jobs : List (Job W)) → ((passes_of p jobs).pool ≡ p.pool) × ((passes_of p jobs).lent.limits ≡ p.lent.limits) × ((passes_of p jobs).lent.number ≡ p.lent.number)
    × ((passes_of p jobs).lent.mine ≡ p.lent.mine) × ((passes_of p jobs).lent.out ≡ p.lent.out)
pass_keeps p [] = (refl, refl, refl, refl, refl)
pass_keeps p (job ∷ jobs) = pass_keeps (pass_with p job) jobs

abbrev pub members_of : {W : Type 0} → List (Job W) → List Member
members_of jobs = map (λ job. member_of job.place.pass) jobs

pub members_count : {W : Type 0} (jobs : List (Job W)) → length (members_of jobs) ≡ length jobs
members_count [] = refl
members_count (job ∷ jobs) = ap suc (members_count jobs)

pub joined_is : {C W : Type 0} (wire : W → WireView) (house : House C) (table : Table) (p : PassState) (n : ℕ) (jobs : List (Job W)) (parts : List Part) → AllHaveRun wire house table n jobs parts
    → (passes_of p jobs).joined ≡ p.joined ++ members_of jobs
joined_is wire house table p n [] [] r = sym (append-nil p.joined)
joined_is wire house table p n [] (part ∷ parts) r = absurd r
joined_is wire house table p n (job ∷ jobs) [] r = absurd r
joined_is wire house table p n (job ∷ jobs) (part ∷ parts) r =
    let m : Member = member_of job.place.pass in
    joined_is wire house table (pass_with p job) (suc n) jobs parts r.1 ∙ ap (λ (l : List Member). (p.joined ++ m ∷ l) ++ members_of jobs) r.0.joined ∙ append_assoc p.joined (m ∷ []) (members_of jobs)

-- no token of any is out
pub all_spent : {C W : Type 0} (wire : W → WireView) (house : House C) (table : Table) (n : ℕ) (jobs : List (Job W)) (parts : List Part) → AllHaveRun wire house table n jobs parts
    → All (λ (m : Member). m.out ≡ []) (members_of jobs)
all_spent wire house table n [] [] r = All-nil (λ (m : Member). m.out ≡ [])
all_spent wire house table n [] (part ∷ parts) r = absurd r
all_spent wire house table n (job ∷ jobs) [] r = absurd r
all_spent wire house table n (job ∷ jobs) (part ∷ parts) r =
    All-cons (λ (m : Member). m.out ≡ []) (member_of job.place.pass) (members_of jobs) r.0.out (all_spent wire house table (suc n) jobs parts r.1)

-- what was once in the past of a pass stays there
past_stays : {W : Type 0} (p : PassState) (jobs : List (Job W)) (seen : List Entry) → Contains p.past seen → Contains (passes_of p jobs).past seen
past_stays p [] seen c = c
past_stays p (job ∷ jobs) seen c =
    past_stays (pass_with p job) jobs seen
    (Contains-append_right (p.lent.seen ∷ []) (p.past ++ job.place.pass.past) seen (Contains-append_left p.past job.place.pass.past seen c))

-- what holds of all that the joined pass saw held of what the first one saw
pub began_with : {W : Type 0} (P : List Entry → Type 0) (p : PassState) (jobs : List (Job W)) → P (passes_of p jobs).lent.seen → All P (passes_of p jobs).past → P p.lent.seen
began_with P p [] last past = last
began_with P p (job ∷ jobs) last past =
    All-contains P (passes_of p (job ∷ jobs)).past p.lent.seen past (past_stays (pass_with p job) jobs p.lent.seen (0, (omega arith), refl))

-- ---- the seats

pub gate_named : {W : Type 0} (s : gate.SeatState) (jobs : List (Job W)) → (gates_of s jobs).name ≡ s.name
gate_named s [] = refl
gate_named s (job ∷ jobs) = gate_named (gate_with s job) jobs

pub ctx_named : {W : Type 0} (s : words.SeatState) (jobs : List (Job W)) → (ctxs_of s jobs).table ≡ s.table
ctx_named s [] = refl
ctx_named s (job ∷ jobs) = ctx_named (ctx_with s job) jobs

pub gate_room : {W : Type 0} (s : gate.SeatState) (jobs : List (Job W)) → (gates_of s jobs).view.room ≡ s.view.room + gate_rooms (places_of jobs)
gate_room s [] = omega arith
gate_room s (job ∷ jobs) =
    let later = gate_room (gate_with s job) jobs in
    let more = sum_by-cons (λ (p : Place). p.gate_seat.view.room) job.place (places_of jobs) in
    omega arith

pub ctx_room : {W : Type 0} (s : words.SeatState) (jobs : List (Job W)) → (ctxs_of s jobs).view.room ≡ s.view.room + ctx_rooms (places_of jobs)
ctx_room s [] = omega arith
ctx_room s (job ∷ jobs) =
    let later = ctx_room (ctx_with s job) jobs in
    let more = sum_by-cons (λ (p : Place). p.ctx_seat.view.room) job.place (places_of jobs) in
    omega arith

-- what a seat knew is known still
pub seen_stays : {W : Type 0} (s : gate.SeatState) (jobs : List (Job W)) → s.view.seen_shut ≡ true → (gates_of s jobs).view.seen_shut ≡ true
seen_stays s [] e = e
seen_stays s (job ∷ jobs) e = seen_stays (gate_with s job) jobs (either_left s.view.seen_shut job.place.gate_seat.view.seen_shut e)

pub found_stays : {W : Type 0} (s : words.SeatState) (jobs : List (Job W)) (x : ℕ × Cause) → Contains s.view.ended x → Contains (ctxs_of s jobs).view.ended x
found_stays s [] x c = c
found_stays s (job ∷ jobs) x c = found_stays (ctx_with s job) jobs x (Contains-append_left s.view.ended job.place.ctx_seat.view.ended x c)

-- ---- what the seats knew of the parts

-- where a worker saw the gate shut, the joined seat did
pub gate_seen : {C W : Type 0} (wire : W → WireView) (house : House C) (table : Table) (s : gate.SeatState) (n : ℕ) (jobs : List (Job W)) (parts : List Part) → AllHaveRun wire house table n jobs parts
    → list_any needs_stop parts ≡ true → (gates_of s jobs).view.seen_shut ≡ true
gate_seen wire house table s n [] [] r e = absurd (let bad : false ≡ true = e in cc)
gate_seen wire house table s n [] (part ∷ parts) r e = absurd r
gate_seen wire house table s n (job ∷ jobs) [] r e = absurd r
gate_seen wire house table s n (job ∷ jobs) (part ∷ parts) r e = elim (either_which (needs_stop part) (list_any needs_stop parts) e) [
  | inl here ↦ seen_stays (gate_with s job) jobs (either_right s.view.seen_shut job.place.gate_seat.view.seen_shut (r.0.seen_shut here))
  | inr later ↦ gate_seen wire house table (gate_with s job) (suc n) jobs parts r.1 later
]

-- where the joined seat shut the gate, it had before, or a request of a worker did
pub gate_shut : {C W : Type 0} (wire : W → WireView) (house : House C) (table : Table) (s : gate.SeatState) (n : ℕ) (jobs : List (Job W)) (parts : List Part) → AllHaveRun wire house table n jobs parts
    → (gates_of s jobs).view.shut ≡ true → (s.view.shut ≡ true) ⊎ (list_any has_stop parts ≡ true)
gate_shut wire house table s n [] [] r e = inl e
gate_shut wire house table s n [] (part ∷ parts) r e = absurd r
gate_shut wire house table s n (job ∷ jobs) [] r e = absurd r
gate_shut wire house table s n (job ∷ jobs) (part ∷ parts) r e = elim (gate_shut wire house table (gate_with s job) (suc n) jobs parts r.1 e) [
  | inl both ↦ elim (either_which s.view.shut job.place.gate_seat.view.shut both) [
    | inl before ↦ inl before
    | inr here ↦ inr (either_left (has_stop part) (list_any has_stop parts) (r.0.shut here))
  ]
  | inr later ↦ inr (either_right (has_stop part) (list_any has_stop parts) later)
]

-- where a worker had a cancelled request, the joined seat found a node ended
pub ctx_found : {C W : Type 0} (wire : W → WireView) (house : House C) (table : Table) (s : words.SeatState) (n : ℕ) (jobs : List (Job W)) (parts : List Part) → AllHaveRun wire house table n jobs parts
    → list_any has_cancelled parts ≡ true → (x : ℕ × Cause) × Contains (ctxs_of s jobs).view.ended x
ctx_found wire house table s n [] [] r e = absurd (let bad : false ≡ true = e in cc)
ctx_found wire house table s n [] (part ∷ parts) r e = absurd r
ctx_found wire house table s n (job ∷ jobs) [] r e = absurd r
ctx_found wire house table s n (job ∷ jobs) (part ∷ parts) r e = elim (either_which (has_cancelled part) (list_any has_cancelled parts) e) [
  | inl here ↦
      let found = r.0.cancelled here in
      let x : ℕ × Cause = (own_node n, found.0) in
      (x, found_stays (ctx_with s job) jobs x (Contains-append_right s.view.ended job.place.ctx_seat.view.ended x found.1))
  | inr later ↦ ctx_found wire house table (ctx_with s job) (suc n) jobs parts r.1 later
]

-- what the joined seat cancelled, it had before, or a worker did behind the time of grace, where the gate was seen shut
pub ctx_cancels : {C W : Type 0} (wire : W → WireView) (house : House C) (table : Table) (g : gate.SeatState) (s : words.SeatState) (x : ℕ × Cause) (n : ℕ) (jobs : List (Job W)) (parts : List Part)
    → AllHaveRun wire house table n jobs parts → Contains (ctxs_of s jobs).view.cancels x
    → Contains s.view.cancels x ⊎ ((list_any (is_past wire table.grace_ms) (workers_of jobs) ≡ true) × ((gates_of g jobs).view.seen_shut ≡ true))
ctx_cancels wire house table g s x n [] [] r c = inl c
ctx_cancels wire house table g s x n [] (part ∷ parts) r c = absurd r
ctx_cancels wire house table g s x n (job ∷ jobs) [] r c = absurd r
ctx_cancels wire house table g s x n (job ∷ jobs) (part ∷ parts) r c =
    let past = is_past wire table.grace_ms in
    elim (ctx_cancels wire house table (gate_with g job) (ctx_with s job) x (suc n) jobs parts r.1 c) [
      | inl both ↦ elim (Contains-append_cases s.view.cancels job.place.ctx_seat.view.cancels x both) [
        | inl before ↦ inl before
        | inr here ↦
            let k = r.0.cancels x here in
            inr (either_left (past job.worker) (list_any past (workers_of jobs)) k.0, seen_stays (gate_with g job) jobs (either_right g.view.seen_shut job.place.gate_seat.view.seen_shut k.1))
      ]
      | inr later ↦ inr (either_right (past job.worker) (list_any past (workers_of jobs)) later.0, later.1)
    ]
