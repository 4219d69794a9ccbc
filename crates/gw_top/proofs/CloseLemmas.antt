-- A house that is closed behind all its workers, over plain variables.
use Rattle.std.proofs.Common.{ℕ, suc, ◌≡◌, ◌+◌, true, List, [], ◌∷◌, ◌++◌, length, All, Contains, Option, remove, slice_index_or, ap, sym, subst, ◌∙◌, arith, append-nil, inl, inr}
use Rattle.std.specs.List.{list_any}
use Rattle.std.proofs.lemmas.List.Elements.{All-cons, All-head, All-nil, All-tail}
use Rattle.std.proofs.lemmas.List.Sums.{sum_by-cons}
use Rattle.gw_context.specs.declared.parts.Cause.{Cause}
use Rattle.gw_ctxwords.specs.declared.nodes.NodeSpec.{NodeSpec}
use Rattle.gw_ctxwords.specs.Calls.{Closes}
use Rattle.gw_ctxwords.specs.Rule as words
use Rattle.gw_gate.specs.Gate as gate
use Rattle.gw_pool.specs.declared.entry.Entry.{Entry}
use Rattle.gw_pool.specs.declared.limits.Limits.{Limits}
use Rattle.gw_pool.specs.History.{AreBelow, IsLegal, mine}
use Rattle.gw_routes.specs.declared.table.Table.{Table}
use Rattle.gw_session.proofs.Facts.{either_left, either_right, either_which}
use Rattle.gw_turn.specs.declared.view.Member.{Member}
use Rattle.gw_turn.specs.Pass.{PassState, member_of}
use Rattle.gw_turn.specs.Steps.{IsIn}
use Rattle.gw_turn.specs.Turn.{Begins}
use Rattle.gw_wire.specs.Wire.{WireView}
use Rattle.gw_top.specs.declared.crew.Job.{Job}
use Rattle.gw_top.specs.declared.house.House.{House}
use Rattle.gw_top.specs.declared.house.Place.{Place}
use Rattle.gw_top.specs.Closing.{IsBack, ctxs_of, gates_of, no_tail, passes_of}
use Rattle.gw_top.specs.Crew.{AllHaveRun, IsEnded, HasRun, places_of, workers_of}
use Rattle.gw_top.specs.Run.{AllRun, Part, RunsAs, StopsRightly, has_cancelled, has_stop, is_past, needs_stop}
use Rattle.gw_top.proofs.JoinLemmas.{all_spent, began_with, ctx_cancels, ctx_found, ctx_named, ctx_room, found_stays, front_of, gate_named, gate_room, gate_seen, gate_shut, joined_is, members_count, members_of, pass_keeps, seen_stays}

-- ---- the conditions of the joins and of the closes

pub ended_front : {C W : Type 0} (wire : W → WireView) (house : House C) (table : Table) (jobs rest : List (Job W)) (first : Job W) → IsEnded wire house table jobs → first ≡ slice_index_or jobs 0 first
    → rest ≡ remove jobs 0 → jobs ≡ first ∷ rest
ended_front wire house table jobs rest first e value items = front_of jobs first e.some value ∙ ap (λ l. first ∷ l) (sym items)

pub ended_at : {C W : Type 0} (wire : W → WireView) (house : House C) (table : Table) (jobs rest : List (Job W)) (first : Job W) → IsEnded wire house table jobs → first ≡ slice_index_or jobs 0 first
    → rest ≡ remove jobs 0 → IsEnded wire house table (first ∷ rest)
ended_at wire house table jobs rest first e value items =
    subst (λ l. IsEnded wire house table l) (ended_front wire house table jobs rest first e value items) e

back_of : {C W : Type 0} (wire : W → WireView) (house : House C) (table : Table) (n : ℕ) (job : Job W) (part : Part) → HasRun wire house table n job part → IsBack house job
back_of wire house table n job part r = record { pool = r.pool; gate = r.gate; outside = r.outside; words = r.words }

all_back : {C W : Type 0} (wire : W → WireView) (house : House C) (table : Table) (n : ℕ) (jobs : List (Job W)) (parts : List Part) → AllHaveRun wire house table n jobs parts → All (IsBack house) jobs
all_back wire house table n [] [] r = All-nil (IsBack house)
all_back wire house table n [] (part ∷ parts) r = absurd r
all_back wire house table n (job ∷ jobs) [] r = absurd r
all_back wire house table n (job ∷ jobs) (part ∷ parts) r =
    All-cons (IsBack house) job jobs (back_of wire house table n job part r.0) (all_back wire house table (suc n) jobs parts r.1)

pub all_are_back : {C W : Type 0} (wire : W → WireView) (house : House C) (table : Table) (jobs : List (Job W)) → IsEnded wire house table jobs → All (IsBack house) jobs
all_are_back wire house table jobs e = all_back wire house table 0 jobs e.parts e.each

-- the joined pass and seats are all that there are, and no token is out
pub record IsAlone {C W : Type 0} (house : House C) (table : Table) (first : Job W) (rest : List (Job W)) : Type 0 where
  pub pool : (passes_of first.place.pass rest).pool ≡ house.pool
  pub gate_is : (gates_of first.place.gate_seat rest).name.gate ≡ house.gate
  pub words_is : (ctxs_of first.place.ctx_seat rest).table ≡ house.ctx.id
  pub limits : (passes_of first.place.pass rest).lent.limits ≡ table.limits
  pub passes : length (passes_of first.place.pass rest).joined + 1 ≡ (passes_of first.place.pass rest).lent.limits.passes
  pub out : (passes_of first.place.pass rest).lent.out ≡ []
  pub spent : All (λ (m : Member). m.out ≡ []) (passes_of first.place.pass rest).joined
  pub gates : (gates_of first.place.gate_seat rest).view.room ≡ gate.most_seats
  pub ctxs : (ctxs_of first.place.ctx_seat rest).view.room ≡ words.most_seats

joined_alone : {C W : Type 0} (wire : W → WireView) (house : House C) (table : Table) (first : Job W) (rest : List (Job W)) (part : Part) (parts : List Part) → AllHaveRun wire house table 0 (first ∷ rest) (part ∷ parts)
    → (passes_of first.place.pass rest).joined ≡ members_of rest
joined_alone wire house table first rest part parts r =
    joined_is wire house table first.place.pass 1 rest parts r.1 ∙ ap (λ (l : List Member). l ++ members_of rest) r.0.joined

alone_by : {C W : Type 0} (wire : W → WireView) (house : House C) (table : Table) (first : Job W) (rest : List (Job W)) (parts : List Part) → AllHaveRun wire house table 0 (first ∷ rest) parts
    → IsEnded wire house table (first ∷ rest) → IsAlone house table first rest
alone_by wire house table first rest [] r e = absurd r
alone_by wire house table first rest (part ∷ parts) r e =
    let keeps = pass_keeps first.place.pass rest in
    let joined = joined_alone wire house table first rest part parts r in
    let limits : (passes_of first.place.pass rest).lent.limits ≡ table.limits = keeps.1 ∙ r.0.limits in
    let count : length (passes_of first.place.pass rest).joined ≡ length rest = ap length joined ∙ members_count rest in
    let passes : (passes_of first.place.pass rest).lent.limits.passes ≡ table.limits.passes = ap (λ (l : Limits). l.passes) limits in
    record {
      pool = keeps.0 ∙ r.0.pool;
      gate_is = ap (λ name. name.gate) (gate_named first.place.gate_seat rest) ∙ r.0.gate;
      words_is = ctx_named first.place.ctx_seat rest ∙ r.0.words;
      limits = limits;
      passes = (let all = e.passes in omega arith);
      out = keeps.4 ∙ r.0.out;
      spent = subst (λ (l : List Member). All (λ (m : Member). m.out ≡ []) l) (sym joined) (all_spent wire house table 1 rest parts r.1);
      gates = (let all = e.gates in let here = gate_room first.place.gate_seat rest in let more = sum_by-cons (λ (p : Place). p.gate_seat.view.room) first.place (places_of rest) in omega arith);
      ctxs = (let all = e.words in let here = ctx_room first.place.ctx_seat rest in let more = sum_by-cons (λ (p : Place). p.ctx_seat.view.room) first.place (places_of rest) in omega arith);
    }

pub alone : {C W : Type 0} (wire : W → WireView) (house : House C) (table : Table) (first : Job W) (rest : List (Job W)) → IsEnded wire house table (first ∷ rest) → IsAlone house table first rest
alone wire house table first rest e = alone_by wire house table first rest e.parts e.each e

-- ---- the run

runs_as : {C W : Type 0} (wire : W → WireView) (house : House C) (table : Table) (journal : List Entry) (n : ℕ) (job : Job W) (part : Part) → HasRun wire house table n job part
    → IsIn journal (member_of job.place.pass) → RunsAs wire table journal [] n job.worker part
runs_as wire house table journal n job part r k = record {
  work = r.work;
  worked = r.worked;
  begins = subst (λ (seen : List Entry). Begins journal seen) r.seen k.1;
  own = ap (λ number. mine journal number) (sym r.number) ∙ k.0 ∙ r.mine;
}

all_run : {C W : Type 0} (wire : W → WireView) (house : House C) (table : Table) (journal : List Entry) (n : ℕ) (jobs : List (Job W)) (parts : List Part) → AllHaveRun wire house table n jobs parts
    → All (IsIn journal) (members_of jobs) → AllRun wire table journal no_tail n (workers_of jobs) parts
all_run wire house table journal n [] [] r k = tt
all_run wire house table journal n [] (part ∷ parts) r k = absurd r
all_run wire house table journal n (job ∷ jobs) [] r k = absurd r
all_run wire house table journal n (job ∷ jobs) (part ∷ parts) r k = (
  runs_as wire house table journal n job part r.0 (All-head (IsIn journal) (member_of job.place.pass) (members_of jobs) k),
  all_run wire house table journal (suc n) jobs parts r.1 (All-tail (IsIn journal) (member_of job.place.pass) (members_of jobs) k),
)

-- what the close of the pool says of its journal
pub record IsJournal (pass : PassState) (journal : List Entry) : Type 0 where
  pub seen : journal ≡ pass.lent.seen
  pub legal : IsLegal pass.lent.limits journal
  pub callers : AreBelow pass.lent.limits.passes journal
  pub own : mine journal pass.lent.number ≡ pass.lent.mine
  pub joined : All (IsIn journal) pass.joined
  pub past : All (Begins journal) pass.past

-- what the first worker saw begins the journal too
first_in : {W : Type 0} (journal : List Entry) (p : PassState) (jobs : List (Job W)) → IsJournal (passes_of p jobs) journal → IsIn journal (member_of p)
first_in journal p jobs j =
    let keeps = pass_keeps p jobs in
    let last : Begins journal (passes_of p jobs).lent.seen = ([], append-nil (passes_of p jobs).lent.seen ∙ sym j.seen) in
    (ap (λ number. mine journal number) (sym keeps.2) ∙ j.own ∙ keeps.3, began_with (Begins journal) p jobs last j.past)

-- each worker's entries and what it saw are those of the journal
all_in : {C W : Type 0} (wire : W → WireView) (house : House C) (table : Table) (first : Job W) (rest : List (Job W)) (journal : List Entry) (parts : List Part) → AllHaveRun wire house table 0 (first ∷ rest) parts
    → IsJournal (passes_of first.place.pass rest) journal → All (IsIn journal) (members_of (first ∷ rest))
all_in wire house table first rest journal [] r j = absurd r
all_in wire house table first rest journal (part ∷ parts) r j =
    All-cons (IsIn journal) (member_of first.place.pass) (members_of rest) (first_in journal first.place.pass rest j)
    (subst (λ (l : List Member). All (IsIn journal) l) (joined_alone wire house table first rest part parts r) j.joined)

-- ---- the stops

stops_rightly : {C W : Type 0} (wire : W → WireView) (house : House C) (table : Table) (first : Job W) (rest : List (Job W)) (parts : List Part) (nodes : List NodeSpec) (cause : Option Cause)
    → AllHaveRun wire house table 0 (first ∷ rest) parts → ((gates_of first.place.gate_seat rest).view.seen_shut ≡ true → (gates_of first.place.gate_seat rest).view.shut ≡ true)
    → Closes nodes (ctxs_of first.place.ctx_seat rest).view cause → StopsRightly wire table.grace_ms (workers_of (first ∷ rest)) parts
stops_rightly wire house table first rest [] nodes cause r shuts ends = absurd r
stops_rightly wire house table first rest (part ∷ parts) nodes cause r shuts ends =
    let g = first.place.gate_seat in
    let s = first.place.ctx_seat in
    let past = is_past wire table.grace_ms in
    let stop : (gates_of g rest).view.seen_shut ≡ true → list_any has_stop (part ∷ parts) ≡ true = λ e. elim (gate_shut wire house table g 1 rest parts r.1 (shuts e)) [
      | inl here ↦ either_left (has_stop part) (list_any has_stop parts) (r.0.shut here)
      | inr later ↦ either_right (has_stop part) (list_any has_stop parts) later
    ] in
    let seen : list_any needs_stop (part ∷ parts) ≡ true → (gates_of g rest).view.seen_shut ≡ true = λ e. elim (either_which (needs_stop part) (list_any needs_stop parts) e) [
      | inl here ↦ seen_stays g rest (r.0.seen_shut here)
      | inr later ↦ gate_seen wire house table g 1 rest parts r.1 later
    ] in
    let found : list_any has_cancelled (part ∷ parts) ≡ true → (x : ℕ × Cause) × Contains (ctxs_of s rest).view.ended x = λ e. elim (either_which (has_cancelled part) (list_any has_cancelled parts) e) [
      | inl here ↦ (let k = r.0.cancelled here in ((1, k.0), found_stays s rest (1, k.0) k.1))
      | inr later ↦ ctx_found wire house table s 1 rest parts r.1 later
    ] in
    let late : (x : ℕ × Cause) → Contains (ctxs_of s rest).view.cancels x → (list_any past (workers_of (first ∷ rest)) ≡ true) × ((gates_of g rest).view.seen_shut ≡ true) =
    λ x c. elim (ctx_cancels wire house table g s x 1 rest parts r.1 c) [
      | inl here ↦ (let k = r.0.cancels x here in (either_left (past first.worker) (list_any past (workers_of rest)) k.0, seen_stays g rest k.1))
      | inr later ↦ (either_right (past first.worker) (list_any past (workers_of rest)) later.0, later.1)
    ] in
    record {
      stopped = λ e. stop (seen e);
      cancelled = λ e.
          let x = found e in
          let up = ends.caused x.0.0 x.0.1 x.1 in
          let k = late (up.0, x.0.1) up.2 in
          (stop k.1, k.0);
    }

-- ---- all of it

-- the run of these jobs' workers
pub record IsRun {W : Type 0} (wire : W → WireView) (table : Table) (jobs : List (Job W)) (journal : List Entry) : Type 0 where
  pub parts : List Part
  pub legal : IsLegal table.limits journal
  pub callers : AreBelow table.limits.passes journal
  pub each : AllRun wire table journal no_tail 0 (workers_of jobs) parts
  pub stops : StopsRightly wire table.grace_ms (workers_of jobs) parts

pub closed : {C W : Type 0} (wire : W → WireView) (house : House C) (table : Table) (first : Job W) (rest : List (Job W)) (journal : List Entry) (nodes : List NodeSpec) (cause : Option Cause)
    → IsEnded wire house table (first ∷ rest) → IsJournal (passes_of first.place.pass rest) journal
    → ((gates_of first.place.gate_seat rest).view.seen_shut ≡ true → (gates_of first.place.gate_seat rest).view.shut ≡ true)
    → Closes nodes (ctxs_of first.place.ctx_seat rest).view cause → IsRun wire table (first ∷ rest) journal
closed wire house table first rest journal nodes cause e j shuts ends =
    let limits = (alone wire house table first rest e).limits in
    record {
      parts = e.parts;
      legal = subst (λ (l : Limits). IsLegal l journal) limits j.legal;
      callers = subst (λ (l : Limits). AreBelow l.passes journal) limits j.callers;
      each = all_run wire house table journal 0 (first ∷ rest) e.parts e.each (all_in wire house table first rest journal e.parts e.each j);
      stops = stops_rightly wire house table first rest e.parts nodes cause e.each shuts ends;
    }
