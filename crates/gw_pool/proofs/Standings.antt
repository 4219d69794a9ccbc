-- How a want stands, by the rows that are found.
use Rattle.std.proofs.Common.{◌≡◌, ℕ, ◌+◌, ◌*◌, ◌<◌, ◌≤◌, Bool, true, false, List, [], length, Vec, vec_capacity, Option, Some, None, refl, ap, arith, lt-ltb, le-ltb, ◌^◌, cond}
use Rattle.std.specs.List.{find}
use Rattle.std.proofs.lemmas.List.Elements.{All-nil}
use Rattle.std.specs.declared.alloc.Global.{Global}
use Rattle.gw_wire.specs.Link.{LinkView}
use Rattle.gw_pool.specs.declared.limits.Limits.{Limits}
use Rattle.gw_pool.specs.declared.entry.Entry.{Entry}
use Rattle.gw_pool.specs.declared.rows.Stage.{Stage}
use Rattle.gw_pool.specs.declared.rows.Stage.TheVariants.{Waiting, Granted, Dialing}
use Rattle.gw_pool.specs.declared.rows.Place.{Place}
use Rattle.gw_pool.specs.declared.rows.Place.TheVariants.{Out}
use Rattle.gw_pool.specs.declared.rows.WantRow.{WantRow}
use Rattle.gw_pool.specs.declared.rows.ConnRow.{ConnRow}
use Rattle.gw_pool.specs.declared.machine.Rows.{Rows}
use Rattle.gw_pool.specs.declared.answers.CoreAsk.{CoreAsk}
use Rattle.gw_pool.specs.declared.answers.CoreAsk.TheVariants as ask
use Rattle.gw_pool.specs.declared.entry.Call.TheVariants as call
use Rattle.gw_pool.specs.declared.entry.Reply.TheVariants as reply
use Rattle.gw_pool.specs.Places.{is_granted}
use Rattle.gw_pool.specs.State.{State, wants_it, is_with}
use Rattle.gw_pool.specs.Machine.{Outcome, replied, cancel_row, Served, MayDial, NotServed, NotComing, standing, stands_as, stage_standing}
use Rattle.gw_pool.specs.History.{IsLegal, after, refuses, room}
use Rattle.gw_pool.specs.Rows.{state_of}
use Rattle.gw_pool.specs.Shelf.{is_lent, is_among, IsKept}
use Rattle.gw_pool.specs.Core.{CoreView, Holds, AskDone, Looks, CancelDone, DonePut, state_at}
use Rattle.gw_pool.proofs.Edits.{found_passes}
use Rattle.gw_pool.proofs.Shelves.{out_at}

pub served : (s : State) (want : ℕ) (row : ConnRow) → find (is_with want) s.conns ≡ Some row → standing s want ≡ Served row
unfolding standing
served s want row f = rw f

granted_stage : (stage : Stage) → is_granted stage ≡ true → stage_standing stage ≡ MayDial
granted_stage Waiting h = absurd (cc)
granted_stage Granted h = refl
granted_stage Dialing h = absurd (cc)

other_stage : (stage : Stage) → is_granted stage ≡ false → stage_standing stage ≡ NotServed
other_stage Waiting h = refl
other_stage Granted h = absurd (cc)
other_stage Dialing h = refl

pub may_dial : (s : State) (want : ℕ) (row : WantRow) → find (is_with want) s.conns ≡ None → find (wants_it want) s.wants ≡ Some row → is_granted row.stage ≡ true → standing s want ≡ MayDial
unfolding standing
may_dial s want row n f g = rw (n, f) (granted_stage row.stage g)

pub not_served : (s : State) (want : ℕ) (row : WantRow) → find (is_with want) s.conns ≡ None → find (wants_it want) s.wants ≡ Some row → is_granted row.stage ≡ false → standing s want ≡ NotServed
unfolding standing
not_served s want row n f g = rw (n, f) (other_stage row.stage g)

pub not_coming : (s : State) (want : ℕ) → find (is_with want) s.conns ≡ None → find (wants_it want) s.wants ≡ None → standing s want ≡ NotComing
unfolding standing
not_coming s want n f = rw (n, f)

pub looked : {C : Type 0} (link : C → LinkView) (old new : CoreView) (want : ℕ) (answer : CoreAsk C) → new ≡ old → Looks answer (standing (state_at old) want) → AskDone link old new want answer
looked link old new want (ask.Taken c n r h) e l = absurd l
looked link old new want ask.Granted e l = (l, e)
looked link old new want ask.NotYet e l = (l, e)
looked link old new want ask.Failed e l = (l, e)

-- a connection that is out to a want that wasn't taken is there
out_lent_not : (taken : List ℕ) (want caller : ℕ) (place : Place) → place ≡ Out want caller → is_among want taken ≡ false → is_lent taken place ≡ false
out_lent_not taken want caller place e h = rw e h

pub with_not_lent : (taken : List ℕ) (conns : List ConnRow) (want : ℕ) (row : ConnRow) → find (is_with want) conns ≡ Some row → is_among want taken ≡ false → is_lent taken row.place ≡ false
with_not_lent taken conns want row f h = let out = out_at want row (found_passes (is_with want) conns row f) in out_lent_not taken want out.0 row.place out.1 h

pub with_out : (conns : List ConnRow) (want : ℕ) (row : ConnRow) → find (is_with want) conns ≡ Some row → (caller : ℕ) × (row.place ≡ Out want caller)
with_out conns want row f = out_at want row (found_passes (is_with want) conns row f)

pub kept_there : {C : Type 0} (link : C → LinkView) (taken : List ℕ) (row : ConnRow) (conn : Option C) → IsKept link taken row conn → is_lent taken row.place ≡ false → conn ≡ None → ⊥
kept_there link taken row (Some c) k n e = absurd (cc)
kept_there link taken row None k n e = absurd (cc)

-- a want that has a row is cancelled by an entry
stage_done : {C : Type 0} (link : C → LinkView) (old new : CoreView) (want now : ℕ) (close : Option C) (stage : Stage) → DonePut link old new (call.Cancel want now) close → CancelDone link old new want now close (stage_standing stage)
stage_done link old new want now close Waiting d = d
stage_done link old new want now close Granted d = d
stage_done link old new want now close Dialing d = d

rows_done : {C : Type 0} (link : C → LinkView) (old new : CoreView) (want now : ℕ) (close : Option C) (o : Option ConnRow) (row : WantRow) → DonePut link old new (call.Cancel want now) close → CancelDone link old new want now close (stands_as o (Some row))
rows_done link old new want now close (Some r) row d = d
rows_done link old new want now close None row d = stage_done link old new want now close row.stage d

pub cancelled_want : {C : Type 0} (link : C → LinkView) (old new : CoreView) (want now : ℕ) (close : Option C) (row : WantRow) → find (wants_it want) (state_at old).wants ≡ Some row → DonePut link old new (call.Cancel want now) close → CancelDone link old new want now close (standing (state_at old) want)
unfolding standing
cancelled_want link old new want now close row f d = rw f (rows_done link old new want now close (find (is_with want) (state_at old).conns) row d)

pub cancelled_conn : {C : Type 0} (link : C → LinkView) (old new : CoreView) (want now : ℕ) (close : Option C) (row : ConnRow) → find (is_with want) (state_at old).conns ≡ Some row → DonePut link old new (call.Cancel want now) close → CancelDone link old new want now close (standing (state_at old) want)
cancelled_conn link old new want now close row f d = rw (served (state_at old) want row f) d

pub cancelled_none : {C : Type 0} (link : C → LinkView) (old : CoreView) (want now : ℕ) → find (is_with want) (state_at old).conns ≡ None → find (wants_it want) (state_at old).wants ≡ None → CancelDone {C = C} link old old want now None (standing (state_at old) want)
cancelled_none link old want now n f = rw (not_coming (state_at old) want n f) (refl, refl)

-- a want that has no connection leaves none to be closed
gone_by : (limits : Limits) (s : State) (row : WantRow) (b : Bool) (p : Option ℕ × State) (o : Outcome) → o.gone ≡ None → (cond {A = Outcome} b (replied reply.Gone None p) o).gone ≡ None
gone_by limits s row true p o e = refl
gone_by limits s row false p o e = e

pub cancel_gone : (limits : Limits) (s : State) (row : WantRow) → (cancel_row limits s row).gone ≡ None
unfolding cancel_row
cancel_gone limits s row = gone_by limits s row (is_granted row.stage) _ _ refl

-- the journal is full
pub full_is : {C : Type 0} (rows : Rows C) (journal : Vec Entry Global) (n m : ℕ) → Holds rows journal → n ≡ length journal.items → m ≡ room (state_of rows) → rows.limits.journal < n + m + 6 → refuses rows.limits journal.items ≡ true
unfolding refuses
full_is rows journal n m h e f l = lt-ltb rows.limits.journal (length journal.items + room (after rows.limits journal.items) + 6) (omega (arith, ap (λ s. room s) h.state))

pub full_not : {C : Type 0} (rows : Rows C) (journal : Vec Entry Global) (n m : ℕ) → Holds rows journal → n ≡ length journal.items → m ≡ room (state_of rows) → n + m + 6 ≤ rows.limits.journal → refuses rows.limits journal.items ≡ false
unfolding refuses
full_not rows journal n m h e f l = le-ltb rows.limits.journal (length journal.items + room (after rows.limits journal.items) + 6) (omega (arith, ap (λ s. room s) h.state))

-- an empty pool
pub opened : {C : Type 0} (rows : Rows C) (journal : Vec Entry Global) → rows.wants.items ≡ [] → rows.dials.items ≡ [] → rows.conns.rows ≡ [] → rows.next_want ≡ 0 → rows.next_conn ≡ 0 → rows.next_stamp ≡ 0 → journal.items ≡ [] → rows.limits.journal < 2 ^ 32 → 0 < rows.limits.passes → rows.limits.passes * rows.limits.per_pass + 1 ≤ vec_capacity rows.wants → rows.limits.passes * rows.limits.per_pass + 1 ≤ vec_capacity rows.dials → rows.limits.passes * rows.limits.per_pass + rows.limits.idle_total + 1 ≤ rows.conns.room → rows.limits.journal + 1 ≤ vec_capacity journal → Holds rows journal
unfolding after IsLegal room
opened rows journal w d c nw nc ns j small passes cw cd cc' cj = record {
  state = rw (j, w, d, c, nw, nc, ns);
  legal = rw j tt;
  fits = rw (j, w, d, c) (omega arith);
  small = small;
  passes = passes;
  callers = rw j (All-nil (λ entry. entry.caller < rows.limits.passes));
  wants = cw;
  dials = cd;
  conns = cc';
  entries = cj;
  next_want = omega arith;
  next_conn = omega arith;
  next_stamp = omega arith;
}
