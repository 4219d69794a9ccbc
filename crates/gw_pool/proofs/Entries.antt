-- An entry is made: the pool's rows and journal hold together as before.
use Rattle.std.proofs.Common.{◌≡◌, ℕ, ◌+◌, ◌<◌, ◌≤◌, ◌⊎◌, Bool, true, List, [], ◌∷◌, ◌++◌, length, vec_capacity, Vec, Some, ap, ◌∙◌, arith, length-append}
use Rattle.std.proofs.lemmas.List.Elements.{All-push}
use Rattle.std.specs.declared.alloc.Global.{Global}
use Rattle.gw_pool.specs.declared.entry.Entry.{Entry}
use Rattle.gw_pool.specs.declared.entry.Call.{Call}
use Rattle.gw_pool.specs.declared.entry.Reply.{Reply}
use Rattle.gw_pool.specs.declared.machine.Rows.{Rows}
use Rattle.gw_pool.specs.Machine.{Outcome, step}
use Rattle.gw_pool.specs.History.{after, room}
use Rattle.gw_pool.specs.Rows.{state_of, Keeps, HasRoom}
use Rattle.gw_pool.specs.Core.{CoreView, Holds, Enters, entry_of}
use Rattle.gw_pool.proofs.Below.{names_row, caller_below}
use Rattle.gw_pool.proofs.Histories.{made}
use Rattle.gw_pool.proofs.RowLimits.{rows_fit}
use Rattle.gw_pool.proofs.Steps.{Goes}

abbrev pub view_of : {C : Type 0} → Rows C → Vec Entry Global → CoreView
view_of rows journal = record { limits = rows.limits; journal = journal.items; taken = rows.conns.taken }

-- a step of the rows and the entry of it
pub record Stepped {C : Type 0} (rows rows' : Rows C) (journal journal' : Vec Entry Global) (caller : ℕ) (asked : Call) (outcome : Outcome) : Type 0 where
  pub fits : step rows.limits (state_of rows) caller asked ≡ Some outcome
  pub state : state_of rows' ≡ outcome.state
  pub keeps : Keeps rows rows'
  pub items : journal'.items ≡ journal.items ++ entry_of caller asked outcome.reply ∷ []
  pub capacity : vec_capacity journal' ≡ vec_capacity journal
  pub next_want : outcome.state.next_want ≤ rows.next_want + 1
  pub next_conn : outcome.state.next_conn ≤ rows.next_conn + 1
  pub next_stamp : outcome.state.next_stamp ≤ rows.next_stamp + 1
  pub enough : length journal.items + 1 + room outcome.state ≤ rows.limits.journal

-- the rows need no more room than there is
pub has_room : {C : Type 0} (rows : Rows C) (journal : Vec Entry Global) → Holds rows journal → HasRoom rows
has_room rows journal h =
    let fit = rows_fit rows.limits journal.items h.legal h.passes h.callers in record {
      wants = omega (arith, ap (λ t. length t.wants) h.state, fit.wants, h.wants);
      dials = omega (arith, ap (λ t. length t.dials) h.state, fit.dials, h.dials);
      conns = omega (arith, ap (λ t. length t.conns) h.state, fit.conns, h.conns);
    }

pub stepped : {C : Type 0} (rows rows' : Rows C) (journal journal' : Vec Entry Global) (caller : ℕ) (asked : Call) (outcome : Outcome) (answer : Reply) → Holds rows journal → step rows.limits (state_of rows) caller asked ≡ Some outcome → state_of rows' ≡ outcome.state → Keeps rows rows' → answer ≡ outcome.reply → journal'.items ≡ journal.items ++ entry_of caller asked answer ∷ [] → vec_capacity journal' ≡ vec_capacity journal → Goes (state_of rows) outcome.state 0 1 → Stepped rows rows' journal journal' caller asked outcome
stepped rows rows' journal journal' caller asked outcome answer h f s k r i v g = record {
  fits = f;
  state = s;
  keeps = k;
  items = i ∙ ap (λ a. journal.items ++ entry_of caller asked a ∷ []) r;
  capacity = v;
  next_want = g.next_want;
  next_conn = g.next_conn;
  next_stamp = g.next_stamp;
  enough = omega (arith, g.room, h.fits);
}

pub stepped_want : {C : Type 0} (rows rows' : Rows C) (journal journal' : Vec Entry Global) (caller : ℕ) (asked : Call) (outcome : Outcome) (answer : Reply) → Holds rows journal → step rows.limits (state_of rows) caller asked ≡ Some outcome → state_of rows' ≡ outcome.state → Keeps rows rows' → answer ≡ outcome.reply → journal'.items ≡ journal.items ++ entry_of caller asked answer ∷ [] → vec_capacity journal' ≡ vec_capacity journal → Goes (state_of rows) outcome.state 5 0 → length journal.items + room (state_of rows) + 6 ≤ rows.limits.journal → Stepped rows rows' journal journal' caller asked outcome
stepped_want rows rows' journal journal' caller asked outcome answer h f s k r i v g enough = record {
  fits = f;
  state = s;
  keeps = k;
  items = i ∙ ap (λ a. journal.items ++ entry_of caller asked a ∷ []) r;
  capacity = v;
  next_want = g.next_want;
  next_conn = g.next_conn;
  next_stamp = g.next_stamp;
  enough = omega (arith, g.room, enough);
}

fits_after : {C : Type 0} (rows : Rows C) (journal : Vec Entry Global) (caller : ℕ) (asked : Call) (outcome : Outcome) → Holds rows journal → step rows.limits (state_of rows) caller asked ≡ Some outcome → step rows.limits (after rows.limits journal.items) caller asked ≡ Some outcome
fits_after rows journal caller asked outcome h f = rw (← h.state) f

pub holds_then : {C : Type 0} (rows rows' : Rows C) (journal journal' : Vec Entry Global) (caller : ℕ) (asked : Call) (outcome : Outcome) → Holds rows journal → (names_row asked ≡ true) ⊎ (caller < rows.limits.passes) → Stepped rows rows' journal journal' caller asked outcome → Holds rows' journal'
holds_then rows rows' journal journal' caller asked outcome h named s =
    let at = fits_after rows journal caller asked outcome h s.fits in
    let below = caller_below rows.limits journal.items caller asked outcome h.legal h.passes h.callers at named in
    let m = made rows.limits journal.items caller asked outcome h.legal (fits_after rows journal caller asked outcome h s.fits) in
    let len : length journal'.items ≡ length journal.items + 1 = ap (λ l. length l) s.items ∙ length-append journal.items (entry_of caller asked outcome.reply ∷ []) in
    let nw : rows'.next_want ≡ outcome.state.next_want = ap (λ t. t.next_want) s.state in
    let nc : rows'.next_conn ≡ outcome.state.next_conn = ap (λ t. t.next_conn) s.state in
    let ns : rows'.next_stamp ≡ outcome.state.next_stamp = ap (λ t. t.next_stamp) s.state in
    let rm : room (state_of rows') ≡ room outcome.state = ap (λ t. room t) s.state in
    let lj : rows'.limits.journal ≡ rows.limits.journal = ap (λ l. l.journal) s.keeps.limits in
    record {
      state = rw (s.keeps.limits, s.items) (s.state ∙ m.state);
      legal = rw (s.keeps.limits, s.items) m.legal;
      fits = omega (arith, len, rm, lj, s.enough);
      small = omega (arith, lj, h.small);
      passes = rw s.keeps.limits h.passes;
      callers = rw (s.keeps.limits, s.items) (All-push (λ entry. entry.caller < rows.limits.passes) journal.items (entry_of caller asked outcome.reply) h.callers below);
      wants = rw (s.keeps.limits, s.keeps.wants) h.wants;
      dials = rw (s.keeps.limits, s.keeps.dials) h.dials;
      conns = rw (s.keeps.limits, s.keeps.conns) h.conns;
      entries = omega (arith, lj, s.capacity, h.entries);
      next_want = omega (arith, len, nw, s.next_want, h.next_want);
      next_conn = omega (arith, len, nc, s.next_conn, h.next_conn);
      next_stamp = omega (arith, len, ns, s.next_stamp, h.next_stamp);
    }

pub enters_then : {C : Type 0} (rows rows' : Rows C) (journal journal' : Vec Entry Global) (caller : ℕ) (asked : Call) (outcome : Outcome) → Holds rows journal → Stepped rows rows' journal journal' caller asked outcome → Enters (view_of rows journal) (view_of rows' journal') caller asked outcome
enters_then rows rows' journal journal' caller asked outcome h s =
    let m = made rows.limits journal.items caller asked outcome h.legal (fits_after rows journal caller asked outcome h s.fits) in
    record {
      limits = s.keeps.limits;
      fits = fits_after rows journal caller asked outcome h s.fits;
      journal = s.items;
      legal = rw (s.keeps.limits, s.items) m.legal;
      taken = s.keeps.taken;
    }
