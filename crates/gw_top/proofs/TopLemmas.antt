-- The top call: its lines, its refusals, and the run that it reports, over plain variables.
use Rattle.std.proofs.Common.{◌≡◌, ℕ, inl, inr, true, false, List, [], ◌++◌, length, All, Bool, Option, Some, Ok, Err, refl, ap, sym, ◌∙◌, subst, arith}
use Rattle.std.specs.Prelude.{String}
use Rattle.std.specs.declared.alloc.Global.{Global}
use Rattle.gw_wire.specs.declared.traits.Printed.{Printed}
use Rattle.gw_wire.specs.declared.traits.Printed.TheVariants as printing
use Rattle.gw_wire.specs.declared.values.Addr.{Addr}
use Rattle.gw_wire.specs.Acts.{Logs}
use Rattle.gw_wire.specs.Causes.{Rose}
use Rattle.gw_wire.specs.Wire.{WireView}
use Rattle.gw_wire.specs.World.{WorldView, WorldLater, PrintStep, ListensNow, ListensAt}
use Rattle.gw_wire.proofs.Facts.{Logs-none, Logs-then}
use Rattle.gw_routes.specs.declared.table.Table.{Table}
use Rattle.gw_top.specs.declared.run.Report.{Report}
use Rattle.gw_top.specs.declared.worker.Worker.{Worker}
use Rattle.gw_top.specs.Command.{IsServe, name_of}
use Rattle.gw_top.specs.Lines.{unheard_line, memory_line, accept_line}
use Rattle.gw_top.specs.Load.{Prints, SaysTable, NoTable, Loads}
use Rattle.gw_top.specs.declared.run.Served.{Served}
use Rattle.gw_top.specs.Run.{Run}
use Rattle.gw_top.specs.Serving.{IsServed}
use Rattle.gw_top.specs.Status.{IsEmpty, Refuses, RefusesOr7, Finished, Serves, Ends, Ran, any_failed, line_of, status_of}
use Rattle.gw_top.proofs.ServingLemmas.{later_count, later_groups}

pub world_then : (a b c : WorldView) → WorldLater a b → WorldLater b c → WorldLater a c
world_then a b c p q = record {
  file_faults = let x = p.file_faults in let y = q.file_faults in omega arith;
  listen_faults = let x = p.listen_faults in let y = q.listen_faults in omega arith;
  print_faults = let x = p.print_faults in let y = q.print_faults in omega arith;
  groups = q.groups ∙ p.groups;
  files = q.files ∙ p.files;
}

-- lines
pub prints_then : (a b c : WorldView) (x y : List ℕ) → WorldLater a b → WorldLater b c → Prints a b x → Prints b c y → Prints a c (x ++ y)
prints_then a b c x y p q (inl r) s = inl (let l = q.print_faults in omega arith)
prints_then a b c x y p q (inr r) (inl s) = inl (let l = p.print_faults in omega arith)
prints_then a b c x y p q (inr r) (inr s) = inr (Logs-then a.printed b.printed c.printed x y r s)

pub prints_quiet : (a b c : WorldView) (y : List ℕ) → WorldLater a b → WorldLater b c → Logs a.printed b.printed [] → Prints b c y → Prints a c y
prints_quiet a b c y p q r s = prints_then a b c [] y p q (inr r) s

pub printed_by : (old new : WorldView) (bytes : List ℕ) (result : Printed) → PrintStep old new bytes result → Prints old new bytes
printed_by old new bytes printing.Done s = inr s.cause
printed_by old new bytes printing.Failed s = inl s.cause.0

-- a refusal behind calls that printed nothing, or behind the front of its line
pub refuses_behind : {W : Type 0} (old mid new : WorldView) (status : ℕ) (line : List ℕ) (report : Report W) → WorldLater old mid → Logs old.printed mid.printed []
    → Refuses mid new status line report → Refuses old new status line report
refuses_behind old mid new status line report l p r = record {
  later = world_then old mid new l r.later;
  status_is = r.status_is;
  empty = r.empty;
  printed = prints_quiet old mid new line l r.later p r.printed;
}

pub refuses_with : {W : Type 0} (old mid new : WorldView) (status : ℕ) (front line : List ℕ) (report : Report W) → WorldLater old mid → Prints old mid front
    → Refuses mid new status line report → Refuses old new status (front ++ line) report
refuses_with old mid new status front line report l p r = record {
  later = world_then old mid new l r.later;
  status_is = r.status_is;
  empty = r.empty;
  printed = prints_then old mid new front line l r.later p r.printed;
}

-- the run behind a report
pub served : {W : Type 0} (wire : W → WireView) (old mid new : WorldView) (table : Table) (before : List (Worker W)) (result : Served W) (report : Report W)
    → WorldLater old mid → Logs old.printed mid.printed [] → ListensNow mid.listened table.listen table.workers → length before ≡ table.workers
    → All (λ (w : Worker W). (address : Addr) → (wire w.wire).groups address ≡ old.groups address) before
    → IsServed wire table before result → Finished mid new table result report → Serves wire old new table report
served {W} wire old mid new table before result report later quiet heard count groups s f =
    let workers : report.workers.items ≡ result.workers.items = ap (λ v. v.items) f.workers in
    let journal : report.journal.items ≡ result.journal.items = ap (λ v. v.items) f.journal in
    record {
      later = world_then old mid new later f.later;
      table_is = f.table_is;
      listened = subst (λ (l : Option (Option ListensAt)). ListensNow l table.listen table.workers) (sym f.listened) heard;
      status = rw workers f.status;
      printed = rw workers (prints_quiet old mid new (line_of (any_failed result.workers.items)) later f.later quiet f.printed);
      run = rw (workers, journal) (record {
        parts = s.parts;
        legal = s.legal;
        callers = s.callers;
        count = later_count wire before result.workers.items s.later ∙ count;
        each = s.each;
        groups_are = later_groups wire old.groups before result.workers.items s.later groups;
        stops = s.stops;
      });
    }

-- what workers that ended are reported as
pub ended_well : {W : Type 0} (world : WorldView) (table : Table) (result : Served W) (report : Report W) (failed : Bool) → failed ≡ any_failed result.workers.items → failed ≡ false
    → report.status ≡ 0 → report.table ≡ Some table → report.journal ≡ result.journal → report.workers ≡ result.workers → Finished world world table result report
ended_well world table result report failed any e s t j w =
    let good : any_failed result.workers.items ≡ false = sym any ∙ e in
    record {
      later = record { file_faults = omega arith; listen_faults = omega arith; print_faults = omega arith; groups = refl; files = refl };
      listened = refl;
      table_is = t;
      journal = j;
      workers = w;
      status = s ∙ sym (ap status_of good);
      printed = subst (λ (b : Bool). Prints world world (line_of b)) (sym good) (inr (Logs-none world.printed));
    }

pub ended_badly : {W : Type 0} (old new : WorldView) (table : Table) (result : Served W) (report : Report W) (failed : Bool) (line : Printed) → failed ≡ any_failed result.workers.items → failed ≡ true
    → PrintStep old new accept_line line
    → report.status ≡ 8 → report.table ≡ Some table → report.journal ≡ result.journal → report.workers ≡ result.workers → Finished old new table result report
ended_badly old new table result report failed line any e p s t j w =
    let bad : any_failed result.workers.items ≡ true = sym any ∙ e in
    record {
      later = p.later;
      listened = p.listened;
      table_is = t;
      journal = j;
      workers = w;
      status = s ∙ sym (ap status_of bad);
      printed = subst (λ (b : Bool). Prints old new (line_of b)) (sym bad) (printed_by old new accept_line line p);
    }

-- it could not be listened on the address
pub unheard_ends : {W : Type 0} (wire : W → WireView) (old mid new : WorldView) (table : Table) (report : Report W) → WorldLater old mid → Logs old.printed mid.printed []
    → Rose old.listen_faults mid.listen_faults → RefusesOr7 mid new 6 (unheard_line table.listen) report → Ends wire old new table report
unheard_ends wire old mid new table report l p r (inl x) =
    inr (inl (refuses_behind old mid new 6 (unheard_line table.listen) report l p x, (let m = x.later.listen_faults in omega arith)))
unheard_ends wire old mid new table report l p r (inr x) = inr (inr (refuses_behind old mid new 7 memory_line report l p x))

-- the same behind a call that printed nothing
serves_behind : {W : Type 0} (wire : W → WireView) (old mid new : WorldView) (table : Table) (report : Report W) → WorldLater old mid → Logs old.printed mid.printed []
    → Serves wire mid new table report → Serves wire old new table report
serves_behind wire old mid new table report l p s =
    let P : (Addr → List Addr) → Type 0 = λ groups. Run wire groups table report.journal.items report.workers.items in
    record {
      later = world_then old mid new l s.later;
      table_is = s.table_is;
      listened = s.listened;
      status = s.status;
      printed = prints_quiet old mid new (line_of (any_failed report.workers.items)) l s.later p s.printed;
      run = subst P l.groups s.run;
    }

ends_behind : {W : Type 0} (wire : W → WireView) (old mid new : WorldView) (table : Table) (report : Report W) → WorldLater old mid → Logs old.printed mid.printed []
    → Ends wire mid new table report → Ends wire old new table report
ends_behind wire old mid new table report l p (inl s) = inl (serves_behind wire old mid new table report l p s)
ends_behind wire old mid new table report l p (inr (inl r)) =
    inr (inl (refuses_behind old mid new 6 (unheard_line table.listen) report l p r.0, (let a = l.listen_faults in let b = r.1 in omega arith)))
ends_behind wire old mid new table report l p (inr (inr r)) = inr (inr (refuses_behind old mid new 7 memory_line report l p r))

-- how the top call ends
pub ran_stopped : {W : Type 0} (wire : W → WireView) (old new : WorldView) (words : List (String Global)) (name : List ℕ) (status : ℕ) (report : Report W) → IsServe words → name ≡ name_of words
    → Loads old new name (Err status) → report.status ≡ status → IsEmpty report → Ran wire old new words report
ran_stopped wire old new words name status report s n l same empty =
    let P : List ℕ → Type 0 = λ k. NoTable old new k status in
    let Q : ℕ → Type 0 = λ k. NoTable old new (name_of words) k in
    inr (s, inl (record { cause = subst Q (sym same) (subst P n l); empty = empty }))

pub ran_on : {W : Type 0} (wire : W → WireView) (old mid new : WorldView) (words : List (String Global)) (name : List ℕ) (table served : Table) (report : Report W)
    → IsServe words → name ≡ name_of words → Loads old mid name (Ok table) → served ≡ table → Ends wire mid new served report → Ran wire old new words report
ran_on wire old mid new words name table served report s n l same e =
    let P : List ℕ → Type 0 = λ k. SaysTable old k table in
    let Q : Table → Type 0 = λ t. Ends wire mid new t report in
    inr (s, inr (table, subst P n l.2, ends_behind wire old mid new table report l.0 l.1 (subst Q same e)))

pub ran_out : {W : Type 0} (wire : W → WireView) (old mid new : WorldView) (words : List (String Global)) (name : List ℕ) (table : Table) (report : Report W)
    → IsServe words → name ≡ name_of words → Loads old mid name (Ok table) → Refuses mid new 7 memory_line report → Ran wire old new words report
ran_out wire old mid new words name table report s n l r = ran_on wire old mid new words name table table report s n l refl (inr (inr r))
