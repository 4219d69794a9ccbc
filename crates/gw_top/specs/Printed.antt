-- What the commands that end print, and their statuses.
use Rattle.std.specs.Prelude.{ℕ, ◌≡◌, ◌-◌, ◌<◌, ◌⊎◌, List, [], ◌∷◌, ◌++◌, codes, decimal, drop, take, length, Option, Some, None, MatchOption, String}
use Rattle.std.specs.Borrow.{Bor}
use Rattle.std.specs.List.{slice_get}
use Rattle.std.specs.declared.alloc.Global.{Global}
use Rattle.gw_wire.specs.Acts.{Logs}
use Rattle.gw_wire.specs.Causes.{Rose}
use Rattle.gw_wire.specs.World.{WorldView, WorldLater}
use Rattle.gw_head.specs.Host.{host_without_port}
use Rattle.gw_head.specs.Pieces.{before}
use Rattle.gw_head.specs.Target.{query_of}
use Rattle.gw_pattern.specs.declared.form.Pattern.{Pattern}
use Rattle.gw_pattern.specs.declared.form.Seg.{Seg}
use Rattle.gw_pattern.specs.declared.form.Seg.TheVariants.{Literal, One, Rest, End}
use Rattle.gw_mux.specs.declared.answer.Decision.{Decision}
use Rattle.gw_mux.specs.declared.answer.Decision.TheVariants as decision
use Rattle.gw_mux.specs.Answer.{Decides}
use Rattle.gw_routes.specs.declared.table.Route.{Route}
use Rattle.gw_routes.specs.declared.table.Table.{Table}
use Rattle.gw_top.specs.Command.{Question, IsCheck, IsRoute, name_of, question_of}
use Rattle.gw_top.specs.Lines.{usage_line, memory_line}
use Rattle.gw_top.specs.Load.{Says, SaysTable, NoTable}
use Rattle.gw_top.specs.Methods.{listed}

-- the name of a wildcard; the one behind a slash at the pattern's end has none
abbrev pub name_in : Seg → Option (List ℕ)
name_in (Literal bytes) = None
name_in (One name) = Some name
name_in (Rest []) = None
name_in (Rest (b ∷ name)) = Some (b ∷ name)
name_in End = None

abbrev pub with_name : Option (List ℕ) → List (List ℕ) → List (List ℕ)
with_name None names = names
with_name (Some name) names = name ∷ names

-- the names of a pattern's wildcards, in their order
abbrev pub names_in : List Seg → List (List ℕ)
names_in [] = []
names_in (seg ∷ segs) = with_name (name_in seg) (names_in segs)

-- what stands in the path from the one place up to the other
abbrev pub part_of : List ℕ → ℕ × ℕ → List ℕ
part_of path span = take (span.1 - span.0) (drop span.0 path)

-- the slice is that
abbrev pub IsName : Option (List ℕ) → Option (Bor (List ℕ)) → Type 0
IsName name slice = MatchOption slice (name ≡ None) (λ own. name ≡ Some own.now)

-- a line for each name, with what it took of the path
abbrev pub span_lines : List (List ℕ) → List (ℕ × ℕ) → List ℕ → List ℕ
span_lines [] spans path = []
span_lines (name ∷ names) [] path = []
span_lines (name ∷ names) (span ∷ spans) path = (name ++ (61 ∷ (part_of path span ++ 10 ∷ []))) ++ span_lines names spans path

-- how many routes a good file has
abbrev pub ok_line : ℕ → List ℕ
ok_line count = codes "ok: " ++ (decimal count ++ codes " routes\n")

-- a route with its number and its pattern's text
abbrev pub route_line : ℕ → List ℕ → List ℕ
route_line number text = codes "route " ++ (decimal number ++ (32 ∷ (text ++ 10 ∷ [])))

-- a route that was decided is one of the table's
abbrev pub IsNumbered : Table → Decision → Type 0
IsNumbered table (decision.Route hit) = (hit.route < length table.routes.items) × (hit.route < length table.mux)
IsNumbered table (decision.Redirect location) = Unit {0}
IsNumbered table (decision.NotAllowed methods) = Unit {0}
IsNumbered table decision.NotFound = Unit {0}

-- what is printed of a decision for a path
abbrev pub Tells : Table → List ℕ → Decision → List ℕ → Type 0
Tells table path (decision.Route hit) text =
    (r : Route) × (p : Pattern) × (slice_get table.routes.items hit.route ≡ Some r) × (slice_get table.mux hit.route ≡ Some p)
    × (text ≡ route_line hit.route r.text ++ span_lines (names_in p.segs.items) hit.spans path)
Tells table path (decision.Redirect location) text = text ≡ codes "redirect " ++ (location.items ++ 10 ∷ [])
Tells table path (decision.NotAllowed methods) text = text ≡ codes "not allowed " ++ (listed methods.items ++ 10 ∷ [])
Tells table path decision.NotFound text = text ≡ codes "not found\n"

-- what a table's router decides for a question
abbrev pub IsDecidedFor : Table → Question → Decision → Type 0
IsDecidedFor table q found = Decides table.mux q.method (host_without_port q.host) (before 63 q.path) (query_of q.path) found

-- the answer to a question
pub record AnswersQuestion (table : Table) (q : Question) (text : List ℕ) : Type 0 where
  pub found : Decision
  pub decided : IsDecidedFor table q found
  pub tells : Tells table (before 63 q.path) found text

-- a text was printed whole (0), or a print failed (9)
pub record Prints (old new : WorldView) (text : List ℕ) (status : ℕ) : Type 0 where
  pub later : WorldLater old new
  pub does : ((status ≡ 0) × Logs old.printed new.printed text) ⊎ ((status ≡ 9) × Rose old.print_faults new.print_faults)

-- the same, or want of memory (7)
abbrev pub PrintsOr7 : WorldView → WorldView → (List ℕ → Type 0) → ℕ → Type 0
PrintsOr7 old new IsText status =
    ((text : List ℕ) × IsText text × Prints old new text status) ⊎ ((status ≡ 7) × Says old new memory_line)

-- what a command does whose words name a route file: there is no table (3, 4, 5 or 7), or its text is printed
abbrev pub Inspects : WorldView → WorldView → List ℕ → (Table → List ℕ → Type 0) → ℕ → Type 0
Inspects old new name IsText status =
    NoTable old new name status
    ⊎ ((table : Table) × SaysTable old name table × PrintsOr7 old new (IsText table) status)

abbrev pub IsOk : Table → List ℕ → Type 0
IsOk table text = text ≡ ok_line (length table.routes.items)

abbrev pub IsAnswerTo : Question → Table → List ℕ → Type 0
IsAnswerTo q table text = AnswersQuestion table q text

-- How `check` and `route` end, exactly. The words are no command's form: status 2. Else the route file is read, and what
-- it says is printed.
abbrev pub Inspected : WorldView → WorldView → List (String Global) → ℕ → Type 0
Inspected old new words status =
    (IsCheck words × Inspects old new (name_of words) IsOk status)
    ⊎ ((IsRoute words × Inspects old new (name_of words) (IsAnswerTo (question_of words)) status)
    ⊎ ((IsCheck words → ⊥) × (IsRoute words → ⊥) × (status ≡ 2) × Says old new usage_line))
