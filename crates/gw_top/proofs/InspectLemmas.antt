-- The commands that print and end, over plain variables.
use Rattle.std.proofs.Common.{◌≡◌, ℕ, inl, inr, List, [], ◌∷◌, ◌++◌, codes, decimal, Option, Some, None, Result, Ok, Err, refl, ap, sym, ◌∙◌, subst, arith, append_assoc}
use Rattle.std.specs.Borrow.{Bor}
use Rattle.std.specs.Prelude.{IfOk, String}
use Rattle.std.specs.declared.alloc.Global.{Global}
use Rattle.gw_wire.specs.Acts.{Logs}
use Rattle.gw_wire.specs.World.{WorldView, WorldLater}
use Rattle.gw_wire.proofs.Facts.{Logs-then}
use Rattle.gw_head.specs.Host.{host_without_port}
use Rattle.gw_head.specs.Pieces.{before}
use Rattle.gw_head.specs.Target.{IsQuery, query_of}
use Rattle.gw_mux.specs.declared.answer.Decision.{Decision}
use Rattle.gw_mux.specs.Answer.{Decides}
use Rattle.gw_sets.specs.Comparison.{bytes_of}
use Rattle.gw_routes.specs.declared.table.Table.{Table}
use Rattle.gw_top.specs.declared.command.Query.{Query}
use Rattle.gw_top.specs.Command.{Question, Asks, question_of}
use Rattle.gw_top.specs.Load.{SaysTable, NoTable, Loads}
use Rattle.gw_top.specs.Printed.{PrintsOr7, Inspects, Tells, AnswersQuestion, route_line}
use Rattle.gw_top.proofs.TopLemmas.{world_then}
use Rattle.gw_top.proofs.LoadLemmas.{says_behind}

-- a text behind a call that printed nothing
prints_behind : (old mid new : WorldView) (IsText : List ℕ → Type 0) (status : ℕ) → WorldLater old mid → Logs old.printed mid.printed []
    → PrintsOr7 mid new IsText status → PrintsOr7 old new IsText status
prints_behind old mid new IsText status l p (inl t) =
    inl (
      t.0,
      t.1,
      record {
        later = world_then old mid new l t.2.later;
        does = elim t.2.does [
          | inl d ↦ inl (d.0, Logs-then old.printed mid.printed new.printed [] t.0 p d.1)
          | inr d ↦ inr (d.0, (let a = l.print_faults in let b = d.1 in omega arith))
        ];
      },
    )
prints_behind old mid new IsText status l p (inr t) = inr (t.0, says_behind old mid new _ l p t.1)

pub inspects_table : (old mid new : WorldView) (name other : List ℕ) (IsText : Table → List ℕ → Type 0) (table : Table) (status : ℕ)
    → name ≡ other → Loads old mid name (Ok table) → PrintsOr7 mid new (IsText table) status → Inspects old new other IsText status
inspects_table old mid new name other IsText table status same l p =
    let P : List ℕ → Type 0 = λ k. SaysTable old k table in
    inr (table, subst P same l.2, prints_behind old mid new (IsText table) status l.0 l.1 p)

pub inspects_none : (old new : WorldView) (name other : List ℕ) (IsText : Table → List ℕ → Type 0) (status : ℕ)
    → name ≡ other → Loads old new name (Err status) → Inspects old new other IsText status
inspects_none old new name other IsText status same l = let P : List ℕ → Type 0 = λ k. NoTable old new k status in inl (subst P same l)

-- what the words ask
pub question_is : (words : List (String Global)) (query : Query) → Asks words query
    → record { method = query.method.now; host = query.host.now; path = query.path.now } ≡ question_of words
question_is words query a = rw (a.method, a.host, a.path) refl

-- the router was asked that
query_is : (resource : List ℕ) (slice : Option (Bor (List ℕ))) → IsQuery resource slice → bytes_of slice ≡ query_of resource
query_is resource None q = sym q
query_is resource (Some s) q = sym q

pub answered : (table : Table) (q : Question) (host path : List ℕ) (slice : Option (Bor (List ℕ))) (found : Decision) (text : List ℕ)
    → host ≡ host_without_port q.host → path ≡ before 63 q.path → IsQuery q.path slice
    → Decides table.mux q.method host path (bytes_of slice) found → Tells table path found text → AnswersQuestion table q text
answered table q host path slice found text h p s d t =
    let A : List ℕ → Type 0 = λ x. Decides table.mux q.method x (before 63 q.path) (query_of q.path) found in
    let B : List ℕ → Type 0 = λ x. Decides table.mux q.method host x (query_of q.path) found in
    let C : Option (List ℕ) → Type 0 = λ x. Decides table.mux q.method host path x found in
    let T : List ℕ → Type 0 = λ x. Tells table x found text in
    record { found = found; decided = subst A h (subst B p (subst C (query_is q.path slice s) d)); tells = subst T p t }

-- the line of a route
pub route_text : (number : ℕ) (text front with_text line : List ℕ) → front ≡ codes "route " ++ (decimal number ++ codes " ") → with_text ≡ front ++ text
    → line ≡ with_text ++ 10 ∷ [] → line ≡ route_line number text
route_text number text front with_text line f w l =
    let D = decimal number in
    l ∙ ap (λ a. a ++ 10 ∷ []) (w ∙ ap (λ a. a ++ text) f)
    ∙ ap (λ a. codes "route " ++ a) (append_assoc (D ++ 32 ∷ []) text (10 ∷ []) ∙ append_assoc D (32 ∷ []) (text ++ 10 ∷ []))

-- what an Ok has
pub if_ok : {A E : Type 0} (r : Result A E) (P Q : A → Type 0) → ((x : A) → P x → Q x) → IfOk r P → IfOk r Q
if_ok (Ok x) P Q f p = f x p
if_ok (Err e) P Q f p = tt
