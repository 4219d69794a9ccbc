-- Laws of runs and of what stands behind a shut gate, over plain variables.
use Rattle.std.proofs.Common.{ℕ, ◌≡◌, ◌<◌, ◌+◌, ◌==◌, true, List, [], ◌∷◌, ◌++◌, length, cond, Option, Some, None, refl, ap, sym, subst, ◌∙◌, arith}
use Rattle.std.proofs.lemmas.Bool.{eq-eqb}
use Rattle.std.proofs.lemmas.List.Elements.{All-cons, All-head, All-nil, All-tail}
use Rattle.gw_wire.specs.Wire.{WireView}
use Rattle.gw_pool.specs.declared.entry.Entry.{Entry}
use Rattle.gw_pool.specs.History.{AreBelow, mine}
use Rattle.gw_account.specs.Work.{At, Work, and}
use Rattle.gw_routes.specs.declared.table.Table.{Table}
use Rattle.gw_session.specs.declared.end.Ended.{Ended}
use Rattle.gw_session.specs.Session.{Behind, Serves, begun_in}
use Rattle.gw_session.specs.Stand.{Spot}
use Rattle.gw_session.specs.Turn.{Turn, Turned, begun_of, turn_next}
use Rattle.gw_top.specs.declared.worker.Worker.{Worker}
use Rattle.gw_top.specs.Laws.{IsOneWorkers, OneWorkerMakesTheJournal, UnbegunTakeNothing}
use Rattle.gw_top.specs.Run.{AllRun, Part, closes_of}

-- ---- one worker

-- all entries are caller 0's
only_one : (l : List Entry) → AreBelow 1 l → mine l 0 ≡ l
only_one [] below = refl
only_one (e ∷ l) below =
    let first : (e.caller == 0) ≡ true = eq-eqb e.caller 0 (let lt = All-head (λ (x : Entry). x.caller < 1) e l below in omega arith) in
    let rest = only_one l (All-tail (λ (x : Entry). x.caller < 1) e l below) in
    ap (λ b. cond b (e ∷ mine l 0) (mine l 0)) first ∙ ap (λ t. e ∷ t) rest

front_below : (xs ys : List Entry) → AreBelow 1 (xs ++ ys) → AreBelow 1 xs
front_below [] ys below = All-nil (λ (x : Entry). x.caller < 1)
front_below (e ∷ xs) ys below =
    All-cons (λ (x : Entry). x.caller < 1) e xs (All-head (λ (x : Entry). x.caller < 1) e (xs ++ ys) below) (front_below xs ys (All-tail (λ (x : Entry). x.caller < 1) e (xs ++ ys) below))

its_journal : {W : Type 0} (wire : W → WireView) (table : Table) (journal : List Entry) (workers : List (Worker W)) (parts : List Part) → length workers ≡ 1 → AreBelow 1 journal
    → AllRun wire table journal (closes_of table.limits journal) 0 workers parts → IsOneWorkers wire table journal workers
its_journal wire table journal [] parts count below all = absurd (omega (arith, count))
its_journal wire table journal (w ∷ v ∷ ws) parts count below all = absurd (omega (arith, count))
its_journal wire table journal (w ∷ []) [] count below all = absurd all
its_journal wire table journal (w ∷ []) (p ∷ ps) count below all =
    let r = all.0 in
    let made : List Entry = r.work.made in
    let front : AreBelow 1 made = front_below made r.begins.0 (subst (λ (l : List Entry). AreBelow 1 l) (sym r.begins.1) below) in
    record {
      worker = w;
      part = p;
      work = r.work;
      only = refl;
      worked = r.worked;
      all = sym (only_one journal below) ∙ r.own ∙ only_one made front;
    }

pub one_worker : {W : Type 0} (wire : W → WireView) → OneWorkerMakesTheJournal wire
one_worker wire groups table journal workers run one passes =
    its_journal wire table journal workers run.parts (run.count ∙ one) (subst (λ (n : ℕ). AreBelow n journal) passes run.callers) run.each

-- ---- behind a shut gate

turned_none : (p : Spot) (kept left : List ℕ) (turn : Turn) (a : At) (w : Work) → Turned p kept left turn a w → begun_of turn ≡ 0 → w.made ≡ []
turned_none p kept left (Turn.Missed why) a w s e = s.2.0
turned_none p kept left Turn.Refused a w s e = s.1.0
turned_none p kept left (Turn.Parted why) a w s e = absurd (omega (arith, e))
turned_none p kept left Turn.Unkept a w s e = absurd (omega (arith, e))
turned_none p kept left (Turn.Faulty error said) a w s e = absurd (omega (arith, e))
turned_none p kept left (Turn.Heard text head deed) a w s e = absurd (omega (arith, e))

behind_none : (o : Option Ended) (result : Ended) (turns : List Turn) (P : At → Work → Type 0) (a : At) (w : Work) → ((c : At) (v : Work) → P c v → v.made ≡ []) → Behind o P result turns a w → w.made ≡ []
behind_none None result turns P a w f k = f a w k
behind_none (Some e) result turns P a w f k = ap (λ (v : Work). v.made) k.2

both_none : (w u v : Work) → w ≡ and u v → u.made ≡ [] → v.made ≡ [] → w.made ≡ []
both_none w u v is p q = ap (λ (x : Work). x.made) is ∙ ap (λ l. l ++ v.made) p ∙ q

serves_none : (at : ℕ → Spot) (n : ℕ) (kept : List ℕ) (result : Ended) (turns : List Turn) (a : At) (w : Work) → Serves at n kept result turns a w → begun_in turns ≡ 0 → w.made ≡ []
serves_none at n kept result [] a w s e = ap (λ (v : Work). v.made) s.1
serves_none at n kept result (t ∷ ts) a w s e =
    both_none w s.1.0 s.1.1 s.1.2 (turned_none (at n) kept s.0 t a s.1.0 s.1.3 (omega (arith, e)))
    (behind_none (turn_next (at n) t) result ts (Serves at (n + 1) s.0 result ts) _ s.1.1 (λ c v r. serves_none at (n + 1) s.0 result ts c v r (omega (arith, e))) s.1.4)

pub unbegun : UnbegunTakeNothing
unbegun client at result turns a w s e = both_none w s.0 s.1 s.2 (serves_none at 1 [] result turns a s.0 s.3 e) s.4.0
