-- The beginning of a body, over plain variables.
use Rattle.std.proofs.Common.{ℕ, ◌≡◌, ◌<◌, ◌≤◌, List, [], ◌++◌, length, false, Option, ap, sym, subst, ◌∙◌, append-nil, append_assoc}
use Rattle.std.proofs.lemmas.List.{nil_from_length}
use Rattle.gw_wire.specs.declared.values.Act.{Act}
use Rattle.gw_wire.specs.Link.{LinkView, LinkLater}
use Rattle.gw_wire.specs.Stretch.{Then}
use Rattle.gw_wire.specs.Wire.{WireView}
use Rattle.gw_wire.proofs.Facts.{link_then}
use Rattle.gw_chunk.specs.Chunked.{piece_limit}
use Rattle.gw_body.specs.declared.place.Place.{Place}
use Rattle.gw_account.specs.Work.{Bill, free}
use Rattle.gw_account.proofs.Facts.{free_both}
use Rattle.gw_stream.specs.declared.beginning.Began.TheVariants as began
use Rattle.gw_stream.specs.declared.drawing.Pull.{Pull}
use Rattle.gw_stream.specs.declared.drawing.Pull.TheVariants as pulled
use Rattle.gw_stream.specs.declared.waits.Loss.{Loss}
use Rattle.gw_stream.specs.Beginning.{FirstStep}
use Rattle.gw_stream.specs.Drawing.{Draws, Pulled}
use Rattle.gw_stream.specs.Filling.{FillStep, Passing, passing}
use Rattle.gw_stream.specs.Guard.{GuardView}
use Rattle.gw_stream.specs.Outbox.{OutView, HasRoom}
use Rattle.gw_stream.specs.Relaying.{Comes, came_bill}
use Rattle.gw_stream.specs.Waits.{Side, side, LossCause, Waited}
use Rattle.gw_stream.proofs.ComesLemmas.{GoesOn, bill_of, came_of, comes_of, comes_then, draws_none, draws_of, draws_then}
use Rattle.gw_stream.proofs.RelayCauses.{goes_same, goes_waited, loss_within}
use Rattle.gw_stream.proofs.LinkLemmas.{waited_map, waited_same, waited_then}

-- so far this data came
pub record Filling (old new : Side) (link : ℕ) (before now : Passing) : Type 0 where
  pub given : List ℕ
  pub out : now.out ≡ record before.out { begun = before.out.begun ++ given }
  pub waited : Waited old new free (Draws link before.place before.ahead given now.place now.ahead)

pub filling_begins : (w : WireView) (g : GuardView) (link : ℕ) (at : Place) (ahead : List ℕ) (out : OutView) → w.aged ≡ false → g.last ≤ w.moment
    → Filling (side w g) (side w g) link (passing at ahead out) (passing at ahead out)
filling_begins w g link at ahead out fresh le = record {
  given = [];
  out = λ i. record out { begun = sym (append-nil out.begun) i };
  waited = waited_map (waited_same w g fresh le) (λ l none. subst (λ (m : List Act). Draws link at ahead [] at ahead m) (sym none) (draws_none link at ahead));
}

out_more : (before out after : OutView) (given more : List ℕ) → out ≡ record before { begun = before.begun ++ given }
    → after ≡ record out { begun = out.begun ++ more } → after ≡ record before { begun = before.begun ++ (given ++ more) }
out_more before out after given more is next =
    next ∙ ap (λ (o : OutView). record o { begun = o.begun ++ more }) is
    ∙ ap (λ l. record before { begun = l }) (append_assoc before.begun given more)

room_kept : (out after : OutView) (more : List ℕ) → after ≡ record out { begun = out.begun ++ more } → HasRoom out → HasRoom after
room_kept out after more is room = subst HasRoom (sym is) room

-- one more pull, whatever it gave
filled_by : (a b c : Side) (k link : ℕ) (before : Passing) (at next : Place) (ahead left : List ℕ) (out after : OutView) (silence : Option ℕ) (p : Pull) → link ≡ k
    → (r : Filling a b k before (passing at ahead out)) → (f : FillStep b c link (passing at ahead out) (passing next left after) silence p)
    → Waited a c (came_bill silence (came_of p)) (Then (Draws k before.place before.ahead r.given at ahead) (Pulled k at ahead next left f.given p))
filled_by a b c k link before at next ahead left out after silence p same r f =
    let D = Draws k before.place before.ahead r.given at ahead in
    let F : Waited b c (came_bill silence (came_of p)) (Pulled k at ahead next left f.given p) =
    subst (λ (n : ℕ). Waited b c (came_bill silence (came_of p)) (Pulled n at ahead next left f.given p)) same
    (subst (λ (u : Bill). Waited b c u (Pulled link at ahead next left f.given p)) (bill_of silence p) f.waited)
    in
    subst (λ (u : Bill). Waited a c u (Then D (Pulled k at ahead next left f.given p))) (free_both (came_bill silence (came_of p))) (waited_then r.waited F)

pub filling_more : (a b c : Side) (from mid to : LinkView) (before : Passing) (at next : Place) (ahead left : List ℕ) (out after : OutView) (silence : Option ℕ) (p : Pull)
    → LinkLater from mid → LinkLater mid to → GoesOn p → HasRoom out → Filling a b from.number before (passing at ahead out)
    → FillStep b c mid.number (passing at ahead out) (passing next left after) silence p
    → Filling a c from.number before (passing next left after) × HasRoom after × LinkLater from to
filling_more a b c from mid to before at next ahead left out after silence p later on_link on room r f =
    let k = from.number in
    let D = Draws k before.place before.ahead (r.given ++ f.given) next left in
    let all = filled_by a b c k mid.number before at next ahead left out after silence p later.number r f in
    let drawn = waited_map all (λ l t. subst D (sym t.2)
    (draws_then k before.place at next before.ahead ahead left r.given f.given t.0 t.1 t.3 (draws_of k at next ahead left f.given p t.1 f.count on t.4))) in (
      record {
        given = r.given ++ f.given;
        out = out_more before.out out after r.given f.given r.out f.out;
        waited = subst (λ (u : Bill). Waited a c u D) (ap (came_bill silence) on) drawn;
      },
      room_kept out after f.given f.out room,
      link_then from mid to later on_link,
    )

-- ---- how it ends

pub first_whole_piece : (a b : Side) (k : ℕ) (before : Passing) (at : Place) (ahead : List ℕ) (out : OutView) (silence : Option ℕ) → length out.begun ≡ piece_limit
    → Filling a b k before (passing at ahead out) → FirstStep a b k before (passing at ahead out) silence began.Piece
first_whole_piece a b k before at ahead out silence long r = record { given = r.given; out = r.out; begun = long; waited = r.waited }

pub first_spent : (a b : Side) (k : ℕ) (before : Passing) (at : Place) (ahead : List ℕ) (out : OutView) (silence : Option ℕ)
    → Filling a b k before (passing at ahead out) → FirstStep a b k before (passing at ahead out) silence began.Spent
first_spent a b k before at ahead out silence r = record { given = r.given; out = r.out; begun = tt; waited = r.waited }

-- no data came with the last pull
still_less : (out after : OutView) (more : List ℕ) → length more ≡ 0 → after ≡ record out { begun = out.begun ++ more } → length out.begun < piece_limit
    → length after.begun < piece_limit
still_less out after more none is less =
    let same : after.begun ≡ out.begun = ap (λ (o : OutView). o.begun) is ∙ ap (λ l. out.begun ++ l) (nil_from_length more none) ∙ append-nil out.begun in
    rw same less

last_comes : (a b c : Side) (from mid : LinkView) (before : Passing) (at next : Place) (ahead left : List ℕ) (out after : OutView) (silence : Option ℕ) (p : Pull)
    → LinkLater from mid → (r : Filling a b from.number before (passing at ahead out))
    → (f : FillStep b c mid.number (passing at ahead out) (passing next left after) silence p)
    → Waited a c (came_bill silence (came_of p)) (Comes from.number before.place before.ahead (r.given ++ f.given) next left (came_of p))
last_comes a b c from mid before at next ahead left out after silence p later r f =
    let k = from.number in
    let C = Comes k before.place before.ahead (r.given ++ f.given) next left (came_of p) in
    waited_map (filled_by a b c k mid.number before at next ahead left out after silence p later.number r f) (λ l t. subst C (sym t.2)
    (comes_then k before.place at next before.ahead ahead left r.given f.given (came_of p) t.0 t.1 t.3 (comes_of k at next ahead left f.given p t.1 f.count t.4)))

pub first_done : (a b c : Side) (from mid : LinkView) (before : Passing) (at next : Place) (ahead left : List ℕ) (out after : OutView) (silence : Option ℕ)
    → LinkLater from mid → length out.begun < piece_limit → Filling a b from.number before (passing at ahead out)
    → FillStep b c mid.number (passing at ahead out) (passing next left after) silence pulled.Done
    → FirstStep a c from.number before (passing next left after) silence began.Whole
first_done a b c from mid before at next ahead left out after silence later less r f = record {
  given = r.given ++ f.given;
  out = out_more before.out out after r.given f.given r.out f.out;
  begun = still_less out after f.given f.count f.out less;
  waited = last_comes a b c from mid before at next ahead left out after silence pulled.Done later r f;
}

pub first_bad : (a b c : Side) (from mid : LinkView) (before : Passing) (at next : Place) (ahead left : List ℕ) (out after : OutView) (silence : Option ℕ) (error : _)
    → LinkLater from mid → length out.begun < piece_limit → Filling a b from.number before (passing at ahead out)
    → FillStep b c mid.number (passing at ahead out) (passing next left after) silence (pulled.Bad error)
    → FirstStep a c from.number before (passing next left after) silence (began.Bad error)
first_bad a b c from mid before at next ahead left out after silence error later less r f = record {
  given = r.given ++ f.given;
  out = out_more before.out out after r.given f.given r.out f.out;
  begun = still_less out after f.given f.count f.out less;
  waited = last_comes a b c from mid before at next ahead left out after silence (pulled.Bad error) later r f;
}

pub first_lost : (a b c : Side) (from mid : LinkView) (before : Passing) (at next : Place) (ahead left : List ℕ) (out after : OutView) (silence : Option ℕ) (why : Loss)
    → LinkLater from mid → length out.begun < piece_limit → Filling a b from.number before (passing at ahead out)
    → FillStep b c mid.number (passing at ahead out) (passing next left after) silence (pulled.Lost why)
    → FirstStep a c from.number before (passing next left after) silence (began.Lost why)
first_lost a b c from mid before at next ahead left out after silence why later less r f = record {
  given = r.given ++ f.given;
  out = out_more before.out out after r.given f.given r.out f.out;
  begun = still_less out after f.given f.count f.out less;
  waited = last_comes a b c from mid before at next ahead left out after silence (pulled.Lost why) later r f;
}

pub first_cause : (a b c : Side) (from mid to : LinkView) (before now : Passing) (silence : Option ℕ) (why : Loss) → LinkLater from mid
    → Filling a b from.number before now → LossCause b c mid to silence why → LossCause a c from to silence why
first_cause a b c from mid to before now silence why later r cause =
    loss_within a b c c from mid to silence why (goes_waited r.waited) (goes_same c) later cause
