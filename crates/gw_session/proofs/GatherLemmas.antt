-- Steps of a body that is read whole, over plain variables.
use Rattle.std.proofs.Common.{ℕ, zero, suc, ◌≡◌, Bool, ◌&&◌, true, false, List, [], ◌∷◌, ◌++◌, length, Some, None, refl, ap, sym, subst, ◌∙◌, arith, inl, inr, append-nil}
use Rattle.std.specs.Prelude.{nat_lt}
use Rattle.std.proofs.lemmas.Bool.{eqb-true, lt-ltb}
use Rattle.std.proofs.lemmas.List.{nil_from_length}
use Rattle.std.proofs.lemmas.List.Elements.{All-nil}
use Rattle.gw_wire.specs.declared.values.Act.{Act}
use Rattle.gw_wire.specs.Link.{LinkView, LinkLater}
use Rattle.gw_wire.specs.Stretch.{Then}
use Rattle.gw_wire.specs.Wire.{WireView}
use Rattle.gw_wire.proofs.Facts.{link_same, link_then}
use Rattle.gw_chunk.specs.declared.error.ChunkError.{ChunkError}
use Rattle.gw_chunk.specs.declared.position.Position.{Position}
use Rattle.gw_chunk.specs.declared.position.Position.TheVariants.{Ended}
use Rattle.gw_chunk.specs.Position.{after, is_undecided, Has}
use Rattle.gw_head.specs.declared.framing.Framing.{Framing}
use Rattle.gw_head.specs.declared.framing.Framing.TheVariants.{None as NoBody, Length, Chunked as InChunks, ToEnd as ToLinkEnd}
use Rattle.gw_head.specs.declared.request.RequestHead.{RequestHead}
use Rattle.gw_body.specs.declared.place.Place.{Place}
use Rattle.gw_body.specs.declared.place.Place.TheVariants.{Counted, Chunked, ToEnd, Refused}
use Rattle.gw_body.specs.Places.{begins, ended, is_done, is_inside, FailsBody, HasBody}
use Rattle.gw_body.proofs.Facts.{takes_then}
use Rattle.gw_account.specs.Did.{Went}
use Rattle.gw_account.specs.Work.{Bill, Work, At, Only, Seq, both, free}
use Rattle.gw_account.proofs.Facts.{free_both, went_map, went_nothing, went_then}
use Rattle.gw_stream.specs.declared.drawing.Pull.TheVariants as pulled
use Rattle.gw_stream.specs.declared.relaying.Incoming.{Incoming}
use Rattle.gw_stream.specs.declared.waits.Loss.{Loss}
use Rattle.gw_stream.specs.declared.waits.Sent.{Sent}
use Rattle.gw_stream.specs.declared.waits.Sent.TheVariants as sent
use Rattle.gw_stream.specs.Drawing.{Completes, Draws, Loses, Pulled}
use Rattle.gw_stream.specs.Relaying.{Came}
use Rattle.gw_stream.specs.Waits.{Side, side, IsWriteOf, LossCause, Waited, loss_bill}
use Rattle.gw_stream.specs.Waits as waits
use Rattle.gw_stream.proofs.Facts.{draws_none, draws_then, waited_map, waited_same, waited_then}
use Rattle.gw_transport.specs.Sending.{IsKept}
use Rattle.gw_transport.specs.Uploading.{continue_of}
use Rattle.gw_session.specs.declared.gathering.Held.{Held}
use Rattle.gw_session.specs.declared.gathering.Held.TheVariants as held
use Rattle.gw_session.specs.BodySteps.{BodyBy, BodyStep, GathersBy, GatherStep, IsCounted, IsWhole, body_next}
use Rattle.gw_session.specs.Ending.{has_body, lost_end}
use Rattle.gw_session.specs.Passing.{IsNotAll, Told, expects, wants_continue}
use Rattle.gw_session.specs.Replies.{Writes}
use Rattle.gw_session.specs.Stand.{EndCause, Line, line}
use Rattle.gw_session.specs.Steps.{WrittenStep}
use Rattle.gw_session.proofs.ComesLemmas.{comes_then}
use Rattle.gw_session.proofs.HearLemmas.{lost_cause, lost_client, patient}
use Rattle.gw_session.proofs.SayLemmas.{sent_cause}
use Rattle.gw_session.proofs.SeatLemmas.{end_before}

-- ---- a body of which so many bytes are left

open_end : (p : Position) (text : List ℕ) → is_undecided p ≡ true → [] ≡ text ++ [] → Has p text [] → ⊥
open_end p text inside none has =
    let here : p ≡ Ended = subst (λ (l : List ℕ). after p l ≡ Ended) (sym (none ∙ append-nil text)) has.place in
    (let no : is_undecided p ≡ false = ap is_undecided here in let bad : false ≡ true = sym no ∙ inside in cc)

-- at a place inside which the link's end ends, bytes behind it aren't left over
no_end : (at : Place) → is_inside at ≡ true → HasBody at [] [] [] → HasBody at (0 ∷ []) [] (0 ∷ []) → ⊥
no_end (Counted zero) inside here there = cc
no_end (Counted (suc n)) inside here there = (let size = here.1 in omega arith)
no_end (Chunked p) inside here there = open_end p here.0 inside here.1 here.2
no_end (ToEnd n) inside here there = (let bad = there.0 in cc)
no_end (Refused error) inside here there = absurd here

counted_body : (k n : ℕ) (at : Place) (kept d left : List ℕ) (x : List Act) → Draws k (Counted n) kept d at left x → HasBody at [] [] [] → length d ≡ n
counted_body k n at kept d left x p here = ap length (sym (append-nil d)) ∙ ((p.takes.has [] [] []).0 here).1

counted_ends : (k n : ℕ) (at : Place) (kept d left : List ℕ) (x : List Act) → Draws k (Counted n) kept d at left x → is_inside at ≡ true → HasBody at [] [] [] → ⊥
counted_ends k n at kept d left x p inside here =
    let all = (p.takes.has [] [] []).0 here in
    let used : p.used ≡ d = sym (append-nil p.used) ∙ all.0 ∙ append-nil (d ++ []) ∙ append-nil d in
    no_end at inside here ((p.takes.has (0 ∷ []) [] (0 ∷ [])).1 (ap (λ (u : List ℕ). u ++ (0 ∷ [])) (used ∙ sym (append-nil d)), all.1))

counted_whole : (k n : ℕ) (new : Place) (kept d left : List ℕ) (x : List Act) → Completes k (Counted n) kept d new left x → (length d ≡ n) × (new ≡ ended)
counted_whole k n new kept d left x c =
    elim c.ends [
      | inl e ↦ (counted_body k n c.at kept d left c.draws.0 c.draws.3 (subst (λ (p : Place). HasBody p [] [] []) (sym e.0) (refl, refl)), e.2)
      | inr e ↦ absurd (counted_ends k n c.at kept d left c.draws.0 c.draws.3 e.0 e.1)
    ]

whole_by : (f : Framing) (k n : ℕ) (new : Place) (kept d left : List ℕ) (x : List Act) → begins f ≡ Counted n → Completes k (begins f) kept d new left x
    → IsKept f d × (new ≡ ended)
whole_by NoBody k n new kept d left x is c = (let w = counted_whole k 0 new kept d left x c in (nil_from_length d w.0, w.1))
whole_by (Length m) k n new kept d left x is c = counted_whole k m new kept d left x c
whole_by InChunks k n new kept d left x is c = cc
whole_by ToLinkEnd k n new kept d left x is c = cc

-- ---- pulls, one after another

-- of a body that is read into memory these data came
pub record Gathering (old new : Side) (from at : LinkView) (first here : Place) (kept ahead d : List ℕ) : Type 0 where
  pub waited : Waited old new free (Draws from.number first kept d here ahead)
  pub link : LinkLater from at

pub gathering_begins : (w : WireView) (l : LinkView) (first : Place) (kept : List ℕ) → w.aged ≡ false
    → Gathering (side w (patient 0)) (side w (patient 0)) l l first first kept kept []
gathering_begins w l first kept fresh = record {
  waited = waited_map (waited_same w (patient 0) fresh (omega arith))
      (λ acts none. subst (λ (x : List Act). Draws l.number first kept [] first kept x) (sym none) (draws_none l.number first kept));
  link = link_same l;
}

drawn_then : (a b c : Side) (u : Bill) (P Q R : List Act → Type 0) → Waited a b free P → Waited b c u Q → ((x y : List Act) → P x → Q y → R (x ++ y)) → Waited a c u R
drawn_then a b c u P Q R p q f =
    subst (λ (v : Bill). Waited a c v R) (free_both u)
    (waited_map (waited_then p q) (λ l t. subst R (sym t.2) (f t.0 t.1 t.3 t.4)))

-- data came
pub gathering_data : (a b c : Side) (from at to : LinkView) (first here new : Place) (kept ahead left d e : List ℕ) (n : ℕ) → Gathering a b from at first here kept ahead d
    → Waited b c free (Pulled at.number here ahead new left e (pulled.Data n)) → LinkLater at to → Gathering a c from to first new kept left (d ++ e)
gathering_data a b c from at to first here new kept ahead left d e n h w later = record {
  waited = drawn_then a b c free (Draws from.number first kept d here ahead) (Pulled at.number here ahead new left e (pulled.Data n))
      (Draws from.number first kept (d ++ e) new left) h.waited w
      (λ x y p q. draws_then from.number first here new kept ahead left d e x y p (subst (λ (k : ℕ). Draws k here ahead e new left y) h.link.number q.0));
  link = link_then from at to h.link later;
}

-- or none
pub gathering_more : (a b c : Side) (from at to : LinkView) (first here new : Place) (kept ahead left d e : List ℕ) → Gathering a b from at first here kept ahead d
    → Waited b c free (Pulled at.number here ahead new left e pulled.More) → LinkLater at to → Gathering a c from to first new kept left d
gathering_more a b c from at to first here new kept ahead left d e h w later = record {
  waited = drawn_then a b c free (Draws from.number first kept d here ahead) (Pulled at.number here ahead new left e pulled.More)
      (Draws from.number first kept d new left) h.waited w
      (λ x y p q. subst (λ (l : List ℕ). Draws from.number first kept l new left (x ++ y)) (append-nil d)
      (draws_then from.number first here new kept ahead left d [] x y p (subst (λ (k : ℕ). Draws k here ahead [] new left y) h.link.number q.0)));
  link = link_then from at to h.link later;
}

-- the body is whole
pub gathered : (a b c : Side) (from at to : LinkView) (before after : Incoming) (here : Place) (ahead d e : List ℕ) (silence : ℕ)
    → Gathering a b from at before.body here before.inbox ahead d → Waited b c free (Pulled at.number here ahead after.body after.inbox e pulled.Done) → LinkLater at to
    → GatherStep a.wire c.wire from to silence before after (held.Whole d)
gathered a b c from at to before after here ahead d e silence h w later =
    let C : List Act → Type 0 = Completes from.number before.body before.inbox d after.body after.inbox in
    let all : Waited a c free C = drawn_then a b c free (Draws from.number before.body before.inbox d here ahead) (Pulled at.number here ahead after.body after.inbox e pulled.Done) C h.waited w
    (λ x y p q. subst (λ (l : List ℕ). Completes from.number before.body before.inbox l after.body after.inbox (x ++ y)) (append-nil d)
    (comes_then from.number before.body here after.body before.inbox ahead after.inbox d [] Came.Done x y p
    (subst (λ (k : ℕ). Completes k here ahead [] after.body after.inbox y) h.link.number q.0))) in
    record { went = went_map all.went (λ x v o. o); link = link_then from at to h.link later; cause = tt }

-- nothing more came inside it
pub gathering_lost : (x y z : WireView) (l m n : ℕ) (from at to : LinkView) (before after : Incoming) (here : Place) (ahead d e : List ℕ) (silence : ℕ) (why : Loss)
    → Gathering (side x (patient l)) (side y (patient m)) from at before.body here before.inbox ahead d
    → Waited (side y (patient m)) (side z (patient n)) (loss_bill (Some silence) why) (Pulled at.number here ahead after.body after.inbox e (pulled.Lost why)) → LinkLater at to
    → LossCause (side y (patient m)) (side z (patient n)) at to (Some silence) why → GatherStep x z from to silence before after (held.Lost why)
gathering_lost x y z l m n from at to before after here ahead d e silence why h w later cause =
    let a : Side = side x (patient l) in
    let b : Side = side y (patient m) in
    let c : Side = side z (patient n) in
    let L : List Act → Type 0 = λ acts. (t : List ℕ) × (new : Place) × Loses from.number before.body before.inbox t new why acts in
    let all : Waited a c (loss_bill (Some silence) why) L = drawn_then a b c (loss_bill (Some silence) why) (Draws from.number before.body before.inbox d here ahead)
    (Pulled at.number here ahead after.body after.inbox e (pulled.Lost why)) L h.waited w
    (λ u v p q. (
      d ++ [],
      after.body,
      comes_then from.number before.body here after.body before.inbox ahead after.inbox d [] (Came.Lost why) u v p
          (subst (λ (k : ℕ). Loses k here ahead [] after.body why v) h.link.number q.0),
    )) in
    record {
      went = went_map all.went (λ t v o. (lost_client y z m n at to silence why cause, o));
      link = link_then from at to h.link later;
      cause = lost_cause y z m n from at to silence why h.link cause;
    }

-- memory was wanting
pub gathering_memory : (a b : Side) (from at : LinkView) (before after : Incoming) (here : Place) (ahead d : List ℕ) (silence : ℕ)
    → Gathering a b from at before.body here before.inbox ahead d → GatherStep a.wire b.wire from at silence before after held.NoMemory
gathering_memory a b from at before after here ahead d silence h = record {
  went = went_map h.waited.went (λ x v o. (o.0, o.1, (d, here, ahead, o.2)));
  link = h.link;
  cause = tt;
}

-- what is done does so from anywhere
anywhere : At
anywhere = record {
  limits = record { idle_total = 0; idle_per_host = 0; conns_per_host = 0; idle_ms = 0; journal = 0; passes = 0; per_pass = 0; hosts = 0 };
  caller = 0;
  groups = λ backend. [];
  history = [];
}

-- a body that has so many bytes has no fault
pub gathering_bad : (a b c : Side) (from at : LinkView) (first here new : Place) (kept ahead left d e : List ℕ) (error : ChunkError) (u : Bill) → IsCounted first
    → Gathering a b from at first here kept ahead d → Waited b c u (Pulled at.number here ahead new left e (pulled.Bad error)) → ⊥
gathering_bad a b c from at first here new kept ahead left d e error u counted h w =
    let p = (h.waited.went.does anywhere).2 in
    let q = (w.went.does anywhere).2.0 in
    let t = takes_then first here q.at p.used q.draws.used d [] p.takes q.draws.takes in
    let F : Place → Type 0 = λ o. FailsBody o ((p.used ++ q.draws.used) ++ q.front) error in
    subst F counted.1 ((t.fails q.front error).0 q.fails)

-- ---- whole bodies

-- an empty one
empty_by : (f : Framing) (n : ℕ) → begins f ≡ Counted n → is_done (begins f) ≡ true → (has_body f ≡ false) × IsKept f [] × (begins f ≡ ended)
empty_by NoBody n is done = (refl, refl, refl)
empty_by (Length m) n is done =
    let none : m ≡ 0 = eqb-true m 0 done in
    (ap (λ (k : ℕ). nat_lt 0 k) none, sym none, ap Counted none)
empty_by InChunks n is done = cc
empty_by ToLinkEnd n is done = cc

full_by : (f : Framing) (n : ℕ) → begins f ≡ Counted n → is_done (begins f) ≡ false → has_body f ≡ true
full_by NoBody n is done = cc
full_by (Length zero) n is done = cc
full_by (Length (suc m)) n is done = lt-ltb 0 (suc m) (omega arith)
full_by InChunks n is done = cc
full_by ToLinkEnd n is done = cc

wants_none : (head : RequestHead) → has_body head.framing ≡ false → wants_continue head ≡ false
wants_none head none = ap (λ (b : Bool). b && expects head) none

wants_so : (head : RequestHead) → has_body head.framing ≡ true → wants_continue head ≡ expects head
wants_so head some = ap (λ (b : Bool). b && expects head) some

nothing_written : (k : ℕ) → waits.Writes k [] []
nothing_written k = record { only = All-nil (IsWriteOf k); all = refl }

empty_told : (k : ℕ) (head : RequestHead) (kept : List ℕ) → begins head.framing ≡ ended → wants_continue head ≡ false
    → Told k head (λ acts. (new : Place) × Completes k (begins head.framing) kept [] new kept acts) []
empty_told k head kept at none = (
  [],
  [],
  refl,
  subst (λ (b : Bool). waits.Writes k (continue_of b) []) (sym none) (nothing_written k),
  (ended, record { at = begins head.framing; ending = []; ends = inl (at, refl, refl); draws = ([], [], refl, draws_none k (begins head.framing) kept, refl) }),
)

-- nothing is left of the body as it begins
pub body_empty : (w : WireView) (l : LinkView) (silence : ℕ) (head : RequestHead) (kept : List ℕ) (place : Place) → w.aged ≡ false → place ≡ begins head.framing → IsCounted place
    → true ≡ is_done place → BodyStep w w l l silence head kept kept (held.Whole [])
body_empty w l silence head kept place fresh begun counted done =
    let e = empty_by head.framing counted.0 (sym begun ∙ counted.1) (sym (done ∙ ap is_done begun)) in
    record {
      went = went_map (went_nothing w fresh) (λ a v k. (
        ap (λ (z : Work). z.made) k,
        ap (λ (z : Work). z.bill) k,
        subst (Told l.number head (λ acts. (new : Place) × Completes l.number (begins head.framing) kept [] new kept acts)) (sym (ap (λ (z : Work). z.acts) k))
            (empty_told l.number head kept e.2 (wants_none head e.0)),
      ));
      link = link_same l;
      cause = tt;
    }

pub whole_empty : (f : Framing) (place : Place) → place ≡ begins f → IsCounted place → true ≡ is_done place → IsWhole f (held.Whole []) place
whole_empty f place begun counted done =
    let e = empty_by f counted.0 (sym begun ∙ counted.1) (sym (done ∙ ap is_done begun)) in (e.1, begun ∙ e.2)

-- the text that invites a body that isn't empty
pub invites : (head : RequestHead) (place : Place) (text : List ℕ) → place ≡ begins head.framing → IsCounted place → false ≡ is_done place → text ≡ continue_of (expects head)
    → text ≡ continue_of (wants_continue head)
invites head place text begun counted some is =
    is ∙ ap continue_of (sym (wants_so head (full_by head.framing counted.0 (sym begun ∙ counted.1) (sym (some ∙ ap is_done begun)))))

not_all : (r : Sent) → (r ≡ sent.All → ⊥) → IsNotAll r
not_all sent.All f = f refl
not_all (sent.Failed some) f = tt
not_all (sent.Stopped why) f = tt

-- the client wasn't told whole to go on
pub body_untold : (x y : WireView) (from to : LinkView) (silence : ℕ) (head : RequestHead) (kept left text : List ℕ) (r : Sent) → (r ≡ sent.All → ⊥)
    → text ≡ continue_of (wants_continue head) → WrittenStep x y from to silence text r → BodyStep x y from to silence head kept left (held.Untold r)
body_untold x y from to silence head kept left text r some is w = record {
  went = went_map w.went (λ a v k. (not_all r some, subst (λ (t : List ℕ). Writes (line from.number silence) t r a v) is k));
  link = w.link;
  cause = sent_cause from to false r None w.of_client w.cause tt;
}

only_behind : (u : Bill) (P Q : List Act → Type 0) (a : At) (w : Work) → Seq (Only free P) (Only u Q) a w → Only u (Then P Q) a w
only_behind u P Q a w s =
    let x : Work = s.0 in
    let y : Work = s.1 in (
      ap (λ (z : Work). z.made) s.2 ∙ ap (λ (m : List _). m ++ y.made) s.3.0 ∙ s.4.0,
      ap (λ (z : Work). z.bill) s.2 ∙ ap (λ (b : Bill). both b y.bill) s.3.1 ∙ ap (λ (b : Bill). both free b) s.4.1 ∙ free_both u,
      (x.acts, y.acts, ap (λ (z : Work). z.acts) s.2, s.3.2, s.4.2),
    )

-- it was, and then its body came or not
body_by : (k n silence : ℕ) (head : RequestHead) (before after : Incoming) (r : Held) → n ≡ k → before.body ≡ begins head.framing → (a : At) (w : Work)
    → Seq (Only free (waits.Writes k (continue_of (wants_continue head)))) (GathersBy (line n silence) before after r) a w
    → BodyBy (line k silence) head before.inbox after.inbox r a w
body_by k n silence head before after (held.Whole d) number begun a w s =
    let W : List Act → Type 0 = waits.Writes k (continue_of (wants_continue head)) in
    let C : List Act → Type 0 = λ acts. (new : Place) × Completes k (begins head.framing) before.inbox d new after.inbox acts in
    only_behind free W C a w (
      s.0,
      s.1,
      s.2,
      s.3,
      (
        s.4.0,
        s.4.1,
        (
          after.body,
          subst (λ (p : Place). Completes k p before.inbox d after.body after.inbox s.1.acts) begun
              (subst (λ (i : ℕ). Completes i before.body before.inbox d after.body after.inbox s.1.acts) number s.4.2),
        ),
      ),
    )
body_by k n silence head before after (held.Untold t) number begun a w s = absurd s.4
body_by k n silence head before after (held.Lost why) number begun a w s =
    let W : List Act → Type 0 = waits.Writes k (continue_of (wants_continue head)) in
    let L : List Act → Type 0 = λ acts. (d : List ℕ) × (new : Place) × Loses k (begins head.framing) before.inbox d new why acts in
    let g = s.4.1.2 in (
      s.4.0,
      only_behind (loss_bill (Some silence) why) W L a w (
        s.0,
        s.1,
        s.2,
        s.3,
        (
          s.4.1.0,
          s.4.1.1,
          (
            g.0,
            g.1,
            subst (λ (p : Place). Loses k p before.inbox g.0 g.1 why s.1.acts) begun
                (subst (λ (i : ℕ). Loses i before.body before.inbox g.0 g.1 why s.1.acts) number g.2),
          ),
        ),
      ),
    )
body_by k n silence head before after held.NoMemory number begun a w s =
    let W : List Act → Type 0 = waits.Writes k (continue_of (wants_continue head)) in
    let D : List Act → Type 0 = λ acts. (d : List ℕ) × (new : Place) × (left : List ℕ) × Draws k (begins head.framing) before.inbox d new left acts in
    let g = s.4.2 in
    only_behind free W D a w (
      s.0,
      s.1,
      s.2,
      s.3,
      (
        s.4.0,
        s.4.1,
        (
          g.0,
          g.1,
          g.2,
          subst (λ (p : Place). Draws k p before.inbox g.0 g.1 g.2 s.1.acts) begun
              (subst (λ (i : ℕ). Draws i before.body before.inbox g.0 g.1 g.2 s.1.acts) number g.3),
        ),
      ),
    )

told_whole : (l : Line) (text said : List ℕ) (r : Sent) → r ≡ sent.All → text ≡ said → (a : At) (w : Work) → Writes l text r a w → Only free (waits.Writes l.client said) a w
told_whole l text said r all is a w k =
    let whole : Writes l text sent.All a w = subst (λ (s : Sent). Writes l text s a w) all k in
    (whole.1.0, whole.1.1, subst (λ (t : List ℕ). waits.Writes l.client t w.acts) is whole.1.2)

gathered_cause : (from mid to : LinkView) (silence : ℕ) (y z : WireView) (before after : Incoming) (r : Held) → LinkLater from mid
    → GatherStep y z mid to silence before after r → EndCause from to false (body_next r)
gathered_cause from mid to silence y z before after (held.Whole d) later g = tt
gathered_cause from mid to silence y z before after (held.Untold s) later g = absurd (g.went.does anywhere)
gathered_cause from mid to silence y z before after (held.Lost why) later g = end_before from mid to false (Some (lost_end why)) later g.cause
gathered_cause from mid to silence y z before after held.NoMemory later g = tt

pub body_gathered : (x y z : WireView) (from mid to : LinkView) (silence : ℕ) (head : RequestHead) (before after : Incoming) (text : List ℕ) (s : Sent) (r : Held)
    → s ≡ sent.All → before.body ≡ begins head.framing → text ≡ continue_of (wants_continue head) → WrittenStep x y from mid silence text s
    → GatherStep y z mid to silence before after r → BodyStep x z from to silence head before.inbox after.inbox r
body_gathered x y z from mid to silence head before after text s r all begun is w g =
    let rest : Went x y (Only free (waits.Writes from.number (continue_of (wants_continue head)))) =
    went_map w.went (told_whole (line from.number silence) text (continue_of (wants_continue head)) s all is) in
    record {
      went = went_map (went_then rest g.went) (body_by from.number mid.number silence head before after r w.link.number begun);
      link = link_then from mid to w.link g.link;
      cause = gathered_cause from mid to silence y z before after r w.link g;
    }

pub whole_gathered : (x y : WireView) (from to : LinkView) (silence : ℕ) (f : Framing) (before after : Incoming) (r : Held) → before.body ≡ begins f → IsCounted before.body
    → GatherStep x y from to silence before after r → IsWhole f r after.body
whole_gathered x y from to silence f before after (held.Whole d) begun counted g =
    let c = (g.went.does anywhere).2 in
    whole_by f from.number counted.0 after.body before.inbox d after.inbox g.went.work.acts (sym begun ∙ counted.1)
    (subst (λ (p : Place). Completes from.number p before.inbox d after.body after.inbox g.went.work.acts) begun c)
whole_gathered x y from to silence f before after (held.Untold s) begun counted g = tt
whole_gathered x y from to silence f before after (held.Lost why) begun counted g = tt
whole_gathered x y from to silence f before after held.NoMemory begun counted g = tt
