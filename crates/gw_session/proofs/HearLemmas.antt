-- Steps of hearing a client, over plain variables.
use Rattle.std.proofs.Common.{ℕ, zero, suc, ◌≡◌, ◌≤◌, ◌<◌, ◌+◌, false, List, [], ◌∷◌, ◌++◌, length, take, drop, Option, Some, None, refl, ap, sym, subst, ◌∙◌, arith, inl, inr, append_assoc, length-append}
use Rattle.std.proofs.Math.Seq.{drop-length}
use Rattle.std.proofs.lemmas.List.{take-append-drop}
use Rattle.gw_wire.specs.declared.values.Act.TheVariants.{Read}
use Rattle.gw_wire.specs.Link.{LinkView, LinkLater}
use Rattle.gw_wire.specs.Wire.{WireView}
use Rattle.gw_wire.proofs.Facts.{link_same, link_then}
use Rattle.gw_context.specs.Tree.{new_tree}
use Rattle.gw_head.specs.declared.error.HeadError.{HeadError}
use Rattle.gw_head.specs.declared.reader.Fed.{Fed}
use Rattle.gw_head.specs.declared.reader.Step.{Step}
use Rattle.gw_head.specs.declared.request.RequestHead.{RequestHead}
use Rattle.gw_head.specs.Head.{RequestHeadOf, BadRequestHead}
use Rattle.gw_head.specs.Stage.{Stage, reads, Brings, Feeds, Gives, IsUndecided, Refuses}
use Rattle.gw_head.specs.Stage.{GoesOn as Undecided}
use Rattle.gw_account.specs.Work.{Bill, free}
use Rattle.gw_account.proofs.Facts.{free_both, went_map}
use Rattle.gw_stream.specs.declared.waits.Heard.TheVariants as got
use Rattle.gw_stream.specs.declared.waits.Loss.{Loss}
use Rattle.gw_stream.specs.declared.waits.Loss.TheVariants as loss
use Rattle.gw_stream.specs.declared.waits.Stop.TheVariants as stops
use Rattle.gw_stream.specs.Guard.{GuardView}
use Rattle.gw_stream.specs.Waits.{Side, side, HeardStep, LossCause, Waited, loss_acts, loss_bill}
use Rattle.gw_stream.proofs.Facts.{hears_then, rose_from, waited_map, waited_same, waited_then}
use Rattle.gw_session.specs.declared.hearing.Request.TheVariants as request
use Rattle.gw_session.specs.Patience.{nobody, nowhere}
use Rattle.gw_session.specs.Ending.{lost_end}
use Rattle.gw_session.specs.Hearing.{HearsHead, IsRefused}
use Rattle.gw_session.specs.Replies.{IsLossOfClient}
use Rattle.gw_session.specs.Stand.{EndCause}
use Rattle.gw_session.specs.Steps.{HeadStep}
use Rattle.gw_session.proofs.SayLemmas.{silent}

-- what is seen of a wait inside a request that looked last at this moment
abbrev pub patient : ℕ → GuardView
patient last = record {
  tree = new_tree;
  node = 0;
  deadline = None;
  words = nobody;
  own = 0;
  gate = nowhere;
  grace = 0;
  shut_at = None;
  last = last;
  cancels = 0;
}

-- ---- nothing more comes of a client

pub lost_client : (x y : WireView) (m n : ℕ) (from to : LinkView) (silence : ℕ) (why : Loss) → LossCause (side x (patient m)) (side y (patient n)) from to (Some silence) why
    → IsLossOfClient why
lost_client x y m n from to silence loss.End c = tt
lost_client x y m n from to silence loss.Failed c = tt
lost_client x y m n from to silence (loss.Stopped why) c = silent (patient m) (patient n) y.moment silence why refl refl refl c

stops_so : (from to : LinkView) (why : Loss) → IsLossOfClient why → (x y : WireView) (m n silence : ℕ) (mid : LinkView) → LinkLater from mid
    → LossCause (side x (patient m)) (side y (patient n)) mid to (Some silence) why → EndCause from to false (Some (lost_end why))
stops_so from to loss.End own x y m n silence mid later c = rose_from from.ends mid.ends to.ends later.ends c
stops_so from to loss.Failed own x y m n silence mid later c = rose_from from.faults mid.faults to.faults later.faults c
stops_so from to (loss.Stopped stops.Cancelled) own x y m n silence mid later c = absurd own
stops_so from to (loss.Stopped stops.Deadline) own x y m n silence mid later c = absurd own
stops_so from to (loss.Stopped stops.Silent) own x y m n silence mid later c = tt
stops_so from to (loss.Stopped stops.Ticks) own x y m n silence mid later c = tt

pub lost_cause : (x y : WireView) (m n : ℕ) (from mid to : LinkView) (silence : ℕ) (why : Loss) → LinkLater from mid
    → LossCause (side x (patient m)) (side y (patient n)) mid to (Some silence) why → EndCause from to false (Some (lost_end why))
lost_cause x y m n from mid to silence why later c =
    stops_so from to why (lost_client x y m n mid to silence why c) x y m n silence mid later c

-- ---- a head

pub brought : (old new : Stage) (piece stream : List ℕ) (fed : Fed RequestHead) (step : Step RequestHead) → old ≡ reads stream → fed.step ≡ step
    → Feeds RequestHeadOf BadRequestHead old piece fed new → Brings RequestHeadOf BadRequestHead stream piece fed.used step new
brought old new piece stream fed step reading is feeds =
    subst (λ s. Brings RequestHeadOf BadRequestHead stream piece fed.used s new) is
    (subst (λ s. Feeds RequestHeadOf BadRequestHead s piece fed new) reading feeds)

-- a head that is waited for: the reader has a front of what came, of which nothing is decided, and the rest is ahead
pub record Hearing (old new : Side) (from at : LinkView) (first stream ahead : List ℕ) (pieces : ℕ) : Type 0 where
  pub undecided : IsUndecided stream
  pub most : pieces ≤ length stream + 1
  pub some : 0 < pieces → 0 < length ahead
  pub waited : Waited old new free (HearsHead from.number first (stream ++ ahead))
  pub link : LinkLater from at

undecided_none : IsUndecided []
undecided_none = record { no_end = refl; short = omega arith }

pub hearing_begins : (w : WireView) (l : LinkView) (ahead : List ℕ) → w.aged ≡ false → Hearing (side w (patient 0)) (side w (patient 0)) l l ahead [] ahead 0
hearing_begins w l ahead fresh = record {
  undecided = undecided_none;
  most = omega arith;
  some = (λ e. omega (arith, e));
  waited = waited_map (waited_same w (patient 0) fresh (omega arith)) (λ acts none. subst (HearsHead l.number ahead ahead) (sym none) refl);
  link = link_same l;
}

-- where nothing is decided the whole piece is used
pub used_whole : (used : ℕ) (stream piece : List ℕ) (stage : Stage) → Undecided stream piece used stage → drop used piece ≡ []
used_whole used stream piece stage u = ap (λ n. drop n piece) u.used_all ∙ drop-length piece

-- a head in front of what came behind it
behind_head : (stream piece : List ℕ) (used : ℕ) → (stream ++ take used piece) ++ drop used piece ≡ stream ++ piece
behind_head stream piece used = append_assoc stream (take used piece) (drop used piece) ∙ ap (λ p. stream ++ p) (take-append-drop used piece)

more_by_one : (s n i : ℕ) → i ≤ s + 1 → (0 < i → 0 < n) → i + 1 ≤ s + n + 1
more_by_one s n zero le some = omega arith
more_by_one s n (suc i) le some = let one : 0 < n = some (omega arith) in omega (arith, le, one)

-- one more piece came
pub hearing_more : (a b c : Side) (from at to : LinkView) (first stream ahead piece : List ℕ) (pieces used : ℕ) (stage : Stage) (silence : Option ℕ)
    → Hearing a b from at first stream ahead pieces → Undecided stream ahead used stage → HeardStep b c at to piece silence got.Got
    → Hearing a c from to first (stream ++ ahead) piece (pieces + 1)
hearing_more a b c from at to first stream ahead piece pieces used stage silence h u t =
    let k : ℕ = from.number in
    let joined = waited_then h.waited t.waited in
    record {
      undecided = u.undecided;
      most = rw (length-append stream ahead) (more_by_one (length stream) (length ahead) pieces h.most h.some);
      some = (λ e. t.cause);
      waited = subst (λ u. Waited a c u (HearsHead k first ((stream ++ ahead) ++ piece))) (free_both free)
          (waited_map joined (λ l p. subst (HearsHead k first ((stream ++ ahead) ++ piece)) (sym p.2)
          (hears_then IsUndecided k first (stream ++ ahead) ((stream ++ ahead) ++ piece) p.0 p.1 p.3
          (subst (HearsHead k (stream ++ ahead) ((stream ++ ahead) ++ piece)) (sym (p.4 ∙ ap (λ n. Read n piece ∷ []) h.link.number)) (u.undecided, piece, refl, refl)))));
      link = link_then from at to h.link t.link;
    }

-- nothing more came
pub hearing_lost : (x y z : WireView) (l m n : ℕ) (from at to : LinkView) (first stream ahead piece left : List ℕ) (pieces used : ℕ) (stage : Stage) (silence : ℕ) (why : Loss)
    → Hearing (side x (patient l)) (side y (patient m)) from at first stream ahead pieces → Undecided stream ahead used stage
    → HeardStep (side y (patient m)) (side z (patient n)) at to piece (Some silence) (got.Lost why) → HeadStep x z from to first left silence (request.Lost why)
hearing_lost x y z l m n from at to first stream ahead piece left pieces used stage silence why h u t =
    let joined = waited_then h.waited t.waited in
    let k : ℕ = from.number in
    let B : Bill = loss_bill (Some silence) why in
    let own : IsLossOfClient why = lost_client y z m n at to silence why t.cause.0 in
    record {
      went = went_map joined.went (λ a w o. (
        stream ++ ahead,
        u.undecided,
        own,
        (o.0, o.1 ∙ free_both B, (o.2.0, o.2.1, o.2.2, o.2.3, o.2.4 ∙ ap (λ n. loss_acts n why) h.link.number)),
      ));
      link = link_then from at to h.link t.link;
      cause = lost_cause y z m n from at to silence why h.link t.cause.0;
    }

-- a head ended
pub hearing_head : (a b : Side) (from at : LinkView) (first stream ahead left : List ℕ) (pieces used : ℕ) (stage : Stage) (silence : ℕ) (head : RequestHead)
    → Hearing a b from at first stream ahead pieces → Gives RequestHeadOf stream ahead used head stage → left ≡ drop used ahead
    → HeadStep a.wire b.wire from at first left silence (request.Head head)
hearing_head a b from at first stream ahead left pieces used stage silence head h g is = record {
  went = went_map h.waited.went (λ x w o. (
    stream ++ take used ahead,
    (
      g.is_head,
      (o.0, o.1, subst (λ (bytes : List ℕ). HearsHead from.number first bytes w.acts) (sym (ap (λ r. (stream ++ take used ahead) ++ r) is ∙ behind_head stream ahead used)) o.2),
    ),
  ));
  link = h.link;
  cause = tt;
}

refused_by : (stream piece : List ℕ) (used : ℕ) (error : HeadError) (stage : Stage) → Refuses BadRequestHead stream piece used error stage → IsRefused error (stream ++ piece)
refused_by stream piece used error stage r =
    elim r.cause [
      | inl c ↦ inl (stream ++ take used piece, drop used piece, sym (behind_head stream piece used), c.1)
      | inr c ↦ inr (c.0, c.2)
    ]

pub hearing_bad : (a b : Side) (from at : LinkView) (first stream ahead left : List ℕ) (pieces used : ℕ) (stage : Stage) (silence : ℕ) (error : HeadError)
    → Hearing a b from at first stream ahead pieces → Refuses BadRequestHead stream ahead used error stage
    → HeadStep a.wire b.wire from at first left silence (request.Refused error)
hearing_bad a b from at first stream ahead left pieces used stage silence error h r = record {
  went = went_map h.waited.went (λ x w o. (stream ++ ahead, refused_by stream ahead used error stage r, o));
  link = h.link;
  cause = tt;
}

pub hearing_memory : (a b : Side) (from at : LinkView) (first stream ahead left : List ℕ) (pieces silence : ℕ) → Hearing a b from at first stream ahead pieces
    → HeadStep a.wire b.wire from at first left silence request.NoMemory
hearing_memory a b from at first stream ahead left pieces silence h =
    record { went = went_map h.waited.went (λ x w o. (stream ++ ahead, o)); link = h.link; cause = tt }

-- each piece has a byte, so a head isn't open any more behind so many
pub hearing_ends : (a b : Side) (from at : LinkView) (first stream ahead : List ℕ) (pieces : ℕ) → 65537 ≤ pieces → Hearing a b from at first stream ahead pieces → ⊥
hearing_ends a b from at first stream ahead pieces le h = let m = h.most in let s = h.undecided.short in omega arith
