-- Steps of a wait for a reply's head, over plain variables.
use Rattle.std.proofs.Common.{ℕ, zero, suc, ◌≡◌, ◌≤◌, ◌<◌, ◌+◌, false, not, nat_lt, List, [], ◌∷◌, ◌++◌, length, take, drop, None, ◌==◌, refl, ap, sym, subst, ◌∙◌, arith, inl, inr, append_assoc, length-append, ne_eqb}
use Rattle.std.proofs.Math.Seq.{drop-length}
use Rattle.std.proofs.lemmas.Bool.{lt-ltb}
use Rattle.std.proofs.lemmas.List.{take-append-drop}
use Rattle.gw_wire.specs.declared.values.Act.{Act}
use Rattle.gw_wire.specs.declared.values.Act.TheVariants.{Read}
use Rattle.gw_wire.specs.Link.{LinkView, LinkLater}
use Rattle.gw_wire.specs.Stretch.{Acts, Then}
use Rattle.gw_wire.specs.Wire.{WireView}
use Rattle.gw_wire.proofs.Facts.{link_same, link_then}
use Rattle.gw_head.specs.declared.error.HeadError.{HeadError}
use Rattle.gw_head.specs.declared.reader.Fed.{Fed}
use Rattle.gw_head.specs.declared.reader.Step.{Step}
use Rattle.gw_head.specs.declared.reply.ReplyHead.{ReplyHead}
use Rattle.gw_head.specs.Head.{ReplyHeadOf, BadReplyHead}
use Rattle.gw_head.specs.Stage.{Stage, reads, Brings, Feeds, Gives, IsUndecided, Refuses}
use Rattle.gw_head.specs.Stage.{GoesOn as Undecided}
use Rattle.gw_account.specs.Work.{free}
use Rattle.gw_account.proofs.Facts.{free_both}
use Rattle.gw_stream.specs.declared.waits.Heard.TheVariants as got
use Rattle.gw_stream.specs.declared.waits.Loss.{Loss}
use Rattle.gw_stream.specs.Guard.{GuardView}
use Rattle.gw_stream.specs.Waits.{Side, side, HeardStep, Waited, loss_acts, loss_bill}
use Rattle.gw_stream.proofs.Facts.{goes_same, goes_waited, hears_then, loss_within, waited_map, waited_same, waited_then}
use Rattle.gw_transport.specs.declared.replying.HeadHeard.TheVariants as heard
use Rattle.gw_transport.specs.Replying.{HeadStep, HearsFor, HearsHead, IsRefusedHead}

-- what a piece brings to a reader that reads
pub brought : (old new : Stage) (piece stream : List ℕ) (fed : Fed ReplyHead) (step : Step ReplyHead) → old ≡ reads stream → fed.step ≡ step
    → Feeds ReplyHeadOf BadReplyHead old piece fed new → Brings ReplyHeadOf BadReplyHead stream piece fed.used step new
brought old new piece stream fed step reading is feeds =
    subst (λ s. Brings ReplyHeadOf BadReplyHead stream piece fed.used s new) is
    (subst (λ s. Feeds ReplyHeadOf BadReplyHead s piece fed new) reading feeds)

-- a head that is waited for: the reader has a front of what came, of which nothing is decided, and the rest is ahead
pub record Hearing (old new : Side) (from at : LinkView) (first stream ahead : List ℕ) (pieces : ℕ) : Type 0 where
  pub undecided : IsUndecided stream
  pub most : pieces ≤ length stream + 1
  pub some : 0 < pieces → 0 < length ahead
  pub waited : Waited old new free (HearsHead from.number first (stream ++ ahead))
  pub link : LinkLater from at

undecided_none : IsUndecided []
undecided_none = record { no_end = refl; short = omega arith }

pub hearing_begins : (w : WireView) (g : GuardView) (l : LinkView) (ahead : List ℕ) → w.aged ≡ false → g.last ≤ w.moment
    → Hearing (side w g) (side w g) l l ahead [] ahead 0
hearing_begins w g l ahead fresh le = record {
  undecided = undecided_none;
  most = omega arith;
  some = (λ e. omega (arith, e));
  waited = waited_map (waited_same w g fresh le) (λ acts none. subst (HearsHead l.number ahead ahead) (sym none) refl);
  link = link_same l;
}

-- where nothing is decided the whole piece is used
pub used_whole : (used : ℕ) (stream piece : List ℕ) (stage : Stage) → Undecided stream piece used stage → drop used piece ≡ []
used_whole used stream piece stage u = ap (λ n. drop n piece) u.used_all ∙ drop-length piece

-- a head in front of what came behind it
behind_head : (stream piece : List ℕ) (used : ℕ) → (stream ++ take used piece) ++ drop used piece ≡ stream ++ piece
behind_head stream piece used = append_assoc stream (take used piece) (drop used piece) ∙ ap (λ p. stream ++ p) (take-append-drop used piece)

more_by_one : (s n i : ℕ) → i ≤ s + 1 → (0 < i → 0 < n) → i + 1 ≤ s + n + 1
more_by_one s n zero le some = omega arith
more_by_one s n (suc i) le some = let one : 0 < n = some (omega arith) in omega (arith, le, one)

-- one more piece came
pub hearing_more : (a b c : Side) (from at to : LinkView) (first stream ahead piece : List ℕ) (pieces used : ℕ) (stage : Stage) (silence : _)
    → Hearing a b from at first stream ahead pieces → Undecided stream ahead used stage → HeardStep b c at to piece silence got.Got
    → Hearing a c from to first (stream ++ ahead) piece (pieces + 1)
hearing_more a b c from at to first stream ahead piece pieces used stage silence h u t =
    let k : ℕ = from.number in
    let joined = waited_then h.waited t.waited in
    record {
      undecided = u.undecided;
      most = rw (length-append stream ahead) (more_by_one (length stream) (length ahead) pieces h.most h.some);
      some = (λ e. t.cause);
      waited = subst (λ u. Waited a c u (HearsHead k first ((stream ++ ahead) ++ piece))) (free_both free)
          (waited_map joined (λ l p. subst (HearsHead k first ((stream ++ ahead) ++ piece)) (sym p.2)
          (hears_then IsUndecided k first (stream ++ ahead) ((stream ++ ahead) ++ piece) p.0 p.1 p.3
          (subst (HearsHead k (stream ++ ahead) ((stream ++ ahead) ++ piece)) (sym (p.4 ∙ ap (λ n. Read n piece ∷ []) h.link.number)) (u.undecided, piece, refl, refl)))));
      link = link_then from at to h.link t.link;
    }

-- nothing more came
nothing_of : (bytes : List ℕ) (empty : _) → empty ≡ (length bytes == 0) → not empty ≡ nat_lt 0 (length bytes)
nothing_of [] empty e = rw e refl
nothing_of (b ∷ bytes) empty e = rw (e, ne_eqb (length (b ∷ bytes)) 0 (omega arith)) (sym (lt-ltb 0 (length (b ∷ bytes)) (omega arith)))

pub hearing_lost : (a b c : Side) (from at to : LinkView) (first stream ahead piece kept left : List ℕ) (pieces used : ℕ) (stage : Stage) (empty : _) (why : Loss)
    → Hearing a b from at first stream ahead pieces → Undecided stream ahead used stage → HeardStep b c at to piece None (got.Lost why)
    → kept ≡ stream ++ ahead → empty ≡ (length kept == 0) → HeadStep a c from to first left (heard.Lost why (not empty))
hearing_lost a b c from at to first stream ahead piece kept left pieces used stage empty why h u t is none =
    let joined = waited_then h.waited t.waited in
    let k : ℕ = from.number in
    let T : List Act → Type 0 = Then (HearsHead k first (stream ++ ahead)) (Acts (loss_acts k why)) in
    record {
      waited = subst (λ u. Waited a c u (HearsFor k first left (heard.Lost why (not empty)))) (free_both (loss_bill None why))
          (waited_map joined (λ l p. (
            stream ++ ahead,
            u.undecided,
            nothing_of (stream ++ ahead) empty (subst (λ (y : List ℕ). empty ≡ (length y == 0)) is none),
            (p.0, p.1, p.2, p.3, p.4 ∙ ap (λ n. loss_acts n why) h.link.number),
          )));
      link = link_then from at to h.link t.link;
      cause = loss_within a b c c from at to None why (goes_waited h.waited) (goes_same c) h.link t.cause.0;
    }

-- a head ended
pub hearing_head : (a b : Side) (from at : LinkView) (first stream ahead left : List ℕ) (pieces used : ℕ) (stage : Stage) (head : ReplyHead)
    → Hearing a b from at first stream ahead pieces → Gives ReplyHeadOf stream ahead used head stage → left ≡ drop used ahead
    → HeadStep a b from at first left (heard.Head head)
hearing_head a b from at first stream ahead left pieces used stage head h g is = record {
  waited = waited_map h.waited (λ l p. (
    stream ++ take used ahead,
    g.is_head,
    subst (λ (bytes : List ℕ). HearsHead from.number first bytes l) (sym (ap (λ r. (stream ++ take used ahead) ++ r) is ∙ behind_head stream ahead used)) p,
  ));
  link = h.link;
  cause = tt;
}

refused_by : (stream piece : List ℕ) (used : ℕ) (error : HeadError) (stage : Stage) → Refuses BadReplyHead stream piece used error stage → IsRefusedHead (stream ++ piece)
refused_by stream piece used error stage r =
    elim r.cause [
      | inl c ↦ inl (stream ++ take used piece, drop used piece, error, sym (behind_head stream piece used), c.1)
      | inr c ↦ inr c.0
    ]

pub hearing_bad : (a b : Side) (from at : LinkView) (first stream ahead left : List ℕ) (pieces used : ℕ) (stage : Stage) (error : HeadError)
    → Hearing a b from at first stream ahead pieces → Refuses BadReplyHead stream ahead used error stage → HeadStep a b from at first left heard.Bad
hearing_bad a b from at first stream ahead left pieces used stage error h r = record {
  waited = waited_map h.waited (λ l p. (stream ++ ahead, refused_by stream ahead used error stage r, p));
  link = h.link;
  cause = tt;
}

pub hearing_memory : (a b : Side) (from at : LinkView) (first stream ahead left : List ℕ) (pieces : ℕ) → Hearing a b from at first stream ahead pieces
    → HeadStep a b from at first left heard.NoMemory
hearing_memory a b from at first stream ahead left pieces h = record { waited = waited_map h.waited (λ l p. (stream ++ ahead, p)); link = h.link; cause = tt }

-- each piece has a byte, so a head isn't open any more behind so many
pub hearing_ends : (a b : Side) (from at : LinkView) (first stream ahead : List ℕ) (pieces : ℕ) → 65537 ≤ pieces → Hearing a b from at first stream ahead pieces → ⊥
hearing_ends a b from at first stream ahead pieces le h = let m = h.most in let s = h.undecided.short in omega arith
