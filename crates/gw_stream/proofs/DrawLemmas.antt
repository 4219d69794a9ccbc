-- What one pull draws of a body, over plain variables.
use Rattle.std.proofs.Common.{◌≡◌, ℕ, ◌-◌, ◌<◌, ◌≤◌, false, true, List, [], ◌∷◌, ◌++◌, length, take, drop, refl, sym, ap, ◌∙◌, subst, arith, append-nil, inl, inr, length-take, length-drop}
use Rattle.std.proofs.Common.{take-take}
use Rattle.std.proofs.lemmas.List.{take-append-drop}
use Rattle.std.proofs.Math.Seq.{take-length}
use Rattle.std.specs.Prelude.{slice_range}
use Rattle.gw_wire.specs.declared.values.Act.{Act}
use Rattle.gw_wire.specs.declared.values.Act.TheVariants.{Read}
use Rattle.gw_wire.specs.declared.values.Act.TheVariants.{End as LinkEnd}
use Rattle.gw_wire.specs.Link.{LinkView}
use Rattle.gw_wire.specs.Stretch.{Acts, Then}
use Rattle.gw_wire.specs.Wire.{WireView}
use Rattle.gw_chunk.specs.declared.decoder.ChunkFed.{ChunkFed}
use Rattle.gw_chunk.specs.declared.decoder.ChunkStep.{ChunkStep}
use Rattle.gw_chunk.specs.declared.decoder.ChunkStep.TheVariants.{Data, More, Done, Bad}
use Rattle.gw_chunk.specs.declared.error.ChunkError.{ChunkError}
use Rattle.gw_body.specs.declared.place.Place.{Place}
use Rattle.gw_body.specs.declared.place.Place.TheVariants.{Counted, Chunked, ToEnd, Refused}
use Rattle.gw_body.specs.Places.{ended, is_inside, HasBody}
use Rattle.gw_body.specs.Taken.{Takes, behind_link, DecidesNothing, Feeds, GivesData, WantsMore, Ends, Refuses, Steps}
use Rattle.gw_body.proofs.Facts.{takes_none}
use Rattle.gw_account.specs.Work.{free}
use Rattle.gw_stream.specs.declared.drawing.Drawn.TheVariants as drawn
use Rattle.gw_stream.specs.declared.drawing.Pull.{Pull}
use Rattle.gw_stream.specs.declared.drawing.Pull.TheVariants as pulled
use Rattle.gw_stream.specs.declared.waits.Heard.TheVariants as heard
use Rattle.gw_stream.specs.declared.waits.Loss.{Loss}
use Rattle.gw_stream.specs.declared.waits.Loss.TheVariants as loss
use Rattle.gw_stream.specs.Drawing.{Draws, Drew, IsPartFrom, IsShort, Leaves, PullCause, Pulled, TakesFront, pull_bill}
use Rattle.gw_stream.specs.Guard.{GuardView}
use Rattle.gw_stream.specs.Waits.{Side, side, HeardStep, LossCause, Waited, loss_acts, loss_bill}
use Rattle.gw_stream.proofs.InsideLemmas.{inside_behind}
use Rattle.gw_stream.proofs.LinkLemmas.{waited_map, waited_same}

-- ---- what the bytes ahead make of a body

-- the front of a front
front_of : (ahead : List ℕ) (room used : ℕ) → used ≤ length (take room ahead) → take used (take room ahead) ≡ take used ahead
front_of ahead room used le = let l = length-take room ahead in take-take used room ahead (omega arith)

-- what the reader said of a piece, by its step
steps_at : (old new : Place) (piece : List ℕ) (fed : ChunkFed) (step : ChunkStep) → Feeds old piece fed new → fed.step ≡ step → Steps old piece fed.used step new
steps_at old new piece fed step feeds is = subst (λ (s : ChunkStep). Steps old piece fed.used s new) is feeds

-- the piece that the reader was given
pub of_front : (P : List ℕ → Type 0) (ahead bytes piece : List ℕ) (room : ℕ) → bytes ≡ ahead → piece ≡ take room bytes → P piece → P (take room ahead)
of_front P ahead bytes piece room same is p = subst P (is ∙ ap (λ l. take room l) same) p

-- a front of the bytes ahead was taken, of which the reader was given no more than there is room for
taken_front : (old new : Place) (ahead left d : List ℕ) (room used : ℕ) → used ≤ length (take room ahead) → left ≡ drop used ahead
    → Takes old (take used (take room ahead)) d new → TakesFront old ahead d new left
taken_front old new ahead left d room used le cut t = record {
  used = take used ahead;
  bytes = sym (take-append-drop used ahead) ∙ ap (λ l. take used ahead ++ l) (sym cut);
  takes = subst (λ (l : List ℕ). Takes old l d new) (front_of ahead room used le) t;
}

slice_some : (piece : List ℕ) (at end : ℕ) → at < end → end ≤ length piece → 0 < length (slice_range piece at end)
slice_some piece at end lt le = let a = length-take (end - at) (drop at piece) in let b = length-drop at piece in omega arith

pub drew_data : (old new : Place) (ahead left d : List ℕ) (room count : ℕ) (fed : ChunkFed) (at end : ℕ) → Feeds old (take room ahead) fed new
    → fed.step ≡ Data at end → left ≡ drop fed.used ahead → d ≡ slice_range (take room ahead) at end → count ≡ length (slice_range (take room ahead) at end)
    → Drew old ahead new left d (drawn.Data count)
drew_data old new ahead left d room count fed at end feeds is cut same size =
    let gives : GivesData old (take room ahead) fed.used at end new = steps_at old new (take room ahead) fed (Data at end) feeds is in
    let le : fed.used ≤ length (take room ahead) = let u = gives.used_up_to in let w = gives.within in omega arith in
    let t : Takes old (take fed.used (take room ahead)) d new = rw same gives.takes in (
      taken_front old new ahead left d room fed.used le cut t,
      rw size (slice_some (take room ahead) at end gives.some gives.within),
      ap length same ∙ sym size,
    )

pub drew_more : (old new : Place) (ahead left d : List ℕ) (room : ℕ) (fed : ChunkFed) → Feeds old (take room ahead) fed new → fed.step ≡ More
    → DecidesNothing old (take room ahead) → left ≡ drop fed.used ahead → Drew old ahead new left d drawn.More
drew_more old new ahead left d room fed feeds is nothing cut =
    let wants : WantsMore old (take room ahead) fed.used new = steps_at old new (take room ahead) fed More feeds is in
    let le : fed.used ≤ length (take room ahead) = let u = wants.used_all in omega arith in
    let all : take fed.used (take room ahead) ≡ take room ahead = ap (λ n. take n (take room ahead)) wants.used_all ∙ take-length (take room ahead) in
    let t : Takes old (take fed.used (take room ahead)) [] new = subst (λ (l : List ℕ). Takes old l [] new) (sym all) wants.takes in
    (taken_front old new ahead left [] room fed.used le cut t, inside_behind old new (take room ahead) nothing wants.takes)

pub drew_done : (old new : Place) (ahead left d : List ℕ) (room : ℕ) (fed : ChunkFed) → Feeds old (take room ahead) fed new → fed.step ≡ Done
    → left ≡ drop fed.used ahead → Drew old ahead new left d drawn.Done
drew_done old new ahead left d room fed feeds is cut =
    let ends : Ends old (take room ahead) fed.used new = steps_at old new (take room ahead) fed Done feeds is in
    (taken_front old new ahead left [] room fed.used ends.within cut ends.takes, ends.at_end)

pub drew_bad : (old new : Place) (ahead left d : List ℕ) (room : ℕ) (fed : ChunkFed) (error : ChunkError) → Feeds old (take room ahead) fed new
    → fed.step ≡ Bad error → Drew old ahead new left d (drawn.Bad error)
drew_bad old new ahead left d room fed error feeds is =
    let refuses : Refuses old (take room ahead) fed.used error new = steps_at old new (take room ahead) fed (Bad error) feeds is in
    (take room ahead, drop room ahead, sym (take-append-drop room ahead), refuses.fails, refuses.refused)

-- ---- a pull without a read

at_once : (w : WireView) (g : GuardView) (P : List Act → Type 0) → w.aged ≡ false → g.last ≤ w.moment → P [] → Waited (side w g) (side w g) free P
at_once w g P fresh le p = waited_map (waited_same w g fresh le) (λ l none. subst P (sym none) p)

draws_front : (k : ℕ) (old new : Place) (ahead d left : List ℕ) → TakesFront old ahead d new left → Draws k old ahead d new left []
draws_front k old new ahead d left t = record { used = t.used; takes = t.takes; reads = sym t.bytes }

pub pulled_data : (w : WireView) (g : GuardView) (k : ℕ) (old new : Place) (ahead left d : List ℕ) (count : ℕ) → w.aged ≡ false → g.last ≤ w.moment
    → Drew old ahead new left d (drawn.Data count) → Waited (side w g) (side w g) free (Pulled k old ahead new left d (pulled.Data count))
pulled_data w g k old new ahead left d count fresh le t =
    at_once w g (Pulled k old ahead new left d (pulled.Data count)) fresh le (draws_front k old new ahead d left t.0, t.1, t.2, refl)

pub pulled_more : (w : WireView) (g : GuardView) (k : ℕ) (old new : Place) (ahead left d : List ℕ) → w.aged ≡ false → g.last ≤ w.moment
    → Drew old ahead new left d drawn.More → Waited (side w g) (side w g) free (Pulled k old ahead new left d pulled.More)
pulled_more w g k old new ahead left d fresh le t =
    at_once w g (Pulled k old ahead new left d pulled.More) fresh le (draws_front k old new ahead [] left t.0, inl refl)

pub pulled_done : (w : WireView) (g : GuardView) (k : ℕ) (old new : Place) (ahead left d : List ℕ) → w.aged ≡ false → g.last ≤ w.moment
    → Drew old ahead new left d drawn.Done → Waited (side w g) (side w g) free (Pulled k old ahead new left d pulled.Done)
pulled_done w g k old new ahead left d fresh le t =
    let front : TakesFront old ahead [] ended left = subst (λ (p : Place). TakesFront old ahead [] p left) t.1 t.0 in
    at_once w g (Pulled k old ahead new left d pulled.Done) fresh le (
      record { at = ended; ending = []; ends = inl (refl, refl, t.1); draws = ([], [], refl, draws_front k old ended ahead [] left front, refl) },
      inl refl,
    )

pub pulled_bad : (w : WireView) (g : GuardView) (k : ℕ) (old new : Place) (ahead left d : List ℕ) (error : ChunkError) → w.aged ≡ false → g.last ≤ w.moment
    → Drew old ahead new left d (drawn.Bad error) → Waited (side w g) (side w g) free (Pulled k old ahead new left d (pulled.Bad error))
pulled_bad w g k old new ahead left d error fresh le t =
    at_once w g (Pulled k old ahead new left d (pulled.Bad error)) fresh le (
      record {
        at = old;
        front = t.0;
        left = t.1;
        draws = record { used = []; takes = takes_none old; reads = sym t.2 };
        fails = t.3;
        behind = t.4;
      },
      refl,
    )

-- ---- a pull with a read

-- where nothing was ahead, nothing is
rest_none : (used left : List ℕ) → [] ≡ used ++ left → left ≡ []
rest_none [] left e = sym e
rest_none (b ∷ used) left e = absurd (let bad : 0 ≡ length (b ∷ (used ++ left)) = ap length e in omega (arith, bad))

pub none_left : (old new : Place) (ahead left : List ℕ) → ahead ≡ [] → Drew old ahead new left [] drawn.More → left ≡ []
none_left old new ahead left none t = rest_none t.0.used left (sym none ∙ t.0.bytes)

pub empty_of : (old new : Place) (ahead left : List ℕ) → ahead ≡ [] → Drew old ahead new left [] drawn.More → Drew old ahead new [] [] drawn.More
empty_of old new ahead left none t = subst (λ (l : List ℕ). Drew old ahead new l [] drawn.More) (none_left old new ahead left none t) t

-- all that was ahead was used, and it leaves the body open
all_used : (old new : Place) (ahead : List ℕ) (t : TakesFront old ahead [] new []) → t.used ≡ ahead
all_used old new ahead t = sym (t.bytes ∙ append-nil t.used)

part_used : (old new : Place) (ahead : List ℕ) → TakesFront old ahead [] new [] → is_inside new ≡ true → IsPartFrom old ahead
part_used old new ahead t inside = record {
  among = [];
  behind = new;
  takes = subst (λ (l : List ℕ). Takes old l [] new) (all_used old new ahead t) t.takes;
  inside = inside;
}

pub pulled_read : (a b : Side) (from to : LinkView) (old new : Place) (ahead piece d : List ℕ) (silence : _) → ahead ≡ [] → Drew old ahead new [] d drawn.More
    → HeardStep a b from to piece silence heard.Got → Waited a b free (Pulled from.number old ahead new piece d pulled.More)
pulled_read a b from to old new ahead piece d silence none t h =
    let draws : Draws from.number old ahead [] new piece (Read from.number piece ∷ []) =
    record {
      used = t.0.used;
      takes = t.0.takes;
      reads = (part_used old new ahead t.0 t.1, piece, refl, ap (λ l. l ++ piece) (all_used old new ahead t.0));
    }
    in
    waited_map h.waited (λ l is. subst (Pulled from.number old ahead new piece d pulled.More) (sym is) (draws, inr (none, omega arith)))

loss_short : (k : ℕ) (why : Loss) → length (loss_acts k why) ≤ 1
loss_short k loss.End = omega arith
loss_short k loss.Failed = omega arith
loss_short k (loss.Stopped why) = omega arith

-- what stands behind what was drawn
drawn_behind : (k : ℕ) (old new : Place) (ahead : List ℕ) (ending : List Act) → TakesFront old ahead [] new []
    → Then (Draws k old ahead [] new []) (Acts ending) ending
drawn_behind k old new ahead ending t = ([], ending, refl, draws_front k old new ahead [] [] t, refl)

pub pulled_lost : (a b : Side) (from to : LinkView) (old new next : Place) (ahead left d : List ℕ) (silence : _) (why : Loss) (result : Pull) → ahead ≡ [] → left ≡ []
    → Drew old ahead new [] d drawn.More → HeardStep a b from to left silence (heard.Lost why) → Leaves new next why result
    → Waited a b (pull_bill silence result) (Pulled from.number old ahead next left d result)
pulled_lost a b from to old new next ahead left d silence why (pulled.Data n) idle none t h leaves = absurd leaves
pulled_lost a b from to old new next ahead left d silence why pulled.More idle none t h leaves = absurd leaves
pulled_lost a b from to old new next ahead left d silence why (pulled.Bad error) idle none t h leaves = absurd leaves
pulled_lost a b from to old new next ahead left d silence why pulled.Done idle none t h leaves =
    let ending : Waited a b free (Acts (LinkEnd from.number ∷ [])) = subst (λ (l : Loss). Waited a b (loss_bill silence l) (Acts (loss_acts from.number l))) leaves.0 h.waited in
    waited_map ending (λ l is. subst (Pulled from.number old ahead next left d pulled.Done) (sym is) (
      record {
        at = new;
        ending = LinkEnd from.number ∷ [];
        ends = inr (t.1, leaves.1, none, refl, leaves.2);
        draws = subst (λ (m : List ℕ). Then (Draws from.number old ahead [] new m) (Acts (LinkEnd from.number ∷ [])) (LinkEnd from.number ∷ [])) (sym none)
            (drawn_behind from.number old new ahead (LinkEnd from.number ∷ []) t.0);
      },
      inr (idle, omega arith),
    ))
pulled_lost a b from to old new next ahead left d silence why (pulled.Lost cause) idle none t h leaves =
    let waited : Waited a b (loss_bill silence cause) (Acts (loss_acts from.number cause)) =
    subst (λ (l : Loss). Waited a b (loss_bill silence l) (Acts (loss_acts from.number l))) (sym leaves.0) h.waited
    in
    waited_map waited (λ l is. subst (Pulled from.number old ahead next left d (pulled.Lost cause)) (sym is) (
      record {
        at = new;
        inside = t.1;
        short = subst (λ (l : Loss). IsShort new l) (sym leaves.0) leaves.1;
        draws = drawn_behind from.number old new ahead (loss_acts from.number cause) t.0;
        behind = leaves.2;
      },
      inr (idle, loss_short from.number cause),
    ))

pub lost_cause : (a b : Side) (from to : LinkView) (at new : Place) (silence : _) (why : Loss) (result : Pull) → LossCause a b from to silence why → Leaves at new why result
    → PullCause a b from to silence result
lost_cause a b from to at new silence why (pulled.Data n) c leaves = tt
lost_cause a b from to at new silence why pulled.More c leaves = tt
lost_cause a b from to at new silence why pulled.Done c leaves = tt
lost_cause a b from to at new silence why (pulled.Bad error) c leaves = tt
lost_cause a b from to at new silence why (pulled.Lost cause) c leaves = subst (λ (l : Loss). LossCause a b from to silence l) (sym leaves.0) c

-- a body that the link's end cuts short stands where it stood
short_stays : (at : Place) → (HasBody at [] [] [] → ⊥) → behind_link at ≡ at
short_stays (Counted left) short = refl
short_stays (Chunked p) short = refl
short_stays (ToEnd left) short = absurd (short (refl, refl, omega arith))
short_stays (Refused fault) short = refl

pub leaves_short : (at new : Place) → (HasBody at [] [] [] → ⊥) → new ≡ behind_link at → Leaves at new loss.End (pulled.Lost loss.End)
leaves_short at new short is = (refl, short, is ∙ short_stays at short)
