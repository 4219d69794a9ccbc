-- The laws of what a relay says.
use Rattle.std.proofs.Common.{ℕ, ◌≡◌, ◌↔◌, true, List, [], ◌∷◌, ◌++◌, All, refl, ap, sym, subst, ◌∙◌, append-nil, append_assoc, inl, inr}
use Rattle.std.proofs.lemmas.Bool.{eq-eqb}
use Rattle.std.proofs.lemmas.Grind.{flat_map-append}
use Rattle.std.proofs.lemmas.List.Elements.{All-append, All-cons, All-head, All-nil, All-tail}
use Rattle.gw_wire.specs.declared.values.Act.{Act}
use Rattle.gw_wire.specs.declared.values.Act.TheVariants.{Read, ReadFailed, WriteFailed}
use Rattle.gw_wire.specs.declared.values.Act.TheVariants.{End as LinkEnd}
use Rattle.gw_wire.specs.Acts.{bytes_read, is_of, read_of}
use Rattle.gw_wire.specs.Shuffle.{Ours}
use Rattle.gw_body.specs.declared.place.Place.{Place}
use Rattle.gw_body.specs.Laws.{BodiesFromFirst}
use Rattle.gw_body.specs.Places.{begins, HasBody}
use Rattle.gw_stream.specs.declared.drawing.Pull.TheVariants as pulled
use Rattle.gw_stream.specs.declared.waits.Loss.{Loss}
use Rattle.gw_stream.specs.declared.waits.Loss.TheVariants as loss
use Rattle.gw_stream.specs.declared.waits.Sent.TheVariants as sent
use Rattle.gw_stream.specs.Drawing.{Completes, EndsBy, HearsWhile}
use Rattle.gw_stream.specs.Relaying.{Came, text_of}
use Rattle.gw_stream.specs.RelayLaws.{ComesOfLink, DrawnIsBody, FrontOfText, PullsFollow, ReadsAreTaken, SaysToLink}
use Rattle.gw_stream.specs.Waits.{IsWriteOf, loss_acts}
use Rattle.gw_stream.proofs.ComesLemmas.{comes_of, comes_then}
use Rattle.gw_stream.proofs.TextLemmas.{front_of_text}

-- ---- bytes

reads_of : (k : ℕ) (piece : List ℕ) (acts : List Act) → bytes_read k (Read k piece ∷ acts) ≡ piece ++ bytes_read k acts
reads_of k piece acts = rw (eq-eqb k k refl) refl

pub heard_bytes : (W : List ℕ → Type 0) (k : ℕ) (ahead bytes : List ℕ) (acts : List Act) → HearsWhile W k ahead bytes acts → ahead ++ bytes_read k acts ≡ bytes
heard_bytes W k ahead bytes [] h = append-nil ahead ∙ sym h
heard_bytes W k ahead bytes (act ∷ acts) h =
    ap (λ a. ahead ++ bytes_read k (a ∷ acts)) h.2 ∙ ap (λ l. ahead ++ l) (reads_of k h.1 acts) ∙ sym (append_assoc ahead h.1 (bytes_read k acts))
    ∙ heard_bytes W k (ahead ++ h.1) bytes acts h.3

pub reads_taken : ReadsAreTaken
reads_taken link old new ahead d left acts draws = heard_bytes _ link ahead (draws.used ++ left) acts draws.reads

-- ---- a whole body

ending_bytes : (k : ℕ) (at new : Place) (left : List ℕ) (ending : List Act) → EndsBy k at new left ending → bytes_read k ending ≡ []
ending_bytes k at new left ending (inl e) = ap (bytes_read k) e.1
ending_bytes k at new left ending (inr e) = ap (bytes_read k) e.3

whole_from : (k : ℕ) (old at new : Place) (used d left : List ℕ) (ending : List Act) → ((more e rest : List ℕ) → HasBody at more e rest ↔ HasBody old (used ++ more) (d ++ e) rest)
    → EndsBy k at new left ending → HasBody old (used ++ left) d left
whole_from k old at new used d left ending has (inl e) =
    subst (λ (l : List ℕ). HasBody old (used ++ left) l left) (append-nil d)
    ((has left [] left).0 (subst (λ (p : Place). HasBody p left [] left) (sym e.0) (refl, refl)))
whole_from k old at new used d left ending has (inr e) =
    subst (λ (l : List ℕ). HasBody old (used ++ l) d l) (sym e.2)
    (subst (λ (l : List ℕ). HasBody old (used ++ []) l []) (append-nil d) ((has [] [] []).0 e.1))

completes_body : (link : ℕ) (old new : Place) (ahead d left : List ℕ) (acts : List Act) → Completes link old ahead d new left acts
    → HasBody old (ahead ++ bytes_read link acts) d left
completes_body link old new ahead d left acts c =
    let t = c.draws in
    let same : bytes_read link acts ≡ bytes_read link t.0 =
    ap (bytes_read link) (t.2 ∙ ap (λ l. t.0 ++ l) t.4) ∙ flat_map-append (read_of link) t.0 c.ending
    ∙ ap (λ l. bytes_read link t.0 ++ l) (ending_bytes link c.at new left c.ending c.ends) ∙ append-nil (bytes_read link t.0)
    in
    subst (λ (l : List ℕ). HasBody old l d left) (sym (ap (λ l. ahead ++ l) same ∙ reads_taken link old c.at ahead d left t.0 t.3))
    (whole_from link old c.at new t.3.used d left c.ending t.3.takes.has c.ends)

pub drawn_body : BodiesFromFirst → DrawnIsBody
drawn_body bodies link framing ahead d left new acts c =
    (bodies framing (ahead ++ bytes_read link acts) d left).1 (completes_body link (begins framing) new ahead d left acts c)

pub pulls_behind : PullsFollow
pulls_behind link old mid new ahead between left d e (pulled.Data n) x y size p q =
    comes_then link old mid new ahead between left d e Came.Inside x y p (comes_of link mid new between left e (pulled.Data n) y size q)
pulls_behind link old mid new ahead between left d e pulled.More x y size p q =
    comes_then link old mid new ahead between left d e Came.Inside x y p (comes_of link mid new between left e pulled.More y size q)
pulls_behind link old mid new ahead between left d e pulled.Done x y size p q =
    comes_then link old mid new ahead between left d e Came.Done x y p (comes_of link mid new between left e pulled.Done y size q)
pulls_behind link old mid new ahead between left d e (pulled.Bad error) x y size p q =
    comes_then link old mid new ahead between left d e (Came.Bad error) x y p (comes_of link mid new between left e (pulled.Bad error) y size q)
pulls_behind link old mid new ahead between left d e (pulled.Lost why) x y size p q =
    comes_then link old mid new ahead between left d e (Came.Lost why) x y p (comes_of link mid new between left e (pulled.Lost why) y size q)

pub fronts_begin : FrontOfText
fronts_begin head chunks d text f more = (text_of chunks (f.rest ++ more), front_of_text head chunks d text more f)

-- ---- whose acts they are

abbrev IsOwn : ℕ → Act → Type 0
IsOwn k act = is_of k act ≡ true

heard_own : (W : List ℕ → Type 0) (k : ℕ) (ahead bytes : List ℕ) (acts : List Act) → HearsWhile W k ahead bytes acts → Ours k acts
heard_own W k ahead bytes [] h = All-nil (IsOwn k)
heard_own W k ahead bytes (act ∷ acts) h =
    All-cons (IsOwn k) act acts (ap (is_of k) h.2 ∙ eq-eqb k k refl) (heard_own W k (ahead ++ h.1) bytes acts h.3)

ending_own : (k : ℕ) (at new : Place) (left : List ℕ) (ending : List Act) → EndsBy k at new left ending → Ours k ending
ending_own k at new left ending (inl e) = subst (Ours k) (sym e.1) (All-nil (IsOwn k))
ending_own k at new left ending (inr e) = subst (Ours k) (sym e.3) (All-cons (IsOwn k) (LinkEnd k) [] (eq-eqb k k refl) (All-nil (IsOwn k)))

loss_own : (k : ℕ) (why : Loss) → Ours k (loss_acts k why)
loss_own k loss.End = All-cons (IsOwn k) (LinkEnd k) [] (eq-eqb k k refl) (All-nil (IsOwn k))
loss_own k loss.Failed = All-cons (IsOwn k) (ReadFailed k) [] (eq-eqb k k refl) (All-nil (IsOwn k))
loss_own k (loss.Stopped why) = All-nil (IsOwn k)

own_then : (k : ℕ) (acts front back ending : List Act) → acts ≡ front ++ back → back ≡ ending → Ours k front → Ours k ending → Ours k acts
own_then k acts front back ending is same p q =
    subst (Ours k) (sym is) (All-append (IsOwn k) front back p (subst (Ours k) (sym same) q))

pub comes_own : ComesOfLink
comes_own link old new ahead d left Came.Inside acts c = heard_own _ link ahead _ acts c.reads
comes_own link old new ahead d left Came.Done acts c =
    let t = c.draws in own_then link acts t.0 t.1 c.ending t.2 t.4 (heard_own _ link ahead _ t.0 t.3.reads) (ending_own link c.at new left c.ending c.ends)
comes_own link old new ahead d left (Came.Bad error) acts c = heard_own _ link ahead _ acts c.draws.reads
comes_own link old new ahead d left (Came.Lost why) acts c =
    let t = c.draws in own_then link acts t.0 t.1 (loss_acts link why) t.2 t.4 (heard_own _ link ahead _ t.0 t.3.reads) (loss_own link why)

writes_own : (k : ℕ) (acts : List Act) → All (IsWriteOf k) acts → Ours k acts
writes_own k [] w = All-nil (IsOwn k)
writes_own k (act ∷ acts) w =
    let first = All-head (IsWriteOf k) act acts w in
    All-cons (IsOwn k) act acts (ap (is_of k) first.1 ∙ eq-eqb k k refl) (writes_own k acts (All-tail (IsWriteOf k) act acts w))

pub says_own : SaysToLink
says_own link bytes sent.All acts s = writes_own link acts s.only
says_own link bytes (sent.Failed some) acts s =
    let t = s.4 in
    own_then link acts t.0 t.1 (WriteFailed link ∷ []) t.2 t.4 (writes_own link t.0 t.3.only)
    (All-cons (IsOwn link) (WriteFailed link) [] (eq-eqb link link refl) (All-nil (IsOwn link)))
says_own link bytes (sent.Stopped why) acts s = writes_own link acts s.3.only
