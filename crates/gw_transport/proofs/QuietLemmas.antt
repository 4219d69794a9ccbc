-- What is counted of acts, where nothing is counted of what is read of a link, or of what is written to it.
use Rattle.std.proofs.Common.{ℕ, ◌≡◌, List, [], ◌∷◌, ◌++◌, All, refl, ap, ◌∙◌, inl, inr}
use Rattle.std.specs.List.{flat_map}
use Rattle.std.proofs.lemmas.Grind.{flat_map-append}
use Rattle.std.proofs.lemmas.List.Elements.{All-head, All-tail}
use Rattle.gw_wire.specs.declared.values.Act.{Act}
use Rattle.gw_wire.specs.declared.values.Act.TheVariants.{Read, ReadFailed, WriteFailed, Wrote}
use Rattle.gw_wire.specs.declared.values.Act.TheVariants.{End as LinkEnd}
use Rattle.gw_body.specs.declared.place.Place.{Place}
use Rattle.gw_retry.specs.declared.Failure.{Failure}
use Rattle.gw_retry.specs.declared.Failure.TheVariants as failure
use Rattle.gw_stream.specs.declared.waits.Loss.{Loss}
use Rattle.gw_stream.specs.declared.waits.Loss.TheVariants as loss
use Rattle.gw_stream.specs.declared.waits.Sent.{Sent}
use Rattle.gw_stream.specs.declared.waits.Sent.TheVariants as sent
use Rattle.gw_stream.specs.Drawing.{EndsBy, HearsWhile, IsPartFrom}
use Rattle.gw_stream.specs.Relaying.{Came, Comes}
use Rattle.gw_stream.specs.Waits.{IsWriteOf, Says, loss_acts}
use Rattle.gw_transport.specs.declared.attempts.Tried.{Tried}
use Rattle.gw_transport.specs.declared.attempts.Tried.TheVariants as tried
use Rattle.gw_transport.specs.declared.replying.Begun.{Begun}
use Rattle.gw_transport.specs.declared.replying.End.{End}
use Rattle.gw_transport.specs.declared.replying.End.TheVariants as end
use Rattle.gw_transport.specs.Replying.{HearsReply, IsOpenReply, LosesReply, Replies}

pub record SkipsReads (f : Act → List ℕ) (k : ℕ) : Type 0 where
  pub read : (piece : List ℕ) → f (Read k piece) ≡ []
  pub end : f (LinkEnd k) ≡ []
  pub failed : f (ReadFailed k) ≡ []

pub record SkipsWrites (f : Act → List ℕ) (k : ℕ) : Type 0 where
  pub wrote : (piece : List ℕ) → f (Wrote k piece) ≡ []
  pub failed : f (WriteFailed k) ≡ []

abbrev pub IsQuiet : (Act → List ℕ) → List Act → Type 0
IsQuiet f acts = flat_map f acts ≡ []

quiet_step : (f : Act → List ℕ) (act : Act) (acts : List Act) → f act ≡ [] → IsQuiet f acts → IsQuiet f (act ∷ acts)
quiet_step f act acts e q = ap (λ x. x ++ flat_map f acts) e ∙ q

pub quiet_then : (f : Act → List ℕ) (x y l : List Act) → l ≡ x ++ y → IsQuiet f x → IsQuiet f y → IsQuiet f l
quiet_then f x y l is p q = ap (flat_map f) is ∙ flat_map-append f x y ∙ ap (λ b. b ++ flat_map f y) p ∙ q

-- ---- writes

pub writes_quiet : (f : Act → List ℕ) (k : ℕ) → SkipsWrites f k → (acts : List Act) → All (IsWriteOf k) acts → IsQuiet f acts
writes_quiet f k s [] w = refl
writes_quiet f k s (act ∷ acts) w =
    let first = All-head (IsWriteOf k) act acts w in
    quiet_step f act acts (ap f first.1 ∙ s.wrote first.0) (writes_quiet f k s acts (All-tail (IsWriteOf k) act acts w))

pub says_quiet : (f : Act → List ℕ) (k : ℕ) → SkipsWrites f k → (text : List ℕ) (said : Sent) (acts : List Act) → Says k text said acts → IsQuiet f acts
says_quiet f k s text sent.All acts p = writes_quiet f k s acts p.only
says_quiet f k s text (sent.Failed some) acts p =
    let t = p.4 in
    quiet_then f t.0 t.1 acts t.2 (writes_quiet f k s t.0 t.3.only) (ap (flat_map f) t.4 ∙ quiet_step f (WriteFailed k) [] s.failed refl)
says_quiet f k s text (sent.Stopped why) acts p = writes_quiet f k s acts p.3.only

-- ---- reads

pub reads_quiet : (f : Act → List ℕ) (k : ℕ) → SkipsReads f k → (W : List ℕ → Type 0) (ahead bytes : List ℕ) (acts : List Act)
    → HearsWhile W k ahead bytes acts → IsQuiet f acts
reads_quiet f k s W ahead bytes [] h = refl
reads_quiet f k s W ahead bytes (act ∷ acts) h =
    quiet_step f act acts (ap f h.2 ∙ s.read h.1) (reads_quiet f k s W (ahead ++ h.1) bytes acts h.3)

hears_quiet : (f : Act → List ℕ) (k : ℕ) → SkipsReads f k → (bytes : List ℕ) (acts : List Act) → HearsReply k bytes acts → IsQuiet f acts
hears_quiet f k s bytes acts h = reads_quiet f k s IsOpenReply [] bytes acts h

loses_quiet : (f : Act → List ℕ) (k : ℕ) → SkipsReads f k → (count : ℕ) (behind : List ℕ) (ending acts : List Act) → IsQuiet f ending
    → LosesReply k count behind ending acts → IsQuiet f acts
loses_quiet f k s count behind ending acts none p =
    let t = p.hears in
    quiet_then f t.0 t.1 acts t.2 (hears_quiet f k s (p.front ++ behind) t.0 t.3) (ap (flat_map f) t.4 ∙ none)

end_quiet : (f : Act → List ℕ) (k : ℕ) → SkipsReads f k → IsQuiet f (LinkEnd k ∷ [])
end_quiet f k s = quiet_step f (LinkEnd k) [] s.end refl

failure_quiet : (f : Act → List ℕ) (k : ℕ) → SkipsReads f k → IsQuiet f (ReadFailed k ∷ [])
failure_quiet f k s = quiet_step f (ReadFailed k) [] s.failed refl

fails_quiet : (f : Act → List ℕ) (k : ℕ) → SkipsReads f k → (why : Failure) (method left : List ℕ) (place : Place) (acts : List Act)
    → Replies k method place left (tried.Failed why) acts → IsQuiet f acts
fails_quiet f k s failure.NothingWritten method left place acts p = absurd p
fails_quiet f k s failure.FirstByte method left place acts p = loses_quiet f k s 0 [] (ReadFailed k ∷ []) acts (failure_quiet f k s) p
fails_quiet f k s failure.ServerClosed method left place acts p = loses_quiet f k s 0 [] (LinkEnd k ∷ []) acts (end_quiet f k s) p
fails_quiet f k s failure.Broken method left place acts p =
    elim p.3 [
      | inl q ↦ loses_quiet f k s p.0 p.1 (LinkEnd k ∷ []) acts (end_quiet f k s) q
      | inr q ↦ loses_quiet f k s p.0 p.1 (ReadFailed k ∷ []) acts (failure_quiet f k s) q
    ]
fails_quiet f k s failure.BadResponse method left place acts p = hears_quiet f k s p.0 acts p.2
fails_quiet f k s failure.Deadline method left place acts p = loses_quiet f k s p.0 p.1 [] acts refl p.2
fails_quiet f k s failure.Cancelled method left place acts p = loses_quiet f k s p.0 p.1 [] acts refl p.2

pub replies_quiet : (f : Act → List ℕ) (k : ℕ) → SkipsReads f k → (method left : List ℕ) (place : Place) (result : Tried Begun End) (acts : List Act)
    → Replies k method place left result acts → IsQuiet f acts
replies_quiet f k s method left place (tried.Reply r) acts p = hears_quiet f k s (p.2.front ++ (p.2.text ++ left)) acts p.2.hears
replies_quiet f k s method left place (tried.Failed why) acts p = fails_quiet f k s why method left place acts p
replies_quiet f k s method left place (tried.Over end.NoMemory) acts p = hears_quiet f k s p.0 acts p.1
replies_quiet f k s method left place (tried.Over end.ClientEnd) acts p = absurd p
replies_quiet f k s method left place (tried.Over end.ClientFailed) acts p = absurd p
replies_quiet f k s method left place (tried.Over end.ClientTimeout) acts p = absurd p
replies_quiet f k s method left place (tried.Over (end.Body error)) acts p = absurd p

ending_quiet : (f : Act → List ℕ) (k : ℕ) → SkipsReads f k → (at new : Place) (left : List ℕ) (ending : List Act) → EndsBy k at new left ending → IsQuiet f ending
ending_quiet f k s at new left ending (inl e) = ap (flat_map f) e.1
ending_quiet f k s at new left ending (inr e) = ap (flat_map f) e.3 ∙ end_quiet f k s

pub loss_quiet : (f : Act → List ℕ) (k : ℕ) → SkipsReads f k → (why : Loss) → IsQuiet f (loss_acts k why)
loss_quiet f k s loss.End = end_quiet f k s
loss_quiet f k s loss.Failed = failure_quiet f k s
loss_quiet f k s (loss.Stopped why) = refl

pub comes_quiet : (f : Act → List ℕ) (k : ℕ) → SkipsReads f k → (old new : Place) (ahead d left : List ℕ) (came : Came) (acts : List Act)
    → Comes k old ahead d new left came acts → IsQuiet f acts
comes_quiet f k s old new ahead d left Came.Inside acts c = reads_quiet f k s (IsPartFrom old) ahead (c.used ++ left) acts c.reads
comes_quiet f k s old new ahead d left Came.Done acts c =
    let t = c.draws in
    quiet_then f t.0 t.1 acts t.2 (reads_quiet f k s (IsPartFrom old) ahead (t.3.used ++ left) t.0 t.3.reads)
    (ap (flat_map f) t.4 ∙ ending_quiet f k s c.at new left c.ending c.ends)
comes_quiet f k s old new ahead d left (Came.Bad error) acts c =
    reads_quiet f k s (IsPartFrom old) ahead (c.draws.used ++ (c.front ++ c.left)) acts c.draws.reads
comes_quiet f k s old new ahead d left (Came.Lost why) acts c =
    let t = c.draws in
    quiet_then f t.0 t.1 acts t.2 (reads_quiet f k s (IsPartFrom old) ahead (t.3.used ++ []) t.0 t.3.reads) (ap (flat_map f) t.4 ∙ loss_quiet f k s why)
