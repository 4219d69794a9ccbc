-- What a caller learns of a piece that it fed, by the step; and why the reader's answers are right.
use Rattle.std.proofs.Common.{◌≡◌, ℕ, List, ◌++◌, take, subst, sym, ap, ◌∙◌, inl}
use Rattle.std.specs.Prelude.{Result, Ok, Err}
use Rattle.gw_head.specs.declared.error.HeadError.{HeadError}
use Rattle.gw_head.specs.declared.error.Refusal.{Refusal}
use Rattle.gw_head.specs.declared.error.Refusal.TheVariants as refusal
use Rattle.gw_head.specs.declared.reader.Fed.{Fed}
use Rattle.gw_head.specs.declared.reader.Step.{Step}
use Rattle.gw_head.specs.declared.reader.Taken.{Taken}
use Rattle.gw_head.specs.declared.reader.Taken.TheVariants as taken
use Rattle.gw_head.specs.Head.{Judges}
use Rattle.gw_head.specs.Stage.{Stage, reads, closed, bytes_of, EndsIn, Brings, Feeds}
use Rattle.gw_head.specs.Take.{Takes, Concludes}

-- to a reader that reads
pub brought : {H : Type 0} (HeadOf : List ℕ → H → Type 0) (BadHead : List ℕ → HeadError → Type 0)
    (old new : Stage) (piece stream : List ℕ) (fed : Fed H) (step : Step H)
    → old ≡ reads stream → fed.step ≡ step → Feeds HeadOf BadHead old piece fed new
    → Brings HeadOf BadHead stream piece fed.used step new
brought HeadOf BadHead old new piece stream fed step reading is feeds =
    subst (λ s. Brings HeadOf BadHead stream piece fed.used s new) is
    (subst (λ s. Feeds HeadOf BadHead s piece fed new) reading feeds)

-- nothing else is a closed reader's answer
abbrev IsOpen : Taken → Type 0
IsOpen (taken.Closed error) = ⊥
IsOpen taken.More = Unit {0}
IsOpen (taken.Whole used) = Unit {0}
IsOpen taken.TooLong = Unit {0}

-- a whole head was judged
brings_judged : {H : Type 0} (HeadOf : List ℕ → H → Type 0) (BadHead : List ℕ → HeadError → Type 0)
    (new : Stage) (stream piece : List ℕ) (used : ℕ) (judged : Result H Refusal) (said : Step H)
    → EndsIn stream piece used → Judges HeadOf BadHead (stream ++ take used piece) judged
    → Concludes judged (stream ++ take used piece) said new
    → Brings HeadOf BadHead stream piece used said new
brings_judged HeadOf BadHead new stream piece used (Ok head) said ends judges concludes =
    subst (λ s. Brings HeadOf BadHead stream piece used s new) (sym concludes.0)
    (record { ends = ends; is_head = judges; stage = concludes.1 })
brings_judged HeadOf BadHead new stream piece used (Err (refusal.Bad error)) said ends judges concludes =
    subst (λ s. Brings HeadOf BadHead stream piece used s new) (sym concludes.0)
    (record { cause = inl (ends, judges); stage = (_, concludes.1) })
brings_judged HeadOf BadHead new stream piece used (Err refusal.NoMemory) said ends judges concludes =
    subst (λ s. Brings HeadOf BadHead stream piece used s new) (sym concludes.0)
    (judges.0, record { ends = ends; is_head = judges.1; stage = concludes.1 })

pub fed_whole : {H : Type 0} (HeadOf : List ℕ → H → Type 0) (BadHead : List ℕ → HeadError → Type 0)
    (old mid new : Stage) (piece kept : List ℕ) (used : ℕ) (found : Taken) (judged : Result H Refusal) (said : Step H)
    → found ≡ taken.Whole used → Takes old piece found mid → kept ≡ bytes_of mid
    → Judges HeadOf BadHead kept judged → Concludes judged (bytes_of mid) said new
    → Feeds HeadOf BadHead old piece (record { used = used; step = said }) new
fed_whole HeadOf BadHead (reads stream) mid new piece kept used found judged said is takes has judges concludes =
    let whole = subst (λ t. Takes (reads stream) piece t mid) is takes in
    let bytes : bytes_of mid ≡ stream ++ take used piece = ap bytes_of whole.2 in
    brings_judged HeadOf BadHead new stream piece used judged said whole.0
    (subst (λ b. Judges HeadOf BadHead b judged) (has ∙ bytes) judges)
    (subst (λ b. Concludes judged b said new) bytes concludes)
fed_whole HeadOf BadHead (closed error bytes) mid new piece kept used found judged said is takes has judges concludes =
    absurd (subst IsOpen (sym is ∙ takes.0) tt)
