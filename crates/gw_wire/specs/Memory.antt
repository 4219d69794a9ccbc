-- What contracts see of the forms in memory.
use Rattle.std.specs.Prelude.{ℕ, ◌≡◌, nat_eq, Bool, true, false, List, [], Option, Some, None, Vec, vec_len, if◌then◌else◌}
use Rattle.std.specs.declared.alloc.Global.{Global}
use Rattle.gw_wire.specs.declared.values.Act.{Act}
use Rattle.gw_wire.specs.declared.values.Addr.{Addr}
use Rattle.gw_wire.specs.declared.memory.script.AcceptEvent.{AcceptEvent}
use Rattle.gw_wire.specs.declared.memory.script.DialEvent.{DialEvent}
use Rattle.gw_wire.specs.declared.memory.script.Moment.{Moment}
use Rattle.gw_wire.specs.Acts.{Appends}
use Rattle.gw_wire.specs.MemoryLink.{counted}
use Rattle.gw_wire.specs.Script.{first_moment}
use Rattle.gw_wire.specs.declared.traits.Listening.{Listening}
use Rattle.gw_wire.specs.declared.traits.Listening.TheVariants as listening
use Rattle.gw_wire.specs.declared.traits.Loaded.{Loaded}
use Rattle.gw_wire.specs.declared.traits.Loaded.TheVariants as loaded
use Rattle.gw_wire.specs.declared.traits.Printed.{Printed}
use Rattle.gw_wire.specs.declared.traits.Printed.TheVariants as printing
use Rattle.gw_wire.specs.Wire.{WireView}
use Rattle.gw_wire.specs.World.{WorldView, ListensAt, file_of}

-- a wire in memory: it stands for no groups
pub record WireState : Type 0 where
  pub accept_faults : ℕ
  pub dial_faults : ℕ
  pub ticks : ℕ
  pub rests : ℕ
  pub moment : ℕ
  pub first : ℕ
  pub asked : ℕ
  pub aged : Bool
  pub ended : Bool
  pub log : Option (List Act)
  -- how many acts there were, told or not
  pub acts : ℕ
  -- what is left of its scripts
  pub accepts : List AcceptEvent
  pub dials : List DialEvent
  pub moments : List Moment

abbrev pub wire_view : WireState → WireView
wire_view w = record {
  accept_faults = w.accept_faults;
  dial_faults = w.dial_faults;
  ticks = w.ticks;
  rests = w.rests;
  moment = w.moment;
  first = w.first;
  asked = w.asked;
  aged = w.aged;
  ended = w.ended;
  groups = λ _. [];
  log = w.log;
}

-- a wire in memory on which nothing fails
abbrev pub honest_view : WireState → WireView
honest_view w = record (wire_view w) { accept_faults = 0; dial_faults = 0 }

-- a world in memory: it stands for no groups
pub record WorldState : Type 0 where
  pub file_faults : ℕ
  pub listen_faults : ℕ
  pub print_faults : ℕ
  pub printed : Option (List ℕ)
  pub files : List (List ℕ × List ℕ)
  pub listened : Option ListensAt
  -- whether it prints, and how many wires it has to give, if any
  pub prints : Bool
  pub wires : Option ℕ

abbrev pub world_view : WorldState → WorldView
world_view w = record {
  file_faults = w.file_faults;
  listen_faults = w.listen_faults;
  print_faults = w.print_faults;
  groups = λ _. [];
  printed = w.printed;
  files = Some w.files;
  listened = Some w.listened;
}

-- the log of a wire that tells these acts, or nothing
abbrev pub log_of : Bool → List Act → Option (List Act)
log_of telling acts = if telling then Some acts else None

-- a log in memory: its acts where it tells them, and how many there were
pub record LogState : Type 0 where
  pub told : Option (List Act)
  pub acts : ℕ

-- a log has one act more, where it is told
pub record Grows (old new : LogState) (act : Act) : Type 0 where
  pub told : Appends old.told new.told act
  pub acts : new.acts ≡ counted old.acts

-- a wire in memory that was just made of its scripts
abbrev pub fresh_state : List AcceptEvent → List DialEvent → List Moment → WireState
fresh_state accepts dials moments = record {
  accept_faults = 0;
  dial_faults = 0;
  ticks = 0;
  rests = 0;
  moment = first_moment moments;
  first = first_moment moments;
  asked = 0;
  aged = false;
  ended = false;
  log = Some [];
  acts = 0;
  accepts = accepts;
  dials = dials;
  moments = moments;
}

-- how many wires there are to give, if any
abbrev pub count_of : {W : Type 0} → Option (Vec W Global) → Option ℕ
count_of None = None
count_of (Some wires) = Some (vec_len wires)

-- bytes that are told, or not
abbrev pub told_when : Bool → List ℕ → Option (List ℕ)
told_when telling bytes = if telling then Some bytes else None

abbrev pub listens_at : Option (Addr × ℕ) → Option ListensAt
listens_at None = None
listens_at (Some at) = Some (record { address = at.0; workers = at.1 })

-- whether a world that has so many wires to give, if any, gives them to so many workers
abbrev pub gives_wires : Option ℕ → ℕ → Bool
gives_wires None workers = false
gives_wires (Some count) workers = nat_eq count workers

-- when a world in memory answers a load so; want of memory is free
abbrev pub LoadPlays : WorldState → List ℕ → Loaded → Type 0
LoadPlays w name (loaded.Bytes bytes) = file_of w.files name ≡ Some bytes.items
LoadPlays w name loaded.Failed = file_of w.files name ≡ None
LoadPlays w name loaded.NoMemory = Unit {0}

abbrev pub ListenPlays : {W : Type 0} → WorldState → ℕ → Listening W → Type 0
ListenPlays w workers (listening.Wires wires) = gives_wires w.wires workers ≡ true
ListenPlays w workers listening.Failed = gives_wires w.wires workers ≡ false
ListenPlays w workers listening.NoMemory = ⊥

abbrev pub PrintPlays : WorldState → Printed → Type 0
PrintPlays w printing.Done = w.prints ≡ true
PrintPlays w printing.Failed = w.prints ≡ false

-- a world in memory that was just made
abbrev pub fresh_world : List (List ℕ × List ℕ) → Option ℕ → Bool → WorldState
fresh_world files wires prints = record {
  file_faults = 0;
  listen_faults = 0;
  print_faults = 0;
  printed = Some [];
  files = files;
  listened = None;
  prints = prints;
  wires = wires;
}
