-- What contracts see of a world: its files, its listener and what it printed.
use Rattle.std.specs.Prelude.{ℕ, ◌≡◌, ◌≤◌, List, [], ◌∷◌, Option, Some, None, Vec, length, All, if◌then◌else◌, bytes_eq}
use Rattle.std.specs.Borrow.{Bor}
use Rattle.std.specs.declared.alloc.Global.{Global}
use Rattle.gw_wire.specs.declared.values.Addr.{Addr}
use Rattle.gw_wire.specs.declared.traits.Loaded.{Loaded}
use Rattle.gw_wire.specs.declared.traits.Loaded.TheVariants as loaded
use Rattle.gw_wire.specs.declared.traits.Listening.{Listening}
use Rattle.gw_wire.specs.declared.traits.Listening.TheVariants as listening
use Rattle.gw_wire.specs.declared.traits.Printed.{Printed}
use Rattle.gw_wire.specs.declared.traits.Printed.TheVariants as printing
use Rattle.gw_wire.specs.Causes.{Rose}
use Rattle.gw_wire.specs.Acts.{Logs}
use Rattle.gw_wire.specs.Wire.{WireView, IsFresh}

-- where a world listens, and for how many workers
pub record ListensAt : Type 0 where
  pub address : Addr
  pub workers : ℕ

-- the counts of what failed, and where they are told the printed bytes, the files and the last listener
pub record WorldView : Type 0 where
  pub file_faults : ℕ
  pub listen_faults : ℕ
  pub print_faults : ℕ
  pub groups : Addr → List Addr
  pub printed : Option (List ℕ)
  -- names with their bytes; of equal names the earlier one counts
  pub files : Option (List (List ℕ × List ℕ))
  pub listened : Option (Option ListensAt)

-- the bytes of the first file of a name
abbrev pub file_of : List (List ℕ × List ℕ) → List ℕ → Option (List ℕ)
file_of [] name = None
file_of (file ∷ files) name = if bytes_eq file.0 name then Some file.1 else file_of files name

-- the bytes that were lent are those that were looked for
abbrev pub FoundFile : Option (List ℕ) → Option (Bor (List ℕ)) → Type 0
FoundFile None None = Unit {0}
FoundFile None (Some lent) = ⊥
FoundFile (Some bytes) None = ⊥
FoundFile (Some bytes) (Some lent) = lent.now ≡ bytes

-- a world as any call leaves it: no count falls, and what is fixed stays
pub record WorldLater (old new : WorldView) : Type 0 where
  pub file_faults : old.file_faults ≤ new.file_faults
  pub listen_faults : old.listen_faults ≤ new.listen_faults
  pub print_faults : old.print_faults ≤ new.print_faults
  pub groups : new.groups ≡ old.groups
  pub files : new.files ≡ old.files

-- where the files are told, these are the bytes of the name
abbrev pub Holds : Option (List (List ℕ × List ℕ)) → List ℕ → List ℕ → Type 0
Holds None name bytes = Unit {0}
Holds (Some files) name bytes = file_of files name ≡ Some bytes

-- when each answer of a load may come; want of memory is free
abbrev pub LoadCause : WorldView → WorldView → List ℕ → Loaded → Type 0
LoadCause old new name (loaded.Bytes bytes) = Holds old.files name bytes.items
LoadCause old new name loaded.Failed = Rose old.file_faults new.file_faults
LoadCause old new name loaded.NoMemory = Unit {0}

pub record LoadStep (old new : WorldView) (name : List ℕ) (result : Loaded) : Type 0 where
  pub later : WorldLater old new
  pub cause : LoadCause old new name result
  pub printed : Logs old.printed new.printed []
  pub listened : new.listened ≡ old.listened

-- the last listener, where it is told, is this one
abbrev pub ListensNow : Option (Option ListensAt) → Addr → ℕ → Type 0
ListensNow None address workers = Unit {0}
ListensNow (Some last) address workers = last ≡ Some (record { address = address; workers = workers })

-- a wire that a listener gave: nothing has happened on it yet, and it has the world's groups
pub record IsGiven (world : WorldView) (wire : WireView) : Type 0 where
  pub fresh : IsFresh wire
  pub groups : (address : Addr) → wire.groups address ≡ world.groups address

-- when each answer of a listen may come; want of memory is free
abbrev pub ListenCause : {W : Type 0} → (W → WireView) → WorldView → WorldView → Addr → ℕ → Listening W → Type 0
ListenCause wire old new address workers (listening.Wires wires) =
    (length wires.items ≡ workers) × All (λ w. IsGiven old (wire w)) wires.items × ListensNow new.listened address workers
ListenCause wire old new address workers listening.Failed =
    Rose old.listen_faults new.listen_faults × (new.listened ≡ old.listened)
ListenCause wire old new address workers listening.NoMemory = new.listened ≡ old.listened

pub record ListenStep {W : Type 0} (wire : W → WireView) (old new : WorldView) (address : Addr) (workers : ℕ) (result : Listening W) : Type 0 where
  pub later : WorldLater old new
  pub cause : ListenCause wire old new address workers result
  pub printed : Logs old.printed new.printed []

-- what is told was told before
abbrev pub IsToldBefore : Option (List ℕ) → Option (List ℕ) → Type 0
IsToldBefore old None = Unit {0}
IsToldBefore None (Some new) = ⊥
IsToldBefore (Some old) (Some new) = Unit {0}

-- when each answer of a print may come: what was done is at the end of what was printed, where that is told
abbrev pub PrintCause : WorldView → WorldView → List ℕ → Printed → Type 0
PrintCause old new bytes printing.Done = Logs old.printed new.printed bytes
PrintCause old new bytes printing.Failed = Rose old.print_faults new.print_faults × IsToldBefore old.printed new.printed

pub record PrintStep (old new : WorldView) (bytes : List ℕ) (result : Printed) : Type 0 where
  pub later : WorldLater old new
  pub cause : PrintCause old new bytes result
  pub listened : new.listened ≡ old.listened

-- nothing has happened on a wire, which stands for no groups
pub record IsAlone (wire : WireView) : Type 0 where
  pub fresh : IsFresh wire
  pub groups : (address : Addr) → wire.groups address ≡ []

-- nothing has happened on any of the wires, where there are some
abbrev pub AreFresh : {W : Type 0} → (W → WireView) → Option (Vec W Global) → Type 0
AreFresh wire None = Unit {0}
AreFresh wire (Some wires) = All (λ w. IsAlone (wire w)) wires.items
