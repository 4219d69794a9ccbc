-- Stretches of a log: what a call, or a row of calls, has added to it.
use Rattle.std.specs.Prelude.{◌≡◌, List, ◌++◌, Option, ◌⊎◌}
use Rattle.gw_wire.specs.declared.values.Act.{Act}
use Rattle.gw_wire.specs.Acts.{Logs}

-- these acts were done, of which the fact holds, and a log that is told has grown by them
abbrev pub Told : Option (List Act) → Option (List Act) → (List Act → Type 0) → Type 0
Told old new P = (acts : List Act) × Logs old new acts × P acts

-- a stretch of these acts alone
abbrev pub Acts : List Act → List Act → Type 0
Acts acts stretch = stretch ≡ acts

-- a stretch that is one of the first kind and then one of the second
abbrev pub Then : (List Act → Type 0) → (List Act → Type 0) → List Act → Type 0
Then P Q stretch = (front : List Act) × (back : List Act) × (stretch ≡ front ++ back) × P front × Q back

-- a stretch of the first kind or of the second
abbrev pub Either : (List Act → Type 0) → (List Act → Type 0) → List Act → Type 0
Either P Q stretch = P stretch ⊎ Q stretch
