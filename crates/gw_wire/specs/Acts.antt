-- Words over a wire's log: what it has of one link, and how it grows.
use Rattle.std.specs.Prelude.{ℕ, ◌≡◌, nat_eq, List, [], ◌∷◌, ◌++◌, flat_map, filter, Bool, false, if◌then◌else◌, Option, Some, None}
use Rattle.gw_wire.specs.declared.values.Act.{Act}
use Rattle.gw_wire.specs.declared.values.Act.TheVariants.{Accepted, Dialed, DialFailed, Read, End, Wrote, ReadFailed, WriteFailed, Closed, AcceptFailed, Ended}

-- a list that is told after a call was told before it, and has these more at its end
abbrev pub Logs : {A : Type 0} → Option (List A) → Option (List A) → List A → Type 0
Logs old None more = Unit {0}
Logs None (Some new) more = ⊥
Logs (Some old) (Some new) more = new ≡ old ++ more

-- a log that is told was told before, and has this act more
abbrev pub Appends : Option (List Act) → Option (List Act) → Act → Type 0
Appends old new act = Logs old new (act ∷ [])

-- the bytes that an act read from link k
abbrev pub read_of : ℕ → Act → List ℕ
read_of k (Read link bytes) = if nat_eq link k then bytes else []
read_of k _ = []

-- the bytes that an act wrote to link k
abbrev pub written_of : ℕ → Act → List ℕ
written_of k (Wrote link bytes) = if nat_eq link k then bytes else []
written_of k _ = []

-- all bytes that were read from link k
abbrev pub bytes_read : ℕ → List Act → List ℕ
bytes_read k acts = flat_map (read_of k) acts

-- all bytes that link k took
abbrev pub bytes_written : ℕ → List Act → List ℕ
bytes_written k acts = flat_map (written_of k) acts

-- whether an act is one on link k
abbrev pub is_of : ℕ → Act → Bool
is_of k (Accepted link peer) = nat_eq link k
is_of k (Dialed host address link) = nat_eq link k
is_of k (DialFailed host address) = false
is_of k (Read link bytes) = nat_eq link k
is_of k (End link) = nat_eq link k
is_of k (Wrote link bytes) = nat_eq link k
is_of k (ReadFailed link) = nat_eq link k
is_of k (WriteFailed link) = nat_eq link k
is_of k (Closed link) = nat_eq link k
is_of k AcceptFailed = false
is_of k Ended = false

-- the acts on link k, in their order
abbrev pub acts_of : ℕ → List Act → List Act
acts_of k acts = filter (is_of k) acts
