-- What is said of a JSON value (RFC 8259), or the first fault: by kinds and ranges.
-- The checks of each definition stand in their order, and the first that fails is the answer. A fault in a route has
-- the route's number.
use Rattle.std.specs.Prelude.{◌≡◌, ℕ, Bool, ◌&&◌, if◌then◌else◌, nat_le, List, Option, Some, None, option_and_then, Result, Ok, Err}
use Rattle.std.specs.Str.{is_utf8}
use Rattle.serde_json.specs.Data.{Data, Items}
use Rattle.serde_json.specs.Find.{get, as_bool, as_str, as_array, as_number, as_u64}
use Rattle.serde_json.specs.Read.{read}
use Rattle.gw_routes.specs.declared.fault.GCode.{GCode}
use Rattle.gw_routes.specs.declared.fault.GCode.TheVariants.{NotJson, Missing, WrongKind, OutOfRange}
use Rattle.gw_routes.specs.declared.fault.RouteError.{RouteError}
use Rattle.gw_routes.specs.declared.fault.RouteError.TheVariants.{Bad, Conflict, NoMemory}
use Rattle.gw_routes.specs.declared.kinds.Bounds.{Bounds}

-- what is said, or the fault
abbrev pub Said : Type 0 → Type 0
Said A = Result A RouteError

infixl 10 ◌>>=◌
abbrev pub ◌>>=◌ : {A B : Type 0} → Said A → (A → Said B) → Said B
(Ok x) >>= f = f x
(Err e) >>= f = Err e

-- what a call answered, seen by `seen`, is what is said; only memory may run out instead
abbrev pub Gives : {X Y : Type 0} → (X → Y) → Result X RouteError → Said Y → Type 0
Gives seen (Ok x) said = said ≡ Ok (seen x)
Gives seen (Err (Bad code route pattern)) said = said ≡ Err (Bad code route pattern)
Gives seen (Err (Conflict first second)) said = ⊥
Gives seen (Err NoMemory) said = Unit {0}

-- a fault that no pattern's text has
abbrev pub fault : {X : Type 0} → GCode → Option ℕ → Said X
fault code route = Err (Bad code route None)

-- what is there, or the fault
abbrev pub or_fault : {X : Type 0} → GCode → Option ℕ → Option X → Said X
or_fault code route None = fault code route
or_fault code route (Some x) = Ok x

-- the value of a file; JSON is UTF-8
abbrev pub json_of : List ℕ → Option Data
json_of bytes = if is_utf8 bytes then read bytes else None

unfoldable pub json_said : List ℕ → Said Data
json_said bytes = or_fault NotJson None (json_of bytes)

-- the member of that name
unfoldable pub required : List ℕ → Option ℕ → Data → Said Data
required name route d = or_fault Missing route (get name d)

-- the text of that name
unfoldable pub text_said : List ℕ → Option ℕ → Data → Said (List ℕ)
text_said name route d = do
  found ← required name route d
  or_fault WrongKind route (as_str found)

-- the list of that name
unfoldable pub list_said : List ℕ → Option ℕ → Data → Said Items
list_said name route d = do
  found ← required name route d
  or_fault WrongKind route (as_array found)

-- a whole number without sign below 2^64
abbrev pub whole_of : Data → Option ℕ
whole_of d = option_and_then as_u64 (as_number d)

unfoldable pub in_range : ℕ → ℕ → Option ℕ → ℕ → Said ℕ
in_range least most route n = if nat_le least n && nat_le n most then Ok n else fault OutOfRange route

-- a number that may be missing
unfoldable pub number_of : Bounds → Option ℕ → Option Data → Said ℕ
number_of bounds route None = Ok bounds.default
number_of bounds route (Some d) = do
  n ← or_fault WrongKind route (whole_of d)
  in_range bounds.least bounds.most route n

-- the number of that name
unfoldable pub number_said : List ℕ → Bounds → Option ℕ → Data → Said ℕ
number_said name bounds route d = number_of bounds route (get name d)

-- true or false, which may be missing
unfoldable pub flag_of : Bool → Option ℕ → Option Data → Said Bool
flag_of default route None = Ok default
flag_of default route (Some d) = or_fault WrongKind route (as_bool d)

-- what is true or false under that name
unfoldable pub flag_said : List ℕ → Bool → Option ℕ → Data → Said Bool
flag_said name default route d = flag_of default route (get name d)
