-- What is read of a file, over plain variables.
use Rattle.std.proofs.Common.{◌≡◌, ℕ, Bool, true, false, List, Some, None, Ok, Err, refl, ap}
use Rattle.std.specs.Str.{IsUtf8, is_utf8}
use Rattle.std.proofs.lemmas.Str.{IsUtf8-from_is_utf8, is_utf8-from_IsUtf8}
use Rattle.serde_json.specs.Data.{Data}
use Rattle.serde_json.specs.Read.{read}
use Rattle.gw_routes.specs.declared.fault.GCode.TheVariants.{NotJson}
use Rattle.gw_routes.specs.declared.fault.RouteError.TheVariants.{Bad}
use Rattle.gw_routes.specs.Kinds.{json_said, json_of, or_fault}

pub json_found : (bytes : List ℕ) (d : Data) → IsUtf8 bytes → read bytes ≡ Some d → json_said bytes ≡ Ok d
unfolding json_said
json_found bytes d utf8 e = rw (is_utf8-from_IsUtf8 bytes utf8, e) refl

json_by : (bytes : List ℕ) (b : Bool) → is_utf8 bytes ≡ b → (IsUtf8 bytes → read bytes ≡ None) → json_of bytes ≡ None
json_by bytes true is none = rw (is, none (IsUtf8-from_is_utf8 bytes is)) refl
json_by bytes false is none = rw is refl

pub json_none : (bytes : List ℕ) → (IsUtf8 bytes → read bytes ≡ None) → json_said bytes ≡ Err (Bad NotJson None None)
unfolding json_said
json_none bytes none = ap (λ o. or_fault NotJson None o) (json_by bytes (is_utf8 bytes) refl none)
