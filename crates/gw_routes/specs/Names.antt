-- The names that are known.
use Rattle.std.specs.Prelude.{ℕ, Bool, true, false, ◌&&◌, ◌||◌, if◌then◌else◌, List, Option, Some, None, option_and_then, Ok, codes, bytes_eq, ⊤}
use Rattle.serde_json.specs.Data.{Data, Members, no_members, member}
use Rattle.serde_json.specs.Find.{get, as_bool, as_object}
use Rattle.gw_routes.specs.declared.names.ObjectKind.{ObjectKind}
use Rattle.gw_routes.specs.declared.names.ObjectKind.TheVariants.{File, BackendRoute, StopRoute}
use Rattle.gw_routes.specs.declared.fault.GCode.TheVariants.{UnknownName, WrongKind}
use Rattle.gw_routes.specs.Kinds.{Said, ◌>>=◌, fault, or_fault}

-- of the pool's numbers
abbrev pub is_pool_name : List ℕ → Bool
is_pool_name name =
    bytes_eq name (codes "idle_total") || bytes_eq name (codes "idle_per_host") || bytes_eq name (codes "conns_per_host") || bytes_eq name (codes "idle_ms")

-- of the times that the gateway waits
abbrev pub is_wait_name : List ℕ → Bool
is_wait_name name = bytes_eq name (codes "client_ms") || bytes_eq name (codes "grace_ms")

-- at the top
abbrev pub is_top_name : List ℕ → Bool
is_top_name name =
    bytes_eq name (codes "listen") || bytes_eq name (codes "workers") || is_pool_name name || is_wait_name name || bytes_eq name (codes "journal") || bytes_eq name (codes "routes")

-- in a route that shuts the gate
abbrev pub is_stop_name : List ℕ → Bool
is_stop_name name = bytes_eq name (codes "pattern") || bytes_eq name (codes "stop")

-- in a route with a backend
abbrev pub is_backend_name : List ℕ → Bool
is_backend_name name =
    is_stop_name name || bytes_eq name (codes "backend") || bytes_eq name (codes "timeout") || bytes_eq name (codes "buffer")

-- in an object of that kind
unfoldable pub is_known : ObjectKind → List ℕ → Bool
is_known File name = is_top_name name
is_known BackendRoute name = is_backend_name name
is_known StopRoute name = is_stop_name name

abbrev pub are_known : ObjectKind → Members → Bool
are_known kind no_members = true
are_known kind (member name d ms) = is_known kind name && are_known kind ms

unfoldable pub members_said : ObjectKind → Option ℕ → Members → Said ⊤
members_said kind route ms = if are_known kind ms then Ok tt else fault UnknownName route

-- it is an object, and each of its names is known
unfoldable pub names_said : ObjectKind → Option ℕ → Data → Said ⊤
names_said kind route d = do
  ms ← or_fault WrongKind route (as_object d)
  members_said kind route ms

-- a route shuts the gate only where its `stop` is true; where it is anything else, or missing, all names are known
abbrev pub kind_by : Option Bool → ObjectKind
kind_by None = BackendRoute
kind_by (Some false) = BackendRoute
kind_by (Some true) = StopRoute

abbrev pub route_kind : Data → ObjectKind
route_kind d = kind_by (option_and_then as_bool (get (codes "stop") d))
