-- The routes of a file, and the hosts that they lead to.
use Rattle.std.specs.Prelude.{ℕ, suc, ◌<◌, ◌+◌, Bool, true, false, not, ◌==◌, ◌&&◌, if◌then◌else◌, nat_le, nat_lt, List, [], ◌∷◌, ◌++◌, length, take, drop, map, position, Option, Some, None, Result, Ok, Err, codes, bytes_eq}
use Rattle.std.specs.Bool.{beq}
use Rattle.std.specs.List.{list_all}
use Rattle.serde_json.specs.Data.{Data, Items, no_items, item}
use Rattle.gw_wire.specs.declared.values.Addr.{Addr}
use Rattle.gw_pattern.specs.declared.fault.PatternError.{PatternError}
use Rattle.gw_pattern.specs.declared.fault.PatternError.TheVariants as text
use Rattle.gw_pattern.specs.Pattern.{Spelled, spelled_of}
use Rattle.gw_pattern.specs.Text.{pattern_said}
use Rattle.gw_routes.specs.declared.fault.GCode.TheVariants.{OutOfRange, Pattern, BadAddress}
use Rattle.gw_routes.specs.declared.fault.RouteError.TheVariants.{Bad, NoMemory}
use Rattle.gw_routes.specs.declared.table.Route.{Route}
use Rattle.gw_routes.specs.declared.table.Action.{Action}
use Rattle.gw_routes.specs.declared.table.Action.TheVariants.{Backend, Stop}
use Rattle.gw_routes.specs.declared.kinds.Bounds.{Bounds}
use Rattle.gw_routes.specs.declared.route.Target.{Target}
use Rattle.gw_routes.specs.declared.route.Target.TheVariants.{Address, Gate}
use Rattle.gw_routes.specs.declared.route.Work.{Work}
use Rattle.gw_routes.specs.declared.route.Written.{Written}
use Rattle.gw_routes.specs.declared.placing.Placed.{Placed}
use Rattle.gw_routes.specs.Addresses.{address_of}
use Rattle.gw_routes.specs.Kinds.{Said, ◌>>=◌, fault, or_fault, flag_said, text_said, list_said, number_said}
use Rattle.gw_routes.specs.Names.{names_said, route_kind}

-- ---- one route

-- the pattern of a text; its fault has the place in the text
abbrev pub in_route : ℕ → Result Spelled PatternError → Said Spelled
in_route i (Ok p) = Ok p
in_route i (Err (text.Bad code at)) = Err (Bad Pattern (Some i) (Some (code, at)))
in_route i (Err text.NoMemory) = Err NoMemory

unfoldable pub route_pattern : ℕ → List ℕ → Said Spelled
route_pattern i text = in_route i (pattern_said text)

abbrev pub scheme : List ℕ
scheme = codes "http://"

-- where the first slash of a text stands, or its end
abbrev pub place_or : ℕ → Option ℕ → ℕ
place_or end None = end
place_or end (Some place) = place

abbrev pub is_slash : ℕ → Bool
is_slash b = b == 47

abbrev pub slash_at : List ℕ → ℕ
slash_at text = place_or (length text) (position is_slash text)

-- a visible byte that neither ends a path nor begins an escape (RFC 3986, section 3.3)
abbrev pub is_base_byte : ℕ → Bool
is_base_byte b = nat_le 33 b && (nat_le b 126 && (not (b == 63) && (not (b == 35) && not (b == 37))))

abbrev pub max_base : ℕ
max_base = 1024

abbrev pub is_base : List ℕ → Bool
is_base base = nat_le (length base) max_base && list_all is_base_byte base

abbrev pub with_base : List ℕ → Option Addr → Option (Addr × List ℕ)
with_base base None = None
with_base base (Some addr) = Some (addr, base)

-- an address, and the base that begins at the first slash; without a slash it is empty
abbrev pub backend_in : List ℕ → Option (Addr × List ℕ)
backend_in text =
    if is_base (drop (slash_at text) text) then with_base (drop (slash_at text) text) (address_of (take (slash_at text) text)) else None

-- a backend: the scheme, an address and a base
abbrev pub backend_of : List ℕ → Option (Addr × List ℕ)
backend_of text = if bytes_eq (take 7 text) scheme then backend_in (drop 7 text) else None

unfoldable pub backend_said : ℕ → List ℕ → Said (Addr × List ℕ)
backend_said i text = or_fault BadAddress (Some i) (backend_of text)

abbrev pub timeout_bounds : Bounds
timeout_bounds = record { least = 1; most = 3600000; default = 30000 }

abbrev pub buffer_bounds : Bounds
buffer_bounds = record { least = 0; most = 1048576; default = 65536 }

-- what a route does with its requests, and in which limits
pub record WorkText : Type 0 where
  pub target : Target
  pub timeout : ℕ
  pub buffer : ℕ

-- that of a stop route, which names no limits
abbrev pub stop_work : WorkText
stop_work = record { target = Gate; timeout = 30000; buffer = 65536 }

-- that of a route with a backend
unfoldable pub backend_work : ℕ → Data → Said WorkText
backend_work i d = do
  backend ← text_said (codes "backend") (Some i) d
  place ← backend_said i backend
  timeout ← number_said (codes "timeout") timeout_bounds (Some i) d
  buffer ← number_said (codes "buffer") buffer_bounds (Some i) d
  Ok (record { target = Address place.0 place.1; timeout = timeout; buffer = buffer })

unfoldable pub work_by : Bool → ℕ → Data → Said WorkText
work_by true i d = Ok stop_work
work_by false i d = backend_work i d

unfoldable pub work_said : ℕ → Data → Said WorkText
work_said i d = do
  stop ← flag_said (codes "stop") false (Some i) d
  work_by stop i d

abbrev pub work_text : Work → WorkText
work_text w = record { target = w.target; timeout = w.timeout; buffer = w.buffer }

-- a route as it is written
pub record RouteText : Type 0 where
  pub text : List ℕ
  pub pattern : Spelled
  pub target : Target
  pub timeout : ℕ
  pub buffer : ℕ

unfoldable pub route_said : ℕ → Data → Said RouteText
route_said i d = do
  known ← names_said (route_kind d) (Some i) d
  text ← text_said (codes "pattern") (Some i) d
  pattern ← route_pattern i text
  work ← work_said i d
  Ok (record { text = text; pattern = pattern; target = work.target; timeout = work.timeout; buffer = work.buffer })

abbrev pub route_text : Written → RouteText
route_text w = record { text = w.text; pattern = spelled_of w.pattern; target = w.target; timeout = w.timeout; buffer = w.buffer }

-- ---- hosts are numbered as they first appear

abbrev pub is_same : Addr → Addr → Bool
is_same a b = beq a.local b.local && (bytes_eq a.ip b.ip && (a.port == b.port))

abbrev pub host_at : List Addr → Option ℕ → ℕ
host_at hosts None = length hosts
host_at hosts (Some host) = host

abbrev pub hosts_at : List Addr → Addr → Option ℕ → List Addr
hosts_at hosts addr None = hosts ++ addr ∷ []
hosts_at hosts addr (Some host) = hosts

-- the number of an address among the hosts, or of the next host
abbrev pub host_of : List Addr → Addr → ℕ
host_of hosts addr = host_at hosts (position (is_same addr) hosts)

-- the hosts, and this one where it is not among them
abbrev pub hosts_with : List Addr → Addr → List Addr
hosts_with hosts addr = hosts_at hosts addr (position (is_same addr) hosts)

-- ---- all routes

-- the routes up to a place
pub record RouteList : Type 0 where
  pub hosts : List Addr
  pub routes : List Route
  pub patterns : List Spelled

abbrev pub route_list : Placed → RouteList
route_list p = record { hosts = p.hosts; routes = p.routes.items; patterns = map spelled_of p.patterns.items }

-- what a target makes of the hosts: only a backend's address is one of them
abbrev pub hosts_of : List Addr → Target → List Addr
hosts_of hosts (Address addr base) = hosts_with hosts addr
hosts_of hosts Gate = hosts

abbrev pub action_of : List Addr → Target → Action
action_of hosts (Address addr base) = Backend (host_of hosts addr) base
action_of hosts Gate = Stop

-- the route that is written so, behind these hosts
abbrev pub route_of : List Addr → RouteText → Route
route_of hosts r = record { text = r.text; action = action_of hosts r.target; timeout = r.timeout; buffer = r.buffer }

-- one route more
unfoldable pub with_route : RouteList → RouteText → RouteList
with_route before r = record {
  hosts = hosts_of before.hosts r.target;
  routes = before.routes ++ route_of before.hosts r ∷ [];
  patterns = before.patterns ++ r.pattern ∷ [];
}

-- the routes from this number on, behind those before
unfoldable pub routes_from : ℕ → RouteList → Items → Said RouteList
routes_from i before no_items = Ok before
routes_from i before (item d ds) = do
  r ← route_said i d
  routes_from (i + 1) (with_route before r) ds

abbrev pub no_routes : RouteList
no_routes = record { hosts = []; routes = []; patterns = [] }

abbrev pub count_of : Items → ℕ
count_of no_items = 0
count_of (item d ds) = suc (count_of ds)

abbrev pub max_routes : ℕ
max_routes = 1024

unfoldable pub items_said : Items → Said RouteList
items_said ds =
    if nat_lt 0 (count_of ds) && nat_le (count_of ds) max_routes then routes_from 0 no_routes ds
    else fault OutOfRange None

unfoldable pub routes_said : Data → Said RouteList
routes_said d = do
  ds ← list_said (codes "routes") None d
  items_said ds

-- ---- what the numbers of all routes tell

-- the action's host is among so many
abbrev pub IsWithin : ℕ → Action → Type 0
IsWithin hosts (Backend host base) = host < hosts
IsWithin hosts Stop = Unit {0}
