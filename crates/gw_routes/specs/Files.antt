-- The table that a route file says, or its first fault.
use Rattle.std.specs.Prelude.{◌≡◌, ℕ, ◌<◌, ◌≤◌, All, List, map, length, None, Ok, Err, codes}
use Rattle.serde_json.specs.Data.{Data}
use Rattle.gw_wire.specs.declared.values.Addr.{Addr}
use Rattle.gw_pattern.specs.declared.form.Pattern.{Pattern}
use Rattle.gw_pattern.specs.Pattern.{spelled_of}
use Rattle.gw_pool.specs.declared.limits.Limits.{Limits}
use Rattle.gw_mux.specs.Table.{HasNoConflict, IsFirstConflict}
use Rattle.gw_routes.specs.declared.fault.GCode.TheVariants.{BadAddress}
use Rattle.gw_routes.specs.declared.fault.RouteError.{RouteError}
use Rattle.gw_routes.specs.declared.fault.RouteError.TheVariants.{Bad, Conflict, NoMemory}
use Rattle.gw_routes.specs.declared.kinds.Bounds.{Bounds}
use Rattle.gw_routes.specs.declared.pool_limits.PoolLimits.{PoolLimits}
use Rattle.gw_routes.specs.declared.table.Table.{Table}
use Rattle.gw_routes.specs.declared.top.Top.{Top}
use Rattle.gw_routes.specs.Addresses.{address_of}
use Rattle.gw_routes.specs.Kinds.{Said, ◌>>=◌, or_fault, json_said, text_said, number_said}
use Rattle.gw_routes.specs.declared.names.ObjectKind.TheVariants.{File}
use Rattle.gw_routes.specs.Names.{names_said}
use Rattle.gw_routes.specs.Routes.{IsWithin, RouteList, route_list, routes_said}

-- what the file says of the pool's idle connections, and of the connections to one backend
pub record PoolText : Type 0 where
  pub idle_total : ℕ
  pub idle_per_host : ℕ
  pub conns_per_host : ℕ
  pub idle_ms : ℕ

-- what stands at the top
pub record TopText : Type 0 where
  pub listen : Addr
  pub workers : ℕ
  pub pool : PoolText
  pub client_ms : ℕ
  pub grace_ms : ℕ
  pub journal : ℕ
  pub routes : RouteList

abbrev pub workers_bounds : Bounds
workers_bounds = record { least = 1; most = 64; default = 4 }

abbrev pub idle_total_bounds : Bounds
idle_total_bounds = record { least = 1; most = 1000; default = 100 }

abbrev pub idle_per_host_bounds : Bounds
idle_per_host_bounds = record { least = 0; most = 1000; default = 2 }

abbrev pub conns_per_host_bounds : Bounds
conns_per_host_bounds = record { least = 0; most = 1000; default = 0 }

abbrev pub idle_ms_bounds : Bounds
idle_ms_bounds = record { least = 0; most = 86400000; default = 90000 }

abbrev pub client_ms_bounds : Bounds
client_ms_bounds = record { least = 1; most = 86400000; default = 60000 }

abbrev pub grace_ms_bounds : Bounds
grace_ms_bounds = record { least = 0; most = 86400000; default = 10000 }

abbrev pub journal_bounds : Bounds
journal_bounds = record { least = 16; most = 4194304; default = 1048576 }

unfoldable pub listen_said : Data → Said Addr
listen_said d = do
  text ← text_said (codes "listen") None d
  or_fault BadAddress None (address_of text)

unfoldable pub pool_said : Data → Said PoolText
pool_said d = do
  idle_total ← number_said (codes "idle_total") idle_total_bounds None d
  idle_per_host ← number_said (codes "idle_per_host") idle_per_host_bounds None d
  conns_per_host ← number_said (codes "conns_per_host") conns_per_host_bounds None d
  idle_ms ← number_said (codes "idle_ms") idle_ms_bounds None d
  Ok (record { idle_total = idle_total; idle_per_host = idle_per_host; conns_per_host = conns_per_host; idle_ms = idle_ms })

unfoldable pub top_said : Data → Said TopText
top_said d = do
  known ← names_said File None d
  listen ← listen_said d
  workers ← number_said (codes "workers") workers_bounds None d
  pool ← pool_said d
  client_ms ← number_said (codes "client_ms") client_ms_bounds None d
  grace_ms ← number_said (codes "grace_ms") grace_ms_bounds None d
  journal ← number_said (codes "journal") journal_bounds None d
  routes ← routes_said d
  Ok (record { listen = listen; workers = workers; pool = pool; client_ms = client_ms; grace_ms = grace_ms; journal = journal; routes = routes })

abbrev pub pool_text : PoolLimits → PoolText
pool_text p = record { idle_total = p.idle_total; idle_per_host = p.idle_per_host; conns_per_host = p.conns_per_host; idle_ms = p.idle_ms }

abbrev pub top_text : Top → TopText
top_text t = record {
  listen = t.listen;
  workers = t.workers;
  pool = pool_text t.pool;
  client_ms = t.client_ms;
  grace_ms = t.grace_ms;
  journal = t.journal;
  routes = route_list t.routes;
}

unfoldable pub file_said : List ℕ → Said TopText
file_said bytes = do
  d ← json_said bytes
  top_said d

-- the limits of the pool: the file's own numbers, a pass for each worker, and the hosts that its routes name
abbrev pub limits_with : ℕ → PoolText → ℕ → ℕ → Limits
limits_with workers pool journal hosts = record {
  idle_total = pool.idle_total;
  idle_per_host = pool.idle_per_host;
  conns_per_host = pool.conns_per_host;
  idle_ms = pool.idle_ms;
  journal = journal;
  passes = workers;
  per_pass = 1;
  hosts = hosts;
}

abbrev pub limits_of : TopText → Limits
limits_of t = limits_with t.workers t.pool t.journal (length t.routes.hosts)

-- the table of what is said
pub record IsTableOf (t : TopText) (table : Table) : Type 0 where
  pub listen : table.listen ≡ t.listen
  pub workers : table.workers ≡ t.workers
  pub limits : table.limits ≡ limits_of t
  pub client_ms : table.client_ms ≡ t.client_ms
  pub grace_ms : table.grace_ms ≡ t.grace_ms
  pub hosts : table.hosts.items ≡ t.routes.hosts
  pub routes : table.routes.items ≡ t.routes.routes
  pub patterns : map spelled_of table.mux ≡ t.routes.patterns
  pub apart : HasNoConflict table.mux

abbrev pub Reads : List ℕ → Table → Type 0
Reads bytes table = (t : TopText) × (file_said bytes ≡ Ok t) × IsTableOf t table

-- the first fault of the file; a conflict where it has none
abbrev pub Refuses : List ℕ → RouteError → Type 0
Refuses bytes (Bad code route pattern) = file_said bytes ≡ Err (Bad code route pattern)
Refuses bytes (Conflict first second) =
    (t : TopText) × (patterns : List Pattern) × (file_said bytes ≡ Ok t) × (map spelled_of patterns ≡ t.routes.patterns)
    × IsFirstConflict patterns first second
Refuses bytes NoMemory = Unit {0}

-- why what stands at the top gives no table
abbrev pub RefusesTop : Top → RouteError → Type 0
RefusesTop top (Bad code route pattern) = ⊥
RefusesTop top (Conflict first second) = IsFirstConflict top.routes.patterns.items first second
RefusesTop top NoMemory = Unit {0}

-- what the numbers of a table tell: its routes have the numbers of its patterns, their hosts are the table's, and the
-- pool has each of the hosts
pub record AreNumbered (table : Table) : Type 0 where
  pub some : 0 < length table.routes.items
  pub few : length table.routes.items ≤ 1024
  pub paired : length table.mux ≡ length table.routes.items
  pub hosts : All (λ r. IsWithin (length table.hosts.items) r.action) table.routes.items
  pub timeouts : All (λ r. r.timeout ≤ 3600000) table.routes.items
  pub one : table.limits.per_pass ≡ 1
  pub pooled : table.limits.hosts ≡ length table.hosts.items

-- how many workers a table has, and a pass of the pool for each
pub record HasWorkers (table : Table) : Type 0 where
  pub least : 1 ≤ table.workers
  pub most : table.workers ≤ 64
  pub passes : table.limits.passes ≡ table.workers
