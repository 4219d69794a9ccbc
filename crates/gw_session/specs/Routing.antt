-- What is done with a request whose head is whole: by the route of its most specific pattern, or by the gateway itself.
use Rattle.std.specs.Prelude.{ℕ, ◌≡◌, ◌≤◌, ◌<◌, ◌⊎◌, true, false, length, List, Option, Some, None}
use Rattle.std.specs.List.{slice_get}
use Rattle.gw_wire.specs.declared.values.Addr.{Addr}
use Rattle.gw_head.specs.declared.request.RequestHead.{RequestHead}
use Rattle.gw_head.specs.Host.{host_without_port}
use Rattle.gw_mux.specs.declared.answer.Decision.{Decision}
use Rattle.gw_mux.specs.declared.answer.Decision.TheVariants as decision
use Rattle.gw_mux.specs.declared.answer.Hit.{Hit}
use Rattle.gw_mux.specs.Answer.{Decides}
use Rattle.gw_pool.specs.Lent.{Lent}
use Rattle.gw_proxy.specs.declared.own.Own.{Own}
use Rattle.gw_proxy.specs.declared.own.Own.TheVariants.{Options, Moved, NotAllowed, Plain}
use Rattle.gw_routes.specs.declared.table.Action.{Action}
use Rattle.gw_routes.specs.declared.table.Action.TheVariants.{Backend, Stop}
use Rattle.gw_routes.specs.declared.table.Route.{Route}
use Rattle.gw_routes.specs.declared.table.Table.{Table}
use Rattle.gw_routes.specs.Files.{AreNumbered}
use Rattle.gw_session.specs.declared.plan.Plan.{Plan}
use Rattle.gw_session.specs.declared.plan.Plan.TheVariants as plan

-- what is asked of a table: its numbers fit, and the pool has its hosts
pub record IsServable (table : Table) (lent : Lent) : Type 0 where
  pub numbered : AreNumbered table
  pub hosts : length table.hosts.items ≤ lent.limits.hosts

-- what the table's router decides for a request: by its method, its host without the port, its path and its query
abbrev pub IsDecided : Table → RequestHead → Decision → Type 0
IsDecided table head found = Decides table.mux head.method (host_without_port head.host) head.path head.query found

-- the request has a path, and the router decided for the route of this number
pub record IsRouted (table : Table) (head : RequestHead) (number : ℕ) : Type 0 where
  pub path : head.star ≡ false
  pub hit : Hit
  pub decided : IsDecided table head (decision.Route hit)
  pub number_is : hit.route ≡ number

-- the table's route of this number does so
pub record DoesSo (table : Table) (number : ℕ) (IsSo : Action → Type 0) : Type 0 where
  pub within : number < length table.routes.items
  pub route : Route
  pub route_is : slice_get table.routes.items number ≡ Some route
  pub does : IsSo route.action

abbrev pub IsBackend : Action → Type 0
IsBackend (Backend host base) = Unit {0}
IsBackend Stop = ⊥

-- it is passed on by that route, or that route shuts the gate
pub record IsPassed (table : Table) (head : RequestHead) (number : ℕ) : Type 0 where
  pub routed : IsRouted table head number
  pub passes : DoesSo table number IsBackend

pub record IsStop (table : Table) (head : RequestHead) (number : ℕ) : Type 0 where
  pub routed : IsRouted table head number
  pub stops : DoesSo table number (λ action. action ≡ Stop)

-- where a request goes: to the host of this number, at this address, behind this base; how many milliseconds it may take
-- from its routing on, and how many bytes of its body are read before it is sent
pub record Target : Type 0 where
  pub host : ℕ
  pub backend : Addr
  pub base : List ℕ
  pub timeout : ℕ
  pub buffer : ℕ

-- the route of that number leads there
pub record LeadsTo (table : Table) (number : ℕ) (target : Target) : Type 0 where
  pub route : Route
  pub route_is : slice_get table.routes.items number ≡ Some route
  pub action : route.action ≡ Backend target.host target.base
  pub host_is : slice_get table.hosts.items target.host ≡ Some target.backend
  pub timeout_is : route.timeout ≡ target.timeout
  pub buffer_is : route.buffer ≡ target.buffer

-- the gateway's own reply to a decision other than a route (RFC 9110, sections 15.4.2, 15.5.5 and 15.5.6)
abbrev pub own_of : Decision → Option Own
own_of (decision.Route hit) = None
own_of (decision.Redirect location) = Some (Moved location.items)
own_of (decision.NotAllowed methods) = Some (NotAllowed methods)
own_of decision.NotFound = Some (Plain 404)

-- the request has a path, and the router's decision has this reply
pub record IsDecidedSo (table : Table) (head : RequestHead) (own : Own) : Type 0 where
  pub path : head.star ≡ false
  pub found : Decision
  pub decided : IsDecided table head found
  pub reply_is : own_of found ≡ Some own

-- why the gateway answers a request by itself: it is for the gateway as a whole (RFC 9110, section 9.3.7), or the router
-- decided so
abbrev pub IsOwn : Table → RequestHead → Own → Type 0
IsOwn table head own = ((head.star ≡ true) × (own ≡ Options)) ⊎ IsDecidedSo table head own

-- ---- on the way

-- what a plan is right for
abbrev pub Plans : Table → RequestHead → Plan → Type 0
Plans table head (plan.Pass number) = IsPassed table head number
Plans table head (plan.Stop number) = IsStop table head number
Plans table head (plan.Own own) = IsOwn table head own

abbrev pub PlansRoute : Table → ℕ → Plan → Type 0
PlansRoute table number (plan.Pass n) = (n ≡ number) × DoesSo table number IsBackend
PlansRoute table number (plan.Stop n) = (n ≡ number) × DoesSo table number (λ action. action ≡ Stop)
PlansRoute table number (plan.Own own) = ⊥
