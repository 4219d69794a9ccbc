-- The lines that the commands print.
use Rattle.std.specs.Prelude.{ℕ, List, ◌++◌, Option, Some, None, codes, decimal}
use Rattle.gw_wire.specs.declared.values.Addr.{Addr}
use Rattle.gw_wire.specs.AddressText.{address_text}
use Rattle.gw_pattern.specs.declared.fault.PCode.{PCode}
use Rattle.gw_pattern.specs.Fault.{code_text as pattern_code}
use Rattle.gw_routes.specs.declared.fault.GCode.{GCode}
use Rattle.gw_routes.specs.Codes.{code_text}

abbrev pub usage_line : List ℕ
usage_line = codes "usage: gateway serve ROUTES | check ROUTES | route ROUTES METHOD HOST PATH | drill SEED N\n"

abbrev pub unreadable_line : List ℕ → List ℕ
unreadable_line name = (codes "cannot read " ++ name) ++ codes "\n"

abbrev pub unheard_line : Addr → List ℕ
unheard_line listen = codes "cannot listen on " ++ address_text listen ++ codes "\n"

abbrev pub memory_line : List ℕ
memory_line = codes "out of memory\n"

abbrev pub accept_line : List ℕ
accept_line = codes "accept failed\n"

-- a fault of a route file: its code; the number of the route that it is in; the fault of a pattern's text with its place
abbrev pub bad_line : GCode → Option ℕ → Option (PCode × ℕ) → List ℕ
bad_line code None fault = codes "bad routes: " ++ (code_text code ++ codes "\n")
bad_line code (Some route) None = codes "bad routes: " ++ (code_text code ++ (codes " route " ++ (decimal route ++ codes "\n")))
bad_line code (Some route) (Some fault) =
    codes "bad routes: " ++ (code_text code ++ (codes " route " ++ (decimal route ++ (codes " " ++ (pattern_code fault.0
    ++ (codes " at " ++ (decimal fault.1 ++ codes "\n")))))))

abbrev pub conflict_line : ℕ → ℕ → List ℕ
conflict_line first second = codes "conflict: route " ++ (decimal first ++ (codes " and route " ++ (decimal second ++ codes "\n")))
