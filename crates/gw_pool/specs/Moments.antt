-- The moments that calls of the pool name.
use Rattle.std.specs.Prelude.{ℕ, List, [], ◌∷◌, flat_map}
use Rattle.gw_pool.specs.declared.entry.Call.{Call}
use Rattle.gw_pool.specs.declared.entry.Call.TheVariants as call
use Rattle.gw_pool.specs.declared.entry.Entry.{Entry}

-- the moment that a call names, if it names one
abbrev pub call_moments : Call → List ℕ
call_moments (call.Want host now) = now ∷ []
call_moments (call.Start want) = []
call_moments (call.Dialed want link now) = now ∷ []
call_moments (call.DialFailed want) = []
call_moments (call.Cancel want now) = now ∷ []
call_moments (call.GiveBack conn now) = now ∷ []
call_moments (call.Drop conn) = []
call_moments (call.Expire now) = now ∷ []
call_moments call.CloseIdle = []

-- those of entries, in their order
abbrev pub entry_moments : List Entry → List ℕ
entry_moments made = flat_map (λ entry. call_moments entry.call) made
