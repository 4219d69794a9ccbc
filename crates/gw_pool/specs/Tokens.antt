-- The tokens that are out.
use Rattle.std.specs.Prelude.{ℕ, Bool, true, false, List, [], ◌∷◌, ◌==◌, find, Option, Some, None, if◌then◌else◌}
use Rattle.gw_pool.specs.declared.holding.Holding.{Holding}

-- what contracts see of the tokens that are out, and for how many wants there is room
pub record TokensView : Type 0 where
  pub out : List Holding
  pub room : ℕ

-- whether a row is a want's
abbrev pub names : ℕ → Holding → Bool
names want h = h.want == want

-- tokens of a want that are out
abbrev pub holds : (Holding → Bool) → Option Holding → Bool
holds token None = false
holds token (Some h) = token h

abbrev pub has_ticket : ℕ → List Holding → Bool
has_ticket want out = holds (λ h. h.ticket) (find (names want) out)

abbrev pub has_dial : ℕ → List Holding → Bool
has_dial want out = holds (λ h. h.dial) (find (names want) out)

abbrev pub has_lease : ℕ → List Holding → Bool
has_lease want out = holds (λ h. h.lease) (find (names want) out)

-- a want's tokens become others; a want none of whose tokens is out is no longer named
abbrev pub is_held : Holding → Bool
is_held h = if h.ticket then true else (if h.dial then true else h.lease)

abbrev pub change : ℕ → (Holding → Holding) → List Holding → List Holding
change want f [] = []
change want f (h ∷ hs) = if names want h then (if is_held (f h) then f h ∷ hs else hs) else h ∷ change want f hs

abbrev pub ticket_of : ℕ → Holding
ticket_of want = record { want = want; ticket = true; dial = false; lease = false }

abbrev pub with_dial : Holding → Holding
with_dial h = record h { dial = true }

abbrev pub without_dial : Holding → Holding
without_dial h = record h { dial = false }

abbrev pub without_ticket : Holding → Holding
without_ticket h = record h { ticket = false }

abbrev pub leased : Holding → Holding
leased h = record h { ticket = false; lease = true }

abbrev pub without_lease : Holding → Holding
without_lease h = record h { lease = false }
