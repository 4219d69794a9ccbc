-- When a request whose exchange failed may be sent again (RFC 9110, section 9.2.2, and Go's `net/http`,
-- "Transport").
use Rattle.std.specs.Prelude.{ℕ, Bool, true, false, ◌&&◌, ◌||◌, ◌⊎◌, List, [], ◌∷◌, codes, bytes_eq, nat_lt, IsTrue}
use Rattle.std.specs.List.{list_any}
use Rattle.gw_retry.specs.declared.BodyKind.{BodyKind}
use Rattle.gw_retry.specs.declared.BodyKind.TheVariants.{Empty, Rewindable, Once}
use Rattle.gw_retry.specs.declared.Failure.{Failure}
use Rattle.gw_retry.specs.declared.Failure.TheVariants.{NothingWritten, FirstByte, ServerClosed, Broken, BadResponse, Deadline, Cancelled}

-- the method only reads, so that a second request does what one does
abbrev pub only_reads : List ℕ → Bool
only_reads method = list_any (bytes_eq method) (codes "GET" ∷ codes "HEAD" ∷ codes "OPTIONS" ∷ codes "TRACE" ∷ [])

-- the body can be sent from its beginning once more
abbrev pub is_repeatable : BodyKind → Bool
is_repeatable Empty = true
is_repeatable Rewindable = true
is_repeatable Once = false

-- the failure leaves room for another attempt: always, never, or where a second request does no harm
abbrev pub is_passing : Failure → Bool → Bool
is_passing NothingWritten harmless = true
is_passing FirstByte harmless = harmless
is_passing ServerClosed harmless = harmless
is_passing Broken harmless = false
is_passing BadResponse harmless = false
is_passing Deadline harmless = false
is_passing Cancelled harmless = false

-- whether the request may be sent again after that attempt
abbrev pub may_retry_of : Failure → Bool → List ℕ → Bool → BodyKind → ℕ → Bool
may_retry_of failure reused method has_key body attempt =
    (reused && nat_lt attempt 8) && (is_repeatable body && is_passing failure (only_reads method || has_key))

-- the method or a key says that a second request does what one does
abbrev pub IsHarmless : List ℕ → Bool → Type 0
IsHarmless method has_key = IsTrue (only_reads method) ⊎ IsTrue has_key
