-- Fields that belong to one connection and go no further (RFC 9110, section 7.6.1).
use Rattle.std.specs.Prelude.{ℕ, Bool, not, ◌||◌, List, [], ◌∷◌, codes, filter}
use Rattle.std.specs.List.{list_any}
use Rattle.std.specs.Str.{str_eq_ignore_ascii_case}
use Rattle.gw_fields.specs.Fields.{has_token}

-- the names that are always those of such fields
abbrev pub hop_names : List (List ℕ)
hop_names =
    codes "connection" ∷ codes "proxy-connection" ∷ codes "keep-alive" ∷ codes "proxy-authenticate"
    ∷ codes "proxy-authorization" ∷ codes "te" ∷ codes "trailer" ∷ codes "transfer-encoding" ∷ codes "upgrade" ∷ []

abbrev pub is_hop_name : List ℕ → Bool
is_hop_name name = list_any (str_eq_ignore_ascii_case name) hop_names

-- among these fields, those of that name go no further: it is such a name, or Connection lists it
abbrev pub is_hop : List (List ℕ × List ℕ) → List ℕ → Bool
is_hop fields name = is_hop_name name || has_token (codes "connection") name fields

-- the fields that may be handed on, in their order
abbrev pub without_hops : List (List ℕ × List ℕ) → List (List ℕ × List ℕ)
without_hops fields = filter (λ field. not (is_hop fields field.0)) fields
