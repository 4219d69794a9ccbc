-- The host of a request, without its port (RFC 9110, section 7.2; RFC 3986, section 3.2).
use Rattle.std.specs.Prelude.{ℕ, Bool, ◌&&◌, List, drop, slice_index, ◌==◌, if◌then◌else◌}
use Rattle.gw_head.specs.Pieces.{count_of, before, after}

-- a name or an IPv4 address, and a port: one ':' and no bracket
abbrev pub is_name_with_port : List ℕ → Bool
is_name_with_port host = count_of 58 host == 1 && (count_of 91 host == 0 && count_of 93 host == 0)

-- what stands behind the bracket is ':' and a port, in which no other ':' stands
abbrev pub is_port_part : List ℕ → Bool
is_port_part tail = slice_index tail 0 == 58 && count_of 58 tail == 1

-- an address in brackets, and a port: '[' stands first and alone, and one ']' before the port
abbrev pub is_literal_with_port : List ℕ → Bool
is_literal_with_port host =
    slice_index host 0 == 91 && (count_of 91 host == 1 && (count_of 93 host == 1 && is_port_part (after 93 host)))

-- the host that a pattern is compared with
unfoldable pub host_without_port : List ℕ → List ℕ
host_without_port host =
    if is_name_with_port host then before 58 host
    else (if is_literal_with_port host then drop 1 (before 93 host) else host)
