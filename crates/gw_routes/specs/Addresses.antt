-- Addresses as they are written: each has one text.
use Rattle.std.specs.Prelude.{ℕ, ◌≡◌, ◌≢◌, ◌<◌, ◌++◌, ◌==◌, ◌&&◌, Bool, true, false, if◌then◌else◌, nat_lt, bytes_eq, codes, decimal, length, map, All, List, [], ◌∷◌, Option, Some, None}
use Rattle.std.specs.List.{slice_split, list_all}
use Rattle.std.specs.Net.Text.{ipv4_text}
use Rattle.std.specs.Str.Parse.{digits_value}
use Rattle.gw_wire.specs.declared.values.Addr.{Addr}
use Rattle.gw_wire.specs.AddressText.{address_text}

-- four bytes
pub record IsOctets (ip : List ℕ) : Type 0 where
  pub four : length ip ≡ 4
  pub bytes : All (λ b. b < 256) ip

-- an address that can be written: its port isn't 0, and `localhost` is 127.0.0.1
pub record IsAddress (a : Addr) : Type 0 where
  pub octets : IsOctets a.ip
  pub least : 0 < a.port
  pub most : a.port < 65536
  pub localhost : a.local ≡ true → a.ip ≡ 127 ∷ 0 ∷ 0 ∷ 1 ∷ []

-- a text split at its first byte of a value
pub record SplitsAt (byte : ℕ) (text front back : List ℕ) : Type 0 where
  pub parts : text ≡ front ++ byte ∷ back
  pub first : All (λ b. b ≢ byte) front

-- the texts of a host and of a port
abbrev pub IsHostText : Bool → List ℕ → List ℕ → Type 0
IsHostText local ip text = (local ≡ true → ip ≡ 127 ∷ 0 ∷ 0 ∷ 1 ∷ []) × IsOctets ip × (text ≡ (if local then codes "localhost" else ipv4_text ip))

pub record IsPortText (port : ℕ) (text : List ℕ) : Type 0 where
  pub least : 0 < port
  pub most : port < 65536
  pub spelled : text ≡ decimal port

-- ---- the address of a text

abbrev pub is_point : ℕ → Bool
is_point b = b == 46

abbrev pub is_colon : ℕ → Bool
is_colon b = b == 58

-- the numbers that points part
abbrev pub numbers_of : List ℕ → List ℕ
numbers_of host = map (digits_value 10) (slice_split is_point host)

-- the address that a host and a port may say
abbrev pub address_with : Bool → List ℕ → List ℕ → Addr
address_with true host port = record { local = true; ip = 127 ∷ 0 ∷ 0 ∷ 1 ∷ []; port = digits_value 10 port }
address_with false host port = record { local = false; ip = numbers_of host; port = digits_value 10 port }

-- the one address that a text of these parts may be
abbrev pub guess : List (List ℕ) → Addr
guess [] = address_with true [] []
guess (host ∷ []) = address_with true [] []
guess (host ∷ port ∷ parts) = address_with (bytes_eq host (codes "localhost")) host port

-- four bytes and a port that isn't 0
abbrev pub is_in_range : Addr → Bool
is_in_range a =
    (length a.ip == 4) && (list_all (λ b. nat_lt b 256) a.ip && (nat_lt 0 a.port && nat_lt a.port 65536))

-- the address, where it can be written and is written so
abbrev pub spelled_so : List ℕ → Addr → Option Addr
spelled_so text a = if is_in_range a && bytes_eq text (address_text a) then Some a else None

-- the address that a text is: read loosely, and then written again
unfoldable pub address_of : List ℕ → Option Addr
address_of text = spelled_so text (guess (slice_split is_colon text))
