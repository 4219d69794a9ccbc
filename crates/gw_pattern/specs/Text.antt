-- What pattern a text says, or its first fault and the fault's place (Go 1.22's `net/http`, "Patterns").
-- The checks of each definition stand in their order, and the first that fails is the answer.
use Rattle.std.specs.Prelude.{◌≡◌, ℕ, ◌+◌, ◌-◌, Bool, true, false, not, ◌&&◌, ◌||◌, List, [], ◌∷◌, ◌++◌, length, take, drop, position, Option, Some, None, Result, Ok, Err, nat_le, ◌==◌, slice_index, if◌then◌else◌, codes, bytes_eq}
use Rattle.std.specs.List.{list_any, list_all}
use Rattle.std.specs.Char.{is_ascii_alphabetic, is_ascii_alphanumeric, is_ascii_hexdigit}
use Rattle.http.specs.Token.{is_token_byte}
use Rattle.percent_encoding.specs.Percent.{percent_sign, percent_decode}
use Rattle.gw_pattern.specs.declared.form.Seg.{Seg}
use Rattle.gw_pattern.specs.declared.form.Seg.TheVariants.{Literal, One, Rest, End}
use Rattle.gw_pattern.specs.declared.fault.PCode.TheVariants.{Empty, BadMethod, NoSlash, BraceInHost, Unclean, ConnectMethod, BadWildcardStart, BadWildcardEnd, EndNotLast, RestNotLast, EmptyName, BadName, DuplicateName, TooManySegments, TooManyWildcards}
use Rattle.gw_pattern.specs.declared.fault.PatternError.{PatternError}
use Rattle.gw_pattern.specs.declared.fault.PatternError.TheVariants.{Bad, NoMemory}
use Rattle.gw_pattern.specs.Path.{is_slash, parts_of, cleaned}
use Rattle.gw_pattern.specs.Pattern.{Spelled, wildcard_count}

-- what is said, or the fault
abbrev pub Said : Type 0 → Type 0
Said A = Result A PatternError

infixl 10 ◌>>=◌
abbrev pub ◌>>=◌ : {A B : Type 0} → Said A → (A → Said B) → Said B
(Ok x) >>= f = f x
(Err e) >>= f = Err e

-- what a call answered, seen by `seen`, is what is said; only memory may run out instead
abbrev pub Gives : {X Y : Type 0} → (X → Y) → Result X PatternError → Said Y → Type 0
Gives seen (Ok x) said = said ≡ Ok (seen x)
Gives seen (Err (Bad code at)) said = said ≡ Err (Bad code at)
Gives seen (Err NoMemory) said = Unit {0}

abbrev pub is_empty : {X : Type 0} → List X → Bool
is_empty xs = length xs == 0

-- the bytes that cut a text: ` `, `{` and `}`
abbrev pub is_space : ℕ → Bool
is_space b = b == 32

abbrev pub is_open_brace : ℕ → Bool
is_open_brace b = b == 123

abbrev pub is_close_brace : ℕ → Bool
is_close_brace b = b == 125

-- ---- wildcards

-- how many segments, and how many named wildcards, a pattern has at most
abbrev pub max_segments : ℕ
max_segments = 64

abbrev pub max_wildcards : ℕ
max_wildcards = 16

-- a letter or `_`, and then letters, digits or `_`, all ASCII
abbrev pub is_name_start : ℕ → Bool
is_name_start b = is_ascii_alphabetic b || b == 95

abbrev pub is_name_byte : ℕ → Bool
is_name_byte b = is_ascii_alphanumeric b || b == 95

abbrev pub is_name : List ℕ → Bool
is_name [] = false
is_name (b ∷ bs) = is_name_start b && list_all is_name_byte bs

-- the segment is a wildcard of this name
abbrev pub has_name : List ℕ → Seg → Bool
has_name name (Literal bytes) = false
has_name name (One own) = bytes_eq own name
has_name name (Rest own) = bytes_eq own name
has_name name End = false

-- the name of one more wildcard, at this place behind these segments
unfoldable pub name_said : ℕ → List Seg → List ℕ → Said (List ℕ)
name_said place before name =
    if is_empty name then Err (Bad EmptyName place)
    else (if not (is_name name) then Err (Bad BadName place)
    else (if list_any (has_name name) before then Err (Bad DuplicateName place)
    else (if nat_le max_wildcards (wildcard_count before) then Err (Bad TooManyWildcards place)
    else Ok name)))

abbrev pub dots : List ℕ
dots = codes "..."

-- a wildcard whose name ends in dots
unfoldable pub rest_said : ℕ → List Seg → Bool → List ℕ → Said Seg
rest_said place before is_last name =
    if not is_last then Err (Bad RestNotLast place)
    else (name_said place before name >>= (λ own. Ok (Rest own)))

unfoldable pub one_said : ℕ → List Seg → List ℕ → Said Seg
one_said place before name = name_said place before name >>= (λ own. Ok (One own))

unfoldable pub end_said : ℕ → Bool → Said Seg
end_said place is_last = if is_last then Ok End else Err (Bad EndNotLast place)

-- what stands between braces
unfoldable pub wildcard_said : ℕ → List Seg → Bool → List ℕ → Said Seg
wildcard_said place before is_last inner =
    if bytes_eq inner (codes "$") then end_said place is_last
    else (if bytes_eq (drop (length inner - length dots) inner) dots
    then rest_said place before is_last (take (length inner - length dots) inner)
    else one_said place before inner)

-- ---- literals

abbrev pub begins_with_hex : List ℕ → Bool
begins_with_hex [] = false
begins_with_hex (high ∷ []) = false
begins_with_hex (high ∷ low ∷ bs) = is_ascii_hexdigit high && is_ascii_hexdigit low

-- each `%` is followed by two hexadecimal digits
abbrev pub has_whole_escapes : List ℕ → Bool
has_whole_escapes [] = true
has_whole_escapes (b ∷ bs) = (if b == percent_sign then begins_with_hex bs else true) && has_whole_escapes bs

-- the bytes of a literal: with its escapes decoded, or as written where one is not whole
unfoldable pub literal_of : List ℕ → List ℕ
literal_of part = if has_whole_escapes part then percent_decode part else part

-- ---- segments

-- the part without its first and its last byte
abbrev pub inner_of : List ℕ → List ℕ
inner_of part = take (length part - 2) (drop 1 part)

-- a segment whose first open brace stands there
unfoldable pub braced_said : ℕ → List Seg → Bool → List ℕ → Option ℕ → Said Seg
braced_said place before is_last part None = Ok (Literal (literal_of part))
braced_said place before is_last part (Some brace) =
    if not (brace == 0) then Err (Bad BadWildcardStart place)
    else (if not (is_close_brace (slice_index part (length part - 1))) then Err (Bad BadWildcardEnd place)
    else wildcard_said place before is_last (inner_of part))

-- one more segment, at this place behind these; an empty part is that behind a slash at the path's end
unfoldable pub seg_said : ℕ → List Seg → Bool → List ℕ → Said Seg
seg_said place before is_last part =
    if nat_le max_segments (length before) then Err (Bad TooManySegments place)
    else (if is_empty part then Ok (Rest [])
    else braced_said place before is_last part (position is_open_brace part))

-- the segments, from the left: those before this place, and one for each part from here
unfoldable pub segs_said : ℕ → List Seg → List (List ℕ) → Said (List Seg)
segs_said place before [] = Ok before
segs_said place before (part ∷ parts) = do
  seg ← seg_said place before (is_empty parts) part
  segs_said (place + (length part + 1)) (before ++ seg ∷ []) parts

-- ---- the text

-- a path that begins there
unfoldable pub path_said : ℕ → List ℕ → Said (List Seg)
path_said place path =
    if not (bytes_eq (cleaned path) path) then Err (Bad Unclean place)
    else segs_said (place + 1) [] (parts_of (drop 1 path))

-- a host that begins there
unfoldable pub host_said : ℕ → List ℕ → Option ℕ → Said (List ℕ)
host_said place host None = Ok host
host_said place host (Some brace) = Err (Bad BraceInHost (place + brace))

-- the text behind the method, which begins there: a host up to the first slash, and a path from it on
unfoldable pub target_said : ℕ → List ℕ → Option ℕ → Said (List ℕ × List Seg)
target_said place target None = Err (Bad NoSlash place)
target_said place target (Some slash) = do
  host ← host_said place (take slash target) (position is_open_brace (take slash target))
  segs ← path_said (place + slash) (drop slash target)
  Ok (host, segs)

-- token (RFC 9110, section 5.6.2)
abbrev pub is_token : List ℕ → Bool
is_token bytes = not (is_empty bytes) && list_all is_token_byte bytes

-- what stands before the first space; where it is empty there is no method
unfoldable pub method_said : List ℕ → Said (Option (List ℕ))
method_said name =
    if is_empty name then Ok None
    else (if not (is_token name) then Err (Bad BadMethod 0)
    else (if bytes_eq name (codes "CONNECT") then Err (Bad ConnectMethod 0)
    else Ok (Some name)))

-- a text that is not empty, cut at its first space
abbrev pub front_of : List ℕ → Option ℕ → List ℕ
front_of text None = []
front_of text (Some space) = take space text

abbrev pub target_place : Option ℕ → ℕ
target_place None = 0
target_place (Some space) = space + 1

unfoldable pub cut_said : List ℕ → Option ℕ → Said Spelled
cut_said text space = do
  method ← method_said (front_of text space)
  target ← target_said (target_place space) (drop (target_place space) text) (position is_slash (drop (target_place space) text))
  Ok (record { method = method; host = target.0; segs = target.1 })

-- the pattern of a text
unfoldable pub pattern_said : List ℕ → Said Spelled
pattern_said text = if is_empty text then Err (Bad Empty 0) else cut_said text (position is_space text)
