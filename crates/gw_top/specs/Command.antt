-- The words of the command line.
use Rattle.std.specs.Prelude.{ℕ, ◌≡◌, ◌≢◌, true, Bool, ◌&&◌, not, ◌==◌, nat_le, List, [], ◌∷◌, String, string_bytes, codes}
use Rattle.std.specs.List.{list_all}
use Rattle.std.specs.declared.alloc.Global.{Global}
use Rattle.http_header.specs.Token.{IsToken}
use Rattle.gw_head.specs.Pieces.{before}
use Rattle.gw_head.specs.Target.{is_origin, has_bad_escape}
use Rattle.gw_top.specs.declared.command.Query.{Query}

-- `serve` and a name
abbrev pub IsServe : List (String Global) → Type 0
IsServe [] = ⊥
IsServe (verb ∷ []) = ⊥
IsServe (verb ∷ (name ∷ [])) = string_bytes verb ≡ codes "serve"
IsServe (verb ∷ (name ∷ (word ∷ words))) = ⊥

-- `check` and a name
abbrev pub IsCheck : List (String Global) → Type 0
IsCheck [] = ⊥
IsCheck (verb ∷ []) = ⊥
IsCheck (verb ∷ (name ∷ [])) = string_bytes verb ≡ codes "check"
IsCheck (verb ∷ (name ∷ (word ∷ words))) = ⊥

-- the name of the route file in such words, or in those of `route`
abbrev pub name_of : List (String Global) → List ℕ
name_of [] = []
name_of (verb ∷ []) = []
name_of (verb ∷ (name ∷ words)) = string_bytes name

-- a method that a client may send, other than CONNECT (RFC 9110, section 9.1)
pub record IsAskedMethod (method : List ℕ) : Type 0 where
  pub token : IsToken method
  pub other : method ≢ codes "CONNECT"

-- a visible byte of ASCII that begins no fragment
abbrev pub is_path_byte : ℕ → Bool
is_path_byte b = nat_le 33 b && (nat_le b 126 && not (b == 35))

-- a target in origin form, with whole escapes in its path (RFC 9112, section 3.2.1)
unfoldable pub is_asked_path : List ℕ → Bool
is_asked_path path = is_origin path && (list_all is_path_byte path && not (has_bad_escape (before 63 path)))

-- `route`, a name, a method, a host and a path
pub record IsRouteOf (verb method path : String Global) : Type 0 where
  pub verb_is : string_bytes verb ≡ codes "route"
  pub method_is : IsAskedMethod (string_bytes method)
  pub path_is : is_asked_path (string_bytes path) ≡ true

abbrev pub IsRoute : List (String Global) → Type 0
IsRoute [] = ⊥
IsRoute (verb ∷ []) = ⊥
IsRoute (verb ∷ (name ∷ [])) = ⊥
IsRoute (verb ∷ (name ∷ (method ∷ []))) = ⊥
IsRoute (verb ∷ (name ∷ (method ∷ (host ∷ [])))) = ⊥
IsRoute (verb ∷ (name ∷ (method ∷ (host ∷ (path ∷ []))))) = IsRouteOf verb method path
IsRoute (verb ∷ (name ∷ (method ∷ (host ∷ (path ∷ (word ∷ words)))))) = ⊥

-- what `route` asks the router, by its words
pub record Question : Type 0 where
  pub method : List ℕ
  pub host : List ℕ
  pub path : List ℕ

abbrev pub question_of : List (String Global) → Question
question_of [] = record { method = []; host = []; path = [] }
question_of (verb ∷ []) = record { method = []; host = []; path = [] }
question_of (verb ∷ (name ∷ [])) = record { method = []; host = []; path = [] }
question_of (verb ∷ (name ∷ (method ∷ []))) = record { method = []; host = []; path = [] }
question_of (verb ∷ (name ∷ (method ∷ (host ∷ [])))) = record { method = []; host = []; path = [] }
question_of (verb ∷ (name ∷ (method ∷ (host ∷ (path ∷ words))))) = record {
  method = string_bytes method;
  host = string_bytes host;
  path = string_bytes path;
}

-- the words' parts, as slices of them
pub record Asks (words : List (String Global)) (query : Query) : Type 0 where
  pub name : query.name.now ≡ name_of words
  pub method : query.method.now ≡ (question_of words).method
  pub host : query.host.now ≡ (question_of words).host
  pub path : query.path.now ≡ (question_of words).path
