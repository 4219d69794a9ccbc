-- Fields that are added to a head that is sent.
use Rattle.std.proofs.Common.{◌≡◌, ℕ, ◌^◌, ◌<◌, Bool, true, false, List, [], ◌∷◌, refl, arith}
use Rattle.std.specs.Prelude.{All, codes, decimal, Option, Some, None, if◌then◌else◌}
use Rattle.std.specs.Str.{str_eq_ignore_ascii_case}
use Rattle.std.proofs.lemmas.List.Elements.{All-nil, All-cons}
use Rattle.gw_head.specs.Fields.{values_named}
use Rattle.gw_proxy.specs.Lines.{length_fields}
use Rattle.gw_proxy.proofs.FieldLemmas.{IsOther, Pair}
use Rattle.gw_proxy.proofs.ReplyLemmas.{IsSmall, coded_as, texts_of}

pub one_other : (name other value : List ℕ) → str_eq_ignore_ascii_case other name ≡ false → All (IsOther name) ((other, value) ∷ [])
one_other name other value differs =
    All-cons (IsOther name) (other, value) [] (record { other = differs }) (All-nil (IsOther name))

pub if_any : (P : Pair → Type 0) (v : Bool) (field : Pair) → All P (field ∷ []) → All P (if v then field ∷ [] else [])
if_any P true field all = all
if_any P false field all = All-nil P

pub unless_any : (P : Pair → Type 0) (v : Bool) (field : Pair) → All P (field ∷ []) → All P (if v then [] else field ∷ [])
unless_any P true field all = All-nil P
unless_any P false field all = all

pub length_all : (P : Pair → Type 0) (said : Option ℕ) → ((n : ℕ) → said ≡ Some n → All P ((codes "content-length", decimal n) ∷ []))
    → All P (length_fields said)
length_all P None all = All-nil P
length_all P (Some n) all = all n refl

pub said_values : (said : Option ℕ) → values_named (codes "content-length") (length_fields said) ≡ texts_of said
said_values None = refl
said_values (Some n) = refl

pub coded_values : (v : Bool)
    → values_named (codes "transfer-encoding") (if v then (codes "transfer-encoding", codes "chunked") ∷ [] else []) ≡ coded_as v
coded_values true = refl
coded_values false = refl

pub small_number : (said : Option ℕ) (n : ℕ) → IsSmall said → said ≡ Some n → n < 2 ^ 64
small_number None n small is = absurd (cc)
small_number (Some m) n small is = let same : m ≡ n = cc in omega arith
