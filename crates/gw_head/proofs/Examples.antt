-- The definitions at worked examples.
use Rattle.std.proofs.Common.{◌≡◌, ℕ, List, [], ◌∷◌, ◌++◌, refl}
use Rattle.std.specs.Prelude.{Some, None, codes}
use Rattle.gw_head.specs.Fields.{values_named, count_named}
use Rattle.gw_head.specs.Mark.{head_end, end_in_limit}

abbrev crlf_bytes : List ℕ
crlf_bytes = 13 ∷ 10 ∷ []

abbrev get : List ℕ
get = codes "GET / HTTP/1.1" ++ crlf_bytes ++ codes "Host: a" ++ crlf_bytes

head_and_rest : head_end (get ++ crlf_bytes ++ codes "rest") ≡ Some 27
head_and_rest = refl

within_the_limit : end_in_limit (get ++ crlf_bytes ++ codes "rest") ≡ Some 27
within_the_limit = refl

no_empty_line_yet : head_end (get ++ 13 ∷ []) ≡ None
no_empty_line_yet = refl

-- empty lines before the start line count for the length alone
after_empty_lines : head_end (crlf_bytes ++ 10 ∷ 13 ∷ get ++ 10 ∷ 10 ∷ []) ≡ Some 30
after_empty_lines = refl

empty_lines_alone : head_end (10 ∷ 10 ∷ 13 ∷ 10 ∷ []) ≡ None
empty_lines_alone = refl

-- LF CR CR LF is no end mark
two_returns : head_end (codes "a" ++ 10 ∷ 13 ∷ 13 ∷ 10 ∷ []) ≡ None
two_returns = refl

line_feeds : head_end (codes "a" ++ 10 ∷ 10 ∷ 10 ∷ []) ≡ Some 3
line_feeds = refl

without_case : values_named (codes "host") ((codes "HOST", codes "a") ∷ (codes "Hosts", codes "b") ∷ (codes "hosT", codes "c") ∷ [])
    ≡ codes "a" ∷ codes "c" ∷ []
without_case = refl

none_of_that_name : count_named (codes "upgrade") ((codes "Host", codes "a") ∷ []) ≡ 0
none_of_that_name = refl
