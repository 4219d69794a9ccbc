-- The definitions of whole heads at worked examples.
use Rattle.std.proofs.Common.{◌≡◌, true, false, [], ◌∷◌, ◌++◌, refl}
use Rattle.std.specs.Prelude.{codes, Some, None}
use Rattle.gw_head.specs.declared.error.HeadError.TheVariants.{Version, HostCount, Coding}
use Rattle.gw_head.specs.declared.target.Form.TheVariants.{Absolute, Asterisk, Other}
use Rattle.gw_head.specs.Host.{host_without_port}
use Rattle.gw_head.specs.Lines.{first_line, line_count}
use Rattle.gw_head.specs.Target.{form_of, authority_of, path_in, query_of, has_bad_escape}
use Rattle.gw_head.specs.Checks.{are_bad_lengths, is_bad_host, request_fault, request_lines_fault, has_other_request_version, has_too_many_fields, is_connect, has_bad_target, has_bad_coding, has_length_and_coding, has_bad_length, has_bad_host}
use Rattle.gw_head.specs.Fields.{is_length}

-- ---- hosts

port_goes : host_without_port (codes "a:80") ≡ codes "a"
unfolding host_without_port
port_goes = refl

brackets_go : host_without_port (codes "[::1]:80") ≡ codes "::1"
unfolding host_without_port
brackets_go = refl

literal_stays : host_without_port (codes "[::1]") ≡ codes "[::1]"
unfolding host_without_port
literal_stays = refl

-- ---- lines

start_line : first_line (10 ∷ codes "a" ++ 13 ∷ 10 ∷ codes "b" ++ 10 ∷ 10 ∷ []) ≡ codes "a"
start_line = refl

one_line : line_count (10 ∷ codes "a" ++ 13 ∷ 10 ∷ codes "b" ++ 10 ∷ 10 ∷ []) ≡ 1
one_line = refl

old_version : request_lines_fault (codes "GET / HTTP/2.0" ++ 10 ∷ 10 ∷ []) ≡ Some Version
unfolding has_other_request_version has_too_many_fields
old_version = refl

spoken_version : request_lines_fault (codes "GET / HTTP/1.0" ++ 10 ∷ 10 ∷ []) ≡ None
unfolding has_other_request_version has_too_many_fields
spoken_version = refl

-- ---- targets

star_of_options : form_of (codes "OPTIONS") (codes "*") ≡ Asterisk
unfolding form_of
star_of_options = refl

star_of_get : form_of (codes "GET") (codes "*") ≡ Other
unfolding form_of
star_of_get = refl

user_in_authority : form_of (codes "GET") (codes "http://u@a/") ≡ Other
unfolding form_of
user_in_authority = refl

authority_ends : authority_of (codes "HTTPS://a:1?b/c") ≡ codes "a:1"
authority_ends = refl

no_path : path_in Absolute (codes "http://a?b") ≡ codes "/"
no_path = refl

query_behind_mark : query_of (codes "/a?b?c") ≡ Some (codes "b?c")
query_behind_mark = refl

half_escape : has_bad_escape (codes "/a%4") ≡ true
half_escape = refl

-- ---- fields

signed_length : is_length (codes "+3") ≡ false
signed_length = refl

largest_length : is_length (codes "9223372036854775807") ≡ true
largest_length = refl

length_past_the_largest : is_length (codes "9223372036854775808") ≡ false
length_past_the_largest = refl

equal_numbers_in_other_bytes : are_bad_lengths (codes "3" ∷ codes "03" ∷ []) ≡ true
equal_numbers_in_other_bytes = refl

user_in_host : is_bad_host (codes "u@a") ≡ true
user_in_host = refl

-- ---- the order of the checks

coding_before_length_and_coding :
    request_fault (codes "GET") (codes "/%") 1
    ((codes "Transfer-Encoding", codes "gzip") ∷ (codes "content-length", codes "x") ∷ []) ≡ Some Coding
unfolding is_connect has_bad_target form_of has_bad_coding
coding_before_length_and_coding = refl

host_before_escape : request_fault (codes "GET") (codes "/%") 1 ((codes "Expect", codes "x") ∷ []) ≡ Some HostCount
unfolding is_connect has_bad_target form_of has_bad_coding has_length_and_coding has_bad_length has_bad_host
host_before_escape = refl
