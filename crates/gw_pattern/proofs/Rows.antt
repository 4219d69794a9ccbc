-- Rows that the definitions compute.
use Rattle.std.proofs.Common.{◌≡◌, [], ◌∷◌, Some, None, Ok, Err, codes, refl}
use Rattle.gw_pattern.specs.declared.form.Seg.TheVariants.{Literal, One, Rest, End}
use Rattle.gw_pattern.specs.declared.fault.PCode.TheVariants.{Empty, BraceInHost, Unclean, ConnectMethod, DuplicateName}
use Rattle.gw_pattern.specs.declared.fault.PatternError.TheVariants.{Bad}
use Rattle.gw_pattern.specs.Path.{cleaned}
use Rattle.gw_pattern.specs.Text.{name_said, rest_said, one_said, end_said, wildcard_said, literal_of, braced_said, seg_said, segs_said, path_said, host_said, target_said, method_said, cut_said, pattern_said}
use Rattle.http.specs.Token.{is_token_byte}
use Rattle.percent_encoding.specs.Percent.{percent_decode}

-- ---- cleaning

parent_goes : cleaned (codes "/a//b/../c") ≡ codes "/a/c"
unfolding cleaned
parent_goes = refl

slash_stays : cleaned (codes "/a/./") ≡ codes "/a/"
unfolding cleaned
slash_stays = refl

dot_goes : cleaned (codes "/a/.") ≡ codes "/a"
unfolding cleaned
dot_goes = refl

root_stays : cleaned (codes "/..") ≡ codes "/"
unfolding cleaned
root_stays = refl

escaped_dot_stays : cleaned (codes "/a/%2e") ≡ codes "/a/%2e"
unfolding cleaned
escaped_dot_stays = refl

-- ---- patterns

one_and_rest : pattern_said (codes "GET h/b%41/{id}/{path...}") ≡ Ok (record { method = Some (codes "GET"); host = codes "h"; segs = Literal (codes "bA") ∷ One (codes "id") ∷ Rest (codes "path") ∷ [] })
unfolding pattern_said cut_said method_said target_said host_said path_said cleaned segs_said seg_said braced_said literal_of percent_decode wildcard_said rest_said one_said name_said is_token_byte
one_and_rest = refl

end_of_path : pattern_said (codes "/b/{$}") ≡ Ok (record { method = None; host = []; segs = Literal (codes "b") ∷ End ∷ [] })
unfolding pattern_said cut_said method_said target_said host_said path_said cleaned segs_said seg_said braced_said literal_of percent_decode wildcard_said end_said
end_of_path = refl

slash_at_end : pattern_said (codes "/b/") ≡ Ok (record { method = None; host = []; segs = Literal (codes "b") ∷ Rest [] ∷ [] })
unfolding pattern_said cut_said method_said target_said host_said path_said cleaned segs_said seg_said braced_said literal_of percent_decode
slash_at_end = refl

empty_text : pattern_said [] ≡ Err (Bad Empty 0)
unfolding pattern_said
empty_text = refl

name_twice : pattern_said (codes "/a/{x}/{x}") ≡ Err (Bad DuplicateName 7)
unfolding pattern_said cut_said method_said target_said host_said path_said cleaned segs_said seg_said braced_said literal_of percent_decode wildcard_said one_said name_said
name_twice = refl

connect : pattern_said (codes "CONNECT /") ≡ Err (Bad ConnectMethod 0)
unfolding pattern_said cut_said method_said is_token_byte
connect = refl

brace_in_host : pattern_said (codes "GET a{b/") ≡ Err (Bad BraceInHost 5)
unfolding pattern_said cut_said method_said target_said host_said is_token_byte
brace_in_host = refl

unclean : pattern_said (codes "GET a/b//c") ≡ Err (Bad Unclean 5)
unfolding pattern_said cut_said method_said target_said host_said path_said cleaned is_token_byte
unclean = refl
