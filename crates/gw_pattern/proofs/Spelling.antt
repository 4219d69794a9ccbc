-- A text spells the pattern that it says.
use Rattle.std.proofs.Common.{◌≡◌, ℕ, zero, suc, ◌+◌, ◌-◌, ◌<◌, Bool, true, false, not, cond, inl, inr, List, [], ◌∷◌, ◌++◌, length, get_or, length-take, take, drop, position, Option, Some, None, Ok, ◌==◌, nat_le, slice_index, bytes_eq, codes, All, sym, refl, ap, ◌∙◌, subst, append_assoc, append-nil, arith}
use Rattle.std.specs.List.{list_any, position_or_len, join_with_byte}
use Rattle.std.proofs.lemmas.Bool.{cond_both, not-false, eqb-true, both_ways, ne_eqb}
use Rattle.std.proofs.lemmas.List.{take-append-drop}
use Rattle.std.proofs.lemmas.List.Sums.{fails_before_first, passes_at_first, split_at_first}
use Rattle.std.proofs.lemmas.List.Splits.{join_with_byte-slice_split}
use Rattle.std.proofs.lemmas.Slice.Eq.{bytes_eq-Decides}
use Rattle.gw_pattern.specs.declared.form.Seg.{Seg}
use Rattle.gw_pattern.specs.declared.form.Seg.TheVariants.{Literal, One, Rest, End}
use Rattle.gw_pattern.specs.Path.{slash, is_slash, parts_of, cleaned}
use Rattle.gw_pattern.specs.Pattern.{Spelled, wildcard_count}
use Rattle.gw_pattern.specs.Grammar.{IsWritten, AreWritten, slashed, IsMethodWritten, Spells}
use Rattle.gw_pattern.specs.Text.{is_empty, literal_of, max_segments, max_wildcards, is_name, has_name, name_said, rest_said, one_said, end_said, wildcard_said, dots, is_open_brace, is_close_brace, inner_of, braced_said, seg_said, segs_said, path_said, host_said, target_said, is_token, method_said, cut_said, is_space, pattern_said}
use Rattle.gw_pattern.proofs.Formed.{bind_ok, unless_fault, some_bytes}
use Rattle.gw_pattern.proofs.Parts.{position_none, position_some}
use Rattle.gw_pattern.proofs.Tidy.{some_parts, cleaned_is}
use Rattle.gw_pattern.proofs.Walked.{slashed_joined}

-- ---- lists

none_pass : (p : ℕ → Bool) (xs : List ℕ) → position p xs ≡ None → All (λ b. p b ≡ false) xs
none_pass p xs h =
    let past = position_none p xs h in
    λ k d within. fails_before_first p xs k d (omega arith)

get_or-front : (xs : List ℕ) (n k d : ℕ) → k < length (take n xs) → get_or (take n xs) k d ≡ get_or xs k d
get_or-front xs zero k d h = absurd (omega arith)
get_or-front [] (suc n) k d h = absurd (omega arith)
get_or-front (x ∷ xs) (suc n) zero d h = refl
get_or-front (x ∷ xs) (suc n) (suc k) d h = get_or-front xs n k d (omega arith)

none_before : (p : ℕ → Bool) (xs : List ℕ) (i : ℕ) → position p xs ≡ Some i → All (λ b. p b ≡ false) (take i xs)
none_before p xs i h =
    let found = position_some p xs i h in
    λ k d within. rw (get_or-front xs i k d within) (fails_before_first p xs k d (omega (arith, length-take i xs, found.0)))

-- a list around the first byte that is the one looked for
around : (c : ℕ) (xs : List ℕ) (i : ℕ) → position (λ b. b == c) xs ≡ Some i → xs ≡ take i xs ++ c ∷ drop (i + 1) xs
around c xs i h =
    let p = λ (b : ℕ). b == c in
    let found = position_some p xs i h in
    let within : position_or_len p xs < length xs = omega (arith, found.0) in
    let at = eqb-true _ c (passes_at_first p xs 0 within) in
    let e : position_or_len p xs ≡ i = sym found.0 in
    subst (λ (n : ℕ). xs ≡ take n xs ++ c ∷ drop (n + 1) xs) e (split_at_first p xs 0 within ∙ ap (λ b. take (position_or_len p xs) xs ++ b ∷ drop (position_or_len p xs + 1) xs) at)

up_to_last : (x : ℕ) (xs : List ℕ) → take (length (x ∷ xs) - 1) (x ∷ xs) ++ get_or (x ∷ xs) (length (x ∷ xs) - 1) 0 ∷ [] ≡ x ∷ xs
up_to_last x [] = refl
up_to_last x (y ∷ ys) =
    let e : length (x ∷ y ∷ ys) - 1 ≡ suc (length (y ∷ ys) - 1) = omega arith in
    rw e (ap (λ t. x ∷ t) (up_to_last y ys))

-- ---- one segment

abbrev wrapped : List ℕ → List ℕ
wrapped inner = codes "{" ++ (inner ++ codes "}")

first_is : (x : ℕ) (xs : List ℕ) → position is_open_brace (x ∷ xs) ≡ Some 0 → x ≡ 123
first_is x xs at =
    let found = position_some is_open_brace (x ∷ xs) 0 at in
    let within : position_or_len is_open_brace (x ∷ xs) < length (x ∷ xs) = omega (arith, found.0) in
    let e : position_or_len is_open_brace (x ∷ xs) ≡ 0 = sym found.0 in
    let h = subst (λ (n : ℕ). is_open_brace (get_or (x ∷ xs) n 0) ≡ true) e (passes_at_first is_open_brace (x ∷ xs) 0 within) in
    eqb-true x 123 h

in_braces : (part : List ℕ) → position is_open_brace part ≡ Some 0 → is_close_brace (slice_index part (length part - 1)) ≡ true → part ≡ wrapped (inner_of part)
in_braces [] at close = let found = position_some is_open_brace [] 0 at in absurd (omega arith)
in_braces (x ∷ []) at close = absurd (omega (arith, first_is x [] at, eqb-true x 125 close))
in_braces (x ∷ y ∷ ys) at close =
    let e : length (x ∷ y ∷ ys) - 1 ≡ suc (length (y ∷ ys) - 1) = omega arith in
    let n : length (y ∷ ys) - 1 ≡ length (x ∷ y ∷ ys) - 2 = omega arith in
    let last = eqb-true _ 125 (subst (λ (k : ℕ). is_close_brace (get_or (x ∷ y ∷ ys) k 0) ≡ true) e close) in
    ap (λ a. a ∷ y ∷ ys) (first_is x (y ∷ ys) at)
    ∙ ap (λ t. 123 ∷ t) (sym (up_to_last y ys) ∙ ap (λ b. take (length (y ∷ ys) - 1) (y ∷ ys) ++ b ∷ []) last ∙ ap (λ m. take m (y ∷ ys) ++ 125 ∷ []) n)

name_is : (place : ℕ) (before : List Seg) (name own : List ℕ) → name_said place before name ≡ Ok own → (is_name name ≡ true) × (name ≡ own)
unfolding name_said
name_is place before name own h =
    let h1 = unless_fault (is_empty name) _ _ _ h in
    let h2 = unless_fault (not (is_name name)) _ _ _ h1.1 in
    let h3 = unless_fault (list_any (has_name name) before) _ _ _ h2.1 in
    let h4 = unless_fault (nat_le max_wildcards (wildcard_count before)) _ _ _ h3.1 in
    (not-false _ h2.0, cc h4.1)

end_written : (place : ℕ) (is_last : Bool) (part : List ℕ) (seg : Seg) → end_said place is_last ≡ Ok seg → part ≡ codes "{$}" → IsWritten seg part
unfolding end_said
end_written place true part seg h is = let e : End ≡ seg = cc h in subst (λ (s : Seg). IsWritten s part) e is
end_written place false part seg h is = cc h

rest_is : (name part : List ℕ) → is_name name ≡ true → part ≡ wrapped (name ++ dots) → IsWritten (Rest name) part
rest_is [] part valid is = cc valid
rest_is (b ∷ bs) part valid is = (valid, is)

rest_written : (place : ℕ) (before : List Seg) (is_last : Bool) (name part : List ℕ) (seg : Seg) → rest_said place before is_last name ≡ Ok seg → part ≡ wrapped (name ++ dots) → IsWritten seg part
unfolding rest_said
rest_written place before true name part seg h is =
    let p = bind_ok (name_said place before name) _ seg h in
    let n = name_is place before name p.0 p.1 in
    let e : Rest name ≡ seg = ap (λ x. Rest x) n.1 ∙ cc p.2 in
    subst (λ (s : Seg). IsWritten s part) e (rest_is name part n.0 is)
rest_written place before false name part seg h is = cc h

one_written : (place : ℕ) (before : List Seg) (name part : List ℕ) (seg : Seg) → one_said place before name ≡ Ok seg → part ≡ wrapped name → IsWritten seg part
unfolding one_said
one_written place before name part seg h is =
    let p = bind_ok (name_said place before name) _ seg h in
    let n = name_is place before name p.0 p.1 in
    let e : One name ≡ seg = ap (λ x. One x) n.1 ∙ cc p.2 in
    subst (λ (s : Seg). IsWritten s part) e (n.0, is)

wildcard_written : (place : ℕ) (before : List Seg) (is_last : Bool) (inner part : List ℕ) (seg : Seg) → part ≡ wrapped inner → wildcard_said place before is_last inner ≡ Ok seg → IsWritten seg part
unfolding wildcard_said
wildcard_written place before is_last inner part seg is =
    let n = length inner - length dots in
    cond_both (bytes_eq inner (codes "$")) (end_said place is_last) _ (λ x. x ≡ Ok seg → IsWritten seg part)
    (λ e h. end_written place is_last part seg h (is ∙ ap wrapped ((bytes_eq-Decides inner (codes "$")).0 e)))
    (λ e. cond_both (bytes_eq (drop n inner) dots) (rest_said place before is_last (take n inner)) (one_said place before inner) (λ x. x ≡ Ok seg → IsWritten seg part)
    (λ e' h. rest_written place before is_last (take n inner) part seg h (is ∙ ap wrapped (sym (take-append-drop n inner) ∙ ap (λ x. take n inner ++ x) ((bytes_eq-Decides (drop n inner) dots).0 e'))))
    (λ e' h. one_written place before inner part seg h is))

braced_written : (place : ℕ) (before : List Seg) (is_last : Bool) (part : List ℕ) (brace : Option ℕ) (seg : Seg) → is_empty part ≡ false → position is_open_brace part ≡ brace → braced_said place before is_last part brace ≡ Ok seg → IsWritten seg part
unfolding braced_said
braced_written place before is_last part None seg some at h =
    let e : Literal (literal_of part) ≡ seg = cc h in
    subst (λ (s : Seg). IsWritten s part) e (some_bytes part some, none_pass is_open_brace part at, refl)
braced_written place before is_last part (Some brace) seg some at h =
    let h1 = unless_fault (not (brace == 0)) _ _ _ h in
    let h2 = unless_fault (not (is_close_brace (slice_index part (length part - 1)))) _ _ _ h1.1 in
    let first : brace ≡ 0 = eqb-true brace 0 (not-false _ h1.0) in
    wildcard_written place before is_last (inner_of part) part seg (in_braces part (at ∙ ap (λ x. Some x) first) (not-false _ h2.0)) h2.1

no_bytes : (bytes : List ℕ) → is_empty bytes ≡ true → bytes ≡ []
no_bytes [] h = refl
no_bytes (b ∷ bs) h = absurd (both_ways _ (ne_eqb (length (b ∷ bs)) 0 (λ e. omega arith)) h)

seg_written : (place : ℕ) (before : List Seg) (is_last : Bool) (part : List ℕ) (seg : Seg) → seg_said place before is_last part ≡ Ok seg → IsWritten seg part
unfolding seg_said
seg_written place before is_last part seg h =
    let h1 = unless_fault (nat_le max_segments (length before)) _ _ _ h in
    let go : cond (is_empty part) (Ok (Rest [])) (braced_said place before is_last part (position is_open_brace part)) ≡ Ok seg → IsWritten seg part =
    cond_both (is_empty part) (Ok (Rest [])) (braced_said place before is_last part (position is_open_brace part)) (λ x. x ≡ Ok seg → IsWritten seg part)
    (λ e h'. let e' : Rest [] ≡ seg = cc h' in subst (λ (s : Seg). IsWritten s part) e' (no_bytes part e))
    (λ e h'. braced_written place before is_last part (position is_open_brace part) seg e refl h') in
    go h1.1

-- ---- all segments

record SegsWritten (before segs : List Seg) (parts : List (List ℕ)) : Type 0 where
  more : List Seg
  is : segs ≡ before ++ more
  written : AreWritten more parts

segs_written : (parts : List (List ℕ)) (place : ℕ) (before segs : List Seg) → segs_said place before parts ≡ Ok segs → SegsWritten before segs parts
unfolding segs_said
segs_written [] place before segs h = record { more = []; is = cc h ∙ sym (append-nil before); written = tt }
segs_written (part ∷ parts) place before segs h =
    let p = bind_ok (seg_said place before (is_empty parts) part) _ segs h in
    let rest = segs_written parts (place + (length part + 1)) (before ++ p.0 ∷ []) segs p.2 in
    record {
      more = p.0 ∷ rest.more;
      is = rest.is ∙ append_assoc before (p.0 ∷ []) rest.more;
      written = (seg_written place before (is_empty parts) part p.0 p.1, rest.written);
    }

slashed_join : (parts : List (List ℕ)) → 0 < length parts → slashed parts ≡ slash ∷ join_with_byte slash parts
slashed_join [] some = absurd (omega arith)
slashed_join (part ∷ parts) some = slashed_joined part parts

record PathWritten (path : List ℕ) (segs : List Seg) : Type 0 where
  parts : List (List ℕ)
  is : path ≡ slashed parts
  clean : cleaned path ≡ path
  written : AreWritten segs parts

path_written : (place : ℕ) (path : List ℕ) (segs : List Seg) → path_said place path ≡ Ok segs → PathWritten path segs
unfolding path_said
path_written place path segs h =
    let h1 = unless_fault (not (bytes_eq (cleaned path) path)) _ _ _ h in
    let clean : cleaned path ≡ path = (bytes_eq-Decides (cleaned path) path).0 (not-false _ h1.0) in
    let is = cleaned_is path in
    let e : path ≡ slash ∷ is.tail = sym clean ∙ is.is in
    let tail : is.tail ≡ drop 1 path = sym (ap (drop 1) e) in
    let rest = segs_written (parts_of (drop 1 path)) (place + 1) [] segs h1.1 in
    record {
      parts = parts_of (drop 1 path);
      is = e ∙ ap (λ t. slash ∷ t) (tail ∙ sym (join_with_byte-slice_split slash (drop 1 path))) ∙ sym (slashed_join (parts_of (drop 1 path)) (some_parts (drop 1 path)));
      clean = clean;
      written = subst (λ (s : List Seg). AreWritten s (parts_of (drop 1 path))) (sym rest.is) rest.written;
    }

-- ---- the text

host_is : (place : ℕ) (host : List ℕ) (brace : Option ℕ) (h : List ℕ) → host_said place host brace ≡ Ok h → (brace ≡ None) × (host ≡ h)
unfolding host_said
host_is place host None h said = (refl, cc said)
host_is place host (Some brace) h said = cc said

record TargetWritten (target host : List ℕ) (segs : List Seg) : Type 0 where
  path : List ℕ
  is : target ≡ host ++ path
  no_slash : All (λ b. is_slash b ≡ false) host
  no_brace : All (λ b. is_open_brace b ≡ false) host
  written : PathWritten path segs

target_written : (place : ℕ) (target : List ℕ) (found : Option ℕ) (x : List ℕ × List Seg) → position is_slash target ≡ found → target_said place target found ≡ Ok x → TargetWritten target x.0 x.1
unfolding target_said
target_written place target None x at h = cc h
target_written place target (Some n) x at h =
    let p = bind_ok (host_said place (take n target) (position is_open_brace (take n target))) _ x h in
    let q = bind_ok (path_said (place + n) (drop n target)) _ x p.2 in
    let host = host_is place (take n target) (position is_open_brace (take n target)) p.0 p.1 in
    let e : (take n target, q.0) ≡ x = ap (λ t. (t, q.0)) host.1 ∙ cc q.2 in
    subst (λ (y : List ℕ × List Seg). TargetWritten target y.0 y.1) e (record {
      path = drop n target;
      is = sym (take-append-drop n target);
      no_slash = none_before is_slash target n at;
      no_brace = none_pass is_open_brace (take n target) host.0;
      written = path_written (place + n) (drop n target) q.0 q.1;
    })

method_written : (name : List ℕ) (method : Option (List ℕ)) → method_said name ≡ Ok method → IsMethodWritten method (name ++ codes " ")
unfolding method_said
method_written name method =
    let as_written = λ (m : Option (List ℕ)). IsMethodWritten m (name ++ codes " ") in
    cond_both (is_empty name) (Ok None) _ (λ x. x ≡ Ok method → as_written method)
    (λ e h. let m : None ≡ method = cc h in subst as_written m (inr (ap (λ x. x ++ codes " ") (no_bytes name e))))
    (λ e h.
    let h1 = unless_fault (not (is_token name)) _ _ _ h in
    let h2 = unless_fault (bytes_eq name (codes "CONNECT")) _ _ _ h1.1 in
    let m : Some name ≡ method = cc h2.1 in
    subst as_written m (refl, not-false _ h1.0, λ e'. both_ways _ h2.0 ((bytes_eq-Decides name (codes "CONNECT")).1 e')))

method_absent : (method : Option (List ℕ)) → method_said [] ≡ Ok method → IsMethodWritten method []
unfolding method_said
method_absent method h = let e : None ≡ method = cc h in subst (λ (m : Option (List ℕ)). IsMethodWritten m []) e (inl refl)

spells : (text front target : List ℕ) (method : Option (List ℕ)) (host : List ℕ) (segs : List Seg) → text ≡ front ++ target → IsMethodWritten method front → TargetWritten target host segs → Spells text (record { method = method; host = host; segs = segs })
spells text front target method host segs is written t = record {
  front = front;
  parts = t.written.parts;
  is = is ∙ ap (λ x. front ++ x) (t.is ∙ ap (λ x. host ++ x) t.written.is);
  method = written;
  no_slash = t.no_slash;
  no_brace = t.no_brace;
  clean = subst (λ (x : List ℕ). cleaned x ≡ x) t.written.is t.written.clean;
  segs = t.written.written;
}

cut_spells : (text : List ℕ) (space : Option ℕ) (x : Spelled) → position is_space text ≡ space → cut_said text space ≡ Ok x → Spells text x
unfolding cut_said
cut_spells text None x at h =
    let p = bind_ok (method_said []) _ x h in
    let q = bind_ok (target_said 0 text (position is_slash text)) _ x p.2 in
    let e : record { method = p.0; host = q.0.0; segs = q.0.1 } ≡ x = cc q.2 in
    subst (λ (y : Spelled). Spells text y) e (spells text [] text p.0 q.0.0 q.0.1 refl (method_absent p.0 p.1) (target_written 0 text (position is_slash text) q.0 refl q.1))
cut_spells text (Some n) x at h =
    let p = bind_ok (method_said (take n text)) _ x h in
    let target = drop (n + 1) text in
    let q = bind_ok (target_said (n + 1) target (position is_slash target)) _ x p.2 in
    let e : record { method = p.0; host = q.0.0; segs = q.0.1 } ≡ x = cc q.2 in
    subst (λ (y : Spelled). Spells text y) e (spells text (take n text ++ codes " ") target p.0 q.0.0 q.0.1 (around 32 text n at ∙ sym (append_assoc (take n text) (codes " ") target)) (method_written (take n text) p.0 p.1) (target_written (n + 1) target (position is_slash target) q.0 refl q.1))

pub pattern_spells : (text : List ℕ) (x : Spelled) → pattern_said text ≡ Ok x → Spells text x
unfolding pattern_said
pattern_spells text x h =
    let h1 = unless_fault (is_empty text) _ _ _ h in
    cut_spells text (position is_space text) x refl h1.1
