-- What a text says is well formed, and within the limits.
use Rattle.std.proofs.Common.{◌≡◌, ℕ, zero, suc, ◌+◌, ◌-◌, ◌*◌, ◌<◌, ◌≤◌, Bool, true, false, not, cond, List, [], ◌∷◌, ◌++◌, length, length-append, take, drop, position, Option, Some, None, Result, Ok, Err, nat_le, ◌==◌, slice_index, bytes_eq, codes, All, IfOk, sym, refl, ap, ◌∙◌, subst, arith}
use Rattle.std.specs.List.{onto_first, list_any, AllByRecursion}
use Rattle.std.specs.Char.{digit_value, is_digit}
use Rattle.std.proofs.lemmas.Bool.{cond_both, both_ways, ltb-true, leb-false, and_parts, not-false, ne_eqb}
use Rattle.std.proofs.lemmas.List.Elements.{recursion_from_All, All-from_recursion}
use Rattle.std.proofs.lemmas.List.Sums.{fold-append}
use Rattle.std.proofs.lemmas.Slice.Eq.{bytes_eq-Decides}
use Rattle.percent_encoding.specs.Percent.{percent_decode, is_escape}
use Rattle.gw_pattern.specs.declared.form.Seg.{Seg}
use Rattle.gw_pattern.specs.declared.form.Seg.TheVariants.{Literal, One, Rest, End}
use Rattle.gw_pattern.specs.declared.form.Pattern.{Pattern}
use Rattle.gw_pattern.specs.declared.fault.PatternError.{PatternError}
use Rattle.gw_pattern.specs.Path.{slash, is_slash, parts_of, cleaned}
use Rattle.gw_pattern.specs.Path.{are_tidy}
use Rattle.gw_pattern.specs.Pattern.{Spelled, spelled_of, IsLiteral, MayEnd, MayStand, AreWellFormed, IsWellFormed, is_named, wildcard_count}
use Rattle.gw_pattern.specs.Text.{Said, ◌>>=◌, Gives, is_empty, has_whole_escapes, literal_of, max_segments, max_wildcards, is_name, has_name, name_said, rest_said, one_said, end_said, wildcard_said, dots, is_open_brace, is_close_brace, inner_of, braced_said, seg_said, segs_said, path_said, host_said, target_said, method_said, cut_said, front_of, target_place}
use Rattle.gw_pattern.proofs.Tidy.{some_parts, cleaned_is, filled_part, first_tidy}

-- ---- answers of steps

pub bind_ok : {A B : Type 0} (o : Said A) (f : A → Said B) (y : B) → (o >>= f) ≡ Ok y → (x : A) × (o ≡ Ok x) × (f x ≡ Ok y)
bind_ok (Ok x) f y h = (x, refl, h)
bind_ok (Err e) f y h = cc h

pub unless_fault : {A : Type 0} (b : Bool) (e : PatternError) (next : Said A) (x : A) → cond b (Err e) next ≡ Ok x → (b ≡ false) × (next ≡ Ok x)
unless_fault true e next x h = cc h
unless_fault false e next x h = (refl, h)

-- ---- bytes

abbrev AreBytes : List ℕ → Type 0
AreBytes bytes = AllByRecursion (λ b. b < 256) bytes

abbrev AreByteParts : List (List ℕ) → Type 0
AreByteParts parts = AllByRecursion AreBytes parts

bytes_drop : (n : ℕ) (bytes : List ℕ) → AreBytes bytes → AreBytes (drop n bytes)
bytes_drop zero bytes h = h
bytes_drop (suc n) [] h = tt
bytes_drop (suc n) (b ∷ bs) h = bytes_drop n bs h.1

bytes_onto_first : (b : ℕ) (parts : List (List ℕ)) → b < 256 → AreByteParts parts → AreByteParts (onto_first b parts)
bytes_onto_first b [] small h = ((small, tt), tt)
bytes_onto_first b (part ∷ parts) small h = ((small, h.0), h.1)

bytes_parts : (path : List ℕ) → AreBytes path → AreByteParts (parts_of path)
bytes_parts [] h = (tt, tt)
bytes_parts (b ∷ bs) h =
    cond_both (is_slash b) ([] ∷ parts_of bs) (onto_first b (parts_of bs)) AreByteParts (λ e. (tt, bytes_parts bs h.1)) (λ e. bytes_onto_first b (parts_of bs) h.0 (bytes_parts bs h.1))

escape_small : (b high low : ℕ) → is_escape b high low ≡ true → 16 * digit_value high + digit_value low < 256
escape_small b high low h =
    let outer = and_parts _ (is_digit low 16) h in
    let inner = and_parts (b == 37) (is_digit high 16) outer.0 in
    omega (arith, ltb-true _ 16 inner.1, ltb-true _ 16 outer.1)

bytes_decode : (bytes : List ℕ) → AreBytes bytes → AreBytes (percent_decode bytes)
unfolding percent_decode
bytes_decode [] h = tt
bytes_decode (b ∷ []) h = h
bytes_decode (b ∷ c ∷ []) h = h
bytes_decode (b ∷ high ∷ low ∷ rest) h =
    cond_both (is_escape b high low) ((16 * digit_value high + digit_value low) ∷ percent_decode rest) (b ∷ percent_decode (high ∷ low ∷ rest)) AreBytes
    (λ e. (escape_small b high low e, bytes_decode rest h.1.1.1))
    (λ e. (h.0, bytes_decode (high ∷ low ∷ rest) h.1))

some_decoded : (bytes : List ℕ) → 0 < length bytes → 0 < length (percent_decode bytes)
unfolding percent_decode
some_decoded [] h = h
some_decoded (b ∷ []) h = h
some_decoded (b ∷ c ∷ []) h = h
some_decoded (b ∷ high ∷ low ∷ rest) h =
    cond_both (is_escape b high low) ((16 * digit_value high + digit_value low) ∷ percent_decode rest) (b ∷ percent_decode (high ∷ low ∷ rest)) (λ x. 0 < length x) (λ e. omega arith) (λ e. omega arith)

pub some_bytes : (bytes : List ℕ) → is_empty bytes ≡ false → 0 < length bytes
some_bytes [] h = cc h
some_bytes (b ∷ bs) h = omega arith

pub literal_is : (part : List ℕ) → is_empty part ≡ false → AreBytes part → IsLiteral (literal_of part)
unfolding literal_of
literal_is part some h =
    cond_both (has_whole_escapes part) (percent_decode part) part IsLiteral
    (λ e. (some_decoded part (some_bytes part some), All-from_recursion (λ b. b < 256) (percent_decode part) (bytes_decode part h)))
    (λ e. (some_bytes part some, All-from_recursion (λ b. b < 256) part h))

-- ---- one segment

-- the segment may stand behind these
record Fitting (before : List Seg) (is_last : Bool) (seg : Seg) : Type 0 where
  last : MayEnd seg
  inner : is_last ≡ false → MayStand seg
  named : is_named seg ≡ true → wildcard_count before < 16

name_room : (place : ℕ) (before : List Seg) (name own : List ℕ) → name_said place before name ≡ Ok own → wildcard_count before < 16
unfolding name_said
name_room place before name own h =
    let h1 = unless_fault (is_empty name) _ _ _ h in
    let h2 = unless_fault (not (is_name name)) _ _ _ h1.1 in
    let h3 = unless_fault (list_any (has_name name) before) _ _ _ h2.1 in
    let h4 = unless_fault (nat_le max_wildcards (wildcard_count before)) _ _ _ h3.1 in
    leb-false 16 (wildcard_count before) h4.0

end_fits : (place : ℕ) (before : List Seg) (is_last : Bool) (seg : Seg) → end_said place is_last ≡ Ok seg → Fitting before is_last seg
unfolding end_said
end_fits place before true seg h =
    let e : End ≡ seg = cc h in
    subst (Fitting before true) e (record { last = tt; inner = λ never. cc never; named = λ never. cc never })
end_fits place before false seg h = cc h

rest_fits : (place : ℕ) (before : List Seg) (is_last : Bool) (name : List ℕ) (seg : Seg) → rest_said place before is_last name ≡ Ok seg → Fitting before is_last seg
unfolding rest_said
rest_fits place before true name seg h =
    let p = bind_ok (name_said place before name) _ seg h in
    let e : Rest p.0 ≡ seg = cc p.2 in
    let room = name_room place before name p.0 p.1 in
    subst (Fitting before true) e (record { last = tt; inner = λ never. cc never; named = λ _. room })
rest_fits place before false name seg h = cc h

one_fits : (place : ℕ) (before : List Seg) (is_last : Bool) (name : List ℕ) (seg : Seg) → one_said place before name ≡ Ok seg → Fitting before is_last seg
unfolding one_said
one_fits place before is_last name seg h =
    let p = bind_ok (name_said place before name) _ seg h in
    let e : One p.0 ≡ seg = cc p.2 in
    let room = name_room place before name p.0 p.1 in
    subst (Fitting before is_last) e (record { last = tt; inner = λ _. tt; named = λ _. room })

wildcard_fits : (place : ℕ) (before : List Seg) (is_last : Bool) (inner : List ℕ) (seg : Seg) → wildcard_said place before is_last inner ≡ Ok seg → Fitting before is_last seg
unfolding wildcard_said
wildcard_fits place before is_last inner seg =
    cond_both (bytes_eq inner (codes "$")) (end_said place is_last) _ (λ x. x ≡ Ok seg → Fitting before is_last seg)
    (λ e. end_fits place before is_last seg)
    (λ e. cond_both (bytes_eq (drop (length inner - length dots) inner) dots) (rest_said place before is_last (take (length inner - length dots) inner)) (one_said place before inner) (λ x. x ≡ Ok seg → Fitting before is_last seg)
    (λ e'. rest_fits place before is_last (take (length inner - length dots) inner) seg)
    (λ e'. one_fits place before is_last inner seg))

braced_fits : (place : ℕ) (before : List Seg) (is_last : Bool) (part : List ℕ) (brace : Option ℕ) (seg : Seg) → is_empty part ≡ false → AreBytes part → braced_said place before is_last part brace ≡ Ok seg → Fitting before is_last seg
unfolding braced_said
braced_fits place before is_last part None seg some bytes h =
    let e : Literal (literal_of part) ≡ seg = cc h in
    let is = literal_is part some bytes in
    subst (Fitting before is_last) e (record { last = is; inner = λ _. is; named = λ never. cc never })
braced_fits place before is_last part (Some brace) seg some bytes h =
    let h1 = unless_fault (not (brace == 0)) _ _ _ h in
    let h2 = unless_fault (not (is_close_brace (slice_index part (length part - 1)))) _ _ _ h1.1 in
    wildcard_fits place before is_last (inner_of part) seg h2.1

seg_fits : (place : ℕ) (before : List Seg) (is_last : Bool) (part : List ℕ) (seg : Seg) → (is_last ≡ false → is_empty part ≡ false) → AreBytes part → seg_said place before is_last part ≡ Ok seg → (length before < 64) × Fitting before is_last seg
unfolding seg_said
seg_fits place before is_last part seg some bytes h =
    let h1 = unless_fault (nat_le max_segments (length before)) _ _ _ h in
    let fits : cond (is_empty part) (Ok (Rest [])) (braced_said place before is_last part (position is_open_brace part)) ≡ Ok seg → Fitting before is_last seg =
    cond_both (is_empty part) (Ok (Rest [])) (braced_said place before is_last part (position is_open_brace part)) (λ x. x ≡ Ok seg → Fitting before is_last seg)
    (λ e h'. let e' : Rest [] ≡ seg = cc h' in subst (Fitting before is_last) e' (record { last = tt; inner = λ inner. absurd (both_ways _ (some inner) e); named = λ never. cc never }))
    (λ e h'. braced_fits place before is_last part (position is_open_brace part) seg e bytes h') in
    (leb-false 64 (length before) h1.0, fits h1.1)

-- ---- all segments

abbrev AllStand : List Seg → Type 0
AllStand [] = Unit {0}
AllStand (seg ∷ segs) = MayStand seg × AllStand segs

stand_push : (segs : List Seg) (seg : Seg) → AllStand segs → MayStand seg → AllStand (segs ++ seg ∷ [])
stand_push [] seg h h' = (h', tt)
stand_push (first ∷ segs) seg h h' = (h.0, stand_push segs seg h.1 h')

formed_push : (segs : List Seg) (seg : Seg) → AllStand segs → MayEnd seg → AreWellFormed (segs ++ seg ∷ [])
formed_push [] seg h h' = h'
formed_push (first ∷ []) seg h h' = (h.0, h')
formed_push (first ∷ next ∷ segs) seg h h' = (h.0, formed_push (next ∷ segs) seg h.1 h')

count_push : (segs : List Seg) (seg : Seg) → wildcard_count (segs ++ seg ∷ []) ≡ wildcard_count segs + cond (is_named seg) 1 0
count_push segs seg = fold-append (λ a x. a + cond (is_named x) 1 0) 0 segs (seg ∷ [])

-- segments that are well formed and within the limits
pub record AreGood (segs : List Seg) : Type 0 where
  pub formed : AreWellFormed segs
  pub few : length segs ≤ 64
  pub named : wildcard_count segs ≤ 16

push_named : (before : List Seg) (seg : Seg) → wildcard_count before ≤ 16 → (is_named seg ≡ true → wildcard_count before < 16) → wildcard_count (before ++ seg ∷ []) ≤ 16
push_named before seg few room =
    rw (count_push before seg)
    (cond_both (is_named seg) 1 0 (λ x. wildcard_count before + x ≤ 16) (λ e. let r = room e in omega arith) (λ e. omega arith))

segs_good : (parts : List (List ℕ)) (place : ℕ) (before segs : List Seg) → 0 < length parts → are_tidy parts ≡ true → AreByteParts parts → AllStand before → wildcard_count before ≤ 16 → segs_said place before parts ≡ Ok segs → AreGood segs
unfolding segs_said
segs_good [] place before segs some tidy bytes stand named h = absurd (omega arith)
segs_good (part ∷ []) place before segs some tidy bytes stand named h =
    let p = bind_ok (seg_said place before true part) _ segs h in
    let fits = seg_fits place before true part p.0 (λ never. cc never) bytes.0 p.1 in
    let e : before ++ p.0 ∷ [] ≡ segs = cc p.2 in
    subst AreGood e (record {
      formed = formed_push before p.0 stand fits.1.last;
      few = omega (arith, length-append before (p.0 ∷ []), fits.0);
      named = push_named before p.0 named fits.1.named;
    })
segs_good (part ∷ next ∷ parts) place before segs some tidy bytes stand named h =
    let go = λ (seg : Seg). segs_said (place + (length part + 1)) (before ++ seg ∷ []) (next ∷ parts) in
    let more : is_empty (next ∷ parts) ≡ false = ne_eqb (length (next ∷ parts)) 0 (λ e. omega arith) in
    let p = bind_ok (seg_said place before false part) go segs (subst (λ (b : Bool). (seg_said place before b part >>= go) ≡ Ok segs) more h) in
    let first = first_tidy part next parts tidy in
    let filled : is_empty part ≡ false = filled_part part first.0 in
    let fits = seg_fits place before false part p.0 (λ _. filled) bytes.0 p.1 in
    segs_good (next ∷ parts) (place + (length part + 1)) (before ++ p.0 ∷ []) segs (omega arith) first.1 bytes.1 (stand_push before p.0 stand (fits.1.inner refl)) (push_named before p.0 named fits.1.named) p.2

-- ---- the text

path_good : (place : ℕ) (path : List ℕ) (segs : List Seg) → AreBytes path → path_said place path ≡ Ok segs → AreGood segs
unfolding path_said
path_good place path segs bytes h =
    let h1 = unless_fault (not (bytes_eq (cleaned path) path)) _ _ _ h in
    let clean : cleaned path ≡ path = (bytes_eq-Decides (cleaned path) path).0 (not-false _ h1.0) in
    let is = cleaned_is path in
    let e : path ≡ slash ∷ is.tail = sym clean ∙ is.is in
    let tail : drop 1 path ≡ is.tail = ap (drop 1) e in
    let tidy : are_tidy (parts_of (drop 1 path)) ≡ true = ap (λ t. are_tidy (parts_of t)) tail ∙ is.tidy in
    segs_good (parts_of (drop 1 path)) (place + 1) [] segs (some_parts (drop 1 path)) tidy (bytes_parts (drop 1 path) (bytes_drop 1 path bytes)) tt (omega arith) h1.1

target_good : (place : ℕ) (target : List ℕ) (slash : Option ℕ) (x : List ℕ × List Seg) → AreBytes target → target_said place target slash ≡ Ok x → AreGood x.1
unfolding target_said
target_good place target None x bytes h = cc h
target_good place target (Some slash) x bytes h =
    let p = bind_ok (host_said place (take slash target) (position is_open_brace (take slash target))) _ x h in
    let q = bind_ok (path_said (place + slash) (drop slash target)) _ x p.2 in
    let e : (p.0, q.0) ≡ x = cc q.2 in
    subst (λ (y : List ℕ × List Seg). AreGood y.1) e (path_good (place + slash) (drop slash target) q.0 (bytes_drop slash target bytes) q.1)

cut_good : (text : List ℕ) (space : Option ℕ) (x : Spelled) → AreBytes text → cut_said text space ≡ Ok x → AreGood x.segs
unfolding cut_said
cut_good text space x bytes h =
    let p = bind_ok (method_said (front_of text space)) _ x h in
    let target = drop (target_place space) text in
    let q = bind_ok (target_said (target_place space) target (position is_slash target)) _ x p.2 in
    let e : record { method = p.0; host = q.0.0; segs = q.0.1 } ≡ x = cc q.2 in
    subst (λ (y : Spelled). AreGood y.segs) e (target_good (target_place space) target (position is_slash target) q.0 (bytes_drop (target_place space) text bytes) q.1)

-- what a call that gives what is said of a text answers is good
pub given_good : (text : List ℕ) (space : Option ℕ) (r : Result Pattern PatternError) → All (λ b. b < 256) text → Gives spelled_of r (cut_said text space) → IfOk r (λ p. AreGood p.segs.items)
given_good text space (Ok p) bytes h = cut_good text space (spelled_of p) (recursion_from_All (λ b. b < 256) text bytes) h
given_good text space (Err e) bytes h = tt

pub given_formed : (text : List ℕ) (space : Option ℕ) (r : Result Pattern PatternError) → All (λ b. b < 256) text → Gives spelled_of r (cut_said text space) → IfOk r IsWellFormed
given_formed text space (Ok p) bytes h = (given_good text space (Ok p) bytes h).formed
given_formed text space (Err e) bytes h = tt

pub given_few : (text : List ℕ) (space : Option ℕ) (r : Result Pattern PatternError) → All (λ b. b < 256) text → Gives spelled_of r (cut_said text space) → IfOk r (λ p. length p.segs.items ≤ 64)
given_few text space (Ok p) bytes h = (given_good text space (Ok p) bytes h).few
given_few text space (Err e) bytes h = tt

pub given_named : (text : List ℕ) (space : Option ℕ) (r : Result Pattern PatternError) → All (λ b. b < 256) text → Gives spelled_of r (cut_said text space) → IfOk r (λ p. wildcard_count p.segs.items ≤ 16)
given_named text space (Ok p) bytes h = (given_good text space (Ok p) bytes h).named
given_named text space (Err e) bytes h = tt
