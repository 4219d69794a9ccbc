-- What named wildcards take of a clean path: a place in it each.
use Rattle.std.proofs.Common.{◌≡◌, ℕ, ◌+◌, ◌<◌, ◌≤◌, Bool, true, false, cond, List, [], ◌∷◌, ◌++◌, length, map, All, ⊎_elim, sym, refl, ap, subst, ◌∙◌, arith}
use Rattle.std.specs.List.{onto_first, sum_by}
use Rattle.std.proofs.lemmas.Bool.{cond-true, cond-false, cases_Bool}
use Rattle.std.proofs.lemmas.List.Elements.{All-nil, All-cons}
use Rattle.std.proofs.lemmas.List.Sums.{sum_by-cons}
use Rattle.percent_encoding.specs.Percent.{percent_decode}
use Rattle.gw_pattern.specs.declared.form.Pattern.{Pattern}
use Rattle.gw_pattern.specs.declared.form.Seg.{Seg}
use Rattle.gw_pattern.specs.declared.form.Seg.TheVariants.{Literal, One, Rest, End}
use Rattle.gw_pattern.specs.Path.{slash, is_slash, parts_of, are_tidy, ends_in_slash, IsClean}
use Rattle.gw_pattern.specs.Pattern.{AreWellFormed, IsWellFormed, is_named, wildcard_count}
use Rattle.gw_pattern.proofs.Tidy.{front, ends_empty, some_parts, tidy_of_clean}
use Rattle.gw_sets.specs.Matches.{SegsMatch}
use Rattle.gw_mux.specs.declared.answer.Hit.{Hit}
use Rattle.gw_mux.specs.Answer.{IsHit}
use Rattle.gw_mux.specs.Decision.{DoesTake, IsCandidate}
use Rattle.gw_mux.specs.Laws.{IsSpanIn}
use Rattle.gw_mux.specs.Request.{asked_for, parts_in, rest_span, segments_of, sent_segments, spans_from, spans_of}
use Rattle.gw_mux.specs.Table.{IsAt}
use Rattle.gw_mux.proofs.Conflicting.{same_at}
use Rattle.gw_mux.proofs.Paths.{ends_of, sent_tail}

-- ---- as many as there are named wildcards

-- the rest and the end stand last
abbrev EndsWell : List Seg → Type 0
EndsWell [] = Unit {0}
EndsWell (Literal bytes ∷ segs) = EndsWell segs
EndsWell (One name ∷ segs) = EndsWell segs
EndsWell (Rest name ∷ segs) = segs ≡ []
EndsWell (End ∷ segs) = segs ≡ []

ends_well : (segs : List Seg) → AreWellFormed segs → EndsWell segs
ends_well [] h = absurd h
ends_well (Literal bytes ∷ []) h = tt
ends_well (One name ∷ []) h = tt
ends_well (Rest name ∷ []) h = refl
ends_well (End ∷ []) h = refl
ends_well (Literal bytes ∷ next ∷ segs) h = ends_well (next ∷ segs) h.1
ends_well (One name ∷ next ∷ segs) h = ends_well (next ∷ segs) h.1
ends_well (Rest name ∷ next ∷ segs) h = absurd h.0
ends_well (End ∷ next ∷ segs) h = absurd h.0

-- a path that ends in a slash has an empty part behind it
abbrev last_of : Bool → List (List ℕ)
last_of true = [] ∷ []
last_of false = []

count_more : (seg : Seg) (segs : List Seg) → wildcard_count (seg ∷ segs) ≡ cond (is_named seg) 1 0 + wildcard_count segs
count_more seg segs = sum_by-cons (λ x. cond (is_named x) 1 0) seg segs

rest_counted : (place end : ℕ) (name : List ℕ) (segs : List Seg) → segs ≡ [] → length (rest_span place end name) ≡ wildcard_count (Rest name ∷ segs)
rest_counted place end [] segs e = sym (ap (λ s. wildcard_count (Rest [] ∷ s)) e)
rest_counted place end (b ∷ name) segs e = sym (ap (λ s. wildcard_count (Rest (b ∷ name) ∷ s)) e)

counted : (place end : ℕ) (segs : List Seg) (parts : List (List ℕ)) (slashed : Bool) → EndsWell segs → SegsMatch segs (map percent_decode parts) slashed → length (spans_from place end segs (parts ++ last_of slashed)) ≡ wildcard_count segs
counted place end [] parts slashed w h = refl
counted place end (Literal bytes ∷ segs) [] slashed w h = absurd h
counted place end (Literal bytes ∷ segs) (part ∷ parts) slashed w h =
    let n = counted (place + length part + 1) end segs parts slashed w h.1 in
    let k = count_more (Literal bytes) segs in omega (arith, n, k)
counted place end (One name ∷ segs) [] slashed w h = absurd h
counted place end (One name ∷ segs) (part ∷ parts) slashed w h =
    let n = counted (place + length part + 1) end segs parts slashed w h in
    let k = count_more (One name) segs in omega (arith, n, k)
counted place end (End ∷ segs) [] true w h = sym (ap (λ s. wildcard_count (End ∷ s)) w)
counted place end (End ∷ segs) [] false w h = absurd (cc)
counted place end (End ∷ segs) (part ∷ parts) slashed w h = absurd h
counted place end (Rest name ∷ segs) [] true w h = rest_counted place end name segs w
counted place end (Rest name ∷ segs) [] false w h = absurd (cc)
counted place end (Rest name ∷ segs) (part ∷ parts) slashed w h = rest_counted place end name segs w

parts_ended : (parts : List (List ℕ)) → parts ≡ front parts ++ last_of (ends_empty parts)
parts_ended [] = refl
parts_ended ([] ∷ []) = refl
parts_ended ((b ∷ part) ∷ []) = refl
parts_ended (part ∷ next ∷ parts) = ap (λ x. part ∷ x) (parts_ended (next ∷ parts))

-- the parts of a clean path are its segments, and an empty one behind its last slash
parts_sent : (path tail : List ℕ) → path ≡ slash ∷ tail → are_tidy (parts_of tail) ≡ true → parts_in path ≡ sent_segments path ++ last_of (ends_in_slash path)
parts_sent path tail is tidy =
    ap parts_in is ∙ parts_ended (parts_of tail)
    ∙ ap (λ s. s ++ last_of (ends_empty (parts_of tail))) (sym (sent_tail tail tidy))
    ∙ ap (λ b. sent_segments (slash ∷ tail) ++ last_of b) (sym (ends_of (parts_of tail) tail (some_parts tail) refl))
    ∙ sym (ap (λ p. sent_segments p ++ last_of (ends_in_slash p)) is)

-- ---- each in the path

-- how long the parts are, with a slash before each
abbrev laid : List (List ℕ) → ℕ
laid parts = sum_by (λ part. length part + 1) parts

laid_more : (part : List ℕ) (parts : List (List ℕ)) → laid (part ∷ parts) ≡ length part + 1 + laid parts
laid_more part parts = sum_by-cons (λ part. length part + 1) part parts

laid_onto : (b : ℕ) (parts : List (List ℕ)) → 0 < length parts → laid (onto_first b parts) ≡ laid parts + 1
laid_onto b [] some = absurd (omega arith)
laid_onto b (part ∷ parts) some = let h = laid_more (b ∷ part) parts in let k = laid_more part parts in omega (arith, h, k)

laid_parts : (path : List ℕ) → laid (parts_of path) ≡ length path + 1
laid_parts [] = refl
laid_parts (b ∷ bs) =
    let h = laid_parts bs in
    ⊎_elim
    (λ e. let k = ap laid (cond-true (is_slash b) ([] ∷ parts_of bs) (onto_first b (parts_of bs)) e) in
    let n = laid_more [] (parts_of bs) in omega (arith, h, k, n))
    (λ e. let k = ap laid (cond-false (is_slash b) ([] ∷ parts_of bs) (onto_first b (parts_of bs)) e) in
    let n = laid_onto b (parts_of bs) (some_parts bs) in omega (arith, h, k, n))
    (cases_Bool (is_slash b))

rest_inside : (place end : ℕ) (name : List ℕ) → place ≤ end → All (IsSpanIn end) (rest_span place end name)
rest_inside place end [] h = All-nil (IsSpanIn end)
rest_inside place end (b ∷ name) h = All-cons (IsSpanIn end) (place, end) [] (h, omega arith) (All-nil (IsSpanIn end))

inside : (place end : ℕ) (segs : List Seg) (parts : List (List ℕ)) → place + laid parts ≤ end + 1 → All (IsSpanIn end) (spans_from place end segs parts)
inside place end [] parts h = All-nil (IsSpanIn end)
inside place end (Literal bytes ∷ segs) [] h = All-nil (IsSpanIn end)
inside place end (One name ∷ segs) [] h = All-nil (IsSpanIn end)
inside place end (Rest name ∷ segs) [] h = All-nil (IsSpanIn end)
inside place end (End ∷ segs) [] h = All-nil (IsSpanIn end)
inside place end (End ∷ segs) (part ∷ parts) h = All-nil (IsSpanIn end)
inside place end (Rest name ∷ segs) (part ∷ parts) h = (let n = laid_more part parts in rest_inside place end name (omega (arith, h, n)))
inside place end (Literal bytes ∷ segs) (part ∷ parts) h =
    let n = laid_more part parts in inside (place + length part + 1) end segs parts (omega (arith, h, n))
inside place end (One name ∷ segs) (part ∷ parts) h =
    let n = laid_more part parts in
    All-cons (IsSpanIn end) (place, place + length part) (spans_from (place + length part + 1) end segs parts) (omega arith, omega (arith, h, n))
    (inside (place + length part + 1) end segs parts (omega (arith, h, n)))

inside_path : (path tail : List ℕ) (segs : List Seg) → path ≡ slash ∷ tail → All (IsSpanIn (length path)) (spans_of segs path)
inside_path path tail segs is =
    subst (λ p. All (IsSpanIn (length p)) (spans_of segs p)) (sym is)
    (let h = laid_parts tail in inside 1 (length (slash ∷ tail)) segs (parts_of tail) (omega (arith, h)))

-- ---- a hit's

candidate_matches : (patterns : List Pattern) (method host path : List ℕ) (i : ℕ) (p : Pattern) → IsCandidate patterns (asked_for method host path) i → IsAt patterns i p → SegsMatch p.segs.items (segments_of path) (ends_in_slash path)
unfolding DoesTake asked_for
candidate_matches patterns method host path i p c at =
    ⊎_elim
    (λ t. subst (λ x. SegsMatch x.segs.items (segments_of path) (ends_in_slash path)) (same_at patterns i t.0 p t.1 at) t.3.2)
    (λ t. subst (λ x. SegsMatch x.segs.items (segments_of path) (ends_in_slash path)) (same_at patterns i t.0.0 p t.0.1 at) t.0.3.2)
    c

pub wildcards_spanned : (patterns : List Pattern) (method host path : List ℕ) (hit : Hit) (p : Pattern) → IsClean path → IsHit patterns method host path hit → IsAt patterns hit.route p → IsWellFormed p → (length hit.spans ≡ wildcard_count p.segs.items) × All (IsSpanIn (length path)) hit.spans
wildcards_spanned patterns method host path hit p clean h at well =
    let (tail, is, tidy) = tidy_of_clean path clean in
    let e : hit.spans ≡ spans_of p.segs.items path = subst (λ x. hit.spans ≡ spans_of x.segs.items path) (same_at patterns hit.route h.1.0 p h.1.1 at) h.1.2 in
    let m = candidate_matches patterns method host path hit.route p h.0.0 at in (
      ap length e ∙ ap (λ parts. length (spans_from 1 (length path) p.segs.items parts)) (parts_sent path tail is tidy)
          ∙ counted 1 (length path) p.segs.items (sent_segments path) (ends_in_slash path) (ends_well p.segs.items well) m,
      subst (λ s. All (IsSpanIn (length path)) s) (sym e) (inside_path path tail p.segs.items is),
    )
