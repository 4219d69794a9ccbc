-- A clean path as the walk sees it: without its last slash, and whether it has one.
use Rattle.std.proofs.Common.{◌≡◌, ℕ, ◌<◌, Bool, true, false, cond, List, [], ◌∷◌, ◌++◌, length, map, sym, refl, ap, ◌∙◌, subst, ⊎_elim, append-nil, arith}
use Rattle.std.specs.List.{filter, onto_first, join_with_byte}
use Rattle.std.proofs.lemmas.Bool.{cond-true, cond-false, cases_Bool, both_ways}
use Rattle.std.proofs.lemmas.List.Elements.{filter-append}
use Rattle.std.proofs.lemmas.List.Splits.{join_with_byte-slice_split}
use Rattle.percent_encoding.specs.Percent.{percent_decode}
use Rattle.gw_pattern.specs.Path.{slash, is_slash, parts_of, is_special, are_tidy, ends_in_slash, cleaned}
use Rattle.gw_pattern.proofs.Tidy.{ArePlain, front, ends_empty, ends_append, ends_joined, plain_parts, some_parts, tidy_of_clean}
use Rattle.gw_mux.specs.Decision.{with_slash}
use Rattle.gw_mux.specs.Request.{asked_for, is_filled, parts_in, sent_segments}
use Rattle.gw_mux.specs.Walk.{CutsSlash, asked_by}

-- ---- a slash more

push_onto : (b : ℕ) (parts more : List (List ℕ)) → 0 < length parts → onto_first b (parts ++ more) ≡ onto_first b parts ++ more
push_onto b [] more some = absurd (omega arith)
push_onto b (part ∷ parts) more some = refl

-- the path with a slash more has an empty part more
pub parts_push : (path : List ℕ) → parts_of (path ++ slash ∷ []) ≡ parts_of path ++ [] ∷ []
parts_push [] = refl
parts_push (b ∷ bs) =
    ⊎_elim
    (λ e. cond-true (is_slash b) ([] ∷ parts_of (bs ++ slash ∷ [])) (onto_first b (parts_of (bs ++ slash ∷ []))) e ∙ ap (λ x. [] ∷ x) (parts_push bs) ∙ sym (ap (λ x. x ++ [] ∷ []) (cond-true (is_slash b) ([] ∷ parts_of bs) (onto_first b (parts_of bs)) e)))
    (λ e. cond-false (is_slash b) ([] ∷ parts_of (bs ++ slash ∷ [])) (onto_first b (parts_of (bs ++ slash ∷ []))) e ∙ ap (onto_first b) (parts_push bs) ∙ push_onto b (parts_of bs) ([] ∷ []) (some_parts bs) ∙ sym (ap (λ x. x ++ [] ∷ []) (cond-false (is_slash b) ([] ∷ parts_of bs) (onto_first b (parts_of bs)) e)))
    (cases_Bool (is_slash b))

pub sent_push : (path : List ℕ) → sent_segments (path ++ slash ∷ []) ≡ sent_segments path
sent_push path =
    ap (filter is_filled) (parts_push path) ∙ filter-append is_filled (parts_of path) ([] ∷ []) ∙ append-nil (filter is_filled (parts_of path))

pub ends_push : (path : List ℕ) → ends_in_slash (path ++ slash ∷ []) ≡ true
ends_push path = ends_append path [] slash

-- ---- the segments of a clean path

filled_first : (part : List ℕ) (parts : List (List ℕ)) → is_special part ≡ false → filter is_filled (part ∷ parts) ≡ part ∷ filter is_filled parts
filled_first [] parts h = absurd (both_ways true h refl)
filled_first (b ∷ part) parts h = refl

unless_special : (b next : Bool) → cond b false next ≡ true → (b ≡ false) × (next ≡ true)
unless_special true next h = absurd (both_ways false refl h)
unless_special false next h = (refl, h)

filled_front : (parts : List (List ℕ)) → are_tidy parts ≡ true → filter is_filled parts ≡ front parts
filled_front [] tidy = refl
filled_front ([] ∷ []) tidy = refl
filled_front ((b ∷ part) ∷ []) tidy = refl
filled_front (part ∷ next ∷ parts) tidy =
    let h = unless_special (is_special part) (are_tidy (next ∷ parts)) tidy in
    filled_first part (next ∷ parts) h.0 ∙ ap (λ x. part ∷ x) (filled_front (next ∷ parts) h.1)

front_push : (part : List ℕ) (parts : List (List ℕ)) → front ((part ∷ parts) ++ [] ∷ []) ≡ part ∷ parts
front_push part [] = refl
front_push part (next ∷ parts) = ap (λ x. part ∷ x) (front_push next parts)

push_front : (parts : List (List ℕ)) → 0 < length parts → front (parts ++ [] ∷ []) ≡ parts
push_front [] some = absurd (omega arith)
push_front (part ∷ parts) some = front_push part parts

no_front : (parts : List (List ℕ)) → ends_empty parts ≡ false → front parts ≡ parts
no_front [] h = refl
no_front ([] ∷ []) h = absurd (both_ways true h refl)
no_front ((b ∷ part) ∷ []) h = refl
no_front (part ∷ next ∷ parts) h = ap (λ x. part ∷ x) (no_front (next ∷ parts) h)

pub ends_of : (parts : List (List ℕ)) (tail : List ℕ) → 0 < length parts → parts ≡ parts_of tail → ends_in_slash (slash ∷ tail) ≡ ends_empty parts
ends_of [] tail some e = absurd (omega arith)
ends_of (part ∷ parts) tail some e =
    ap (λ t. ends_in_slash (slash ∷ t)) (sym (ap (λ x. join_with_byte slash x) e ∙ join_with_byte-slice_split slash tail))
    ∙ ends_joined part parts (subst ArePlain (sym e) (plain_parts tail))

pub sent_tail : (tail : List ℕ) → are_tidy (parts_of tail) ≡ true → sent_segments (slash ∷ tail) ≡ front (parts_of tail)
sent_tail tail tidy = filled_front (parts_of tail) tidy

body_front : (body tail : List ℕ) → body ++ slash ∷ [] ≡ slash ∷ tail → parts_in body ≡ front (parts_of tail)
body_front [] tail e =
    let same : [] ≡ tail = cc in ap (λ t. front (parts_of t)) same
body_front (b ∷ body) tail e =
    let same : body ++ slash ∷ [] ≡ tail = cc in
    sym (push_front (parts_of body) (some_parts body)) ∙ ap front (sym (parts_push body)) ∙ ap (λ t. front (parts_of t)) same

pub sent_body : (path body : List ℕ) (slashed : Bool) → cleaned path ≡ path → CutsSlash path body slashed → sent_segments path ≡ parts_in body
sent_body path body true clean cut =
    let (tail, is, tidy) = tidy_of_clean path clean in
    ap sent_segments is ∙ sent_tail tail tidy ∙ sym (body_front body tail (sym cut ∙ is))
sent_body path body false clean cut =
    let (tail, is, tidy) = tidy_of_clean path clean in
    let ends : ends_empty (parts_of tail) ≡ false = sym (ends_of (parts_of tail) tail (some_parts tail) refl) ∙ ap ends_in_slash (sym is) ∙ cut.1 in
    ap sent_segments is ∙ sent_tail tail tidy ∙ no_front (parts_of tail) ends ∙ ap parts_in (sym is ∙ cut.0)

ends_body : (path body : List ℕ) (slashed : Bool) → CutsSlash path body slashed → ends_in_slash path ≡ slashed
ends_body path body true cut = ap ends_in_slash cut ∙ ends_push body
ends_body path body false cut = cut.1

-- ---- what is asked for

-- the walk sees what is asked for, with a slash more too
pub record IsSeen (method host path body : List ℕ) (slashed : Bool) : Type 0 where
  pub ends : ends_in_slash path ≡ slashed
  pub same : asked_for method host path ≡ asked_by method host body slashed
  pub more : slashed ≡ false → asked_for method host (with_slash path) ≡ asked_by method host body true

asked_same : (method host path body : List ℕ) (slashed : Bool) → ends_in_slash path ≡ slashed → sent_segments path ≡ parts_in body → asked_for method host path ≡ asked_by method host body slashed
unfolding asked_for
asked_same method host path body slashed e f =
    ap (λ s. record { method = method; host = host; segs = map percent_decode (sent_segments path); slash = s }) e
    ∙ ap (λ s. record { method = method; host = host; segs = map percent_decode s; slash = slashed }) f

pub seen : (method host path body : List ℕ) (slashed : Bool) → cleaned path ≡ path → CutsSlash path body slashed → IsSeen method host path body slashed
seen method host path body slashed clean cut =
    let sent = sent_body path body slashed clean cut in
    record {
      ends = ends_body path body slashed cut;
      same = asked_same method host path body slashed (ends_body path body slashed cut) sent;
      more = λ e. asked_same method host (path ++ slash ∷ []) body true (ends_push path) (sent_push path ∙ sent);
    }
