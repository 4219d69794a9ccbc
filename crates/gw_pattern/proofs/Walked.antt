-- The bytes that the walk over the parts has made are the parts that remain.
use Rattle.std.proofs.Common.{◌≡◌, ℕ, Bool, true, false, cond, List, [], ◌∷◌, ◌++◌, reverse, fold, if◌then◌else◌, sym, refl, ap, ◌∙◌, ⊎_elim, append_assoc, append-nil}
use Rattle.std.specs.List.{join_with_byte}
use mathlib.Core.List.{reverse-cons}
use Rattle.std.proofs.lemmas.Bool.{cond-true, cond-false, cases_Bool, both_ways}
use Rattle.std.proofs.lemmas.List.{reverse-append, reverse-reverse}
use Rattle.gw_pattern.specs.Path.{slash, is_slash, parts_of, is_idle, is_parent, without_last, with_part, remaining_parts, ends_in_slash, joined_path, cleaned}
use Rattle.gw_pattern.specs.Grammar.{slashed}
use Rattle.gw_pattern.specs.Walk.{past_slash, without_last_part, with_part_bytes, closed_bytes}
use Rattle.gw_pattern.proofs.Tidy.{no_slash, ArePlain, AreKept, kept_with_part, plain_parts, tail_plain}

slashed-push : (parts : List (List ℕ)) (part : List ℕ) → slashed (parts ++ part ∷ []) ≡ slashed parts ++ slash ∷ part
slashed-push [] part = append-nil (slash ∷ part)
slashed-push (first ∷ parts) part =
    ap (λ x. (slash ∷ first) ++ x) (slashed-push parts part) ∙ sym (append_assoc (slash ∷ first) (slashed parts) (slash ∷ part))

no_slash-append : (xs ys : List ℕ) → no_slash xs ≡ true → no_slash ys ≡ true → no_slash (xs ++ ys) ≡ true
no_slash-append [] ys h h' = h'
no_slash-append (x ∷ xs) ys h h' =
    ⊎_elim
    (λ e. absurd (both_ways false refl (sym (cond-true (is_slash x) false (no_slash xs) e) ∙ h)))
    (λ e. cond-false _ _ _ e ∙ no_slash-append xs ys (sym (cond-false (is_slash x) false (no_slash xs) e) ∙ h) h')
    (cases_Bool (is_slash x))

no_slash-reverse : (xs : List ℕ) → no_slash xs ≡ true → no_slash (reverse xs) ≡ true
no_slash-reverse [] h = refl
no_slash-reverse (x ∷ xs) h =
    let t = tail_plain x xs h in
    rw (reverse-cons x xs) (no_slash-append (reverse xs) (x ∷ []) (no_slash-reverse xs t.1) (cond-false _ _ _ t.0))

past_slash_plain : (part rest : List ℕ) → no_slash part ≡ true → past_slash (part ++ slash ∷ rest) ≡ rest
past_slash_plain [] rest h = refl
past_slash_plain (b ∷ bs) rest h =
    let t = tail_plain b bs h in
    cond-false _ _ _ t.0 ∙ past_slash_plain bs rest t.1

cut : (bytes part : List ℕ) → no_slash part ≡ true → without_last_part (bytes ++ slash ∷ part) ≡ bytes
cut bytes part h =
    let e : reverse (bytes ++ slash ∷ part) ≡ reverse part ++ slash ∷ reverse bytes = reverse-append bytes (slash ∷ part) ∙ ap (λ x. x ++ reverse bytes) (reverse-cons slash part) ∙ append_assoc (reverse part) (slash ∷ []) (reverse bytes) in
    ap (λ x. reverse (past_slash x)) e ∙ ap reverse (past_slash_plain (reverse part) (reverse bytes) (no_slash-reverse part h)) ∙ reverse-reverse bytes

cut_slashed : (bytes part : List ℕ) (parts : List (List ℕ)) → ArePlain (part ∷ parts) → without_last_part (bytes ++ slashed (part ∷ parts)) ≡ bytes ++ slashed (without_last (part ∷ parts))
cut_slashed bytes part [] plain =
    ap (λ x. without_last_part (bytes ++ x)) (append-nil (slash ∷ part)) ∙ cut bytes part plain.0 ∙ sym (append-nil bytes)
cut_slashed bytes part (next ∷ parts) plain =
    ap without_last_part (sym (append_assoc bytes (slash ∷ part) (slashed (next ∷ parts))))
    ∙ cut_slashed (bytes ++ slash ∷ part) next parts plain.1
    ∙ append_assoc bytes (slash ∷ part) (slashed (without_last (next ∷ parts)))

slashed-without_last : (parts : List (List ℕ)) → ArePlain parts → without_last_part (slashed parts) ≡ slashed (without_last parts)
slashed-without_last [] plain = refl
slashed-without_last (part ∷ parts) plain = cut_slashed [] part parts plain

with_part_slashed : (kept : List (List ℕ)) (part : List ℕ) → ArePlain kept → with_part_bytes (slashed kept) part ≡ slashed (with_part kept part)
with_part_slashed kept part plain =
    ⊎_elim
    (λ e. cond-true _ _ _ e ∙ sym (ap slashed (cond-true (is_idle part) kept (cond (is_parent part) (without_last kept) (kept ++ part ∷ [])) e)))
    (λ e. cond-false _ _ _ e ∙ (
    ⊎_elim
    (λ e'. cond-true _ _ _ e' ∙ slashed-without_last kept plain ∙ sym (ap slashed (cond-true (is_parent part) (without_last kept) (kept ++ part ∷ []) e')))
    (λ e'. cond-false _ _ _ e' ∙ sym (slashed-push kept part) ∙ sym (ap slashed (cond-false (is_parent part) (without_last kept) (kept ++ part ∷ []) e')))
    (cases_Bool (is_parent part))
    ) ∙ sym (ap slashed (cond-false (is_idle part) kept (cond (is_parent part) (without_last kept) (kept ++ part ∷ [])) e)))
    (cases_Bool (is_idle part))

fold_slashed : (parts kept : List (List ℕ)) → AreKept kept → ArePlain parts → fold with_part_bytes (slashed kept) parts ≡ slashed (fold with_part kept parts)
fold_slashed [] kept h plain = refl
fold_slashed (part ∷ parts) kept h plain =
    ap (λ x. fold with_part_bytes x parts) (with_part_slashed kept part h.0) ∙ fold_slashed parts (with_part kept part) (kept_with_part kept part h plain.0) plain.1

pub slashed_joined : (part : List ℕ) (parts : List (List ℕ)) → slashed (part ∷ parts) ≡ slash ∷ join_with_byte slash (part ∷ parts)
slashed_joined part [] = append-nil (slash ∷ part)
slashed_joined part (next ∷ parts) = ap (λ x. (slash ∷ part) ++ x) (slashed_joined next parts)

closed_slashed : (parts : List (List ℕ)) (ends : Bool) → closed_bytes (slashed parts) ends ≡ joined_path parts ends
closed_slashed [] ends = refl
closed_slashed (part ∷ parts) ends = ap (λ x. x ++ (if ends then slash ∷ [] else [])) (slashed_joined part parts)

pub closed_walk : (path : List ℕ) → closed_bytes (fold with_part_bytes [] (parts_of path)) (ends_in_slash path) ≡ cleaned path
unfolding cleaned
closed_walk path =
    ap (λ x. closed_bytes x (ends_in_slash path)) (fold_slashed (parts_of path) [] (tt, tt) (plain_parts path)) ∙ closed_slashed (remaining_parts (parts_of path)) (ends_in_slash path)
