-- The first part of a path, by its length.
use Rattle.std.proofs.Common.{◌≡◌, ℕ, suc, ◌<◌, ◌≤◌, List, [], ◌∷◌, length, map, take, drop, Option, Some, None, sym, refl, ap, subst, ◌∙◌, arith}
use Rattle.std.specs.List.{position}
use Rattle.std.proofs.lemmas.List.{drop_all, take_all, length-take-le}
use Rattle.gw_pattern.specs.Path.{is_slash}
use Rattle.gw_pattern.proofs.Parts.{position_some}
use Rattle.gw_mux.specs.Request.{parts_in}
use Rattle.gw_mux.specs.Sent.{AreLengths}
use Rattle.gw_mux.specs.Walk.{TakesPart}
use Rattle.gw_mux.proofs.Parts.{inner_part, last_part}

first_length : (path part after : List ℕ) (n : ℕ) (ns : List ℕ) → TakesPart path part after → AreLengths (n ∷ ns) path → (n ≡ length part) × AreLengths ns after
first_length path part after n ns t h =
    let e : n ∷ ns ≡ length part ∷ take (length ns) (map length (parts_in after)) = h ∙ ap (λ parts. take (suc (length ns)) (map length parts)) t.0 in
    (cc, cc)

-- what is known of the part of that length
abbrev pub IsKnown : List ℕ → ℕ → List ℕ → Type 0
IsKnown path n ns =
    (1 ≤ length path) × (n ≤ length (drop 1 path)) × TakesPart path (take n (drop 1 path)) (drop n (drop 1 path)) × AreLengths ns (drop n (drop 1 path))

known_last : (path : List ℕ) (n : ℕ) (ns : List ℕ) → 1 ≤ length path → TakesPart path (drop 1 path) [] → (n ≡ length (drop 1 path)) × AreLengths ns [] → IsKnown path n ns
known_last path n ns some t h =
    let e = sym (take_all n (drop 1 path) (omega (arith, h.0))) in
    let f = sym (drop_all n (drop 1 path) (omega (arith, h.0))) in
    (some, omega (arith, h.0), subst (λ x. TakesPart path x (drop n (drop 1 path))) e (subst (λ x. TakesPart path (drop 1 path) x) f t), subst (AreLengths ns) f h.1)

known_inner : (path : List ℕ) (n end : ℕ) (ns : List ℕ) → 1 ≤ length path → end < length (drop 1 path) → TakesPart path (take end (drop 1 path)) (drop end (drop 1 path)) → (n ≡ length (take end (drop 1 path))) × AreLengths ns (drop end (drop 1 path)) → IsKnown path n ns
known_inner path n end ns some within t h =
    let e : end ≡ n = sym (h.0 ∙ length-take-le end (drop 1 path) (omega (arith, within))) in
    subst (λ m. (1 ≤ length path) × (m ≤ length (drop 1 path)) × TakesPart path (take m (drop 1 path)) (drop m (drop 1 path)) × AreLengths ns (drop m (drop 1 path))) e
    (some, omega (arith, within), t, h.1)

known_by : (path : List ℕ) (n : ℕ) (ns : List ℕ) (at : Option ℕ) → position is_slash (drop 1 path) ≡ at → 1 ≤ length path → AreLengths (n ∷ ns) path → IsKnown path n ns
known_by path n ns None e some h =
    let t = last_part path some e in known_last path n ns some t (first_length path (drop 1 path) [] n ns t h)
known_by path n ns (Some end) e some h =
    let t = inner_part path end some e in
    known_inner path n end ns some (position_some is_slash (drop 1 path) end e).1 t (first_length path (take end (drop 1 path)) (drop end (drop 1 path)) n ns t h)

not_empty : (path : List ℕ) (n : ℕ) (ns : List ℕ) → AreLengths (n ∷ ns) path → 1 ≤ length path
not_empty [] n ns h = absurd (cc)
not_empty (b ∷ path) n ns h = omega arith

pub known : (path : List ℕ) (n : ℕ) (ns : List ℕ) → AreLengths (n ∷ ns) path → IsKnown path n ns
known path n ns h = known_by path n ns (position is_slash (drop 1 path)) refl (not_empty path n ns h) h
