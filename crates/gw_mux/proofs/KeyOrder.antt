-- Patterns are ordered by the first branch that differs.
use Rattle.std.proofs.Common.{◌≡◌, ◌≢◌, ℕ, zero, suc, List, [], ◌∷◌, drop, Option, Some, None, MatchOption, Ordering, Less, Equal, Greater, sym, refl, ap, ◌∙◌}
use Rattle.std.specs.Cmp.Lexicographic.{slice_cmp}
use Rattle.std.specs.Ordering.{nat_cmp, ordering_then}
use Rattle.gw_mux.specs.declared.label.Label.{Label}
use Rattle.gw_mux.specs.Label.{key_of}
use Rattle.gw_mux.specs.Keys.{first_label, keys_cmp}

-- what is known of the label at a depth
abbrev pub IsLabelAt : List (List ℕ) → ℕ → Option Label → Type 0
IsLabelAt keys depth label = MatchOption label (drop depth keys ≡ []) (λ l. drop depth keys ≡ key_of l ∷ drop (suc depth) keys)

nothing_behind : (keys : List (List ℕ)) (depth : ℕ) → drop depth keys ≡ [] → drop (suc depth) keys ≡ []
nothing_behind [] zero e = refl
nothing_behind [] (suc depth) e = refl
nothing_behind (key ∷ keys) zero e = absurd (cc)
nothing_behind (key ∷ keys) (suc depth) e = nothing_behind keys depth e

then_equal : (o p : Ordering) → o ≡ Equal → ordering_then o p ≡ p
then_equal o p e = ap (λ x. ordering_then x p) e

then_other : (o p : Ordering) → o ≢ Equal → ordering_then o p ≡ o
then_other Less p ne = refl
then_other Equal p ne = absurd (ne refl)
then_other Greater p ne = refl

pub same_label : (xs ys : List (List ℕ)) (depth : ℕ) (a b : Option Label) → IsLabelAt xs depth a → IsLabelAt ys depth b → slice_cmp nat_cmp (first_label a) (first_label b) ≡ Equal → keys_cmp (drop depth xs) (drop depth ys) ≡ keys_cmp (drop (suc depth) xs) (drop (suc depth) ys)
same_label xs ys depth None None h k e =
    ap (λ s. keys_cmp s (drop depth ys)) h ∙ ap (λ s. keys_cmp [] s) k ∙ sym (ap (λ s. keys_cmp s (drop (suc depth) ys)) (nothing_behind xs depth h) ∙ ap (λ s. keys_cmp [] s) (nothing_behind ys depth k))
same_label xs ys depth None (Some b) h k e = absurd (cc)
same_label xs ys depth (Some a) None h k e = absurd (cc)
same_label xs ys depth (Some a) (Some b) h k e =
    ap (λ s. keys_cmp s (drop depth ys)) h ∙ ap (λ s. keys_cmp (key_of a ∷ drop (suc depth) xs) s) k
    ∙ then_equal (slice_cmp nat_cmp (key_of a) (key_of b)) (keys_cmp (drop (suc depth) xs) (drop (suc depth) ys)) e

pub other_label : (xs ys : List (List ℕ)) (depth : ℕ) (a b : Option Label) (o : Ordering) → IsLabelAt xs depth a → IsLabelAt ys depth b → o ≡ slice_cmp nat_cmp (first_label a) (first_label b) → o ≢ Equal → o ≡ keys_cmp (drop depth xs) (drop depth ys)
other_label xs ys depth None None o h k e ne = absurd (ne e)
other_label xs ys depth None (Some b) o h k e ne = e ∙ sym (ap (λ s. keys_cmp s (drop depth ys)) h ∙ ap (λ s. keys_cmp [] s) k)
other_label xs ys depth (Some a) None o h k e ne = e ∙ sym (ap (λ s. keys_cmp s (drop depth ys)) h ∙ ap (λ s. keys_cmp (key_of a ∷ drop (suc depth) xs) s) k)
other_label xs ys depth (Some a) (Some b) o h k e ne =
    e ∙ sym (ap (λ s. keys_cmp s (drop depth ys)) h ∙ ap (λ s. keys_cmp (key_of a ∷ drop (suc depth) xs) s) k
    ∙ then_other (slice_cmp nat_cmp (key_of a) (key_of b)) (keys_cmp (drop (suc depth) xs) (drop (suc depth) ys)) (λ x. ne (e ∙ x)))

-- where the first list ends
pub at_end : (xs ys : List (List ℕ)) (depth : ℕ) (b : Option Label) (o : Ordering) → drop depth xs ≡ [] → IsLabelAt ys depth b → o ≡ slice_cmp nat_cmp [] (first_label b) → o ≡ keys_cmp (drop depth xs) (drop depth ys)
at_end xs ys depth None o h k e = e ∙ sym (ap (λ s. keys_cmp s (drop depth ys)) h ∙ ap (λ s. keys_cmp [] s) k)
at_end xs ys depth (Some b) o h k e = e ∙ sym (ap (λ s. keys_cmp s (drop depth ys)) h ∙ ap (λ s. keys_cmp [] s) k)
