-- Texts that are appended one after another.
use Rattle.std.proofs.Common.{◌≡◌, ℕ, List, ◌++◌, codes, ap, ◌∙◌, append_assoc}

pub line_is : (out first second third whole text method target tail : List ℕ) → first ≡ out ++ text → text ≡ method
    → second ≡ first ++ codes " " → third ≡ second ++ target → whole ≡ third ++ tail
    → whole ≡ out ++ (((method ++ codes " ") ++ target) ++ tail)
line_is out first second third whole text method target tail f m s t w =
    w ∙ ap (λ l. l ++ tail) (t ∙ ap (λ l. l ++ target) (s ∙ ap (λ l. l ++ codes " ") (f ∙ ap (λ l. out ++ l) m)))
    ∙ ap (λ l. (l ++ target) ++ tail) (append_assoc out method (codes " "))
    ∙ ap (λ l. l ++ tail) (append_assoc out (method ++ codes " ") target)
    ∙ append_assoc out ((method ++ codes " ") ++ target) tail
