-- The tests of matching decide what a pattern matches.
use Rattle.std.proofs.Common.{◌≡◌, ◌↔◌, IsTrue, ℕ, Bool, true, false, not, ◌&&◌, ◌||◌, List, [], ◌∷◌, Option, Some, None, codes, bytes_eq, ◌⊎◌, inl, inr, ⊎_elim, if◌then◌else◌, refl}
use Rattle.std.specs.Bool.{Decides}
use Rattle.std.proofs.lemmas.Slice.Eq.{bytes_eq-Decides}
use Rattle.gw_pattern.specs.declared.form.Seg.{Seg}
use Rattle.gw_pattern.specs.declared.form.Seg.TheVariants.{Literal, One, Rest, End}
use Rattle.gw_sets.specs.Matches.{MethodMatches, HostMatches, SegsMatch}
use Rattle.gw_sets.specs.Comparison.{is_get, is_head, matches_method, matches_host, matches_segs}
use Rattle.gw_sets.proofs.Parts.{both_decide}

either_decides : (p q : Bool) (P Q : Type 0) → Decides p P → Decides q Q → Decides (p || q) (P ⊎ Q)
either_decides true q P Q d e = (λ h. inl (d.0 refl), λ h. refl)
either_decides false true P Q d e = (λ h. inr (e.0 refl), λ h. refl)
either_decides false false P Q d e = (λ h. inl (d.0 h), λ h. ⊎_elim d.1 e.1 h)

then_decides : (p q : Bool) (P Q : Type 0) → Decides p P → Decides q Q → Decides (if p then q else false) (P × Q)
then_decides true q P Q d e = (λ h. (d.0 refl, e.0 h), λ h. e.1 h.1)
then_decides false q P Q d e = (λ h. let differ : false ≡ true = h in cc, λ h. d.1 h.0)

pub method_decides : (method : Option (List ℕ)) (asked : List ℕ) → Decides (matches_method method asked) (MethodMatches method asked)
method_decides None asked = (λ h. tt, λ h. refl)
method_decides (Some method) asked =
    either_decides (bytes_eq asked method) (is_get method && is_head asked) (asked ≡ method) ((method ≡ codes "GET") × (asked ≡ codes "HEAD"))
    (bytes_eq-Decides asked method)
    (both_decide (is_get method) (is_head asked) (method ≡ codes "GET") (asked ≡ codes "HEAD") (bytes_eq-Decides method (codes "GET")) (bytes_eq-Decides asked (codes "HEAD")))

pub host_decides : (host asked : List ℕ) → Decides (matches_host host asked) (HostMatches host asked)
host_decides [] asked = (λ h. tt, λ h. refl)
host_decides (b ∷ host) asked = bytes_eq-Decides asked (b ∷ host)

no_slash : (slash : Bool) → Decides (not slash) (slash ≡ false)
no_slash true = (λ h. cc, λ h. cc)
no_slash false = (λ h. refl, λ h. refl)

never : Decides false ⊥
never = (λ h. let differ : false ≡ true = h in cc, λ h. absurd h)

pub segs_decide : (segs : List Seg) (parts : List (List ℕ)) (slash : Bool) → Decides (matches_segs segs parts slash) (SegsMatch segs parts slash)
segs_decide [] [] slash = no_slash slash
segs_decide [] (part ∷ parts) slash = never
segs_decide (End ∷ segs) [] slash = (λ h. h, λ h. h)
segs_decide (End ∷ segs) (part ∷ parts) slash = never
segs_decide (Rest name ∷ segs) [] slash = (λ h. h, λ h. h)
segs_decide (Rest name ∷ segs) (part ∷ parts) slash = (λ h. tt, λ h. refl)
segs_decide (Literal bytes ∷ segs) [] slash = never
segs_decide (Literal bytes ∷ segs) (part ∷ parts) slash =
    then_decides (bytes_eq part bytes) (matches_segs segs parts slash) (part ≡ bytes) (SegsMatch segs parts slash) (bytes_eq-Decides part bytes) (segs_decide segs parts slash)
segs_decide (One name ∷ segs) [] slash = never
segs_decide (One name ∷ segs) (part ∷ parts) slash = segs_decide segs parts slash

-- what the last of three tests decides, once the first two hold
pub last_decides : (r : Bool) (P Q R : Type 0) → P → Q → Decides r R → IsTrue r ↔ (P × Q × R)
last_decides r P Q R p q d = (λ h. (p, q, d.0 h), λ h. d.1 h.2)

-- what cannot be is answered by false
pub nothing_decides : (P : Type 0) → (P → ⊥) → IsTrue false ↔ P
nothing_decides P f = (λ h. let differ : false ≡ true = h in cc, λ h. absurd (f h))

pub refuted : (b : Bool) (P : Type 0) → Decides b P → b ≡ false → P → ⊥
refuted b P d e h = let f : b ≡ true = d.1 h in cc
