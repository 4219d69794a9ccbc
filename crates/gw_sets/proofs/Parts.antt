-- The sets of methods and of hosts, compared.
use Rattle.std.proofs.Common.{◌≡◌, ℕ, ◌<◌, Bool, true, false, ◌&&◌, List, [], ◌∷◌, length, slice_index, Option, Some, None, codes, bytes_eq, inl, inr, ⊎_elim, if◌then◌else◌, sym, refl, ap, ◌∙◌, subst, lit<, arith}
use Rattle.std.specs.Bool.{Decides}
use Rattle.std.proofs.lemmas.List.Elements.{All-nil, All-cons}
use Rattle.std.proofs.lemmas.Slice.Eq.{bytes_eq-Decides}
use Rattle.gw_sets.specs.declared.relation.Relation.TheVariants.{Equal, MoreSpecific, MoreGeneral, Disjoint}
use Rattle.gw_sets.specs.Shape.{AreBytes}
use Rattle.gw_sets.specs.Matches.{MethodMatches, HostMatches}
use Rattle.gw_sets.specs.Comparison.{AreMethodBytes, is_get, is_head, relation_of_methods, relation_of_hosts}
use Rattle.gw_sets.proofs.Products.{Compared, equal_compared, below_compared, above_compared, apart_compared}

-- a list is not that list with one byte before it
pub longer : (b : ℕ) (xs : List ℕ) → (b ∷ xs) ≡ xs → ⊥
longer b xs e = let h : length (b ∷ xs) ≡ length xs = ap length e in omega arith

-- the one list, or the other
one_of_two : (V : List ℕ → Type 0) (l m : List ℕ) → V l → V m → (b : Bool) → Decides b (l ≡ m) → Compared (List ℕ) (λ x. V x × (x ≡ l)) (λ x. V x × (x ≡ m)) (if b then Equal else Disjoint)
one_of_two V l m v w true d =
    equal_compared (List ℕ) (λ x. V x × (x ≡ l)) (λ x. V x × (x ≡ m)) (l, (v, refl)) (λ x h. (h.0, h.1 ∙ d.0 refl)) (λ x h. (h.0, h.1 ∙ sym (d.0 refl)))
one_of_two V l m v w false d =
    apart_compared (List ℕ) (λ x. V x × (x ≡ l)) (λ x. V x × (x ≡ m)) (l, (v, refl)) (m, (w, refl)) (λ x h k. let e : false ≡ true = d.1 (sym h.1 ∙ k.1) in cc)

pub single_compared : (V : List ℕ → Type 0) (l m : List ℕ) → V l → V m → Compared (List ℕ) (λ x. V x × (x ≡ l)) (λ x. V x × (x ≡ m)) (if bytes_eq l m then Equal else Disjoint)
single_compared V l m v w = one_of_two V l m v w (bytes_eq l m) (bytes_eq-Decides l m)

-- ---- hosts

abbrev pub Hosts : List ℕ → List ℕ → Type 0
Hosts host x = AreBytes x × HostMatches host x

pub hosts_compared : (p q : List ℕ) → AreBytes p → AreBytes q → Compared (List ℕ) (Hosts p) (Hosts q) (relation_of_hosts p q)
hosts_compared [] [] v w = equal_compared (List ℕ) (Hosts []) (Hosts []) ([], (v, tt)) (λ x h. h) (λ x h. h)
hosts_compared [] (c ∷ q) v w =
    above_compared (List ℕ) (Hosts []) (Hosts (c ∷ q)) (c ∷ q, (w, refl)) (λ x h. (h.0, tt)) ([], (v, tt), λ h. cc (h.1))
hosts_compared (b ∷ p) [] v w =
    below_compared (List ℕ) (Hosts (b ∷ p)) (Hosts []) (b ∷ p, (v, refl)) (λ x h. (h.0, tt)) ([], (w, tt), λ h. cc (h.1))
hosts_compared (b ∷ p) (c ∷ q) v w = single_compared AreBytes (b ∷ p) (c ∷ q) v w

-- ---- methods

abbrev pub Methods : Option (List ℕ) → List ℕ → Type 0
Methods method x = AreBytes x × MethodMatches method x

-- no method of a pattern takes another one with a byte before it
fresh : (q : List ℕ) → MethodMatches (Some q) (71 ∷ q) → ⊥
fresh q h =
    ⊎_elim (λ e. longer 71 q e) (λ e. let n : 71 ≡ 72 = ap (λ xs. slice_index xs 0) e.1 in omega (arith, n)) h

pub both_decide : (p q : Bool) (P Q : Type 0) → Decides p P → Decides q Q → Decides (p && q) (P × Q)
both_decide true true P Q d e = (λ h. (d.0 refl, e.0 refl), λ h. refl)
both_decide true false P Q d e = (λ h. (d.0 refl, e.0 h), λ h. e.1 h.1)
both_decide false q P Q d e = (λ h. let differ : false ≡ true = h in cc, λ h. d.1 h.0)

-- GET lies around HEAD
get_around : (p q : List ℕ) → AreBytes p → AreBytes q → (p ≡ q → ⊥) → p ≡ codes "GET" → q ≡ codes "HEAD" → Compared (List ℕ) (Methods (Some p)) (Methods (Some q)) MoreGeneral
get_around p q v w differ g h =
    above_compared (List ℕ) (Methods (Some p)) (Methods (Some q)) (q, (w, inl refl))
    (λ x k. (k.0, ⊎_elim (λ e. inr (g, e ∙ h)) (λ e. inr (g, e.1)) k.1))
    (p, (v, inl refl), λ k. ⊎_elim differ (λ e. differ (g ∙ sym e.0)) k.1)

head_within : (p q : List ℕ) → AreBytes p → AreBytes q → (p ≡ q → ⊥) → p ≡ codes "HEAD" → q ≡ codes "GET" → Compared (List ℕ) (Methods (Some p)) (Methods (Some q)) MoreSpecific
head_within p q v w differ h g =
    below_compared (List ℕ) (Methods (Some p)) (Methods (Some q)) (p, (v, inl refl))
    (λ x k. (k.0, ⊎_elim (λ e. inr (g, e ∙ h)) (λ e. inr (g, e.1)) k.1))
    (q, (w, inl refl), λ k. ⊎_elim (λ e. differ (sym e)) (λ e. differ (e.0 ∙ sym g)) k.1)

named_apart : (p q : List ℕ) → (p ≡ q → ⊥) → ((p ≡ codes "GET") × (q ≡ codes "HEAD") → ⊥) → ((p ≡ codes "HEAD") × (q ≡ codes "GET") → ⊥) → (x : List ℕ) → MethodMatches (Some p) x → MethodMatches (Some q) x → ⊥
named_apart p q differ no_get no_head x h k =
    ⊎_elim
    (λ e. ⊎_elim (λ f. differ (sym e ∙ f)) (λ f. no_head (sym e ∙ f.1, f.0)) k)
    (λ e. ⊎_elim (λ f. no_get (e.0, sym f ∙ e.1)) (λ f. differ (e.0 ∙ sym f.0)) k)
    h

refuted : (b : Bool) (P : Type 0) → Decides b P → b ≡ false → P → ⊥
refuted b P d e h = let f : b ≡ true = d.1 h in cc

named_by : (p q : List ℕ) → AreBytes p → AreBytes q → (b c d : Bool) → Decides b (p ≡ q) → Decides c ((p ≡ codes "GET") × (q ≡ codes "HEAD")) → Decides d ((p ≡ codes "HEAD") × (q ≡ codes "GET")) → Compared (List ℕ) (Methods (Some p)) (Methods (Some q)) (if b then Equal else (if c then MoreGeneral else (if d then MoreSpecific else Disjoint)))
named_by p q v w true c d e f g =
    equal_compared (List ℕ) (Methods (Some p)) (Methods (Some q)) (p, (v, inl refl))
    (λ x h. subst (λ m. Methods (Some m) x) (e.0 refl) h)
    (λ x h. subst (λ m. Methods (Some m) x) (sym (e.0 refl)) h)
named_by p q v w false true d e f g =
    get_around p q v w (refuted false (p ≡ q) e refl) (f.0 refl).0 (f.0 refl).1
named_by p q v w false false true e f g =
    head_within p q v w (refuted false (p ≡ q) e refl) (g.0 refl).0 (g.0 refl).1
named_by p q v w false false false e f g =
    apart_compared (List ℕ) (Methods (Some p)) (Methods (Some q)) (p, (v, inl refl)) (q, (w, inl refl))
    (λ x h k. named_apart p q (refuted false _ e refl) (refuted false _ f refl) (refuted false _ g refl) x h.1 k.1)

pub methods_compared : (p q : Option (List ℕ)) → AreMethodBytes p → AreMethodBytes q → Compared (List ℕ) (Methods p) (Methods q) (relation_of_methods p q)
methods_compared None None v w = equal_compared (List ℕ) (Methods None) (Methods None) ([], (All-nil (λ b. b < 256), tt)) (λ x h. h) (λ x h. h)
methods_compared None (Some q) v w =
    above_compared (List ℕ) (Methods None) (Methods (Some q)) (q, (w, inl refl)) (λ x h. (h.0, tt))
    (71 ∷ q, (All-cons (λ b. b < 256) 71 q (lit< tt) w, tt), λ h. fresh q h.1)
methods_compared (Some p) None v w =
    below_compared (List ℕ) (Methods (Some p)) (Methods None) (p, (v, inl refl)) (λ x h. (h.0, tt))
    (71 ∷ p, (All-cons (λ b. b < 256) 71 p (lit< tt) v, tt), λ h. fresh p h.1)
methods_compared (Some p) (Some q) v w =
    named_by p q v w (bytes_eq p q) (is_get p && is_head q) (is_head p && is_get q) (bytes_eq-Decides p q)
    (both_decide (is_get p) (is_head q) (p ≡ codes "GET") (q ≡ codes "HEAD") (bytes_eq-Decides p (codes "GET")) (bytes_eq-Decides q (codes "HEAD")))
    (both_decide (is_head p) (is_get q) (p ≡ codes "HEAD") (q ≡ codes "GET") (bytes_eq-Decides p (codes "HEAD")) (bytes_eq-Decides q (codes "GET")))
