-- Hosts, numbered by what tells their addresses apart.
use Rattle.std.proofs.Common.{◌≡◌, ℕ, suc, ◌+◌, ◌≤◌, Bool, true, false, not, cond, List, [], ◌∷◌, ◌++◌, length, map, Some, None, sym, refl, ap, ◌∙◌, ⊎_elim, arith}
use Rattle.std.specs.Prelude.{◌&&◌, ◌||◌, ◌==◌, bytes_eq, nat_lt, position}
use Rattle.std.specs.Bool.{beq}
use Rattle.std.specs.List.{list_any, position_or_len}
use Rattle.std.proofs.lemmas.Bool.{cases_Bool, cond-true, cond-false}
use Rattle.std.proofs.lemmas.Bool.Decides.{nat_tests}
use Rattle.std.proofs.lemmas.List.Sums.{prefix_len-le-length}
use Rattle.gw_wire.specs.declared.values.Addr.{Addr}
use Rattle.gw_routes.specs.Hosts.{AreNumbersOf, key_of}
use Rattle.gw_routes.specs.Routes.{host_at, host_of, hosts_at, hosts_with, is_same}

-- ---- the place of the first that passes

step : (b more : Bool) (n m : ℕ) → more ≡ nat_lt n m → (b || more) ≡ nat_lt (cond (not b) (1 + n) 0) (suc m)
step true more n m e = grind (arith, nat_tests)
step false more n m e = grind (arith, nat_tests)

any_placed : (p : Addr → Bool) (hosts : List Addr) → list_any p hosts ≡ nat_lt (position_or_len p hosts) (length hosts)
any_placed p [] = refl
any_placed p (host ∷ hosts) = step (p host) (list_any p hosts) (position_or_len p hosts) (length hosts) (any_placed p hosts)

placed : (p : Addr → Bool) (hosts : List Addr) (a : Addr) → list_any p hosts ≡ true → (hosts_at hosts a (position p hosts) ≡ hosts) × (host_at hosts (position p hosts) ≡ position_or_len p hosts)
placed p hosts a h =
    let e = cond-true (nat_lt (position_or_len p hosts) (length hosts)) (Some (position_or_len p hosts)) None (sym (any_placed p hosts) ∙ h) in
    (ap (hosts_at hosts a) e, ap (host_at hosts) e)

behind : (n m : ℕ) → nat_lt n m ≡ false → n ≤ m → m ≡ n
behind n m h k = grind (arith, nat_tests)

unplaced : (p : Addr → Bool) (hosts : List Addr) (a : Addr) → list_any p hosts ≡ false → (hosts_at hosts a (position p hosts) ≡ hosts ++ a ∷ []) × (host_at hosts (position p hosts) ≡ position_or_len p hosts)
unplaced p hosts a h =
    let none = sym (any_placed p hosts) ∙ h in
    let e = cond-false (nat_lt (position_or_len p hosts) (length hosts)) (Some (position_or_len p hosts)) None none in
    (ap (hosts_at hosts a) e, ap (host_at hosts) e ∙ behind (position_or_len p hosts) (length hosts) none (prefix_len-le-length (λ x. not (p x)) hosts))

-- ---- keys in the place of addresses

twice : (b c : Bool) → c ≡ not b → b ≡ not c
twice true c e = sym (ap not e)
twice false c e = sym (ap not e)

-- whether two keys are the same, as `==` on tuples has it
abbrev pub same_key : (Bool × List ℕ × ℕ) → (Bool × List ℕ × ℕ) → Bool
same_key x y = (beq x.0 y.0 && bytes_eq x.1 y.1) && (x.2 == y.2)

all_three : (a b c : Bool) → ((a && b) && c) ≡ (a && (b && c))
all_three true b c = refl
all_three false b c = refl

pub tells_apart : (a b : Addr) → same_key (key_of a) (key_of b) ≡ is_same a b
tells_apart a b = all_three (beq a.local b.local) (bytes_eq a.ip b.ip) (a.port == b.port)

module _ (eq : (Bool × List ℕ × ℕ) → (Bool × List ℕ × ℕ) → Bool) (tells : (a b : Addr) → eq (key_of a) (key_of b) ≡ is_same a b) where
  any_same : (hosts : List Addr) (a : Addr) → list_any (eq (key_of a)) (map key_of hosts) ≡ list_any (is_same a) hosts
  any_same [] a = refl
  any_same (host ∷ hosts) a =
      ap (λ b. b || list_any (eq (key_of a)) (map key_of hosts)) (tells a host) ∙ ap (λ b. is_same a host || b) (any_same hosts a)

  place_same : (hosts : List Addr) (a : Addr) → position_or_len (eq (key_of a)) (map key_of hosts) ≡ position_or_len (is_same a) hosts
  place_same [] a = refl
  place_same (host ∷ hosts) a =
      ap (λ b. cond (not b) (1 + position_or_len (eq (key_of a)) (map key_of hosts)) 0) (tells a host)
      ∙ ap (λ n. cond (not (is_same a host)) (1 + n) 0) (place_same hosts a)

  any_of : (keys : List (Bool × List ℕ × ℕ)) (hosts : List Addr) (a : Addr) (is_new known : Bool) → AreNumbersOf keys hosts → is_new ≡ not (list_any (eq (key_of a)) keys) → not is_new ≡ known → list_any (is_same a) hosts ≡ known
  any_of keys hosts a is_new known k e n =
      sym (any_same hosts a) ∙ sym (ap (list_any (eq (key_of a))) k) ∙ twice (list_any (eq (key_of a)) keys) is_new e ∙ n

  pub grown : (keys : List (Bool × List ℕ × ℕ)) (hosts new : List Addr) (a : Addr) (is_new : Bool) → AreNumbersOf keys hosts → is_new ≡ not (list_any (eq (key_of a)) keys) → is_new ≡ true → new ≡ hosts ++ a ∷ [] → new ≡ hosts_with hosts a
  grown keys hosts new a is_new k e n f = f ∙ sym (unplaced (is_same a) hosts a (any_of keys hosts a is_new false k e (ap not n))).0

  pub same : (keys : List (Bool × List ℕ × ℕ)) (hosts : List Addr) (a : Addr) (is_new : Bool) → AreNumbersOf keys hosts → is_new ≡ not (list_any (eq (key_of a)) keys) → is_new ≡ false → hosts ≡ hosts_with hosts a
  same keys hosts a is_new k e n = sym (placed (is_same a) hosts a (any_of keys hosts a is_new true k e (ap not n))).0

  pub numbered_by : (keys : List (Bool × List ℕ × ℕ)) (hosts : List Addr) (a : Addr) (number : ℕ) → AreNumbersOf keys hosts → number ≡ position_or_len (eq (key_of a)) keys → number ≡ host_of hosts a
  numbered_by keys hosts a number k e =
      e ∙ ap (position_or_len (eq (key_of a))) k ∙ place_same hosts a
      ∙ sym (⊎_elim (λ t. (placed (is_same a) hosts a t).1) (λ f. (unplaced (is_same a) hosts a f).1) (cases_Bool (list_any (is_same a) hosts)))
