-- Tokens of a want that is none of those whose tokens are out.
use Rattle.std.proofs.Common.{ℕ, ◌≡◌, ◌+◌, ◌-◌, ◌<◌, ◌≤◌, ◌==◌, Bool, true, false, List, [], ◌∷◌, ◌++◌, Option, Some, None, refl, ap, sym, ◌∙◌, arith, cond, length}
use Rattle.std.proofs.lemmas.Bool.{eq-eqb, ne_eqb}
use Rattle.std.specs.Prelude.{find}
use Rattle.gw_pool.specs.declared.holding.Holding.{Holding}
use Rattle.gw_pool.specs.Tokens.{change, has_dial, has_ticket, holds, is_held, names, ticket_of, with_dial, without_dial, without_ticket}

-- a dial whose want was given up
abbrev pub dialing : ℕ → Holding
dialing want = without_ticket (with_dial (ticket_of want))

-- no token of a want with this number or a later one
abbrev pub IsUnused : ℕ → List Holding → Type 0
IsUnused number out = (want : ℕ) → number ≤ want → find (names want) out ≡ None

find_step : (b : Bool) (x : Holding) (r s t : Option Holding) → cond b (Some x) r ≡ None → (r ≡ None → s ≡ t) → cond b (Some x) s ≡ t
find_step true x r s t e k = absurd (cc)
find_step false x r s t e k = k e

change_step : (b : Bool) (x : Holding) (r : Option Holding) (l c y : List Holding) → cond b (Some x) r ≡ None → (r ≡ None → c ≡ y) → cond b l (x ∷ c) ≡ x ∷ y
change_step true x r l c y e k = absurd (cc)
change_step false x r l c y e k = ap (λ z. x ∷ z) (k e)

find_last : (want : ℕ) (xs : List Holding) (h : Holding) → find (names want) xs ≡ None → find (names want) (xs ++ h ∷ []) ≡ find (names want) (h ∷ [])
find_last want [] h e = refl
find_last want (x ∷ xs) h e = find_step (names want x) x (find (names want) xs) (find (names want) (xs ++ h ∷ [])) (find (names want) (h ∷ [])) e (find_last want xs h)

change_last : (want : ℕ) (f : Holding → Holding) (xs : List Holding) (h : Holding) → find (names want) xs ≡ None → change want f (xs ++ h ∷ []) ≡ xs ++ change want f (h ∷ [])
change_last want f [] h e = refl
change_last want f (x ∷ xs) h e =
    change_step (names want x) x (find (names want) xs) (cond (is_held (f x)) (f x ∷ (xs ++ h ∷ [])) (xs ++ h ∷ [])) (change want f (xs ++ h ∷ [])) (xs ++ change want f (h ∷ [])) e (change_last want f xs h)

append_nil : (xs : List Holding) → xs ++ [] ≡ xs
append_nil [] = refl
append_nil (x ∷ xs) = ap (λ z. x ∷ z) (append_nil xs)

own : (w : ℕ) → (w == w) ≡ true
own w = eq-eqb w w refl

pub ticket_found : (w n : ℕ) (xs out : List Holding) → w ≡ n → IsUnused n xs → out ≡ xs ++ ticket_of w ∷ [] → has_ticket w out ≡ true
ticket_found w n xs out e unused is =
    ap (has_ticket w) is ∙ ap (holds (λ h. h.ticket)) (find_last w xs (ticket_of w) (unused w (omega (arith, e)))) ∙ ap (λ b. holds (λ h. h.ticket) (cond b (Some (ticket_of w)) None)) (own w)

pub started : (w n : ℕ) (xs out next : List Holding) → w ≡ n → IsUnused n xs → out ≡ xs ++ ticket_of w ∷ [] → next ≡ change w with_dial out → next ≡ xs ++ with_dial (ticket_of w) ∷ []
started w n xs out next e unused is did =
    did ∙ ap (change w with_dial) is ∙ change_last w with_dial xs (ticket_of w) (unused w (omega (arith, e))) ∙ ap (λ b. xs ++ cond b (with_dial (ticket_of w) ∷ []) (ticket_of w ∷ [])) (own w)

pub still_found : (w n : ℕ) (xs next : List Holding) → w ≡ n → IsUnused n xs → next ≡ xs ++ with_dial (ticket_of w) ∷ [] → has_ticket w next ≡ true
still_found w n xs next e unused is =
    ap (has_ticket w) is ∙ ap (holds (λ h. h.ticket)) (find_last w xs (with_dial (ticket_of w)) (unused w (omega (arith, e)))) ∙ ap (λ b. holds (λ h. h.ticket) (cond b (Some (with_dial (ticket_of w))) None)) (own w)

pub given_up : (w n : ℕ) (xs next last : List Holding) → w ≡ n → IsUnused n xs → next ≡ xs ++ with_dial (ticket_of w) ∷ [] → last ≡ change w without_ticket next → last ≡ xs ++ dialing n ∷ []
given_up w n xs next last e unused is did =
    did ∙ ap (change w without_ticket) is ∙ change_last w without_ticket xs (with_dial (ticket_of w)) (unused w (omega (arith, e)))
    ∙ ap (λ b. xs ++ cond b (dialing w ∷ []) (with_dial (ticket_of w) ∷ [])) (own w) ∙ ap (λ k. xs ++ dialing k ∷ []) e

-- a dial is under way behind which no other began
pub dial_found : (w n : ℕ) (xs out : List Holding) → w ≡ n → IsUnused n xs → out ≡ xs ++ dialing n ∷ [] → has_dial w out ≡ true
dial_found w n xs out e unused is =
    ap (has_dial w) (is ∙ ap (λ k. xs ++ dialing k ∷ []) (sym e)) ∙ ap (holds (λ h. h.dial)) (find_last w xs (dialing w) (unused w (omega (arith, e)))) ∙ ap (λ b. holds (λ h. h.dial) (cond b (Some (dialing w)) None)) (own w)

pub dial_ended : (w n : ℕ) (xs out last : List Holding) → w ≡ n → IsUnused n xs → out ≡ xs ++ dialing n ∷ [] → last ≡ change w without_dial out → last ≡ xs
dial_ended w n xs out last e unused is did =
    did ∙ ap (change w without_dial) (is ∙ ap (λ k. xs ++ dialing k ∷ []) (sym e)) ∙ change_last w without_dial xs (dialing w) (unused w (omega (arith, e)))
    ∙ ap (λ b. xs ++ cond b [] (dialing w ∷ [])) (own w) ∙ append_nil xs

pub unused_behind : (n : ℕ) (xs out : List Holding) → IsUnused n xs → out ≡ xs ++ dialing n ∷ [] → IsUnused (n + 1) out
unused_behind n xs out unused is want le =
    ap (find (names want)) is ∙ find_last want xs (dialing n) (unused want (omega (arith, le)))
    ∙ ap (λ b. cond b (Some (dialing n)) None) (ne_eqb n want (λ e. omega (arith, le, e)))

length_last : (xs : List Holding) (h : Holding) → length (xs ++ h ∷ []) ≡ length xs + 1
length_last [] h = refl
length_last (x ∷ xs) h = let e = length_last xs h in omega (arith, e)

pub one_more : (n count room : ℕ) (xs out : List Holding) → out ≡ xs ++ dialing n ∷ [] → length xs + count ≤ room → 0 < count → length out + (count - 1) ≤ room
one_more n count room xs out is within some = let e = ap length is ∙ length_last xs (dialing n) in omega (arith, e, within, some)
