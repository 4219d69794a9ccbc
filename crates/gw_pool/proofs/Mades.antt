-- The wants that a history made, and the entries of one caller in it.
use Rattle.std.proofs.Common.{◌≡◌, ℕ, ◌==◌, ◌||◌, Bool, true, false, List, [], ◌∷◌, ◌++◌, Option, Some, None, refl, ap, sym, ◌∙◌, eq-eqb}
use Rattle.std.specs.List.{list_any, filter_map, cons_option}
use Rattle.std.proofs.lemmas.List.Elements.{filter-append}
use Rattle.gw_pool.specs.declared.entry.Entry.{Entry}
use Rattle.gw_pool.specs.declared.entry.Reply.{Reply}
use Rattle.gw_pool.specs.declared.entry.Reply.TheVariants as reply
use Rattle.gw_pool.specs.History.{mine}
use Rattle.gw_pool.specs.Lent.{IsMade}
use Rattle.gw_pool.specs.Owner.{made_by, made_by_reply, made_in}
use Rattle.gw_pool.specs.Shelf.{is_among}

or_more : (a b c : Bool) → (b ≡ true → c ≡ true) → (a || b) ≡ true → (a || c) ≡ true
or_more true b c k e = refl
or_more false b c k e = k e

made_step : (w : ℕ) (o : Option ℕ) (xs ys : List ℕ) → (is_among w xs ≡ true → is_among w ys ≡ true) → is_among w (cons_option o xs) ≡ true → is_among w (cons_option o ys) ≡ true
made_step w None xs ys k e = k e
made_step w (Some n) xs ys k e = or_more (n == w) (is_among w xs) (is_among w ys) k e

-- a want that was made stays so
pub made_more : (h more : List Entry) (w : ℕ) → is_among w (made_in h) ≡ true → is_among w (made_in (h ++ more)) ≡ true
made_more [] more w e = absurd (cc)
made_more (x ∷ h) more w e = made_step w (made_by x.call x.reply) (made_in h) (made_in (h ++ more)) (made_more h more w) e

or_last : (a b : Bool) → b ≡ true → (a || b) ≡ true
or_last true b e = refl
or_last false b e = e

last_step : (w : ℕ) (o : Option ℕ) (xs : List ℕ) → is_among w xs ≡ true → is_among w (cons_option o xs) ≡ true
last_step w None xs e = e
last_step w (Some n) xs e = or_last (n == w) (is_among w xs) e

-- the want that the last entry made was made
pub made_last : (h : List Entry) (e : Entry) (w : ℕ) → made_by e.call e.reply ≡ Some w → is_among w (made_in (h ++ e ∷ [])) ≡ true
made_last [] e w m = rw (m, eq-eqb w w refl) refl
made_last (x ∷ h) e w m = last_step w (made_by x.call x.reply) (made_in (h ++ e ∷ [])) (made_last h e w m)

pub made_is : (w : ℕ) (answer : Reply) → IsMade w answer → made_by_reply answer ≡ Some w
made_is w (reply.Given v conn) m = ap (λ n. Some n) m
made_is w (reply.Granted v) m = ap (λ n. Some n) m
made_is w (reply.Waiting v) m = ap (λ n. Some n) m
made_is w _ m = absurd m

-- entries of one caller
pub mine_append : (xs ys : List Entry) (c : ℕ) → mine (xs ++ ys) c ≡ mine xs c ++ mine ys c
mine_append xs ys c = filter-append (λ entry. entry.caller == c) xs ys

pub mine_push : (h : List Entry) (e : Entry) (c : ℕ) → mine (h ++ e ∷ []) c ≡ mine h c ++ mine (e ∷ []) c
mine_push h e c = mine_append h (e ∷ []) c

pub mine_one : (e : Entry) (c : ℕ) → e.caller ≡ c → mine (e ∷ []) c ≡ e ∷ []
mine_one e c same = rw (eq-eqb e.caller c same) refl
