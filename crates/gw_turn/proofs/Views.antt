-- What the rule says of the passes of a view, and of those of two.
use Rattle.std.proofs.Common.{◌≡◌, ◌≢◌, ℕ, ◌≤◌, ◌==◌, inl, inr, Bool, true, false, List, [], ◌∷◌, ◌++◌, length, refl, sym, ap, ◌∙◌, arith, cond, append_assoc, append-nil, length-append}
use Rattle.std.specs.List.{sum_by}
use Rattle.std.proofs.lemmas.List.Sums.{sum_by-cons}
use mathlib.Core.Option.{some}
use lib.ListN.{get_elem?}
use Rattle.gw_pool.specs.declared.entry.Entry.{Entry}
use Rattle.gw_pool.specs.History.{mine}
use Rattle.gw_pool.specs.Ties.{Among, one}
use Rattle.gw_pool.proofs.Ties.{one_same}
use Rattle.gw_turn.specs.declared.view.Member.{Member}
use Rattle.gw_turn.specs.declared.view.PassView.{PassView}
use Rattle.gw_turn.specs.Turn.{members_of, counts, total}
use Rattle.gw_pool.proofs.Mades.{mine_append}
use Rattle.gw_turn.proofs.Sums.{total_two, total_at}

-- a pass that stands in a list counts
pub counts_among : (n : ℕ) (m : Member) (ms : List Member) → Among m ms → m.number ≡ n → 1 ≤ sum_by (λ (x : Member). one n x.number) ms
counts_among n m [] a e = absurd a
counts_among n m (x ∷ xs) (inl same) e = let here : one n x.number ≡ 1 = ap (λ (y : Member). one n y.number) same ∙ ap (one n) e ∙ one_same n in omega (arith, sum_by-cons (λ (y : Member). one n y.number) x xs, here)
counts_among n m (x ∷ xs) (inr a) e = omega (arith, sum_by-cons (λ (y : Member). one n y.number) x xs, counts_among n m xs a e)

members_live : (v : PassView) (b : Bool) → v.live ≡ b → b ≡ true → members_of v ≡ v.own ∷ v.joined
members_live v true e h = rw e refl
members_live v false e h = absurd (cc)

pub live_members : (v : PassView) → v.live ≡ true → members_of v ≡ v.own ∷ v.joined
live_members v e = members_live v v.live refl e

-- the own pass's number stands once
pub joined_other : (views : List PassView) (id : ℕ) (v : PassView) (m : Member) → ((n : ℕ) → total (counts n) views ≤ 1) → get_elem? views id ≡ some v → v.live ≡ true → Among m v.joined → m.number ≡ v.own.number → ⊥
joined_other views id v m few at live a same =
    let n = v.own.number in
    let all : counts n v ≤ 1 = (let l = few n in let share = total_at (counts n) views id v at in omega (arith, l, share)) in
    let is : counts n v ≡ sum_by (λ (x : Member). one n x.number) (v.own ∷ v.joined) = ap (λ l. sum_by (λ (x : Member). one n x.number) l) (live_members v live) in
    omega (arith, all, is, sum_by-cons (λ (x : Member). one n x.number) v.own v.joined, one_same n, counts_among n m v.joined a same)

pub own_counts : (v : PassView) → v.live ≡ true → 1 ≤ counts v.own.number v
own_counts v live =
    let n = v.own.number in
    let is : counts n v ≡ sum_by (λ (x : Member). one n x.number) (v.own ∷ v.joined) = ap (λ l. sum_by (λ (x : Member). one n x.number) l) (live_members v live) in
    omega (arith, is, sum_by-cons (λ (x : Member). one n x.number) v.own v.joined, one_same n)

pub other_view : (views : List PassView) (id j : ℕ) (v u : PassView) (m : Member) → ((n : ℕ) → total (counts n) views ≤ 1) → j ≢ id → get_elem? views id ≡ some v → get_elem? views j ≡ some u → v.live ≡ true → Among m (members_of u) → m.number ≡ v.own.number → ⊥
other_view views id j v u m few ne at there live a same =
    let n = v.own.number in
    let l = few n in
    let two = total_two (counts n) views id j v u ne at there in
    omega (arith, l, two, own_counts v live, counts_among n m (members_of u) a same)

-- entries of one caller in two parts
empty_end : (xs ys : List Entry) → xs ++ ys ≡ xs → ys ≡ []
empty_end xs [] e = refl
empty_end xs (y ∷ ys) e = let l : length (xs ++ y ∷ ys) ≡ length xs = ap length e in absurd (omega (arith, l, length-append xs (y ∷ ys)))

-- what came since a pass saw all its entries isn't its own
pub none_since : (seen others : List Entry) (c : ℕ) (own : List Entry) → mine seen c ≡ own → mine (seen ++ others) c ≡ own → mine others c ≡ []
none_since seen others c own a b = empty_end (mine seen c) (mine others c) (sym (mine_append seen others c) ∙ b ∙ sym a)

-- of two beginnings of one list the shorter begins the longer
pub begins_other : (xs ys a b : List Entry) → xs ++ a ≡ ys ++ b → length xs ≤ length ys → (more : List Entry) × (xs ++ more ≡ ys)
begins_other [] ys a b e l = (ys, refl)
begins_other (x ∷ xs) [] a b e l = absurd (omega arith)
begins_other (x ∷ xs) (y ∷ ys) a b e l =
    let rest = begins_other xs ys a b (let t : xs ++ a ≡ ys ++ b = cc in t) (omega arith) in
    let head : x ≡ y = cc in
    (rest.0, rw head (ap (λ t. y ∷ t) rest.1))

-- what a pass knows in a beginning it knows in a longer one
pub knows_more : (xs ys a b : List Entry) (c : ℕ) (own : List Entry) → xs ++ a ≡ ys ++ b → length xs ≤ length ys → mine xs c ≡ own → mine (ys ++ b) c ≡ own → mine ys c ≡ own
knows_more xs ys a b c own e l k h =
    let more = begins_other xs ys a b e l in
    let whole : mine xs c ++ (mine more.0 c ++ mine b c) ≡ mine xs c =
    ap (λ t. mine xs c ++ t) (sym (mine_append more.0 b c)) ∙ sym (mine_append xs (more.0 ++ b) c) ∙ ap (λ t. mine t c) (sym (append_assoc xs more.0 b) ∙ ap (λ t. t ++ b) more.1) ∙ h ∙ sym k in
    let none = empty_end (mine xs c) (mine more.0 c ++ mine b c) whole in
    let none' : mine more.0 c ≡ [] = front (mine more.0 c) (mine b c) none in
    ap (λ t. mine t c) (sym more.1) ∙ mine_append xs more.0 c ∙ rw none' (append-nil (mine xs c)) ∙ k
  where
    front : (s t : List Entry) → s ++ t ≡ [] → s ≡ []
    front [] t e = refl
    front (x ∷ s) t e = absurd (cc)
