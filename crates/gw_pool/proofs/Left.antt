-- What leaves the pool by a caller's entries.
use Rattle.std.proofs.Common.{◌≡◌, ℕ, ◌+◌, ◌==◌, Bool, true, false, List, [], ◌∷◌, ◌++◌, Option, Some, None, refl, ap, sym, ◌∙◌, cond, append_assoc, append-nil}
use Rattle.std.specs.List.{flat_map}
use Rattle.gw_pool.specs.declared.limits.Limits.{Limits}
use Rattle.gw_pool.specs.declared.entry.Entry.{Entry}
use Rattle.gw_pool.specs.declared.entry.Call.TheVariants as call
use Rattle.gw_pool.specs.declared.entry.Reply.TheVariants as reply
use Rattle.gw_pool.specs.declared.rows.ConnRow.{ConnRow}
use Rattle.gw_pool.specs.Places.{since_of}
use Rattle.gw_pool.specs.State.{State, is_free, is_expired, remove_first, has_number, take_oldest, take_newest}
use Rattle.gw_pool.specs.Offer.{grant}
use Rattle.gw_pool.specs.Machine.{Outcome, replied, step, want_new, want_idle, want_by, want_step, drop_row}
use Rattle.gw_pool.specs.History.{IsLegal, after, mine}
use Rattle.gw_pool.specs.Gone.{gone_links, left_by, WantLeaves}
use Rattle.gw_pool.specs.Keeps.{IsOut}
use Rattle.gw_pool.specs.Moments.{call_moments, entry_moments}
use Rattle.gw_pool.proofs.Inverts.{want_was, drop_was, expire_was}
use Rattle.gw_pool.proofs.Numbers.{legal_numbers}
use Rattle.gw_pool.proofs.RowSteps.{granted, waiting, expired, given}
use Rattle.gw_pool.proofs.Staying.{conn_numbered}

-- the links that leave by two stretches of entries
pub gone_then : (limits : Limits) (h : List Entry) (c : ℕ) (x y : List Entry) → gone_links limits h c (x ++ y) ≡ gone_links limits h c x ++ gone_links limits (h ++ x) c y
gone_then limits h c [] y = ap (λ k. gone_links limits k c y) (sym (append-nil h))
gone_then limits h c (e ∷ x) y =
    let here : List ℕ = cond (e.caller == c) (left_by (step limits (after limits h) e.caller e.call)) [] in
    ap (λ l. here ++ l) (gone_then limits (h ++ e ∷ []) c x y ∙ ap (λ k. gone_links limits (h ++ e ∷ []) c x ++ gone_links limits k c y) (append_assoc h (e ∷ []) x))
    ∙ sym (append_assoc here (gone_links limits (h ++ e ∷ []) c x) (gone_links limits (h ++ e ∷ x) c y))

-- none leaves by entries of others
foreign_step : (e : Entry) (rest : List Entry) (here links : List ℕ) (b : Bool) → cond b (e ∷ rest) rest ≡ [] → (rest ≡ [] → links ≡ []) → cond b here [] ++ links ≡ []
foreign_step e rest here links true m k = absurd (cc)
foreign_step e rest here links false m k = k m

pub gone_foreign : (limits : Limits) (h : List Entry) (c : ℕ) (x : List Entry) → mine x c ≡ [] → gone_links limits h c x ≡ []
gone_foreign limits h c [] m = refl
gone_foreign limits h c (e ∷ x) m =
    foreign_step e (mine x c) (left_by (step limits (after limits h) e.caller e.call)) (gone_links limits (h ++ e ∷ []) c x) (e.caller == c) m (gone_foreign limits (h ++ e ∷ []) c x)

-- the moments of two stretches
pub moments_then : (x y : List Entry) → entry_moments (x ++ y) ≡ entry_moments x ++ entry_moments y
moments_then [] y = refl
moments_then (e ∷ x) y = ap (λ l. call_moments e.call ++ l) (moments_then x y) ∙ sym (append_assoc (call_moments e.call) (entry_moments x) (entry_moments y))

-- a want
new_leaves : (t : State) (caller host : ℕ) (b : Bool) → WantLeaves (cond b (granted t caller host) (waiting t caller host)).reply (cond b (granted t caller host) (waiting t caller host)).gone
new_leaves t caller host true = refl
new_leaves t caller host false = refl

idle_leaves : (t : State) (caller : ℕ) (row : ConnRow) (b : Bool) → WantLeaves (cond b (expired t row) (given t caller row)).reply (cond b (expired t row) (given t caller row)).gone
idle_leaves t caller row true = (row, refl, refl)
idle_leaves t caller row false = refl

by_leaves : (limits : Limits) (caller host now : ℕ) (p : Option ConnRow × State) → WantLeaves (want_by limits caller host now p).reply (want_by limits caller host now p).gone
unfolding want_by want_new want_idle
by_leaves limits caller host now (None, t) = new_leaves t caller host (is_free limits t host)
by_leaves limits caller host now (Some row, t) = idle_leaves t caller row (is_expired limits (since_of row.place) now)

step_leaves : (limits : Limits) (s : State) (caller host now : ℕ) → WantLeaves (want_step limits s caller host now).reply (want_step limits s caller host now).gone
unfolding want_step
step_leaves limits s caller host now = by_leaves limits caller host now (take_newest s host)

pub want_leaves : (limits : Limits) (s : State) (caller host now : ℕ) (o : Outcome) → step limits s caller (call.Want host now) ≡ Some o → WantLeaves o.reply o.gone
want_leaves limits s caller host now o f = let same = want_was limits s caller host now o f in rw same (step_leaves limits s caller host now)

-- a connection that is dropped leaves
dropped : (row : ConnRow) (p : Option ℕ × State) → (next : Option ℕ) × ((replied reply.Dropped (Some row) p).reply ≡ reply.Dropped next) × ((replied reply.Dropped (Some row) p).gone ≡ Some row)
dropped row (next, t) = (next, refl, refl)

drop_says : (limits : Limits) (s : State) (row : ConnRow) → (next : Option ℕ) × ((drop_row limits s row).reply ≡ reply.Dropped next) × ((drop_row limits s row).gone ≡ Some row)
unfolding drop_row
drop_says limits s row = dropped row (grant limits (record s { conns = remove_first (has_number row.conn) s.conns }) row.host)

pub drop_leaves : (limits : Limits) (h : List Entry) (want caller : ℕ) (row : ConnRow) (o : Outcome) → IsLegal limits h → step limits (after limits h) caller (call.Drop row.conn) ≡ Some o → IsOut want caller row (after limits h) → (next : Option ℕ) × (o.reply ≡ reply.Dropped next) × (o.gone ≡ Some row)
drop_leaves limits h want caller row o l f k =
    let was = drop_was limits (after limits h) caller row.conn o f in
    let both : Some was.row ≡ Some row = sym was.found ∙ conn_numbered (after limits h) row (legal_numbers limits h l) k.there in
    let same : was.row ≡ row = cc in
    let says = drop_says limits (after limits h) row in
    let is : o ≡ drop_row limits (after limits h) row = was.same ∙ ap (λ r. drop_row limits (after limits h) r) same in
    (says.0, ap (λ (x : Outcome). x.reply) is ∙ says.1, ap (λ (x : Outcome). x.gone) is ∙ says.2)

-- an expired connection that is taken out
pub expire_says : (limits : Limits) (s : State) (caller now : ℕ) (o : Outcome) → step limits s caller (call.Expire now) ≡ Some o → (conn : ℕ) × (o.reply ≡ reply.Taken conn)
expire_says limits s caller now o f = let was = expire_was limits s caller now o f in (was.row.conn, ap (λ (x : Outcome). x.reply) was.same)
