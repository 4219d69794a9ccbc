-- Rows beside connections: edits of both at one place.
use Rattle.std.proofs.Common.{◌≡◌, ℕ, zero, suc, ◌+◌, ◌<◌, ◌==◌, ◌||◌, ◌&&◌, Bool, true, false, List, [], ◌∷◌, ◌++◌, length, Option, Some, None, refl, ap, sym, arith, slice_index_or, slice_set, eq-eqb, ne_eqb, eqb-true}
use Rattle.std.specs.List.{remove, find, position}
use Rattle.gw_pool.proofs.Edits.{taken_at, within_at, passes_at}
use Rattle.std.specs.Option.{OnSome, IfNone}
use Rattle.gw_pool.specs.declared.shelf.Resting.{Resting}
use Rattle.gw_pool.specs.declared.shelf.Shelved.{Shelved}
use Rattle.gw_pool.proofs.Room.{removed_length}
use Rattle.gw_wire.specs.Link.{LinkView}
use Rattle.gw_pool.specs.declared.rows.ConnRow.{ConnRow}
use Rattle.gw_pool.specs.declared.rows.Place.{Place}
use Rattle.gw_pool.specs.declared.rows.Place.TheVariants.{Out, Idle}
use Rattle.gw_pool.specs.Places.{is_out_to, has_stamp}
use Rattle.gw_pool.specs.State.{remove_first, is_with, rests_since_stamp, rests_for_since_stamp}
use Rattle.gw_pool.specs.Shelf.{AreKept, IsKept, HasConn, resting_row, row_of, taken_of, is_among, lent_to, is_lent}

pub kept_length : {C : Type 0} (link : C → LinkView) (rows : List ConnRow) (held : List (Option C)) → AreKept link rows held → length rows ≡ length held
kept_length link [] [] k = refl
kept_length link [] (h ∷ hs) k = absurd k
kept_length link (r ∷ rs) [] k = absurd k
kept_length link (r ∷ rs) (Some c ∷ hs) k = ap (λ n. suc n) (kept_length link rs hs k.1)
kept_length link (r ∷ rs) (None ∷ hs) k = ap (λ n. suc n) (kept_length link rs hs k.1)

pub kept_push : {C : Type 0} (link : C → LinkView) (rows : List ConnRow) (held : List (Option C)) (row : ConnRow) (conn : C) → AreKept link rows held → (link conn).number ≡ row.link → AreKept link (rows ++ row ∷ []) (held ++ Some conn ∷ [])
kept_push link [] [] row conn k e = (e, tt)
kept_push link [] (h ∷ hs) row conn k e = absurd k
kept_push link (r ∷ rs) [] row conn k e = absurd k
kept_push link (r ∷ rs) (Some c ∷ hs) row conn k e = (k.0, kept_push link rs hs row conn k.1 e)
kept_push link (r ∷ rs) (None ∷ hs) row conn k e = (k.0, kept_push link rs hs row conn k.1 e)

pub taken_push : {C : Type 0} (link : C → LinkView) (rows : List ConnRow) (held : List (Option C)) (row : ConnRow) (conn : C) → AreKept link rows held → taken_of (rows ++ row ∷ []) (held ++ Some conn ∷ []) ≡ taken_of rows held
taken_push link [] [] row conn k = refl
taken_push link [] (h ∷ hs) row conn k = absurd k
taken_push link (r ∷ rs) [] row conn k = absurd k
taken_push link (r ∷ rs) (Some c ∷ hs) row conn k = taken_push link rs hs row conn k.1
taken_push link (r ∷ rs) (None ∷ hs) row conn k = ap (λ l. lent_to r.place ++ l) (taken_push link rs hs row conn k.1)

pub kept_remove : {C : Type 0} (link : C → LinkView) (rows : List ConnRow) (held : List (Option C)) (i : ℕ) → AreKept link rows held → i < length rows → AreKept link (remove rows i) (remove held i)
kept_remove link [] [] i k h = absurd (omega arith)
kept_remove link [] (h ∷ hs) i k l = absurd k
kept_remove link (r ∷ rs) [] i k l = absurd k
kept_remove link (r ∷ rs) (Some c ∷ hs) zero k l = k.1
kept_remove link (r ∷ rs) (None ∷ hs) zero k l = k.1
kept_remove link (r ∷ rs) (Some c ∷ hs) (suc i) k l = (k.0, kept_remove link rs hs i k.1 (omega arith))
kept_remove link (r ∷ rs) (None ∷ hs) (suc i) k l = (k.0, kept_remove link rs hs i k.1 (omega arith))

-- a want to which neither a place nor the others are lent
or_left : (a b : Bool) → (a || b) ≡ false → a ≡ false
or_left true b h = h
or_left false b h = refl

or_right : (a b : Bool) → (a || b) ≡ false → b ≡ false
or_right true b h = absurd (cc)
or_right false b h = h

or_none : (a b : Bool) → a ≡ false → b ≡ false → (a || b) ≡ false
or_none true b h k = h
or_none false b h k = k

lent_rest : (want : ℕ) (place : Place) (taken : List ℕ) → is_among want (lent_to place ++ taken) ≡ false → is_among want taken ≡ false
lent_rest want (Out w c) taken h = or_right (w == want) (is_among want taken) h
lent_rest want (Idle s t) taken h = h

lent_join : (want : ℕ) (place : Place) (old new : List ℕ) → (is_among want old ≡ false → is_among want new ≡ false) → is_among want (lent_to place ++ old) ≡ false → is_among want (lent_to place ++ new) ≡ false
lent_join want (Out w c) old new k h = or_none (w == want) (is_among want new) (or_left (w == want) (is_among want old) h) (k (or_right (w == want) (is_among want old) h))
lent_join want (Idle s t) old new k h = k h

pub taken_remove : {C : Type 0} (link : C → LinkView) (rows : List ConnRow) (held : List (Option C)) (i want : ℕ) → AreKept link rows held → i < length rows → is_among want (taken_of rows held) ≡ false → is_among want (taken_of (remove rows i) (remove held i)) ≡ false
taken_remove link [] [] i want k l h = absurd (omega arith)
taken_remove link [] (o ∷ hs) i want k l h = absurd k
taken_remove link (r ∷ rs) [] i want k l h = absurd k
taken_remove link (r ∷ rs) (Some c ∷ hs) zero want k l h = h
taken_remove link (r ∷ rs) (None ∷ hs) zero want k l h = lent_rest want r.place (taken_of rs hs) h
taken_remove link (r ∷ rs) (Some c ∷ hs) (suc i) want k l h = taken_remove link rs hs i want k.1 (omega arith) h
taken_remove link (r ∷ rs) (None ∷ hs) (suc i) want k l h =
    lent_join want r.place (taken_of rs hs) (taken_of (remove rs i) (remove hs i)) (taken_remove link rs hs i want k.1 (omega arith)) h

-- the connection at a place is its row's, or was handed out
or_true : (a b : Bool) → b ≡ true → (a || b) ≡ true
or_true true b h = refl
or_true false b h = h

is_lent_more : (taken : List ℕ) (other place : Place) → is_lent taken place ≡ true → is_lent (lent_to other ++ taken) place ≡ true
is_lent_more taken (Out w c) (Out v d) h = or_true (w == v) (is_among v taken) h
is_lent_more taken (Out w c) (Idle s t) h = h
is_lent_more taken (Idle s t) place h = h

kept_more : {C : Type 0} (link : C → LinkView) (taken : List ℕ) (other : Place) (row : ConnRow) (conn : Option C) → IsKept link taken row conn → IsKept link (lent_to other ++ taken) row conn
kept_more link taken other row (Some c) k = k
kept_more link taken other row None k = is_lent_more taken other row.place k

out_lent : (taken : List ℕ) (want caller : ℕ) (place : Place) → place ≡ Out want caller → is_lent (lent_to place ++ taken) place ≡ true
out_lent taken want caller place e = rw e (ap (λ b. b || is_among want taken) (eq-eqb want want refl))

pub kept_at : {C : Type 0} (link : C → LinkView) (rows : List ConnRow) (held : List (Option C)) (i : ℕ) (d : ConnRow) (o : Option C) → AreKept link rows held → i < length rows → IsKept link (taken_of rows held) (slice_index_or rows i d) (slice_index_or held i o)
kept_at link [] [] i d o k l = absurd (omega arith)
kept_at link [] (h ∷ hs) i d o k l = absurd k
kept_at link (r ∷ rs) [] i d o k l = absurd k
kept_at link (r ∷ rs) (Some c ∷ hs) zero d o k l = k.0
kept_at link (r ∷ rs) (None ∷ hs) zero d o k l = out_lent (taken_of rs hs) k.0.0 k.0.1 r.place k.0.2
kept_at link (r ∷ rs) (Some c ∷ hs) (suc i) d o k l = kept_at link rs hs i d o k.1 (omega arith)
kept_at link (r ∷ rs) (None ∷ hs) (suc i) d o k l =
    kept_more link (taken_of rs hs) r.place (slice_index_or rs i d) (slice_index_or hs i o) (kept_at link rs hs i d o k.1 (omega arith))

-- a connection that is out to a want is handed out
pub kept_lend : {C : Type 0} (link : C → LinkView) (rows : List ConnRow) (held : List (Option C)) (i want caller : ℕ) (d : ConnRow) → AreKept link rows held → i < length rows → (slice_index_or rows i d).place ≡ Out want caller → AreKept link rows (slice_set held i None)
kept_lend link [] [] i want caller d k l e = absurd (omega arith)
kept_lend link [] (h ∷ hs) i want caller d k l e = absurd k
kept_lend link (r ∷ rs) [] i want caller d k l e = absurd k
kept_lend link (r ∷ rs) (Some c ∷ hs) zero want caller d k l e = ((want, caller, e), k.1)
kept_lend link (r ∷ rs) (None ∷ hs) zero want caller d k l e = k
kept_lend link (r ∷ rs) (Some c ∷ hs) (suc i) want caller d k l e = (k.0, kept_lend link rs hs i want caller d k.1 (omega arith) e)
kept_lend link (r ∷ rs) (None ∷ hs) (suc i) want caller d k l e = (k.0, kept_lend link rs hs i want caller d k.1 (omega arith) e)

lent_first : (other want caller : ℕ) (place : Place) (taken : List ℕ) → place ≡ Out want caller → (other ≡ want → ⊥) → is_among other taken ≡ false → is_among other (lent_to place ++ taken) ≡ false
lent_first other want caller place taken e n h = rw e (or_none (want == other) (is_among other taken) (ne_eqb want other (λ q. n (sym q))) h)

pub taken_lend : {C : Type 0} (link : C → LinkView) (rows : List ConnRow) (held : List (Option C)) (i want caller other : ℕ) (d : ConnRow) → AreKept link rows held → i < length rows → (slice_index_or rows i d).place ≡ Out want caller → (other ≡ want → ⊥) → is_among other (taken_of rows held) ≡ false → is_among other (taken_of rows (slice_set held i None)) ≡ false
taken_lend link [] [] i want caller other d k l e n h = absurd (omega arith)
taken_lend link [] (o ∷ hs) i want caller other d k l e n h = absurd k
taken_lend link (r ∷ rs) [] i want caller other d k l e n h = absurd k
taken_lend link (r ∷ rs) (Some c ∷ hs) zero want caller other d k l e n h = lent_first other want caller r.place (taken_of rs hs) e n h
taken_lend link (r ∷ rs) (None ∷ hs) zero want caller other d k l e n h = h
taken_lend link (r ∷ rs) (Some c ∷ hs) (suc i) want caller other d k l e n h = taken_lend link rs hs i want caller other d k.1 (omega arith) e n h
taken_lend link (r ∷ rs) (None ∷ hs) (suc i) want caller other d k l e n h =
    lent_join other r.place (taken_of rs hs) (taken_of rs (slice_set hs i None)) (taken_lend link rs hs i want caller other d k.1 (omega arith) e n) h

-- a connection that is out to a want is at such a place
is_out_step : (want : ℕ) (place : Place) → is_out_to want place ≡ true → (caller : ℕ) × (place ≡ Out want caller)
is_out_step want (Out w c) h = (c, ap (λ n. Out n c) (eqb-true w want h))
is_out_step want (Idle s t) h = absurd (cc)

pub out_at : (want : ℕ) (row : ConnRow) → is_with want row ≡ true → (caller : ℕ) × (row.place ≡ Out want caller)
out_at want row h = is_out_step want row.place h

-- an idle connection wasn't handed out
idle_step : {C : Type 0} (link : C → LinkView) (taken : List ℕ) (row : ConnRow) (conn : Option C) → is_lent taken row.place ≡ false → IsKept link taken row conn → HasConn link row conn
idle_step link taken row (Some c) e k = k
idle_step link taken row None e k = cc

stamp_step : (n : ℕ) (taken : List ℕ) (place : Place) → has_stamp n place ≡ true → is_lent taken place ≡ false
stamp_step n taken (Out w c) h = absurd (cc)
stamp_step n taken (Idle s t) h = refl

and_right : (a b : Bool) → (a && b) ≡ true → b ≡ true
and_right true b h = h
and_right false b h = absurd (cc)

pub stamped_has : {C : Type 0} (link : C → LinkView) (taken : List ℕ) (row : ConnRow) (conn : Option C) (n : ℕ) → rests_since_stamp n row ≡ true → IsKept link taken row conn → HasConn link row conn
stamped_has link taken row conn n h k = idle_step link taken row conn (stamp_step n taken row.place h) k

pub stamped_for_has : {C : Type 0} (link : C → LinkView) (taken : List ℕ) (row : ConnRow) (conn : Option C) (host n : ℕ) → rests_for_since_stamp host n row ≡ true → IsKept link taken row conn → HasConn link row conn
stamped_for_has link taken row conn host n h k = idle_step link taken row conn (stamp_step n taken row.place (and_right (row.host == host) (has_stamp n row.place) h)) k

-- what handing out a want's connection does, at the place where its row stands
pub record Lending {C : Type 0} (link : C → LinkView) (rows : List ConnRow) (held : List (Option C)) (i want : ℕ) : Type 0 where
  pub within : i < length rows
  pub found : (d : ConnRow) → find (is_with want) rows ≡ Some (slice_index_or rows i d)
  pub kept : AreKept link rows (slice_set held i None)
  pub taken : (other : ℕ) → (other ≡ want → ⊥) → is_among other (taken_of rows held) ≡ false → is_among other (taken_of rows (slice_set held i None)) ≡ false

pub lending : {C : Type 0} (link : C → LinkView) (rows : List ConnRow) (held : List (Option C)) (i want : ℕ) (d : ConnRow) → AreKept link rows held → Some i ≡ position (is_with want) rows → Lending link rows held i want
lending link rows held i want d k at =
    let within : i < length rows = within_at (is_with want) rows i d at in
    let out : (caller : ℕ) × ((slice_index_or rows i d).place ≡ Out want caller) = out_at want (slice_index_or rows i d) (passes_at (is_with want) rows i d at) in
    record {
      within = within;
      found = λ e. (taken_at (is_with want) rows i at).found e;
      kept = kept_lend link rows held i want out.0 d k within out.1;
      taken = λ other n h. taken_lend link rows held i want out.0 other d k within out.1 n h;
    }

-- what was found and taken out leaves one row less
pub one_less : {C : Type 0} (test : ConnRow → Bool) (rows left : List ConnRow) (o : Option (Resting C)) → resting_row o ≡ find test rows → left ≡ remove_first test rows → OnSome o (length left + 1 ≡ length rows)
one_less test rows left None f e = tt
one_less test rows left (Some r) f e = rw e (removed_length test rows r.row (sym f))

-- where nothing was found, all stays
pub none_same : {C : Type 0} (o : Option (Resting C)) (found : Option (Shelved C)) (A B : Type 0) → resting_row o ≡ row_of found → IfNone found A → (A → B) → IfNone o B
none_same None None A B e a f = f a
none_same None (Some x) A B e a f = absurd (cc)
none_same (Some r) found A B e a f = tt
