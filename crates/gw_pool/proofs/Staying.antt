-- A connection that is out to a caller stays so until an entry of that caller takes it back.
use Rattle.std.proofs.Common.{◌≡◌, ℕ, ◌==◌, ◌⊎◌, inl, inr, Bool, true, false, List, [], ◌∷◌, ◌++◌, Some, refl, ap, sym, ◌∙◌, cond, eqb-true, eq-eqb, subst, append_assoc, append-nil}
use Rattle.std.specs.List.{find, list_any}
use Rattle.gw_pool.specs.declared.limits.Limits.{Limits}
use Rattle.gw_pool.specs.declared.entry.Entry.{Entry}
use Rattle.gw_pool.specs.declared.entry.Call.{Call}
use Rattle.gw_pool.specs.declared.entry.Call.TheVariants as call
use Rattle.gw_pool.specs.declared.rows.Place.{Place}
use Rattle.gw_pool.specs.declared.rows.Place.TheVariants.{Out}
use Rattle.gw_pool.specs.declared.rows.ConnRow.{ConnRow}
use Rattle.gw_pool.specs.State.{State, has_number, is_with, empty}
use Rattle.gw_pool.specs.Machine.{Outcome, step}
use Rattle.gw_pool.specs.History.{IsLegal, after, mine}
use Rattle.gw_pool.specs.Laws.{takes_out, takes_back}
use Rattle.gw_pool.proofs.Edits.{found_passes}
use Rattle.gw_pool.proofs.Owns.{found_among}
use Rattle.gw_pool.proofs.Shelves.{out_at}
use Rattle.gw_pool.proofs.Inverts.{cancel_was, back_was, drop_was, CancelRowWas, CancelConnWas}
use Rattle.gw_pool.proofs.Walk.{last, legal_split}
use Rattle.gw_pool.proofs.Outs.{out_conns_stay, or_false, unique}
use Rattle.gw_pool.specs.Keeps.{IsOut}
use Rattle.gw_pool.specs.Ties.{Among}
use Rattle.gw_pool.proofs.Finds.{is_found}
use Rattle.gw_pool.proofs.Numbers.{Numbers, legal_numbers}
use Rattle.gw_pool.specs.Owner.{owner, IsOwned}
use Rattle.gw_pool.proofs.Owners.{legal_owned}
use Rattle.gw_pool.proofs.Callers.{want_caller, conn_caller}

pub front : (limits : Limits) (seen more : List Entry) → IsLegal limits (seen ++ more) → IsLegal limits seen
unfolding IsLegal
front limits seen more l = (legal_split limits empty seen more l).0

out_caller : (place : Place) (v w c d : ℕ) → place ≡ Out v c → place ≡ Out w d → c ≡ d
out_caller place v w c d p q = let both : Out v c ≡ Out w d = sym p ∙ q in cc

-- a call that takes a connection back is its caller's
by_number : (s : State) (conn w c d v : ℕ) (row was : ConnRow) → find (has_number conn) s.conns ≡ Some row → row.place ≡ Out w c → find (has_number conn) s.conns ≡ Some was → was.place ≡ Out v d → d ≡ c
by_number s conn w c d v row was f p g q = let same : was ≡ row = (let both = sym g ∙ f in cc) in out_caller row.place v w d c (ap (λ (x : ConnRow). x.place) (sym same) ∙ q) p

cancel_caller : (limits : Limits) (s : State) (by : ℕ → ℕ) (w now c d : ℕ) (row : ConnRow) (o : Outcome) → IsOwned by s → find (has_number row.conn) s.conns ≡ Some row → row.place ≡ Out w c → CancelRowWas limits s d w o ⊎ CancelConnWas limits s d w now o → d ≡ c
cancel_caller limits s by w now c d row o k f p (inl was) = sym was.by ∙ want_caller by s w was.row k was.found ∙ sym (conn_caller by s w c row k (found_among (has_number row.conn) row s.conns f) p)
cancel_caller limits s by w now c d row o k f p (inr was) =
    let out = out_at w was.row (found_passes (is_with w) s.conns was.row was.found) in
    out_caller was.row.place was.place.0 w d out.0 was.place.1 out.1
    ∙ conn_caller by s w out.0 was.row k (found_among (is_with w) was.row s.conns was.found) out.1
    ∙ sym (conn_caller by s w c row k (found_among (has_number row.conn) row s.conns f) p)

taker : (limits : Limits) (s : State) (by : ℕ → ℕ) (w c d : ℕ) (row : ConnRow) (asked : Call) (o : Outcome) → IsOwned by s → find (has_number row.conn) s.conns ≡ Some row → row.place ≡ Out w c → step limits s d asked ≡ Some o → takes_out row.conn w asked ≡ true → d ≡ c
taker limits s by w c d row (call.GiveBack conn now) o k f p e t =
    let same : conn ≡ row.conn = eqb-true conn row.conn t in
    let was = back_was limits s d conn now o e in
    by_number s row.conn w c d was.place.0 row was.row f p (subst (λ n. find (has_number n) s.conns ≡ Some was.row) same was.found) was.place.1
taker limits s by w c d row (call.Drop conn) o k f p e t =
    let same : conn ≡ row.conn = eqb-true conn row.conn t in
    let was = drop_was limits s d conn o e in
    by_number s row.conn w c d was.place.0 row was.row f p (subst (λ n. find (has_number n) s.conns ≡ Some was.row) same was.found) was.place.1
taker limits s by w c d row (call.Cancel v now) o k f p e t =
    let same : v ≡ w = eqb-true v w t in
    let Q : ℕ → Type 0 = λ n. CancelRowWas limits s d n o ⊎ CancelConnWas limits s d n now o in
    cancel_caller limits s by w now c d row o k f p (subst Q same (cancel_was limits s d v now o e))
taker limits s by w c d row (call.Want host now) o k f p e t = absurd (cc)
taker limits s by w c d row (call.Start v) o k f p e t = absurd (cc)
taker limits s by w c d row (call.Dialed v link now) o k f p e t = absurd (cc)
taker limits s by w c d row (call.DialFailed v) o k f p e t = absurd (cc)
taker limits s by w c d row (call.Expire now) o k f p e t = absurd (cc)
taker limits s by w c d row call.CloseIdle o k f p e t = absurd (cc)

-- an entry of the caller takes back only where the caller's entries do
own_or : (test : Entry → Bool) (e : Entry) (rest : List Entry) (b : Bool) → list_any test (cond b (e ∷ rest) rest) ≡ false → (b ≡ true → test e ≡ false) × (list_any test rest ≡ false)
own_or test e rest true h = let both = or_false (test e) (list_any test rest) h in (λ t. both.0, both.1)
own_or test e rest false h = (λ t. absurd (cc), h)

kept_by : (b : Bool) → (b ≡ true → ⊥) → b ≡ false
kept_by true f = absurd (f refl)
kept_by false f = refl

pub leases_stay : (limits : Limits) (seen more : List Entry) (caller w : ℕ) (row : ConnRow) → IsLegal limits (seen ++ more) → list_any (takes_back row.conn w) (mine more caller) ≡ false → find (has_number row.conn) (after limits seen).conns ≡ Some row → row.place ≡ Out w caller → find (has_number row.conn) (after limits (seen ++ more)).conns ≡ Some row
unfolding IsLegal
leases_stay limits seen [] caller w row l m f p = rw (append-nil seen) f
leases_stay limits seen (e ∷ more) caller w row l m f p =
    let none = own_or (takes_back row.conn w) e (mine more caller) (e.caller == caller) m in
    let long : IsLegal limits ((seen ++ e ∷ []) ++ more) = subst (λ h. IsLegal limits h) (sym (append_assoc seen (e ∷ []) more)) l in
    let here : IsLegal limits (seen ++ e ∷ []) = (legal_split limits empty (seen ++ e ∷ []) more long).0 in
    let at = last limits seen e here in
    let free : takes_back row.conn w e ≡ false = kept_by (takes_back row.conn w e) (λ t.
    let same : e.caller ≡ caller = taker limits (after limits seen) (owner seen) w caller e.caller row e.call at.outcome (legal_owned limits seen at.legal) f p at.fits t in
    let not = none.0 (eq-eqb e.caller caller same) in cc) in
    let next : find (has_number row.conn) (after limits (seen ++ e ∷ [])).conns ≡ Some row = out_conns_stay limits seen (e ∷ []) row w here f (rw p (eq-eqb w w refl)) (rw free refl) in
    subst (λ h. find (has_number row.conn) (after limits h).conns ≡ Some row) (append_assoc seen (e ∷ []) more) (leases_stay limits (seen ++ e ∷ []) more caller w row long none.1 next p)

-- a connection that is out stands by its number
pub conn_numbered : (s : State) (row : ConnRow) → Numbers s → Among row s.conns → find (has_number row.conn) s.conns ≡ Some row
conn_numbered s row n m =
    let found = is_found (has_number row.conn) s.conns row m (eq-eqb row.conn row.conn refl) in
    found.1 ∙ ap (λ x. Some x) (unique row.conn s found.0 row n (found_among (has_number row.conn) found.0 s.conns found.1) m (eqb-true found.0.conn row.conn (found_passes (has_number row.conn) s.conns found.0 found.1)) refl)

none_back : (test : Entry → Bool) (xs : List Entry) → xs ≡ [] → list_any test xs ≡ false
none_back test xs e = rw e refl

pub out_stays : (limits : Limits) (seen more : List Entry) (want caller : ℕ) (row : ConnRow) → IsLegal limits (seen ++ more) → mine more caller ≡ [] → IsOut want caller row (after limits seen) → IsOut want caller row (after limits (seen ++ more))
out_stays limits seen more want caller row l m k =
    let before : IsLegal limits seen = front limits seen more l in
    record {
      there = found_among (has_number row.conn) row (after limits (seen ++ more)).conns
          (leases_stay limits seen more caller want row l (none_back (takes_back row.conn want) (mine more caller) m) (conn_numbered (after limits seen) row (legal_numbers limits seen before) k.there) k.place);
      place = k.place;
    }
