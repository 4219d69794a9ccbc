-- Along a legal history: what is true at first and stays true from entry to entry is true at its end.
use Rattle.std.proofs.Common.{◌≡◌, List, [], ◌∷◌, ◌++◌, Option, Some, None, refl, ap, sym, ◌∙◌, subst, append_assoc, append-nil}
use Rattle.gw_pool.specs.declared.limits.Limits.{Limits}
use Rattle.gw_pool.specs.declared.entry.Entry.{Entry}
use Rattle.gw_pool.specs.State.{State, empty}
use Rattle.gw_pool.specs.Machine.{Outcome, step}
use Rattle.gw_pool.specs.History.{IsLegal, LegalFrom, after, after_from, moved, reply_of, state_of}
use Rattle.gw_pool.proofs.Histories.{after_from_push}

-- an entry's step
pub record Steps (limits : Limits) (s : State) (e : Entry) : Type 0 where
  pub outcome : Outcome
  pub fits : step limits s e.caller e.call ≡ Some outcome
  pub reply : outcome.reply ≡ e.reply
  pub state : moved limits s e ≡ outcome.state

steps_by : (limits : Limits) (s : State) (e : Entry) (o : Option Outcome) → step limits s e.caller e.call ≡ o → reply_of o ≡ Some e.reply → Steps limits s e
unfolding moved
steps_by limits s e None f r = absurd (cc)
steps_by limits s e (Some outcome) f r = record { outcome = outcome; fits = f; reply = (let same : Some outcome.reply ≡ Some e.reply = r in cc); state = ap (λ o. state_of s o) f }

pub steps : (limits : Limits) (s : State) (e : Entry) → (reply_of (step limits s e.caller e.call) ≡ Some e.reply) → Steps limits s e
steps limits s e r = steps_by limits s e (step limits s e.caller e.call) refl r

-- from a state on
pub along : (limits : Limits) (P : State → Type 0) → ((s : State) (e : Entry) (o : Outcome) → step limits s e.caller e.call ≡ Some o → o.reply ≡ e.reply → P s → P o.state) → (s : State) (h : List Entry) → LegalFrom limits s h → P s → P (after_from limits s h)
along limits P k s [] l p = p
along limits P k s (e ∷ h) l p =
    let st = steps limits s e l.0 in
    along limits P k (moved limits s e) h l.1 (subst P (sym st.state) (k s e st.outcome st.fits st.reply p))

pub legal_along : (limits : Limits) (P : State → Type 0) → ((s : State) (e : Entry) (o : Outcome) → step limits s e.caller e.call ≡ Some o → o.reply ≡ e.reply → P s → P o.state) → P empty → (h : List Entry) → IsLegal limits h → P (after limits h)
unfolding IsLegal after
legal_along limits P k p h l = along limits P k empty h l p

-- over a history, entry by entry
walk_from : (limits : Limits) (P : List Entry → State → Type 0) → ((before : List Entry) (s : State) (e : Entry) (o : Outcome) → step limits s e.caller e.call ≡ Some o → o.reply ≡ e.reply → P before s → P (before ++ e ∷ []) o.state) → (before h : List Entry) (s : State) → LegalFrom limits s h → P before s → P (before ++ h) (after_from limits s h)
walk_from limits P k before [] s l p = rw (append-nil before) p
walk_from limits P k before (e ∷ h) s l p =
    let st = steps limits s e l.0 in
    let Q : List Entry → Type 0 = λ l. P l (after_from limits (moved limits s e) h) in
    subst Q (append_assoc before (e ∷ []) h)
    (walk_from limits P k (before ++ e ∷ []) h (moved limits s e) l.1
    (subst (λ t. P (before ++ e ∷ []) t) (sym st.state) (k before s e st.outcome st.fits st.reply p)))

pub walk : (limits : Limits) (P : List Entry → State → Type 0) → ((before : List Entry) (s : State) (e : Entry) (o : Outcome) → step limits s e.caller e.call ≡ Some o → o.reply ≡ e.reply → P before s → P (before ++ e ∷ []) o.state) → P [] empty → (h : List Entry) → IsLegal limits h → P h (after limits h)
unfolding IsLegal after
walk limits P k p h l = walk_from limits P k [] h empty l p

-- a history in two parts
pub legal_split : (limits : Limits) (s : State) (a b : List Entry) → LegalFrom limits s (a ++ b) → LegalFrom limits s a × LegalFrom limits (after_from limits s a) b
legal_split limits s [] b l = (tt, l)
legal_split limits s (e ∷ a) b l = let rest = legal_split limits (moved limits s e) a b l.1 in ((l.0, rest.0), rest.1)

pub after_split : (limits : Limits) (s : State) (a b : List Entry) → after_from limits s (a ++ b) ≡ after_from limits (after_from limits s a) b
after_split limits s [] b = refl
after_split limits s (e ∷ a) b = after_split limits (moved limits s e) a b

-- the last entry of a history
pub record Last (limits : Limits) (before : List Entry) (e : Entry) : Type 0 where
  pub legal : IsLegal limits before
  pub outcome : Outcome
  pub fits : step limits (after limits before) e.caller e.call ≡ Some outcome
  pub reply : outcome.reply ≡ e.reply
  pub state : after limits (before ++ e ∷ []) ≡ outcome.state

pub last : (limits : Limits) (before : List Entry) (e : Entry) → IsLegal limits (before ++ e ∷ []) → Last limits before e
unfolding IsLegal after
last limits before e l =
    let two = legal_split limits empty before (e ∷ []) l in
    let st = steps limits (after_from limits empty before) e two.1.0 in
    record { legal = two.0; outcome = st.outcome; fits = st.fits; reply = st.reply; state = after_from_push limits empty before e ∙ st.state }

pub after_push : (limits : Limits) (before : List Entry) (e : Entry) → after limits (before ++ e ∷ []) ≡ moved limits (after limits before) e
unfolding after
after_push limits before e = after_from_push limits empty before e
