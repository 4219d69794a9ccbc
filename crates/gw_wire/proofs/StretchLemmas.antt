-- How stretches of a log are put together, so that no proof above opens the log again.
use Rattle.std.proofs.Common.{List, [], ◌++◌, Option, Some, None, refl, ap, sym, subst, ◌∙◌, append_assoc, append-nil}
use Rattle.gw_wire.specs.declared.values.Act.{Act}
use Rattle.gw_wire.specs.Acts.{Logs}
use Rattle.gw_wire.specs.Stretch.{Told, Acts, Then}

pub Logs-none : {A : Type 0} (log : Option (List A)) → Logs log log []
Logs-none None = tt
Logs-none (Some acts) = sym (append-nil acts)

pub Logs-then : {A : Type 0} (old mid new : Option (List A)) (front back : List A) → Logs old mid front → Logs mid new back → Logs old new (front ++ back)
Logs-then old mid None front back a b = tt
Logs-then old None (Some new) front back a b = absurd b
Logs-then None (Some mid) (Some new) front back a b = absurd a
Logs-then (Some old) (Some mid) (Some new) front back a b = b ∙ ap (λ m. m ++ back) a ∙ append_assoc old front back

-- after a call that logs nothing
pub Logs-quiet : {A : Type 0} (old mid new : Option (List A)) (acts : List A) → Logs old mid [] → Logs mid new acts → Logs old new acts
Logs-quiet old mid new acts a b = Logs-then old mid new [] acts a b

pub Told-map : (old new : Option (List Act)) (P Q : List Act → Type 0) → ((l : List Act) → P l → Q l) → Told old new P → Told old new Q
Told-map old new P Q f t = (t.0, t.1, f t.0 t.2)

pub Told-acts : (old new : Option (List Act)) (acts : List Act) → Logs old new acts → Told old new (Acts acts)
Told-acts old new acts l = (acts, l, refl)

pub Told-then : (old mid new : Option (List Act)) (P Q : List Act → Type 0) → Told old mid P → Told mid new Q → Told old new (Then P Q)
Told-then old mid new P Q a b = (a.0 ++ b.0, Logs-then old mid new a.0 b.0 a.1 b.1, (a.0, b.0, refl, a.2, b.2))

-- before or after a call that logs nothing
pub Told-after_quiet : (old mid new : Option (List Act)) (P : List Act → Type 0) → Logs old mid [] → Told mid new P → Told old new P
Told-after_quiet old mid new P a b = (b.0, Logs-quiet old mid new b.0 a b.1, b.2)

pub Told-before_quiet : (old mid new : Option (List Act)) (P : List Act → Type 0) → Told old mid P → Logs mid new [] → Told old new P
Told-before_quiet old mid new P a b =
    (a.0, subst (Logs old new) (append-nil a.0) (Logs-then old mid new a.0 [] a.1 b), a.2)
