-- What holds of every tree is kept.
use Rattle.std.proofs.Common.{◌≡◌, ℕ, zero, suc, ◌<◌, ◌≤◌, max, true, false, inl, inr, List, [], ◌∷◌, ◌++◌, length, take, drop, Option, Some, None, IsSome, refl, sym, ap, ◌∙◌, arith}
use Rattle.std.proofs.lemmas.Bool.{cases_lt}
use Rattle.std.proofs.lemmas.Bool.Decides.{nat_tests}
use Rattle.std.proofs.lemmas.List.{get_or_past, get_or-take, get_or_append_left, get_or_push, take_at, length-take, length_push}
use Rattle.gw_context.specs.declared.parts.Cause.{Cause}
use Rattle.gw_context.specs.declared.parts.Cause.TheVariants.{Canceled, DeadlineExceeded}
use Rattle.gw_context.specs.declared.parts.Node.{Node}
use Rattle.gw_context.specs.Node.{root, node_at, IsLive, IsTied, Climbs, Under, is_due, IsUnderDue, Fate, Ends, IsLinked, IsSound, Joins}
use Rattle.std.proofs.Math.Nat.{le-max_left, le-max_right}
use Rattle.gw_context.proofs.Members.{under_higher}
use Rattle.gw_context.proofs.Passing.{bool_cases, option_cases}

-- the node's place in the tree is the same
pub record KeepsPlace (before now : Node) : Type 0 where
  pub parent : now.parent ≡ before.parent
  pub tied : now.tied ≡ before.tied
  pub deadline : now.deadline ≡ before.deadline

place_of_fate : (cause : Cause) (P : Type 0) (before now : Node) → Fate cause P before now → KeepsPlace before now
place_of_fate cause P before now fate =
    elim fate [
      | inl f ↦ record { parent = ap (λ (n : Node). n.parent) f.2; tied = ap (λ (n : Node). n.tied) f.2; deadline = ap (λ (n : Node). n.deadline) f.2 }
      | inr f ↦ record { parent = ap (λ (n : Node). n.parent) f.1; tied = ap (λ (n : Node). n.tied) f.1; deadline = ap (λ (n : Node). n.deadline) f.1 }
    ]

pub place_kept : (cause : Cause) (S : ℕ → Type 0) (before now : List Node) (i : ℕ) → Ends cause S before now → KeepsPlace (node_at before i) (node_at now i)
place_kept cause S before now i ends =
    elim (cases_lt i (length before)) [
      | inl h ↦ place_of_fate cause (S i) (node_at before i) (node_at now i) (ends.each i h)
      | inr h ↦
          let p : node_at before i ≡ root = get_or_past before i root h in
          let q : node_at now i ≡ root = get_or_past now i root (omega (arith, ends.count)) in
          record { parent = ap (λ (n : Node). n.parent) (q ∙ sym p); tied = ap (λ (n : Node). n.tied) (q ∙ sym p); deadline = ap (λ (n : Node). n.deadline) (q ∙ sym p) }
    ]

pub due_later : (a b : ℕ) (deadline : Option ℕ) → a ≤ b → is_due a deadline ≡ true → is_due b deadline ≡ true
due_later a b None rise e = e
due_later a b (Some d) rise e = grind (arith, nat_tests)

climbs_kept : (before now : List Node) → ((i : ℕ) → KeepsPlace (node_at before i) (node_at now i)) → (steps m n : ℕ) → Climbs before steps m n → Climbs now steps m n
climbs_kept before now place zero m n climbs = climbs
climbs_kept before now place (suc steps) m n climbs =
    ((place m).tied ∙ climbs.0, rw ((place m).parent) (climbs_kept before now place steps (node_at before m).parent n climbs.1))

pub under_due_kept : (before now : List Node) → ((i : ℕ) → KeepsPlace (node_at before i) (node_at now i)) → (a b m : ℕ) → a ≤ b → IsUnderDue before a m → IsUnderDue now b m
under_due_kept before now place a b m rise u =
    (u.0, rw ((place u.0).deadline) (due_later a b (node_at before u.0).deadline rise u.1), (u.2.0, climbs_kept before now place u.2.0 m u.0 u.2.1))

-- where the first nodes are the same
climbs_within : (before now : List Node) (bound : ℕ) → IsLinked before → ((i : ℕ) → i < bound → node_at now i ≡ node_at before i) → (steps m n : ℕ) → m < bound → Climbs before steps m n → Climbs now steps m n
climbs_within before now bound linked same zero m n h climbs = climbs
climbs_within before now bound linked same (suc steps) m n h climbs =
    let lower : (node_at before m).parent < m = linked.lower m climbs.0 in
    (rw (same m h) (climbs.0), rw (same m h) (climbs_within before now bound linked same steps (node_at before m).parent n (omega arith) climbs.1))

under_due_within : (before now : List Node) (bound last m : ℕ) → IsLinked before → ((i : ℕ) → i < bound → node_at now i ≡ node_at before i) → m < bound → IsUnderDue before last m → IsUnderDue now last m
under_due_within before now bound last m linked same h u =
    let above : u.0 ≤ m = under_higher before linked u.2.0 m u.0 u.2.1 in
    (u.0, rw (same u.0 (omega arith)) (u.1), (u.2.0, climbs_within before now bound linked same u.2.0 m u.0 h u.2.1))

pub places_found : (cause : Cause) (S : ℕ → Type 0) (before now : List Node) → Ends cause S before now → (i : ℕ) → KeepsPlace (node_at now i) (node_at before i)
places_found cause S before now ends i =
    let place : KeepsPlace (node_at before i) (node_at now i) = place_kept cause S before now i ends in
    record { parent = sym place.parent; tied = sym place.tied; deadline = sym place.deadline }

not_expired_root : (node : Node) → node ≡ root → ¬ (node.cause ≡ Some DeadlineExceeded)
not_expired_root node e f = let g : node.cause ≡ None = ap (λ (n : Node). n.cause) e in cc

-- what is live after was live before, and is no member of the set
live_before : (cause : Cause) (S : ℕ → Type 0) (before now : List Node) (i : ℕ) → Ends cause S before now → i < length before → IsLive (node_at now i) → IsLive (node_at before i) × (¬ (S i))
live_before cause S before now i ends h live =
    elim (ends.each i h) [
      | inl f ↦ absurd (let e : (node_at now i).cause ≡ Some cause = ap (λ (n : Node). n.cause) f.2 in cc)
      | inr f ↦
          let l : IsLive (node_at before i) = ap (λ (n : Node). n.cause) (sym f.1) ∙ live in
          (l, λ s. f.0 (s, l))
    ]

-- a place past the end
live_past : (nodes : List Node) (i : ℕ) → length nodes ≤ i → node_at nodes i ≡ root
live_past nodes i h = get_or_past nodes i root h

untied_root : (node : Node) → node ≡ root → ¬ (IsTied node)
untied_root node e t = let f : node.tied ≡ false = ap (λ (n : Node). n.tied) e in cc

due_of_root : (moment : ℕ) (node : Node) → node ≡ root → is_due moment node.deadline ≡ false
due_of_root moment node e = ap (λ (n : Node). is_due moment n.deadline) e

linked_after : (cause : Cause) (S : ℕ → Type 0) (before now : List Node) → Ends cause S before now → IsLinked before → ((i : ℕ) → IsTied (node_at before i) → S (node_at before i).parent → S i) → IsLinked now
linked_after cause S before now ends linked closed =
    let place : (i : ℕ) → KeepsPlace (node_at before i) (node_at now i) = λ i. place_kept cause S before now i ends in
    record {
      lower = λ i t. rw ((place i).parent) (linked.lower i (sym (place i).tied ∙ t));
      joint = λ i t live.
          let tied : IsTied (node_at before i) = sym (place i).tied ∙ t in
          elim (cases_lt i (length before)) [
            | inl h ↦
                let l : IsLive (node_at before i) × (¬ (S i)) = live_before cause S before now i ends h live in
                let p : ℕ = (node_at before i).parent in
                let lower : p < i = linked.lower i tied in
                rw ((place i).parent) (elim (ends.each p (omega arith)) [
                  | inl f ↦ absurd (l.1 (closed i tied f.0))
                  | inr f ↦ ap (λ (n : Node). n.cause) f.1 ∙ linked.joint i tied l.0
                ])
            | inr h ↦ absurd (untied_root (node_at before i) (live_past before i h) tied)
          ];
    }

pub sound_after : (cause : Cause) (S : ℕ → Type 0) (last later : ℕ) (before now : List Node) → Ends cause S before now → IsSound last before → ((i : ℕ) → IsTied (node_at before i) → S (node_at before i).parent → S i) → ((i : ℕ) → IsLive (node_at before i) → ¬ (S i) → is_due later (node_at before i).deadline ≡ false) → last ≤ later → ((i : ℕ) → S i → cause ≡ DeadlineExceeded → IsUnderDue before later i) → IsSound later now
sound_after cause S last later before now ends sound closed due rise reached =
    let kept : (i : ℕ) → KeepsPlace (node_at before i) (node_at now i) = λ i. place_kept cause S before now i ends in
    record {
      first = omega (arith, ends.count, sound.first);
      linked = linked_after cause S before now ends sound.linked closed;
      early = λ i live. elim (cases_lt i (length before)) [
        | inl h ↦
            let l : IsLive (node_at before i) × (¬ (S i)) = live_before cause S before now i ends h live in
            let place : KeepsPlace (node_at before i) (node_at now i) = place_kept cause S before now i ends in
            rw (place.deadline) (due i l.0 l.1)
        | inr h ↦ due_of_root later (node_at now i) (live_past now i (omega (arith, ends.count)))
      ];
      due = λ i e. elim (cases_lt i (length before)) [
        | inl h ↦ elim (ends.each i h) [
          | inl f ↦
              let g : (node_at now i).cause ≡ Some cause = ap (λ (n : Node). n.cause) f.2 in
              let same : cause ≡ DeadlineExceeded = cc in
              under_due_kept before now kept later later i (omega arith) (reached i f.0 same)
          | inr f ↦
              let g : (node_at before i).cause ≡ Some DeadlineExceeded = ap (λ (n : Node). n.cause) (sym f.1) ∙ e in
              under_due_kept before now kept last later i rise (sound.due i g)
        ]
        | inr h ↦ absurd (not_expired_root (node_at now i) (live_past now i (omega (arith, ends.count))) e)
      ];
    }

pub sound_cancelled : (last n : ℕ) (before now : List Node) → Ends Canceled (Under before n) before now → IsSound last before → IsSound last now
sound_cancelled last n before now ends sound =
    sound_after Canceled (Under before n) last last before now ends sound (λ i t u. (suc u.0, (t, u.1))) (λ i l u. sound.early i l) (omega arith) (λ i u e. absurd (cc))

due_of_max : (a b : ℕ) (deadline : Option ℕ) → is_due a deadline ≡ false → is_due b deadline ≡ false → is_due (max a b) deadline ≡ false
due_of_max a b None p q = refl
due_of_max a b (Some d) p q = grind (arith, nat_tests)

pub sound_advanced : (last moment : ℕ) (before now : List Node) → Ends DeadlineExceeded (IsUnderDue before moment) before now → IsSound last before → IsSound (max last moment) now
sound_advanced last moment before now ends sound =
    sound_after DeadlineExceeded (IsUnderDue before moment) last (max last moment) before now ends sound
    (λ i t u. (u.0, u.1, (suc u.2.0, (t, u.2.1))))
    (λ i l u. elim (bool_cases (is_due moment (node_at before i).deadline)) [
      | inl e ↦ absurd (u (i, e, (0, refl)))
      | inr e ↦ due_of_max last moment (node_at before i).deadline (sound.early i l) e
    ])
    (le-max_left last moment)
    (λ i u e. (u.0, due_later moment (max last moment) (node_at before u.0).deadline (le-max_right last moment) u.1, u.2))

-- one node more
at_left : (nodes : List Node) (node : Node) (i : ℕ) → i < length nodes → node_at (nodes ++ node ∷ []) i ≡ node_at nodes i
at_left nodes node i h = get_or_append_left nodes (node ∷ []) root i h

-- where a place of the longer list is
data Place (nodes : List Node) (node : Node) (i : ℕ) : Type 0 where
  old : i < length nodes → node_at (nodes ++ node ∷ []) i ≡ node_at nodes i → Place nodes node i
  new : i ≡ length nodes → node_at (nodes ++ node ∷ []) i ≡ node → Place nodes node i
  past : node_at (nodes ++ node ∷ []) i ≡ root → Place nodes node i

place_in : (nodes : List Node) (node : Node) (i : ℕ) → Place nodes node i
place_in nodes node i =
    elim (cases_lt i (length nodes)) [
      | inl h ↦ old h (at_left nodes node i h)
      | inr h ↦ elim (cases_lt (length nodes) i) [
        | inl k ↦ past (live_past (nodes ++ node ∷ []) i (omega (arith, length_push nodes node)))
        | inr k ↦ new (omega arith) (get_or_push nodes node root i (omega arith))
      ]
    ]

pub sound_added : (last : ℕ) (nodes : List Node) (node : Node) → IsSound last nodes → Joins last nodes node → IsSound last (nodes ++ node ∷ [])
sound_added last nodes node sound joins =
    record {
      first = omega (arith, length_push nodes node, sound.first);
      linked = record {
        lower = λ i t. elim (place_in nodes node i) [
          | old h e ↦ rw e (sound.linked.lower i (rw e at t))
          | new h e ↦ let n : IsTied node = rw e at t in rw e (omega (arith, joins.lower n))
          | past e ↦ absurd (untied_root _ e t)
        ];
        joint = λ i t live. elim (place_in nodes node i) [
          | old h e ↦
              let n : IsTied (node_at nodes i) = rw e at t in
              let l : IsLive (node_at nodes i) = rw e at live in
              let lower : (node_at nodes i).parent < i = sound.linked.lower i n in
              rw (e, at_left nodes node (node_at nodes i).parent (omega arith)) (sound.linked.joint i n l)
          | new h e ↦
              let n : IsTied node = rw e at t in
              let l : IsLive node = rw e at live in
              rw (e, at_left nodes node node.parent (joins.lower n)) (joins.joint n l)
          | past e ↦ absurd (untied_root _ e t)
        ];
      };
      early = λ i live. elim (place_in nodes node i) [
        | old h e ↦ let l : IsLive (node_at nodes i) = rw e at live in rw e (sound.early i l)
        | new h e ↦ let l : IsLive node = rw e at live in rw e (joins.early l)
        | past e ↦ due_of_root last _ e
      ];
      due = λ i expired. elim (place_in nodes node i) [
        | old h e ↦ under_due_within nodes (nodes ++ node ∷ []) (length nodes) last i sound.linked (at_left nodes node) h (sound.due i (rw e at expired))
        | new h e ↦ elim (joins.due (rw e at expired)) [
          | inl d ↦ (i, rw e d, (0, refl))
          | inr j ↦
              let u : IsUnderDue (nodes ++ node ∷ []) last node.parent =
              under_due_within nodes (nodes ++ node ∷ []) (length nodes) last node.parent sound.linked (at_left nodes node) (joins.lower j.0) j.1 in
              (u.0, u.1, (suc u.2.0, (rw e (j.0), rw e (u.2.1))))
        ]
        | past e ↦ absurd (not_expired_root _ e expired)
      ];
    }

-- fewer nodes
pub sound_truncated : (last n : ℕ) (nodes : List Node) → 0 < n → IsSound last nodes → IsSound last (take n nodes)
sound_truncated last n nodes positive sound =
    let kept : (i : ℕ) → i < n → node_at (take n nodes) i ≡ node_at nodes i = λ i h. get_or-take n nodes i root h in
    let gone : (i : ℕ) → n ≤ i → node_at (take n nodes) i ≡ root = λ i h. live_past (take n nodes) i (omega (arith, length-take n nodes)) in
    record {
      first = omega (arith, length-take n nodes, sound.first);
      linked = record {
        lower = λ i t. elim (cases_lt i n) [
          | inl h ↦ rw (kept i h) (sound.linked.lower i (rw (kept i h) at t))
          | inr h ↦ absurd (untied_root _ (gone i h) t)
        ];
        joint = λ i t live. elim (cases_lt i n) [
          | inl h ↦
              let k : IsTied (node_at nodes i) = rw (kept i h) at t in
              let l : IsLive (node_at nodes i) = rw (kept i h) at live in
              let lower : (node_at nodes i).parent < i = sound.linked.lower i k in
              rw (kept i h, kept (node_at nodes i).parent (omega arith)) (sound.linked.joint i k l)
          | inr h ↦ absurd (untied_root _ (gone i h) t)
        ];
      };
      early = λ i live. elim (cases_lt i n) [
        | inl h ↦ let l : IsLive (node_at nodes i) = rw (kept i h) at live in rw (kept i h) (sound.early i l)
        | inr h ↦ due_of_root last _ (gone i h)
      ];
      due = λ i expired. elim (cases_lt i n) [
        | inl h ↦ under_due_within nodes (take n nodes) n last i sound.linked kept h (sound.due i (rw (kept i h) at expired))
        | inr h ↦ absurd (not_expired_root _ (gone i h) expired)
      ];
    }

at_new : (i : ℕ) → node_at (root ∷ []) i ≡ root
at_new zero = refl
at_new (suc i) = refl

-- node 0 alone
pub sound_new : IsSound 0 (root ∷ [])
sound_new =
    record {
      first = omega arith;
      linked = record {
        lower = λ i t. absurd (untied_root _ (at_new i) t);
        joint = λ i t live. absurd (untied_root _ (at_new i) t);
      };
      early = λ i live. due_of_root 0 _ (at_new i);
      due = λ i expired. absurd (not_expired_root _ (at_new i) expired);
    }

-- a `Vec` whose items were written as a slice
pub written : (xs ys : List Node) (len : ℕ) → length xs ≡ len → take len (xs ++ drop (length xs) ys) ≡ xs
written xs ys len h = take_at xs (drop (length xs) ys) len h

live_above : (nodes : List Node) → IsLinked nodes → (steps m n : ℕ) → Climbs nodes steps m n → IsLive (node_at nodes m) → IsLive (node_at nodes n)
live_above nodes linked zero m n climbs live = rw climbs at live
live_above nodes linked (suc steps) m n climbs live =
    live_above nodes linked steps (node_at nodes m).parent n climbs.1 (linked.joint m climbs.0 live)

-- what is under an ended node has ended
pub ended_below : (nodes : List Node) → IsLinked nodes → (n m : ℕ) → Under nodes n m → IsSome (node_at nodes n).cause → IsSome (node_at nodes m).cause
ended_below nodes linked n m under some =
    elim (option_cases (node_at nodes m).cause) [
      | inl live ↦
          let above : (node_at nodes n).cause ≡ None = live_above nodes linked under.0 m n under.1 live in
          absurd (let e = rw above at some in cc)
      | inr x ↦ rw (x.1)
    ]
