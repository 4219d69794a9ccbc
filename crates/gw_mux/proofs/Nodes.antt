-- What a run of a node is: the node behind one branch more.
use Rattle.std.proofs.Common.{◌≡◌, ℕ, ◌+◌, ◌<◌, List, ◌∷◌, length, drop, Option, Contains, ⊎_elim, sym, ap, ◌∙◌, arith}
use Rattle.std.proofs.lemmas.List.{drop-drop}
use Rattle.std.proofs.lemmas.Option.{slice_get_cases}
use Rattle.gw_pattern.specs.declared.form.Pattern.{Pattern}
use Rattle.gw_pattern.specs.declared.form.Seg.{Seg}
use Rattle.gw_mux.specs.Found.{IsNode}
use Rattle.gw_mux.specs.Keys.{first_key, keys_at, tail_at, tail_keys}
use Rattle.gw_mux.specs.Order.{IsRun}
use Rattle.gw_mux.specs.Table.{IsAt}
use Rattle.gw_mux.proofs.Heads.{behind}

pub pattern_there : (patterns : List Pattern) (i : ℕ) → i < length patterns → (p : Pattern) × IsAt patterns i p
pattern_there patterns i within = ⊎_elim (λ x. (x.0, x.2)) (λ x. absurd (omega (arith, within, x.0))) (slice_get_cases patterns i).1

-- the key says that a segment is left
abbrev pub SaysSegment : List ℕ → Type 0
SaysSegment key = (segs : List Seg) (method : Option (List ℕ)) → first_key (tail_keys segs method) ≡ key → (seg : Seg) × (t : List Seg) × (segs ≡ seg ∷ t)

-- the number is one of the node's, and its branch there has this key
abbrev pub InRun : List Pattern → ℕ → List ℕ → List ℕ → ℕ → Type 0
InRun patterns at numbers key i = Contains numbers i × (first_key (tail_at patterns (at + 1) i) ≡ key)

module _ (patterns : List Pattern) (at : ℕ) (numbers : List ℕ) (node : IsNode patterns at numbers) where
  pub key_in : (i : ℕ) (p : Pattern) (key : List ℕ) → InRun patterns at numbers key i → IsAt patterns i p → first_key (tail_keys (drop at p.segs.items) p.method) ≡ key
  key_in i p key c a = sym (ap first_key (node.branches i p c.0 a)) ∙ c.1

  pub in_key : (i : ℕ) (p : Pattern) (key : List ℕ) → Contains numbers i → IsAt patterns i p → first_key (tail_keys (drop at p.segs.items) p.method) ≡ key → InRun patterns at numbers key i
  in_key i p key c a e = (c, ap first_key (node.branches i p c a) ∙ e)

  pub branch_behind : (i : ℕ) (p : Pattern) (key : List ℕ) → SaysSegment key → InRun patterns at numbers key i → IsAt patterns i p → tail_at patterns (at + 1 + 1) i ≡ tail_keys (drop (at + 1) p.segs.items) p.method
  branch_behind i p key says c a =
      let s = says (drop at p.segs.items) p.method (key_in i p key c a) in
      let e : tail_at patterns (at + 1) i ≡ tail_keys (s.0 ∷ s.1) p.method = node.branches i p c.0 a ∙ ap (λ x. tail_keys x p.method) s.2 in
      sym (drop-drop 1 (at + 1) (keys_at patterns i)) ∙ ap (drop 1) e ∙ sym (ap (λ x. tail_keys x p.method) (behind p.segs.items at s.0 s.1 s.2))

  pub node_behind : (key run : List ℕ) → IsRun patterns (at + 1) key numbers run → SaysSegment key → IsNode patterns (at + 1) run
  node_behind key run is says = record {
    sorted = is.sorted;
    branches = λ i p c a. branch_behind i p key says (is.within i c) a;
    there = λ i c. node.there i (is.within i c).0;
  }
