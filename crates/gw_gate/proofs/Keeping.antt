-- Each kind of step keeps the rule of the gate.
use Rattle.std.proofs.Common.{◌≡◌, ◌≢◌, ℕ, ◌+◌, ◌-◌, ◌*◌, ◌%◌, ◌^◌, ◌<◌, ◌≤◌, true, false, ◌||◌, List, set, slice_index, nat_le, nat_eq, bit_or, refl, ap, ◌∙◌, subst, ⊎_elim, arith, length-set, get_or-set_same}
use Rattle.std.proofs.lemmas.Bool.{cases_lt, le-leb, eq-eqb}
use Rattle.std.proofs.Math.Bool.{or-true}
use mathlib.Core.Option.{some}
use lib.ListN.{get_elem?}
use Rattle.atomic_table.specs.Table.{keeps, stepped, Allows}
use Rattle.atomic_table.proofs.Lists.{at_set}
use Rattle.gw_gate.specs.declared.view.GateView.{GateView}
use Rattle.gw_gate.specs.Gate.{shut_bit, IsShut, GateState, one_if, total, room_of, holding, counted, shutting, shut_in, Fits, IsKept}
use Rattle.gw_gate.specs.Steps.{has_read, entered, refused, undone, left, has_shut, SeatMe, Enters, Leaves, Undoes, Shuts, Loads}
use Rattle.gw_gate.proofs.Sums.{total_set, total_at, one_if-le}
use Rattle.gw_gate.proofs.Bits.{or_open, or_shut}
use Rattle.gw_gate.proofs.Words.{few, few_in, shut_in_le, shut_by_word, open_by_word, word_by_shut, read_seen, read_drained}

-- what a step on the word asks of its seat's new view
record Moves (s : GateState) (id : ℕ) (v w : GateView) (n : ℕ) : Type 0 where
  room : w.room ≡ v.room
  some_room : 0 < v.room
  word : n ≡ total counted (set s.views id w) + shut_bit * shut_in (set s.views id w)
  shut : shutting v ≤ shutting w
  seen : w.seen_shut ≡ true → shut_in (set s.views id w) ≡ 1
  drained : w.drained ≡ true → (shut_in (set s.views id w) ≡ 1) × (total holding (set s.views id w) ≡ 0)
  empty : shut_in s.views ≡ 1 → total holding s.views ≡ 0 → total holding (set s.views id w) ≡ 0

kept_at : (s : GateState) (id : ℕ) (v w : GateView) (n : ℕ) (c : List (ℕ × Unit {0})) → IsKept s → get_elem? s.views id ≡ some v → Moves s id v w n → IsKept (stepped s 0 n id c w keeps)
kept_at s id v w n c kept at moves =
    let one = kept.one_word in
    let rooms = total_set room_of s.views id v w at in
    let shuts = total_set shutting s.views id v w at in
    let was = kept.rooms in
    let same = moves.room in
    let more = moves.shut in
    let up : shut_in s.views ≤ shut_in (set s.views id w) = omega arith in
    record {
      one_word = length-set s.words 0 n ∙ one;
      word = get_or-set_same s.words 0 n 0 (omega arith) ∙ moves.word;
      rooms = omega arith;
      each = λ j u there. ⊎_elim
          (λ (own : (j ≡ id) × (w ≡ u)). subst (Fits (set s.views id w)) own.1 (record { roomless = λ none. absurd (let r = moves.some_room in omega arith); seen = moves.seen; drained = moves.drained }))
          (λ (other : (j ≢ id) × (get_elem? s.views j ≡ some u)).
          let fits = kept.each j u other.1 in
          record {
            roomless = fits.roomless;
            seen = λ e. let is = fits.seen e in let top = shut_in_le (set s.views id w) in omega arith;
            drained = λ e. let is = fits.drained e in let is0 = is.0 in let top = shut_in_le (set s.views id w) in (omega arith, moves.empty is0 is.1);
          })
          (at_set s.views id j w u there);
    }

idle : (v : GateView) → v.held ≡ false → v.undoing ≡ false → counted v ≡ 0
idle v out calm = ap (λ h. one_if (h || v.undoing)) out ∙ ap one_if calm

backing_out : (v : GateView) → v.held ≡ false → v.undoing ≡ true → counted v ≡ 1
backing_out v out undoing = ap (λ h. one_if (h || v.undoing)) out ∙ ap one_if undoing

-- what a seat has seen once it has read the bit
sees : (n : ℕ) (v : GateView) → IsShut n → (v.seen_shut || nat_le shut_bit n) ≡ true
sees n v shut = ap (λ b. v.seen_shut || b) (le-leb shut_bit n shut) ∙ or-true v.seen_shut

sees_drained : (n : ℕ) (v : GateView) → n ≡ shut_bit → (v.drained || nat_eq n shut_bit) ≡ true
sees_drained n v drained = ap (λ b. v.drained || b) (eq-eqb n shut_bit drained) ∙ or-true v.drained

pub enters : (slots id : ℕ) (me : SeatMe) → 0 < me.0.room → me.0.held ≡ false → me.0.undoing ≡ false
    → Allows IsKept slots id me 0 (λ n. (n + 1) % 2 ^ 64) (Enters me)
enters slots id me room out calm s kept _ at _ =
    let v = me.0 in
    let n : ℕ = slice_index s.words 0 in
    let small = few s kept in
    let word = kept.word in
    let before = idle v out calm in
    let finds : v.seen_shut ≡ true → IsShut n = λ e. word_by_shut s kept ((kept.each id v at).seen e) in
    ⊎_elim
    (λ (is_open : n < shut_bit).
    let w = entered n v in
    let zero_shut = open_by_word s kept is_open in
    let counts = total_set counted s.views id v w at in
    let shuts = total_set shutting s.views id v w at in (
      w,
      keeps,
      tt,
      kept_at s id v w ((n + 1) % 2 ^ 64) me.1 kept at (record {
        room = refl;
        some_room = room;
        word = omega arith;
        shut = omega arith;
        seen = λ e. let known = read_seen s id v kept at e in absurd (omega arith);
        drained = λ e. let known = read_drained s id v kept at e in let k = known.0 in absurd (omega arith);
        empty = λ e h. absurd (omega arith);
      }),
      record { granted = λ _. refl; refused = λ h. absurd (omega arith); told = λ h. absurd (omega arith); finds = finds; slots = refl },
    ))
    (λ (is_shut : shut_bit ≤ n).
    let w = refused n v in
    let after = backing_out w out refl in
    let one_shut = shut_by_word s kept is_shut in
    let counts = total_set counted s.views id v w at in
    let shuts = total_set shutting s.views id v w at in
    let holds = total_set holding s.views id v w at in (
      w,
      keeps,
      tt,
      kept_at s id v w ((n + 1) % 2 ^ 64) me.1 kept at (record {
        room = refl;
        some_room = room;
        word = omega arith;
        shut = omega arith;
        seen = λ _. omega arith;
        drained = λ e. let known = read_drained s id v kept at e in let k = known.1 in (omega arith, omega arith);
        empty = λ _ h. omega arith;
      }),
      record { granted = λ h. absurd (omega arith); refused = λ _. refl; told = λ h. sees n v h; finds = finds; slots = refl },
    ))
    (cases_lt n shut_bit)

pub leaves : (slots id : ℕ) (me : SeatMe) → 0 < me.0.room → me.0.held ≡ true → me.0.undoing ≡ false
    → Allows IsKept slots id me 0 (λ n. (n + (2 ^ 64 - 1)) % 2 ^ 64) (Leaves me)
leaves slots id me room inside calm s kept _ at _ =
    let v = me.0 in
    let n : ℕ = slice_index s.words 0 in
    let small = few s kept in
    let word = kept.word in
    let one_held : one_if v.held ≡ 1 = ap one_if inside in
    let before : counted v ≡ 1 = ap (λ h. one_if (h || v.undoing)) inside in
    let w = left n v in
    let after = idle w refl calm in
    let counts = total_set counted s.views id v w at in
    let shuts = total_set shutting s.views id v w at in
    let holds = total_set holding s.views id v w at in
    let top = shut_in_le s.views in (
      w,
      keeps,
      tt,
      kept_at s id v w ((n + (2 ^ 64 - 1)) % 2 ^ 64) me.1 kept at (record {
        room = refl;
        some_room = room;
        word = omega arith;
        shut = omega arith;
        seen = λ e. let known = read_seen s id v kept at e in omega arith;
        drained = λ e. let known = read_drained s id v kept at e in let a = known.0 in let b = known.1 in (omega arith, omega arith);
        empty = λ _ h. omega arith;
      }),
      record { view = refl; slots = refl },
    )

pub undoes : (slots id : ℕ) (me : SeatMe) → 0 < me.0.room → me.0.held ≡ false → me.0.undoing ≡ true
    → Allows IsKept slots id me 0 (λ n. (n + (2 ^ 64 - 1)) % 2 ^ 64) (Undoes me)
undoes slots id me room out undoing s kept _ at _ =
    let v = me.0 in
    let n : ℕ = slice_index s.words 0 in
    let small = few s kept in
    let word = kept.word in
    let before = backing_out v out undoing in
    let w = undone v in
    let after = idle w out refl in
    let counts = total_set counted s.views id v w at in
    let shuts = total_set shutting s.views id v w at in
    let holds = total_set holding s.views id v w at in
    let top = shut_in_le s.views in
    let fits = kept.each id v at in (
      w,
      keeps,
      tt,
      kept_at s id v w ((n + (2 ^ 64 - 1)) % 2 ^ 64) me.1 kept at (record {
        room = refl;
        some_room = room;
        word = omega arith;
        shut = omega arith;
        seen = λ e. let known = fits.seen e in omega arith;
        drained = λ e. let known = fits.drained e in let a = known.0 in let b = known.1 in (omega arith, omega arith);
        empty = λ _ h. omega arith;
      }),
      record { view = refl; slots = refl },
    )

pub loads : (slots id : ℕ) (me : SeatMe) → 0 < me.0.room → Allows IsKept slots id me 0 (λ n. n) (Loads me)
loads slots id me room s kept _ at _ =
    let v = me.0 in
    let n : ℕ = slice_index s.words 0 in
    let word = kept.word in
    let w = has_read n v in
    let counts = total_set counted s.views id v w at in
    let shuts = total_set shutting s.views id v w at in
    let holds = total_set holding s.views id v w at in (
      w,
      keeps,
      tt,
      kept_at s id v w n me.1 kept at (record {
        room = refl;
        some_room = room;
        word = omega arith;
        shut = omega arith;
        seen = λ e. let known = read_seen s id v kept at e in omega arith;
        drained = λ e. let known = read_drained s id v kept at e in let a = known.0 in let b = known.1 in (omega arith, omega arith);
        empty = λ _ h. omega arith;
      }),
      record { view = refl; told = λ h. sees n v h; drained = λ h. sees_drained n v h; finds = λ e. word_by_shut s kept ((kept.each id v at).seen e); few = few_in s kept; slots = refl },
    )

pub shuts : (slots id : ℕ) (me : SeatMe) → 0 < me.0.room → Allows IsKept slots id me 0 (λ n. bit_or n (2 ^ 63)) (Shuts me)
shuts slots id me room s kept _ at below =
    let v = me.0 in
    let n : ℕ = slice_index s.words 0 in
    let small = few s kept in
    let word = kept.word in
    let finds : v.seen_shut ≡ true → IsShut n = λ e. word_by_shut s kept ((kept.each id v at).seen e) in
    ⊎_elim
    (λ (is_open : n < shut_bit).
    let w = has_shut n v in
    let zero_shut = open_by_word s kept is_open in
    let set_bit = or_open n is_open in
    let counts = total_set counted s.views id v w at in
    let marks = total_set shutting s.views id v w at in
    let top = one_if-le v.shut in
    let own = total_at shutting s.views id v at in
    let up : shut_in (set s.views id w) ≡ 1 = omega arith in (
      w,
      keeps,
      tt,
      kept_at s id v w (bit_or n (2 ^ 63)) me.1 kept at (record {
        room = refl;
        some_room = room;
        word = omega arith;
        shut = omega arith;
        seen = λ _. up;
        drained = λ e. let known = read_drained s id v kept at e in let k = known.0 in absurd (omega arith);
        empty = λ e h. absurd (omega arith);
      }),
      record { first = λ _. refl; already = λ h. absurd (omega arith); told = refl; finds = finds; slots = refl },
    ))
    (λ (is_shut : shut_bit ≤ n).
    let w = has_read n v in
    let one_shut = shut_by_word s kept is_shut in
    let fits : n < 2 ^ 64 = below in
    let same_bit = or_shut n is_shut fits in
    let counts = total_set counted s.views id v w at in
    let marks = total_set shutting s.views id v w at in
    let holds = total_set holding s.views id v w at in (
      w,
      keeps,
      tt,
      kept_at s id v w (bit_or n (2 ^ 63)) me.1 kept at (record {
        room = refl;
        some_room = room;
        word = omega arith;
        shut = omega arith;
        seen = λ e. omega arith;
        drained = λ e. let known = read_drained s id v kept at e in let k = known.1 in (omega arith, omega arith);
        empty = λ _ h. omega arith;
      }),
      record { first = λ h. absurd (omega arith); already = λ _. refl; told = sees n v is_shut; finds = finds; slots = refl },
    ))
    (cases_lt n shut_bit)
