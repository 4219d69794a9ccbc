-- What one more piece decides of the head's end.
use Rattle.std.proofs.Common.{◌≡◌, ℕ, ◌+◌, ◌-◌, ◌<◌, ◌≤◌, List, ◌++◌, length, take, sym, ap, ◌∙◌, arith, min, length-append}
use Rattle.std.proofs.lemmas.List.{length-take, length-take-le, take_all}
use Rattle.std.proofs.lemmas.Grind.{common_steps}
use Rattle.std.specs.Prelude.{Option, Some, None, Result, Ok, if◌then◌else◌}
use Rattle.std.specs.Result.{is_ok}
use Rattle.std.specs.Option.{option_map, option_and_then, unwrap_or}
use Rattle.gw_head.specs.declared.mark.Place.{Place}
use Rattle.gw_head.specs.declared.mark.Place.TheVariants.{Blank}
use Rattle.gw_head.specs.declared.reader.Gathered.TheVariants.{More, Whole, TooLong}
use Rattle.gw_head.specs.Mark.{head_end, head_limit}
use Rattle.gw_head.specs.Scan.{scan_end, place_after}
use Rattle.gw_head.specs.Gather.{Gathers}
use Rattle.gw_head.proofs.MarkLemmas.{scan_end-is, scan_end-append, scan_end-take, place_after-append, found_behind, head_end-behind}

-- the part of the piece that the limit leaves has m bytes
abbrev pub Leaves : ℕ → List ℕ → List ℕ → ℕ → Type 0
Leaves limit stream piece m = m ≡ min (length piece) (limit - length stream)

found_in : (limit m : ℕ) (stream piece : List ℕ) (place : Place) (found : Option ℕ) → Leaves limit stream piece m
    → length stream ≤ limit → place_after Blank stream ≡ Some place → scan_end place (take m piece) ≡ found
    → head_end (take limit (stream ++ piece)) ≡ option_map (λ n. length stream + n) found
found_in limit m stream piece place found leaves short reached end =
    head_end-behind limit stream piece place short reached
    ∙ ap (λ n. option_map (λ k. length stream + k) (scan_end place (take n piece))) (sym leaves)
    ∙ ap (option_map (λ n. length stream + n)) end

take_window : (m used : ℕ) (piece : List ℕ) → used ≤ m → take used (take m piece) ≡ take used piece
take_window m used piece within = grind (arith, common_steps)

-- the head ends where the search from the place ends
ends_behind : (stream window : List ℕ) (place : Place) (used : ℕ) → place_after Blank stream ≡ Some place
    → scan_end place window ≡ Some used → head_end (stream ++ take used window) ≡ Some (length stream + used)
ends_behind stream window place used reached end =
    sym (scan_end-is (stream ++ take used window))
    ∙ scan_end-append Blank stream (take used window)
    ∙ ap (λ o. found_behind stream (take used window) o (scan_end Blank stream)) reached
    ∙ ap (option_map (λ n. length stream + n)) (scan_end-take place window used end)

pub gathers_whole : (stream piece kept : List ℕ) (place new : Place) (m used capacity : ℕ)
    → Leaves head_limit stream piece m → place_after Blank stream ≡ Some place → length stream < head_limit
    → scan_end place (take m piece) ≡ Some used → used ≤ length (take m piece)
    → kept ≡ stream ++ take used (take m piece) → head_limit ≤ capacity
    → Gathers stream piece (Whole used) kept new capacity
gathers_whole stream piece kept place new m used capacity leaves reached short end within is room =
    let cut = length-take m piece in
    let size : length kept ≡ length stream + used =
    ap length is ∙ length-append stream (take used (take m piece))
    ∙ ap (λ n. length stream + n) (length-take-le used (take m piece) within) in (
      found_in head_limit m stream piece place (Some used) leaves (omega arith) reached end,
      omega arith,
      is ∙ ap (λ t. stream ++ t) (take_window m used piece (omega arith)),
      record {
        ended = ap head_end is ∙ ends_behind stream (take m piece) place used reached end ∙ ap Some (sym size);
        short = omega arith;
      },
      room,
    )

pub gathers_more : (stream piece kept : List ℕ) (place new : Place) (m capacity : ℕ)
    → Leaves head_limit stream piece m → place_after Blank stream ≡ Some place → length stream < head_limit
    → scan_end place (take m piece) ≡ None → place_after place (take m piece) ≡ Some new
    → kept ≡ stream ++ take (length (take m piece)) (take m piece)
    → length kept < head_limit → head_limit ≤ capacity
    → Gathers stream piece More kept new capacity
gathers_more stream piece kept place new m capacity leaves reached short end behind is less room =
    let all : kept ≡ stream ++ take m piece =
    is ∙ ap (λ t. stream ++ t) (take_all (length (take m piece)) (take m piece) (omega arith)) in
    let size : length kept ≡ length stream + length (take m piece) =
    ap length all ∙ length-append stream (take m piece) in
    let cut = length-take m piece in
    let whole : take m piece ≡ piece = take_all m piece (omega arith) in (
      found_in head_limit m stream piece place None leaves (omega arith) reached end,
      all ∙ ap (λ t. stream ++ t) whole,
      record {
        reached = ap (place_after Blank) all ∙ place_after-append Blank stream (take m piece)
            ∙ ap (λ o. option_and_then (λ next. place_after next (take m piece)) o) reached ∙ behind;
        short = less;
        room = room;
      },
    )

pub gathers_too_long : (stream piece kept : List ℕ) (place new : Place) (m capacity : ℕ)
    → Leaves head_limit stream piece m → place_after Blank stream ≡ Some place → length stream < head_limit
    → scan_end place (take m piece) ≡ None
    → kept ≡ stream ++ take (length (take m piece)) (take m piece)
    → head_limit ≤ length kept → head_limit ≤ capacity
    → Gathers stream piece TooLong kept new capacity
gathers_too_long stream piece kept place new m capacity leaves reached short end is long room =
    let all : kept ≡ stream ++ take m piece =
    is ∙ ap (λ t. stream ++ t) (take_all (length (take m piece)) (take m piece) (omega arith)) in
    let size : length kept ≡ length stream + length (take m piece) =
    ap length all ∙ length-append stream (take m piece) in
    let cut = length-take m piece in (
      found_in head_limit m stream piece place None leaves (omega arith) reached end,
      omega (arith, length-append stream piece),
      room,
    )

-- what was appended, where the call succeeded with so many bytes
pub appended : {A E : Type 0} (kept new window : List ℕ) (r : Result A E) (x : A) (used fallback n : ℕ) (end found : Option ℕ)
    → new ≡ (if is_ok r then kept ++ take used window else kept) → r ≡ Ok x
    → used ≡ unwrap_or end fallback → end ≡ found → unwrap_or found fallback ≡ n → new ≡ kept ++ take n window
appended kept new window r x used fallback n end found items ok number is same =
    items ∙ ap (λ v. if is_ok v then kept ++ take used window else kept) ok
    ∙ ap (λ m. kept ++ take m window) (number ∙ ap (λ o. unwrap_or o fallback) is ∙ same)
