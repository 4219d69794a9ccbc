-- The search by bytes finds the end of the head, whatever the pieces.
use Rattle.std.proofs.Common.{◌≡◌, ℕ, suc, ◌+◌, ◌-◌, ◌≤◌, List, [], ◌∷◌, ◌++◌, length, take, refl, sym, ap, ◌∙◌, subst, arith, Bool, true, false, ◌&&◌, min}
use Rattle.std.proofs.Math.Seq.{take-append-add}
use Rattle.std.proofs.lemmas.Grind.{common_steps}
use Rattle.std.specs.Prelude.{Option, Some, None, ◌==◌, if◌then◌else◌}
use Rattle.std.specs.Option.{option_map, option_or, option_and_then}
use Rattle.httparse.specs.Pieces.{is_newline}
use Rattle.gw_head.specs.declared.mark.Place.{Place}
use Rattle.gw_head.specs.declared.mark.Place.TheVariants.{Blank, Inside, LineFeed, Return}
use Rattle.gw_head.specs.Mark.{head_end, lines_end, empty_line, starts_with_line_feed}
use Rattle.gw_head.specs.Scan.{place_after_byte, count_on, scan_end, place_after}

-- what the three places behind the first byte find
record Finds (bytes : List ℕ) : Type 0 where
  inside : scan_end Inside bytes ≡ lines_end bytes
  line_feed : scan_end LineFeed bytes ≡ option_or (empty_line bytes) (lines_end bytes)
  return : scan_end Return bytes
      ≡ option_or (if starts_with_line_feed bytes then Some 1 else None) (lines_end bytes)

inside_step : (v : Bool) (bytes : List ℕ) → Finds bytes
    → count_on (if v then Some LineFeed else Some Inside) (λ next. scan_end next bytes)
    ≡ option_map suc (option_or (if v then empty_line bytes else None) (lines_end bytes))
inside_step true bytes found = ap (option_map suc) found.line_feed
inside_step false bytes found = ap (option_map suc) found.inside

after_return : (v : Bool) (end : Option ℕ)
    → option_map suc (option_or (if v then Some 1 else None) end)
    ≡ option_or (if v then Some 2 else None) (option_map suc end)
after_return true end = refl
after_return false end = refl

line_feed_step : (v w : Bool) (bytes : List ℕ) → Finds bytes
    → count_on (if v then None else (if w then Some Return else Some Inside)) (λ next. scan_end next bytes)
    ≡ option_or (if v then Some 1 else (if w && starts_with_line_feed bytes then Some 2 else None))
    (option_map suc (option_or (if v then empty_line bytes else None) (lines_end bytes)))
line_feed_step true w bytes found = refl
line_feed_step false true bytes found =
    ap (option_map suc) found.return ∙ after_return (starts_with_line_feed bytes) (lines_end bytes)
line_feed_step false false bytes found = ap (option_map suc) found.inside

return_step : (v : Bool) (bytes : List ℕ) → Finds bytes
    → count_on (if v then None else Some Inside) (λ next. scan_end next bytes)
    ≡ option_or (if v then Some 1 else None)
    (option_map suc (option_or (if v then empty_line bytes else None) (lines_end bytes)))
return_step true bytes found = refl
return_step false bytes found = ap (option_map suc) found.inside

finds : (bytes : List ℕ) → Finds bytes
finds [] = record { inside = refl; line_feed = refl; return = refl }
finds (b ∷ bytes) =
    let found = finds bytes in
    record {
      inside = inside_step (b == 10) bytes found;
      line_feed = line_feed_step (b == 10) (b == 13) bytes found;
      return = return_step (b == 10) bytes found;
    }

blank_step : (v : Bool) (bytes : List ℕ) → scan_end Blank bytes ≡ head_end bytes
    → count_on (if v then Some Blank else Some Inside) (λ next. scan_end next bytes)
    ≡ option_map suc (if v then head_end bytes else lines_end bytes)
blank_step true bytes same = ap (option_map suc) same
blank_step false bytes same = ap (option_map suc) (finds bytes).inside

-- the search from the start finds the end
pub scan_end-is : (bytes : List ℕ) → scan_end Blank bytes ≡ head_end bytes
scan_end-is [] = refl
scan_end-is (b ∷ bytes) = blank_step (is_newline b) bytes (scan_end-is bytes)

-- ---- in pieces

-- what is found behind a front, from the place that the front leaves
abbrev pub found_behind : List ℕ → List ℕ → Option Place → Option ℕ → Option ℕ
found_behind front bytes None found = found
found_behind front bytes (Some place) found = option_map (λ n. length front + n) (scan_end place bytes)

count_more : (front bytes : List ℕ) (o : Option Place)
    → ((place : Place) → scan_end place (front ++ bytes)
    ≡ found_behind front bytes (place_after place front) (scan_end place front))
    → (b : ℕ)
    → count_on o (λ next. scan_end next (front ++ bytes))
    ≡ found_behind (b ∷ front) bytes (option_and_then (λ next. place_after next front) o)
    (count_on o (λ next. scan_end next front))
count_more front bytes None same b = refl
count_more front bytes (Some place) same b =
    ap (option_map suc) (same place) ∙ one_more (place_after place front) (scan_end place front)
  where
    one_more : (o : Option Place) (found : Option ℕ) → option_map suc (found_behind front bytes o found)
        ≡ found_behind (b ∷ front) bytes o (option_map suc found)
    one_more None found = refl
    one_more (Some next) found = map_twice (scan_end next bytes)
      where
        map_twice : (o : Option ℕ) → option_map suc (option_map (λ n. length front + n) o)
            ≡ option_map (λ n. length (b ∷ front) + n) o
        map_twice None = refl
        map_twice (Some n) = ap Some (omega arith)

pub scan_end-append : (place : Place) (front bytes : List ℕ)
    → scan_end place (front ++ bytes)
    ≡ found_behind front bytes (place_after place front) (scan_end place front)
scan_end-append place [] bytes = from_zero (scan_end place bytes)
  where
    from_zero : (o : Option ℕ) → o ≡ option_map (λ n. 0 + n) o
    from_zero None = refl
    from_zero (Some n) = ap Some (omega arith)
scan_end-append place (b ∷ front) bytes =
    count_more front bytes (place_after_byte place b) (λ p. scan_end-append p front bytes) b

place_more : (o : Option Place) (front bytes : List ℕ)
    → ((place : Place) → place_after place (front ++ bytes)
    ≡ option_and_then (λ next. place_after next bytes) (place_after place front))
    → option_and_then (λ next. place_after next (front ++ bytes)) o
    ≡ option_and_then (λ next. place_after next bytes) (option_and_then (λ next. place_after next front) o)
place_more None front bytes same = refl
place_more (Some place) front bytes same = same place

pub place_after-append : (place : Place) (front bytes : List ℕ)
    → place_after place (front ++ bytes)
    ≡ option_and_then (λ next. place_after next bytes) (place_after place front)
place_after-append place [] bytes = refl
place_after-append place (b ∷ front) bytes =
    place_more (place_after_byte place b) front bytes (λ p. place_after-append p front bytes)

-- the bytes behind the end change nothing, and are not needed
count_take : (o : Option Place) (bytes : List ℕ) (n : ℕ)
    → ((place : Place) (m : ℕ) → scan_end place bytes ≡ Some m → scan_end place (take m bytes) ≡ Some m)
    → count_on o (λ next. scan_end next bytes) ≡ Some n
    → (m : ℕ) × (n ≡ suc m) × (count_on o (λ next. scan_end next (take m bytes)) ≡ Some (suc m))
count_take None bytes n same e = (0, cc, refl)
count_take (Some place) bytes n same e = found (scan_end place bytes) refl e
  where
    found : (r : Option ℕ) → scan_end place bytes ≡ r → option_map suc r ≡ Some n
        → (m : ℕ) × (n ≡ suc m) × (option_map suc (scan_end place (take m bytes)) ≡ Some (suc m))
    found None is e = absurd (cc)
    found (Some m) is e = (m, cc, ap (option_map suc) (same place m is))

pub scan_end-take : (place : Place) (bytes : List ℕ) (n : ℕ) → scan_end place bytes ≡ Some n
    → scan_end place (take n bytes) ≡ Some n
scan_end-take place [] n e = absurd (cc)
scan_end-take place (b ∷ bytes) n e =
    let shorter = count_take (place_after_byte place b) bytes n (λ p m. scan_end-take p bytes m) e in
    let P : ℕ → Type 0 = λ v. scan_end place (take v (b ∷ bytes)) ≡ Some v in
    subst P (sym shorter.1) shorter.2

count_stays : (o : Option Place) (front more : List ℕ) (n : ℕ)
    → ((place : Place) (m : ℕ) → scan_end place front ≡ Some m → scan_end place (front ++ more) ≡ Some m)
    → count_on o (λ next. scan_end next front) ≡ Some n
    → count_on o (λ next. scan_end next (front ++ more)) ≡ Some n
count_stays None front more n same e = e
count_stays (Some place) front more n same e = found (scan_end place front) refl e
  where
    found : (r : Option ℕ) → scan_end place front ≡ r → option_map suc r ≡ Some n
        → option_map suc (scan_end place (front ++ more)) ≡ Some n
    found None is e = absurd (cc)
    found (Some m) is e = ap (option_map suc) (same place m is) ∙ e

scan_end_stays : (place : Place) (front more : List ℕ) (n : ℕ) → scan_end place front ≡ Some n
    → scan_end place (front ++ more) ≡ Some n
scan_end_stays place [] more n e = absurd (cc)
scan_end_stays place (b ∷ front) more n e =
    count_stays (place_after_byte place b) front more n (λ p m. scan_end_stays p front more m) e

-- the end depends on the front alone
pub head_end-append : (front more : List ℕ) (n : ℕ) → head_end front ≡ Some n → head_end (front ++ more) ≡ Some n
head_end-append front more n e =
    sym (scan_end-is (front ++ more)) ∙ scan_end_stays Blank front more n (scan_end-is front ∙ e)

-- ---- one more piece, within a limit

pub take-pieces : (limit : ℕ) (stream piece : List ℕ) → length stream ≤ limit
    → take limit (stream ++ piece) ≡ stream ++ take (limit - length stream) piece
take-pieces limit stream piece short =
    let sum : length stream + (limit - length stream) ≡ limit = omega arith in
    let P : ℕ → Type 0 = λ n. take n (stream ++ piece) ≡ stream ++ take (limit - length stream) piece in
    subst P sum (take-append-add stream piece (limit - length stream))

pub take-least : (n : ℕ) (piece : List ℕ) → take n piece ≡ take (min (length piece) n) piece
take-least n piece = grind (arith, common_steps)

pub head_end-behind : (limit : ℕ) (stream piece : List ℕ) (place : Place) → length stream ≤ limit
    → place_after Blank stream ≡ Some place
    → head_end (take limit (stream ++ piece))
    ≡ option_map (λ n. length stream + n) (scan_end place (take (min (length piece) (limit - length stream)) piece))
head_end-behind limit stream piece place short reached =
    let window = take (limit - length stream) piece in
    ap head_end (take-pieces limit stream piece short)
    ∙ sym (scan_end-is (stream ++ window))
    ∙ scan_end-append Blank stream window
    ∙ ap (λ o. found_behind stream window o (scan_end Blank stream)) reached
    ∙ ap (λ w. option_map (λ n. length stream + n) (scan_end place w)) (take-least (limit - length stream) piece)
