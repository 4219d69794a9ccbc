-- The text of a date can stand in a field line.
use Rattle.std.proofs.Common.{◌≡◌, ℕ, zero, suc, ◌-◌, ◌+◌, ◌/◌, ◌%◌, ◌<◌, ◌≤◌, Bool, true, false, List, [], ◌∷◌, ◌++◌, length, refl, sym, ap, subst, ◌∙◌, arith, append_assoc}
use Rattle.std.specs.Prelude.{All, IsTrue, codes, slice_index_or, if◌then◌else◌}
use Rattle.std.specs.List.{list_all}
use Rattle.std.proofs.lemmas.Bool.{and_parts}
use Rattle.std.proofs.lemmas.Bool.Decides.{nat_tests}
use Rattle.std.proofs.lemmas.List.Elements.{All-nil, All-cons, All-append}
use Rattle.std.proofs.lemmas.List.Sums.{AllPass-from_list_all}
use Rattle.http_header.specs.Token.{is_value_byte}
use Rattle.http_header.specs.FieldValue.{IsFieldValue}
use Rattle.httpdate.specs.declared.parts.Parts.{Parts}
use Rattle.httpdate.specs.Calendar.{IsCivilDate, IsTimeOfDay, days_in_month}
use Rattle.httpdate.specs.Text.{day_name, month_name, two_digits, four_digits, time_of_day, imf_fixdate}
use Rattle.gw_wire.specs.Visible.{is_visible}
use Rattle.gw_proxy.specs.Date.{IsDateAt}
use Rattle.gw_proxy.proofs.ValueLemmas.{IsFit, IsMark, HasEnds, bare_by, all_value, visible_marks}

-- an element of a table, where all pass
picked : (names : List (List ℕ)) (i : ℕ) → list_all (list_all is_visible) names ≡ true
    → list_all is_visible (slice_index_or names i []) ≡ true
picked [] i all = refl
picked (name ∷ names) zero all = (and_parts _ _ all).0
picked (name ∷ names) (suc i) all = picked names i (and_parts _ _ all).1

abbrev days : List (List ℕ)
days = codes "Mon" ∷ codes "Tue" ∷ codes "Wed" ∷ codes "Thu" ∷ codes "Fri" ∷ codes "Sat" ∷ codes "Sun" ∷ []

abbrev months : List (List ℕ)
months =
    codes "Jan" ∷ codes "Feb" ∷ codes "Mar" ∷ codes "Apr" ∷ codes "May" ∷ codes "Jun"
    ∷ codes "Jul" ∷ codes "Aug" ∷ codes "Sep" ∷ codes "Oct" ∷ codes "Nov" ∷ codes "Dec" ∷ []

day_marks : (wday : ℕ) → All IsMark (day_name wday)
day_marks wday = visible_marks (day_name wday) (picked days (wday - 1) refl)

month_marks : (mon : ℕ) → All IsMark (month_name mon)
month_marks mon = visible_marks (month_name mon) (picked months (mon - 1) refl)

-- bytes of a value
record Good (text : List ℕ) : Type 0 where
  all : IsFieldValue text

digit_good : (n : ℕ) → n < 10 → IsTrue (is_value_byte (48 + n))
digit_good n small = grind (arith, nat_tests)

two_good : (n : ℕ) → n < 100 → Good (two_digits n)
two_good n small =
    let P : ℕ → Type 0 = λ b. IsTrue (is_value_byte b) in
    record {
      all = All-cons P (48 + n / 10) ((48 + n % 10) ∷ []) (digit_good (n / 10) (omega arith))
          (All-cons P (48 + n % 10) [] (digit_good (n % 10) (omega arith)) (All-nil P));
    }

literal_good : (text : List ℕ) → list_all is_value_byte text ≡ true → Good text
literal_good text all = record { all = AllPass-from_list_all is_value_byte text all }

marks_good : (text : List ℕ) → All IsMark text → Good text
marks_good text all = record { all = all_value text all }

join_good : {front back : List ℕ} → Good front → Good back → Good (front ++ back)
join_good {front} {back} f g = record { all = All-append (λ b. IsTrue (is_value_byte b)) front back f.all g.all }

few_days : (leap two short : Bool) → (if two then (if leap then 29 else 28) else (if short then 30 else 31)) ≤ 31
few_days true true short = omega arith
few_days false true short = omega arith
few_days leap false true = omega arith
few_days leap false false = omega arith

-- the numbers fit their digits
record HasDigits (p : Parts) : Type 0 where
  year : p.year < 10000
  day : p.day < 100
  hour : p.hour < 100
  min : p.min < 100
  sec : p.sec < 100

has_digits : (p : Parts) → IsCivilDate p.year p.mon p.day → IsTimeOfDay p.hour p.min p.sec → HasDigits p
has_digits p civil time =
    let days : days_in_month p.year p.mon ≤ 31 = few_days _ _ _ in
    record { year = omega arith; day = omega arith; hour = omega arith; min = omega arith; sec = omega arith }

good_year : (year : ℕ) → year < 10000 → Good (four_digits year)
good_year year small = join_good (two_good (year / 100) (omega arith)) (two_good (year % 100) (omega arith))

good_time : (p : Parts) → HasDigits p → Good (time_of_day p)
good_time p has =
    let colon = literal_good (codes ":") refl in
    join_good (join_good (join_good (join_good (two_good p.hour has.hour) colon) (two_good p.min has.min)) colon)
    (two_good p.sec has.sec)

good_day : (p : Parts) → HasDigits p → Good (day_name p.wday ++ codes ", " ++ two_digits p.day ++ codes " " ++ month_name p.mon)
good_day p has =
    join_good (join_good (join_good (join_good (marks_good (day_name p.wday) (day_marks p.wday)) (literal_good (codes ", ") refl))
    (two_good p.day has.day)) (literal_good (codes " ") refl))
    (marks_good (month_name p.mon) (month_marks p.mon))

good_date : (p : Parts) → HasDigits p → Good (imf_fixdate p)
good_date p has =
    let space = literal_good (codes " ") refl in
    join_good (join_good (join_good (join_good (join_good (good_day p has) space) (good_year p.year has.year)) space) (good_time p has))
    (literal_good (codes " GMT") refl)

-- ---- no blank at its ends

record Begins (first text : List ℕ) : Type 0 where
  rest : List ℕ
  same : text ≡ first ++ rest

begins_more : (first text more : List ℕ) → Begins first text → Begins first (text ++ more)
begins_more first text more has = record {
  rest = has.rest ++ more;
  same = ap (λ l. l ++ more) has.same ∙ append_assoc first has.rest more;
}

begins_day : (day : List ℕ) → Begins (day ++ codes ",") (day ++ codes ", ")
begins_day day = record { rest = codes " "; same = sym (append_assoc day (codes ",") (codes " ")) }

date_begins : (p : Parts) → Begins (day_name p.wday ++ codes ",") (imf_fixdate p)
date_begins p =
    let m = λ (text more : List ℕ) (has : Begins (day_name p.wday ++ codes ",") text). begins_more _ text more has in
    m _ _ (m _ _ (m _ _ (m _ _ (m _ _ (m _ _ (m _ _ (m _ _ (begins_day (day_name p.wday)))))))))

date_front : Parts → List ℕ
date_front p =
    day_name p.wday ++ codes ", " ++ two_digits p.day ++ codes " " ++ month_name p.mon ++ codes " "
    ++ four_digits p.year ++ codes " " ++ time_of_day p ++ codes " "

some_more : (day : List ℕ) → 0 < length (day ++ codes ",")
some_more [] = omega arith
some_more (b ∷ day) = omega arith

date_ends : (p : Parts) → HasEnds (imf_fixdate p)
unfolding date_front
date_ends p =
    let has = date_begins p in
    record {
      first = day_name p.wday ++ codes ",";
      behind = has.rest;
      begins = has.same;
      some = some_more (day_name p.wday);
      marks = All-append IsMark (day_name p.wday) (codes ",") (day_marks p.wday) (visible_marks (codes ",") refl);
      before = date_front p;
      last = codes "GMT";
      ends = sym (append_assoc _ (codes " ") (codes "GMT"));
      any = omega arith;
      stops = visible_marks (codes "GMT") refl;
    }

pub date_fits : (moment : ℕ) (text : List ℕ) → IsDateAt moment text → IsFit text
date_fits moment text is =
    let p = is.0.parts in
    subst IsFit (sym is.2) (record {
      good = (good_date p (has_digits p is.0.civil is.0.time)).all;
      bare = bare_by (imf_fixdate p) (date_ends p);
    })
