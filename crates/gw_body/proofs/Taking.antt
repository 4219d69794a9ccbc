-- What each branch of a call of the reader answers.
use Rattle.std.proofs.Common.{◌≡◌, ℕ, zero, suc, ◌+◌, ◌-◌, ◌<◌, ◌≤◌, List, [], ◌∷◌, ◌++◌, length, take, drop, refl, sym, ap, ◌∙◌, subst, arith, Bool, true, min, ⊎_elim}
use Rattle.std.proofs.lemmas.List.{append-nil, append_assoc, append_cancel_left, length-take, length-drop, length-append, nil_from_length, same_lists, places}
use Rattle.std.proofs.lemmas.Bool.{ne_eqb, eqb-true}
use Rattle.std.proofs.lemmas.Grind.{common_steps}
use Rattle.std.specs.Prelude.{◌⊎◌, ◌==◌, if◌then◌else◌, slice_range}
use Rattle.gw_chunk.specs.declared.error.ChunkError.{ChunkError}
use Rattle.gw_chunk.specs.declared.decoder.ChunkFed.{ChunkFed}
use Rattle.gw_chunk.specs.declared.decoder.ChunkStep.{ChunkStep}
use Rattle.gw_chunk.specs.declared.decoder.ChunkStep.TheVariants.{Data, More, Done, Bad}
use Rattle.gw_chunk.specs.declared.position.Position.{Position}
use Rattle.gw_chunk.specs.declared.position.Position.TheVariants.{Line, Content, Closing, Fields, Ended, Refused as Faulty}
use Rattle.gw_chunk.specs.Fed as Chunks
use Rattle.gw_chunk.specs.Position.{left_of, after, given, is_undecided, IsInside, Leads, Has}
use Rattle.gw_chunk.proofs.Facts.{after-ended, ended_alone, fronts, given-append, inside_back, leads_back, leads_data}
use Rattle.gw_body.specs.declared.place.Place.{Place}
use Rattle.gw_body.specs.declared.place.Place.TheVariants.{Counted, Chunked, ToEnd, Refused}
use Rattle.gw_body.specs.Places.{HasBody, FailsBody, data_among, left_behind}
use Rattle.gw_body.specs.Taken.{Takes, GivesData, Steps, Feeds, front_step}

-- ---- bytes taken

pub takes_none : (p : Place) → Takes p [] [] p
takes_none p = record {
  has = λ more e rest. (λ k. k, λ k. k);
  fails = λ more error. (λ k. k, λ k. k);
  among = λ more. refl;
}

-- first some bytes, and then others
pub takes_then : (old mid new : Place) (a b d e : List ℕ) → Takes old a d mid → Takes mid b e new → Takes old (a ++ b) (d ++ e) new
takes_then old mid new a b d e h g = record {
  has = λ more f rest.
      (let B : List ℕ → Type 0 = λ l. HasBody old l (d ++ (e ++ f)) rest in
      let D : List ℕ → Type 0 = λ l. HasBody old ((a ++ b) ++ more) l rest in (
        λ k. subst D (sym (append_assoc d e f)) (subst B (sym (append_assoc a b more))
            ((h.has (b ++ more) (e ++ f) rest).0 ((g.has more f rest).0 k))),
        λ k. (g.has more f rest).1 ((h.has (b ++ more) (e ++ f) rest).1
            (subst B (append_assoc a b more) (subst D (append_assoc d e f) k))),
      ));
  fails = λ more error.
      (let B : List ℕ → Type 0 = λ l. FailsBody old l error in (
        λ k. subst B (sym (append_assoc a b more)) ((h.fails (b ++ more) error).0 ((g.fails more error).0 k)),
        λ k. (g.fails more error).1 ((h.fails (b ++ more) error).1 (subst B (append_assoc a b more) k)),
      ));
  among = λ more.
      ap (data_among old) (append_assoc a b more) ∙ h.among (b ++ more) ∙ ap (λ l. d ++ l) (g.among more)
      ∙ sym (append_assoc d e (data_among new more));
}

takes_and : (old mid new : Place) (bytes d : List ℕ) → Takes old bytes d mid → Takes mid [] [] new → Takes old bytes d new
takes_and old mid new bytes d h g = record {
  has = λ more e rest. (
    λ k. (h.has more e rest).0 ((g.has more e rest).0 k),
    λ k. (g.has more e rest).1 ((h.has more e rest).1 k),
  );
  fails = λ more error. (
    λ k. (h.fails more error).0 ((g.fails more error).0 k),
    λ k. (g.fails more error).1 ((h.fails more error).1 k),
  );
  among = λ more. h.among more ∙ ap (λ l. d ++ l) (g.among more);
}

-- as many bytes as are left, and what was taken of them
take_behind : (left : ℕ) (bytes more : List ℕ) → length bytes ≤ left → take left (bytes ++ more) ≡ bytes ++ take (left - length bytes) more
take_behind left bytes more short =
    same_lists (take left (bytes ++ more)) (bytes ++ take (left - length bytes) more) (grind (arith, common_steps))
    (λ k d h. grind (arith, places))

counted_takes : (left : ℕ) (bytes : List ℕ) → length bytes ≤ left → Takes (Counted left) bytes bytes (Counted (left - length bytes))
counted_takes left bytes short = record {
  has = λ more e rest. (
    λ k. (let text = k.0 in let size = k.1 in let both = length-append bytes e in
        (ap (λ l. bytes ++ l) text ∙ sym (append_assoc bytes e rest), omega arith)),
    λ k. (let text = k.0 in let size = k.1 in let both = length-append bytes e in
        (append_cancel_left bytes more (e ++ rest) (text ∙ append_assoc bytes e rest), omega arith)),
  );
  fails = λ more error. (λ k. k, λ k. k);
  among = λ more. take_behind left bytes more short;
}

to_end_takes : (left : ℕ) (bytes : List ℕ) → length bytes ≤ left → Takes (ToEnd left) bytes bytes (ToEnd (left - length bytes))
to_end_takes left bytes short = record {
  has = λ more e rest. (
    λ k. (let size = k.2 in let both = length-append bytes e in
        (ap (λ l. bytes ++ l) k.0, k.1, omega arith)),
    λ k. (let size = k.2 in let both = length-append bytes e in
        (append_cancel_left bytes more e k.0, k.1, omega arith)),
  );
  fails = λ more error. (
    λ k. (let size = k.1 in let both = length-append bytes more in (k.0, omega arith)),
    λ k. (let size = k.1 in let both = length-append bytes more in (k.0, omega arith)),
  );
  among = λ more. take_behind left bytes more short;
}

-- ---- of a chunked text

-- a text that ends within bytes that don't go on behind its end ends with them
back : (p q : Position) (bytes d more e rest text m : List ℕ) → Chunks.Takes p bytes d q → Has p text (d ++ e)
    → bytes ≡ text ++ m → rest ≡ m ++ more → HasBody (Chunked q) more e rest
back p q bytes d more e rest text [] h has front behind =
    let P : List ℕ → Type 0 = λ l. Has p l (d ++ e) in
    let same : text ≡ bytes ++ [] = sym (append-nil text) ∙ sym front ∙ sym (append-nil bytes) in
    ([], sym behind, (h.has [] e).1 (subst P same has))
back p q bytes d more e rest text (x ∷ m) h has front behind =
    let I : List ℕ → Type 0 = λ l. IsInside p l in
    let J : Position → Type 0 = λ s. IsInside s (x ∷ m) in
    let inside = subst J has.place (inside_back p text (x ∷ m) (subst I front h.leads.inside)) in
    absurd (cc inside.0)

chunked_takes : (p q : Position) (bytes d : List ℕ) → Chunks.Takes p bytes d q → Takes (Chunked p) bytes d (Chunked q)
chunked_takes p q bytes d h = record {
  has = λ more e rest. (
    λ k. (bytes ++ k.0, ap (λ l. bytes ++ l) k.1 ∙ sym (append_assoc bytes k.0 rest), (h.has k.0 e).0 k.2),
    λ k.
        (let P : List ℕ → Type 0 = λ l. Has p l (d ++ e) in
        ⊎_elim
        (λ w. back p q bytes d more e rest k.0 w.0 h k.2 w.1 w.2)
        (λ w. (w.0, w.2, (h.has w.0 e).1 (subst P w.1 k.2)))
        (fronts bytes more k.0 rest k.1)),
  );
  fails = λ more error. h.fails more error;
  among = λ more.
      given-append p bytes more ∙ ap (λ l. l ++ given (after p bytes) more) h.leads.out ∙ ap (λ r. d ++ given r more) h.leads.place;
}

pub given_ended : (bytes : List ℕ) → given Ended bytes ≡ []
given_ended [] = refl
given_ended (b ∷ bytes) = given_ended bytes

take_nothing : (bytes : List ℕ) → take 0 bytes ≡ []
take_nothing bytes = nil_from_length (take 0 bytes) (omega (arith, length-take 0 bytes))

-- behind a text is the end
ended_takes : Takes (Chunked Ended) [] [] (Counted 0)
ended_takes = record {
  has = λ more e rest. (
    λ k. (let none : e ≡ [] = nil_from_length e k.1 in
        ([], k.0 ∙ ap (λ l. l ++ rest) none, record { place = refl; out = sym none; inside = tt })),
    λ k. (let alone = ended_alone k.0 e Ended k.2 in
        (k.1 ∙ ap (λ l. l ++ rest) (alone.0 ∙ sym alone.1), ap length alone.1)),
  );
  fails = λ more error. (λ k. absurd k, λ k. (let ended = after-ended more in absurd (cc)));
  among = λ more. given_ended more ∙ sym (take_nothing more);
}

-- ---- steps in a chunked text

-- data, or nothing yet
abbrev pub GoesOn : ChunkStep → Type 0
GoesOn step = ((i : ℕ) × (to : ℕ) × (step ≡ Data i to)) ⊎ (step ≡ More)

not_done : (step : ChunkStep) → GoesOn step → step ≡ Done → ⊥
not_done step going is =
    ⊎_elim (λ w. (let as_data = w.2 in absurd (cc))) (λ more. absurd (cc)) going

not_bad : (step : ChunkStep) → GoesOn step → (error : ChunkError) → step ≡ Bad error → ⊥
not_bad step going error is =
    ⊎_elim (λ w. (let as_data = w.2 in absurd (cc))) (λ more. absurd (cc)) going

done_by : (p q : Position) (piece : List ℕ) (used : ℕ) (step : ChunkStep) → Chunks.Steps p piece used step q → step ≡ Done
    → Steps (Chunked p) piece used step (Counted 0)
done_by p q piece used (Data i to) h is = absurd (cc)
done_by p q piece used More h is = absurd (cc)
done_by p q piece used Done h is = record {
  within = h.within;
  takes =
      let T : Position → Type 0 = λ s. Takes (Chunked p) (take used piece) [] (Chunked s) in
      takes_and (Chunked p) (Chunked Ended) (Counted 0) (take used piece) []
      (subst T h.ended (chunked_takes p q (take used piece) [] h.takes)) ended_takes;
  at_end = refl;
}
done_by p q piece used (Bad error) h is = absurd (cc)

pub bad_by : (p q : Position) (piece : List ℕ) (used : ℕ) (step : ChunkStep) (error : ChunkError) → Chunks.Steps p piece used step q
    → step ≡ Bad error → Steps (Chunked p) piece used step (Refused error)
bad_by p q piece used (Data i to) error h is = absurd (cc)
bad_by p q piece used More error h is = absurd (cc)
bad_by p q piece used Done error h is = absurd (cc)
bad_by p q piece used (Bad other) error h is =
    let same : other ≡ error = cc in
    record { used_none = h.used_none; no_data = h.no_data; fails = h.fails; refused = ap Refused (sym same) }

gives_by : (p q : Position) (piece : List ℕ) (used i to : ℕ) → Chunks.GivesData p piece used i to q
    → GivesData (Chunked p) piece used i to (Chunked q)
gives_by p q piece used i to h = record {
  some = h.some;
  within = h.within;
  used_up_to = h.used_up_to;
  takes = chunked_takes p q (take used piece) (slice_range piece i to) h.takes;
  none_before = h.first_data.out;
  longest = h.longest ∙ ap (λ s. min (i + left_of s) (length piece)) (sym h.first_data.place);
}

-- the text goes on
on_by : (p q : Position) (piece : List ℕ) (used : ℕ) (step : ChunkStep) → Chunks.Steps p piece used step q → GoesOn step
    → Steps (Chunked p) piece used step (Chunked q)
on_by p q piece used (Data i to) h going = gives_by p q piece used i to h
on_by p q piece used More h going = record { used_all = h.used_all; takes = chunked_takes p q piece [] h.takes }
on_by p q piece used Done h going = absurd (not_done Done going refl)
on_by p q piece used (Bad error) h going = absurd (not_bad (Bad error) going error refl)

front_and_data : (piece : List ℕ) (i to : ℕ) → i ≤ to → to ≤ length piece → take i piece ++ slice_range piece i to ≡ take to piece
front_and_data piece i to low high =
    same_lists (take i piece ++ slice_range piece i to) (take to piece) (grind (arith, common_steps))
    (λ k d h. grind (arith, places))

open_behind : (begins q : Position) (d : List ℕ) (n : ℕ) → Leads begins d d q → 0 < n → n ≤ left_of begins → length d ≡ n → is_undecided q ≡ true
open_behind (Line form read size sum) q d n h some room is = absurd (omega arith)
open_behind (Content left sum) q d n h some room is =
    let place = (leads_data d left sum (omega arith)).place in
    ap is_undecided (sym h.place ∙ place)
open_behind (Closing good sum) q d n h some room is = absurd (omega arith)
open_behind (Fields form read) q d n h some room is = absurd (omega arith)
open_behind Ended q d n h some room is = absurd (omega arith)
open_behind (Faulty error) q d n h some room is = absurd (omega arith)

-- behind data a text goes on
data_open : (p q : Position) (piece : List ℕ) (used i to : ℕ) → Chunks.GivesData p piece used i to q → is_undecided q ≡ true
data_open p q piece used i to h =
    let some = h.some in
    let within = h.within in
    let longest = h.longest in
    let d_length : length (slice_range piece i to) ≡ to - i =
    grind (arith, common_steps, length-take (to - i) (drop i piece), length-drop i piece) in
    let L : List ℕ → Type 0 = λ l. Leads p l (slice_range piece i to) q in
    let same : take used piece ≡ take i piece ++ slice_range piece i to =
    ap (λ n. take n piece) h.used_up_to ∙ sym (front_and_data piece i to (omega arith) (omega arith)) in
    open_behind h.begins q (slice_range piece i to) (to - i)
    (leads_back p h.begins q (take i piece) (slice_range piece i to) [] (slice_range piece i to) h.first_data
    (subst L same h.takes.leads))
    (omega arith) (omega arith) d_length

open_by : (p q : Position) (piece : List ℕ) (used : ℕ) (step : ChunkStep) → Chunks.Steps p piece used step q → GoesOn step
    → is_undecided q ≡ true
open_by p q piece used (Data i to) h going = data_open p q piece used i to h
open_by p q piece used More h going = h.undecided
open_by p q piece used Done h going = absurd (not_done Done going refl)
open_by p q piece used (Bad error) h going = absurd (not_bad (Bad error) going error refl)

-- ---- steps where so many bytes are left

slice_front : (piece : List ℕ) (n : ℕ) → slice_range piece 0 n ≡ take n piece
slice_front piece n = let same : n - 0 ≡ n = omega arith in ap (λ k. take k piece) same

take_none : (n : ℕ) → take {A = ℕ} n [] ≡ []
take_none zero = refl
take_none (suc n) = refl

some_step : (used : ℕ) → 0 < used → front_step used ≡ Data 0 used
some_step used some = ap (λ v. if v then More else Data 0 used) (ne_eqb used 0 (omega arith))

front_gives :
    (At : ℕ → Place) → ((left : ℕ) (bytes : List ℕ) → length bytes ≤ left → Takes (At left) bytes bytes (At (left - length bytes)))
    → (left new used : ℕ) (piece : List ℕ) → data_among (At left) [] ≡ [] → left_behind (At left) [] ≡ left
    → 0 < used → used ≡ min left (length piece) → new ≡ left - used → GivesData (At left) piece used 0 used (At new)
front_gives At taken left new used piece none room some most less =
    let size = length-take used piece in
    let T : List ℕ → Type 0 = λ d. Takes (At left) (take used piece) d (At new) in
    let N : ℕ → Type 0 = λ n. Takes (At left) (take used piece) (take used piece) (At n) in
    let rest : left - length (take used piece) ≡ new = omega arith in
    record {
      some = some;
      within = omega arith;
      used_up_to = refl;
      takes = subst T (sym (slice_front piece used)) (subst N rest (taken left (take used piece) (omega arith)));
      none_before = none;
      longest = omega arith;
    }

front_steps :
    (At : ℕ → Place) → ((left : ℕ) (bytes : List ℕ) → length bytes ≤ left → Takes (At left) bytes bytes (At (left - length bytes)))
    → (left new used : ℕ) (piece : List ℕ) (step : ChunkStep) → data_among (At left) [] ≡ [] → left_behind (At left) [] ≡ left
    → (left ≡ 0 → piece ≡ []) → used ≡ min left (length piece) → new ≡ left - used → step ≡ front_step used
    → Steps (At left) piece used step (At new)
front_steps At taken left new used [] step none room empty most less is =
    let none_used : used ≡ 0 = omega arith in
    let same : left ≡ new = omega arith in
    let N : ℕ → Type 0 = λ n. Takes (At left) [] [] (At n) in
    let S : ChunkStep → Type 0 = λ s. Steps (At left) [] used s (At new) in
    subst S (sym (is ∙ ap front_step none_used)) (record { used_all = none_used; takes = subst N same (takes_none (At left)) })
front_steps At taken left new used (b ∷ piece) step none room empty most less is =
    let some : left ≡ 0 → ⊥ = λ gone. (let none = empty gone in cc) in
    let left_some : 0 < left = omega (arith, some) in
    let S : ChunkStep → Type 0 = λ s. Steps (At left) (b ∷ piece) used s (At new) in
    subst S (sym (is ∙ some_step used (omega arith)))
    (front_gives At taken left new used (b ∷ piece) none room (omega arith) most less)

pub counted_steps : (old : Place) (left new : ℕ) (piece : List ℕ) (fed : ChunkFed) → old ≡ Counted left → (left ≡ 0 → ⊥)
    → fed.used ≡ min left (length piece) → new ≡ left - fed.used → fed.step ≡ front_step fed.used → Feeds old piece fed (Counted new)
counted_steps old left new piece fed at some most less is =
    let F : Place → Type 0 = λ p. Feeds p piece fed (Counted new) in
    subst F (sym at)
    (front_steps Counted counted_takes left new fed.used piece fed.step (take_none left) (omega arith) (λ gone. absurd (some gone)) most less is)

pub to_end_steps : (old : Place) (left new : ℕ) (piece : List ℕ) (fed : ChunkFed) → old ≡ ToEnd left → (left ≡ 0 → piece ≡ [])
    → fed.used ≡ min left (length piece) → new ≡ left - fed.used → fed.step ≡ front_step fed.used → Feeds old piece fed (ToEnd new)
to_end_steps old left new piece fed at empty most less is =
    let F : Place → Type 0 = λ p. Feeds p piece fed (ToEnd new) in
    subst F (sym at)
    (front_steps ToEnd to_end_takes left new fed.used piece fed.step (take_none left) (omega arith) empty most less is)

-- ---- the same of a chunked text

pub chunked_done : (old : Place) (p q : Position) (piece : List ℕ) (fed : ChunkFed) → old ≡ Chunked p → Chunks.Feeds p piece fed q
    → fed.step ≡ Done → Feeds old piece fed (Counted 0)
chunked_done old p q piece fed at h is =
    let F : Place → Type 0 = λ s. Feeds s piece fed (Counted 0) in
    subst F (sym at) (done_by p q piece fed.used fed.step h is)

pub chunked_on : (old : Place) (p q : Position) (piece : List ℕ) (fed : ChunkFed) → old ≡ Chunked p → Chunks.Feeds p piece fed q
    → GoesOn fed.step → Feeds old piece fed (Chunked q)
chunked_on old p q piece fed at h going =
    let F : Place → Type 0 = λ s. Feeds s piece fed (Chunked q) in
    subst F (sym at) (on_by p q piece fed.used fed.step h going)

pub chunked_open : (p q : Position) (piece : List ℕ) (fed : ChunkFed) → Chunks.Feeds p piece fed q
    → GoesOn fed.step → is_undecided q ≡ true
chunked_open p q piece fed h going = open_by p q piece fed.used fed.step h going

pub empty_by : (piece : List ℕ) (is_empty : Bool) → is_empty ≡ (length piece == 0) → is_empty ≡ true → piece ≡ []
empty_by piece is_empty same empty = nil_from_length piece (eqb-true (length piece) 0 (sym same ∙ empty))
