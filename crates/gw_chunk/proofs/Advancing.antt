-- What the loop over a piece answers at each way out.
use Rattle.std.proofs.Common.{◌≡◌, ℕ, ◌+◌, ◌-◌, ◌<◌, ◌≤◌, List, [], ◌∷◌, ◌++◌, length, take, drop, get_or, refl, sym, ap, ◌∙◌, subst, arith, true, false, min}
use Rattle.std.proofs.lemmas.List.{take_more, take-append-drop, length-take, length-drop, length-append, nil_from_length, take_all, same_lists, places}
use Rattle.std.proofs.lemmas.Bool.{eq-eqb}
use Rattle.std.proofs.lemmas.Grind.{common_steps}
use Rattle.std.specs.Prelude.{◌↔◌, if◌then◌else◌, slice_range}
use Rattle.gw_chunk.specs.declared.error.ChunkError.{ChunkError}
use Rattle.gw_chunk.specs.declared.decoder.ChunkFed.{ChunkFed}
use Rattle.gw_chunk.specs.declared.decoder.ChunkStep.{ChunkStep}
use Rattle.gw_chunk.specs.declared.decoder.ChunkStep.TheVariants.{Data, More, Done, Bad}
use Rattle.gw_chunk.specs.declared.position.Position.{Position}
use Rattle.gw_chunk.specs.declared.position.Position.TheVariants.{Line, Content, Closing, Fields, Ended, Refused}
use Rattle.gw_chunk.specs.Fed.{GivesData, WantsMore, Ends, Refuses, DecidesNothing, Steps, Feeds, Stays}
use Rattle.gw_chunk.specs.Position.{after_byte, left_of, skipped, is_ended, is_undecided, after, given, Leads}
use Rattle.gw_chunk.proofs.Walks.{after-append, given-append, leads_none, leads_then, leads_one, takes, after-refused, given-refused, after-ended, ended_alone, leads_data}

-- the loop's invariant: the bytes so far have no data and decide nothing
pub record Reached (old : Position) (piece : List ℕ) (i : ℕ) (at : Position) : Type 0 where
  pub leads : Leads old (take i piece) [] at
  pub undecided : is_undecided at ≡ true

pub reached_none : (old : Position) (piece : List ℕ) → is_undecided old ≡ true → Reached old piece 0 old
reached_none old piece going = record { leads = leads_none old; undecided = going }

pub not_ended : (p : Position) → is_undecided p ≡ true → is_ended p ≡ false
not_ended (Line form read size sum) h = refl
not_ended (Content left sum) h = refl
not_ended (Closing good sum) h = refl
not_ended (Fields form read) h = refl
not_ended Ended h = absurd (cc)
not_ended (Refused error) h = refl

pub goes_on : (p : Position) → (p ≡ Ended → ⊥) → ((error : ChunkError) → p ≡ Refused error → ⊥) → is_undecided p ≡ true
goes_on (Line form read size sum) h k = refl
goes_on (Content left sum) h k = refl
goes_on (Closing good sum) h k = refl
goes_on (Fields form read) h k = refl
goes_on Ended h k = absurd (h refl)
goes_on (Refused error) h k = absurd (k error refl)

-- one byte more
pub leads_more : (old at : Position) (piece : List ℕ) (i b : ℕ) → Reached old piece i at → i < length piece
    → b ≡ get_or piece i 0 → left_of at ≡ 0 → Leads old (take (i + 1) piece) [] (after_byte at b)
leads_more old at piece i b reached short is none =
    let L : List ℕ → Type 0 = λ bytes. Leads old bytes [] (after_byte at b) in
    subst L (ap (λ x. take i piece ++ x ∷ []) is ∙ sym (take_more piece i 0 short))
    (leads_then old at (after_byte at b) (take i piece) (b ∷ []) [] [] reached.leads
    (leads_one at (after_byte at b) b [] (not_ended at reached.undecided) refl
    (ap (λ v. if v then [] else b ∷ []) (eq-eqb (left_of at) 0 none))))

pub ends_at : (old at new : Position) (piece : List ℕ) (i b : ℕ) → Reached old piece i at → i < length piece
    → b ≡ get_or piece i 0 → left_of at ≡ 0 → after_byte at b ≡ new → new ≡ Ended → Ends old piece (i + 1) new
ends_at old at new piece i b reached short is none step ended = record {
  within = omega arith;
  takes = takes old new (take (i + 1) piece) []
      (let L : Position → Type 0 = λ q. Leads old (take (i + 1) piece) [] q in
      subst L step (leads_more old at piece i b reached short is none));
  ended = ended;
}

pub refuses_at : (old at new : Position) (piece : List ℕ) (i b : ℕ) (error : ChunkError) → Reached old piece i at
    → i < length piece → b ≡ get_or piece i 0 → left_of at ≡ 0 → after_byte at b ≡ new → new ≡ Refused error
    → Refuses old piece 0 error new
refuses_at old at new piece i b error reached short is none step refused =
    let led = leads_more old at piece i b reached short is none in
    let front = take (i + 1) piece in
    let back = drop (i + 1) piece in
    let whole = take-append-drop (i + 1) piece in
    let there : after old front ≡ Refused error = led.place ∙ step ∙ refused in
    record {
      used_none = refl;
      no_data = ap (given old) (sym whole) ∙ given-append old front back
          ∙ ap (λ d. d ++ given (after old front) back) led.out
          ∙ ap (λ q. given q back) there ∙ given-refused error back;
      fails = ap (after old) (sym whole) ∙ after-append old front back
          ∙ ap (λ q. after q back) there ∙ after-refused error back;
      refused = refused;
    }

pub reached_more : (old at new : Position) (piece : List ℕ) (i b : ℕ) → Reached old piece i at → i < length piece
    → b ≡ get_or piece i 0 → left_of at ≡ 0 → after_byte at b ≡ new → is_undecided new ≡ true
    → Reached old piece (i + 1) new
reached_more old at new piece i b reached short is none step going = record {
  leads = (let L : Position → Type 0 = λ q. Leads old (take (i + 1) piece) [] q in
      subst L step (leads_more old at piece i b reached short is none));
  undecided = going;
}

pub wants_more : (old at : Position) (piece : List ℕ) (i : ℕ) → Reached old piece i at → length piece ≤ i
    → WantsMore old piece (length piece) at
wants_more old at piece i reached all = record {
  used_all = refl;
  takes = takes old at piece []
      (let L : List ℕ → Type 0 = λ bytes. Leads old bytes [] at in
      subst L (take_all i piece all) reached.leads);
  undecided = reached.undecided;
}

pub refuses_before : (old : Position) (piece : List ℕ) (error : ChunkError) → old ≡ Refused error
    → Refuses old piece 0 error old
refuses_before old piece error is = record {
  used_none = refl;
  no_data = ap (λ q. given q piece) is ∙ given-refused error piece;
  fails = ap (λ q. after q piece) is ∙ after-refused error piece;
  refused = is;
}

-- ---- data

front_and_data : (piece : List ℕ) (i to : ℕ) → i ≤ to → to ≤ length piece → take i piece ++ slice_range piece i to ≡ take to piece
front_and_data piece i to low high =
    same_lists (take i piece ++ slice_range piece i to) (take to piece) (grind (arith, common_steps))
    (λ k d h. grind (arith, places))

data_led : (at : Position) (piece : List ℕ) (i to left : ℕ) → left_of at ≡ left → 0 < left → i < length piece
    → to ≡ i + min left (length piece - i)
    → Leads at (slice_range piece i to) (slice_range piece i to) (skipped at (to - i))
data_led (Line form read size sum) piece i to left is some short end = absurd (omega arith)
data_led (Content n sum) piece i to left is some short end =
    let data_length : length (slice_range piece i to) ≡ to - i = grind (arith, common_steps, length-take (to - i) (drop i piece), length-drop i piece) in
    let L : ℕ → Type 0 = λ k. Leads (Content n sum) (slice_range piece i to) (slice_range piece i to) (Content (n - k) sum) in
    subst L data_length (leads_data (slice_range piece i to) n sum (omega arith))
data_led (Closing good sum) piece i to left is some short end = absurd (omega arith)
data_led (Fields form read) piece i to left is some short end = absurd (omega arith)
data_led Ended piece i to left is some short end = absurd (omega arith)
data_led (Refused error) piece i to left is some short end = absurd (omega arith)

gives : (old at : Position) (piece : List ℕ) (i to left : ℕ) → Reached old piece i at → i < length piece
    → left_of at ≡ left → 0 < left → to ≡ i + min left (length piece - i)
    → GivesData old piece to i to (skipped at (to - i))
gives old at piece i to left reached short is some end = record {
  some = omega arith;
  within = omega arith;
  used_up_to = refl;
  takes = takes old (skipped at (to - i)) (take to piece) (slice_range piece i to)
      (let L : List ℕ → Type 0 = λ bytes. Leads old bytes (slice_range piece i to) (skipped at (to - i)) in
      subst L (front_and_data piece i to (omega arith) (omega arith))
      (leads_then old at (skipped at (to - i)) (take i piece) (slice_range piece i to) [] (slice_range piece i to)
      reached.leads (data_led at piece i to left is some short end)));
  begins = at;
  first_data = reached.leads;
  longest = omega arith;
}

pub gives_data : (old at new : Position) (piece : List ℕ) (i to left : ℕ) → Reached old piece i at → i < length piece
    → left_of at ≡ left → 0 < left → to ≡ i + min left (length piece - i) → new ≡ skipped at (to - i)
    → GivesData old piece to i to new
gives_data old at new piece i to left reached short is some end behind =
    let G : Position → Type 0 = λ q. GivesData old piece to i to q in
    subst G (sym behind) (gives old at piece i to left reached short is some end)

-- ---- at the end, and behind a fault

no_range : (piece : List ℕ) (i to : ℕ) → i < to → to ≤ length piece → slice_range piece i to ≡ [] → ⊥
no_range piece i to some within none =
    let size = ap length none in
    let cut = length-take (to - i) (drop i piece) in
    let left = length-drop i piece in
    omega arith

none_taken : (piece : List ℕ) (n : ℕ) → n ≤ length piece → take n piece ≡ [] → n ≡ 0
none_taken piece n within none =
    let size = ap length none in
    let cut = length-take n piece in
    omega arith

stays_by : (old new : Position) (piece : List ℕ) (used : ℕ) (step : ChunkStep) → Steps old piece used step new
    → Stays old (record { used = used; step = step }) new
stays_by (Line form read size sum) new piece used step h = tt
stays_by (Content left sum) new piece used step h = tt
stays_by (Closing good sum) new piece used step h = tt
stays_by (Fields form read) new piece used step h = tt
stays_by Ended new piece used (Data i to) h =
    absurd (no_range piece i to h.some h.within (ended_alone (take used piece) (slice_range piece i to) new h.takes.leads).1)
stays_by Ended new piece used More h =
    let place = h.takes.leads.place in
    let undecided = h.undecided in
    let ended = ap is_undecided (sym place ∙ after-ended piece) in
    absurd (cc)
stays_by Ended new piece used Done h =
    (none_taken piece used h.within (ended_alone (take used piece) [] new h.takes.leads).0, refl, h.ended)
stays_by Ended new piece used (Bad error) h =
    let fails = h.fails in
    let ended = after-ended piece in
    absurd (cc)
stays_by (Refused error) new piece used (Data i to) h =
    absurd (no_range piece i to h.some h.within (sym h.takes.leads.out ∙ given-refused error (take used piece)))
stays_by (Refused error) new piece used More h =
    let place = h.takes.leads.place in
    let undecided = h.undecided in
    let refused = ap is_undecided (sym place ∙ after-refused error piece) in
    absurd (cc)
stays_by (Refused error) new piece used Done h =
    let place = h.takes.leads.place in
    let ended = h.ended in
    let refused = after-refused error (take used piece) in
    absurd (cc)
stays_by (Refused error) new piece used (Bad other) h =
    let fails = h.fails in
    let refused = after-refused error piece in
    let same : other ≡ error = cc in
    (h.used_none, ap Bad same, h.refused ∙ ap Refused same)

pub stays : (old new : Position) (piece : List ℕ) (fed : ChunkFed) → Feeds old piece fed new → Stays old fed new
stays old new piece fed h = stays_by old new piece fed.used fed.step h

pub used_within : (old new : Position) (piece : List ℕ) (used : ℕ) (step : ChunkStep) → Steps old piece used step new → used ≤ length piece
used_within old new piece used (Data i to) h = (let used_up_to = h.used_up_to in let within = h.within in omega arith)
used_within old new piece used More h = (let used_all = h.used_all in omega arith)
used_within old new piece used Done h = h.within
used_within old new piece used (Bad error) h = (let used_none = h.used_none in omega arith)

-- ---- more is wanted exactly where nothing is decided

front_given : (old new : Position) (piece d : List ℕ) (used : ℕ) → Leads old (take used piece) d new
    → given old piece ≡ d ++ given new (drop used piece)
front_given old new piece d used led =
    ap (given old) (sym (take-append-drop used piece)) ∙ given-append old (take used piece) (drop used piece)
    ∙ ap (λ x. x ++ given (after old (take used piece)) (drop used piece)) led.out
    ∙ ap (λ q. d ++ given q (drop used piece)) led.place

front_after : (old new : Position) (piece d : List ℕ) (used : ℕ) → Leads old (take used piece) d new
    → after old piece ≡ after new (drop used piece)
front_after old new piece d used led =
    ap (after old) (sym (take-append-drop used piece)) ∙ after-append old (take used piece) (drop used piece)
    ∙ ap (λ q. after q (drop used piece)) led.place

wanted_by : (old new : Position) (piece : List ℕ) (used : ℕ) (step : ChunkStep) → Steps old piece used step new
    → DecidesNothing old piece → step ≡ More
wanted_by old new piece used (Data i to) h nothing =
    let all = front_given old new piece (slice_range piece i to) used h.takes.leads in
    let none = sym all ∙ nothing.no_data in
    let size = ap length none in
    let parts = length-append (slice_range piece i to) (given new (drop used piece)) in
    absurd (no_range piece i to h.some h.within (nil_from_length (slice_range piece i to) (omega arith)))
wanted_by old new piece used More h nothing = refl
wanted_by old new piece used Done h nothing =
    let place = front_after old new piece [] used h.takes.leads ∙ ap (λ q. after q (drop used piece)) h.ended ∙ after-ended (drop used piece) in
    let undecided = nothing.undecided in
    let ended = ap is_undecided place in
    absurd (cc)
wanted_by old new piece used (Bad error) h nothing =
    let undecided = nothing.undecided in
    let refused = ap is_undecided h.fails in
    absurd (cc)

nothing_by : (old new : Position) (piece : List ℕ) (used : ℕ) (step : ChunkStep) → Steps old piece used step new
    → step ≡ More → DecidesNothing old piece
nothing_by old new piece used (Data i to) h is = absurd (cc)
nothing_by old new piece used More h is = record {
  no_data = h.takes.leads.out;
  undecided = ap is_undecided h.takes.leads.place ∙ h.undecided;
}
nothing_by old new piece used Done h is = absurd (cc)
nothing_by old new piece used (Bad error) h is = absurd (cc)

pub wanted : (old new : Position) (piece : List ℕ) (fed : ChunkFed) → Feeds old piece fed new → (fed.step ≡ More) ↔ DecidesNothing old piece
wanted old new piece fed h = (nothing_by old new piece fed.used fed.step h, wanted_by old new piece fed.used fed.step h)
