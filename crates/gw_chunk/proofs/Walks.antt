-- How bytes lead from one position to another, and one stretch of bytes after another.
use Rattle.std.proofs.Common.{◌≡◌, ℕ, suc, ◌-◌, ◌<◌, ◌≤◌, List, [], ◌∷◌, ◌++◌, length, refl, sym, ap, ◌∙◌, subst, arith, false}
use Rattle.std.proofs.lemmas.List.{append-nil, append_assoc, append_cancel_left}
use Rattle.std.proofs.lemmas.Bool.{ne_eqb}
use Rattle.std.specs.Prelude.{◌==◌, if◌then◌else◌}
use Rattle.gw_chunk.specs.declared.error.ChunkError.{ChunkError}
use Rattle.gw_chunk.specs.declared.position.Position.{Position}
use Rattle.gw_chunk.specs.declared.position.Position.TheVariants.{Content, Closing, Ended, Refused}
use Rattle.gw_chunk.specs.Fed.{Takes}
use Rattle.gw_chunk.specs.Position.{after_byte, given_byte, is_ended, after, given, IsInside, Leads, Fails}

pub after-append : (p : Position) (a b : List ℕ) → after p (a ++ b) ≡ after (after p a) b
after-append p [] b = refl
after-append p (x ∷ a) b = after-append (after_byte p x) a b

pub given-append : (p : Position) (a b : List ℕ) → given p (a ++ b) ≡ given p a ++ given (after p a) b
given-append p [] b = refl
given-append p (x ∷ a) b =
    ap (λ t. given_byte p x ++ t) (given-append (after_byte p x) a b)
    ∙ sym (append_assoc (given_byte p x) (given (after_byte p x) a) (given (after p (x ∷ a)) b))

inside-append : (p : Position) (a b : List ℕ) → IsInside p a → IsInside (after p a) b → IsInside p (a ++ b)
inside-append p [] b h k = k
inside-append p (x ∷ a) b h k = (h.0, inside-append (after_byte p x) a b h.1 k)

inside_front : (p : Position) (a b : List ℕ) → IsInside p (a ++ b) → IsInside p a
inside_front p [] b h = tt
inside_front p (x ∷ a) b h = (h.0, inside_front (after_byte p x) a b h.1)

pub inside_back : (p : Position) (a b : List ℕ) → IsInside p (a ++ b) → IsInside (after p a) b
inside_back p [] b h = h
inside_back p (x ∷ a) b h = inside_back (after_byte p x) a b h.1

-- ---- stretches

pub leads_none : (p : Position) → Leads p [] [] p
leads_none p = record { place = refl; out = refl; inside = tt }

pub leads_then : (p q r : Position) (a b d e : List ℕ) → Leads p a d q → Leads q b e r → Leads p (a ++ b) (d ++ e) r
leads_then p q r a b d e h k =
    let I : Position → Type 0 = λ s. IsInside s b in
    record {
      place = cc (after-append p a b);
      out = cc (given-append p a b);
      inside = inside-append p a b h.inside (subst I (sym h.place) k.inside);
    }

pub leads_back : (p q r : Position) (a b d e : List ℕ) → Leads p a d q → Leads p (a ++ b) (d ++ e) r → Leads q b e r
leads_back p q r a b d e h k =
    let I : Position → Type 0 = λ s. IsInside s b in
    record {
      place = cc (after-append p a b);
      out = append_cancel_left d (given q b) e (cc (given-append p a b));
      inside = subst I h.place (inside_back p a b k.inside);
    }

pub leads_one : (p q : Position) (b : ℕ) (d : List ℕ) → is_ended p ≡ false → after_byte p b ≡ q → given_byte p b ≡ d
    → Leads p (b ∷ []) d q
leads_one p q b d going step out = record { place = step; out = append-nil (given_byte p b) ∙ out; inside = (going, tt) }

pub leads_cons : (p q r : Position) (b : ℕ) (bytes d e : List ℕ) → is_ended p ≡ false → after_byte p b ≡ q
    → given_byte p b ≡ d → Leads q bytes e r → Leads p (b ∷ bytes) (d ++ e) r
leads_cons p q r b bytes d e going step out more =
    leads_then p q r (b ∷ []) bytes d e (leads_one p q b d going step out) more

pub takes : (p q : Position) (a d : List ℕ) → Leads p a d q → Takes p a d q
takes p q a d h = record {
  leads = h;
  has = λ rest e. (leads_then p q Ended a rest d e h, leads_back p q Ended a rest d e h);
  fails = λ rest error. (λ k. cc (after-append p a rest), λ k. cc (after-append p a rest));
}

-- ---- ends and faults

pub after-refused : (error : ChunkError) (bytes : List ℕ) → after (Refused error) bytes ≡ Refused error
after-refused error [] = refl
after-refused error (b ∷ bytes) = after-refused error bytes

pub given-refused : (error : ChunkError) (bytes : List ℕ) → given (Refused error) bytes ≡ []
given-refused error [] = refl
given-refused error (b ∷ bytes) = given-refused error bytes

pub after-ended : (bytes : List ℕ) → after Ended bytes ≡ Ended
after-ended [] = refl
after-ended (b ∷ bytes) = after-ended bytes

pub ended_alone : (bytes d : List ℕ) (q : Position) → Leads Ended bytes d q → (bytes ≡ []) × (d ≡ [])
ended_alone [] d q h = (refl, sym h.out)
ended_alone (b ∷ bytes) d q h = absurd (cc h.inside.0)

-- a fault stays, whatever follows
pub fails_on : (p : Position) (a b : List ℕ) (error : ChunkError) → Fails p a error → Fails p (a ++ b) error
fails_on p a b error h = after-append p a b ∙ ap (λ q. after q b) h ∙ after-refused error b

-- ---- data

pub content_step : (left sum b : ℕ) → 0 < left → after_byte (Content left sum) b ≡ Content (left - 1) sum
content_step left sum b some = ap (λ v. if v then Closing (b == 13) sum else Content (left - 1) sum) (ne_eqb left 0 (omega arith))

pub content_given : (left sum b : ℕ) → 0 < left → given_byte (Content left sum) b ≡ b ∷ []
content_given left sum b some = ap (λ v. if v then [] else b ∷ []) (ne_eqb left 0 (omega arith))

pub leads_data : (bytes : List ℕ) (left sum : ℕ) → length bytes ≤ left
    → Leads (Content left sum) bytes bytes (Content (left - length bytes) sum)
leads_data [] left sum h =
    let same : left - 0 ≡ left = omega arith in
    record { place = ap (λ n. Content n sum) (sym same); out = refl; inside = tt }
leads_data (b ∷ bytes) left sum h =
    let Q : ℕ → Type 0 = λ n. Leads (Content left sum) (b ∷ bytes) (b ∷ bytes) (Content n sum) in
    let less : left - 1 - length bytes ≡ left - suc (length bytes) = omega arith in
    subst Q less
    (leads_cons (Content left sum) (Content (left - 1) sum) (Content (left - 1 - length bytes) sum) b bytes (b ∷ []) bytes refl
    (content_step left sum b (omega arith)) (content_given left sum b (omega arith))
    (leads_data bytes (left - 1) sum (omega arith)))
