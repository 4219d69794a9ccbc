-- How what came of a link goes on, and how writes go on.
use Rattle.std.proofs.Common.{ℕ, ◌≡◌, ◌||◌, ◌⊎◌, inl, inr, nat_lt, Bool, List, [], ◌∷◌, ◌++◌, length, refl, ap, sym, subst, ◌∙◌, arith, append_assoc}
use Rattle.std.proofs.lemmas.Bool.{lt-ltb}
use Rattle.std.proofs.lemmas.Grind.{flat_map-append}
use Rattle.std.proofs.lemmas.List.{nil_from_length}
use Rattle.std.proofs.lemmas.List.Elements.{All-append}
use Rattle.gw_wire.specs.declared.values.Act.{Act}
use Rattle.gw_wire.specs.Acts.{written_of, bytes_written}
use Rattle.gw_wire.specs.Stretch.{Acts, Then}
use Rattle.gw_body.specs.declared.place.Place.{Place}
use Rattle.gw_body.specs.Taken.{Takes}
use Rattle.gw_body.proofs.Facts.{takes_none, takes_then}
use Rattle.gw_stream.specs.declared.drawing.Pull.{Pull}
use Rattle.gw_stream.specs.declared.drawing.Pull.TheVariants as pulled
use Rattle.gw_stream.specs.declared.waits.Sent.{Sent}
use Rattle.gw_stream.specs.declared.waits.Sent.TheVariants as sent
use Rattle.gw_stream.specs.Drawing.{Draws, HearsPart, HearsWhile, IsPartFrom, Pulled, count_of, pull_bill}
use Rattle.gw_stream.specs.Relaying.{Came, Comes, came_bill}
use Rattle.gw_stream.specs.Waits.{IsWriteOf, Says, Writes, said_behind}

-- ---- reads behind reads

pub hears_then : (W : List ℕ → Type 0) (k : ℕ) (a b c : List ℕ) (x y : List Act) → HearsWhile W k a b x → HearsWhile W k b c y → HearsWhile W k a c (x ++ y)
hears_then W k a b c [] y h g = subst (λ (l : List ℕ). HearsWhile W k l c y) h g
hears_then W k a b c (act ∷ x) y h g = (h.0, h.1, h.2, hears_then W k (a ++ h.1) b c x y h.3 g)

part_behind : (old new : Place) (u d kept : List ℕ) → Takes old u d new → IsPartFrom new kept → IsPartFrom old (u ++ kept)
part_behind old new u d kept t p = record {
  among = d ++ p.among;
  behind = p.behind;
  takes = takes_then old new p.behind u kept d p.among t p.takes;
  inside = p.inside;
}

hears_from : (old new : Place) (k : ℕ) (u d kept bytes : List ℕ) (acts : List Act) → Takes old u d new → HearsWhile (IsPartFrom new) k kept bytes acts
    → HearsWhile (IsPartFrom old) k (u ++ kept) (u ++ bytes) acts
hears_from old new k u d kept bytes [] t h = ap (λ l. u ++ l) h
hears_from old new k u d kept bytes (act ∷ acts) t h = (
  part_behind old new u d kept t h.0,
  h.1,
  h.2,
  subst (λ (l : List ℕ). HearsWhile (IsPartFrom old) k l (u ++ bytes) acts) (sym (append_assoc u kept h.1)) (hears_from old new k u d (kept ++ h.1) bytes acts t h.3),
)

pub draws_none : (k : ℕ) (at : Place) (ahead : List ℕ) → Draws k at ahead [] at ahead []
draws_none k at ahead = record { used = []; takes = takes_none at; reads = refl }

pub draws_then : (k : ℕ) (old mid new : Place) (ahead between left d e : List ℕ) (x y : List Act) → Draws k old ahead d mid between x → Draws k mid between e new left y
    → Draws k old ahead (d ++ e) new left (x ++ y)
draws_then k old mid new ahead between left d e x y p q = record {
  used = p.used ++ q.used;
  takes = takes_then old mid new p.used q.used d e p.takes q.takes;
  reads = subst (λ (l : List ℕ). HearsPart k old ahead l (x ++ y)) (sym (append_assoc p.used q.used left))
      (hears_then (IsPartFrom old) k ahead (p.used ++ between) (p.used ++ (q.used ++ left)) x y p.reads
      (hears_from old mid k p.used d between (q.used ++ left) y p.takes q.reads));
}

behind_draws : (k : ℕ) (old mid new : Place) (ahead between left d e : List ℕ) (ending x y : List Act) → Draws k old ahead d mid between x
    → Then (Draws k mid between e new left) (Acts ending) y → Then (Draws k old ahead (d ++ e) new left) (Acts ending) (x ++ y)
behind_draws k old mid new ahead between left d e ending x y p t = (
  x ++ t.0,
  t.1,
  ap (λ l. x ++ l) t.2 ∙ sym (append_assoc x t.0 t.1),
  draws_then k old mid new ahead between left d e x t.0 p t.3,
  t.4,
)

pub comes_then : (k : ℕ) (old mid new : Place) (ahead between left d e : List ℕ) (came : Came) (x y : List Act) → Draws k old ahead d mid between x
    → Comes k mid between e new left came y → Comes k old ahead (d ++ e) new left came (x ++ y)
comes_then k old mid new ahead between left d e Came.Inside x y p q = draws_then k old mid new ahead between left d e x y p q
comes_then k old mid new ahead between left d e Came.Done x y p q = record {
  at = q.at;
  ending = q.ending;
  ends = q.ends;
  draws = behind_draws k old mid q.at ahead between left d e q.ending x y p q.draws;
}
comes_then k old mid new ahead between left d e (Came.Bad error) x y p q = record {
  at = q.at;
  front = q.front;
  left = q.left;
  draws = draws_then k old mid q.at ahead between (q.front ++ q.left) d e x y p q.draws;
  fails = q.fails;
  behind = q.behind;
}
comes_then k old mid new ahead between left d e (Came.Lost why) x y p q = record {
  at = q.at;
  inside = q.inside;
  short = q.short;
  draws = behind_draws k old mid q.at ahead between [] d e _ x y p q.draws;
  behind = q.behind;
}

-- ---- what one pull brought

abbrev pub came_of : Pull → Came
came_of (pulled.Data n) = Came.Inside
came_of pulled.More = Came.Inside
came_of pulled.Done = Came.Done
came_of (pulled.Bad error) = Came.Bad error
came_of (pulled.Lost why) = Came.Lost why

pub comes_of : (k : ℕ) (old new : Place) (ahead left d : List ℕ) (r : Pull) (acts : List Act) → length d ≡ count_of r → Pulled k old ahead new left d r acts
    → Comes k old ahead d new left (came_of r) acts
comes_of k old new ahead left d (pulled.Data n) acts size p = p.0
comes_of k old new ahead left d pulled.More acts size p =
    subst (λ (l : List ℕ). Comes k old ahead l new left Came.Inside acts) (sym (nil_from_length d size)) p.0
comes_of k old new ahead left d pulled.Done acts size p =
    subst (λ (l : List ℕ). Comes k old ahead l new left Came.Done acts) (sym (nil_from_length d size)) p.0
comes_of k old new ahead left d (pulled.Bad error) acts size p =
    subst (λ (l : List ℕ). Comes k old ahead l new left (Came.Bad error) acts) (sym (nil_from_length d size)) p.0
comes_of k old new ahead left d (pulled.Lost why) acts size p =
    subst (λ (l : List ℕ). Comes k old ahead l new left (Came.Lost why) acts) (sym (nil_from_length d size)) p.0

-- a pull behind which the body goes on
abbrev pub GoesOn : Pull → Type 0
GoesOn r = came_of r ≡ Came.Inside

pub goes_on : (r : Pull) → ((n : ℕ) × (r ≡ pulled.Data n)) ⊎ (r ≡ pulled.More) → GoesOn r
goes_on r (inl e) = ap came_of e.1
goes_on r (inr e) = ap came_of e

pub draws_of : (k : ℕ) (old new : Place) (ahead left d : List ℕ) (r : Pull) (acts : List Act) → length d ≡ count_of r → GoesOn r
    → Pulled k old ahead new left d r acts → Draws k old ahead d new left acts
draws_of k old new ahead left d (pulled.Data n) acts size on p = p.0
draws_of k old new ahead left d pulled.More acts size on p = subst (λ (l : List ℕ). Draws k old ahead l new left acts) (sym (nil_from_length d size)) p.0
draws_of k old new ahead left d pulled.Done acts size on p = absurd (let e : Came.Done ≡ Came.Inside = on in cc)
draws_of k old new ahead left d (pulled.Bad error) acts size on p = absurd (let e : Came.Bad error ≡ Came.Inside = on in cc)
draws_of k old new ahead left d (pulled.Lost why) acts size on p = absurd (let e : Came.Lost why ≡ Came.Inside = on in cc)

pub bill_of : (silence : _) (r : Pull) → pull_bill silence r ≡ came_bill silence (came_of r)
bill_of silence (pulled.Data n) = refl
bill_of silence pulled.More = refl
bill_of silence pulled.Done = refl
bill_of silence (pulled.Bad error) = refl
bill_of silence (pulled.Lost why) = refl

-- ---- writes behind writes

pub writes_then : (k : ℕ) (a b : List ℕ) (x y : List Act) → Writes k a x → Writes k b y → Writes k (a ++ b) (x ++ y)
writes_then k a b x y p q = record {
  only = All-append (IsWriteOf k) x y p.only q.only;
  all = flat_map-append (written_of k) x y ∙ ap (λ l. l ++ bytes_written k y) p.all ∙ ap (λ l. a ++ l) q.all;
}

pub some_of : (a b : List ℕ) → (nat_lt 0 (length a) || nat_lt 0 (length b)) ≡ nat_lt 0 (length (a ++ b))
some_of [] b = refl
some_of (c ∷ a) b =
    ap (λ s. s || nat_lt 0 (length b)) (lt-ltb 0 (length (c ∷ a)) (omega arith)) ∙ sym (lt-ltb 0 (length ((c ∷ a) ++ b)) (omega arith))

pub says_then : (k : ℕ) (a b : List ℕ) (said : Sent) (some : Bool) (x y : List Act) → some ≡ nat_lt 0 (length a) → Writes k a x → Says k b said y
    → Says k (a ++ b) (said_behind some said) (x ++ y)
says_then k a b sent.All some x y is p q = writes_then k a b x y p q
says_then k a b (sent.Failed part) some x y is p q =
    let t = q.4 in (
      a ++ q.0,
      q.1,
      ap (λ l. a ++ l) q.2 ∙ sym (append_assoc a q.0 q.1),
      ap (λ s. s || part) is ∙ ap (λ s. nat_lt 0 (length a) || s) q.3 ∙ some_of a q.0,
      (x ++ t.0, t.1, ap (λ l. x ++ l) t.2 ∙ sym (append_assoc x t.0 t.1), writes_then k a q.0 x t.0 p t.3, t.4),
    )
says_then k a b (sent.Stopped why) some x y is p q = (
  a ++ q.0,
  q.1,
  ap (λ l. a ++ l) q.2 ∙ sym (append_assoc a q.0 q.1),
  writes_then k a q.0 x y p q.3,
)
