-- A relay that goes on, over plain variables.
use Rattle.std.proofs.Common.{ℕ, ◌≡◌, ◌<◌, ◌≤◌, ◌||◌, nat_lt, Bool, true, false, List, [], ◌∷◌, ◌++◌, length, All, Option, refl, ap, sym, subst, ◌∙◌, arith, append-nil, append_assoc, inl, inr}
use Rattle.std.proofs.lemmas.List.Elements.{All-nil, All-push}
use Rattle.std.specs.List.{concat, flat_map}
use Rattle.gw_wire.specs.declared.values.Act.{Act}
use Rattle.gw_wire.specs.Link.{LinkView}
use Rattle.gw_wire.specs.Shuffle.{Shuffle}
use Rattle.gw_wire.specs.Stretch.{Then}
use Rattle.gw_wire.specs.Wire.{WireView}
use Rattle.gw_wire.proofs.Facts.{link_same}
use Rattle.gw_chunk.specs.Chunked.{piece_limit}
use Rattle.gw_body.specs.declared.place.Place.{Place}
use Rattle.gw_account.specs.Work.{Bill, free}
use Rattle.gw_account.proofs.Facts.{free_both, shuffle_one, shuffle_other}
use Rattle.gw_stream.specs.declared.drawing.Pull.{Pull}
use Rattle.gw_stream.specs.declared.waits.Sent.TheVariants as sent
use Rattle.gw_stream.specs.Drawing.{Draws, Pulled}
use Rattle.gw_stream.specs.Filling.{FillStep, Passing, passing}
use Rattle.gw_stream.specs.Guard.{GuardView}
use Rattle.gw_stream.specs.Outbox.{OutView, HasRoom, piece_of, rest_of}
use Rattle.gw_stream.specs.Relaying.{Interleaved, came_bill}
use Rattle.gw_stream.specs.RelaySteps.{ClosedWhole, RoomStep, loaded}
use Rattle.gw_stream.specs.Waits.{Side, side, Waited, Writes}
use Rattle.gw_stream.proofs.ComesLemmas.{GoesOn, bill_of, draws_none, draws_of, draws_then, some_of, writes_then}
use Rattle.gw_stream.proofs.LinkLemmas.{waited_map, waited_same, waited_then}
use Rattle.gw_stream.proofs.SendLemmas.{writes_none}
use Rattle.gw_stream.proofs.TextLemmas.{IsWhole, pieces_push, rest_some, texts_push}

-- so far this data was given by the source, which made these pieces, and this was written to the target
pub record Relaying (old new : Side) (source target : ℕ) (before now : Passing) (some : Bool) : Type 0 where
  pub given : List ℕ
  pub pieces : List (List ℕ)
  pub wrote : List ℕ
  pub data_is : before.out.begun ++ given ≡ concat pieces ++ now.out.begun
  pub whole : All IsWhole pieces
  pub text_is : before.out.text ++ flat_map (piece_of before.out.in_chunks) pieces ≡ wrote ++ now.out.text
  pub chunks : now.out.in_chunks ≡ before.out.in_chunks
  pub size : now.out.size ≡ before.out.size
  pub some_is : some ≡ nat_lt 0 (length wrote)
  pub waited : Waited old new free (Interleaved (Writes target wrote) (Draws source before.place before.ahead given now.place now.ahead))

-- ---- either side goes on

pub one_more : (P Q R S : List Act → Type 0) → ((x y : List Act) → P x → R y → S (x ++ y)) → (l : List Act) → Then (Interleaved P Q) R l → Interleaved S Q l
one_more P Q R S f l t =
    let i = t.3 in
    (i.0 ++ t.1, i.1, subst (λ (m : List Act). Shuffle (i.0 ++ t.1) i.1 m) (sym t.2) (shuffle_one i.0 i.1 t.0 t.1 i.2), f i.0 t.1 i.3 t.4, i.4)

pub other_more : (P Q R S : List Act → Type 0) → ((x y : List Act) → Q x → R y → S (x ++ y)) → (l : List Act) → Then (Interleaved P Q) R l → Interleaved P S l
other_more P Q R S f l t =
    let i = t.3 in
    (i.0, i.1 ++ t.1, subst (λ (m : List Act). Shuffle i.0 (i.1 ++ t.1) m) (sym t.2) (shuffle_other i.0 i.1 t.0 t.1 i.2), i.3, f i.1 t.1 i.4 t.4)

-- ---- how it begins

nothing_yet : (k j : ℕ) (at : Place) (ahead : List ℕ) (l : List Act) → l ≡ [] → Interleaved (Writes k []) (Draws j at ahead [] at ahead) l
nothing_yet k j at ahead l none =
    ([], [], subst (λ (m : List Act). Shuffle [] [] m) (sym none) (refl, refl), writes_none k, draws_none j at ahead)

pub relaying_begins : (w : WireView) (g : GuardView) (source target : ℕ) (at : Place) (ahead : List ℕ) (out : OutView) → w.aged ≡ false → g.last ≤ w.moment
    → Relaying (side w g) (side w g) source target (passing at ahead out) (passing at ahead out) false
relaying_begins w g source target at ahead out fresh le = record {
  given = [];
  pieces = [];
  wrote = [];
  data_is = append-nil out.begun;
  whole = All-nil IsWhole;
  text_is = append-nil out.text;
  chunks = refl;
  size = refl;
  some_is = refl;
  waited = waited_map (waited_same w g fresh le) (nothing_yet target source at ahead);
}

-- ---- a whole piece is closed

piece_closed : (head fm wrote text piece : List ℕ) (f : List ℕ → List ℕ) → head ++ fm ≡ wrote ++ text → head ++ (fm ++ f piece) ≡ wrote ++ (text ++ f piece)
piece_closed head fm wrote text piece f is = sym (append_assoc head fm (f piece)) ∙ ap (λ l. l ++ f piece) is ∙ append_assoc wrote text (f piece)

relaying_piece : (a b : Side) (s t : ℕ) (before : Passing) (at : Place) (ahead : List ℕ) (out : OutView) (some : Bool) → length out.begun ≡ piece_limit
    → Relaying a b s t before (passing at ahead out) some
    → Relaying a b s t before (passing at ahead (record out { text = out.text ++ rest_of out.in_chunks out.begun; begun = [] })) some
relaying_piece a b s t before at ahead out some long r =
    let f = piece_of before.out.in_chunks in
    let same : rest_of out.in_chunks out.begun ≡ f out.begun = rest_some out.in_chunks out.begun long ∙ ap (λ (c : Bool). piece_of c out.begun) r.chunks in
    record {
      given = r.given;
      pieces = r.pieces ++ out.begun ∷ [];
      wrote = r.wrote;
      data_is = r.data_is ∙ sym (append-nil (concat (r.pieces ++ out.begun ∷ [])) ∙ pieces_push r.pieces out.begun);
      whole = All-push IsWhole r.pieces out.begun r.whole long;
      text_is = ap (λ l. before.out.text ++ l) (texts_push f r.pieces out.begun)
          ∙ piece_closed before.out.text (flat_map f r.pieces) r.wrote out.text out.begun f r.text_is ∙ ap (λ l. r.wrote ++ (out.text ++ l)) (sym same);
      chunks = r.chunks;
      size = r.size;
      some_is = r.some_is;
      waited = r.waited;
    }

pub relaying_closed : (a b : Side) (s t : ℕ) (before : Passing) (at : Place) (ahead : List ℕ) (out after : OutView) (some : Bool) → ClosedWhole out after
    → Relaying a b s t before (passing at ahead out) some
    → Relaying a b s t before (passing at ahead after) some × (length after.begun < piece_limit) × (after.size ≡ out.size)
relaying_closed a b s t before at ahead out after some (inl c) r =
    subst (λ (o : OutView). Relaying a b s t before (passing at ahead o) some × (length o.begun < piece_limit) × (o.size ≡ out.size)) (sym c.1) (r, c.0, refl)
relaying_closed a b s t before at ahead out after some (inr c) r =
    subst (λ (o : OutView). Relaying a b s t before (passing at ahead o) some × (length o.begun < piece_limit) × (o.size ≡ out.size)) (sym c.1)
    (relaying_piece a b s t before at ahead out some c.0 r, omega arith, refl)

-- ---- text is written

writes_at : (k j : ℕ) (bytes : List ℕ) (acts : List Act) → j ≡ k → Writes j bytes acts → Writes k bytes acts
writes_at k j bytes acts same w = subst (λ (n : ℕ). Writes n bytes acts) same w

some_more : (some : Bool) (a b : List ℕ) → some ≡ nat_lt 0 (length a) → (some || nat_lt 0 (length b)) ≡ nat_lt 0 (length (a ++ b))
some_more some a b is = ap (λ s. s || nat_lt 0 (length b)) is ∙ some_of a b

pub relaying_wrote : (a b c : Side) (s t : ℕ) (from to : LinkView) (before : Passing) (at : Place) (ahead : List ℕ) (out after : OutView) (some now : Bool) (silence : Option ℕ)
    → from.number ≡ t → Relaying a b s t before (passing at ahead out) some
    → RoomStep b c from to (loaded out some) (loaded after now) silence sent.All
    → Relaying a c s t before (passing at ahead after) now × HasRoom after × (after.begun ≡ out.begun)
relaying_wrote a b c s t from to before at ahead out after some now silence same r m =
    let D = Draws s before.place before.ahead r.given at ahead in
    let joined = waited_then r.waited m.sends.waited in
    let more = waited_map joined (one_more (Writes t r.wrote) D (Writes from.number m.text) (Writes t (r.wrote ++ m.text))
    (λ x y p q. writes_then t r.wrote m.text x y p (writes_at t from.number m.text y same q))) in (
      record {
        given = r.given;
        pieces = r.pieces;
        wrote = r.wrote ++ m.text;
        data_is = r.data_is ∙ ap (λ (o : OutView). concat r.pieces ++ o.begun) (sym m.rest);
        whole = r.whole;
        text_is = r.text_is ∙ ap (λ l. r.wrote ++ l) m.text_is ∙ sym (append_assoc r.wrote m.text after.text);
        chunks = ap (λ (o : OutView). o.in_chunks) m.rest ∙ r.chunks;
        size = ap (λ (o : OutView). o.size) m.rest ∙ r.size;
        some_is = m.clears.1 ∙ some_more some r.wrote m.text r.some_is;
        waited = subst (λ (u : Bill). Waited a c u (Interleaved (Writes t (r.wrote ++ m.text)) D)) (free_both free) more;
      },
      m.clears.0,
      ap (λ (o : OutView). o.begun) m.rest,
    )

-- ---- data comes

pub relaying_filled : (a b c : Side) (s t link : ℕ) (before : Passing) (at next : Place) (ahead left : List ℕ) (out after : OutView) (some : Bool) (silence : Option ℕ) (r : Pull)
    → link ≡ s → GoesOn r → Relaying a b s t before (passing at ahead out) some
    → FillStep b c link (passing at ahead out) (passing next left after) silence r
    → Relaying a c s t before (passing next left after) some × (after.text ≡ out.text) × (after.size ≡ out.size)
relaying_filled a b c s t link before at next ahead left out after some silence p same on r f =
    let W = Writes t r.wrote in
    let D = Draws s before.place before.ahead (r.given ++ f.given) next left in
    let F : Waited b c free (Pulled s at ahead next left f.given p) =
    subst (λ (n : ℕ). Waited b c free (Pulled n at ahead next left f.given p)) same
    (subst (λ (u : Bill). Waited b c u (Pulled link at ahead next left f.given p)) (bill_of silence p ∙ ap (came_bill silence) on) f.waited)
    in
    let more = waited_map (waited_then r.waited F) (other_more W (Draws s before.place before.ahead r.given at ahead) (Pulled s at ahead next left f.given p) D
    (λ x y d q. draws_then s before.place at next before.ahead ahead left r.given f.given x y d (draws_of s at next ahead left f.given p y f.count on q))) in (
      record {
        given = r.given ++ f.given;
        pieces = r.pieces;
        wrote = r.wrote;
        data_is = sym (append_assoc before.out.begun r.given f.given) ∙ ap (λ l. l ++ f.given) r.data_is ∙ append_assoc (concat r.pieces) out.begun f.given
            ∙ ap (λ (o : OutView). concat r.pieces ++ o.begun) (sym f.out);
        whole = r.whole;
        text_is = r.text_is ∙ ap (λ (o : OutView). r.wrote ++ o.text) (sym f.out);
        chunks = ap (λ (o : OutView). o.in_chunks) f.out ∙ r.chunks;
        size = ap (λ (o : OutView). o.size) f.out ∙ r.size;
        some_is = r.some_is;
        waited = subst (λ (u : Bill). Waited a c u (Interleaved W D)) (free_both free) more;
      },
      ap (λ (o : OutView). o.text) f.out,
      ap (λ (o : OutView). o.size) f.out,
    )

-- ---- nothing is to be written

no_more : (some : Bool) → some ≡ (some || false)
no_more true = refl
no_more false = refl

pub room_already : (w : WireView) (g : GuardView) (link : LinkView) (out : OutView) (some : Bool) (silence : Option ℕ) → w.aged ≡ false → g.last ≤ w.moment → HasRoom out
    → RoomStep (side w g) (side w g) link link (loaded out some) (loaded out some) silence sent.All
room_already w g link out some silence fresh le room = record {
  text = [];
  text_is = refl;
  rest = refl;
  clears = (room, no_more some);
  sends = record {
    waited = waited_map (waited_same w g fresh le) (λ acts none. subst (Writes link.number []) (sym none) (writes_none link.number));
    link = link_same link;
    cause = tt;
  };
}
