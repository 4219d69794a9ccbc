-- Each of two rows that interleave is found again by its link's number.
use Rattle.std.proofs.Common.{ℕ, ◌≡◌, nat_eq, true, false, List, [], ◌∷◌, ◌++◌, refl, ap, sym, subst, ◌∙◌, inl, inr}
use Rattle.std.proofs.lemmas.Bool.{eqb-true, ne_eqb}
use Rattle.std.specs.List.{All}
use Rattle.std.proofs.lemmas.List.Elements.{All-nil, All-cons, All-head, All-tail}
use Rattle.gw_wire.specs.declared.values.Act.{Act}
use Rattle.gw_wire.specs.declared.values.Act.TheVariants.{Accepted, Dialed, DialFailed, Read, End, Wrote, ReadFailed, WriteFailed, Closed, AcceptFailed, Ended}
use Rattle.gw_wire.specs.Acts.{is_of, read_of, written_of, bytes_read, bytes_written}
use Rattle.gw_wire.specs.Shuffle.{Shuffle, Ours, Others, HasSide, SidesAreFound, SecondSidesAreFound, OtherLinksDiffer}

unread : (k : ℕ) (act : Act) → is_of k act ≡ false → read_of k act ≡ []
unread k (Read link bytes) h = rw h refl
unread k _ h = refl

unwritten : (k : ℕ) (act : Act) → is_of k act ≡ false → written_of k act ≡ []
unwritten k (Wrote link bytes) h = rw h refl
unwritten k _ h = refl

-- one more act of the link in front, and one more of another
ours_first : (k : ℕ) (act : Act) (row acts : List Act) → is_of k act ≡ true → HasSide k row acts → HasSide k (act ∷ row) (act ∷ acts)
ours_first k act row acts is h = record {
  own = rw is (ap (λ l. act ∷ l) h.own);
  read = ap (λ l. read_of k act ++ l) h.read;
  written = ap (λ l. written_of k act ++ l) h.written;
}

other_first : (k : ℕ) (act : Act) (row acts : List Act) → is_of k act ≡ false → HasSide k row acts → HasSide k row (act ∷ acts)
other_first k act row acts is h = record {
  own = rw is h.own;
  read = ap (λ l. l ++ bytes_read k acts) (unread k act is) ∙ h.read;
  written = ap (λ l. l ++ bytes_written k acts) (unwritten k act is) ∙ h.written;
}

side_along : (k : ℕ) (row same acts : List Act) → row ≡ same → HasSide k same acts → HasSide k row acts
side_along k row same acts e h = subst (λ (r : List Act). HasSide k r acts) (sym e) h

pub first_side : SidesAreFound
first_side k one other [] ours others s = side_along k one [] [] s.0 (record { own = refl; read = refl; written = refl })
first_side k one other (act ∷ acts) ours others (inl s) =
    let P : Act → Type 0 = λ x. is_of k x ≡ true in
    let row : All (λ act. is_of k act ≡ true) (act ∷ s.0) = subst (λ (r : List Act). Ours k r) s.1 ours in
    side_along k one (act ∷ s.0) (act ∷ acts) s.1
    (ours_first k act s.0 acts (All-head P act s.0 row) (first_side k s.0 other acts (All-tail P act s.0 row) others s.2))
first_side k one other (act ∷ acts) ours others (inr s) =
    let P : Act → Type 0 = λ x. is_of k x ≡ false in
    let row : All (λ act. is_of k act ≡ false) (act ∷ s.0) = subst (λ (r : List Act). Others k r) s.1 others in
    other_first k act one acts (All-head P act s.0 row) (first_side k one s.0 acts ours (All-tail P act s.0 row) s.2)

-- the rows of a shuffle may change places
pub shuffle_turned : (one other acts : List Act) → Shuffle one other acts → Shuffle other one acts
shuffle_turned one other [] s = (s.1, s.0)
shuffle_turned one other (act ∷ acts) (inl s) = inr (s.0, s.1, shuffle_turned s.0 other acts s.2)
shuffle_turned one other (act ∷ acts) (inr s) = inl (s.0, s.1, shuffle_turned one s.0 acts s.2)

pub second_side : SecondSidesAreFound
second_side k one other acts others ours s = first_side k other one acts ours others (shuffle_turned one other acts s)

apart : (link another number : ℕ) → (link ≡ another → ⊥) → nat_eq number another ≡ true → nat_eq number link ≡ false
apart link another number n is = ne_eqb number link (λ e. n (sym e ∙ eqb-true number another is))

differs : (link another : ℕ) (act : Act) → (link ≡ another → ⊥) → is_of another act ≡ true → is_of link act ≡ false
differs link another (Accepted k peer) n is = apart link another k n is
differs link another (Dialed host address k) n is = apart link another k n is
differs link another (DialFailed host address) n is = refl
differs link another (Read k bytes) n is = apart link another k n is
differs link another (End k) n is = apart link another k n is
differs link another (Wrote k bytes) n is = apart link another k n is
differs link another (ReadFailed k) n is = apart link another k n is
differs link another (WriteFailed k) n is = apart link another k n is
differs link another (Closed k) n is = apart link another k n is
differs link another AcceptFailed n is = refl
differs link another Ended n is = refl

pub other_links : OtherLinksDiffer
other_links link another [] n ours = All-nil _
other_links link another (act ∷ acts) n ours =
    let P : Act → Type 0 = λ x. is_of another x ≡ true in
    All-cons (λ x. is_of link x ≡ false) act acts (differs link another act n (All-head P act acts ours)) (other_links link another acts n (All-tail P act acts ours))
