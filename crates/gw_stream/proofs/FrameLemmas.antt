-- A piece that is framed behind a text, over plain lists.
use Rattle.std.proofs.Common.{◌≡◌, Bool, false, true, ℕ, ◌+◌, ◌-◌, ◌≤◌, List, ◌++◌, length, take, drop, sym, ap, subst, ◌∙◌, arith, length-append, length-drop, take-take}
use Rattle.std.proofs.lemmas.List.{drop_at, drop-append-le, drop-drop, drop-take, length-take-le, take-append-le}
use Rattle.std.proofs.lemmas.Slice.{take-put_mid_below}
use Rattle.gw_stream.specs.Outbox.{OutView, HasParts, HasRoom, begun_of, gap_of, out_view}
use Rattle.std.specs.Prelude.{slice_range}
use borrow.Rule.Slice.PartMut.{put_mid, post_of}
use lib.Seq.{take-add, paste, take-paste}

-- what stands in a buffer behind the front whose rest was written anew
behind_front : (xs ys : List ℕ) (done k s count : ℕ) → done ≤ length xs → s + count ≤ length ys
    → take count (drop (done + s) (put_mid done k xs ys)) ≡ take count (drop s ys)
behind_front xs ys done k s count within fits =
    let front = take done xs in
    let rest = ys ++ post_of done k xs in
    let long : length front ≡ done = length-take-le done xs within in
    let left : length (drop s ys) ≡ length ys - s = length-drop s ys in
    ap (take count) (sym (drop-drop s done (put_mid done k xs ys))
    ∙ ap (drop s) (drop_at front rest done long)
    ∙ drop-append-le s ys (post_of done k xs) (omega arith))
    ∙ take-append-le count (drop s ys) (post_of done k xs) (omega arith)

-- the data, seen in the rest of the buffer
data_behind : (xs : List ℕ) (done k at n : ℕ) → at + n ≤ k → slice_range (take k (drop done xs)) at (at + n) ≡ take n (drop (done + at) xs)
data_behind xs done k at n fits =
    let less : at + n - at ≡ n = omega arith in
    let room : k ≡ at + (k - at) = omega arith in
    ap (λ m. take m (drop at (take k (drop done xs)))) less
    ∙ ap (λ m. take n (drop at (take m (drop done xs)))) room
    ∙ ap (take n) (drop-take at (k - at) (drop done xs))
    ∙ take-take n (k - at) (drop at (drop done xs)) (omega arith)
    ∙ ap (take n) (drop-drop at done xs)

pub framed : (xs ys : List ℕ) (done k n s e : ℕ) → done ≤ length xs → k ≡ length xs - done → 6 + n ≤ k → s ≤ e → e ≤ length ys
    → (code : List ℕ → List ℕ) → slice_range ys s e ≡ code (slice_range (take k (drop done xs)) 6 (6 + n))
    → take (e - s) (drop (done + s) (put_mid done k xs ys)) ≡ code (take n (drop (done + 6) xs))
framed xs ys done k n s e within room fits ordered long code text =
    behind_front xs ys done k s (e - s) within (omega arith) ∙ text ∙ ap code (data_behind xs done k 6 n fits)

-- the chunk that follows the text at once
pub text_at_once : (buf front code : List ℕ) (done s m : ℕ) → s ≡ 0 → take done buf ≡ front → take (m - s) (drop (done + s) buf) ≡ code
    → take (done + m) buf ≡ front ++ code
text_at_once buf front code done s m none a b =
    let all : m ≡ m - s = omega (arith, none) in
    let here : done ≡ done + s = omega (arith, none) in
    take-add done m buf ∙ ap (λ l. l ++ take m (drop done buf)) a
    ∙ ap (λ l. front ++ l) (ap (λ n. take n (drop done buf)) all ∙ ap (λ n. take (m - s) (drop n buf)) here ∙ b)

-- and the one that was moved down to it
pub text_moved : (buf new front code : List ℕ) (done s m end count : ℕ) → end ≡ done + m → count ≡ m → new ≡ paste buf done (drop (done + s) buf) count
    → done + (s + m) ≤ length buf → take done buf ≡ front → take m (drop (done + s) buf) ≡ code → take end new ≡ front ++ code
text_moved buf new front code done s m end count up_to few is fits a b =
    let moved = take m (drop (done + s) buf) in
    ap (take end) is ∙ ap (λ n. take n (paste buf done (drop (done + s) buf) count)) up_to
    ∙ ap (λ n. take (done + m) (paste buf done (drop (done + s) buf) n)) few
    ∙ take-paste buf done (drop (done + s) buf) m (omega arith) (omega (arith, length-drop (done + s) buf))
    ∙ ap (λ l. l ++ moved) a ∙ ap (λ l. front ++ l) b

-- ---- data that is put behind that of the piece that has begun

pub long_as_before : (xs ys : List ℕ) (at k : ℕ) → at + k ≤ length xs → length ys ≡ k → length (put_mid at k xs ys) ≡ length xs
long_as_before xs ys at k within long =
    let front = length-take-le at xs (omega arith) in
    let behind = post_of at k xs in
    let left : length behind ≡ length xs - at - k = length-drop k (drop at xs) ∙ ap (λ n. n - k) (length-drop at xs) in
    length-append (take at xs) (ys ++ behind) ∙ ap (λ n. length (take at xs) + n) (length-append ys behind) ∙ omega (arith, front, long, left, within)

-- a part of a buffer, and what was put behind it
grown_by : (xs ys : List ℕ) (start count k n : ℕ) → start + count ≤ length xs → n ≤ length ys
    → begun_of (put_mid (start + count) k xs ys) start (count + n) ≡ begun_of xs start count ++ take n ys
grown_by xs ys start count k n within fits =
    let z = put_mid (start + count) k xs ys in
    let here : take count (drop start z) ≡ take count (drop start xs) =
    sym (drop-take start count z) ∙ ap (drop start) (take-put_mid_below (start + count) k xs ys (start + count) (omega arith) within) ∙ drop-take start count xs
    in
    let next : take n (drop (start + count) z) ≡ take n ys =
    ap (take n) (drop_at (take (start + count) xs) (ys ++ post_of (start + count) k xs) (start + count) (length-take-le (start + count) xs within))
    ∙ take-append-le n ys (post_of (start + count) k xs) fits
    in
    take-add count n (drop start z) ∙ ap (λ l. l ++ take n (drop count (drop start z))) here
    ∙ ap (λ l. take count (drop start xs) ++ take n l) (drop-drop count start z) ∙ ap (λ l. take count (drop start xs) ++ l) next

pub filled_view : (buf z ys : List ℕ) (done begun gap n k : ℕ) (chunks : Bool) → gap ≡ gap_of chunks → z ≡ put_mid (done + gap + begun) k buf ys
    → done + gap + begun + k ≤ length buf → length ys ≡ k → n ≤ length ys
    → out_view z done (begun + n) chunks ≡ record (out_view buf done begun chunks) { begun = begun_of buf (done + gap_of chunks) begun ++ take n ys }
filled_view buf z ys done begun gap n k chunks same is within long fits =
    let text : take done z ≡ take done buf = ap (take done) is ∙ take-put_mid_below (done + gap + begun) k buf ys done (omega arith) (omega arith) in
    let drawn : begun_of z (done + gap) (begun + n) ≡ begun_of buf (done + gap) begun ++ take n ys =
    ap (λ l. begun_of l (done + gap) (begun + n)) is ∙ grown_by buf ys (done + gap) begun k n (omega arith) fits
    in
    let data_is = subst (λ (g : ℕ). begun_of z (done + g) (begun + n) ≡ begun_of buf (done + g) begun ++ take n ys) same drawn in
    let size : length z ≡ length buf = ap length is ∙ long_as_before buf ys (done + gap + begun) k within long in
    λ i. record {
      text = text i;
      begun = data_is i;
      in_chunks = chunks;
      size = size i;
    }

-- the room that is left for the piece that has begun
gap_low : (chunks : Bool) → gap_of chunks ≤ 6
gap_low true = omega arith
gap_low false = omega arith

pub room_left : (buf : List ℕ) (before : OutView) (done begun gap : ℕ) (chunks : Bool) → out_view buf done begun chunks ≡ before → HasParts buf done begun chunks
    → gap ≡ gap_of chunks → HasRoom before → done + gap + 8192 ≤ length buf
room_left buf before done begun gap chunks seen parts same room =
    let here : HasRoom (out_view buf done begun chunks) = subst HasRoom (sym seen) room in
    let text : length (take done buf) ≡ done = length-take-le done buf (let w = parts.within in omega arith) in
    omega (arith, here, text, same, gap_low chunks)

pub mid_long : (xs : List ℕ) (at k : ℕ) → at + k ≤ length xs → length (take k (drop at xs)) ≡ k
mid_long xs at k within = length-take-le k (drop at xs) (omega (arith, length-drop at xs, within))

-- ---- bytes that are put in front of that data

pub head_fits : (buf : List ℕ) (before : OutView) (done begun gap : ℕ) (chunks : Bool) (head : List ℕ) → out_view buf done begun chunks ≡ before
    → HasParts buf done begun chunks → gap ≡ gap_of chunks → HasRoom (record before { text = before.text ++ head }) → done + (gap + (begun + length head)) ≤ length buf
head_fits buf before done begun gap chunks head seen parts same room =
    let here : HasRoom (record (out_view buf done begun chunks) { text = take done buf ++ head }) =
    subst (λ (v : OutView). HasRoom (record v { text = v.text ++ head })) (sym seen) room
    in
    let text : length (take done buf) ≡ done = length-take-le done buf (let w = parts.within in omega arith) in
    let most = parts.most in
    omega (arith, here, text, same, most, gap_low chunks, length-append (take done buf) head)

-- the front of a front
pub front_kept : (a b : List ℕ) (done at : ℕ) → done ≤ at → take at a ≡ take at b → take done a ≡ take done b
front_kept a b done at le same = sym (take-take done at a le) ∙ ap (take done) same ∙ take-take done at b le

pub behind_kept : (a b : List ℕ) (n gap begun : ℕ) → drop n a ≡ drop n b → begun_of a (n + gap) begun ≡ begun_of b (n + gap) begun
behind_kept a b n gap begun same = ap (take begun) (sym (drop-drop gap n a) ∙ ap (drop gap) same ∙ drop-drop gap n b)

pub head_put : (b0 b1 b2 : List ℕ) (done gap begun n long : ℕ) → n ≡ done + long → drop n b2 ≡ drop n b1
    → begun_of b1 (done + gap + long) begun ≡ begun_of b0 (done + gap) begun → begun_of b2 (n + gap) begun ≡ begun_of b0 (done + gap) begun
head_put b0 b1 b2 done gap begun n long count rest moved =
    let same : n + gap ≡ done + gap + long = omega (arith, count) in
    behind_kept b2 b1 n gap begun rest ∙ ap (λ m. begun_of b1 m begun) same ∙ moved
